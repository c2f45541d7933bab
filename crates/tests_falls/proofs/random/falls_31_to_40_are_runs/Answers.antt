use Rattle.tests_falls.proofs.Random31To40Runs as lemmas
use Rattle.tests_falls.proofs.random.falls_31_to_40_are_runs.Goals as goal

pub returns : goal.returns
returns c = record {
  random31 = lemmas.random31_computed;
  random32 = lemmas.random32_computed;
  random33 = lemmas.random33_computed;
  random34 = lemmas.random34_computed;
  random35 = lemmas.random35_computed;
  random36 = lemmas.random36_computed;
  random37 = lemmas.random37_computed;
  random38 = lemmas.random38_computed;
  random39 = lemmas.random39_computed;
  random40 = lemmas.random40_computed;
}
