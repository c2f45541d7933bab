use Rattle.tests_histories.proofs.Random31To40 as lemmas
use Rattle.tests_histories.proofs.random.histories_31_to_40_are_performed.Goals as goal

pub returns : goal.returns
returns c = record {
  random31 = lemmas.random31_performed;
  random32 = lemmas.random32_performed;
  random33 = lemmas.random33_performed;
  random34 = lemmas.random34_performed;
  random35 = lemmas.random35_performed;
  random36 = lemmas.random36_performed;
  random37 = lemmas.random37_performed;
  random38 = lemmas.random38_performed;
  random39 = lemmas.random39_performed;
  random40 = lemmas.random40_performed;
}
