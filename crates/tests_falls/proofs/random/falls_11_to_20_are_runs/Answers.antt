use Rattle.tests_falls.proofs.Random11To20Runs as lemmas
use Rattle.tests_falls.proofs.random.falls_11_to_20_are_runs.Goals as goal

pub returns : goal.returns
returns c = record {
  random11 = lemmas.random11_computed;
  random12 = lemmas.random12_computed;
  random13 = lemmas.random13_computed;
  random14 = lemmas.random14_computed;
  random15 = lemmas.random15_computed;
  random16 = lemmas.random16_computed;
  random17 = lemmas.random17_computed;
  random18 = lemmas.random18_computed;
  random19 = lemmas.random19_computed;
  random20 = lemmas.random20_computed;
}
