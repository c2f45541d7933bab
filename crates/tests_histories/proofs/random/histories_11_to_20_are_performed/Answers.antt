use Rattle.tests_histories.proofs.Random11To20 as lemmas
use Rattle.tests_histories.proofs.random.histories_11_to_20_are_performed.Goals as goal

pub returns : goal.returns
returns c = record {
  random11 = lemmas.random11_performed;
  random12 = lemmas.random12_performed;
  random13 = lemmas.random13_performed;
  random14 = lemmas.random14_performed;
  random15 = lemmas.random15_performed;
  random16 = lemmas.random16_performed;
  random17 = lemmas.random17_performed;
  random18 = lemmas.random18_performed;
  random19 = lemmas.random19_performed;
  random20 = lemmas.random20_performed;
}
