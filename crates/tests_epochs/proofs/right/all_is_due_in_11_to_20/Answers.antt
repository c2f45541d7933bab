use Rattle.tests_epochs.proofs.Random11To20 as lemmas
use Rattle.tests_epochs.proofs.right.all_is_due_in_11_to_20.Goals as goal

pub returns : goal.returns
returns c = record {
  random11 = lemmas.random11_due;
  random12 = lemmas.random12_due;
  random13 = lemmas.random13_due;
  random14 = lemmas.random14_due;
  random15 = lemmas.random15_due;
  random16 = lemmas.random16_due;
  random17 = lemmas.random17_due;
  random18 = lemmas.random18_due;
  random19 = lemmas.random19_due;
  random20 = lemmas.random20_due;
}
