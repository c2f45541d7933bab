use Rattle.tests_epochs.proofs.Random1To10 as lemmas
use Rattle.tests_epochs.proofs.right.all_is_due_in_1_to_10.Goals as goal

pub returns : goal.returns
returns c = record {
  random1 = lemmas.random1_due;
  random2 = lemmas.random2_due;
  random3 = lemmas.random3_due;
  random4 = lemmas.random4_due;
  random5 = lemmas.random5_due;
  random6 = lemmas.random6_due;
  random7 = lemmas.random7_due;
  random8 = lemmas.random8_due;
  random9 = lemmas.random9_due;
  random10 = lemmas.random10_due;
}
