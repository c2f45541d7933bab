use Rattle.tests_epochs.proofs.Random21To30 as lemmas
use Rattle.tests_epochs.proofs.right.all_is_due_in_21_to_30.Goals as goal

pub returns : goal.returns
returns c = record {
  random21 = lemmas.random21_due;
  random22 = lemmas.random22_due;
  random23 = lemmas.random23_due;
  random24 = lemmas.random24_due;
  random25 = lemmas.random25_due;
  random26 = lemmas.random26_due;
  random27 = lemmas.random27_due;
  random28 = lemmas.random28_due;
  random29 = lemmas.random29_due;
  random30 = lemmas.random30_due;
}
