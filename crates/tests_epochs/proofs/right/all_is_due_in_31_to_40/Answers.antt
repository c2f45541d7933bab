use Rattle.tests_epochs.proofs.Random31To40 as lemmas
use Rattle.tests_epochs.proofs.right.all_is_due_in_31_to_40.Goals as goal

pub returns : goal.returns
returns c = record {
  random31 = lemmas.random31_due;
  random32 = lemmas.random32_due;
  random33 = lemmas.random33_due;
  random34 = lemmas.random34_due;
  random35 = lemmas.random35_due;
  random36 = lemmas.random36_due;
  random37 = lemmas.random37_due;
  random38 = lemmas.random38_due;
  random39 = lemmas.random39_due;
  random40 = lemmas.random40_due;
}
