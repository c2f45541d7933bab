use Rattle.tests_lives.proofs.RightMarks as lemmas
use Rattle.tests_lives.proofs.right_marks_are_due.Goals as goal

pub returns : goal.returns
returns c = record {
  tells_from_the_mark_on = lemmas.tells_from_the_mark_on_due;
  tells_nothing_new = lemmas.tells_nothing_new_due;
  tells_all_to_a_mark_of_another_life = lemmas.tells_all_to_a_mark_of_another_life_due;
  tells_all_to_a_mark_of_another_epoch = lemmas.tells_all_to_a_mark_of_another_epoch_due;
  tells_all_to_a_mark_of_more_lines = lemmas.tells_all_to_a_mark_of_more_lines_due;
  counts_anew_in_its_next_life = lemmas.counts_anew_in_its_next_life_due;
}
