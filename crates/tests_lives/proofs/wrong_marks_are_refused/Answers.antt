use Rattle.tests_lives.proofs.WrongMarks as lemmas
use Rattle.tests_lives.proofs.wrong_marks_are_refused.Goals as goal

pub returns : goal.returns
returns c = record {
  counts_in_line_order = lemmas.counts_in_line_order_refused;
  tells_all_again = lemmas.tells_all_again_refused;
  counts_what_it_tells = lemmas.counts_what_it_tells_refused;
  tells_one_line_too_few = lemmas.tells_one_line_too_few_refused;
  believes_a_mark_of_another_life = lemmas.believes_a_mark_of_another_life_refused;
  believes_a_mark_of_another_epoch = lemmas.believes_a_mark_of_another_epoch_refused;
  believes_a_mark_of_more_lines = lemmas.believes_a_mark_of_more_lines_refused;
  counts_on_in_its_next_life = lemmas.counts_on_in_its_next_life_refused;
  counts_for_a_granted_append = lemmas.counts_for_a_granted_append_refused;
  counts_twice_what_came_twice = lemmas.counts_twice_what_came_twice_refused;
}
