use Rattle.tests_due.proofs.WrongPosts as lemmas
use Rattle.tests_due.proofs.wrong_sites.wrong_posts_are_refused.Goals as goal

pub returns : goal.returns
returns c = record {
  promises_to_a_read = lemmas.promises_to_a_read_refused;
  lines_left_out = lemmas.lines_left_out_refused;
  clock_left_behind = lemmas.clock_left_behind_refused;
  answers_nobody = lemmas.answers_nobody_refused;
  answers_twice = lemmas.answers_twice_refused;
  unkept = lemmas.unkept_refused;
  kept_without_its_line = lemmas.kept_without_its_line_refused;
  done_without_a_record = lemmas.done_without_a_record_refused;
  done_though_aborted = lemmas.done_though_aborted_refused;
}
