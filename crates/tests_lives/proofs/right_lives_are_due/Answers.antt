use Rattle.tests_lives.proofs.RightLives as lemmas
use Rattle.tests_lives.proofs.right_lives_are_due.Goals as goal

pub returns : goal.returns
returns c = record {
  pending_done_rises = lemmas.pending_done_rises_due;
  keeps_the_lines_of_its_done = lemmas.keeps_the_lines_of_its_done_due;
  knows_lines_of_views = lemmas.knows_lines_of_views_due;
  loses_lines_of_views = lemmas.loses_lines_of_views_due;
  keeps_the_lines_of_its_prepare = lemmas.keeps_the_lines_of_its_prepare_due;
  asks_in_order = lemmas.asks_in_order_due;
  refuses_its_old_life = lemmas.refuses_its_old_life_due;
  falls_between_posts = lemmas.falls_between_posts_due;
  ends_what_rose = lemmas.ends_what_rose_due;
  redeems_once = lemmas.redeems_once_due;
}
