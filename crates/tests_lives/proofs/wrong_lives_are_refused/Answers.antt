use Rattle.tests_lives.proofs.WrongLives as lemmas
use Rattle.tests_lives.proofs.wrong_lives_are_refused.Goals as goal

pub returns : goal.returns
returns c = record {
  keeps_what_it_held = lemmas.keeps_what_it_held_refused;
  grants_in_its_old_life = lemmas.grants_in_its_old_life_refused;
  its_life_grows_twice = lemmas.its_life_grows_twice_refused;
  loses_what_it_promised = lemmas.loses_what_it_promised_refused;
  loses_the_lines_of_its_done = lemmas.loses_the_lines_of_its_done_refused;
  its_clock_is_below_its_records = lemmas.its_clock_is_below_its_records_refused;
  keeps_lines_that_came_with_views = lemmas.keeps_lines_that_came_with_views_refused;
  keeps_its_clock_of_before = lemmas.keeps_its_clock_of_before_refused;
  votes_for_its_old_life = lemmas.votes_for_its_old_life_refused;
  says_stale_to_its_old_life = lemmas.says_stale_to_its_old_life_refused;
  restarted_with_its_old_life = lemmas.restarted_with_its_old_life_refused;
  holds_for_ever = lemmas.holds_for_ever_refused;
  redeems_twice = lemmas.redeems_twice_refused;
}
