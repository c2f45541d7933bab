use Rattle.tests_lives.proofs.WrongFalls as lemmas
use Rattle.tests_lives.proofs.wrong_falls_are_refused.Goals as goal

pub returns : goal.returns
returns c = record {
  asks_and_falls = lemmas.asks_and_falls_refused;
  says_fault_and_stays_up = lemmas.says_fault_and_stays_up_refused;
  fails_without_fault = lemmas.fails_without_fault_refused;
  stops_with_fault = lemmas.stops_with_fault_refused;
  says_yes_and_falls = lemmas.says_yes_and_falls_refused;
  falls_with_another_promise = lemmas.falls_with_another_promise_refused;
  falls_with_nothing_pending = lemmas.falls_with_nothing_pending_refused;
  writes_and_falls = lemmas.writes_and_falls_refused;
  says_yes_before_its_record = lemmas.says_yes_before_its_record_refused;
  posts_after_its_fall = lemmas.posts_after_its_fall_refused;
  writes_after_its_fall = lemmas.writes_after_its_fall_refused;
  falls_within_a_post = lemmas.falls_within_a_post_refused;
}
