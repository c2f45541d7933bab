use Rattle.tests_lives.proofs.WrongRises as lemmas
use Rattle.tests_lives.proofs.wrong_rises_are_refused.Goals as goal

pub returns : goal.returns
returns c = record {
  writes_life_twice_as_it_rises = lemmas.writes_life_twice_as_it_rises_refused;
  asks_nobody_about_its_promise = lemmas.asks_nobody_about_its_promise_refused;
  asks_about_no_promise = lemmas.asks_about_no_promise_refused;
  asks_twice = lemmas.asks_twice_refused;
  asks_before_its_life_record = lemmas.asks_before_its_life_record_refused;
  asks_another_client = lemmas.asks_another_client_refused;
  writes_no_life = lemmas.writes_no_life_refused;
  forgets_by_an_old_abort = lemmas.forgets_by_an_old_abort_refused;
  pending_promise_not_seen = lemmas.pending_promise_not_seen_refused;
  lost_promise_seen = lemmas.lost_promise_seen_refused;
  pending_done_not_seen = lemmas.pending_done_not_seen_refused;
  lost_done_seen = lemmas.lost_done_seen_refused;
  asks_in_order_of_promises = lemmas.asks_in_order_of_promises_refused;
  asks_about_one_of_two = lemmas.asks_about_one_of_two_refused;
}
