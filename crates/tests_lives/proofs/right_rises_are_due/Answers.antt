use Rattle.tests_lives.proofs.RightRises as lemmas
use Rattle.tests_lives.proofs.right_rises_are_due.Goals as goal

pub returns : goal.returns
returns c = record {
  lets_go_of_what_it_held = lemmas.lets_go_of_what_it_held_due;
  keeps_what_it_promised = lemmas.keeps_what_it_promised_due;
  falls_as_it_writes_life = lemmas.falls_as_it_writes_life_due;
  fallen_life_rises = lemmas.fallen_life_rises_due;
  fallen_life_is_lost = lemmas.fallen_life_is_lost_due;
  promise_rises_after_an_abort = lemmas.promise_rises_after_an_abort_due;
  pending_promise_rises = lemmas.pending_promise_rises_due;
  pending_promise_is_lost = lemmas.pending_promise_is_lost_due;
  stops_without_a_word = lemmas.stops_without_a_word_due;
}
