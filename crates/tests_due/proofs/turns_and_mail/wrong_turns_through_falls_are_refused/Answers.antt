use Rattle.tests_due.proofs.WrongTurnsThroughFalls as lemmas
use Rattle.tests_due.proofs.turns_and_mail.wrong_turns_through_falls_are_refused.Goals as goal

pub returns : goal.returns
returns c = record {
  takes_while_down = lemmas.takes_while_down_refused;
  loses_while_down = lemmas.loses_while_down_refused;
  writes_while_down = lemmas.writes_while_down_refused;
  sends_while_down = lemmas.sends_while_down_refused;
  tells_while_down = lemmas.tells_while_down_refused;
  begins_while_down = lemmas.begins_while_down_refused;
  falls_within_its_post = lemmas.falls_within_its_post_refused;
  stops_once_it_sent = lemmas.stops_once_it_sent_refused;
  falls_untold = lemmas.falls_untold_refused;
  falls_though_committed = lemmas.falls_though_committed_refused;
  falls_with_nothing_to_write = lemmas.falls_with_nothing_to_write_refused;
  falls_with_a_rise = lemmas.falls_with_a_rise_refused;
  crashes_with_a_record = lemmas.crashes_with_a_record_refused;
  crashes_while_down = lemmas.crashes_while_down_refused;
  rises_while_up = lemmas.rises_while_up_refused;
  rises_once_called = lemmas.rises_once_called_refused;
  life_twice = lemmas.life_twice_refused;
  life_never = lemmas.life_never_refused;
  rises_with_another_record = lemmas.rises_with_another_record_refused;
  unknown_after_a_message = lemmas.unknown_after_a_message_refused;
  unknown_after_a_record = lemmas.unknown_after_a_record_refused;
}
