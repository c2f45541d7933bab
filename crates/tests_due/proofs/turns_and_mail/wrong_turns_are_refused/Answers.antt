use Rattle.tests_due.proofs.WrongTurns as lemmas
use Rattle.tests_due.proofs.turns_and_mail.wrong_turns_are_refused.Goals as goal

pub returns : goal.returns
returns c = record {
  posts_before_an_input = lemmas.posts_before_an_input_refused;
  record_after_its_message = lemmas.record_after_its_message_refused;
  record_after_its_decision = lemmas.record_after_its_decision_refused;
  two_records = lemmas.two_records_refused;
  life_unrisen = lemmas.life_unrisen_refused;
  reply_twice = lemmas.reply_twice_refused;
  posts_after_its_reply = lemmas.posts_after_its_reply_refused;
  unknown_without_a_fall = lemmas.unknown_without_a_fall_refused;
  fault_without_a_fall = lemmas.fault_without_a_fall_refused;
  posts_after_a_fault = lemmas.posts_after_a_fault_refused;
  down_while_up = lemmas.down_while_up_refused;
  site_is_commanded = lemmas.site_is_commanded_refused;
  site_tells_a_reply = lemmas.site_tells_a_reply_refused;
}
