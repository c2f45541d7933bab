use Rattle.tests_due.proofs.WrongMail as lemmas
use Rattle.tests_due.proofs.turns_and_mail.wrong_mail_is_refused.Goals as goal

pub returns : goal.returns
returns c = record {
  another_number = lemmas.another_number_refused;
  a_number_again = lemmas.a_number_again_refused;
  another_copy = lemmas.another_copy_refused;
  nothing_sent = lemmas.nothing_sent_refused;
  strangers_answer = lemmas.strangers_answer_refused;
  answer_to_another = lemmas.answer_to_another_refused;
  answer_to_no_request = lemmas.answer_to_no_request_refused;
  answer_to_nothing = lemmas.answer_to_nothing_refused;
  another_loss = lemmas.another_loss_refused;
  loss_of_no_request = lemmas.loss_of_no_request_refused;
  loss_of_nothing = lemmas.loss_of_nothing_refused;
}
