use Rattle.tests_epochs.proofs.WrongShuts as lemmas
use Rattle.tests_epochs.proofs.wrong_sites.wrong_shuts_are_refused.Goals as goal

pub returns : goal.returns
returns c = record {
  promises_by_their_coming = lemmas.promises_by_their_coming_refused;
  a_promise_left_out = lemmas.a_promise_left_out_refused;
  shut_without_a_record = lemmas.shut_without_a_record_refused;
  a_line_left_out = lemmas.a_line_left_out_refused;
  shut_below_its_clock = lemmas.shut_below_its_clock_refused;
  promised_once_closed = lemmas.promised_once_closed_refused;
  installed_without_a_record = lemmas.installed_without_a_record_refused;
  installed_without_a_line = lemmas.installed_without_a_line_refused;
  an_earlier_epoch_installed = lemmas.an_earlier_epoch_installed_refused;
  redeemed_once_installed = lemmas.redeemed_once_installed_refused;
}
