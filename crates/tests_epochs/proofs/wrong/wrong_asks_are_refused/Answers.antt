use Rattle.tests_epochs.proofs.WrongAsks as lemmas
use Rattle.tests_epochs.proofs.wrong.wrong_asks_are_refused.Goals as goal

pub returns : goal.returns
returns c = record {
  asked_too_early = lemmas.asked_too_early_refused;
  another_client_asked = lemmas.another_client_asked_refused;
  asked_out_of_order = lemmas.asked_out_of_order_refused;
}
