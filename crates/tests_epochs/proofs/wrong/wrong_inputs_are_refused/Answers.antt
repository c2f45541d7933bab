use Rattle.tests_epochs.proofs.WrongInputs as lemmas
use Rattle.tests_epochs.proofs.wrong.wrong_inputs_are_refused.Goals as goal

pub returns : goal.returns
returns c = record {
  a_reply_untold = lemmas.a_reply_untold_refused;
  a_decision_unwritten = lemmas.a_decision_unwritten_refused;
  called_before_its_reply = lemmas.called_before_its_reply_refused;
}
