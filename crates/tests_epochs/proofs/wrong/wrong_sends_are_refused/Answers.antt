use Rattle.tests_epochs.proofs.WrongSends as lemmas
use Rattle.tests_epochs.proofs.wrong.wrong_sends_are_refused.Goals as goal

pub returns : goal.returns
returns c = record {
  another_log = lemmas.another_log_refused;
  not_decided = lemmas.not_decided_refused;
}
