use Rattle.qc_front.proofs.Sending.{called_sent, takes_sent}
use Rattle.qc_front.proofs.laws.turns_send_requests_and_verdicts.Goals as goal

pub returns-clause-commands : goal.returns-clause-commands
returns-clause-commands c = called_sent

pub returns-clause-answers : goal.returns-clause-answers
returns-clause-answers c = takes_sent
