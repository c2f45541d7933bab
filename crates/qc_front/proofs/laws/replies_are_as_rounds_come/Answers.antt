use Rattle.qc_front.proofs.Telling.{do_told, takes_told}
use Rattle.qc_front.proofs.laws.replies_are_as_rounds_come.Goals as goal

pub returns-clause-commands : goal.returns-clause-commands
returns-clause-commands c = do_told

pub returns-clause-answers : goal.returns-clause-answers
returns-clause-answers c = takes_told
