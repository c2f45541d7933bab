use Rattle.qc_pass.proofs.WrongStates.{no_right, second_right}
use Rattle.qc_pass.proofs.wrong.wrong_rights.Goals as goal

pub returns-clause-none : goal.returns-clause-none
returns-clause-none g c = no_right

pub returns-clause-second : goal.returns-clause-second
returns-clause-second g c = second_right
