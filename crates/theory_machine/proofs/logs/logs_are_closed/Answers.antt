use Rattle.theory_machine.proofs.ClaimLaws.{logs_are_closed}
use Rattle.theory_machine.proofs.logs.logs_are_closed.Goals as goal

pub returns : goal.returns
returns c decl acts log accepted run is = logs_are_closed decl accepted acts run log is
