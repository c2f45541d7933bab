use Rattle.theory_machine.proofs.ClaimLaws.{logs_hold_operations}
use Rattle.theory_machine.proofs.logs.logs_hold_operations.Goals as goal

pub returns : goal.returns
returns c decl acts log line accepted run is h = logs_hold_operations decl accepted acts run log is line h
