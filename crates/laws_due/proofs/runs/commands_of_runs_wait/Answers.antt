use Rattle.laws_due.proofs.Whole.{commands_wait, nothing_due}
use Rattle.laws_due.proofs.runs.commands_of_runs_wait.Goals as goal

pub returns : goal.returns
returns c = record { waits = commands_wait; told = nothing_due }
