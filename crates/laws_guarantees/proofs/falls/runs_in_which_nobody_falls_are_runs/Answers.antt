use Rattle.laws_guarantees.proofs.Calming.{runs_in_which_nobody_falls_are_runs}
use Rattle.laws_guarantees.proofs.falls.runs_in_which_nobody_falls_are_runs.Goals as goal

pub returns : goal.returns
returns g c decl script h open_inputs run calm idle =
    runs_in_which_nobody_falls_are_runs g.C.ConductWithFalls.fits decl script h open_inputs run calm idle
