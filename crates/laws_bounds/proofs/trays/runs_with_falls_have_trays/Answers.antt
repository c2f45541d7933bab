use Rattle.laws_bounds.proofs.Shown.{runs_with_falls_have_trays}
use Rattle.laws_bounds.proofs.trays.runs_with_falls_have_trays.Goals as goal

pub returns : goal.returns
returns g c decl script h open_inputs accepted sound run fit =
    runs_with_falls_have_trays g.C.ConductWithFalls.fits decl script accepted sound h open_inputs run fit
