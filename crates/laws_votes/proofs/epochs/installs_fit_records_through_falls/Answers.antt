use Rattle.laws_votes.proofs.DecisionsFit.{installs_fit_records_through_falls}
use Rattle.laws_votes.proofs.epochs.installs_fit_records_through_falls.Goals as goal

pub returns : goal.returns
returns g c decl script h open_inputs accepted sound run kept few =
    installs_fit_records_through_falls g.C.ConductWithFalls.fits decl script h open_inputs accepted sound run kept few
