use Rattle.laws_votes.proofs.DecisionsFit.{decisions_fit_records_through_falls}
use Rattle.laws_votes.proofs.epochs.decisions_fit_records_through_falls.Goals as goal

pub returns : goal.returns
returns g c decl script h open_inputs accepted sound run kept few =
    decisions_fit_records_through_falls g.C.ConductWithFalls.fits decl script h open_inputs accepted sound run kept few
