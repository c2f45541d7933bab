use Rattle.laws_votes.proofs.ClosedLogs.{granted_logs_are_closed_through_falls}
use Rattle.laws_votes.proofs.holdings.granted_logs_are_closed_through_falls.Goals as goal

pub returns : goal.returns
returns g c decl script h open_inputs accepted sound run kept request answer tx number epoch named object inv grant
    found asked sent is = granted_logs_are_closed_through_falls g.C.ConductWithFalls.fits decl script h open_inputs
    accepted sound run kept request answer tx number epoch named object inv grant found asked sent is
