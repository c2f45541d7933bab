use Rattle.laws_votes.proofs.Holding.{asked_sites_hold_through_falls}
use Rattle.laws_votes.proofs.asked_votes.asked_sites_hold_through_falls.Goals as goal

pub returns : goal.returns
returns g c decl script h open_inputs accepted sound run kept a client t begun q k free up life epoch =
    asked_sites_hold_through_falls g.C.ConductWithFalls.fits decl script h open_inputs accepted sound run kept a client
    t begun q k free up life epoch
