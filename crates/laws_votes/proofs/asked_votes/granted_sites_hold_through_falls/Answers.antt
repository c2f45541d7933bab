use Rattle.laws_votes.proofs.Holding.{granted_sites_hold_through_falls}
use Rattle.laws_votes.proofs.asked_votes.granted_sites_hold_through_falls.Goals as goal

pub returns : goal.returns
returns g c decl script h open_inputs accepted sound run kept a client t begun site has free up life epoch =
    granted_sites_hold_through_falls g.C.ConductWithFalls.fits decl script h open_inputs accepted sound run kept a
    client t begun site has free up life epoch
