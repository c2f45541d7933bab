use Rattle.laws_votes.proofs.Laws.{asked_sites_have_room_through_falls}
use Rattle.laws_votes.proofs.counted_votes.asked_sites_have_room_through_falls.Goals as goal

pub returns : goal.returns
returns g c decl script h open_inputs accepted sound run kept few a client t begun q vote free up life epoch =
    asked_sites_have_room_through_falls g.C.ConductWithFalls.fits decl script h open_inputs accepted sound run kept few
    a client t begun q vote free up life epoch
