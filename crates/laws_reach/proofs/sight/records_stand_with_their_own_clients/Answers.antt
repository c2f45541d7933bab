use Rattle.laws_reach.proofs.SightLaw.{records_stand_with_their_own_clients}
use Rattle.laws_reach.proofs.sight.records_stand_with_their_own_clients.Goals as goal

pub returns : goal.returns
returns g c decl script h open_inputs a commit accepted sound run kept client among =
    records_stand_with_their_own_clients g.C.ConductWithFalls.fits decl script h open_inputs accepted sound run kept a
    commit client among
