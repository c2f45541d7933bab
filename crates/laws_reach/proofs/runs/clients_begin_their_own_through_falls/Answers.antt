use Rattle.laws_reach.proofs.VerdictLaw.{clients_begin_their_own_through_falls}
use Rattle.laws_reach.proofs.runs.clients_begin_their_own_through_falls.Goals as goal

pub returns : goal.returns
returns g c decl script h open_inputs accepted sound run kept a client tx born =
    clients_begin_their_own_through_falls decl script g.C.ConductWithFalls.fits accepted sound h open_inputs run kept a
    client tx born
