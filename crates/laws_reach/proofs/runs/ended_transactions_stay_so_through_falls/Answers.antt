use Rattle.laws_reach.proofs.VerdictLaw.{ended_transactions_stay_so_through_falls}
use Rattle.laws_reach.proofs.runs.ended_transactions_stay_so_through_falls.Goals as goal

pub returns : goal.returns
returns g c decl script h open_inputs accepted sound run kept a client tx before later is ended =
    ended_transactions_stay_so_through_falls decl script g.C.ConductWithFalls.fits accepted sound h open_inputs run kept
    a client tx before later is ended
