use Rattle.laws_reach.proofs.VerdictLaw.{transactions_are_committed_by_their_records_through_falls}
use Rattle.laws_reach.proofs.runs.transactions_are_committed_by_their_records_through_falls.Goals as goal

pub returns : goal.returns
returns g c decl script h open_inputs accepted sound run kept a client tx stamp =
    transactions_are_committed_by_their_records_through_falls decl script g.C.ConductWithFalls.fits accepted sound h
    open_inputs run kept a client tx stamp
