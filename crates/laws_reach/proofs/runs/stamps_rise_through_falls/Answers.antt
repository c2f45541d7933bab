use Rattle.laws_reach.proofs.RecordsRise.{pending_rise, records_rise}
use Rattle.laws_reach.proofs.runs.stamps_rise_through_falls.Goals as goal

pub returns-clause-written : goal.returns-clause-written
returns-clause-written g c decl script h open_inputs accepted sound run kept a client =
    records_rise decl script g.C.ConductWithFalls.fits accepted sound h open_inputs run kept a client

pub returns-clause-pending : goal.returns-clause-pending
returns-clause-pending g c decl script h open_inputs accepted sound run kept a client =
    pending_rise decl script g.C.ConductWithFalls.fits accepted sound h open_inputs run kept a client
