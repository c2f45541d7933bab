use Rattle.laws_guarantees.proofs.ClosedLogs.{granted_logs_are_closed}
use Rattle.laws_guarantees.proofs.holdings.granted_logs_are_closed.Goals as goal

pub returns : goal.returns
returns c decl script h open_inputs request answer tx number epoch named object inv grant accepted sound run found asked
    sent is =
    granted_logs_are_closed decl script accepted sound h open_inputs run request answer tx number epoch named object inv
    grant found asked sent is
