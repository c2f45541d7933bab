use Rattle.laws_guarantees.proofs.Recorded.{absent, response}
use Rattle.laws_guarantees.proofs.order.replies_record_operations.Goals as goal

pub returns-clause-response : goal.returns-clause-response
returns-clause-response f decl script h open_inputs before after a resp accepted sound run client is =
    response decl script h open_inputs run a client before after resp is

pub returns-clause-absent : goal.returns-clause-absent
returns-clause-absent f decl script h open_inputs before after a accepted sound run client is =
    absent decl script h open_inputs run a client before after is
