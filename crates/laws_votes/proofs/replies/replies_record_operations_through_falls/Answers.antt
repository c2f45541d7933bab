use Rattle.laws_votes.proofs.RecordsOperations.{absent, response}
use Rattle.laws_votes.proofs.replies.replies_record_operations_through_falls.Goals as goal

pub returns-clause-response : goal.returns-clause-response
returns-clause-response g c decl script h open_inputs accepted sound run kept before after a resp client is =
    response g.C.ConductWithFalls.fits decl script h open_inputs accepted sound run kept a client before after resp is

pub returns-clause-absent : goal.returns-clause-absent
returns-clause-absent g c decl script h open_inputs accepted sound run kept before after a client is =
    absent g.C.ConductWithFalls.fits decl script h open_inputs accepted sound run kept a client before after is
