use Rattle.qc_accept.proofs.Declaring.{accepted_declarations_are_their_documents}
use Rattle.qc_accept.proofs.laws.accepted_declarations_are_their_documents.Goals as goal

pub returns : goal.returns
returns c = accepted_declarations_are_their_documents
