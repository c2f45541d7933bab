use Rattle.qc_accept.proofs.Accepting.{accepted_declarations_are_named}
use Rattle.qc_accept.proofs.laws.accepted_declarations_are_named.Goals as goal

pub returns : goal.returns
returns c = accepted_declarations_are_named
