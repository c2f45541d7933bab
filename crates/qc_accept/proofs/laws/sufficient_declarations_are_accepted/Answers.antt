use Rattle.qc_accept.proofs.Sufficing.{sufficient_declarations_are_accepted}
use Rattle.qc_accept.proofs.laws.sufficient_declarations_are_accepted.Goals as goal

pub returns : goal.returns
returns c = sufficient_declarations_are_accepted
