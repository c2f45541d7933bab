use Rattle.qc_accept.proofs.Accepting.{accepted_declarations_keep_the_rules}
use Rattle.qc_accept.proofs.laws.accepted_declarations_keep_the_rules.Goals as goal

pub returns : goal.returns
returns c = accepted_declarations_keep_the_rules
