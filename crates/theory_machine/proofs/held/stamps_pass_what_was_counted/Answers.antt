use Rattle.theory_machine.proofs.HeldLaw.{stamps_pass_what_was_counted}
use Rattle.theory_machine.proofs.held.stamps_pass_what_was_counted.Goals as goal

pub returns : goal.returns
returns c decl acts commit grant run = stamps_pass_what_was_counted decl acts run commit grant
