use Rattle.theory_machine.proofs.HeldLaw.{counted_grants_are_held}
use Rattle.theory_machine.proofs.held.counted_grants_are_held.Goals as goal

pub returns : goal.returns
returns c decl acts grant item since run = counted_grants_are_held decl acts run grant item since
