use Rattle.theory_machine.proofs.OrderingLaw.{dependent_operations_are_ordered}
use Rattle.theory_machine.proofs.logs.dependent_operations_are_ordered.Goals as goal

pub returns : goal.returns
returns c decl acts r d a b accepted run = dependent_operations_are_ordered decl accepted acts run r d a b
