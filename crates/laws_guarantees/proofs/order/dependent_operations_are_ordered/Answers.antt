use Rattle.laws_guarantees.proofs.Law.{dependent_operations_are_ordered}
use Rattle.laws_guarantees.proofs.order.dependent_operations_are_ordered.Goals as goal

pub returns : goal.returns
returns f decl script h open_inputs c op t line accepted sound run told depends =
    dependent_operations_are_ordered decl script accepted sound h open_inputs run c op t told line depends
