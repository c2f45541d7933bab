use Rattle.theory_machine.proofs.OneCopyLaw.{records_in_order_are_one_copy}
use Rattle.theory_machine.proofs.records.records_in_order_are_one_copy.Goals as goal

pub returns : goal.returns
returns c decl acts records accepted run rising all =
    records_in_order_are_one_copy decl accepted acts run records rising all
