use Rattle.laws_guarantees.proofs.HeldLaw.{granted_items_are_held}
use Rattle.laws_guarantees.proofs.holdings.granted_items_are_held.Goals as goal

pub returns : goal.returns
returns f decl script h open_inputs c site want accepted sound run committed g =
    granted_items_are_held decl script accepted sound h open_inputs run c committed site want g
