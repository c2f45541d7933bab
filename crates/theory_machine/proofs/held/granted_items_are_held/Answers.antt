use Rattle.theory_machine.proofs.Holdings.{granted_items_are_held}
use Rattle.theory_machine.proofs.held.granted_items_are_held.Goals as goal

pub returns : goal.returns
returns c decl acts grant item accepted run counts has voting life epoch =
    granted_items_are_held decl accepted acts run grant item counts has voting life epoch
