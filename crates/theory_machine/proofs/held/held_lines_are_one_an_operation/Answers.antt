use Rattle.theory_machine.proofs.Holdings.{held_lines_are_one_an_operation}
use Rattle.theory_machine.proofs.held.held_lines_are_one_an_operation.Goals as goal

pub returns : goal.returns
returns c decl acts site tx one other accepted run h k same =
    held_lines_are_one_an_operation decl accepted acts run site tx one other h k same
