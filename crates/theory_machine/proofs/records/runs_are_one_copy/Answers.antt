use Rattle.theory_machine.proofs.ClaimLaws.{runs_are_one_copy}
use Rattle.theory_machine.proofs.records.runs_are_one_copy.Goals as goal

pub returns : goal.returns
returns c decl acts accepted run = runs_are_one_copy decl accepted acts run
