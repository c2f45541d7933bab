use Rattle.theory_machine.proofs.ClaimLaws.{records_are_apart}
use Rattle.theory_machine.proofs.records.records_are_apart.Goals as goal

pub returns : goal.returns
returns c decl acts accepted run = records_are_apart decl accepted acts run
