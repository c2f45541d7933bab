use Rattle.theory_machine.proofs.ClaimLaws.{follows}
use Rattle.theory_machine.proofs.records.records_follow_what_was_seen.Goals as goal

pub returns-clause-written : goal.returns-clause-written
returns-clause-written c decl acts commit accepted run = follows decl accepted acts run.1 commit run.0

pub returns-clause-unknown : goal.returns-clause-unknown
returns-clause-unknown c decl acts commit accepted run = follows decl accepted acts run.1 commit run.0
