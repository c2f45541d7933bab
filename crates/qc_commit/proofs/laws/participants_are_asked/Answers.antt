use Rattle.qc_commit.proofs.Ends.{asks-each, commits-at-once}
use Rattle.qc_commit.proofs.laws.participants_are_asked.Goals as goal

pub returns : goal.returns
returns c = record { asked = asks-each; at_once = commits-at-once }
