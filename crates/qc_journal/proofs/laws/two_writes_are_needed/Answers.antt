use Rattle.qc_journal.proofs.Needed.{two_writes_are_needed}
use Rattle.qc_journal.proofs.laws.two_writes_are_needed.Goals as goal

pub returns : goal.returns
returns c = two_writes_are_needed
