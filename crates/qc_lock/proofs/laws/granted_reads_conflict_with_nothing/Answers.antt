use Rattle.qc_lock.proofs.Conflicts.{granted_reads_conflict_with_nothing}
use Rattle.qc_lock.proofs.laws.granted_reads_conflict_with_nothing.Goals as goal

pub returns : goal.returns
returns c = granted_reads_conflict_with_nothing
