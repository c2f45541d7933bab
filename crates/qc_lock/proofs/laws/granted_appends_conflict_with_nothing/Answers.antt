use Rattle.qc_lock.proofs.Conflicts.{granted_appends_conflict_with_nothing}
use Rattle.qc_lock.proofs.laws.granted_appends_conflict_with_nothing.Goals as goal

pub returns : goal.returns
returns c = granted_appends_conflict_with_nothing
