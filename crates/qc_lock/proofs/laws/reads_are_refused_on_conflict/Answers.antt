use Rattle.qc_lock.proofs.Conflicts.{reads_are_refused_on_conflict}
use Rattle.qc_lock.proofs.laws.reads_are_refused_on_conflict.Goals as goal

pub returns : goal.returns
returns c = reads_are_refused_on_conflict
