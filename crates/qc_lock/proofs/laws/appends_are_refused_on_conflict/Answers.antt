use Rattle.qc_lock.proofs.Conflicts.{appends_are_refused_on_conflict}
use Rattle.qc_lock.proofs.laws.appends_are_refused_on_conflict.Goals as goal

pub returns : goal.returns
returns c = appends_are_refused_on_conflict
