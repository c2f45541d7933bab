use Rattle.qc_journal.proofs.Needed.{last_sync_is_needed}
use Rattle.qc_journal.proofs.laws.last_sync_is_needed.Goals as goal

pub returns : goal.returns
returns c = last_sync_is_needed
