use Rattle.qc_journal.proofs.Needed.{first_sync_is_needed}
use Rattle.qc_journal.proofs.laws.first_sync_is_needed.Goals as goal

pub returns : goal.returns
returns c = first_sync_is_needed
