use Rattle.qc_lock.proofs.Entries.{entry-without, entry-without_other}
use Rattle.qc_lock.proofs.laws.transactions_are_dropped.Goals as goal

pub returns : goal.returns
returns c = record { dropped = entry-without; others = entry-without_other }
