use Rattle.qc_journal.proofs.Unique.{one_list, torn_or_not}
use Rattle.qc_journal.proofs.laws.one_reading.Goals as goal

pub returns : goal.returns
returns c = record { one = one_list; not_torn = torn_or_not }
