use Rattle.qc_journal.proofs.Lasting.{records_last}
use Rattle.qc_journal.proofs.laws.records_last.Goals as goal

pub returns : goal.returns
returns c = records_last
