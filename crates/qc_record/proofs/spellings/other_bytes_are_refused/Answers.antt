use Rattle.qc_record.proofs.Ends.{no_kind}
use Rattle.qc_record.proofs.spellings.other_bytes_are_refused.Goals as goal

pub returns-clause-kind : goal.returns-clause-kind
returns-clause-kind c = no_kind
