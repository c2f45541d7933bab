use Rattle.qc_record.proofs.Whole.{again, taken}
use Rattle.qc_record.proofs.laws.one_spelling.Goals as goal

pub returns : goal.returns
returns c = record { again = again; taken = taken }
