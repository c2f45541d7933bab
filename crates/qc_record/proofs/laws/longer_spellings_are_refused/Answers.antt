use Rattle.qc_record.proofs.Ends.{longer_spellings_are_refused}
use Rattle.qc_record.proofs.laws.longer_spellings_are_refused.Goals as goal

pub returns : goal.returns
returns c = longer_spellings_are_refused
