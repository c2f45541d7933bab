use Rattle.qc_record.proofs.Ends.{cut_spellings_are_refused}
use Rattle.qc_record.proofs.laws.cut_spellings_are_refused.Goals as goal

pub returns : goal.returns
returns c = cut_spellings_are_refused
