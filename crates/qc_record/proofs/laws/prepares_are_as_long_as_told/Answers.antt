use Rattle.qc_record.proofs.Lengths.{prepares_are_as_long_as_told}
use Rattle.qc_record.proofs.laws.prepares_are_as_long_as_told.Goals as goal

pub returns : goal.returns
returns c = prepares_are_as_long_as_told
