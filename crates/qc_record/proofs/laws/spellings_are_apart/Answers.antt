use Rattle.qc_record.proofs.Frames.{spellings_are_apart}
use Rattle.qc_record.proofs.laws.spellings_are_apart.Goals as goal

pub returns : goal.returns
returns c = spellings_are_apart
