use Rattle.qc_record.proofs.Ends.{no_spelling_is_a_prefix}
use Rattle.qc_record.proofs.laws.no_spelling_is_a_prefix.Goals as goal

pub returns : goal.returns
returns c = no_spelling_is_a_prefix
