use Rattle.theory_onecopy.proofs.Committed.{records_are_sorted}
use Rattle.theory_onecopy.proofs.laws.records_are_sorted.Goals as goal

pub returns : goal.returns
returns c records apart = records_are_sorted records apart.stamps
