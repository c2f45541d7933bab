use Rattle.qc_entry.proofs.Union.{union_is_a_union}
use Rattle.qc_entry.proofs.laws.union_is_a_union.Goals as goal

pub returns : goal.returns
returns c = union_is_a_union
