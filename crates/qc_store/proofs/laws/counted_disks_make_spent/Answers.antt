use Rattle.qc_store.proofs.Counts.{counted_disks_make_spent}
use Rattle.qc_store.proofs.laws.counted_disks_make_spent.Goals as goal

pub returns : goal.returns
returns c = counted_disks_make_spent
