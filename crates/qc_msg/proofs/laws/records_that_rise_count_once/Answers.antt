use Rattle.std.proofs.Common.{refl}
use Rattle.qc_msg.proofs.laws.records_that_rise_count_once.Goals as goal

pub returns : goal.returns
returns c = record { with = refl; without = refl; again = refl; lost = refl }
