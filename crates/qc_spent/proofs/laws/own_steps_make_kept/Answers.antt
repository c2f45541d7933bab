use Rattle.qc_spent.proofs.OwnRecords.{own_steps_make_kept}
use Rattle.qc_spent.proofs.laws.own_steps_make_kept.Goals as goal

pub returns : goal.returns
returns c = own_steps_make_kept
