use Rattle.qc_spent.proofs.OwnRecords.{kept_histories_keep_own_steps}
use Rattle.qc_spent.proofs.laws.kept_histories_keep_own_steps.Goals as goal

pub returns : goal.returns
returns c = kept_histories_keep_own_steps
