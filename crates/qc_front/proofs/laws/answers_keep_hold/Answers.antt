use Rattle.qc_front.proofs.Keeping.{answers_keep_hold}
use Rattle.qc_front.proofs.laws.answers_keep_hold.Goals as goal

pub returns : goal.returns
returns c = answers_keep_hold
