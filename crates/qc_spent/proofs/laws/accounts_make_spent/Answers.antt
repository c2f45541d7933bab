use Rattle.qc_spent.proofs.Whole.{accounts_make_spent}
use Rattle.qc_spent.proofs.laws.accounts_make_spent.Goals as goal

pub returns : goal.returns
returns c = accounts_make_spent
