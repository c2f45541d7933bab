use Rattle.qc_front.proofs.Lives.{first_grants_give_lives}
use Rattle.qc_front.proofs.laws.first_grants_give_lives.Goals as goal

pub returns : goal.returns
returns c = first_grants_give_lives
