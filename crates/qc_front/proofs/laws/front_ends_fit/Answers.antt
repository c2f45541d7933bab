use Rattle.qc_front.proofs.Fitting.{front_ends_fit}
use Rattle.qc_front.proofs.laws.front_ends_fit.Goals as goal

pub returns : goal.returns
returns c = front_ends_fit
