use Rattle.qc_cert.proofs.Walk.{accounted}
use Rattle.qc_cert.proofs.laws.closed_sets_are_covered.Goals as goal

pub returns : goal.returns
returns c = λ kind list history set inductive. accounted kind list inductive history set
