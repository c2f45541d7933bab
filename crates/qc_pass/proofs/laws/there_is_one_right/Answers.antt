use Rattle.qc_pass.proofs.RuleLaws.{one_right, some_right}
use Rattle.qc_pass.proofs.laws.there_is_one_right.Goals as goal

pub returns-clause-some : goal.returns-clause-some
returns-clause-some g c = some_right

pub returns-clause-one : goal.returns-clause-one
returns-clause-one g c = one_right
