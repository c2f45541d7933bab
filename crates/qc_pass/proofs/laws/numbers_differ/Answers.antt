use Rattle.qc_pass.proofs.RuleLaws.{numbers_differ}
use Rattle.qc_pass.proofs.laws.numbers_differ.Goals as goal

pub returns : goal.returns
returns g c = numbers_differ
