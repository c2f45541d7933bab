use Rattle.qc_pass.proofs.RuleLaws.{passes_are_of_the_history}
use Rattle.qc_pass.proofs.laws.passes_are_of_the_history.Goals as goal

pub returns : goal.returns
returns g c = passes_are_of_the_history
