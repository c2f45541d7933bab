use Rattle.qc_pass.proofs.RuleLaws.{one_saw_more, saw_what_was_done}
use Rattle.qc_pass.proofs.laws.passes_agree.Goals as goal

pub returns-clause-one : goal.returns-clause-one
returns-clause-one g c = one_saw_more

pub returns-clause-own : goal.returns-clause-own
returns-clause-own g c = saw_what_was_done
