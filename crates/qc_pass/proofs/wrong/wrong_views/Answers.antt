use Rattle.qc_pass.proofs.WrongStates.{seen_made_up, seen_without_first}
use Rattle.qc_pass.proofs.wrong.wrong_views.Goals as goal

pub returns-clause-made_up : goal.returns-clause-made_up
returns-clause-made_up g c = seen_made_up

pub returns-clause-without_first : goal.returns-clause-without_first
returns-clause-without_first g c = seen_without_first
