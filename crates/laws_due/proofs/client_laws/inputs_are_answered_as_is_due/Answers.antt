use Rattle.laws_due.proofs.Step.{inputs_are_answered_as_is_due}
use Rattle.laws_due.proofs.client_laws.inputs_are_answered_as_is_due.Goals as goal

pub returns : goal.returns
returns c = inputs_are_answered_as_is_due
