use Rattle.laws_due.proofs.Whole.{turns_tell_what_is_due}
use Rattle.laws_due.proofs.client_laws.turns_tell_what_is_due.Goals as goal

pub returns : goal.returns
returns c = turns_tell_what_is_due
