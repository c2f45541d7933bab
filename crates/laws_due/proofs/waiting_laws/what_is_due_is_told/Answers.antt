use Rattle.laws_due.proofs.Whole.{what_is_due_is_told}
use Rattle.laws_due.proofs.waiting_laws.what_is_due_is_told.Goals as goal

pub returns : goal.returns
returns c = what_is_due_is_told
