use Rattle.laws_reach.proofs.Falling.{later, less, other}
use Rattle.laws_reach.proofs.wrong_told.wrong_operations_through_falls_are_refused.Goals as goal

pub returns-clause-other : goal.returns-clause-other
returns-clause-other g = other

pub returns-clause-less : goal.returns-clause-less
returns-clause-less g = less

pub returns-clause-later : goal.returns-clause-later
returns-clause-later g = later
