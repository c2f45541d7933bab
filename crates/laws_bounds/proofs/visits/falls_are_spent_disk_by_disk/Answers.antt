use Rattle.laws_bounds.proofs.Falls.{all_below_spent, all_spent, none_spent, one_spent, other_spent}
use Rattle.laws_bounds.proofs.visits.falls_are_spent_disk_by_disk.Goals as goal

pub returns-clause-none : goal.returns-clause-none
returns-clause-none c = none_spent

pub returns-clause-one : goal.returns-clause-one
returns-clause-one c = one_spent

pub returns-clause-other : goal.returns-clause-other
returns-clause-other c = other_spent

pub returns-clause-all : goal.returns-clause-all
returns-clause-all c = all_spent

pub returns-clause-below : goal.returns-clause-below
returns-clause-below c = all_below_spent
