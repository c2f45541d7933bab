use Rattle.laws_bounds.proofs.Counted.{all_visited, most_visited, none_visited, one_visited, visit_here, visit_stays}
use Rattle.laws_bounds.proofs.visits.visits_are_counted.Goals as goal

pub returns-clause-none : goal.returns-clause-none
returns-clause-none c = none_visited

pub returns-clause-one : goal.returns-clause-one
returns-clause-one c = one_visited

pub returns-clause-most : goal.returns-clause-most
returns-clause-most c = most_visited

pub returns-clause-all : goal.returns-clause-all
returns-clause-all c = all_visited

pub returns-clause-visited : goal.returns-clause-visited
returns-clause-visited c = visit_here

pub returns-clause-others : goal.returns-clause-others
returns-clause-others c = visit_stays
