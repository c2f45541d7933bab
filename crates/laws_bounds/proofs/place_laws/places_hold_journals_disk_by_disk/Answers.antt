use Rattle.laws_bounds.proofs.BackPlaces.{all_back, none_back, one_back}
use Rattle.laws_bounds.proofs.place_laws.places_hold_journals_disk_by_disk.Goals as goal

pub returns-clause-none : goal.returns-clause-none
returns-clause-none c = none_back

pub returns-clause-one : goal.returns-clause-one
returns-clause-one c = one_back

pub returns-clause-all : goal.returns-clause-all
returns-clause-all c = all_back
