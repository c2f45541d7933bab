use Rattle.laws_bounds.proofs.BackPlaces.{elsewhere, here_holds, still_handed, still_tells, told_before}
use Rattle.laws_bounds.proofs.place_laws.disks_leave_their_bodies.Goals as goal

pub returns-clause-here : goal.returns-clause-here
returns-clause-here c = here_holds

pub returns-clause-handed : goal.returns-clause-handed
returns-clause-handed c = still_handed

pub returns-clause-elsewhere : goal.returns-clause-elsewhere
returns-clause-elsewhere c = elsewhere

pub returns-clause-tells : goal.returns-clause-tells
returns-clause-tells c = still_tells

pub returns-clause-told : goal.returns-clause-told
returns-clause-told c = told_before
