use Rattle.laws_bounds.proofs.SettledLines.{next_below, next_passes, next_sound}
use Rattle.laws_bounds.proofs.faults.next_lines_are_of_the_script.Goals as goal

pub returns-clause-sound : goal.returns-clause-sound
returns-clause-sound c = next_sound

pub returns-clause-below : goal.returns-clause-below
returns-clause-below c = next_below

pub returns-clause-tests : goal.returns-clause-tests
returns-clause-tests c = next_passes
