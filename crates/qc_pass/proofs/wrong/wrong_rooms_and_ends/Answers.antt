use Rattle.qc_pass.proofs.WrongStates.{other_end, other_room}
use Rattle.qc_pass.proofs.wrong.wrong_rooms_and_ends.Goals as goal

pub returns-clause-room : goal.returns-clause-room
returns-clause-room g c = other_room

pub returns-clause-end : goal.returns-clause-end
returns-clause-end g c = other_end
