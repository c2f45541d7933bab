use Rattle.qc_pass.proofs.WrongStates.{own_lost, own_made_up, own_twice}
use Rattle.qc_pass.proofs.wrong.wrong_own_entries.Goals as goal

pub returns-clause-lost : goal.returns-clause-lost
returns-clause-lost g c = own_lost

pub returns-clause-made_up : goal.returns-clause-made_up
returns-clause-made_up g c = own_made_up

pub returns-clause-twice : goal.returns-clause-twice
returns-clause-twice g c = own_twice
