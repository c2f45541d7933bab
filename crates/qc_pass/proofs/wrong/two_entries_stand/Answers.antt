use Rattle.qc_pass.proofs.WrongStates.{two_entries_stand}
use Rattle.qc_pass.proofs.wrong.two_entries_stand.Goals as goal

pub returns : goal.returns
returns g c = two_entries_stand
