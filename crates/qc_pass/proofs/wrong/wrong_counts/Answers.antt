use Rattle.qc_pass.proofs.WrongStates.{counts_none, counts_twice}
use Rattle.qc_pass.proofs.wrong.wrong_counts.Goals as goal

pub returns-clause-none : goal.returns-clause-none
returns-clause-none g c = counts_none

pub returns-clause-twice : goal.returns-clause-twice
returns-clause-twice g c = counts_twice
