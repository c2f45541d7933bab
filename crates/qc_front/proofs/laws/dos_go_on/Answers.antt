use Rattle.qc_front.proofs.Goes.{do_goes, takes_goes, waits}
use Rattle.qc_front.proofs.laws.dos_go_on.Goals as goal

pub returns-clause-commands : goal.returns-clause-commands
returns-clause-commands c = do_goes

pub returns-clause-answers : goal.returns-clause-answers
returns-clause-answers c = takes_goes

pub returns-clause-waits : goal.returns-clause-waits
returns-clause-waits c = waits
