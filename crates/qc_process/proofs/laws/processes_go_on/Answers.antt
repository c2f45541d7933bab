use Rattle.qc_process.proofs.Processes.{armed, broken, damaged, fell_alone, looked}
use Rattle.qc_process.proofs.laws.processes_go_on.Goals as goal

pub returns-clause-looks : goal.returns-clause-looks
returns-clause-looks c = looked

pub returns-clause-armed : goal.returns-clause-armed
returns-clause-armed c = armed

pub returns-clause-fell : goal.returns-clause-fell
returns-clause-fell c = fell_alone

pub returns-clause-damaged : goal.returns-clause-damaged
returns-clause-damaged c = damaged

pub returns-clause-broken : goal.returns-clause-broken
returns-clause-broken c = broken
