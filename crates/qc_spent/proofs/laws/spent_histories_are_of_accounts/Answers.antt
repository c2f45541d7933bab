use Rattle.qc_spent.proofs.Whole.{ever_in_time, few_falls}
use Rattle.qc_spent.proofs.laws.spent_histories_are_of_accounts.Goals as goal

pub returns-clause-in_time : goal.returns-clause-in_time
returns-clause-in_time c = ever_in_time

pub returns-clause-falls : goal.returns-clause-falls
returns-clause-falls c = few_falls
