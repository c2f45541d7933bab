use Rattle.laws_bounds.proofs.Others.{others_in_time, others_kept}
use Rattle.laws_bounds.proofs.faults.others_have_no_faults.Goals as goal

pub returns-clause-in_time : goal.returns-clause-in_time
returns-clause-in_time c = others_in_time

pub returns-clause-kept : goal.returns-clause-kept
returns-clause-kept c = others_kept
