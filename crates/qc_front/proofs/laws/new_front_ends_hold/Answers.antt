use Rattle.qc_front.proofs.Keeping.{ended_holds, new_holds}
use Rattle.qc_front.proofs.laws.new_front_ends_hold.Goals as goal

pub returns-clause-new : goal.returns-clause-new
returns-clause-new c = new_holds

pub returns-clause-ended : goal.returns-clause-ended
returns-clause-ended c = ended_holds
