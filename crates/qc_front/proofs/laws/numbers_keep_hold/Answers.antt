use Rattle.qc_front.proofs.Numbering.{requested_holds, sent_holds}
use Rattle.qc_front.proofs.laws.numbers_keep_hold.Goals as goal

pub returns-clause-sent : goal.returns-clause-sent
returns-clause-sent c = sent_holds

pub returns-clause-requested : goal.returns-clause-requested
returns-clause-requested c = requested_holds
