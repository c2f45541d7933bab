use Rattle.qc_front.proofs.Once.{later, once, only_open}
use Rattle.qc_front.proofs.laws.requests_count_once.Goals as goal

pub returns-clause-open : goal.returns-clause-open
returns-clause-open c = only_open

pub returns-clause-once : goal.returns-clause-once
returns-clause-once c = once

pub returns-clause-later : goal.returns-clause-later
returns-clause-later c = later
