use Rattle.laws_turns.proofs.WrongOnes.{ended, is_committed, listed, no_record, other_stamp, unborn, unlisted}
use Rattle.laws_turns.proofs.wrong.wrong_verdicts_are_refused.Goals as goal

pub returns-clause-no_record : goal.returns-clause-no_record
returns-clause-no_record c = no_record

pub returns-clause-other_stamp : goal.returns-clause-other_stamp
returns-clause-other_stamp c = other_stamp

pub returns-clause-committed : goal.returns-clause-committed
returns-clause-committed c = is_committed

pub returns-clause-unborn : goal.returns-clause-unborn
returns-clause-unborn c = unborn

pub returns-clause-ended : goal.returns-clause-ended
returns-clause-ended c = ended

pub returns-clause-unlisted : goal.returns-clause-unlisted
returns-clause-unlisted c = unlisted

pub returns-clause-listed : goal.returns-clause-listed
returns-clause-listed c = listed
