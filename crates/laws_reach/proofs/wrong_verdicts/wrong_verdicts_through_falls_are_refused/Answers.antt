use Rattle.laws_reach.proofs.WrongVerdicts.{active, differ, no_record, other_stamp, pending_rose, stamps_differ, unborn}
use Rattle.laws_reach.proofs.WrongVerdicts.{written_rose}
use Rattle.laws_reach.proofs.wrong_verdicts.wrong_verdicts_through_falls_are_refused.Goals as goal

pub returns-clause-no_record : goal.returns-clause-no_record
returns-clause-no_record c = no_record

pub returns-clause-other_stamp : goal.returns-clause-other_stamp
returns-clause-other_stamp c = other_stamp

pub returns-clause-pending_rose : goal.returns-clause-pending_rose
returns-clause-pending_rose c = pending_rose

pub returns-clause-written_rose : goal.returns-clause-written_rose
returns-clause-written_rose c = written_rose

pub returns-clause-unborn : goal.returns-clause-unborn
returns-clause-unborn c = unborn

pub returns-clause-active : goal.returns-clause-active
returns-clause-active c = active

pub returns-clause-differ : goal.returns-clause-differ
returns-clause-differ c = differ

pub returns-clause-stamps_differ : goal.returns-clause-stamps_differ
returns-clause-stamps_differ c = stamps_differ
