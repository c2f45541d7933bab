use Rattle.tests_due.proofs.Records.{given_at_last, later_kept, not_missed, pending_away, pending_dropped}
use Rattle.tests_due.proofs.Records.{pending_given, pending_stays, two_kept}
use Rattle.tests_due.proofs.journals.kept_records_are_taken.Goals as goal

pub returns-clause-all : goal.returns-clause-all
returns-clause-all c = two_kept

pub returns-clause-since : goal.returns-clause-since
returns-clause-since c = later_kept

pub returns-clause-given : goal.returns-clause-given
returns-clause-given c = pending_given

pub returns-clause-stays : goal.returns-clause-stays
returns-clause-stays c = pending_stays

pub returns-clause-dropped : goal.returns-clause-dropped
returns-clause-dropped c = pending_dropped

pub returns-clause-away : goal.returns-clause-away
returns-clause-away c = pending_away

pub returns-clause-at_last : goal.returns-clause-at_last
returns-clause-at_last c = given_at_last

pub returns-clause-elsewhere : goal.returns-clause-elsewhere
returns-clause-elsewhere c = not_missed
