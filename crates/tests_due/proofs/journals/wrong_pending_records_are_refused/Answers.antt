use Rattle.tests_due.proofs.Records.{pending_alone, pending_before, pending_doubled, pending_gone, pending_late}
use Rattle.tests_due.proofs.Records.{pending_takes}
use Rattle.tests_due.proofs.journals.wrong_pending_records_are_refused.Goals as goal

pub returns-clause-alone : goal.returns-clause-alone
returns-clause-alone c = pending_alone

pub returns-clause-before : goal.returns-clause-before
returns-clause-before c = pending_before

pub returns-clause-forgotten : goal.returns-clause-forgotten
returns-clause-forgotten c = pending_takes

pub returns-clause-doubled : goal.returns-clause-doubled
returns-clause-doubled c = pending_doubled

pub returns-clause-late : goal.returns-clause-late
returns-clause-late c = pending_late

pub returns-clause-gone : goal.returns-clause-gone
returns-clause-gone c = pending_gone
