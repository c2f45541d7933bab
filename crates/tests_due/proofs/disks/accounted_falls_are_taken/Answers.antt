use Rattle.tests_due.proofs.Falls.{another_waits, armed, armed_anew, armed_for_both, armed_in_opening, armed_over_crash}
use Rattle.tests_due.proofs.Falls.{armed_over_reading, counted}
use Rattle.tests_due.proofs.disks.accounted_falls_are_taken.Goals as goal

pub returns-clause-armed : goal.returns-clause-armed
returns-clause-armed c = armed

pub returns-clause-crash : goal.returns-clause-crash
returns-clause-crash c = armed_over_crash

pub returns-clause-reading : goal.returns-clause-reading
returns-clause-reading c = armed_over_reading

pub returns-clause-opening : goal.returns-clause-opening
returns-clause-opening c = armed_in_opening

pub returns-clause-replaced : goal.returns-clause-replaced
returns-clause-replaced c = armed_anew

pub returns-clause-both : goal.returns-clause-both
returns-clause-both c = armed_for_both

pub returns-clause-another : goal.returns-clause-another
returns-clause-another c = another_waits

pub returns-clause-counted : goal.returns-clause-counted
returns-clause-counted c = counted
