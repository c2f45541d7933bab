use Rattle.tests_due.proofs.Falls.{fall_leaves, fall_passes, opening_passes, openings_pass, record_passes}
use Rattle.tests_due.proofs.disks.faults_that_never_come_are_refused.Goals as goal

pub returns-clause-in_record : goal.returns-clause-in_record
returns-clause-in_record c = record_passes

pub returns-clause-opening : goal.returns-clause-opening
returns-clause-opening c = opening_passes

pub returns-clause-openings : goal.returns-clause-openings
returns-clause-openings c = openings_pass

pub returns-clause-first : goal.returns-clause-first
returns-clause-first c = fall_passes

pub returns-clause-left : goal.returns-clause-left
returns-clause-left c = fall_leaves
