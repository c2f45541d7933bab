use Rattle.tests_due.proofs.Falls.{early_after_damage, early_after_reading, early_in_opening, early_in_record}
use Rattle.tests_due.proofs.Falls.{early_in_second}
use Rattle.tests_due.proofs.disks.falls_that_come_early_are_refused.Goals as goal

pub returns-clause-in_record : goal.returns-clause-in_record
returns-clause-in_record c = early_in_record

pub returns-clause-second : goal.returns-clause-second
returns-clause-second c = early_in_second

pub returns-clause-opening : goal.returns-clause-opening
returns-clause-opening c = early_in_opening

pub returns-clause-reading : goal.returns-clause-reading
returns-clause-reading c = early_after_reading

pub returns-clause-damage : goal.returns-clause-damage
returns-clause-damage c = early_after_damage
