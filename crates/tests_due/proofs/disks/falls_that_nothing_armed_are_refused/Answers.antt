use Rattle.tests_due.proofs.Falls.{armed_after, armed_another, armed_to_fail, armed_to_stop, counted_once, is_replaced}
use Rattle.tests_due.proofs.Falls.{one_is_kept, stops_twice, unarmed}
use Rattle.tests_due.proofs.disks.falls_that_nothing_armed_are_refused.Goals as goal

pub returns-clause-unarmed : goal.returns-clause-unarmed
returns-clause-unarmed c = unarmed

pub returns-clause-after : goal.returns-clause-after
returns-clause-after c = armed_after

pub returns-clause-another : goal.returns-clause-another
returns-clause-another c = armed_another

pub returns-clause-fails : goal.returns-clause-fails
returns-clause-fails c = armed_to_stop

pub returns-clause-stops : goal.returns-clause-stops
returns-clause-stops c = armed_to_fail

pub returns-clause-twice : goal.returns-clause-twice
returns-clause-twice c = stops_twice

pub returns-clause-kept : goal.returns-clause-kept
returns-clause-kept c = one_is_kept

pub returns-clause-replaced : goal.returns-clause-replaced
returns-clause-replaced c = is_replaced

pub returns-clause-counted : goal.returns-clause-counted
returns-clause-counted c = counted_once
