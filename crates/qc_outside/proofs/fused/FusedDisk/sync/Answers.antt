use Rattle.qc_outside.proofs.Counted.{counted_fail, counted_stop}
use Rattle.qc_outside.proofs.fused.FusedDisk.sync.Goals as goal

pub returns-in-Some-Fail-clause-cause : goal.returns-in-Some-Fail-clause-cause
returns-in-Some-Fail-clause-cause g c = counted_fail _ _ _ c.burn.ensures.later c.in-Some-Fail.ensures.acted

pub returns-in-Some-Stop-clause-cause : goal.returns-in-Some-Stop-clause-cause
returns-in-Some-Stop-clause-cause g c = counted_stop _ _ _ _ c.fall.ensures.later c.burn.ensures.later
    c.in-Some-Stop.ensures.acted
