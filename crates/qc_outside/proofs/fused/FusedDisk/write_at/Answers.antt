use Rattle.qc_outside.proofs.Images.{since_weaker, image_wrote, tells_weaker}
use Rattle.qc_outside.specs.Vocabulary.{IsImage, Since, Write, wrote}
use Rattle.qc_outside.proofs.Counted.{counted_fail, counted_stop}
use Rattle.qc_outside.proofs.fused.FusedDisk.write_at.Goals as goal

pub returns-in-Some-Fail-clause-cause : goal.returns-in-Some-Fail-clause-cause
returns-in-Some-Fail-clause-cause g c = counted_fail _ _ _ c.burn.ensures.later c.in-Some-Fail.ensures.acted

pub returns-in-Some-Stop-clause-cause : goal.returns-in-Some-Stop-clause-cause
returns-in-Some-Stop-clause-cause g c = counted_stop _ _ _ _ c.fall.ensures.later c.burn.ensures.later
    c.in-Some-Stop.ensures.acted

pub returns-in-Some-Stop-clause-moments : goal.returns-in-Some-Stop-clause-moments
returns-in-Some-Stop-clause-moments g c =
    let w : Write = record { at = c.args.at; bytes = c.args.bytes.now } in
    tells_weaker _ _ (λ old new. Since (IsImage old.now) old new) (λ old new. Since (IsImage (wrote old.now w)) old new)
    (λ old new since. since_weaker (IsImage old.now) (IsImage (wrote old.now w)) old new (image_wrote old.now w) since)
    c.fall.ensures.moments
