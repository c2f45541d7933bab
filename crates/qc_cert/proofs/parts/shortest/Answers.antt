use Rattle.qc_cert.proofs.Shared.{lowest_has}
use Rattle.qc_cert.proofs.parts.shortest.Goals as goal

pub loop-event-init : goal.loop-event-init
loop-event-init c =
    let low = lowest_has c.args.set c.requires c.ranges.set.fits in
    record {
      within = low.0;
      has = low.1;
    }
