use Rattle.qc_entry.proofs.Placed.{picked-next}
use Rattle.qc_entry.proofs.arrivals.picked.Goals as goal

pub places-preserved : goal.places-preserved
places-preserved c =
    picked-next c.args.lines.now c.args.places.now c.places.place-index 0 c.places.them.items _ c.places-test.true
    c.in_ok-pick.ensures c.places.invariant
