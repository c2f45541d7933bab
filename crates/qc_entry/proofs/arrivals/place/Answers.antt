use Rattle.std.proofs.Common.{rules, ◌<◌, length, arith}
use Rattle.qc_entry.proofs.Placed.{placed-more}
use Rattle.qc_entry.proofs.arrivals.place.Goals as goal

pub lines-preserved : goal.lines-preserved
lines-preserved c =
    let more : c.lines.placed < length c.args.lines.now = search rules in
    record {
      within = omega arith;
      each =
          λ o. placed-more c.args.lines.now c.lines.placed o _ _ _ more (c.lines.invariant.each o)
          (c.in_ok-put.ensures.ok o);
    }
