use Rattle.qc_accept.proofs.Thresholds.{entry_added}
use Rattle.qc_accept.proofs.epochs.Listed.add.Goals as goal

pub returns : goal.returns
returns c = entry_added c.args.entry.object c.args.entry.place c.args.entry.threshold _ _ _ _ c.in_ok-before.ensures.old
    c.in_ok-before.ensures.entries c.is_none.ensures
