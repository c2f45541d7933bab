use Rattle.qc_accept.proofs.Thresholds.{threshold_found}
use Rattle.qc_accept.proofs.epochs.Listed.threshold.Goals as goal

pub returns : goal.returns
returns c = let found = threshold_found c.args.object c.args.place c.args.self.now.thresholds.entries in cc
