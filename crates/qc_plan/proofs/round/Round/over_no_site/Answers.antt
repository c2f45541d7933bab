use Rattle.qc_plan.proofs.Rounds.{starts_nowhere}
use Rattle.qc_plan.proofs.round.Round.over_no_site.Goals as goal

pub returns : goal.returns
returns c = starts_nowhere c.new.result c.new-2.result.items c.args.from c.args.need c.new.ensures c.new-2.ensures.items
