use Rattle.std.proofs.Common.{◌∙◌, min}
use Rattle.qc_link.proofs.Firsts.{first_sender}
use Rattle.qc_link.proofs.plan.LinkPlan.first.Goals as goal

pub returns : goal.returns
returns c = c.min.ensures ∙ (λ i. min (c.first_from.ensures i) (c.first_from-2.ensures i))
    ∙ first_sender c.args.from c.args.to c.args.ordinal c.args.self.now
