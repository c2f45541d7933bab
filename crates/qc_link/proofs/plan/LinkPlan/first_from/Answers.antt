use Rattle.std.proofs.Common.{◌∙◌, min}
use Rattle.qc_link.proofs.Firsts.{first_receiver}
use Rattle.qc_link.proofs.plan.LinkPlan.first_from.Goals as goal

pub returns : goal.returns
returns c = c.min.ensures ∙ (λ i. min (c.first_to.ensures i) (c.first_to-2.ensures i))
    ∙ first_receiver c.args.from c.args.to c.args.ordinal c.args.self.now
