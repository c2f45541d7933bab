use Rattle.std.proofs.Common.{◌∙◌, min}
use Rattle.qc_link.proofs.Firsts.{first_ordinal}
use Rattle.qc_link.proofs.plan.LinkPlan.first_to.Goals as goal

pub returns : goal.returns
returns c = c.min.ensures ∙ (λ i. min (c.first_of.ensures i) (c.first_of-2.ensures i))
    ∙ first_ordinal c.args.from c.args.to c.args.ordinal c.args.self.now
