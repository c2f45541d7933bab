use Rattle.std.proofs.Common.{◌≡◌, ◌∙◌, ap, max, subst, sym}
use Rattle.qc_plan.specs.Vocabulary.{IsCloseWeight, closing_needs, total}
use Rattle.qc_plan.proofs.Least.{close_weight_is_least}
use Rattle.qc_plan.proofs.close.close_weight.Goals as goal

pub returns : goal.returns
returns c =
    let all : c.total-all.result ≡ total c.args.plan.now.weights = c.total-all.ensures.total
    ∙ ap total c.items.ensures in
    let computed : c.max.result ≡ max (closing_needs (total c.args.plan.now.weights) c.args.plan.now.initial)
    (closing_needs (total c.args.plan.now.weights) c.args.plan.now.last) = cc in
    subst (IsCloseWeight c.args.plan.now) (sym computed) (close_weight_is_least c.args.plan.now)
