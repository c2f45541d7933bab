use Rattle.std.proofs.Common.{◌≡◌, ℕ, Some, sym, ap, ◌∙◌, arith}
use Rattle.std.specs.Prelude.{Result, Ok, Err, IfOk}
use Rattle.std.specs.declared.alloc.AllocError.{AllocError}
use Rattle.qc_plan.specs.declared.plan.Plan.{Plan}
use Rattle.qc_plan.specs.Vocabulary.{IsCloseWeight, RoundState, start}
use Rattle.qc_plan.proofs.Least.{close_weight_is_least}
use Rattle.qc_decl.specs.Vocabulary.{plan_in}
use Rattle.qc_epoch.specs.Vocabulary.{close_need, close_round, close_round_by}
use Rattle.qc_admin.proofs.closing.close_round.Goals as goal

-- there is one close weight
one_weight : (plan : Plan) (weight : ℕ) → IsCloseWeight plan weight → weight ≡ close_need plan
one_weight plan weight is =
    let other : IsCloseWeight plan (close_need plan) = close_weight_is_least plan in
    let less = is.least (close_need plan) other.closes in
    let more = other.least weight is.closes in
    omega arith

told : (result : Result RoundState AllocError) (some others : RoundState) → some ≡ others
    → IfOk result (λ round. round ≡ some) → IfOk result (λ round. round ≡ others)
told (Ok round) some others same is = is ∙ same
told (Err e) some others same is = tt

pub returns-in-Some : goal.returns-in-Some
returns-in-Some c =
    let plan : Plan = c.in-Some.plan.now in
    let there : plan_in c.args.decl.now c.args.epoch ≡ Some plan = c.in-Some.ensures.some in
    told c.start.result (start plan.weights 0 c.close_weight.result) (close_round c.args.decl.now c.args.epoch)
    (ap (start plan.weights 0) (one_weight plan c.close_weight.result c.close_weight.ensures)
    ∙ ap close_round_by (sym there))
    c.start.ensures
