use Rattle.std.proofs.Common.{◌≡◌, ℕ, ◌+◌, ◌<◌, ◌≤◌, List, arith, subst}
use Rattle.qc_plan.specs.Vocabulary.{RoundState, has_granted, need_of, total, verdict, weight}
use Rattle.qc_plan.specs.declared.standing.Verdict.TheVariants.{Met}
use Rattle.qc_plan.proofs.Meet.{meet}
use Rattle.qc_plan.proofs.RoundsMet.{met_weighs}
use Rattle.qc_plan.proofs.round_laws.met_rounds_share_a_site.Goals as goal

-- what a met round weighs by the weights of its plan
weighs : (r : RoundState) (weights : List ℕ) (need : ℕ) → r.weights ≡ weights → r.need ≡ need → verdict r ≡ Met
    → need ≤ weight (has_granted r.asked) weights
weighs r weights need w n met =
    subst (λ (ws : List ℕ). need ≤ weight (has_granted r.asked) ws) w
    (subst (λ m. m ≤ weight (has_granted r.asked) r.weights) n (met_weighs r met))

pub returns : goal.returns
returns c plan kinds objects object number kind inv event reads appends admitted numbered typed low known dependent
    rw_is rn rm aw an am =
    let heavy : total plan.weights < need_of plan.initial object inv + need_of plan.last object event =
    admitted.meets object number kind inv event numbered typed low known dependent in
    let first : need_of plan.initial object inv ≤ weight (has_granted reads.asked) plan.weights =
    weighs reads plan.weights (need_of plan.initial object inv) rw_is rn rm in
    let second : need_of plan.last object event ≤ weight (has_granted appends.asked) plan.weights =
    weighs appends plan.weights (need_of plan.last object event) aw an am in
    meet plan.weights (has_granted reads.asked) (has_granted appends.asked) (omega arith)
