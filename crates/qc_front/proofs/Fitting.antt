-- What holds of a front end is what its calls rely on.
use Rattle.std.proofs.Common.{◌≡◌, ℕ, ◌+◌, ◌-◌, ◌%◌, ◌^◌, ◌<◌, ◌≤◌, ◌==◌, nat_lt, Bool, true, false, cond, ◌⊎◌, inl}
use Rattle.std.proofs.Common.{inr, List, [], ◌++◌, length, Option, Some, None, refl, sym, ap, subst, arith}
use Rattle.std.specs.Prelude.{slice_get}
use Rattle.std.specs.Option.{option_map_or}
use Rattle.std.proofs.lemmas.List.{length-append, length-map}
use Rattle.qc_decl.specs.declared.declaration.Declaration.{Declaration}
use Rattle.qc_decl.specs.Vocabulary.{IsAccepted, IsGood, append_need_of, first_site, plan_in, read_need_of}
use Rattle.qc_plan.specs.declared.plan.Plan.{Plan}
use Rattle.qc_plan.specs.declared.standing.Asked.{Asked}
use Rattle.qc_plan.specs.Vocabulary.{RoundState, cyclic, weighing, weight_at}
use Rattle.qc_front.specs.declared.doing.Doing.{Doing}
use Rattle.qc_front.specs.declared.doing.Doing.TheVariants.{Idle, Reading, Appending}
use Rattle.qc_front.specs.declared.front.Front.{Front}
use Rattle.qc_front.specs.declared.transaction.Transaction.{Transaction}
use Rattle.qc_front.specs.Vocabulary.{AsksFew, BegunHolds, FrontFits, FrontHolds, HasRoom, IsRound, sites_of}
use Rattle.qc_front.specs.Vocabulary.{weights_of}
use Rattle.qc_plan.proofs.Rounds.{weighing_none, length-cyclic}
use Rattle.qc_list.proofs.Members.{length-filter}

-- the weights of an epoch: one for each site, or none

pub plan_weights : (decl : Declaration) (epoch : ℕ) → IsAccepted decl → (p : Plan) → plan_in decl epoch ≡ Some p
    → length p.weights ≡ decl.sites
plan_weights decl epoch accepted p is = by (epoch == 0) is
  where
    by : (t : Bool) → cond t None (slice_get decl.plans (epoch - 1)) ≡ Some p → length p.weights ≡ decl.sites
    by true never = let no_way : ⊥ = cc in absurd no_way
    by false at = let good : IsGood decl p = accepted.good (epoch - 1) p at in good.weights

pub record FewWeights (decl : Declaration) (weights : List ℕ) : Type 0 where
  pub either : (weights ≡ []) ⊎ (length weights ≡ decl.sites)

weights_few : (decl : Declaration) (epoch : ℕ) → IsAccepted decl → FewWeights decl (weights_of decl epoch)
weights_few decl epoch accepted = by (plan_in decl epoch) refl
  where
    by : (o : Option Plan) → plan_in decl epoch ≡ o → FewWeights decl (option_map_or (λ (p : Plan). p.weights) o [])
    by None is = record { either = inl refl }
    by (Some p) is = record { either = inr (plan_weights decl epoch accepted p is) }

-- a round over them asks few sites

weighing_few : (decl : Declaration) (weights : List ℕ) (client : ℕ) → IsAccepted decl → FewWeights decl weights
    → length (weighing weights (cyclic (length weights) (first_site decl client))) ≤ 16
weighing_few decl weights client accepted few = by few.either
  where
    by : (weights ≡ []) ⊎ (length weights ≡ decl.sites)
        → length (weighing weights (cyclic (length weights) (first_site decl client))) ≤ 16
    by (inl none) = subst (λ (ws : List ℕ). length (weighing ws (cyclic (length ws) (first_site decl client))) ≤ 16)
        (sym none)
        (subst (λ (ss : List ℕ). length ss ≤ 16) (sym (weighing_none (cyclic 0 (first_site decl client))))
        (omega arith))
    by (inr many) =
        let sites : decl.sites ≤ 16 = accepted.sites in
        let some : 0 < decl.sites = accepted.has_site in
        let low : client % decl.sites < decl.sites = omega arith in
        let whole : length (cyclic (length weights) (first_site decl client)) ≡ length weights =
        length-cyclic (length weights) (first_site decl client) (omega arith) in
        let fewer : length (weighing weights (cyclic (length weights) (first_site decl client))) ≤ length
        (cyclic (length weights) (first_site decl client)) =
        length-filter (λ site. nat_lt 0 (weight_at weights site))
        (cyclic (length weights) (first_site decl client)) in
        omega arith

round_few : (decl : Declaration) (client epoch need : ℕ) (r : RoundState) → IsAccepted decl
    → IsRound decl client epoch need r → length r.asked ≤ 16
round_few decl client epoch need r accepted is =
    let all : length (sites_of r.asked ++ r.rest) ≡ length
    (weighing (weights_of decl epoch) (cyclic (length (weights_of decl epoch)) (first_site decl client))) =
    ap length is.sites in
    let both : length (sites_of r.asked ++ r.rest) ≡ length (sites_of r.asked) + length r.rest =
    length-append (sites_of r.asked) r.rest in
    let same : length (sites_of r.asked) ≡ length r.asked = length-map r.asked (λ (a : Asked). a.site) in
    let few : length (weighing (weights_of decl epoch)
    (cyclic (length (weights_of decl epoch)) (first_site decl client))) ≤ 16 =
    weighing_few decl (weights_of decl epoch) client accepted (weights_few decl epoch accepted) in
    omega arith

few_in : (decl : Declaration) (client : ℕ) (t : Option Transaction) (doing : Doing) → IsAccepted decl
    → BegunHolds decl client t doing → AsksFew doing
few_in decl client t Idle accepted h = tt
few_in decl client None (Reading object inv calls round) accepted h = let never : ⊥ = cc in absurd never
few_in decl client None (Appending object inv event calls round) accepted h = let never : ⊥ = cc in absurd never
few_in decl client (Some t) (Reading object inv calls round) accepted h =
    round_few decl client t.begun.epoch (read_need_of decl t.begun.epoch object inv) round accepted h.1.round_is
few_in decl client (Some t) (Appending object inv event calls round) accepted h =
    round_few decl client t.begun.epoch (append_need_of decl t.begun.epoch object event) round accepted h.1.round_is

room_in : (decl : Declaration) (client : ℕ) (t : Option Transaction) (doing : Doing) → BegunHolds decl client t doing
    → HasRoom t doing
room_in decl client None Idle h = tt
room_in decl client None (Reading object inv calls round) h = let never : ⊥ = cc in absurd never
room_in decl client None (Appending object inv event calls round) h = let never : ⊥ = cc in absurd never
room_in decl client (Some t) Idle h = h.1
room_in decl client (Some t) (Reading object inv calls round) h = h.1.room
room_in decl client (Some t) (Appending object inv event calls round) h = h.1.room

pub front_ends_fit : (decl : Declaration) (front : Front) → IsAccepted decl → FrontHolds decl front
    → front.count < 2 ^ 32 - 1
    → FrontFits front
front_ends_fit decl front accepted h count = record {
  count = count;
  room = room_in decl front.client front.transaction front.doing h;
  few = few_in decl front.client front.transaction front.doing accepted h;
}
