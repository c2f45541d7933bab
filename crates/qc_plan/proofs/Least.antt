-- The close weight, computed, is the least weight that meets every quorum.
use Rattle.std.proofs.Common.{◌≡◌, ℕ, zero, suc, ◌+◌, ◌-◌, ◌<◌, ◌≤◌, Bool, true, false, cond, max, List, [], ◌∷◌}
use Rattle.std.proofs.Common.{Option, Some, None, refl, ap, subst, arith}
use Rattle.std.specs.Prelude.{◌==◌, fold, slice_get, unwrap_or}
use Rattle.std.proofs.lemmas.Bool.{eqb-true, eqb-false}
use Rattle.qc_plan.specs.Vocabulary.{IsCloseWeight, closing, closing_list, closing_needs, need_of, total}
use Rattle.qc_plan.specs.declared.plan.Plan.{Plan}
use Rattle.qc_plan.proofs.Heaviness.{need_in}

-- the greatest value over a list, at least a start
abbrev top : {X : Type 0} → (X → ℕ) → ℕ → List X → ℕ
top h start xs = fold (λ most x. max most (h x)) start xs

-- it is no less than the start
above_start : {X : Type 0} (h : X → ℕ) (start : ℕ) (xs : List X) → start ≤ top h start xs
above_start h start [] = omega arith
above_start h start (x ∷ xs) = let more : max start (h x) ≤ top h (max start (h x)) xs =
    above_start h (max start (h x)) xs in omega arith

-- nor than the value of an element
above_each : {X : Type 0} (h : X → ℕ) (start : ℕ) (xs : List X) (place : ℕ) (x : X) → slice_get xs place ≡ Some x
    → h x ≤ top h start xs
above_each h start [] place x e = absurd (cc)
above_each h start (y ∷ xs) zero x e =
    let same : h y ≡ h x = ap h (cc) in let more : max start (h y) ≤ top h (max start (h y)) xs =
    above_start h (max start (h y)) xs in omega arith
above_each h start (y ∷ xs) (suc place) x e = above_each h (max start (h y)) xs place x e

-- and no greater than what bounds the start and each value
below_bound : {X : Type 0} (h : X → ℕ) (bound start : ℕ) (xs : List X) → start ≤ bound
    → ((place : ℕ) (x : X) → slice_get xs place ≡ Some x → h x ≤ bound) → top h start xs ≤ bound
below_bound h bound start [] low each = low
below_bound h bound start (x ∷ xs) low each = let here : h x ≤ bound = each zero x refl in
    below_bound h bound (max start (h x)) xs (omega arith) (λ place. each (suc place))

list_enough : (all : ℕ) (list : List ℕ) (place : ℕ) → closing all (need_in list place) ≤ closing_list all list
list_enough all list place = by (slice_get list place) refl
  where
    by : (o : Option ℕ) → slice_get list place ≡ o → closing all (unwrap_or o 0) ≤ closing_list all list
    by None e = omega arith
    by (Some need) e = above_each (closing all) 0 list place need e

list_least : (all bound : ℕ) (list : List ℕ) → ((place : ℕ) → closing all (need_in list place) ≤ bound)
    → closing_list all list ≤ bound
list_least all bound list each =
    below_bound (closing all) bound 0 list (omega arith)
    (λ place need e. subst (λ (o : Option ℕ). closing all (unwrap_or o 0) ≤ bound) e (each place))

needs_enough : (all : ℕ) (needs : List (List ℕ)) (object place : ℕ)
    → closing all (need_of needs object place) ≤ closing_needs all needs
needs_enough all needs object place = by (slice_get needs object) refl
  where
    by : (o : Option (List ℕ)) → slice_get needs object ≡ o
        → closing all (need_in (unwrap_or o []) place) ≤ closing_needs all needs
    by None e = omega arith
    by (Some list) e =
        let own : closing all (need_in list place) ≤ closing_list all list = list_enough all list place in
        let more : closing_list all list ≤ closing_needs all needs =
        above_each (closing_list all) 0 needs object list e in omega arith

needs_least : (all bound : ℕ) (needs : List (List ℕ))
    → ((object place : ℕ) → closing all (need_of needs object place) ≤ bound) → closing_needs all needs ≤ bound
needs_least all bound needs each =
    below_bound (closing_list all) bound 0 needs (omega arith)
    (λ object list e. list_least all bound list
    (λ place. subst (λ (o : Option (List ℕ)). closing all (need_in (unwrap_or o []) place) ≤ bound) e
    (each object place)))

-- what closes one threshold
closes_one : (all need weight : ℕ) → closing all need ≤ weight → 0 < need → all < weight + need
closes_one all need weight = by (need == 0) refl
  where
    by : (b : Bool) → (need == 0) ≡ b → cond b 0 (all + 1 - need) ≤ weight → 0 < need → all < weight + need
    by true e l some = let none : need ≡ 0 = eqb-true need 0 e in absurd (omega arith)
    by false e l some = omega arith

-- and the other way round
closed_one : (all need weight : ℕ) → (0 < need → all < weight + need) → closing all need ≤ weight
closed_one all need weight = by (need == 0) refl
  where
    by : (b : Bool) → (need == 0) ≡ b → (0 < need → all < weight + need) → cond b 0 (all + 1 - need) ≤ weight
    by true e l = omega arith
    by false e l = let apart : need ≡ 0 → ⊥ = eqb-false need 0 e in let some : 0 < need = omega arith in
        let enough : all < weight + need = l some in omega arith

pub close_weight_is_least : (plan : Plan)
    → IsCloseWeight plan (max (closing_needs (total plan.weights) plan.initial)
    (closing_needs (total plan.weights) plan.last))
close_weight_is_least plan =
    let all : ℕ = total plan.weights in
    let read : ℕ = closing_needs all plan.initial in
    let written : ℕ = closing_needs all plan.last in
    record {
      closes = record {
        initial = λ object inv. closes_one all (need_of plan.initial object inv) (max read written)
            (let l : closing all (need_of plan.initial object inv) ≤ read = needs_enough all plan.initial object inv in
            omega arith);
        last = λ object event. closes_one all (need_of plan.last object event) (max read written)
            (let l : closing all (need_of plan.last object event) ≤ written = needs_enough all plan.last object event in
            omega arith);
      };
      least = λ lighter closes.
          let reads : read ≤ lighter = needs_least all lighter plan.initial
          (λ object inv. closed_one all (need_of plan.initial object inv) lighter (closes.initial object inv)) in
          let writes : written ≤ lighter = needs_least all lighter plan.last
          (λ object event. closed_one all (need_of plan.last object event) lighter (closes.last object event)) in
          omega arith;
    }
