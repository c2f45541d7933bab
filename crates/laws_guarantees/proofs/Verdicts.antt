-- A round whose sites grant or clash comes to no shortage: where all that weigh were asked and granted, they weigh
-- enough.
use Rattle.std.proofs.Common.{◌≡◌, ℕ, zero, suc, ◌+◌, ◌-◌, ◌<◌, ◌≤◌, ◌==◌, ◌&&◌, ◌||◌, inl, inr, nat_le, nat_lt, Bool}
use Rattle.std.proofs.Common.{true, false, cond, List, [], ◌∷◌, map, length, Option, Some, None, refl, sym, ap, ◌∙◌}
use Rattle.std.proofs.Common.{subst, arith, eq-eqb}
use Rattle.std.specs.Prelude.{is_some, slice_get, unwrap_or}
use Rattle.std.specs.List.{AllByRecursion as Every, range_with_len}
use Rattle.std.specs.Option.{option_map_or, option_or}
use Rattle.std.proofs.lemmas.Bool.{leb-false, lt-ltb, ltb-false, ltb-true}
use Rattle.qc_list.specs.Vocabulary.{In}
use Rattle.qc_list.proofs.Members.{In-filter, In-first, In-second}
use Rattle.qc_stamp.specs.declared.stamp.TxId.{TxId}
use Rattle.qc_decl.specs.Vocabulary.{IsAccepted, append_need_of, plan_in, read_need_of}
use Rattle.qc_decl.specs.declared.declaration.Declaration.{Declaration}
use Rattle.qc_plan.specs.Vocabulary.{IsAdmitted, RoundState, all_noted, clash_at, closed_at, cyclic, first_clash}
use Rattle.qc_plan.specs.Vocabulary.{first_closed, has_granted, is_granted, need_of, refusal, settled, total, verdict}
use Rattle.qc_plan.specs.Vocabulary.{weighing, weight, weight_at}
use Rattle.qc_plan.specs.declared.plan.Plan.{Plan}
use Rattle.qc_plan.specs.declared.standing.Asked.{Asked}
use Rattle.qc_plan.specs.declared.standing.Standing.{Standing}
use Rattle.qc_plan.specs.declared.standing.Standing.TheVariants as standings
use Rattle.qc_plan.specs.declared.standing.Verdict.{Verdict}
use Rattle.qc_plan.specs.declared.standing.Verdict.TheVariants as verdicts
use Rattle.qc_promise.specs.Vocabulary.{weights_of}
use Rattle.std.proofs.Common.{◌⊎◌}
use Rattle.std.proofs.lemmas.Bool.{cases_eq}

pub range-in : (k a n : ℕ) → a ≤ k → k < a + n → In k (range_with_len a n)
range-in k a zero low high = absurd (omega arith)
range-in k a (suc n) low high = by (cases_eq k a) (λ above. range-in k (a + 1) n above (omega arith)) where
  by : (k ≡ a) ⊎ (k ≡ a → ⊥) → (a + 1 ≤ k → In k (range_with_len (a + 1) n)) → In k (range_with_len a (suc n))
  by (inl same) rest = inl same
  by (inr other) rest = inr (rest (omega (arith, other)))

-- nothing is known of an asked site, or it granted, or it told of a clash with such a transaction

abbrev pub GoodStanding : (TxId → Type 0) → Option Standing → Type 0
GoodStanding P None = Unit {0}
GoodStanding P (Some standings.Granted) = Unit {0}
GoodStanding P (Some (standings.Clash tx)) = P tx
GoodStanding P (Some (standings.Closed epoch)) = ⊥
GoodStanding P (Some standings.Missing) = ⊥

abbrev pub AreGood : (TxId → Type 0) → List Asked → Type 0
AreGood P asked = Every (λ (a : Asked). GoodStanding P a.standing) asked

-- what a round comes to then
abbrev pub GoodVerdict : (TxId → Type 0) → Verdict → Type 0
GoodVerdict P verdicts.Waiting = Unit {0}
GoodVerdict P verdicts.Met = Unit {0}
GoodVerdict P (verdicts.Closed epoch site) = ⊥
GoodVerdict P (verdicts.Clash tx site) = P tx
GoodVerdict P (verdicts.Short got need) = ⊥

module _ (P : TxId → Type 0) where
  none_closed : (asked : List Asked) → AreGood P asked → first_closed asked ≡ None
  none_closed [] all = refl
  none_closed (a ∷ asked) all = ap (λ (o : Option Verdict). option_or o (first_closed asked)) (by a.standing all.0)
      ∙ none_closed asked all.1
    where
      by : (o : Option Standing) → GoodStanding P o → closed_at a.site o ≡ None
      by None good = refl
      by (Some standings.Granted) good = refl
      by (Some (standings.Clash tx)) good = refl
      by (Some (standings.Closed epoch)) never = absurd never
      by (Some standings.Missing) never = absurd never

  abbrev IfClash : Option Verdict → Type 0
  IfClash None = Unit {0}
  IfClash (Some v) = GoodVerdict P v

  clashes : (asked : List Asked) → AreGood P asked → IfClash (first_clash asked)
  clashes [] all = tt
  clashes (a ∷ asked) all = by a.standing all.0 (clashes asked all.1)
    where
      by : (o : Option Standing) → GoodStanding P o → IfClash (first_clash asked)
          → IfClash (option_or (clash_at a.site o) (first_clash asked))
      by None good rest = rest
      by (Some standings.Granted) good rest = rest
      by (Some (standings.Clash tx)) good rest = good
      by (Some (standings.Closed epoch)) never rest = absurd never
      by (Some standings.Missing) never rest = absurd never

  -- where all are noted and nobody clashes, all granted

  abbrev pub AllGranted : List Asked → Type 0
  AllGranted asked = Every (λ (a : Asked). is_granted a.standing ≡ true) asked

  all_granted : (asked : List Asked) → AreGood P asked → all_noted asked ≡ true → first_clash asked ≡ None
      → AllGranted asked
  all_granted [] good noted free = tt
  all_granted (a ∷ asked) good noted free = by a.standing refl good.0 noted free (all_granted asked good.1)
    where
      by : (o : Option Standing) → a.standing ≡ o → GoodStanding P o → (is_some o && all_noted asked) ≡ true
          → option_or (clash_at a.site o) (first_clash asked) ≡ None
          → (all_noted asked ≡ true → first_clash asked ≡ None → AllGranted asked)
          → (is_granted a.standing ≡ true) × AllGranted asked
      by None is good_one noted free rest = absurd (let never : ⊥ = cc in never)
      by (Some standings.Granted) is good_one noted free rest = (ap is_granted is, rest noted free)
      by (Some (standings.Clash tx)) is good_one noted free rest = absurd (let never : ⊥ = cc in never)
      by (Some (standings.Closed epoch)) is never noted free rest = absurd never
      by (Some standings.Missing) is never noted free rest = absurd never

  pub granted_sites : (asked : List Asked) (site : ℕ) → AllGranted asked → In site (map (λ (a : Asked). a.site) asked)
      → has_granted asked site ≡ true
  granted_sites [] site all never = absurd never
  granted_sites (a ∷ asked) site all (inl same) =
      ap (λ (t : Bool). (t && is_granted a.standing) || has_granted asked site) (eq-eqb a.site site (sym same))
      ∙ ap (λ (t : Bool). t || has_granted asked site) all.0
  granted_sites (a ∷ asked) site all (inr later) =
      by ((a.site == site) && is_granted a.standing) (granted_sites asked site all.1 later)
    where
      by : (t : Bool) → has_granted asked site ≡ true → (t || has_granted asked site) ≡ true
      by true rest = refl
      by false rest = rest

  -- what the round comes to

  pub good_verdict : (r : RoundState) → AreGood P r.asked
      → ((length r.rest == 0) ≡ true → AllGranted r.asked → r.need ≤ weight (has_granted r.asked) r.weights)
      → GoodVerdict P (verdict r)
  good_verdict r good enough = by (all_noted r.asked) refl
    where
      got : ℕ
      got = weight (has_granted r.asked) r.weights

      settles : all_noted r.asked ≡ true → first_clash r.asked ≡ None → (met none_left : Bool)
          → nat_le r.need (weight (has_granted r.asked) r.weights) ≡ met → (length r.rest == 0) ≡ none_left
          → GoodVerdict P (cond met verdicts.Met (cond none_left
          (verdicts.Short (weight (has_granted r.asked) r.weights) r.need) verdicts.Waiting))
      settles noted free true none_left is empty = tt
      settles noted free false false is empty = tt
      settles noted free false true is empty =
          let low : weight (has_granted r.asked) r.weights < r.need =
          leb-false r.need (weight (has_granted r.asked) r.weights) is in
          let high : r.need ≤ weight (has_granted r.asked) r.weights =
          enough empty (all_granted r.asked good noted free) in
          omega arith

      refuses : all_noted r.asked ≡ true → (o : Option Verdict) → first_clash r.asked ≡ o → IfClash o
          → GoodVerdict P (unwrap_or o (settled r (weight (has_granted r.asked) r.weights)))
      refuses noted None free clash = settles noted free (nat_le r.need (weight (has_granted r.asked) r.weights))
          (length r.rest == 0) refl refl
      refuses noted (Some v) is clash = clash

      by : (noted : Bool) → all_noted r.asked ≡ noted
          → GoodVerdict P (cond noted (unwrap_or (refusal r.asked) (settled r (weight (has_granted r.asked) r.weights)))
          verdicts.Waiting)
      by false is = tt
      by true is =
          subst (λ (o : Option Verdict). GoodVerdict P
          (unwrap_or (option_or o (first_clash r.asked)) (settled r (weight (has_granted r.asked) r.weights))))
          (sym (none_closed r.asked good))
          (refuses is (first_clash r.asked) refl (clashes r.asked good))

-- weights

heavy_all : (weights : List ℕ) (sites : ℕ → Bool)
    → ((k : ℕ) → k < length weights → 0 < weight_at weights k → sites k ≡ true) → total weights ≤ weight sites weights
heavy_all [] sites all = omega arith
heavy_all (w ∷ ws) sites all = by w refl (sites 0) refl
    (heavy_all ws (λ site. sites (suc site)) (λ k low heavy. all (suc k) (omega arith) heavy))
  where
    by : (v : ℕ) → w ≡ v → (t : Bool) → sites 0 ≡ t → total ws ≤ weight (λ site. sites (suc site)) ws
        → w + total ws ≤ cond t w 0 + weight (λ site. sites (suc site)) ws
    by v is true within r = omega arith
    by zero is false other r = omega arith
    by (suc v) is false other r = absurd (let heavy : 0 < w = omega arith in
        let here : sites 0 ≡ true = all 0 (omega arith) heavy in let never : ⊥ = cc in never)

pub in_cyclic : (k n from : ℕ) → k < n → In k (cyclic n from)
in_cyclic k n from low = by (nat_lt k from) refl
  where
    by : (t : Bool) → nat_lt k from ≡ t → In k (cyclic n from)
    by true is = In-second k (range_with_len from (n - from)) (range_with_len 0 from)
        (range-in k 0 from (omega arith) (let l : k < from = ltb-true k from is in omega arith))
    by false is = In-first k (range_with_len from (n - from)) (range_with_len 0 from)
        (let l : from ≤ k = ltb-false k from is in range-in k from (n - from) (omega arith) (omega arith))

-- sites of positive weight, all granted, weigh as all do
pub order_heavy : (weights : List ℕ) (from : ℕ) (asked : List Asked)
    → ((k : ℕ) → In k (weighing weights (cyclic (length weights) from)) → has_granted asked k ≡ true)
    → total weights ≤ weight (has_granted asked) weights
order_heavy weights from asked all =
    heavy_all weights (has_granted asked) (λ k low heavy. all k
    (In-filter (λ site. nat_lt 0 (weight_at weights site)) k (cyclic (length weights) from)
    (in_cyclic k (length weights) from low) (lt-ltb 0 (weight_at weights k) heavy)))

-- no threshold is above all weight

plan_light : (decl : Declaration) (epoch : ℕ) → IsAccepted decl → (p : Plan) → plan_in decl epoch ≡ Some p
    → IsAdmitted p decl.kinds decl.objects
plan_light decl epoch accepted p is = by (epoch == 0) is
  where
    by : (t : Bool) → cond t None (slice_get decl.plans (epoch - 1)) ≡ Some p → IsAdmitted p decl.kinds decl.objects
    by true never = absurd (let no : ⊥ = cc in no)
    by false at = (accepted.good (epoch - 1) p at).admitted

pub read_light : (decl : Declaration) (epoch object inv : ℕ) → IsAccepted decl
    → read_need_of decl epoch object inv ≤ total (weights_of decl epoch)
read_light decl epoch object inv accepted = by (plan_in decl epoch) refl
  where
    by : (o : Option Plan) → plan_in decl epoch ≡ o
        → option_map_or (λ (p : Plan). need_of p.initial object inv) o 0 ≤ total
        (option_map_or (λ (p : Plan). p.weights) o [])
    by None is = omega arith
    by (Some p) is = (plan_light decl epoch accepted p is).initial_light object inv

pub append_light : (decl : Declaration) (epoch object event : ℕ) → IsAccepted decl
    → append_need_of decl epoch object event ≤ total (weights_of decl epoch)
append_light decl epoch object event accepted = by (plan_in decl epoch) refl
  where
    by : (o : Option Plan) → plan_in decl epoch ≡ o
        → option_map_or (λ (p : Plan). need_of p.last object event) o 0 ≤ total
        (option_map_or (λ (p : Plan). p.weights) o [])
    by None is = omega arith
    by (Some p) is = (plan_light decl epoch accepted p is).last_light object event
