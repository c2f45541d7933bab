-- Plans without fault are admitted, and the other way round.
use Rattle.std.proofs.Common.{◌≡◌, ℕ, ◌+◌, ◌<◌, ◌≤◌, Bool, true, false, cond, List, Option, Some, None, length, get_or}
use Rattle.std.proofs.Common.{[], refl, sym, ap, ◌∙◌, arith}
use Rattle.std.specs.Prelude.{◌==◌, ◌&&◌, nat_lt, slice_get, option_and_then, IsTrue}
use Rattle.std.specs.List.{list_any}
use Rattle.std.specs.Option.{option_or}
use Rattle.std.proofs.lemmas.Bool.{eqb-false, leb-false, lt-leb, ne_eqb, or_from, or_parts}
use Rattle.std.proofs.lemmas.Option.{slice_get_within}
use Rattle.qc_plan.specs.Vocabulary.{IsAdmitted, can_miss, fault_of, heavy_fault, is_heavy, kind_fault, need_of}
use Rattle.qc_plan.specs.Vocabulary.{object_fault, pair_fault, total}
use Rattle.qc_plan.specs.declared.fault.PlanFault.TheVariants.{NoWeight, TooHeavy, CanMiss}
use Rattle.qc_plan.specs.declared.plan.Plan.{Plan}
use Rattle.qc_table.specs.Vocabulary.{depends, events_of}
use Rattle.qc_list.specs.Vocabulary.{first_below}
use Rattle.qc_list.proofs.Search.{below_none, none_from, none_below, none_parts}
use Rattle.qc_table.specs.declared.kind.Kind.{Kind}
use Rattle.qc_plan.proofs.Heaviness.{all_light, none_heavy}

-- no fault means that the test of it failed
passed : {A : Type 0} (b : Bool) (fault : A) (rest : Option A) → cond b (Some fault) rest ≡ None
    → (b ≡ false) × (rest ≡ None)
passed true fault rest e = absurd (cc)
passed false fault rest e = (refl, e)

-- and the other way round
failed : {A : Type 0} (b : Bool) (fault : A) (rest : Option A) → b ≡ false → rest ≡ None
    → cond b (Some fault) rest ≡ None
failed true fault rest passes e = absurd (cc)
failed false fault rest passes e = e

second : (a b : Bool) → (a && b) ≡ false → IsTrue a → b ≡ false
second true b e t = e
second false b e t = absurd (cc)

neither : (a b : Bool) → (IsTrue a → b ≡ false) → (a && b) ≡ false
neither true b other = other refl
neither false b other = refl

module _ (plan : Plan) (kinds : List Kind) (objects : List ℕ) where
  light_at : first_below (length objects) (heavy_fault plan) ≡ None → (object : ℕ) → object < length objects
      → is_heavy plan object ≡ false
  light_at e object l = (passed (is_heavy plan object) (TooHeavy object) None
      (none_below (length objects) (heavy_fault plan) e object l)).0

  met_at : first_below (length objects) (object_fault plan kinds objects) ≡ None
      → (object number : ℕ) (kind : Kind) (inv event : ℕ)
      → slice_get objects object ≡ Some number → slice_get kinds number ≡ Some kind
      → inv < kind.table.invs → event < length (events_of kind.table.rows) → IsTrue (depends kind.relation inv event)
      → total plan.weights < need_of plan.initial object inv + need_of plan.last object event
  met_at e object number kind inv event numbered typed low known dependent =
      let own : object_fault plan kinds objects object ≡ kind_fault plan object kind =
      ap (λ (o : Option ℕ). option_and_then (kind_fault plan object) (option_and_then (slice_get kinds) o)) numbered
      ∙ ap (option_and_then (kind_fault plan object)) typed in
      let here : kind_fault plan object kind ≡ None = sym own
      ∙ none_below (length objects) (object_fault plan kinds objects) e object
      (slice_get_within objects object number numbered) in
      let pair : pair_fault plan kind object inv event ≡ None =
      none_below (length (events_of kind.table.rows)) (pair_fault plan kind object inv)
      (none_below kind.table.invs (λ i. first_below (length (events_of kind.table.rows))
      (pair_fault plan kind object i)) here inv low) event known in
      leb-false _ _ (second (depends kind.relation inv event) (can_miss plan object inv event)
      (passed (depends kind.relation inv event && can_miss plan object inv event)
      (CanMiss object inv event) None pair).0 dependent)

  pub admitted : length plan.initial ≤ length objects → length plan.last ≤ length objects
      → fault_of plan kinds objects ≡ None → IsAdmitted plan kinds objects
  admitted initial last e =
      let weighed : ((total plan.weights == 0) ≡ false)
      × (option_or (first_below (length objects) (heavy_fault plan))
      (first_below (length objects) (object_fault plan kinds objects)) ≡ None) =
      passed (total plan.weights == 0) NoWeight
      (option_or (first_below (length objects) (heavy_fault plan))
      (first_below (length objects) (object_fault plan kinds objects))) e in
      let none : (first_below (length objects) (heavy_fault plan) ≡ None)
      × (first_below (length objects) (object_fault plan kinds objects) ≡ None) =
      none_parts (first_below (length objects) (heavy_fault plan))
      (first_below (length objects) (object_fault plan kinds objects)) weighed.1 in
      record {
        weighs = (let apart : total plan.weights ≡ 0 → ⊥ = eqb-false (total plan.weights) 0 weighed.0 in omega arith);
        initial_light = all_light (total plan.weights) plan.initial (length objects) initial
            (λ object l. (or_parts (list_any (nat_lt (total plan.weights)) (get_or plan.initial object []))
            (list_any (nat_lt (total plan.weights)) (get_or plan.last object [])) (light_at none.0 object l)).0);
        last_light = all_light (total plan.weights) plan.last (length objects) last
            (λ object l. (or_parts (list_any (nat_lt (total plan.weights)) (get_or plan.initial object []))
            (list_any (nat_lt (total plan.weights)) (get_or plan.last object [])) (light_at none.0 object l)).1);
        meets = met_at none.1;
      }

  -- an admitted plan has no pair that can miss each other
  pair_none : IsAdmitted plan kinds objects → (object number : ℕ) (kind : Kind) → slice_get objects object ≡ Some number
      → slice_get kinds number ≡ Some kind
      → (inv event : ℕ) → inv < kind.table.invs → event < length (events_of kind.table.rows)
      → pair_fault plan kind object inv event ≡ None
  pair_none a object number kind numbered typed inv event low known =
      failed (depends kind.relation inv event && can_miss plan object inv event) (CanMiss object inv event) None
      (neither (depends kind.relation inv event) (can_miss plan object inv event)
      (λ dependent. lt-leb _ _ (a.meets object number kind inv event numbered typed low known dependent))) refl

  object_none : IsAdmitted plan kinds objects → (object : ℕ) → object_fault plan kinds objects object ≡ None
  object_none a object = by (slice_get objects object) refl
    where
      typed : (number : ℕ) → slice_get objects object ≡ Some number → (o : Option Kind) → slice_get kinds number ≡ o
          → option_and_then (kind_fault plan object) o ≡ None
      typed number n None e = refl
      typed number n (Some kind) e =
          below_none kind.table.invs (λ inv. first_below (length (events_of kind.table.rows))
          (pair_fault plan kind object inv))
          (λ inv low. below_none (length (events_of kind.table.rows)) (pair_fault plan kind object inv)
          (λ event known. pair_none a object number kind n e inv event low known))

      by : (o : Option ℕ) → slice_get objects object ≡ o
          → option_and_then (kind_fault plan object) (option_and_then (slice_get kinds) o) ≡ None
      by None e = refl
      by (Some number) e = typed number e (slice_get kinds number) refl

  pub faultless : IsAdmitted plan kinds objects → fault_of plan kinds objects ≡ None
  faultless a =
      let weighs : 0 < total plan.weights = a.weighs in
      failed (total plan.weights == 0) NoWeight
      (option_or (first_below (length objects) (heavy_fault plan))
      (first_below (length objects) (object_fault plan kinds objects)))
      (ne_eqb (total plan.weights) 0 (λ e. omega arith))
      (none_from (first_below (length objects) (heavy_fault plan))
      (first_below (length objects) (object_fault plan kinds objects))
      (below_none (length objects) (heavy_fault plan)
      (λ object l. failed (is_heavy plan object) (TooHeavy object) None
      (or_from (list_any (nat_lt (total plan.weights)) (get_or plan.initial object []))
      (list_any (nat_lt (total plan.weights)) (get_or plan.last object []))
      (none_heavy (total plan.weights) plan.initial a.initial_light object)
      (none_heavy (total plan.weights) plan.last a.last_light object)) refl))
      (below_none (length objects) (object_fault plan kinds objects) (λ object l. object_none a object)))
