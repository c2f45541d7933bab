-- What an accepted declaration gives: relations are exact, and quorums of an invocation and an event on which it
-- depends meet in each epoch (weighted voting, Gifford 1979; Herlihy 1986).
use Rattle.std.proofs.Common.{◌≡◌, ℕ, suc, ◌<◌, ◌≤◌, ◌+◌, ◌==◌, Bool, true, cond, false, IsTrue, List, [], ◌∷◌, length}
use Rattle.std.proofs.Common.{slice_get, Option, Some, None, refl, ap, subst, arith}
use Rattle.std.specs.Prelude.{option_and_then, ◌-◌}
use Rattle.std.specs.Option.{option_map_or}
use Rattle.std.proofs.lemmas.Option.{slice_get_within}
use Rattle.qc_table.specs.declared.kind.Kind.{Kind}
use Rattle.qc_table.specs.Vocabulary.{depends, event, event_number, events_of}
use Rattle.qc_table.proofs.Numbered.{number_is}
use Rattle.qc_cert.specs.Vocabulary.{IsExact}
use Rattle.qc_plan.specs.declared.plan.Plan.{Plan}
use Rattle.qc_plan.specs.Vocabulary.{Closes as Closing, IsShared, need_of, total, weight}
use Rattle.qc_plan.proofs.Meet.{meet}
use Rattle.qc_decl.specs.declared.declaration.Declaration.{Declaration}
use Rattle.qc_decl.specs.Vocabulary.{IsAccepted, append_need_of, plan_in, read_need_of}
use Rattle.theory_onecopy.specs.Vocabulary.{depends_at, kind_at}
use Rattle.theory_machine.specs.Vocabulary.{weights_of}

-- the place of an epoch's plan
placed : (decl : Declaration) (epoch : ℕ) (plan : Plan) → plan_in decl epoch ≡ Some plan
    → (place : ℕ) × (slice_get decl.plans place ≡ Some plan)
placed decl epoch plan h = by (epoch == 0) h
  where
    by : (t : Bool) → cond t None (slice_get decl.plans (epoch - 1)) ≡ Some plan
        → (place : ℕ) × (slice_get decl.plans place ≡ Some plan)
    by true e = absurd (let never : ⊥ = cc in never)
    by false e = (epoch - 1, e)

-- the number of a type
numbered : (decl : Declaration) (object : ℕ) (kind : Kind) → kind_at decl object ≡ Some kind
    → (number : ℕ) × (slice_get decl.objects object ≡ Some number) × (slice_get decl.kinds number ≡ Some kind)
numbered decl object kind typed = by (slice_get decl.objects object) refl typed
  where
    by : (o : Option ℕ) → slice_get decl.objects object ≡ o → option_and_then (slice_get decl.kinds) o ≡ Some kind
        → (number : ℕ) × (slice_get decl.objects object ≡ Some number) × (slice_get decl.kinds number ≡ Some kind)
    by None e h = absurd (let never : ⊥ = cc in never)
    by (Some number) e h = (number, e, h)

module _ (decl : Declaration) (accepted : IsAccepted decl) where
  pub exact : (object : ℕ) (kind : Kind) → kind_at decl object ≡ Some kind → IsExact kind
  exact object kind typed = let n = numbered decl object kind typed in (accepted.right n.0 kind n.2).exact

  pub record IsHeavy (epoch object inv number : ℕ) : Type 0 where
    pub heavy : total (weights_of decl epoch) < read_need_of decl epoch object inv + append_need_of decl epoch object
        number
    pub light : read_need_of decl epoch object inv ≤ total (weights_of decl epoch)
    pub light_last : append_need_of decl epoch object number ≤ total (weights_of decl epoch)

  -- thresholds of an invocation and an event on which it depends
  pub heavy : (epoch object inv number : ℕ) (kind : Kind) (plan : Plan) → plan_in decl epoch ≡ Some plan
      → kind_at decl object ≡ Some kind → inv < kind.table.invs → number < length (events_of kind.table.rows)
      → IsTrue (depends_at decl object inv number) → IsHeavy epoch object inv number
  heavy epoch object inv number kind plan is typed low known dep =
      let f = placed decl epoch plan is in
      let n = numbered decl object kind typed in
      let admitted = (accepted.good f.0 plan f.1).admitted in
      let dep' : IsTrue (depends kind.relation inv number) =
      subst (λ (o : Option Kind). IsTrue (option_map_or (λ (k : Kind). depends k.relation inv number) o false))
      typed dep in
      let weights : weights_of decl epoch ≡ plan.weights =
      ap (λ (o : Option Plan). option_map_or (λ (p : Plan). p.weights) o []) is in
      let reads : read_need_of decl epoch object inv ≡ need_of plan.initial object inv =
      ap (λ (o : Option Plan). option_map_or (λ (p : Plan). need_of p.initial object inv) o 0) is in
      let writes : append_need_of decl epoch object number ≡ need_of plan.last object number =
      ap (λ (o : Option Plan). option_map_or (λ (p : Plan). need_of p.last object number) o 0) is in
      let all : total (weights_of decl epoch) ≡ total plan.weights = ap total weights in
      let h : total plan.weights < need_of plan.initial object inv + need_of plan.last object number =
      admitted.meets object n.0 kind inv number n.1 n.2 low known dep' in
      let g : need_of plan.initial object inv ≤ total plan.weights = admitted.initial_light object inv in
      let k : need_of plan.last object number ≤ total plan.weights = admitted.last_light object number in
      record { heavy = omega arith; light = omega arith; light_last = omega arith }

  -- an initial quorum and a final one share a site
  pub shared : (epoch object inv number : ℕ) (a b : ℕ → Bool) → IsHeavy epoch object inv number
      → read_need_of decl epoch object inv ≤ weight a (weights_of decl epoch)
      → append_need_of decl epoch object number ≤ weight b (weights_of decl epoch)
      → IsShared (weights_of decl epoch) a b
  shared epoch object inv number a b h x y = let z = h.heavy in meet (weights_of decl epoch) a b (omega arith)

  -- and neither threshold is 0
  pub needed : (epoch object inv number : ℕ) → IsHeavy epoch object inv number
      → 0 < append_need_of decl epoch object number
  needed epoch object inv number h = let x = h.heavy in let y = h.light in omega arith

  pub read_needed : (epoch object inv number : ℕ) → IsHeavy epoch object inv number
      → 0 < read_need_of decl epoch object inv
  read_needed epoch object inv number h = let x = h.heavy in let y = h.light_last in omega arith

  -- sites of the close weight share one with each quorum
  pub closed_read : (epoch object inv number : ℕ) (plan : Plan) (a b : ℕ → Bool) → plan_in decl epoch ≡ Some plan
      → IsHeavy epoch object inv number → Closing plan (weight a plan.weights)
      → read_need_of decl epoch object inv ≤ weight b (weights_of decl epoch) → IsShared plan.weights a b
  closed_read epoch object inv number plan a b is h c q =
      let weights : weights_of decl epoch ≡ plan.weights =
      ap (λ (o : Option Plan). option_map_or (λ (p : Plan). p.weights) o []) is in
      let reads : read_need_of decl epoch object inv ≡ need_of plan.initial object inv =
      ap (λ (o : Option Plan). option_map_or (λ (p : Plan). need_of p.initial object inv) o 0) is in
      let n : 0 < need_of plan.initial object inv =
      subst (λ (x : ℕ). 0 < x) reads (read_needed epoch object inv number h) in
      let m : need_of plan.initial object inv ≤ weight b plan.weights =
      subst (λ (ws : List ℕ). need_of plan.initial object inv ≤ weight b ws) weights
      (subst (λ (x : ℕ). x ≤ weight b (weights_of decl epoch)) reads q) in
      let t = c.initial object inv n in
      meet plan.weights a b (omega arith)

  pub closed_last : (epoch object inv number : ℕ) (plan : Plan) (a b : ℕ → Bool) → plan_in decl epoch ≡ Some plan
      → IsHeavy epoch object inv number → Closing plan (weight a plan.weights)
      → append_need_of decl epoch object number ≤ weight b (weights_of decl epoch) → IsShared plan.weights a b
  closed_last epoch object inv number plan a b is h c q =
      let weights : weights_of decl epoch ≡ plan.weights =
      ap (λ (o : Option Plan). option_map_or (λ (p : Plan). p.weights) o []) is in
      let writes : append_need_of decl epoch object number ≡ need_of plan.last object number =
      ap (λ (o : Option Plan). option_map_or (λ (p : Plan). need_of p.last object number) o 0) is in
      let n : 0 < need_of plan.last object number =
      subst (λ (x : ℕ). 0 < x) writes (needed epoch object inv number h) in
      let m : need_of plan.last object number ≤ weight b plan.weights =
      subst (λ (ws : List ℕ). need_of plan.last object number ≤ weight b ws) weights
      (subst (λ (x : ℕ). x ≤ weight b (weights_of decl epoch)) writes q) in
      let t = c.last object number n in
      meet plan.weights a b (omega arith)

  -- a set of positive weight has a site
  pub some_site : (ws : List ℕ) (a : ℕ → Bool) → 0 < weight a ws → (site : ℕ) × IsTrue (a site)
  some_site [] a l = absurd (omega arith)
  some_site (w ∷ ws) a l = by (a 0) refl l (λ m. some_site ws (λ k. a (suc k)) m)
    where
      by : (t : Bool) → a 0 ≡ t → 0 < cond t w 0 + weight (λ k. a (suc k)) ws
          → (0 < weight (λ k. a (suc k)) ws → (site : ℕ) × IsTrue (a (suc site))) → (site : ℕ) × IsTrue (a site)
      by true e m rest = (0, e)
      by false e m rest = let r = rest (omega arith) in (suc r.0, r.1)

  -- there is a site in each set of the close weight, where a pair depends
  pub closing_site : (epoch object inv number : ℕ) (plan : Plan) (a : ℕ → Bool) → plan_in decl epoch ≡ Some plan
      → IsHeavy epoch object inv number → Closing plan (weight a plan.weights) → (site : ℕ) × IsTrue (a site)
  closing_site epoch object inv number plan a is h c =
      let weights : total (weights_of decl epoch) ≡ total plan.weights =
      ap (λ (o : Option Plan). total (option_map_or (λ (p : Plan). p.weights) o [])) is in
      let reads : read_need_of decl epoch object inv ≡ need_of plan.initial object inv =
      ap (λ (o : Option Plan). option_map_or (λ (p : Plan). need_of p.initial object inv) o 0) is in
      let n : 0 < need_of plan.initial object inv =
      subst (λ (x : ℕ). 0 < x) reads (read_needed epoch object inv number h) in
      let t = c.initial object inv n in
      let g = h.light in
      some_site plan.weights a (omega arith)

pub number_within : (kind : Kind) (inv number : ℕ) (r : Option ℕ) → (resp : ℕ) → r ≡ Some resp
    → ((k : ℕ) → r ≡ Some k → event_number (events_of kind.table.rows) (event inv k) ≡ Some number)
    → number < length (events_of kind.table.rows)
number_within kind inv number r resp is h =
    slice_get_within (events_of kind.table.rows) number (event inv resp)
    (number_is (events_of kind.table.rows) (event inv resp) number (h resp is))
