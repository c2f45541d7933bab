-- A list without a fault is inductive, and an inductive list has no fault.
use Rattle.std.proofs.Common.{◌≡◌, ℕ, zero, suc, ◌<◌, Bool, true, false, cond, List, [], ◌∷◌, Option, Some, None}
use Rattle.std.proofs.Common.{slice_get, length, refl, sym, ap, ◌∙◌, subst}
use Rattle.std.specs.Prelude.{is_some, ◌==◌, option_and_then}
use Rattle.std.specs.Option.{option_or}
use Rattle.std.proofs.lemmas.Bool.{eqb-true, eq-eqb, true≢false}
use Rattle.std.proofs.lemmas.Option.{slice_get_within}
use Rattle.qc_list.specs.Vocabulary.{first_below}
use Rattle.qc_list.proofs.Search.{none_parts, none_from, none_below, below_none}
use Rattle.qc_table.specs.Vocabulary.{IsSound, event, events_of, step_of, with_member}
use Rattle.qc_table.specs.declared.kind.Kind.{Kind}
use Rattle.qc_table.proofs.Named.{allowed_within}
use Rattle.qc_cert.proofs.Computed.{free_true, true_free, covered_true, true_covered}
use Rattle.qc_cert.proofs.Walk.{IsStep, step_is}
use Rattle.qc_cert.specs.Vocabulary.{IsCovered, IsFree, IsInductive, fault_of, inv_fault, inv_of, is_allowed}
use Rattle.qc_cert.specs.Vocabulary.{is_covered, is_free, left_out_fault, taken_fault, triple, triple_fault}
use Rattle.qc_cert.specs.Vocabulary.{triples_fault, unequal_fault, unless_covered}
use Rattle.qc_cert.specs.declared.fault.CertFault.{CertFault}
use Rattle.qc_cert.specs.declared.fault.CertFault.TheVariants.{NoStart, Uncovered, Unequal}
use Rattle.qc_cert.specs.declared.triple.Triple.{Triple}

-- no fault where a triple is covered, and only there
none_covered : (list : List Triple) (fault : CertFault) (t : Triple) → unless_covered list fault t ≡ None
    → IsCovered list t
none_covered list fault t none = by (is_covered list t) refl none
  where
    by : (b : Bool) → is_covered list t ≡ b → cond b None (Some fault) ≡ None → IsCovered list t
    by true is none = covered_true list t is
    by false is none = absurd (let never : ⊥ = cc in never)

covered_none : (list : List Triple) (fault : CertFault) (t : Triple) → IsCovered list t
    → unless_covered list fault t ≡ None
covered_none list fault t c = ap (λ b. cond b None (Some fault)) (true_covered list t c)

-- the event of a step is one of the events
number_within : (kind : Kind) (state e next : ℕ) → step_of kind.table.rows state e ≡ Some next
    → e < length (events_of kind.table.rows)
number_within kind state e next s =
    let i : IsStep kind state e next = step_is kind state e next s in
    slice_get_within (events_of kind.table.rows) e (event (inv_of kind e) i.resp) i.numbered

-- both take an event
both_take : (list : List Triple) (fault : CertFault) (out : ℕ) (view log : Option ℕ) (g h : ℕ) → view ≡ Some g
    → log ≡ Some h
    → option_and_then (λ x. option_and_then (λ y. unless_covered list fault (triple x y out)) log) view ≡ None
    → IsCovered list (triple g h out)
both_take list fault out view log g h v l none = none_covered list fault (triple g h out) (rw (v, l) at none)

-- an option answers nothing where its value, if any, does
nothing_of : {A B : Type 0} (f : A → Option B) (o : Option A) → ((x : A) → o ≡ Some x → f x ≡ None)
    → option_and_then f o ≡ None
nothing_of f None none = refl
nothing_of f (Some x) none = none x refl

-- responses without a fault are equal
none_equal : (kind : Kind) (place : ℕ) (t : Triple) (inv resp : ℕ) → unequal_fault kind place t inv resp ≡ None
    → is_allowed kind t.view inv resp ≡ is_allowed kind t.log inv resp
none_equal kind place t inv resp none = by (is_allowed kind t.view inv resp) (is_allowed kind t.log inv resp) none
  where
    by : (a b : Bool) → cond a (cond b None (Some (Unequal place inv resp)))
        (cond b (Some (Unequal place inv resp)) None) ≡ None → a ≡ b
    by true true none = refl
    by true false none = absurd (let never : ⊥ = cc in never)
    by false true none = absurd (let never : ⊥ = cc in never)
    by false false none = refl

equal_none : (kind : Kind) (place : ℕ) (t : Triple) (inv resp : ℕ)
    → is_allowed kind t.view inv resp ≡ is_allowed kind t.log inv resp → unequal_fault kind place t inv resp ≡ None
equal_none kind place t inv resp same = by (is_allowed kind t.view inv resp) (is_allowed kind t.log inv resp) same
  where
    by : (a b : Bool) → a ≡ b → cond a (cond b None (Some (Unequal place inv resp)))
        (cond b (Some (Unequal place inv resp)) None) ≡ None
    by true true same = refl
    by true false same = absurd (true≢false same)
    by false true same = absurd (true≢false (sym same))
    by false false same = refl

-- equal where either is allowed, so equal
either : (a b : Bool) → (a ≡ true → a ≡ b) → (b ≡ true → a ≡ b) → a ≡ b
either true b left right = left refl
either false true left right = right refl
either false false left right = refl

-- a list of triples without a fault has none at any of them
at_none : (kind : Kind) (list : List Triple) (from : ℕ) (ts : List Triple) → triples_fault kind list from ts ≡ None
    → (k : ℕ) (t : Triple) → slice_get ts k ≡ Some t → (place : ℕ) × (triple_fault kind list place t ≡ None)
at_none kind list from [] none k t at = absurd (let never : ⊥ = cc in never)
at_none kind list from (x ∷ ts) none zero t at =
    let same : x ≡ t = cc in (
      from,
      ap (triple_fault kind list from) (sym same)
          ∙ (none_parts (triple_fault kind list from x) (triples_fault kind list (suc from) ts) none).0,
    )
at_none kind list from (x ∷ ts) none (suc k) t at =
    at_none kind list (suc from) ts (none_parts (triple_fault kind list from x)
    (triples_fault kind list (suc from) ts) none).1 k t at

none_at : (kind : Kind) (list : List Triple) (from : ℕ) (ts : List Triple)
    → ((k place : ℕ) (t : Triple) → slice_get ts k ≡ Some t → triple_fault kind list place t ≡ None)
    → triples_fault kind list from ts ≡ None
none_at kind list from [] none = refl
none_at kind list from (x ∷ ts) none =
    none_from (triple_fault kind list from x) (triples_fault kind list (suc from) ts) (none 0 from x refl)
    (none_at kind list (suc from) ts (λ k place t at. none (suc k) place t at))

-- what a triple without a fault is
record IsFaultless (kind : Kind) (list : List Triple) (t : Triple) : Type 0 where
  left_out : (e h : ℕ) → step_of kind.table.rows t.log e ≡ Some h
      → IsCovered list (triple t.view h (with_member t.out e))
  equal : (inv resp : ℕ) → IsFree kind inv t.out → is_allowed kind t.view inv resp ≡ is_allowed kind t.log inv resp
  taken : (e g h : ℕ) → IsFree kind (inv_of kind e) t.out → step_of kind.table.rows t.view e ≡ Some g
      → step_of kind.table.rows t.log e ≡ Some h
      → IsCovered list (triple g h t.out)

-- an invocation without a fault, free of what is left out
record IsEven (kind : Kind) (list : List Triple) (place : ℕ) (t : Triple) (inv : ℕ) : Type 0 where
  responses : first_below kind.table.resps (unequal_fault kind place t inv) ≡ None
  events : first_below (length (events_of kind.table.rows)) (taken_fault kind list place t inv) ≡ None

even : (kind : Kind) (list : List Triple) (place : ℕ) (t : Triple) (inv : ℕ) → triple_fault kind list place t ≡ None
    → inv < kind.table.invs → IsFree kind inv t.out → IsEven kind list place t inv
even kind list place t inv none within free =
    let all : first_below kind.table.invs (inv_fault kind list place t) ≡ None =
    (none_parts (first_below (length (events_of kind.table.rows)) (left_out_fault kind list place t))
    (first_below kind.table.invs (inv_fault kind list place t)) none).1 in
    let own : inv_fault kind list place t inv ≡ None =
    none_below kind.table.invs (inv_fault kind list place t) all inv within in
    let both = none_parts (first_below kind.table.resps (unequal_fault kind place t inv))
    (first_below (length (events_of kind.table.rows)) (taken_fault kind list place t inv))
    (rw (true_free kind inv t.out free) at own) in
    record { responses = both.0; events = both.1 }

none_faultless : (kind : Kind) (list : List Triple) (place : ℕ) (t : Triple) → IsSound kind.table
    → triple_fault kind list place t ≡ None → IsFaultless kind list t
none_faultless kind list place t sound none = record {
  left_out = λ e h s.
      let all : first_below (length (events_of kind.table.rows)) (left_out_fault kind list place t) ≡ None =
      (none_parts (first_below (length (events_of kind.table.rows)) (left_out_fault kind list place t))
      (first_below kind.table.invs (inv_fault kind list place t)) none).0 in
      let own : left_out_fault kind list place t e ≡ None =
      none_below (length (events_of kind.table.rows)) (left_out_fault kind list place t) all e
      (number_within kind t.log e h s) in
      none_covered list (Uncovered place e false) (triple t.view h (with_member t.out e)) (rw s at own);
  equal = λ inv resp free.
      let known : (state : ℕ) → is_allowed kind state inv resp ≡ true
      → is_allowed kind t.view inv resp ≡ is_allowed kind t.log inv resp = λ state allowed.
      let within : (inv < kind.table.invs) × (resp < kind.table.resps) =
      allowed_within kind.table state inv resp sound allowed in
      none_equal kind place t inv resp (none_below kind.table.resps (unequal_fault kind place t inv)
      (even kind list place t inv none within.0 free).responses resp within.1) in
      either (is_allowed kind t.view inv resp) (is_allowed kind t.log inv resp) (known t.view) (known t.log);
  taken = λ e g h free v l.
      let i : IsStep kind t.log e h = step_is kind t.log e h l in
      let within = allowed_within kind.table t.log (inv_of kind e) i.resp sound (ap is_some i.goes) in
      let own : taken_fault kind list place t (inv_of kind e) e ≡ None =
      none_below (length (events_of kind.table.rows)) (taken_fault kind list place t (inv_of kind e))
      (even kind list place t (inv_of kind e) none within.0 free).events e (number_within kind t.log e h l) in
      both_take list (Uncovered place e true) t.out (step_of kind.table.rows t.view e)
      (step_of kind.table.rows t.log e) g h v l
      (rw (eq-eqb (inv_of kind e) (inv_of kind e) refl) at own);
}

-- a list without a fault is inductive
pub no_fault_is_inductive : (kind : Kind) (list : List Triple) → IsSound kind.table → fault_of kind list ≡ None
    → IsInductive kind list
no_fault_is_inductive kind list sound none =
    let both : (unless_covered list NoStart (triple kind.table.start kind.table.start 0) ≡ None)
    × (triples_fault kind list 0 list ≡ None) =
    none_parts (unless_covered list NoStart (triple kind.table.start kind.table.start 0))
    (triples_fault kind list 0 list) none in
    let good : (k : ℕ) (t : Triple) → slice_get list k ≡ Some t → IsFaultless kind list t = λ k t at.
    let p = at_none kind list 0 list both.1 k t at in
    none_faultless kind list p.0 t sound p.1 in
    record {
      begun = none_covered list NoStart (triple kind.table.start kind.table.start 0) both.0;
      left_out = λ k t e h at. (good k t at).left_out e h;
      equal = λ k t inv resp at. (good k t at).equal inv resp;
      taken = λ k t e g h at. (good k t at).taken e g h;
    }

-- a triple of an inductive list has no fault
inv_none : (kind : Kind) (list : List Triple) (k place : ℕ) (t : Triple) (inv : ℕ) → IsInductive kind list
    → slice_get list k ≡ Some t → inv_fault kind list place t inv ≡ None
inv_none kind list k place t inv ind at = by (is_free kind inv t.out) refl
  where
    taken : IsFree kind inv t.out → (e : ℕ) (b : Bool) → (inv_of kind e == inv) ≡ b
        → cond b (option_and_then (λ g. option_and_then
        (λ h. unless_covered list (Uncovered place e true) (triple g h t.out)) (step_of kind.table.rows t.log e))
        (step_of kind.table.rows t.view e)) None ≡ None
    taken free e false is = refl
    taken free e true is =
        let own : IsFree kind (inv_of kind e) t.out =
        subst (λ i. IsFree kind i t.out) (sym (eqb-true (inv_of kind e) inv is)) free in
        nothing_of (λ g. option_and_then (λ h. unless_covered list (Uncovered place e true) (triple g h t.out))
        (step_of kind.table.rows t.log e)) (step_of kind.table.rows t.view e) (λ g v.
        nothing_of (λ h. unless_covered list (Uncovered place e true) (triple g h t.out))
        (step_of kind.table.rows t.log e) (λ h l.
        covered_none list (Uncovered place e true) (triple g h t.out) (ind.taken k t e g h at own v l)))

    by : (b : Bool) → is_free kind inv t.out ≡ b
        → cond b (option_or (first_below kind.table.resps (unequal_fault kind place t inv))
        (first_below (length (events_of kind.table.rows)) (taken_fault kind list place t inv))) None ≡ None
    by false is = refl
    by true is =
        let free : IsFree kind inv t.out = free_true kind inv t.out is in
        none_from (first_below kind.table.resps (unequal_fault kind place t inv))
        (first_below (length (events_of kind.table.rows)) (taken_fault kind list place t inv))
        (below_none kind.table.resps (unequal_fault kind place t inv)
        (λ resp less. equal_none kind place t inv resp (ind.equal k t inv resp at free)))
        (below_none (length (events_of kind.table.rows)) (taken_fault kind list place t inv)
        (λ e less. taken free e (inv_of kind e == inv) refl))

-- an inductive list has no fault
pub inductive_lists_have_no_fault : (kind : Kind) (list : List Triple) → IsInductive kind list
    → fault_of kind list ≡ None
inductive_lists_have_no_fault kind list ind =
    none_from (unless_covered list NoStart (triple kind.table.start kind.table.start 0))
    (triples_fault kind list 0 list)
    (covered_none list NoStart (triple kind.table.start kind.table.start 0) ind.begun)
    (none_at kind list 0 list (λ k place t at.
    none_from (first_below (length (events_of kind.table.rows)) (left_out_fault kind list place t))
    (first_below kind.table.invs (inv_fault kind list place t))
    (below_none (length (events_of kind.table.rows)) (left_out_fault kind list place t) (λ e less.
    nothing_of (λ h. unless_covered list (Uncovered place e false) (triple t.view h (with_member t.out e)))
    (step_of kind.table.rows t.log e) (λ h s.
    covered_none list (Uncovered place e false) (triple t.view h (with_member t.out e)) (ind.left_out k t e h at s))))
    (below_none kind.table.invs (inv_fault kind list place t) (λ inv less. inv_none kind list k place t inv ind at))))
