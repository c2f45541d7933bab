-- The built-in declarations keep the rules: the register's triples show its relation exact, and the quorums meet.
use Rattle.std.proofs.Common.{◌≡◌, ◌<◌, ◌≤◌, ℕ, zero, suc, List, [], ◌∷◌, length, Some, None, refl, subst, arith}
use Rattle.std.proofs.Common.{slice_get}
use Rattle.std.specs.Prelude.{All, codes}
use Rattle.std.proofs.lemmas.List.Elements.{All-cons, All-nil}
use Rattle.qc_cert.proofs.Faultless.{no_fault_is_inductive}
use Rattle.qc_cert.proofs.Walk.{inductive_lists_make_relations_exact}
use Rattle.qc_cert.specs.Vocabulary.{IsExact, triple}
use Rattle.qc_cert.specs.declared.triple.Triple.{Triple}
use Rattle.qc_decl.proofs.Places.{all_differ}
use Rattle.qc_decl.specs.Vocabulary.{AreNames, AreThresholds, HasNames, HasThresholds, IsAccepted, IsGood, IsRight}
use Rattle.qc_decl.specs.Vocabulary.{greatest_threshold, greatest_weight, kind_at, most_sites, one, register}
use Rattle.qc_decl.specs.Vocabulary.{register_kind, register_names, register_plan, register_store, three}
use Rattle.qc_decl.specs.declared.declaration.KindNames.{KindNames}
use Rattle.qc_plan.proofs.Faultless as plan_proofs
use Rattle.qc_plan.specs.Vocabulary.{fault_of}
use Rattle.qc_plan.specs.declared.plan.Plan.{Plan}
use Rattle.qc_table.specs.Vocabulary.{IsSound, events_of}
use Rattle.qc_table.specs.declared.kind.Kind.{Kind}

-- the certificate: where view and history differ, the last write was left out
abbrev register_triples : List Triple
register_triples = triple 0 0 0 ∷ triple 0 1 8 ∷ triple 1 1 0 ∷ triple 1 0 4 ∷ []

register_sound : IsSound register
register_sound = record {
  has_state = omega arith;
  has_inv = omega arith;
  has_resp = omega arith;
  states = omega arith;
  invs = omega arith;
  resps = omega arith;
  begins = omega arith;
  faultless = refl;
}

register_exact : IsExact register_kind
register_exact =
    inductive_lists_make_relations_exact register_kind register_triples
    (no_fault_is_inductive register_kind register_triples register_sound refl)

-- the register's names

x_named : AreNames 1 (codes "x" ∷ [])
x_named = record { count = refl; formed = refl; distinct = all_differ (codes "x" ∷ []) refl }

register_named : AreNames 1 (codes "register" ∷ [])
register_named = record { count = refl; formed = refl; distinct = all_differ (codes "register" ∷ []) refl }

parts_named : HasNames register_kind register_names
parts_named = record {
  states = record { count = refl; formed = refl; distinct = all_differ register_names.states refl };
  invs = record { count = refl; formed = refl; distinct = all_differ register_names.invs refl };
  resps = record { count = refl; formed = refl; distinct = all_differ register_names.resps refl };
}

abbrev IsThreshold : ℕ → Type 0
IsThreshold n = n ≤ greatest_threshold

-- the register on so many sites, whose plan has no fault
module _ (actors : ℕ) (weights : List ℕ) (need : ℕ) (small : need ≤ greatest_threshold) where
  initial : AreThresholds (register_store actors weights need) (λ kind. kind.table.invs) ((need ∷ 0 ∷ 0 ∷ []) ∷ [])
  initial = record {
    objects = refl;
    each_is = places;
    numbers = All-cons (All IsThreshold) (need ∷ 0 ∷ 0 ∷ []) []
        (All-cons IsThreshold need (0 ∷ 0 ∷ []) small
        (All-cons IsThreshold 0 (0 ∷ []) (omega arith)
        (All-cons IsThreshold 0 [] (omega arith) (All-nil IsThreshold))))
        (All-nil (All IsThreshold));
  }
    where
      places : (object : ℕ) (kind : Kind) (list : List ℕ)
          → kind_at (register_store actors weights need) object ≡ Some kind
          → slice_get ((need ∷ 0 ∷ 0 ∷ []) ∷ []) object ≡ Some list → length list ≡ kind.table.invs
      places zero kind list at of =
          let same : register_kind ≡ kind = cc in
          let one : (need ∷ 0 ∷ 0 ∷ []) ≡ list = cc in
          subst (λ (k : Kind). length list ≡ k.table.invs) same (subst (λ (ns : List ℕ). length ns ≡ 3) one refl)
      places (suc object) kind list at of = absurd (let never : ⊥ = cc in never)

  last : AreThresholds (register_store actors weights need) (λ kind. length (events_of kind.table.rows))
      ((0 ∷ 0 ∷ need ∷ need ∷ []) ∷ [])
  last = record {
    objects = refl;
    each_is = places;
    numbers = All-cons (All IsThreshold) (0 ∷ 0 ∷ need ∷ need ∷ []) []
        (All-cons IsThreshold 0 (0 ∷ need ∷ need ∷ []) (omega arith)
        (All-cons IsThreshold 0 (need ∷ need ∷ []) (omega arith)
        (All-cons IsThreshold need (need ∷ []) small (All-cons IsThreshold need [] small (All-nil IsThreshold)))))
        (All-nil (All IsThreshold));
  }
    where
      places : (object : ℕ) (kind : Kind) (list : List ℕ)
          → kind_at (register_store actors weights need) object ≡ Some kind
          → slice_get ((0 ∷ 0 ∷ need ∷ need ∷ []) ∷ []) object ≡ Some list
          → length list ≡ length (events_of kind.table.rows)
      places zero kind list at of =
          let same : register_kind ≡ kind = cc in
          let one : (0 ∷ 0 ∷ need ∷ need ∷ []) ≡ list = cc in
          subst (λ (k : Kind). length list ≡ length (events_of k.table.rows)) same
          (subst (λ (ns : List ℕ). length ns ≡ 4) one refl)
      places (suc object) kind list at of = absurd (let never : ⊥ = cc in never)

  store_accepted : 0 < actors → actors ≤ most_sites → length weights ≡ actors → All (λ w. w ≤ greatest_weight) weights
      → fault_of (register_plan weights need) (register_kind ∷ []) (0 ∷ []) ≡ None
      → IsAccepted (register_store actors weights need)
  store_accepted some few weighed light faultless = record {
    has_site = some;
    sites = few;
    has_client = some;
    clients = few;
    has_type = omega arith;
    types = omega arith;
    has_object = omega arith;
    objects = omega arith;
    has_epoch = omega arith;
    epochs = omega arith;
    typed = typed;
    right = right;
    good = good;
    thresholds = listed;
    type_names = register_named;
    object_names = x_named;
    names = named;
  }
    where
      typed : (object number : ℕ) → slice_get (0 ∷ []) object ≡ Some number → number < 1
      typed zero number is = let same : 0 ≡ number = cc in omega arith
      typed (suc object) number is = absurd (let never : ⊥ = cc in never)

      right : (number : ℕ) (kind : Kind) → slice_get (register_kind ∷ []) number ≡ Some kind → IsRight kind
      right zero kind is = let same : register_kind ≡ kind = cc in
          subst IsRight same (record { sound = register_sound; exact = register_exact })
      right (suc number) kind is = absurd (let never : ⊥ = cc in never)

      good : (place : ℕ) (plan : Plan) → slice_get (register_plan weights need ∷ []) place ≡ Some plan
          → IsGood (register_store actors weights need) plan
      good zero plan is =
          let same : register_plan weights need ≡ plan = cc in
          subst (IsGood (register_store actors weights need)) same
          (record {
            weights = weighed;
            admitted = plan_proofs.admitted (register_plan weights need) (register_kind ∷ [])
                (0 ∷ []) (omega arith) (omega arith) faultless;
          })
      good (suc place) plan is = absurd (let never : ⊥ = cc in never)

      listed : (place : ℕ) (plan : Plan) → slice_get (register_plan weights need ∷ []) place ≡ Some plan
          → HasThresholds (register_store actors weights need) plan
      listed zero plan is =
          let same : register_plan weights need ≡ plan = cc in
          subst (HasThresholds (register_store actors weights need)) same
          (record { weights = light; initial = initial; last = last })
      listed (suc place) plan is = absurd (let never : ⊥ = cc in never)

      named : (number : ℕ) (kind : Kind) (names : KindNames) → slice_get (register_kind ∷ []) number ≡ Some kind
          → slice_get (register_names ∷ []) number ≡ Some names → HasNames kind names
      named zero kind names at of =
          let same : register_kind ≡ kind = cc in
          let one : register_names ≡ names = cc in
          subst (λ (k : Kind). HasNames k names) same (subst (HasNames register_kind) one parts_named)
      named (suc number) kind names at of = absurd (let never : ⊥ = cc in never)

abbrev IsWeight : ℕ → Type 0
IsWeight n = n ≤ greatest_weight

pub one_accepted : IsAccepted one
one_accepted = store_accepted 1 (1 ∷ []) 1 (omega arith) (omega arith) (omega arith) refl
    (All-cons IsWeight 1 [] (omega arith) (All-nil IsWeight)) refl

pub three_accepted : IsAccepted three
three_accepted =
    store_accepted 3 (1 ∷ 1 ∷ 1 ∷ []) 2 (omega arith) (omega arith) (omega arith) refl
    (All-cons IsWeight 1 (1 ∷ 1 ∷ []) (omega arith)
    (All-cons IsWeight 1 (1 ∷ []) (omega arith) (All-cons IsWeight 1 [] (omega arith) (All-nil IsWeight)))) refl
