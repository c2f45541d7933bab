-- The declarations of the runs keep the rules: their relations are exact by certificates, and their quorums meet.
use Rattle.std.proofs.Common.{[], ◌≡◌, ◌<◌, ◌≤◌, ℕ, zero, suc, List, ◌∷◌, length, Option, Some, None, option_map, refl}
use Rattle.std.proofs.Common.{subst, arith, slice_get}
use Rattle.qc_cert.proofs.Faultless.{no_fault_is_inductive}
use Rattle.qc_cert.proofs.Walk.{inductive_lists_make_relations_exact}
use Rattle.qc_cert.specs.Vocabulary.{triple}
use Rattle.qc_cert.specs.declared.triple.Triple.{Triple}
use Rattle.qc_decl.specs.Vocabulary.{AreNames, AreThresholds, HasNames, HasThresholds, IsAccepted, IsGood, IsRight}
use Rattle.qc_decl.specs.Vocabulary.{greatest_threshold, greatest_weight, kind_at, most_epochs, most_objects}
use Rattle.qc_decl.specs.Vocabulary.{most_sites, register_kind, register_names}
use Rattle.qc_decl.specs.declared.declaration.KindNames.{KindNames}
use Rattle.qc_table.specs.Vocabulary.{events_of}
use Rattle.std.specs.Prelude.{All, codes, option_and_then, take}
use Rattle.qc_decl.specs.declared.declaration.Declaration.{Declaration}
use Rattle.qc_plan.specs.declared.plan.Plan.{Plan}
use Rattle.theory_witnesses.proofs.Finding.{at_most, below, both, proof_of, same_number}
use Rattle.theory_witnesses.specs.Vocabulary.{extra_kind, extra_store, latch_kind, latch_names, latch_store}
use Rattle.theory_witnesses.specs.Vocabulary.{moving_register, store, three_in_two_epochs, ticket_kind, ticket_names}
use Rattle.theory_witnesses.specs.Vocabulary.{ticket_store, two_registers}
use Rattle.qc_table.specs.declared.kind.Kind.{Kind}
use Rattle.theory_witnesses.proofs.RelationsRight.{register_right, latch_right, ticket_right, good_plan, each_place}
use Rattle.theory_witnesses.proofs.RelationsRight.{each_item, names_found, parts_found, IsThreshold, IsWeight}

-- a declaration of one type
module _ (actors : ℕ) (kind : Kind) (names : KindNames) (objects : List ℕ) (plans : List Plan) where
  abbrev decl : Declaration
  decl = store actors kind names objects plans

  abbrev AreTyped : Type 0
  AreTyped = (object number : ℕ) → slice_get objects object ≡ Some number → number < 1

  -- so each object is of that type
  is_kind : AreTyped → (object : ℕ) (k : Kind) → kind_at decl object ≡ Some k → kind ≡ k
  is_kind typed object k is = by (slice_get objects object) (typed object) is
    where
      by : (o : Option ℕ) → ((number : ℕ) → o ≡ Some number → number < 1)
          → option_and_then (slice_get (kind ∷ [])) o ≡ Some k → kind ≡ k
      by None few is = absurd (let never : ⊥ = cc in never)
      by (Some zero) few is = cc
      by (Some (suc number)) few is = absurd (let less : suc number < 1 = few (suc number) refl in omega arith)

  -- lists of thresholds are found to be one for each object, with one number for each place
  abbrev thresholds_found : AreTyped → (places : Kind → ℕ) (lists : List (List ℕ))
      → Option (AreThresholds decl places lists)
  thresholds_found typed places lists =
      option_map made (both (same_number (length lists) (length objects)) (both
      (each_place (λ (list : List ℕ). length list ≡ places kind)
      (λ list. same_number (length list) (places kind)) lists)
      (each_item (All IsThreshold) (each_item IsThreshold (λ n. at_most n greatest_threshold)) lists)))
    where
      made : (length lists ≡ length objects)
          × (((place : ℕ) (list : List ℕ) → slice_get lists place ≡ Some list → length list ≡ places kind)
          × All (All IsThreshold) lists)
          → AreThresholds decl places lists
      made f = record {
        objects = f.0;
        each_is =
            λ object k list at of. subst (λ (k : Kind). length list ≡ places k) (is_kind typed object k at)
            ((f.1).0 object list of);
        numbers = (f.1).1;
      }

  abbrev all_thresholds_found : AreTyped → (plan : Plan) → Option (HasThresholds decl plan)
  all_thresholds_found typed plan =
      option_map made (both (each_item IsWeight (λ n. at_most n greatest_weight) plan.weights) (both
      (thresholds_found typed (λ k. k.table.invs) plan.initial)
      (thresholds_found typed (λ k. length (events_of k.table.rows)) plan.last)))
    where
      made : All IsWeight plan.weights × (AreThresholds decl (λ k. k.table.invs) plan.initial
          × AreThresholds decl (λ k. length (events_of k.table.rows)) plan.last) → HasThresholds decl plan
      made f = record { weights = f.0; initial = (f.1).0; last = (f.1).1 }

  -- the counts of actors, objects and epochs
  record AreFew : Type 0 where
    some_actor : 0 < actors
    few_actors : actors ≤ most_sites
    some_object : 0 < length objects
    few_objects : length objects ≤ most_objects
    some_epoch : 0 < length plans
    few_epochs : length plans ≤ most_epochs

  abbrev few_found : Option AreFew
  few_found = option_map made (both (both (below 0 actors) (at_most actors most_sites)) (both
      (both (below 0 (length objects)) (at_most (length objects) most_objects))
      (both (below 0 (length plans)) (at_most (length plans) most_epochs))))
    where
      made : ((0 < actors) × (actors ≤ most_sites))
          × (((0 < length objects) × (length objects ≤ most_objects))
          × ((0 < length plans) × (length plans ≤ most_epochs)))
          → AreFew
      made f = record {
        some_actor = (f.0).0;
        few_actors = (f.0).1;
        some_object = ((f.1).0).0;
        few_objects = ((f.1).0).1;
        some_epoch = ((f.1).1).0;
        few_epochs = ((f.1).1).1;
      }

  -- the names of the type, of its parts and of the objects
  record AreNamed : Type 0 where
    type_name : AreNames 1 (names.name ∷ [])
    parts : HasNames kind names
    object_names : AreNames (length objects) (take (length objects) (codes "x" ∷ codes "y" ∷ []))

  abbrev named_found : Option AreNamed
  named_found = option_map made (both (names_found 1 (names.name ∷ [])) (both (parts_found kind names)
      (names_found (length objects) (take (length objects) (codes "x" ∷ codes "y" ∷ [])))))
    where
      made : AreNames 1 (names.name ∷ [])
          × (HasNames kind names × AreNames (length objects) (take (length objects) (codes "x" ∷ codes "y" ∷ [])))
          → AreNamed
      made f = record { type_name = f.0; parts = (f.1).0; object_names = (f.1).1 }

  -- each plan is good, and lists its thresholds
  abbrev plans_found : AreTyped
      → Option (((place : ℕ) (plan : Plan) → slice_get plans place ≡ Some plan → IsGood decl plan)
      × ((place : ℕ) (plan : Plan) → slice_get plans place ≡ Some plan → HasThresholds decl plan))
  plans_found typed =
      both (each_place (IsGood decl) (good_plan decl) plans)
      (each_place (HasThresholds decl) (all_thresholds_found typed) plans)

  accepted_by : AreFew → AreNamed → AreTyped → IsRight kind
      → ((place : ℕ) (plan : Plan) → slice_get plans place ≡ Some plan → IsGood decl plan)
      → ((place : ℕ) (plan : Plan) → slice_get plans place ≡ Some plan → HasThresholds decl plan) → IsAccepted decl
  accepted_by few named typed right good listed = record {
    has_site = few.some_actor;
    sites = few.few_actors;
    has_client = few.some_actor;
    clients = few.few_actors;
    has_type = omega arith;
    types = omega arith;
    has_object = few.some_object;
    objects = few.few_objects;
    has_epoch = few.some_epoch;
    epochs = few.few_epochs;
    typed = typed;
    right = the_kind;
    good = good;
    thresholds = listed;
    type_names = named.type_name;
    object_names = named.object_names;
    names = the_names;
  }
    where
      the_kind : (number : ℕ) (k : Kind) → slice_get (kind ∷ []) number ≡ Some k → IsRight k
      the_kind zero k is = let same : kind ≡ k = cc in subst IsRight same right
      the_kind (suc number) k is = absurd (let never : ⊥ = cc in never)

      the_names : (number : ℕ) (k : Kind) (ns : KindNames) → slice_get (kind ∷ []) number ≡ Some k
          → slice_get (names ∷ []) number ≡ Some ns → HasNames k ns
      the_names zero k ns at of =
          let same : kind ≡ k = cc in
          let one : names ≡ ns = cc in
          subst (λ (k : Kind). HasNames k ns) same (subst (HasNames kind) one named.parts)
      the_names (suc number) k ns at of = absurd (let never : ⊥ = cc in never)

  abbrev store_accepted : IsRight kind → (typed : AreTyped) → Option (IsAccepted decl)
  store_accepted right typed = option_map made (both few_found (both named_found (plans_found typed)))
    where
      made : AreFew × (AreNamed × (((place : ℕ) (plan : Plan) → slice_get plans place ≡ Some plan → IsGood decl plan)
          × ((place : ℕ) (plan : Plan) → slice_get plans place ≡ Some plan → HasThresholds decl plan)))
          → IsAccepted decl
      made f = accepted_by f.0 (f.1).0 typed right ((f.1).1).0 ((f.1).1).1

one_object : (object number : ℕ) → slice_get (0 ∷ []) object ≡ Some number → number < 1
one_object = proof_of (each_place (λ n. n < 1) (λ n. below n 1) (0 ∷ [])) refl

two_objects : (object number : ℕ) → slice_get (0 ∷ 0 ∷ []) object ≡ Some number → number < 1
two_objects = proof_of (each_place (λ n. n < 1) (λ n. below n 1) (0 ∷ 0 ∷ [])) refl

pub moving_register_accepted : IsAccepted moving_register
moving_register_accepted =
    proof_of (store_accepted 3 register_kind register_names (0 ∷ []) moving_register.plans register_right one_object)
    refl

pub two_registers_accepted : IsAccepted two_registers
two_registers_accepted =
    proof_of (store_accepted 2 register_kind register_names (0 ∷ 0 ∷ []) two_registers.plans register_right two_objects)
    refl

pub latch_store_accepted : IsAccepted latch_store
latch_store_accepted =
    proof_of (store_accepted 2 latch_kind latch_names (0 ∷ []) latch_store.plans latch_right one_object) refl

pub ticket_store_accepted : IsAccepted ticket_store
ticket_store_accepted =
    proof_of (store_accepted 1 ticket_kind ticket_names (0 ∷ []) ticket_store.plans ticket_right one_object) refl

pub three_in_two_epochs_accepted : IsAccepted three_in_two_epochs
three_in_two_epochs_accepted =
    proof_of
    (store_accepted 3 register_kind register_names (0 ∷ []) three_in_two_epochs.plans register_right one_object) refl

register_triples : List Triple
register_triples = triple 0 0 0 ∷ triple 0 1 8 ∷ triple 1 1 0 ∷ triple 1 0 4 ∷ []

extra_right : IsRight extra_kind
unfolding register_triples
extra_right =
    record {
      sound = register_right.sound;
      exact =
          inductive_lists_make_relations_exact extra_kind register_triples
          (no_fault_is_inductive extra_kind register_triples register_right.sound refl);
    }

pub extra_store_accepted : IsAccepted extra_store
extra_store_accepted =
    proof_of (store_accepted 1 extra_kind register_names (0 ∷ []) extra_store.plans extra_right one_object) refl
