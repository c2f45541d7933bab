-- The relations of the runs' declarations are exact by certificates, and their plans are good.
use Rattle.std.proofs.Common.{[], true, ◌≡◌, ◌≤◌, ℕ, zero, suc, List, ◌∷◌, length, Option, Some, None, option_map, refl}
use Rattle.std.proofs.Common.{subst, arith, slice_get}
use Rattle.qc_cert.proofs.Faultless.{no_fault_is_inductive}
use Rattle.qc_cert.proofs.Walk.{inductive_lists_make_relations_exact}
use Rattle.qc_cert.specs.Vocabulary.{triple}
use Rattle.qc_cert.specs.declared.triple.Triple.{Triple}
use Rattle.qc_decl.proofs.BuiltInRules.{three_accepted}
use Rattle.qc_decl.specs.Vocabulary.{AreNames, HasNames, IsGood, IsRight, greatest_threshold, greatest_weight, is_name}
use Rattle.qc_decl.specs.Vocabulary.{register_kind}
use Rattle.qc_decl.proofs.Places.{all_differ, differ}
use Rattle.qc_decl.specs.declared.declaration.KindNames.{KindNames}
use Rattle.qc_table.specs.Vocabulary.{IsSound}
use Rattle.std.specs.Prelude.{All}
use Rattle.std.specs.List.{list_all}
use Rattle.std.proofs.lemmas.List.Elements.{All-cons, All-nil}
use Rattle.qc_decl.specs.declared.declaration.Declaration.{Declaration}
use Rattle.qc_plan.proofs.Faultless as plan_proofs
use Rattle.qc_plan.specs.Vocabulary.{fault_of}
use Rattle.qc_plan.specs.declared.fault.PlanFault.{PlanFault}
use Rattle.qc_plan.specs.declared.plan.Plan.{Plan}
use Rattle.theory_witnesses.proofs.Cases.{none_some, one_some}
use Rattle.theory_witnesses.proofs.Finding.{at_most, both, is_true, same_number}
use Rattle.theory_witnesses.specs.Vocabulary.{latch, latch_kind, ticket, ticket_kind}
use Rattle.qc_table.specs.declared.kind.Kind.{Kind}

pub register_right : IsRight register_kind
register_right = (three_accepted).right 0 register_kind refl

latch_sound : IsSound latch
latch_sound =
    record {
      has_state = omega arith;
      has_inv = omega arith;
      has_resp = omega arith;
      states = omega arith;
      invs = omega arith;
      resps = omega arith;
      begins = omega arith;
      faultless = refl;
    }

-- where view and log differ, what misses is the Arm, or both the Arm and its Fire
latch_triples : List Triple
latch_triples = triple 0 0 0 ∷ triple 0 1 1 ∷ triple 1 1 0 ∷ triple 0 2 3 ∷ triple 1 2 2 ∷ triple 2 2 0 ∷ []

pub latch_right : IsRight latch_kind
unfolding latch_triples
latch_right =
    record {
      sound = latch_sound;
      exact =
          inductive_lists_make_relations_exact latch_kind latch_triples
          (no_fault_is_inductive latch_kind latch_triples latch_sound refl);
    }

ticket_sound : IsSound ticket
ticket_sound =
    record {
      has_state = omega arith;
      has_inv = omega arith;
      has_resp = omega arith;
      states = omega arith;
      invs = omega arith;
      resps = omega arith;
      begins = omega arith;
      faultless = refl;
    }

ticket_triples : List Triple
ticket_triples = triple 0 0 0 ∷ triple 0 1 1 ∷ triple 1 1 0 ∷ []

pub ticket_right : IsRight ticket_kind
unfolding ticket_triples
ticket_right =
    record {
      sound = ticket_sound;
      exact =
          inductive_lists_make_relations_exact ticket_kind ticket_triples
          (no_fault_is_inductive ticket_kind ticket_triples ticket_sound refl);
    }

abbrev pub no_fault : (o : Option PlanFault) → Option (o ≡ None)
no_fault None = Some refl
no_fault (Some f) = None

-- a plan of the declaration is found to be good
abbrev pub good_plan : (decl : Declaration) (plan : Plan) → Option (IsGood decl plan)
good_plan decl plan =
    option_map made
    (both (same_number (length plan.weights) decl.sites)
    (both (at_most (length plan.initial) (length decl.objects))
    (both (at_most (length plan.last) (length decl.objects)) (no_fault (fault_of plan decl.kinds decl.objects)))))
  where
    made : (length plan.weights ≡ decl.sites)
        × ((length plan.initial ≤ length decl.objects)
        × ((length plan.last ≤ length decl.objects) × (fault_of plan decl.kinds decl.objects ≡ None)))
        → IsGood decl plan
    made f =
        record {
          weights = f.0;
          admitted = plan_proofs.admitted plan decl.kinds decl.objects ((f.1).0) (((f.1).1).0) (((f.1).1).1);
        }

-- what holds of each place of a list
abbrev pub each_place : {A : Type 0} (P : A → Type 0) → ((x : A) → Option (P x)) → (xs : List A)
    → Option ((place : ℕ) (x : A) → slice_get xs place ≡ Some x → P x)
each_place {A = A} P look [] = Some (λ place x e. absurd (none_some e))
each_place {A = A} P look (y ∷ ys) = option_map made (both (look y) (each_place P look ys))
  where
    made : P y × ((place : ℕ) (x : A) → slice_get ys place ≡ Some x → P x) → (place : ℕ) (x : A)
        → slice_get (y ∷ ys) place ≡ Some x → P x
    made f zero x e = subst P (one_some e) f.0
    made f (suc place) x e = f.1 place x e

-- what holds of each item of a list
abbrev pub each_item : {A : Type 0} (P : A → Type 0) → ((x : A) → Option (P x)) → (xs : List A) → Option (All P xs)
each_item P look [] = Some (All-nil P)
each_item P look (x ∷ xs) = option_map made (both (look x) (each_item P look xs))
  where
    made : P x × All P xs → All P (x ∷ xs)
    made f = All-cons P x xs f.0 f.1

-- names are found to be well formed and different
abbrev pub names_found : (many : ℕ) (names : List (List ℕ)) → Option (AreNames many names)
names_found many names =
    option_map made
    (both (same_number (length names) many) (both (is_true (list_all is_name names)) (is_true (differ names))))
  where
    made : (length names ≡ many) × ((list_all is_name names ≡ true) × (differ names ≡ true)) → AreNames many names
    made f = record { count = f.0; formed = (f.1).0; distinct = all_differ names (f.1).1 }

abbrev pub parts_found : (kind : Kind) (names : KindNames) → Option (HasNames kind names)
parts_found kind names =
    option_map made
    (both (names_found kind.table.states names.states)
    (both (names_found kind.table.invs names.invs) (names_found kind.table.resps names.resps)))
  where
    made : AreNames kind.table.states names.states
        × (AreNames kind.table.invs names.invs × AreNames kind.table.resps names.resps) → HasNames kind names
    made f = record { states = f.0; invs = (f.1).0; resps = (f.1).1 }

abbrev pub IsThreshold : ℕ → Type 0
IsThreshold n = n ≤ greatest_threshold

abbrev pub IsWeight : ℕ → Type 0
IsWeight n = n ≤ greatest_weight
