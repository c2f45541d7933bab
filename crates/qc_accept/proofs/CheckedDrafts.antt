-- What is read of a declaration's types is checked and planned, once nothing is refused.
use Rattle.std.proofs.Common.{◌≡◌, ℕ, zero, suc, ◌<◌, ◌≤◌, List, [], ◌∷◌, length, map, Option, Some, None, Ok, Err}
use Rattle.std.proofs.Common.{refl, sym, ap, ◌∙◌, subst, arith}
use Rattle.std.specs.Prelude.{All, codes, slice_get, option_and_then, option_map}
use Rattle.std.specs.Option.{option_map_or}
use Rattle.std.proofs.lemmas.List.{length-map}
use Rattle.std.proofs.lemmas.Option.{slice_get-map}
use Rattle.toml.specs.Data.{Members}
use Rattle.qc_cert.proofs.Faultless.{no_fault_is_inductive}
use Rattle.qc_cert.proofs.Walk.{inductive_lists_make_relations_exact}
use Rattle.qc_cert.specs.Faults as cert
use Rattle.qc_cert.specs.declared.fault.CertFault.{CertFault}
use Rattle.qc_cert.specs.declared.triple.Triple.{Triple}
use Rattle.qc_plan.proofs.Faultless as plan_proofs
use Rattle.qc_plan.specs.Faults as plan
use Rattle.qc_plan.specs.declared.fault.PlanFault.{PlanFault}
use Rattle.qc_plan.specs.declared.plan.Plan.{Plan}
use Rattle.qc_table.specs.Vocabulary.{IsSound, events_of}
use Rattle.qc_table.specs.declared.kind.Kind.{Kind}
use Rattle.qc_decl.specs.declared.declaration.Declaration.{Declaration}
use Rattle.qc_decl.specs.declared.declaration.KindNames.{KindNames}
use Rattle.qc_decl.specs.Vocabulary.{AreNames, AreThresholds, HasNames, HasThresholds, IsAccepted, IsGood, IsNamed}
use Rattle.qc_decl.specs.Vocabulary.{IsRight, kind_at, most_clients, most_events, most_objects, most_sites, most_types}
use Rattle.qc_accept.specs.declared.fault.DeclFault.TheVariants as decl
use Rattle.qc_accept.specs.Vocabulary.{Answer, AreChecked, AreFew, AreOfStates, ArePlanned, DraftOf, IsFit, IsShaped}
use Rattle.qc_accept.specs.Vocabulary.{ObjectsOf, TypeOf, TypesOf, accepted, admitted, all_admitted, all_certified}
use Rattle.qc_accept.specs.Vocabulary.{all_names, cert_names, certified, declared, document_of, draft, draft_of, keys}
use Rattle.qc_accept.specs.Vocabulary.{kind_names, kind_of, no_others, number, objects_of, places, plan_names, plans_of}
use Rattle.qc_accept.specs.Vocabulary.{types_of}
use Rattle.qc_decl.proofs.AcceptedNames.{accepted_declarations_have_few_names}
use Rattle.qc_accept.specs.declared.epochs.Side.{Side}
use Rattle.qc_accept.specs.declared.epochs.Side.TheVariants.{Initial, Final}
use Rattle.qc_accept.proofs.Answered.{came, found, mapped, same_ok}
use Rattle.qc_accept.proofs.Kept.{IsTypeKept, AreTypesKept, types_kept}
use Rattle.qc_accept.proofs.Drafted.{all_at, all_of, number_is, AreObjectsKept, objects_kept, AreLists, IsPlanOf}
use Rattle.qc_accept.proofs.Drafted.{ArePlansKept, plans_kept}

-- what a draft was made of
pub record IsDraft (d : DraftOf) : Type 0 where
  pub sites : ℕ
  pub clients : ℕ
  pub types : TypesOf
  pub objects : ObjectsOf
  pub plans : List Plan
  pub is : draft sites clients types objects plans ≡ d
  pub sites_are : (1 ≤ sites) × (sites ≤ most_sites)
  pub clients_are : (1 ≤ clients) × (clients ≤ most_clients)
  pub types_are : AreTypesKept types
  pub objects_are : AreObjectsKept (length types.names) objects
  pub plans_are : ArePlansKept (record { sites = sites; types = types; objects = objects }) plans

pub draft_is : (table : Members) (d : DraftOf) → draft_of table ≡ Ok d → IsDraft d
draft_is table d is =
    let a = came (number [] table (codes "sites") 1 most_sites) _ d is in
    let b = came (number [] table (codes "clients") 1 most_clients) _ d a.rest in
    let c = came (types_of [] table) _ d b.rest in
    let e = came (objects_of [] table c.value) _ d c.rest in
    let f = came (plans_of [] table (record { sites = a.value; types = c.value; objects = e.value })) _ d e.rest in
    let g = came (no_others [] table keys) _ d f.rest in
    record {
      sites = a.value;
      clients = b.value;
      types = c.value;
      objects = e.value;
      plans = f.value;
      is = same_ok (draft a.value b.value c.value e.value f.value) d g.rest;
      sites_are = number_is [] table (codes "sites") 1 most_sites a.value a.first;
      clients_are = number_is [] table (codes "clients") 1 most_clients b.value b.first;
      types_are = types_kept [] table c.value c.first;
      objects_are = objects_kept [] table c.value e.value e.first;
      plans_are = plans_kept [] table (record { sites = a.value; types = c.value; objects = e.value }) f.value f.first;
    }

-- names for each type
pub names_long : (names : List (List ℕ)) (ts : List TypeOf) → length names ≡ length ts
    → length (all_names names ts) ≡ length ts
names_long [] [] same = refl
names_long [] (t ∷ ts) same = absurd (omega arith)
names_long (name ∷ names) [] same = absurd (omega arith)
names_long (name ∷ names) (t ∷ ts) same = ap suc (names_long names ts (omega arith))

pub record IsNamesOf (ts : List TypeOf) (k : ℕ) (n : KindNames) : Type 0 where
  pub name : List ℕ
  pub type : TypeOf
  pub at : slice_get ts k ≡ Some type
  pub is : kind_names name type ≡ n

pub names_of_type : (names : List (List ℕ)) (ts : List TypeOf) (k : ℕ) (n : KindNames)
    → slice_get (all_names names ts) k ≡ Some n → IsNamesOf ts k n
names_of_type [] ts k n is = absurd (let never : ⊥ = cc in never)
names_of_type (name ∷ names) [] k n is = absurd (let never : ⊥ = cc in never)
names_of_type (name ∷ names) (t ∷ ts) zero n is = record { name = name; type = t; at = refl; is = cc }
names_of_type (name ∷ names) (t ∷ ts) (suc k) n is =
    let p : IsNamesOf ts k n = names_of_type names ts k n is in
    record { name = p.name; type = p.type; at = p.at; is = p.is }

pub names_back : (names : List (List ℕ)) (ts : List TypeOf) → length names ≡ length ts
    → map (λ (n : KindNames). n.name) (all_names names ts) ≡ names
names_back [] [] same = refl
names_back [] (t ∷ ts) same = absurd (omega arith)
names_back (name ∷ names) [] same = absurd (omega arith)
names_back (name ∷ names) (t ∷ ts) same = ap (λ (ns : List (List ℕ)). name ∷ ns) (names_back names ts (omega arith))

-- a part of the type at a place
pub record IsPart {A : Type 0} (part : TypeOf → A) (ts : List TypeOf) (k : ℕ) (a : A) : Type 0 where
  pub type : TypeOf
  pub at : slice_get ts k ≡ Some type
  pub is : part type ≡ a

pub part_at : {A : Type 0} (part : TypeOf → A) (ts : List TypeOf) (k : ℕ) (a : A) → slice_get (map part ts) k ≡ Some a
    → IsPart part ts k a
part_at part ts k a is =
    let m = mapped (slice_get ts k) part a (sym (slice_get-map part ts k) ∙ is) in
    record { type = m.value; at = m.first; is = m.rest }

-- the draft can be checked
states_are : (ts : List TypeOf) → All IsTypeKept ts → (place : ℕ) (kind : Kind) (list : List Triple)
    → slice_get (map (λ (t : TypeOf). t.kind) ts) place ≡ Some kind
    → slice_get (map (λ (t : TypeOf). t.triples) ts) place ≡ Some list → AreOfStates kind list
states_are ts all place kind list at_kind at_list =
    let p : IsPart (λ (t : TypeOf). t.kind) ts place kind = part_at (λ (t : TypeOf). t.kind) ts place kind at_kind in
    let q : IsPart (λ (t : TypeOf). t.triples) ts place list =
    part_at (λ (t : TypeOf). t.triples) ts place list at_list in
    let one : Some p.type ≡ Some q.type = sym p.at ∙ q.at in
    let same : p.type ≡ q.type = cc in
    let kept : IsTypeKept p.type = all_at IsTypeKept ts place p.type all p.at in
    let listed : p.type.triples ≡ list = ap (λ (t : TypeOf). t.triples) same ∙ q.is in
    subst (λ (k : Kind). AreOfStates k list) p.is (subst (AreOfStates p.type.kind) listed kept.triples)

pub draft_checked : (d : DraftOf) → IsDraft d → AreChecked d
draft_checked d i =
    let ts : List TypeOf = i.types.list in
    let few : length ts ≤ most_types = i.types_are.few in
    let lists : length (map (λ (t : TypeOf). t.triples) ts) ≡ length ts = length-map ts (λ (t : TypeOf). t.triples) in
    let kinds : length (map (λ (t : TypeOf). t.kind) ts) ≡ length ts = length-map ts (λ (t : TypeOf). t.kind) in
    subst AreChecked i.is (record {
      few = omega arith;
      names = names_long i.types.names ts i.types_are.names ∙ sym lists;
      kinds = kinds ∙ sym lists;
      states = states_are ts i.types_are.kept;
    })

-- the plans can be checked
pub draft_planned : (d : DraftOf) → IsDraft d → ArePlanned d.decl
draft_planned d i =
    let objects : length i.objects.kinds ≡ length i.objects.names = i.objects_are.kinds in
    let few : length i.objects.names ≤ most_objects = i.objects_are.few in
    let sites : i.sites ≤ most_sites = i.sites_are.1 in
    let whole : DraftOf = draft i.sites i.clients i.types i.objects i.plans in
    subst (λ (x : DraftOf). ArePlanned x.decl) i.is (record {
      objects = omega arith;
      epochs = i.plans_are.few;
      shaped = all_of (IsPlanOf (record { sites = i.sites; types = i.types; objects = i.objects }))
          (IsShaped whole.decl) i.plans
          (λ p is.
          let weights : length p.weights ≡ i.sites = is.weights.long in
          let initial : length p.initial ≡ length i.objects.names = is.initial.objects in
          let last : length p.last ≡ length i.objects.names = is.last.objects in
          record { weights = omega arith; initial = omega arith; last = omega arith }) i.plans_are.each_is;
    })

-- certified types have no fault
certified_none : (place : ℕ) (names : KindNames) (kind : Kind) (list : List Triple)
    → certified place names kind list ≡ Ok tt → cert.fault_of kind list ≡ None
certified_none place names kind list is = by (cert.fault_of kind list) is
  where
    by : (o : Option CertFault) → option_map_or
        (λ fault. (let answer : Answer (Unit {0}) = Err (decl.Cert place fault (cert_names names kind fault)) in
        answer)) o (Ok tt) ≡ Ok tt → o ≡ None
    by None is = refl
    by (Some fault) is = absurd (let never : ⊥ = cc in never)

pub all_certified_none : (place : ℕ) (names : List KindNames) (kinds : List Kind) (lists : List (List Triple))
    → length names ≡ length kinds
    → all_certified place names kinds lists ≡ Ok tt
    → (k : ℕ) (kind : Kind) (list : List Triple) → slice_get kinds k ≡ Some kind → slice_get lists k ≡ Some list
    → cert.fault_of kind list ≡ None
all_certified_none place names [] lists long is k kind list at_kind at_list = absurd (let never : ⊥ = cc in never)
all_certified_none place names (x ∷ kinds) [] long is k kind list at_kind at_list = absurd (let never : ⊥ = cc in never)
all_certified_none place [] (x ∷ kinds) (ts ∷ lists) long is k kind list at_kind at_list = absurd (omega arith)
all_certified_none place (n ∷ names) (x ∷ kinds) (ts ∷ lists) long is zero kind list at_kind at_list =
    let c = came (certified place n x ts) (λ _. all_certified (suc place) names kinds lists) tt is in
    let one : x ≡ kind = cc in
    let same : ts ≡ list = cc in
    subst (λ (y : Kind). cert.fault_of y list ≡ None) one
    (subst (λ (ys : List Triple). cert.fault_of x ys ≡ None) same (certified_none place n x ts c.first))
all_certified_none place (n ∷ names) (x ∷ kinds) (ts ∷ lists) long is (suc k) kind list at_kind at_list =
    let c = came (certified place n x ts) (λ _. all_certified (suc place) names kinds lists) tt is in
    all_certified_none (suc place) names kinds lists (omega arith) c.rest k kind list at_kind at_list

-- admitted plans have no fault
admitted_none : (d : Declaration) (epoch : ℕ) (p : Plan) → admitted d epoch p ≡ Ok tt
    → plan.fault_of p d.kinds d.objects ≡ None
admitted_none d epoch p is = by (plan.fault_of p d.kinds d.objects) is
  where
    by : (o : Option PlanFault) → option_map_or
        (λ fault. (let answer : Answer (Unit {0}) = Err (decl.Plan epoch fault (plan_names d fault)) in answer)) o
        (Ok tt) ≡ Ok tt → o ≡ None
    by None is = refl
    by (Some fault) is = absurd (let never : ⊥ = cc in never)

pub all_admitted_none : (d : Declaration) (epoch : ℕ) (ps : List Plan) → all_admitted d epoch ps ≡ Ok tt
    → (k : ℕ) (p : Plan) → slice_get ps k ≡ Some p
    → plan.fault_of p d.kinds d.objects ≡ None
all_admitted_none d epoch [] is k p at = absurd (let never : ⊥ = cc in never)
all_admitted_none d epoch (x ∷ ps) is zero p at =
    let c = came (admitted d epoch x) (λ _. all_admitted d (suc epoch) ps) tt is in
    let same : x ≡ p = cc in
    subst (λ (y : Plan). plan.fault_of y d.kinds d.objects ≡ None) same (admitted_none d epoch x c.first)
all_admitted_none d epoch (x ∷ ps) is (suc k) p at =
    let c = came (admitted d epoch x) (λ _. all_admitted d (suc epoch) ps) tt is in
    all_admitted_none d (suc epoch) ps c.rest k p at

-- the type of an object, and what it keeps
