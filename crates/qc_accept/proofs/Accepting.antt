-- An accepted declaration keeps what it has to.
use Rattle.std.proofs.Common.{◌≡◌, ℕ, zero, suc, ◌<◌, ◌≤◌, List, [], ◌∷◌, length, map, Option, Some, None, Ok, Err}
use Rattle.std.proofs.Common.{refl, sym, ap, ◌∙◌, subst, arith}
use Rattle.std.specs.Prelude.{All, codes, slice_get, option_and_then, option_map}
use Rattle.std.specs.Option.{option_map_or}
use Rattle.std.proofs.lemmas.List.{length-map}
use Rattle.std.proofs.lemmas.Option.{slice_get-map}
use Rattle.toml.specs.Data.{Members}
use Rattle.qc_cert.proofs.Faultless.{no_fault_is_inductive}
use Rattle.qc_cert.proofs.Walk.{inductive_lists_make_relations_exact}
use Rattle.qc_cert.specs.Faults as cert
use Rattle.qc_cert.specs.declared.fault.CertFault.{CertFault}
use Rattle.qc_cert.specs.declared.triple.Triple.{Triple}
use Rattle.qc_plan.proofs.Faultless as plan_proofs
use Rattle.qc_plan.specs.Faults as plan
use Rattle.qc_plan.specs.declared.fault.PlanFault.{PlanFault}
use Rattle.qc_plan.specs.declared.plan.Plan.{Plan}
use Rattle.qc_table.specs.Vocabulary.{IsSound, events_of}
use Rattle.qc_table.specs.declared.kind.Kind.{Kind}
use Rattle.qc_decl.specs.declared.declaration.Declaration.{Declaration}
use Rattle.qc_decl.specs.declared.declaration.KindNames.{KindNames}
use Rattle.qc_decl.specs.Vocabulary.{AreNames, AreThresholds, HasNames, HasThresholds, IsAccepted, IsGood, IsNamed}
use Rattle.qc_decl.specs.Vocabulary.{IsRight, kind_at, most_clients, most_events, most_objects, most_sites, most_types}
use Rattle.qc_accept.specs.declared.fault.DeclFault.TheVariants as decl
use Rattle.qc_accept.specs.Vocabulary.{Answer, AreChecked, AreFew, AreOfStates, ArePlanned, DraftOf, IsFit, IsShaped}
use Rattle.qc_accept.specs.Vocabulary.{ObjectsOf, TypeOf, TypesOf, accepted, admitted, all_admitted, all_certified}
use Rattle.qc_accept.specs.Vocabulary.{all_names, cert_names, certified, declared, document_of, draft, draft_of, keys}
use Rattle.qc_accept.specs.Vocabulary.{kind_names, kind_of, no_others, number, objects_of, places, plan_names, plans_of}
use Rattle.qc_accept.specs.Vocabulary.{types_of}
use Rattle.qc_decl.proofs.AcceptedNames.{accepted_declarations_have_few_names}
use Rattle.qc_accept.specs.declared.epochs.Side.{Side}
use Rattle.qc_accept.specs.declared.epochs.Side.TheVariants.{Initial, Final}
use Rattle.qc_accept.proofs.Answered.{came, found, mapped, same_ok}
use Rattle.qc_accept.proofs.Kept.{IsTypeKept, AreTypesKept, types_kept}
use Rattle.qc_accept.proofs.Drafted.{all_at, all_of, number_is, AreObjectsKept, objects_kept, AreLists, IsPlanOf}
use Rattle.qc_accept.proofs.Drafted.{ArePlansKept, plans_kept}
use Rattle.qc_accept.proofs.CheckedDrafts.{IsDraft, IsNamesOf, IsPart, draft_is, names_back, names_long, names_of_type}
use Rattle.qc_accept.proofs.CheckedDrafts.{part_at, all_certified_none, all_admitted_none}

-- a store of kept parts fits
pub store_fits : (sites : ℕ) (types : TypesOf) (objects : ObjectsOf) → sites ≤ most_sites → AreTypesKept types
    → length objects.names ≤ most_objects
    → IsFit (record { sites = sites; types = types; objects = objects })
store_fits sites types objects few_sites are few = record {
  sites = few_sites;
  objects = few;
  words = all_of IsTypeKept (λ (t : TypeOf). AreFew t.words) types.list (λ t k. k.words.few) are.kept;
  events = all_of IsTypeKept (λ (t : TypeOf). length t.events ≤ most_events) types.list (λ t k. k.events) are.kept;
}

record IsObjectOf (types : TypesOf) (objects : ObjectsOf) (object : ℕ) (kind : Kind) : Type 0 where
  type : TypeOf
  of : kind_of types objects object ≡ Some type
  is : type.kind ≡ kind
  kept : IsTypeKept type

-- the parts of an accepted declaration
module _ (sites clients : ℕ) (types : TypesOf) (objects : ObjectsOf) (plans : List Plan)
    (types_are : AreTypesKept types)
    (objects_are : AreObjectsKept (length types.names) objects)
    (plans_are : ArePlansKept (record { sites = sites; types = types; objects = objects }) plans) where
  right_at : all_certified 0 (all_names types.names types.list) (map (λ (t : TypeOf). t.kind) types.list)
      (map (λ (t : TypeOf). t.triples) types.list) ≡ Ok tt
      → (number : ℕ) (kind : Kind) → slice_get (map (λ (t : TypeOf). t.kind) types.list) number ≡ Some kind
      → IsRight kind
  right_at shown number kind at =
      let ts : List TypeOf = types.list in
      let p : IsPart (λ (t : TypeOf). t.kind) ts number kind = part_at (λ (t : TypeOf). t.kind) ts number kind at in
      let kept : IsTypeKept p.type = all_at IsTypeKept ts number p.type types_are.kept p.at in
      let list_at : slice_get (map (λ (t : TypeOf). t.triples) ts) number ≡ Some p.type.triples =
      slice_get-map (λ (t : TypeOf). t.triples) ts number ∙ ap (option_map (λ (t : TypeOf). t.triples)) p.at in
      let long : length (all_names types.names ts) ≡ length (map (λ (t : TypeOf). t.kind) ts) =
      names_long types.names ts types_are.names ∙ sym (length-map ts (λ (t : TypeOf). t.kind)) in
      let none : cert.fault_of kind p.type.triples ≡ None =
      all_certified_none 0 (all_names types.names ts) (map (λ (t : TypeOf). t.kind) ts)
      (map (λ (t : TypeOf). t.triples) ts) long shown number kind p.type.triples at list_at in
      let sound : IsSound kind.table = subst (λ (k : Kind). IsSound k.table) p.is kept.table in
      record {
        sound = sound;
        exact = inductive_lists_make_relations_exact kind p.type.triples
            (no_fault_is_inductive kind p.type.triples sound none);
      }

  good_at : all_admitted (draft sites clients types objects plans).decl 1 plans ≡ Ok tt → (place : ℕ) (p : Plan)
      → slice_get plans place ≡ Some p
      → IsGood (draft sites clients types objects plans).decl p
  good_at shown place p at =
      let whole : Declaration = (draft sites clients types objects plans).decl in
      let is : IsPlanOf (record { sites = sites; types = types; objects = objects }) p =
      all_at (IsPlanOf (record { sites = sites; types = types; objects = objects })) plans place p plans_are.each_is at
      in
      let kinds : length objects.kinds ≡ length objects.names = objects_are.kinds in
      let initial : length p.initial ≡ length objects.names = is.initial.objects in
      let last : length p.last ≡ length objects.names = is.last.objects in
      record {
        weights = is.weights.long;
        admitted = plan_proofs.admitted p whole.kinds whole.objects (omega arith) (omega arith)
            (all_admitted_none whole 1 plans shown place p at);
      }

  typed_at : (object number : ℕ) → slice_get objects.kinds object ≡ Some number
      → number < length (map (λ (t : TypeOf). t.kind) types.list)
  typed_at object number at =
      subst (λ n. number < n) (types_are.names ∙ sym (length-map types.list (λ (t : TypeOf). t.kind)))
      (all_at (λ kind. kind < length types.names) objects.kinds object number objects_are.typed at)

  -- the type of an object is the one that was read
  type_at : (object : ℕ) (kind : Kind) → kind_at (draft sites clients types objects plans).decl object ≡ Some kind
      → IsObjectOf types objects object kind
  type_at object kind at =
      let c = found (slice_get objects.kinds object) (slice_get (map (λ (t : TypeOf). t.kind) types.list)) kind at in
      let p : IsPart (λ (t : TypeOf). t.kind) types.list c.value kind =
      part_at (λ (t : TypeOf). t.kind) types.list c.value kind c.rest in
      record {
        type = p.type;
        of = ap (option_and_then (slice_get types.list)) c.first ∙ p.at;
        is = p.is;
        kept = all_at IsTypeKept types.list c.value p.type types_are.kept p.at;
      }

  -- the thresholds of a side
  thresholds_at : (side : Side) (count : Kind → ℕ) (lists : List (List ℕ))
      → AreLists (record { sites = sites; types = types; objects = objects }) side lists
      → ((t : TypeOf) → IsTypeKept t → places side t ≡ count t.kind)
      → AreThresholds (draft sites clients types objects plans).decl count lists
  thresholds_at side count lists are same = record {
    objects = are.objects ∙ sym objects_are.kinds;
    each_is = λ object kind list at of.
        let o : IsObjectOf types objects object kind = type_at object kind at in
        are.each_is object o.type list o.of of ∙ same o.type o.kept ∙ ap count o.is;
    numbers = are.numbers;
  }

  listed_at : (place : ℕ) (p : Plan) → slice_get plans place ≡ Some p
      → HasThresholds (draft sites clients types objects plans).decl p
  listed_at place p at =
      let is : IsPlanOf (record { sites = sites; types = types; objects = objects }) p =
      all_at (IsPlanOf (record { sites = sites; types = types; objects = objects })) plans place p plans_are.each_is at
      in
      record {
        weights = is.weights.small;
        initial = thresholds_at Initial (λ kind. kind.table.invs) p.initial is.initial (λ t kept. kept.invs.count);
        last = thresholds_at Final (λ kind. length (events_of kind.table.rows)) p.last is.last
            (λ t kept. ap length kept.events_are);
      }

  -- names

  types_named : AreNames (length (map (λ (t : TypeOf). t.kind) types.list))
      (map (λ (n : KindNames). n.name) (all_names types.names types.list))
  types_named =
      subst (AreNames (length (map (λ (t : TypeOf). t.kind) types.list)))
      (sym (names_back types.names types.list types_are.names))
      (subst (λ n. AreNames n types.names) (sym (length-map types.list (λ (t : TypeOf). t.kind))) types_are.named)

  objects_named : AreNames (length objects.kinds) objects.names
  objects_named = subst (λ n. AreNames n objects.names) (sym objects_are.kinds) objects_are.named

  parts_named : (number : ℕ) (kind : Kind) (names : KindNames)
      → slice_get (map (λ (t : TypeOf). t.kind) types.list) number ≡ Some kind
      → slice_get (all_names types.names types.list) number ≡ Some names → HasNames kind names
  parts_named number kind names at of =
      let p : IsPart (λ (t : TypeOf). t.kind) types.list number kind =
      part_at (λ (t : TypeOf). t.kind) types.list number kind at in
      let n : IsNamesOf types.list number names = names_of_type types.names types.list number names of in
      let both : Some p.type ≡ Some n.type = sym p.at ∙ n.at in
      let same : p.type ≡ n.type = cc in
      let kept : IsTypeKept p.type = all_at IsTypeKept types.list number p.type types_are.kept p.at in
      let whole : HasNames p.type.kind (kind_names n.name p.type) =
      record { states = kept.states; invs = kept.invs; resps = kept.resps } in
      subst (λ (k : Kind). HasNames k names) p.is
      (subst (HasNames p.type.kind) (ap (kind_names n.name) same ∙ n.is) whole)

-- a draft whose certificates and plans are shown is an accepted declaration
pub draft_accepted : (d : DraftOf) → IsDraft d → all_certified 0 d.decl.kind_names d.decl.kinds d.triples ≡ Ok tt
    → all_admitted d.decl 1 d.decl.plans ≡ Ok tt
    → IsAccepted d.decl
draft_accepted d i certs plans =
    let site : 1 ≤ i.sites = i.sites_are.0 in
    let client : 1 ≤ i.clients = i.clients_are.0 in
    let kinds : length (map (λ (t : TypeOf). t.kind) i.types.list) ≡ length i.types.list =
    length-map i.types.list (λ (t : TypeOf). t.kind) in
    let some_type : 0 < length (map (λ (t : TypeOf). t.kind) i.types.list) =
    subst (λ n. 0 < n) (sym kinds) i.types_are.some in
    let few_types : length (map (λ (t : TypeOf). t.kind) i.types.list) ≤ most_types =
    subst (λ n. n ≤ most_types) (sym kinds) i.types_are.few in
    let some_object : 0 < length i.objects.kinds = subst (λ n. 0 < n) (sym i.objects_are.kinds) i.objects_are.some in
    let few_objects : length i.objects.kinds ≤ most_objects =
    subst (λ n. n ≤ most_objects) (sym i.objects_are.kinds) i.objects_are.few in
    subst (λ (x : DraftOf). IsAccepted x.decl) i.is (record {
      has_site = omega arith;
      sites = i.sites_are.1;
      has_client = omega arith;
      clients = i.clients_are.1;
      has_type = some_type;
      types = few_types;
      has_object = some_object;
      objects = few_objects;
      has_epoch = i.plans_are.some;
      epochs = i.plans_are.few;
      typed = typed_at i.sites i.clients i.types i.objects i.plans i.types_are i.objects_are i.plans_are;
      right = right_at i.sites i.clients i.types i.objects i.plans i.types_are i.objects_are i.plans_are
          (subst (λ (x : DraftOf). all_certified 0 x.decl.kind_names x.decl.kinds x.triples ≡ Ok tt) (sym i.is) certs);
      good = good_at i.sites i.clients i.types i.objects i.plans i.types_are i.objects_are i.plans_are
          (subst (λ (x : DraftOf). all_admitted x.decl 1 x.decl.plans ≡ Ok tt) (sym i.is) plans);
      thresholds = listed_at i.sites i.clients i.types i.objects i.plans i.types_are i.objects_are i.plans_are;
      type_names = types_named i.sites i.clients i.types i.objects i.plans i.types_are i.objects_are i.plans_are;
      object_names = objects_named i.sites i.clients i.types i.objects i.plans i.types_are i.objects_are i.plans_are;
      names = parts_named i.sites i.clients i.types i.objects i.plans i.types_are i.objects_are i.plans_are;
    })

-- what was accepted came from a draft
pub record IsShown (d : Declaration) : Type 0 where
  pub whole : DraftOf
  pub is : whole.decl ≡ d
  pub drafted : IsDraft whole
  pub certified : all_certified 0 whole.decl.kind_names whole.decl.kinds whole.triples ≡ Ok tt
  pub admitted : all_admitted whole.decl 1 whole.decl.plans ≡ Ok tt

shown : (bytes : List ℕ) (d : Declaration) → accepted bytes ≡ Ok d → IsShown d
shown bytes d is =
    let a = came (document_of bytes) declared d is in
    let b = came (draft_of a.value) _ d a.rest in
    let c = came (all_certified 0 b.value.decl.kind_names b.value.decl.kinds b.value.triples) _ d b.rest in
    let e = came (all_admitted b.value.decl 1 b.value.decl.plans) _ d c.rest in
    record {
      whole = b.value;
      is = same_ok b.value.decl d e.rest;
      drafted = draft_is a.value b.value b.first;
      certified = c.first;
      admitted = e.first;
    }

pub accepted_declarations_keep_the_rules : (bytes : List ℕ) (d : Declaration) → accepted bytes ≡ Ok d → IsAccepted d
accepted_declarations_keep_the_rules bytes d is =
    let s : IsShown d = shown bytes d is in subst IsAccepted s.is
    (draft_accepted s.whole s.drafted s.certified s.admitted)

pub accepted_declarations_are_named : (bytes : List ℕ) (d : Declaration) → accepted bytes ≡ Ok d → IsNamed d
accepted_declarations_are_named bytes d is =
    accepted_declarations_have_few_names d (accepted_declarations_keep_the_rules bytes d is)
