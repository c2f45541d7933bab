-- A declaration is what its document spells.
use Rattle.std.proofs.Common.{[], ◌≡◌, ℕ, List, ◌∷◌, ◌++◌, length, map, Option, Some, Ok, refl, sym, ap, ◌∙◌, subst}
use Rattle.std.specs.Prelude.{codes, option_and_then}
use Rattle.toml.specs.Data.{Data, Members, as_table, get_member}
use Rattle.qc_plan.specs.declared.plan.Plan.{Plan}
use Rattle.qc_decl.specs.Vocabulary.{greatest_weight, most_clients, most_epochs, most_objects, most_sites, most_types}
use Rattle.qc_decl.specs.declared.declaration.Declaration.{Declaration}
use Rattle.qc_accept.specs.declared.epochs.Side.TheVariants.{Initial, Final}
use Rattle.qc_accept.specs.Vocabulary.{Answer, AreListed, DraftOf, IsDeclared, ObjectsOf, StoreOf, TypesOf, accepted}
use Rattle.qc_accept.specs.Vocabulary.{all_admitted, all_certified, array_at, declared, document_of, draft, draft_of}
use Rattle.qc_accept.specs.Vocabulary.{epoch_keys, item_table, items, keys, keys_path, needs, no_others, number}
use Rattle.qc_accept.specs.Vocabulary.{number_between, objects_of, plan_in, plan_of, plans_of, read_each, required}
use Rattle.qc_accept.specs.Vocabulary.{text_at, told, types_of, weights, with_object, with_plan, with_type, with_weight}
use Rattle.qc_accept.proofs.Answered.{came, mapped, same_ok, told_some}
use Rattle.qc_accept.proofs.Listing.{plan_listed}
use Rattle.qc_accept.proofs.Spelling.{in_order, items_are}
use Rattle.qc_accept.proofs.ItemLists.{Adds, IsFrom, AreFrom, all_from}
use Rattle.qc_accept.proofs.DeclaringItems.{is_table, is_member, ItemText, IsTypeFrom, type_from, type_name_from}
use Rattle.qc_accept.proofs.DeclaringItems.{object_name_from, IsTypeNamed, object_type_from}

-- plans

weights_in_order : (path : List ℕ) (table : Members) (sites : ℕ) (ws : List ℕ) → weights path table sites ≡ Ok ws
    → map (number_between 0 greatest_weight) (array_at table (codes "weights")) ≡ map Some ws
weights_in_order path table sites ws is =
    let c =
    came (items path table (codes "weights") sites sites)
    (λ ds. told (path ++ codes "weights") (read_each with_weight [] ds)) ws is in
    ap (map (number_between 0 greatest_weight)) (items_are path table (codes "weights") sites sites c.value c.first)
    ∙ in_order (number_between 0 greatest_weight) with_weight
    (λ so_far d next more. let m = mapped (number_between 0 greatest_weight d) (λ w. so_far ++ w ∷ []) next more in
    (m.value, m.first, m.rest))
    c.value ws (told_some (path ++ codes "weights") (read_each with_weight [] c.value) ws c.rest)

weights_of : (path : List ℕ) (table : Members) (store : StoreOf) (plan : Plan) → plan_of path table store ≡ Ok plan
    → map (number_between 0 greatest_weight) (array_at table (codes "weights")) ≡ map Some plan.weights
weights_of path table store plan is =
    let a = came (weights path table store.sites) _ plan is in
    let b = came (needs path table store (codes "initial") Initial) _ plan a.rest in
    let c = came (needs path table store (codes "final") Final) _ plan b.rest in
    let d = came (no_others path table epoch_keys) _ plan c.rest in
    subst (λ (p : Plan). map (number_between 0 greatest_weight) (array_at table (codes "weights")) ≡ map Some p.weights)
    (same_ok (record { weights = a.value; initial = b.value; last = c.value }) plan d.rest)
    (weights_in_order path table store.sites a.value a.first)

pub record IsPlanFrom (store : StoreOf) (d : Data) (plan : Plan) : Type 0 where
  pub item : Members
  pub is : as_table d ≡ Some item
  pub weights : map (number_between 0 greatest_weight) (array_at item (codes "weights")) ≡ map Some plan.weights
  pub initial : AreListed store Initial (array_at item (codes "initial")) plan.initial
  pub last : AreListed store Final (array_at item (codes "final")) plan.last

abbrev plans_list : List Plan → List Plan
plans_list plans = plans

plan_from : (store : StoreOf) (plans : List Plan) (d : Data) (next : List Plan) → with_plan store plans d ≡ Ok next
    → Adds plans_list (IsPlanFrom store) plans d next
plan_from store plans d next is =
    let path : List ℕ = keys_path (codes "epoch") (length plans) in
    let b = came (plan_in store (length plans) d) _ next is in
    let a = came (item_table (codes "epoch") (length plans) d) _ b.value b.first in
    let both = plan_listed path a.value store b.value a.rest in
    record {
      one = b.value;
      grown = same_ok (plans ++ b.value ∷ []) next b.rest;
      from = record {
        item = a.value;
        is = is_table (codes "epoch") (length plans) d a.value a.first;
        weights = weights_of path a.value store b.value a.rest;
        initial = both.0;
        last = both.1;
      };
    }

-- the arrays of a document

pub types_from : (path : List ℕ) (table : Members) (types : TypesOf) → types_of path table ≡ Ok types
    → AreFrom IsTypeFrom (array_at table (codes "type")) types.list
    × AreFrom (ItemText (codes "name")) (array_at table (codes "type")) types.names
types_from path table types is =
    let c = came (items path table (codes "type") 1 most_types) _ types is in
    let array : array_at table (codes "type") ≡ c.value =
    items_are path table (codes "type") 1 most_types c.value c.first in
    subst (λ (ds : List Data). AreFrom IsTypeFrom ds types.list × AreFrom (ItemText (codes "name")) ds types.names)
    (sym array) (
      all_from with_type (λ (x : TypesOf). x.list) IsTypeFrom type_from (record { names = []; list = [] }) c.value types
          refl c.rest,
      all_from with_type (λ (x : TypesOf). x.names) (ItemText (codes "name")) type_name_from
          (record { names = []; list = [] }) c.value types refl c.rest,
    )

pub objects_from : (path : List ℕ) (table : Members) (types : TypesOf) (objects : ObjectsOf)
    → objects_of path table types ≡ Ok objects
    → AreFrom (ItemText (codes "name")) (array_at table (codes "object")) objects.names
    × AreFrom (IsTypeNamed types.names) (array_at table (codes "object")) objects.kinds
objects_from path table types objects is =
    let c = came (items path table (codes "object") 1 most_objects) _ objects is in
    let array : array_at table (codes "object") ≡ c.value =
    items_are path table (codes "object") 1 most_objects c.value c.first in
    subst (λ (ds : List Data). AreFrom (ItemText (codes "name")) ds objects.names
    × AreFrom (IsTypeNamed types.names) ds objects.kinds) (sym array) (
      all_from (with_object types.names) (λ (x : ObjectsOf). x.names) (ItemText (codes "name"))
          (object_name_from types.names) (record { names = []; kinds = [] }) c.value objects refl c.rest,
      all_from (with_object types.names) (λ (x : ObjectsOf). x.kinds) (IsTypeNamed types.names)
          (object_type_from types.names) (record { names = []; kinds = [] }) c.value objects refl c.rest,
    )

pub plans_from : (path : List ℕ) (table : Members) (store : StoreOf) (plans : List Plan)
    → plans_of path table store ≡ Ok plans
    → AreFrom (IsPlanFrom store) (array_at table (codes "epoch")) plans
plans_from path table store plans is =
    let c = came (items path table (codes "epoch") 1 most_epochs) _ plans is in
    let array : array_at table (codes "epoch") ≡ c.value =
    items_are path table (codes "epoch") 1 most_epochs c.value c.first in
    subst (λ (ds : List Data). AreFrom (IsPlanFrom store) ds plans) (sym array)
    (all_from (with_plan store) plans_list (IsPlanFrom store) (plan_from store) [] c.value plans refl c.rest)

-- a number under a key
number_told : (path : List ℕ) (table : Members) (key : List ℕ) (least most n : ℕ)
    → number path table key least most ≡ Ok n
    → option_and_then (number_between least most) (get_member key table) ≡ Some n
number_told path table key least most n is =
    let c = came (required path table key) (λ d. told (path ++ key) (number_between least most d)) n is in
    ap (option_and_then (number_between least most)) (is_member path table key c.value c.first)
    ∙ told_some (path ++ key) (number_between least most c.value) n c.rest

-- all of a document
pub draft_declared : (table : Members) (d : DraftOf) → draft_of table ≡ Ok d → IsDeclared table d.decl
draft_declared table d is =
    let a = came (number [] table (codes "sites") 1 most_sites) _ d is in
    let b = came (number [] table (codes "clients") 1 most_clients) _ d a.rest in
    let c = came (types_of [] table) _ d b.rest in
    let e = came (objects_of [] table c.value) _ d c.rest in
    let f = came (plans_of [] table (record { sites = a.value; types = c.value; objects = e.value })) _ d e.rest in
    let g = came (no_others [] table keys) _ d f.rest in
    let t = types_from [] table c.value c.first in
    let o = objects_from [] table c.value e.value e.first in
    let p : AreFrom (IsPlanFrom (record { sites = a.value; types = c.value; objects = e.value }))
    (array_at table (codes "epoch")) f.value =
    plans_from [] table (record { sites = a.value; types = c.value; objects = e.value }) f.value f.first in
    subst (λ (x : DraftOf). IsDeclared table x.decl)
    (same_ok (draft a.value b.value c.value e.value f.value) d g.rest) (record {
      sites = number_told [] table (codes "sites") 1 most_sites a.value a.first;
      clients = number_told [] table (codes "clients") 1 most_clients b.value b.first;
      types = c.value;
      objects = e.value;
      kinds = refl;
      kind_names = refl;
      object_kinds = refl;
      object_names = refl;
      so_many_types = t.0.long;
      so_many_objects = o.0.long;
      so_many_epochs = p.long;
      type_at = λ number x at.
          let i : IsFrom IsTypeFrom (array_at table (codes "type")) number x = t.0.each_is number x at in
          record { item = i.from.item; at = ap (option_and_then as_table) i.at ∙ i.from.is; spelled = i.from.spelled };
      type_name_at = λ number name at.
          let i : IsFrom (ItemText (codes "name")) (array_at table (codes "type")) number name =
          t.1.each_is number name at in
          ap (λ (x : Option Data). option_and_then (λ item. text_at item (codes "name")) (option_and_then as_table x))
          i.at ∙ i.from;
      object_name_at = λ object name at.
          let i : IsFrom (ItemText (codes "name")) (array_at table (codes "object")) object name =
          o.0.each_is object name at in
          ap (λ (x : Option Data). option_and_then (λ item. text_at item (codes "name")) (option_and_then as_table x))
          i.at ∙ i.from;
      object_type_at = λ object number at.
          let i : IsFrom (IsTypeNamed c.value.names) (array_at table (codes "object")) object number =
          o.1.each_is object number at in
          ap (λ (x : Option Data). option_and_then (λ item. text_at item (codes "type")) (option_and_then as_table x))
          i.at ∙ i.from;
      plan_at = λ place plan at.
          let i : IsFrom (IsPlanFrom (record { sites = a.value; types = c.value; objects = e.value }))
          (array_at table (codes "epoch")) place plan = p.each_is place plan at in
          record {
            item = i.from.item;
            at = ap (option_and_then as_table) i.at ∙ i.from.is;
            weights = i.from.weights;
            initial = i.from.initial;
            last = i.from.last;
          };
    })

pub accepted_declarations_are_their_documents : (bytes : List ℕ) (table : Members) (decl : Declaration)
    → document_of bytes ≡ Ok table
    → accepted bytes ≡ Ok decl → IsDeclared table decl
accepted_declarations_are_their_documents bytes table decl document is =
    let a = came (document_of bytes) declared decl is in
    let one : (let x : Answer Members = Ok table in x) ≡ Ok a.value = sym document ∙ a.first in
    let same : a.value ≡ table = sym (same_ok table a.value one) in
    let b = came (draft_of a.value) _ decl a.rest in
    let c = came (all_certified 0 b.value.decl.kind_names b.value.decl.kinds b.value.triples) _ decl b.rest in
    let e = came (all_admitted b.value.decl 1 b.value.decl.plans) _ decl c.rest in
    subst (λ (t : Members). IsDeclared t decl) same
    (subst (IsDeclared a.value) (same_ok b.value.decl decl e.rest) (draft_declared a.value b.value b.first))
