-- What the fields of a declaration keep, once they are read.
use Rattle.std.proofs.Common.{◌≡◌, ℕ, suc, ◌+◌, ◌<◌, ◌≤◌, List, [], ◌∷◌, ◌++◌, length, Option, Some, Ok, get_or, refl}
use Rattle.std.proofs.Common.{sym, ap, ◌∙◌, subst, arith}
use Rattle.std.specs.Prelude.{All, codes, slice_get, option_and_then}
use Rattle.std.specs.Option.{option_map_or}
use Rattle.std.proofs.lemmas.List.{length-append}
use Rattle.std.proofs.lemmas.List.Elements.{All-nil}
use Rattle.std.proofs.lemmas.Option.{cond_some, slice_get_within, get_or_from_slice_get}
use Rattle.toml.specs.Data.{Data, Members, as_integer}
use Rattle.qc_plan.specs.declared.plan.Plan.{Plan}
use Rattle.qc_decl.specs.Vocabulary.{AreNames, greatest_weight, is_between, most_epochs, most_objects}
use Rattle.qc_accept.specs.declared.epochs.Side.{Side}
use Rattle.qc_accept.specs.declared.epochs.Side.TheVariants.{Initial, Final}
use Rattle.qc_accept.specs.Vocabulary.{EntryOf, ObjectsOf, StoreOf, TypeOf, TypesOf, entries_in, epoch_keys, item_table}
use Rattle.qc_accept.specs.Vocabulary.{items, keys_path, kind_of, name_among, natural, needs, needs_of, no_others}
use Rattle.qc_accept.specs.Vocabulary.{number, number_between, object_keys, objects_of, optional, places, places_of}
use Rattle.qc_accept.specs.Vocabulary.{plan_in, plan_of, plans_of, read_each, required, told, weights, with_name}
use Rattle.qc_accept.specs.Vocabulary.{with_object, with_plan, with_weight}
use Rattle.qc_accept.proofs.Answered.{came, found, mapped, told_some, same_ok, each_keeps, read_each_keeps, so_many}
use Rattle.qc_accept.proofs.Answered.{one_more}
use Rattle.qc_accept.proofs.Listed.{IsThreshold, list_of, needs_at, needs_long, needs_small, thresholds_long}
use Rattle.qc_accept.proofs.Naming.{all_named, names_more, no_names}
use Rattle.qc_accept.proofs.Kept.{among_within, name_more}
use Rattle.qc_decl.proofs.Between.{between}

-- what holds of each holds of the one at a place
pub all_at : {A : Type 0} (P : A → Type 0) (xs : List A) (k : ℕ) (x : A) → All P xs → slice_get xs k ≡ Some x → P x
all_at P xs k x all is = subst P (get_or_from_slice_get xs k x x is) (all k x (slice_get_within xs k x is))

pub all_of : {A : Type 0} (P Q : A → Type 0) (xs : List A) → ((x : A) → P x → Q x) → All P xs → All Q xs
all_of P Q xs gives all = λ k d within. gives (get_or xs k d) (all k d within)

-- a number between two
between_is : (least most : ℕ) (d : Data) (n : ℕ) → number_between least most d ≡ Some n → (least ≤ n) × (n ≤ most)
between_is least most d n is =
    let f = found (option_and_then natural (as_integer d)) _ n is in
    let t = cond_some (is_between least most f.value) f.value n f.rest in
    subst (λ m. (least ≤ m) × (m ≤ most)) t.1 (between least most f.value t.0)

pub number_is : (path : List ℕ) (table : Members) (key : List ℕ) (least most n : ℕ)
    → number path table key least most ≡ Ok n → (least ≤ n) × (n ≤ most)
number_is path table key least most n is =
    let c = came (required path table key) _ n is in
    between_is least most c.value n (told_some (path ++ key) (number_between least most c.value) n c.rest)

-- so many objects, each of one of the types
pub record AreObjects (types n : ℕ) (objects : ObjectsOf) : Type 0 where
  pub names : length objects.names ≡ n
  pub kinds : length objects.kinds ≡ n
  pub named : AreNames n objects.names
  pub typed : All (λ kind. kind < types) objects.kinds

pub object_more : (types : List (List ℕ)) (n : ℕ) (objects : ObjectsOf) (d : Data) (next : ObjectsOf)
    → AreObjects (length types) n objects → with_object types objects d ≡ Ok next
    → AreObjects (length types) (suc n) next
object_more types n objects d next are is =
    let path : List ℕ = keys_path (codes "object") (length objects.names) in
    let a = came (item_table (codes "object") (length objects.names) d) _ next is in
    let b = came (required path a.value (codes "name")) _ next a.rest in
    let c = came (told (path ++ codes "name") (with_name objects.names b.value)) _ next b.rest in
    let e = came (required path a.value (codes "type")) _ next c.rest in
    let f = came (told (path ++ codes "type") (name_among types e.value)) _ next e.rest in
    let g = came (no_others path a.value object_keys) _ next f.rest in
    let long : length (objects.kinds ++ f.value ∷ []) ≡ length objects.kinds + 1 =
    length-append objects.kinds (f.value ∷ []) in
    let before : length objects.kinds ≡ n = are.kinds in
    subst (AreObjects (length types) (suc n))
    (same_ok (record { names = c.value; kinds = objects.kinds ++ f.value ∷ [] }) next g.rest) (record {
      names = name_more objects.names b.value c.value
          (told_some (path ++ codes "name") (with_name objects.names b.value) c.value c.first) ∙ ap suc are.names;
      kinds = long ∙ omega arith;
      named = names_more n objects.names b.value c.value are.named
          (told_some (path ++ codes "name") (with_name objects.names b.value) c.value c.first);
      typed = one_more (λ kind. kind < length types) objects.kinds f.value are.typed
          (among_within types e.value f.value (told_some (path ++ codes "type")
          (name_among types e.value) f.value f.first));
    })

pub record AreObjectsKept (types : ℕ) (objects : ObjectsOf) : Type 0 where
  pub some : 0 < length objects.names
  pub few : length objects.names ≤ most_objects
  pub kinds : length objects.kinds ≡ length objects.names
  pub named : AreNames (length objects.names) objects.names
  pub typed : All (λ kind. kind < types) objects.kinds

pub objects_kept : (path : List ℕ) (table : Members) (types : TypesOf) (objects : ObjectsOf)
    → objects_of path table types ≡ Ok objects
    → AreObjectsKept (length types.names) objects
objects_kept path table types objects is =
    let c = came (items path table (codes "object") 1 most_objects) _ objects is in
    let many : (1 ≤ length c.value) × (length c.value ≤ most_objects) =
    so_many path table (codes "object") 1 most_objects c.value c.first in
    let are : AreObjects (length types.names) (0 + length c.value) objects =
    each_keeps (AreObjects (length types.names)) (with_object types.names) (object_more types.names) 0
    (record { names = []; kinds = [] }) c.value objects
    (record { names = refl; kinds = refl; named = no_names; typed = All-nil (λ kind. kind < length types.names) })
    c.rest in
    let names : length objects.names ≡ 0 + length c.value = are.names in
    record {
      some = omega arith;
      few = omega arith;
      kinds = are.kinds
          ∙ sym are.names;
      named = all_named (0 + length c.value) objects.names are.named;
      typed = are.typed;
    }

-- one list of thresholds for each object, with a small one for each place
pub record AreLists (store : StoreOf) (side : Side) (lists : List (List ℕ)) : Type 0 where
  pub objects : length lists ≡ length store.objects.names
  pub each_is : (object : ℕ) (t : TypeOf) (list : List ℕ) → kind_of store.types store.objects object ≡ Some t
      → slice_get lists object ≡ Some list
      → length list ≡ places side t
  pub numbers : All (All IsThreshold) lists

listed_long : (store : StoreOf) (side : Side) (entries : List EntryOf) (n object : ℕ) (t : TypeOf) (list : List ℕ)
    → kind_of store.types store.objects object ≡ Some t
    → slice_get (needs_of store side entries n) object ≡ Some list → length list ≡ places side t
listed_long store side entries n object t list of at =
    let long : length (needs_of store side entries n) ≡ n = needs_long store side entries n in
    let inside : object < length (needs_of store side entries n) =
    slice_get_within (needs_of store side entries n) object list at in
    let within : object < n = omega arith in
    let both : Some (list_of store side entries object) ≡ Some list = sym (needs_at store side entries n object within)
    ∙ at in
    let same : list_of store side entries object ≡ list = cc in
    sym (ap length same) ∙ thresholds_long entries object (places_of store side object)
    ∙ ap (λ (o : Option TypeOf). option_map_or (places side) o 0) of

needs_are : (path : List ℕ) (table : Members) (store : StoreOf) (key : List ℕ) (side : Side) (ns : List (List ℕ))
    → needs path table store key side ≡ Ok ns
    → AreLists store side ns
needs_are path table store key side ns is =
    let a = came (optional path table key) _ ns is in
    let b = came (told (path ++ key) (entries_in store side a.value)) _ ns a.rest in
    let n : ℕ = length store.objects.names in
    subst (AreLists store side) (same_ok (needs_of store side b.value n) ns b.rest) (record {
      objects = needs_long store side b.value n;
      each_is = listed_long store side b.value n;
      numbers = needs_small store side a.value b.value n
          (told_some (path ++ key) (entries_in store side a.value) b.value b.first);
    })

weight_more : (so_far : List ℕ) (d : Data) (next : List ℕ) → with_weight so_far d ≡ Some next
    → length next ≡ suc (length so_far)
weight_more so_far d next is =
    let m = mapped (number_between 0 greatest_weight d) (λ w. so_far ++ w ∷ []) next is in
    let long : length (so_far ++ m.value ∷ []) ≡ length so_far + 1 = length-append so_far (m.value ∷ []) in
    ap length (sym m.rest) ∙ (long ∙ omega arith)

abbrev IsWeight : ℕ → Type 0
IsWeight w = w ≤ greatest_weight

weight_small : (so_far : List ℕ) (d : Data) (next : List ℕ) → All IsWeight so_far → with_weight so_far d ≡ Some next
    → All IsWeight next
weight_small so_far d next all is =
    let m = mapped (number_between 0 greatest_weight d) (λ w. so_far ++ w ∷ []) next is in
    subst (All IsWeight) m.rest (one_more IsWeight so_far m.value all
    (between_is 0 greatest_weight d m.value m.first).1)

pub record AreWeights (sites : ℕ) (ws : List ℕ) : Type 0 where
  pub long : length ws ≡ sites
  pub small : All IsWeight ws

weights_are : (path : List ℕ) (table : Members) (sites : ℕ) (ws : List ℕ) → weights path table sites ≡ Ok ws
    → AreWeights sites ws
weights_are path table sites ws is =
    let c = came (items path table (codes "weights") sites sites) _ ws is in
    let many : (sites ≤ length c.value) × (length c.value ≤ sites) =
    so_many path table (codes "weights") sites sites c.value c.first in
    let read : read_each with_weight [] c.value ≡ Some ws =
    told_some (path ++ codes "weights") (read_each with_weight [] c.value) ws c.rest in
    let long : length ws ≡ 0 + length c.value =
    read_each_keeps (λ n (a : List ℕ). length a ≡ n) with_weight
    (λ n a b next holds more. weight_more a b next more ∙ ap suc holds) 0 [] c.value ws refl read in
    let counted : length ws ≡ sites = omega arith in
    record {
      long = counted;
      small = read_each_keeps (λ n (a : List ℕ). All IsWeight a) with_weight
          (λ n a b next holds more. weight_small a b next holds more) 0 [] c.value ws (All-nil IsWeight) read;
    }

-- a plan has a weight for each site, and thresholds for each object
pub record IsPlanOf (store : StoreOf) (plan : Plan) : Type 0 where
  pub weights : AreWeights store.sites plan.weights
  pub initial : AreLists store Initial plan.initial
  pub last : AreLists store Final plan.last

plan_is : (path : List ℕ) (table : Members) (store : StoreOf) (plan : Plan) → plan_of path table store ≡ Ok plan
    → IsPlanOf store plan
plan_is path table store plan is =
    let a = came (weights path table store.sites) _ plan is in
    let b = came (needs path table store (codes "initial") Initial) _ plan a.rest in
    let c = came (needs path table store (codes "final") Final) _ plan b.rest in
    let d = came (no_others path table epoch_keys) _ plan c.rest in
    subst (IsPlanOf store) (same_ok (record { weights = a.value; initial = b.value; last = c.value }) plan d.rest)
    (record {
      weights = weights_are path table store.sites a.value a.first;
      initial = needs_are path table store (codes "initial") Initial b.value b.first;
      last = needs_are path table store (codes "final") Final c.value c.first;
    })

record ArePlans (store : StoreOf) (n : ℕ) (plans : List Plan) : Type 0 where
  long : length plans ≡ n
  each_is : All (IsPlanOf store) plans

plan_more : (store : StoreOf) (n : ℕ) (plans : List Plan) (d : Data) (next : List Plan) → ArePlans store n plans
    → with_plan store plans d ≡ Ok next → ArePlans store (suc n) next
plan_more store n plans d next are is =
    let path : List ℕ = keys_path (codes "epoch") (length plans) in
    let b = came (plan_in store (length plans) d) _ next is in
    let a = came (item_table (codes "epoch") (length plans) d) _ b.value b.first in
    let long : length (plans ++ b.value ∷ []) ≡ length plans + 1 = length-append plans (b.value ∷ []) in
    let before : length plans ≡ n = are.long in
    subst (ArePlans store (suc n)) (same_ok (plans ++ b.value ∷ []) next b.rest) (record {
      long = long ∙ omega arith;
      each_is = one_more (IsPlanOf store) plans b.value are.each_is (plan_is path a.value store b.value a.rest);
    })

pub record ArePlansKept (store : StoreOf) (plans : List Plan) : Type 0 where
  pub some : 0 < length plans
  pub few : length plans ≤ most_epochs
  pub each_is : All (IsPlanOf store) plans

pub plans_kept : (path : List ℕ) (table : Members) (store : StoreOf) (plans : List Plan)
    → plans_of path table store ≡ Ok plans → ArePlansKept store plans
plans_kept path table store plans is =
    let c = came (items path table (codes "epoch") 1 most_epochs) _ plans is in
    let many : (1 ≤ length c.value) × (length c.value ≤ most_epochs) =
    so_many path table (codes "epoch") 1 most_epochs c.value c.first in
    let are : ArePlans store (0 + length c.value) plans =
    each_keeps (ArePlans store) (with_plan store) (plan_more store) 0 [] c.value plans
    (record { long = refl; each_is = All-nil (IsPlanOf store) }) c.rest in
    let long : length plans ≡ 0 + length c.value = are.long in
    record { some = omega arith; few = omega arith; each_is = are.each_is }
