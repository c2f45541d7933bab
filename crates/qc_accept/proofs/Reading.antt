-- Reading items one after another: one item more, the first fault, and the end.
use Rattle.std.proofs.Common.{◌≡◌, ℕ, ◌+◌, ◌<◌, ◌≤◌, List, Option, Some, None, Ok, Err, length, get_or, drop, map, ap}
use Rattle.std.proofs.Common.{sym, ◌∙◌, arith}
use Rattle.std.specs.Prelude.{option_and_then}
use Rattle.std.proofs.lemmas.List.{at_drop_more, at_drop_all, get_or-map, length-map}
use Rattle.qc_accept.specs.declared.fault.DeclFault.{DeclFault}
use Rattle.qc_list.specs.Vocabulary.{◌>>=◌}
use Rattle.qc_accept.specs.Vocabulary.{Answer, each, read_each}

-- this item stands at this place of the items
pub record IsItem {B : Type 0} (items : List B) (i : ℕ) (item : B) : Type 0 where
  pub within : i < length items
  pub at : item ≡ get_or items i item

-- the items of one value

pub read_more : {A B : Type 0} (add : A → B → Option A) (so_far : A) (items : List B) (i : ℕ) (item : B)
    → IsItem items i item
    → read_each add so_far (drop i items) ≡ option_and_then (λ next. read_each add next (drop (i + 1) items))
    (add so_far item)
read_more {A} {B} add so_far items i item h =
    at_drop_more (read_each add so_far) items i item h.within
    ∙ ap (λ (b : B). option_and_then (λ next. read_each add next (drop (i + 1) items)) (add so_far b)) (sym h.at)

pub read_all : {A B : Type 0} (add : A → B → Option A) (so_far : A) (items : List B) (i : ℕ) → length items ≤ i
    → read_each add so_far (drop i items) ≡ Some so_far
read_all add so_far items i past = at_drop_all (read_each add so_far) items i past

-- the same as steps of a loop's invariant: the item is of its form, it isn't, and there are no more

pub reads_on : {A B : Type 0} (add : A → B → Option A) (so_far next : A) (items : List B) (i : ℕ) (item : B)
    (whole : Option A) → IsItem items i item
    → add so_far item ≡ Some next → whole ≡ read_each add so_far (drop i items)
    → whole ≡ read_each add next (drop (i + 1) items)
reads_on {A} add so_far next items i item whole h is before =
    before ∙ read_more add so_far items i item h
    ∙ ap (option_and_then (λ (a : A). read_each add a (drop (i + 1) items))) is

pub reads_none : {A B : Type 0} (add : A → B → Option A) (so_far : A) (items : List B) (i : ℕ) (item : B)
    (whole : Option A) → IsItem items i item
    → add so_far item ≡ None → whole ≡ read_each add so_far (drop i items) → whole ≡ None
reads_none {A} add so_far items i item whole h is before =
    before ∙ read_more add so_far items i item h
    ∙ ap (option_and_then (λ (a : A). read_each add a (drop (i + 1) items))) is

pub reads_all : {A B : Type 0} (add : A → B → Option A) (so_far : A) (items : List B) (i : ℕ) (whole : Option A)
    → length items ≤ i
    → whole ≡ read_each add so_far (drop i items) → whole ≡ Some so_far
reads_all add so_far items i whole past before = before ∙ read_all add so_far items i past

-- items that each may have a fault of its own

pub each_more : {A B : Type 0} (add : A → B → Answer A) (so_far : A) (items : List B) (i : ℕ) (item : B)
    → IsItem items i item
    → each add so_far (drop i items) ≡ (add so_far item >>= (λ next. each add next (drop (i + 1) items)))
each_more {A} {B} add so_far items i item h =
    at_drop_more (each add so_far) items i item h.within
    ∙ ap (λ (b : B). add so_far b >>= (λ next. each add next (drop (i + 1) items))) (sym h.at)

pub each_all : {A B : Type 0} (add : A → B → Answer A) (so_far : A) (items : List B) (i : ℕ) → length items ≤ i
    → each add so_far (drop i items) ≡ Ok so_far
each_all add so_far items i past = at_drop_all (each add so_far) items i past

pub goes_on : {A B : Type 0} (add : A → B → Answer A) (so_far next : A) (items : List B) (i : ℕ) (item : B)
    (whole : Answer A) → IsItem items i item
    → add so_far item ≡ Ok next → whole ≡ each add so_far (drop i items) → whole ≡ each add next (drop (i + 1) items)
goes_on {A} add so_far next items i item whole h is before =
    before ∙ each_more add so_far items i item h
    ∙ ap (λ (o : Answer A). o >>= (λ a. each add a (drop (i + 1) items))) is

pub stops : {A B : Type 0} (add : A → B → Answer A) (so_far : A) (items : List B) (i : ℕ) (item : B) (fault : DeclFault)
    (whole : Answer A) → IsItem items i item
    → add so_far item ≡ Err fault → whole ≡ each add so_far (drop i items) → whole ≡ Err fault
stops {A} add so_far items i item fault whole h is before =
    before ∙ each_more add so_far items i item h
    ∙ ap (λ (o : Answer A). o >>= (λ a. each add a (drop (i + 1) items))) is

pub ends : {A B : Type 0} (add : A → B → Answer A) (so_far : A) (items : List B) (i : ℕ) (whole : Answer A)
    → length items ≤ i
    → whole ≡ each add so_far (drop i items) → whole ≡ Ok so_far
ends add so_far items i whole past before = before ∙ each_all add so_far items i past

-- an item of values that are seen as the definition's
pub item_seen : {V B : Type 0} (view : V → B) (values : List V) (i : ℕ) (value : V) → i < length values
    → value ≡ get_or values i value
    → IsItem (map view values) i (view value)
item_seen view values i value within at = record {
  within = omega (arith, length-map values view);
  at = ap view at ∙ sym (get_or-map view values i value (view value) within);
}
