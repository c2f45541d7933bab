-- Thresholds that are listed, and those that aren't.
use Rattle.std.proofs.Common.{◌≡◌, ℕ, ◌<◌, Bool, true, false, cond, List, [], ◌∷◌, ◌++◌, zero, suc, length, Option}
use Rattle.std.proofs.Common.{Some, None, Ok, refl, sym, ap, ◌∙◌, subst}
use Rattle.std.specs.Prelude.{◌==◌, ◌||◌, codes, find, nat_le, slice_get}
use Rattle.std.specs.List.{list_any}
use Rattle.std.specs.Option.{option_map_or}
use Rattle.std.proofs.lemmas.Bool.{eq-eqb, eqb-true, leb-true, leb-false}
use Rattle.std.proofs.lemmas.List.Quantifiers.{position-Some}
use Rattle.toml.specs.Data.{Data, Members, as_str}
use Rattle.qc_plan.specs.Vocabulary.{need_of}
use Rattle.qc_plan.specs.declared.plan.Plan.{Plan}
use Rattle.qc_table.specs.Vocabulary.{event, same_event}
use Rattle.qc_accept.specs.declared.epochs.Side.{Side}
use Rattle.qc_accept.specs.declared.epochs.Side.TheVariants.{Initial, Final}
use Rattle.qc_accept.specs.Vocabulary.{AreListed, EntryOf, IsListed, StoreOf, TypeOf, array_at, cut, entries_in}
use Rattle.qc_accept.specs.Vocabulary.{entry_in, epoch_keys, is_at, kind_of, needs, needs_of, no_others, number_in}
use Rattle.qc_accept.specs.Vocabulary.{number_of, optional, place_in, places, places_of, plan_of, read_each, three}
use Rattle.qc_accept.specs.Vocabulary.{threshold_of, told, weights, with_item}
use Rattle.qc_accept.proofs.Answered.{came, found, mapped, same_ok, told_some}
use Rattle.qc_accept.proofs.Kept.{number_within}
use Rattle.qc_accept.proofs.Listed.{IsEntry, entry_more, need_is, need_past_objects, need_past_places}
use Rattle.qc_accept.proofs.Spelling.{optional_are}
use Rattle.qc_list.proofs.Booleans.{and_parts}

-- what is found stays found where the list grows
find_before : {A : Type 0} (p : A → Bool) (xs ys : List A) (x : A) → find p xs ≡ Some x → find p (xs ++ ys) ≡ Some x
find_before p [] ys x is = absurd (let never : ⊥ = cc in never)
find_before p (y ∷ xs) ys x is = by (p y) is (find_before p xs ys x)
  where
    by : (b : Bool) → cond b (Some y) (find p xs) ≡ Some x → (find p xs ≡ Some x → find p (xs ++ ys) ≡ Some x)
        → cond b (Some y) (find p (xs ++ ys)) ≡ Some x
    by true is more = is
    by false is more = more is

-- a new item is found at the end
find_new : {A : Type 0} (p : A → Bool) (xs : List A) (x : A) → list_any p xs ≡ false → p x ≡ true
    → find p (xs ++ x ∷ []) ≡ Some x
find_new p [] x none is = ap (λ b. cond b (Some x) None) is
find_new p (y ∷ xs) x none is = by (p y) none (λ none. find_new p xs x none is)
  where
    by : (b : Bool) → (b || list_any p xs) ≡ false → (list_any p xs ≡ false → find p (xs ++ x ∷ []) ≡ Some x)
        → cond b (Some y) (find p (xs ++ x ∷ [])) ≡ Some x
    by true none more = absurd (let never : ⊥ = cc in never)
    by false none more = more none

-- and none where neither the list nor the new item has one
find_none : {A : Type 0} (p : A → Bool) (xs : List A) (x : A) → find p xs ≡ None → p x ≡ false
    → find p (xs ++ x ∷ []) ≡ None
find_none p [] x none is = ap (λ b. cond b (Some x) None) is
find_none p (y ∷ xs) x none is = by (p y) none (λ none. find_none p xs x none is)
  where
    by : (b : Bool) → cond b (Some y) (find p xs) ≡ None → (find p xs ≡ None → find p (xs ++ x ∷ []) ≡ None)
        → cond b (Some y) (find p (xs ++ x ∷ [])) ≡ None
    by true none more = absurd (let never : ⊥ = cc in never)
    by false none more = more none

itself_at : (e : EntryOf) → is_at e.object e.place e ≡ true
itself_at e = rw (eq-eqb e.object e.object refl, eq-eqb e.place e.place refl) refl

module _ (store : StoreOf) (side : Side) where
  stays : (p : EntryOf → Bool) (x : EntryOf) (before : List EntryOf) (ds : List Data) (entries : List EntryOf)
      → read_each (with_item store side) before ds ≡ Some entries
      → find p before ≡ Some x → find p entries ≡ Some x
  stays p x before [] entries is found_it =
      subst (λ (es : List EntryOf). find p es ≡ Some x) (let same : before ≡ entries = cc in same) found_it
  stays p x before (d ∷ ds) entries is found_it =
      let c = found (with_item store side before d) (λ next. read_each (with_item store side) next ds) entries is in
      let e : IsEntry store side before d c.value = entry_more store side before d c.value c.first in
      stays p x c.value ds entries c.rest (subst (λ (es : List EntryOf). find p es ≡ Some x) e.grown
      (find_before p before (e.entry ∷ []) x found_it))

  -- the entry that a text lists is found
  is_found : (before : List EntryOf) (ds : List Data) (entries : List EntryOf)
      → read_each (with_item store side) before ds ≡ Some entries
      → (k : ℕ) (d : Data) (text : List ℕ) (entry : EntryOf) → slice_get ds k ≡ Some d → as_str d ≡ Some text
      → entry_in store side text ≡ Some entry
      → find (is_at entry.object entry.place) entries ≡ Some entry
  is_found before [] entries is k d text entry at is_text says = absurd (let never : ⊥ = cc in never)
  is_found before (x ∷ ds) entries is zero d text entry at is_text says =
      let c = found (with_item store side before x) (λ next. read_each (with_item store side) next ds) entries is in
      let e : IsEntry store side before x c.value = entry_more store side before x c.value c.first in
      let one : x ≡ d = cc in
      let texts : Some e.text ≡ Some text = sym e.is_text ∙ ap as_str one ∙ is_text in
      let same_text : e.text ≡ text = cc in
      let entries_same : Some e.entry ≡ Some entry = sym e.is_entry ∙ ap (entry_in store side) same_text ∙ says in
      let same : e.entry ≡ entry = cc in
      let new : find (is_at e.entry.object e.entry.place) (before ++ e.entry ∷ []) ≡ Some e.entry =
      find_new (is_at e.entry.object e.entry.place) before e.entry e.new (itself_at e.entry) in
      subst (λ (y : EntryOf). find (is_at y.object y.place) entries ≡ Some y) same
      (stays (is_at e.entry.object e.entry.place) e.entry c.value ds entries c.rest
      (subst (λ (es : List EntryOf). find (is_at e.entry.object e.entry.place) es ≡ Some e.entry) e.grown new))
  is_found before (x ∷ ds) entries is (suc k) d text entry at is_text says =
      let c = found (with_item store side before x) (λ next. read_each (with_item store side) next ds) entries is in
      is_found c.value ds entries c.rest k d text entry at is_text says

  -- and where no text lists one, none is
  is_missing : (object place : ℕ) (before : List EntryOf) (ds : List Data) (entries : List EntryOf)
      → read_each (with_item store side) before ds ≡ Some entries
      → find (is_at object place) before ≡ None
      → ((k : ℕ) (d : Data) (text : List ℕ) (entry : EntryOf) → slice_get ds k ≡ Some d → as_str d ≡ Some text
      → entry_in store side text ≡ Some entry
      → entry.object ≡ object → entry.place ≡ place → ⊥)
      → find (is_at object place) entries ≡ None
  is_missing object place before [] entries is none never =
      subst (λ (es : List EntryOf). find (is_at object place) es ≡ None) (let same : before ≡ entries = cc in same) none
  is_missing object place before (x ∷ ds) entries is none never =
      let c = found (with_item store side before x) (λ next. read_each (with_item store side) next ds) entries is in
      let e : IsEntry store side before x c.value = entry_more store side before x c.value c.first in
      is_missing object place c.value ds entries c.rest
      (subst (λ (es : List EntryOf). find (is_at object place) es ≡ None) e.grown
      (find_none (is_at object place) before e.entry none
      (by e.entry (is_at object place e.entry) refl (never 0 x e.text e.entry refl e.is_text e.is_entry))))
      (λ k d text entry at. never (suc k) d text entry at)
    where
      by : (y : EntryOf) (b : Bool) → is_at object place y ≡ b → (y.object ≡ object → y.place ≡ place → ⊥) → b ≡ false
      by y true is never =
          let p = and_parts (y.object == object) (y.place == place) is in
          absurd (never (eqb-true y.object object p.0) (eqb-true y.place place p.1))
      by y false is never = refl

  -- a listed entry is of one of the objects and of its places
  event_within : (t : TypeOf) (text : List ℕ) (place : ℕ) → place_in side t text ≡ Some place → place < places side t
  event_within t text place is = by side is
    where
      by : (s : Side) → place_in s t text ≡ Some place → place < places s t
      by Initial is = number_within t.words.invs text place is
      by Final is =
          let a = found (cut 58 text) _ place is in
          let b = found (number_of t.words.invs a.value.0) _ place a.rest in
          let c = found (number_of t.words.resps a.value.1) _ place b.rest in
          (position-Some (λ x. same_event x (event b.value c.value)) t.events place (event 0 0) c.rest).0

  pub record IsWithin (entry : EntryOf) : Type 0 where
    pub object : entry.object < length store.objects.names
    pub place : entry.place < places_of store side entry.object

  entry_within : (text : List ℕ) (entry : EntryOf) → entry_in store side text ≡ Some entry → IsWithin entry
  entry_within text entry is =
      let a = found (three text) _ entry is in
      let b = found (number_of store.objects.names a.value.0) _ entry a.rest in
      let c = found (kind_of store.types store.objects b.value) _ entry b.rest in
      let d = found (place_in side c.value a.value.1) _ entry c.rest in
      let f = mapped (number_in a.value.2) _ entry d.rest in
      subst IsWithin f.rest (record {
        object = number_within store.objects.names a.value.0 b.value b.first;
        place = subst (λ n. d.value < n) (sym (ap (λ (o : Option TypeOf). option_map_or (places side) o 0) c.first))
            (event_within c.value a.value.1 d.value d.first);
      })

  -- so the thresholds are what the texts list
  pub are_listed : (ds : List Data) (entries : List EntryOf) → entries_in store side ds ≡ Some entries
      → AreListed store side ds (needs_of store side entries (length store.objects.names))
  are_listed ds entries is = record { listed = listed; others = others }
    where
      n : ℕ
      n = length store.objects.names

      listed : (entry : EntryOf) → IsListed store side ds entry
          → need_of (needs_of store side entries n) entry.object entry.place ≡ entry.threshold
      listed entry l =
          let w : IsWithin entry = entry_within l.text entry l.says in
          need_is store side entries n entry.object entry.place w.object w.place
          ∙ ap (λ (o : Option EntryOf). option_map_or (λ (e : EntryOf). e.threshold) o 0)
          (is_found [] ds entries is l.place l.item l.text entry l.at l.is_text l.says)

      missing : (object place : ℕ) → ((entry : EntryOf) → IsListed store side ds entry → entry.object ≡ object
          → entry.place ≡ place → ⊥) → threshold_of entries object place ≡ 0
      missing object place never =
          ap (λ (o : Option EntryOf). option_map_or (λ (e : EntryOf). e.threshold) o 0)
          (is_missing object place [] ds entries is refl
          (λ k d text entry at is_text says. never entry
          (record { place = k; item = d; text = text; at = at; is_text = is_text; says = says })))

      others : (object place : ℕ) → ((entry : EntryOf) → IsListed store side ds entry → entry.object ≡ object
          → entry.place ≡ place → ⊥)
          → need_of (needs_of store side entries n) object place ≡ 0
      others object place never = by (nat_le n object) refl (nat_le (places_of store side object) place) refl
        where
          by : (b : Bool) → nat_le n object ≡ b → (c : Bool) → nat_le (places_of store side object) place ≡ c
              → need_of (needs_of store side entries n) object place ≡ 0
          by true past c is_c = need_past_objects store side entries n object place (leb-true n object past)
          by false within true past = need_past_places store side entries n object place (leb-false n object within)
              (leb-true (places_of store side object) place past)
          by false within false inside =
              need_is store side entries n object place (leb-false n object within)
              (leb-false (places_of store side object) place inside) ∙ missing object place never

pub needs_listed : (path : List ℕ) (table : Members) (store : StoreOf) (key : List ℕ) (side : Side) (ns : List (List ℕ))
    → needs path table store key side ≡ Ok ns
    → AreListed store side (array_at table key) ns
needs_listed path table store key side ns is =
    let a = came (optional path table key) _ ns is in
    let b = came (told (path ++ key) (entries_in store side a.value)) _ ns a.rest in
    subst (λ (ds : List Data). AreListed store side ds ns) (sym (optional_are path table key a.value a.first))
    (subst (AreListed store side a.value) (same_ok (needs_of store side b.value (length store.objects.names)) ns b.rest)
    (are_listed store side a.value b.value (told_some (path ++ key) (entries_in store side a.value) b.value b.first)))

pub plan_listed : (path : List ℕ) (table : Members) (store : StoreOf) (plan : Plan) → plan_of path table store ≡ Ok plan
    → AreListed store Initial (array_at table (codes "initial")) plan.initial
    × AreListed store Final (array_at table (codes "final")) plan.last
plan_listed path table store plan is =
    let a = came (weights path table store.sites) _ plan is in
    let b = came (needs path table store (codes "initial") Initial) _ plan a.rest in
    let c = came (needs path table store (codes "final") Final) _ plan b.rest in
    let d = came (no_others path table epoch_keys) _ plan c.rest in
    subst (λ (p : Plan). AreListed store Initial (array_at table (codes "initial")) p.initial
    × AreListed store Final (array_at table (codes "final")) p.last)
    (same_ok (record { weights = a.value; initial = b.value; last = c.value }) plan d.rest) (
      needs_listed path table store (codes "initial") Initial b.value b.first,
      needs_listed path table store (codes "final") Final c.value c.first,
    )
