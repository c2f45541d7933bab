-- The lists of thresholds: one for each object, with a threshold for each place.
use Rattle.std.proofs.Common.{◌≡◌, ℕ, zero, suc, ◌+◌, ◌<◌, ◌≤◌, Bool, true, false, cond, List, [], ◌∷◌, ◌++◌, length}
use Rattle.std.proofs.Common.{Option, Some, None, refl, sym, ap, ◌∙◌, subst, arith}
use Rattle.std.specs.Prelude.{◌≢◌, All, ◌&&◌, find, nat_eq, nat_le, slice_get, unwrap_or, option_and_then}
use Rattle.std.specs.List.{list_all, list_any}
use Rattle.std.specs.Option.{option_map_or}
use Rattle.std.proofs.lemmas.Bool.{eqb-false, eqb-true, leb-true}
use Rattle.std.proofs.lemmas.List.{length-append}
use Rattle.std.proofs.lemmas.List.Elements.{All-nil}
use Rattle.std.proofs.lemmas.Option.{cond_some, slice_get_past}
use Rattle.toml.specs.Data.{Data, as_str}
use Rattle.qc_plan.specs.Vocabulary.{need_of}
use Rattle.qc_decl.specs.Vocabulary.{greatest_threshold, is_between}
use Rattle.qc_number.specs.Vocabulary.{most_digits}
use Rattle.qc_accept.specs.declared.epochs.Side.{Side}
use Rattle.qc_accept.specs.Vocabulary.{EntryOf, StoreOf, entries_in, entry_in, is_at, kind_of, needs_of, number_in}
use Rattle.qc_accept.specs.Vocabulary.{number_of, place_in, places_of, three, threshold_of, thresholds, value_of}
use Rattle.qc_accept.specs.Vocabulary.{with_entry, with_item}
use Rattle.qc_accept.proofs.Answered.{found, mapped, one_more, read_each_keeps}
use Rattle.qc_list.proofs.Booleans.{and_parts}
use Rattle.qc_list.proofs.Places.{slice_get-more}

pub get_last : {A : Type 0} (xs : List A) (k : ℕ) (x : A) → length xs ≡ k → slice_get (xs ++ x ∷ []) k ≡ Some x
get_last [] zero x is = refl
get_last [] (suc k) x is = absurd (omega arith)
get_last (y ∷ xs) zero x is = absurd (omega arith)
get_last (y ∷ xs) (suc k) x is = get_last xs k x (omega arith)

-- a list that is made place by place
module _ {A : Type 0} (at : ℕ → A) where
  abbrev pub made : ℕ → List A
  made zero = []
  made (suc n) = made n ++ at n ∷ []

  pub made_long : (n : ℕ) → length (made n) ≡ n
  made_long zero = refl
  made_long (suc n) =
      let long : length (made n ++ at n ∷ []) ≡ length (made n) + 1 = length-append (made n) (at n ∷ []) in
      let before : length (made n) ≡ n = made_long n in
      omega arith

  pub made_at : (n k : ℕ) → k < n → slice_get (made n) k ≡ Some (at k)
  made_at zero k within = absurd (omega arith)
  made_at (suc n) k within = by (nat_eq k n) refl (made_at n k)
    where
      by : (b : Bool) → nat_eq k n ≡ b → (k < n → slice_get (made n) k ≡ Some (at k))
          → slice_get (made n ++ at n ∷ []) k ≡ Some (at k)
      by true same more =
          let one : k ≡ n = eqb-true k n same in
          let long : length (made n) ≡ k = made_long n ∙ sym one in
          get_last (made n) k (at n) long ∙ ap (λ i. Some (at i)) (sym one)
      by false apart more =
          let other : k ≢ n = eqb-false k n apart in
          slice_get-more (made n) (at n ∷ []) k (at k) (more (omega arith))

  pub made_all : (P : A → Type 0) → ((k : ℕ) → P (at k)) → (n : ℕ) → All P (made n)
  made_all P each_is zero = All-nil P
  made_all P each_is (suc n) = one_more P (made n) (at n) (made_all P each_is n) (each_is n)

-- the thresholds are made so
thresholds_made : (entries : List EntryOf) (object n : ℕ)
    → thresholds entries object n ≡ made (threshold_of entries object) n
thresholds_made entries object zero = refl
thresholds_made entries object (suc n) =
    ap (λ (ts : List ℕ). ts ++ threshold_of entries object n ∷ []) (thresholds_made entries object n)

abbrev pub list_of : StoreOf → Side → List EntryOf → ℕ → List ℕ
list_of store side entries object = thresholds entries object (places_of store side object)

needs_made : (store : StoreOf) (side : Side) (entries : List EntryOf) (n : ℕ)
    → needs_of store side entries n ≡ made (list_of store side entries) n
needs_made store side entries zero = refl
needs_made store side entries (suc n) = ap (λ (ts : List (List ℕ)). ts ++ list_of store side entries n ∷ [])
    (needs_made store side entries n)

pub thresholds_long : (entries : List EntryOf) (object n : ℕ) → length (thresholds entries object n) ≡ n
thresholds_long entries object n = ap length (thresholds_made entries object n)
    ∙ made_long (threshold_of entries object) n

pub threshold_at : (entries : List EntryOf) (object n place : ℕ) → place < n
    → slice_get (thresholds entries object n) place ≡ Some (threshold_of entries object place)
threshold_at entries object n place within =
    ap (λ (ts : List ℕ). slice_get ts place) (thresholds_made entries object n)
    ∙ made_at (threshold_of entries object) n place within

pub needs_long : (store : StoreOf) (side : Side) (entries : List EntryOf) (n : ℕ)
    → length (needs_of store side entries n) ≡ n
needs_long store side entries n = ap length (needs_made store side entries n) ∙ made_long (list_of store side entries) n

pub needs_at : (store : StoreOf) (side : Side) (entries : List EntryOf) (n object : ℕ) → object < n
    → slice_get (needs_of store side entries n) object ≡ Some (list_of store side entries object)
needs_at store side entries n object within =
    ap (λ (ts : List (List ℕ)). slice_get ts object) (needs_made store side entries n)
    ∙ made_at (list_of store side entries) n object within

-- a threshold looked up is the one of its entry
pub need_is : (store : StoreOf) (side : Side) (entries : List EntryOf) (n object place : ℕ) → object < n
    → place < places_of store side object
    → need_of (needs_of store side entries n) object place ≡ threshold_of entries object place
need_is store side entries n object place within inside =
    ap (λ (o : Option (List ℕ)). unwrap_or (slice_get (unwrap_or o []) place) 0)
    (needs_at store side entries n object within)
    ∙ ap (λ (o : Option ℕ). unwrap_or o 0) (threshold_at entries object (places_of store side object) place inside)

-- and there is none behind the objects or the places
pub need_past_objects : (store : StoreOf) (side : Side) (entries : List EntryOf) (n object place : ℕ) → n ≤ object
    → need_of (needs_of store side entries n) object place ≡ 0
need_past_objects store side entries n object place past =
    let long : length (needs_of store side entries n) ≡ n = needs_long store side entries n in
    ap (λ (o : Option (List ℕ)). unwrap_or (slice_get (unwrap_or o []) place) 0)
    (slice_get_past (needs_of store side entries n) object (omega arith))

pub need_past_places : (store : StoreOf) (side : Side) (entries : List EntryOf) (n object place : ℕ) → object < n
    → places_of store side object ≤ place
    → need_of (needs_of store side entries n) object place ≡ 0
need_past_places store side entries n object place within past =
    let long : length (list_of store side entries object) ≡ places_of store side object =
    thresholds_long entries object (places_of store side object) in
    ap (λ (o : Option (List ℕ)). unwrap_or (slice_get (unwrap_or o []) place) 0)
    (needs_at store side entries n object within)
    ∙ ap (λ (o : Option ℕ). unwrap_or o 0) (slice_get_past (list_of store side entries object) place (omega arith))

-- thresholds are small

abbrev pub IsThreshold : ℕ → Type 0
IsThreshold n = n ≤ greatest_threshold

abbrev IsSmall : EntryOf → Type 0
IsSmall e = e.threshold ≤ greatest_threshold

number_small : (text : List ℕ) (n : ℕ) → number_in text ≡ Some n → n ≤ greatest_threshold
number_small text n is =
    let t = cond_some (is_between 1 most_digits (length text)
    && (list_all (is_between 48 57) text && nat_le (value_of text) greatest_threshold)) (value_of text) n is in
    let p = and_parts (is_between 1 most_digits (length text))
    (list_all (is_between 48 57) text && nat_le (value_of text) greatest_threshold) t.0 in
    let q = and_parts (list_all (is_between 48 57) text) (nat_le (value_of text) greatest_threshold) p.1 in
    subst IsThreshold t.1 (leb-true (value_of text) greatest_threshold q.1)

entry_small : (store : StoreOf) (side : Side) (text : List ℕ) (e : EntryOf) → entry_in store side text ≡ Some e
    → IsSmall e
entry_small store side text e is =
    let a = found (three text) _ e is in
    let b = found (number_of store.objects.names a.value.0) _ e a.rest in
    let c = found (kind_of store.types store.objects b.value) _ e b.rest in
    let d = found (place_in side c.value a.value.1) _ e c.rest in
    let f = mapped (number_in a.value.2) _ e d.rest in
    subst IsSmall f.rest (number_small a.value.2 f.value f.first)

-- what an entry more is
pub record IsEntry (store : StoreOf) (side : Side) (entries : List EntryOf) (d : Data)
    (next : List EntryOf) : Type 0 where
  pub text : List ℕ
  pub entry : EntryOf
  pub is_text : as_str d ≡ Some text
  pub is_entry : entry_in store side text ≡ Some entry
  pub new : list_any (is_at entry.object entry.place) entries ≡ false
  pub grown : entries ++ entry ∷ [] ≡ next

none_some : {A : Type 0} (b : Bool) (x y : A) → cond b None (Some x) ≡ Some y → (b ≡ false) × (x ≡ y)
none_some false x y is = (refl, cc)
none_some true x y is = absurd (let never : ⊥ = cc in never)

pub entry_more : (store : StoreOf) (side : Side) (entries : List EntryOf) (d : Data) (next : List EntryOf)
    → with_item store side entries d ≡ Some next
    → IsEntry store side entries d next
entry_more store side entries d next is =
    let a = found (option_and_then (entry_in store side) (as_str d)) (with_entry entries) next is in
    let b = found (as_str d) (entry_in store side) a.value a.first in
    let c = none_some (list_any (is_at a.value.object a.value.place) entries) (entries ++ a.value ∷ []) next a.rest in
    record { text = b.value; entry = a.value; is_text = b.first; is_entry = b.rest; new = c.0; grown = c.1 }

entries_small : (store : StoreOf) (side : Side) (ds : List Data) (entries : List EntryOf)
    → entries_in store side ds ≡ Some entries → All IsSmall entries
entries_small store side ds entries is =
    read_each_keeps (λ n (es : List EntryOf). All IsSmall es) (with_item store side)
    (λ n es d next all more.
    let e : IsEntry store side es d next = entry_more store side es d next more in
    subst (All IsSmall) e.grown (one_more IsSmall es e.entry all (entry_small store side e.text e.entry e.is_entry)))
    0 [] ds entries (All-nil IsSmall) is

all_tail : {A : Type 0} (P : A → Type 0) (x : A) (xs : List A) → All P (x ∷ xs) → All P xs
all_tail P x xs all = λ k d within. all (suc k) d (omega arith)

threshold_small : (entries : List EntryOf) (object place : ℕ) → All IsSmall entries
    → threshold_of entries object place ≤ greatest_threshold
threshold_small [] object place all = omega arith
threshold_small (e ∷ entries) object place all =
    by (is_at object place e) (all 0 e (omega arith))
    (threshold_small entries object place (all_tail IsSmall e entries all))
  where
    by : (b : Bool) → IsSmall e → threshold_of entries object place ≤ greatest_threshold
        → option_map_or (λ (x : EntryOf). x.threshold)
        (cond b (Some e) (find (is_at object place) entries)) 0 ≤ greatest_threshold
    by true here more = here
    by false here more = more

pub needs_small : (store : StoreOf) (side : Side) (ds : List Data) (entries : List EntryOf) (n : ℕ)
    → entries_in store side ds ≡ Some entries
    → All (All IsThreshold) (needs_of store side entries n)
needs_small store side ds entries n is =
    subst (All (All IsThreshold)) (sym (needs_made store side entries n))
    (made_all (list_of store side entries) (All IsThreshold)
    (λ object. subst (All IsThreshold) (sym (thresholds_made entries object (places_of store side object)))
    (made_all (threshold_of entries object) IsThreshold
    (λ place. threshold_small entries object place (entries_small store side ds entries is))
    (places_of store side object))) n)
