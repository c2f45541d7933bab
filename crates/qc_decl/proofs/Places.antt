-- Names that are distinct, and that they stand for their places.
use Rattle.std.proofs.Common.{◌≡◌, ◌≢◌, ◌<◌, ℕ, zero, suc, ◌+◌, Bool, true, false, not, cond, List, [], ◌∷◌, length}
use Rattle.std.proofs.Common.{Option, Some, None, get_or, refl, sym, ap, ◌∙◌, subst, arith}
use Rattle.std.specs.Prelude.{◌↔◌, ◌&&◌, ◌||◌, All, AllPairs, nat_lt, position, slice_get}
use Rattle.std.specs.List.{list_any, position_or_len}
use Rattle.std.specs.Str.{bytes_eq}
use Rattle.std.proofs.lemmas.Bool.{lt-ltb}
use Rattle.std.proofs.lemmas.List.Elements.{All-cons, All-nil}
use Rattle.std.proofs.lemmas.List.Kept.{AllPairs-cons}
use Rattle.std.proofs.lemmas.List.Quantifiers.{position-Some}
use Rattle.std.proofs.lemmas.Option.{get_or_from_slice_get, slice_get-get_or, slice_get_within}
use Rattle.std.proofs.lemmas.Slice.Eq.{bytes_eq-Decides}
use Rattle.qc_decl.specs.Vocabulary.{StandForPlaces, place_of}

-- a test of names: none is among those behind it
abbrev pub differ : List (List ℕ) → Bool
differ [] = true
differ (name ∷ names) = not (list_any (bytes_eq name) names) && differ names

none_same : (name : List ℕ) (names : List (List ℕ)) → not (list_any (bytes_eq name) names) ≡ true
    → All (λ other. name ≢ other) names
none_same name [] is = All-nil (λ other. name ≢ other)
none_same name (other ∷ names) is = by (bytes_eq name other) refl is (none_same name names)
  where
    by : (b : Bool) → bytes_eq name other ≡ b → not (b || list_any (bytes_eq name) names) ≡ true
        → (not (list_any (bytes_eq name) names) ≡ true → All (λ other. name ≢ other) names)
        → All (λ other. name ≢ other) (other ∷ names)
    by true same is more = absurd (let never : ⊥ = cc in never)
    by false apart is more =
        let here : name ≢ other = λ one. let never : true ≡ false = sym ((bytes_eq-Decides name other).1 one)
        ∙ apart in absurd (let no : ⊥ = cc in no) in
        All-cons (λ other. name ≢ other) other names here (more is)

pub all_differ : (names : List (List ℕ)) → differ names ≡ true → AllPairs (λ a b. a ≢ b) names
all_differ [] is = λ i j d before within. absurd (omega arith)
all_differ (name ∷ names) is = by (not (list_any (bytes_eq name) names)) refl is (all_differ names)
  where
    by : (b : Bool) → not (list_any (bytes_eq name) names) ≡ b → (b && differ names) ≡ true
        → (differ names ≡ true → AllPairs (λ a b. a ≢ b) names)
        → AllPairs (λ a b. a ≢ b) (name ∷ names)
    by true none is more = AllPairs-cons (λ a b. a ≢ b) name names (none_same name names none) (more is)
    by false none is more = absurd (let never : ⊥ = cc in never)

-- a test that an element passes has a place
place_found : {X : Type 0} (p : X → Bool) (xs : List X) (k : ℕ) (d : X) → k < length xs → p (get_or xs k d) ≡ true
    → position_or_len p xs < length xs
place_found p [] k d l is = absurd (omega arith)
place_found p (x ∷ xs) zero d l is = rw is (omega arith)
place_found p (x ∷ xs) (suc k) d l is = by (p x) (place_found p xs k d (omega arith) is)
  where
    by : (b : Bool) → position_or_len p xs < length xs → cond (not b) (1 + position_or_len p xs) 0 < suc (length xs)
    by true l = omega arith
    by false l = omega arith

place_is : {X : Type 0} (p : X → Bool) (xs : List X) (k : ℕ) (d : X) → k < length xs → p (get_or xs k d) ≡ true
    → position p xs ≡ Some (position_or_len p xs)
place_is p xs k d l is = rw (lt-ltb (position_or_len p xs) (length xs) (place_found p xs k d l is)) refl

-- a number of a name leads to it
pub place_at : (names : List (List ℕ)) (name : List ℕ) (number : ℕ) → place_of names name ≡ Some number
    → slice_get names number ≡ Some name
place_at names name number is =
    let p = position-Some (bytes_eq name) names number [] is in
    slice_get-get_or names number [] p.0 ∙ ap Some (sym ((bytes_eq-Decides name (get_or names number [])).0 p.1))

pub names_stand : (names : List (List ℕ)) → AllPairs (λ a b. a ≢ b) names → StandForPlaces names
names_stand names apart = λ name number. (place_at names name number, back name number)
  where
    one : (name : List ℕ) (i j : ℕ) → i < length names → j < length names → get_or names i [] ≡ name
        → get_or names j [] ≡ name → i ≡ j
    one name i j within inside is at =
        let before : i < j → ⊥ = λ l. apart i j [] l inside (is ∙ sym at) in
        let behind : j < i → ⊥ = λ l. apart j i [] l within (at ∙ sym is) in
        omega (arith, before, behind)

    back : (name : List ℕ) (number : ℕ) → slice_get names number ≡ Some name → place_of names name ≡ Some number
    back name number is =
        let within : number < length names = slice_get_within names number name is in
        let here : get_or names number [] ≡ name = get_or_from_slice_get names number name [] is in
        let found = place_is (bytes_eq name) names number [] within
        ((bytes_eq-Decides name (get_or names number [])).1 (sym here)) in
        let p = position-Some (bytes_eq name) names (position_or_len (bytes_eq name) names) [] found in
        found ∙ ap Some (one name (position_or_len (bytes_eq name) names) number p.0 within
        (sym ((bytes_eq-Decides name _).0 p.1)) here)
