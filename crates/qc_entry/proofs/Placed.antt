-- Where the lines of an object stand: a line more, and the lines at their places.
use Rattle.std.proofs.Common.{◌≡◌, ℕ, zero, suc, ◌+◌, ◌<◌, ◌==◌, Bool, true, false, if◌then◌else◌, Option, Some, List}
use Rattle.std.proofs.Common.{[], ◌∷◌, ◌++◌}
use Rattle.std.proofs.Common.{length, drop, take, refl, sym, ap, ◌∙◌, subst, append_assoc, arith}
use Rattle.std.proofs.Math.ListN.{get_or}
use Rattle.std.proofs.lemmas.List.{drop_more, length-take-le, take_more}
use Rattle.std.specs.Prelude.{option_to_list}
use Rattle.std.specs.List.{slice_get}
use Rattle.qc_entry.specs.declared.line.Line.{Line}
use Rattle.qc_entry.specs.Marks.{lines_told}
use Rattle.qc_entry.specs.Vocabulary.{log_of, of_object}
use Rattle.qc_entry.specs.Places.{picked, places_from}

-- what stands behind others
here : (pre : List Line) (l : Line) (ls : List Line) → slice_get (pre ++ l ∷ ls) (length pre) ≡ Some l
here [] l ls = refl
here (x ∷ pre) l ls = here pre l ls

pub places-append : (o at : ℕ) (xs : List Line) (l : Line) → places_from o at (xs ++ l ∷ [])
    ≡ (if l.object == o then places_from o at xs ++ (at + length xs) ∷ [] else places_from o at xs)
places-append o at [] l = by (l.object == o) where
  by : (b : Bool) → (if b then at ∷ [] else []) ≡ (if b then (at + 0) ∷ [] else [])
  by true = ap (λ n. n ∷ []) (omega arith)
  by false = refl
places-append o at (x ∷ xs) l =
    by (x.object == o) (l.object == o) (places-append o (suc at) xs l) where
      next : suc at + length xs ≡ at + suc (length xs)
      next = omega arith

      by : (b c : Bool) → places_from o (suc at) (xs ++ l ∷ [])
          ≡ (if c then places_from o (suc at) xs ++ (suc at + length xs) ∷ [] else places_from o (suc at) xs)
          → (if b then at ∷ places_from o (suc at) (xs ++ l ∷ []) else places_from o (suc at) (xs ++ l ∷ []))
          ≡ (if c then (if b then at ∷ places_from o (suc at) xs else places_from o (suc at) xs)
          ++ (at + suc (length xs)) ∷ [] else (if b then at ∷ places_from o (suc at) xs else places_from o (suc at) xs))
      by true true is = ap (λ ps. at ∷ ps) (is ∙ ap (λ n. places_from o (suc at) xs ++ n ∷ []) next)
      by true false is = ap (λ ps. at ∷ ps) is
      by false true is = is ∙ ap (λ n. places_from o (suc at) xs ++ n ∷ []) next
      by false false is = is

-- as many as the lines of the object
pub places-count : (o at : ℕ) (xs : List Line) → length (places_from o at xs) ≡ length (of_object xs o)
places-count o at [] = refl
places-count o at (x ∷ xs) = by (x.object == o) (places-count o (suc at) xs) where
  by : (b : Bool) → length (places_from o (suc at) xs) ≡ length (of_object xs o)
      → length (if b then at ∷ places_from o (suc at) xs else places_from o (suc at) xs)
      ≡ length (if b then x ∷ of_object xs o else of_object xs o)
  by true is = ap suc is
  by false is = is

-- the lines at the places of an object, from some of them on, are the object's from there on
picked-first : (o : ℕ) (pre : List Line) (x : Line) (xs : List Line) (b : Bool)
    → ((d : ℕ) → picked (pre ++ x ∷ xs) (drop d (places_from o (suc (length pre)) xs)) ≡ drop d (of_object xs o))
    → (c : ℕ)
    → picked (pre ++ x ∷ xs) (drop c (if b then length pre ∷ places_from o (suc (length pre)) xs
    else places_from o (suc (length pre)) xs)) ≡ drop c (if b then x ∷ of_object xs o else of_object xs o)
picked-first o pre x xs true rest zero =
    ap (λ (line : Option Line). option_to_list line ++ picked (pre ++ x ∷ xs) (places_from o (suc (length pre)) xs))
    (here pre x xs) ∙ ap (λ ls. x ∷ ls) (rest 0)
picked-first o pre x xs true rest (suc d) = rest d
picked-first o pre x xs false rest c = rest c

longer : (pre : List Line) (x : Line) → length (pre ++ x ∷ []) ≡ suc (length pre)
longer [] x = refl
longer (y ∷ pre) x = ap suc (longer pre x)

picked-from : (o : ℕ) (pre xs : List Line) (c : ℕ)
    → picked (pre ++ xs) (drop c (places_from o (length pre) xs)) ≡ drop c (of_object xs o)
picked-from o pre [] zero = refl
picked-from o pre [] (suc c) = refl
picked-from o pre (x ∷ xs) c =
    picked-first o pre x xs (x.object == o)
    (λ d. subst (λ (ls : List Line). picked ls (drop d (places_from o (suc (length pre)) xs)) ≡ drop d (of_object xs o))
    (append_assoc pre (x ∷ []) xs)
    (subst (λ (n : ℕ). picked ((pre ++ x ∷ []) ++ xs) (drop d (places_from o n xs)) ≡ drop d (of_object xs o))
    (longer pre x) (picked-from o (pre ++ x ∷ []) xs d)))
    c

pub picked-places : (o c : ℕ) (xs : List Line) → picked xs (drop c (places_from o 0 xs)) ≡ drop c (of_object xs o)
picked-places o c xs = picked-from o [] xs c

-- a place more is looked up
pub picked-next : (lines : List Line) (places : List ℕ) (i d : ℕ) (them next : List Line) → i < length places
    → next ≡ them ++ option_to_list (slice_get lines (get_or places i d))
    → them ++ picked lines (drop i places) ≡ picked lines places
    → next ++ picked lines (drop (i + 1) places) ≡ picked lines places
picked-next lines places i d them next more is all =
    ap (λ ls. ls ++ picked lines (drop (i + 1) places)) is
    ∙ append_assoc them _ (picked lines (drop (i + 1) places))
    ∙ ap (λ ps. them ++ picked lines ps) (sym (drop_more places i d more))
    ∙ all

-- the next line is placed
pub placed-more : (lines : List Line) (k o : ℕ) (d : Line) (places next : List ℕ) → k < length lines
    → places ≡ places_from o 0 (take k lines)
    → next ≡ (if (get_or lines k d).object == o then places ++ k ∷ [] else places)
    → next ≡ places_from o 0 (take (k + 1) lines)
placed-more lines k o d places next more are is =
    is
    ∙ ap (λ ps. if (get_or lines k d).object == o then ps ++ k ∷ [] else ps) are
    ∙ ap (λ n. if (get_or lines k d).object == o then places_from o 0 (take k lines) ++ n ∷ []
    else places_from o 0 (take k lines)) at
    ∙ sym (places-append o 0 (take k lines) (get_or lines k d))
    ∙ ap (places_from o 0) (sym (take_more lines k d more))
  where
    at : k ≡ 0 + length (take k lines)
    at = let n : length (take k lines) ≡ k = length-take-le k lines (omega arith) in omega arith

-- what is told by the places of an object is what is told of its lines
pub told-places : (o count : ℕ) (current : Bool) (lines : List Line)
    → log_of (picked lines (if current then drop count (places_from o 0 lines) else places_from o 0 lines))
    ≡ log_of (lines_told current (of_object lines o) count)
told-places o count true lines = ap log_of (picked-places o count lines)
told-places o count false lines = ap log_of (picked-places o 0 lines)
