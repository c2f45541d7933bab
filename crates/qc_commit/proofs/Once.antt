-- Lists of numbers in which each stands once, and ranges of numbers.
use Rattle.std.proofs.Common.{◌≡◌, ℕ, zero, suc, ◌+◌, ◌<◌, ◌≤◌, ◌≢◌, ◌⊎◌, Bool, true, false, cond, List, [], ◌∷◌, ◌++◌}
use Rattle.std.proofs.Common.{length, get_or, filter, inl, inr, refl, sym, subst, arith}
use Rattle.std.specs.List.{range_with_len, AllPairs}
use Rattle.std.proofs.lemmas.Bool.{cases_eq}
use Rattle.qc_list.specs.Vocabulary.{In}
use Rattle.qc_list.proofs.Members.{In-unfiltered, In-either}

-- each number stands once
abbrev pub Once : List ℕ → Type 0
Once [] = Unit {0}
Once (x ∷ xs) = (In x xs → ⊥) × Once xs

In-get_or : (xs : List ℕ) (i d : ℕ) → i < length xs → In (get_or xs i d) xs
In-get_or [] i d l = absurd (omega arith)
In-get_or (x ∷ xs) zero d l = inl refl
In-get_or (x ∷ xs) (suc i) d l = inr (In-get_or xs i d (omega arith))

-- so no two are the same
pub once-pairs : (xs : List ℕ) → Once xs → AllPairs (λ a b. a ≢ b) xs
once-pairs [] once i j d l m = absurd (omega arith)
once-pairs (x ∷ xs) once i zero d l m = absurd (omega arith)
once-pairs (x ∷ xs) once zero (suc j) d l m =
    λ same. once.0 (subst (λ v. In v xs) (sym same) (In-get_or xs j d (omega arith)))
once-pairs (x ∷ xs) once (suc i) (suc j) d l m = once-pairs xs once.1 i j d (omega arith) (omega arith)

pub once-filter : (test : ℕ → Bool) (xs : List ℕ) → Once xs → Once (filter test xs)
once-filter test [] once = tt
once-filter test (x ∷ xs) once = by (test x) (once-filter test xs once.1) where
  by : (b : Bool) → Once (filter test xs) → Once (cond b (x ∷ filter test xs) (filter test xs))
  by true rest = (λ member. once.0 (In-unfiltered test x xs member), rest)
  by false rest = rest

pub once-append : (xs ys : List ℕ) → Once xs → Once ys → ((x : ℕ) → In x xs → In x ys → ⊥) → Once (xs ++ ys)
once-append [] ys first second apart = second
once-append (x ∷ xs) ys first second apart = (
  λ member. by (In-either x xs ys member),
  once-append xs ys first.1 second (λ y there here. apart y (inr there) here),
) where
  by : In x xs ⊎ In x ys → ⊥
  by (inl member) = first.0 member
  by (inr member) = apart x (inl refl) member

-- the numbers of a range

pub range-low : (k a n : ℕ) → In k (range_with_len a n) → a ≤ k
range-low k a zero member = absurd member
range-low k a (suc n) (inl same) = omega arith
range-low k a (suc n) (inr rest) = let low : a + 1 ≤ k = range-low k (a + 1) n rest in omega arith

pub range-high : (k a n : ℕ) → In k (range_with_len a n) → k < a + n
range-high k a zero member = absurd member
range-high k a (suc n) (inl same) = omega arith
range-high k a (suc n) (inr rest) = let high : k < a + 1 + n = range-high k (a + 1) n rest in omega arith

pub range-in : (k a n : ℕ) → a ≤ k → k < a + n → In k (range_with_len a n)
range-in k a zero low high = absurd (omega arith)
range-in k a (suc n) low high = by (cases_eq k a) (λ above. range-in k (a + 1) n above (omega arith)) where
  by : (k ≡ a) ⊎ (k ≡ a → ⊥) → (a + 1 ≤ k → In k (range_with_len (a + 1) n)) → In k (range_with_len a (suc n))
  by (inl same) rest = inl same
  by (inr other) rest = inr (rest (omega (arith, other)))

pub range-once : (a n : ℕ) → Once (range_with_len a n)
range-once a zero = tt
range-once a (suc n) = (
  λ member. let low : a + 1 ≤ a = range-low a (a + 1) n member in omega arith,
  range-once (a + 1) n,
)
