-- Members of lists, and what holds of each.
use Rattle.std.proofs.Common.{◌≡◌, ℕ, zero, suc, List, [], ◌∷◌, ◌++◌, ◌⊎◌, Bool, true, false, cond, Some, inl, inr}
use Rattle.std.proofs.Common.{refl, sym, ap, ◌∙◌, subst, ◌+◌, ◌-◌, map, ◌≤◌, length, arith}
use Rattle.std.specs.List.{AllByRecursion as Every, filter, slice_get}
use Rattle.qc_list.specs.Vocabulary.{In}

pub In-first : {X : Type 0} (x : X) (xs ys : List X) → In x xs → In x (xs ++ ys)
In-first x [] ys member = absurd member
In-first x (y ∷ xs) ys (inl same) = inl same
In-first x (y ∷ xs) ys (inr rest) = inr (In-first x xs ys rest)

pub In-second : {X : Type 0} (x : X) (xs ys : List X) → In x ys → In x (xs ++ ys)
In-second x [] ys member = member
In-second x (y ∷ xs) ys member = inr (In-second x xs ys member)

pub In-last : {X : Type 0} (x : X) (xs : List X) → In x (xs ++ x ∷ [])
In-last x xs = In-second x xs (x ∷ []) (inl refl)

-- a member of a list with one more is a member of the list, or the one more
pub In-more : {X : Type 0} (x y : X) (xs : List X) → In x (xs ++ y ∷ []) → In x xs ⊎ (x ≡ y)
In-more x y [] (inl same) = inr same
In-more x y [] (inr never) = absurd never
In-more x y (z ∷ xs) (inl same) = inl (inl same)
In-more {X = X} x y (z ∷ xs) (inr rest) = by (In-more x y xs rest)
  where
    by : In x xs ⊎ (x ≡ y) → In x (z ∷ xs) ⊎ (x ≡ y)
    by (inl member) = inl (inr member)
    by (inr same) = inr same

-- a member that passes the test is one of the filter
pub In-filter : {X : Type 0} (test : X → Bool) (x : X) (xs : List X) → In x xs → test x ≡ true → In x (filter test xs)
In-filter test x [] member passes = absurd member
In-filter {X = X} test x (y ∷ ys) member passes =
    by (test y) refl (λ in_ys. In-filter test x ys in_ys passes) member where
      by : (b : Bool) → test y ≡ b → (In x ys → In x (filter test ys)) → In x (y ∷ ys)
          → In x (cond b (y ∷ filter test ys) (filter test ys))
      by true is rest (inl same) = inl same
      by true is rest (inr in_ys) = inr (rest in_ys)
      by false is rest (inl same) = absurd (let never : ⊥ = cc (passes, is, ap test same) in never)
      by false is rest (inr in_ys) = rest in_ys

-- one of the filter is a member
pub In-unfiltered : {X : Type 0} (test : X → Bool) (x : X) (xs : List X) → In x (filter test xs) → In x xs
In-unfiltered test x [] member = member
In-unfiltered {X = X} test x (y ∷ ys) member = by (test y) (In-unfiltered test x ys) member where
  by : (b : Bool) → (In x (filter test ys) → In x ys) → In x (cond b (y ∷ filter test ys) (filter test ys))
      → In x (y ∷ ys)
  by true rest (inl same) = inl same
  by true rest (inr later) = inr (rest later)
  by false rest later = inr (rest later)

-- and passes the test
pub In-passes : {X : Type 0} (test : X → Bool) (x : X) (xs : List X) → In x (filter test xs) → test x ≡ true
In-passes test x [] member = absurd member
In-passes {X = X} test x (y ∷ ys) member = by (test y) refl (In-passes test x ys) member where
  by : (b : Bool) → test y ≡ b → (In x (filter test ys) → test x ≡ true)
      → In x (cond b (y ∷ filter test ys) (filter test ys)) → test x ≡ true
  by true is rest (inl same) = ap test same ∙ is
  by true is rest (inr later) = rest later
  by false is rest later = rest later

-- what holds of every item holds of each member
pub every-In : {X : Type 0} (P : X → Type 0) (x : X) (xs : List X) → Every P xs → In x xs → P x
every-In P x [] every member = absurd member
every-In P x (y ∷ ys) every (inl same) = subst P (sym same) every.0
every-In P x (y ∷ ys) every (inr rest) = every-In P x ys every.1 rest

-- what holds of each member holds of every item
pub every-from_In : {X : Type 0} (P : X → Type 0) (xs : List X) → ((x : X) → In x xs → P x) → Every P xs
every-from_In P [] each = tt
every-from_In P (x ∷ xs) each = (each x (inl refl), every-from_In P xs (λ y member. each y (inr member)))

pub every-weaker : {X : Type 0} (P Q : X → Type 0) → ((x : X) → P x → Q x) → (xs : List X) → Every P xs → Every Q xs
every-weaker P Q weaker [] every = tt
every-weaker P Q weaker (x ∷ xs) every = (weaker x every.0, every-weaker P Q weaker xs every.1)

pub every-append : {X : Type 0} (P : X → Type 0) (xs ys : List X) → Every P xs → Every P ys → Every P (xs ++ ys)
every-append P [] ys first second = second
every-append P (x ∷ xs) ys first second = (first.0, every-append P xs ys first.1 second)

-- a filter keeps what holds of every item
pub every-filter : {X : Type 0} (P : X → Type 0) (test : X → Bool) (xs : List X) → Every P xs → Every P (filter test xs)
every-filter P test [] every = tt
every-filter {X = X} P test (x ∷ xs) every = by (test x) (every-filter P test xs every.1) where
  by : (b : Bool) → Every P (filter test xs) → Every P (cond b (x ∷ filter test xs) (filter test xs))
  by true rest = (every.0, rest)
  by false rest = rest

-- what holds of every item holds of the one at a place
pub every-at : {X : Type 0} (P : X → Type 0) (xs : List X) (n : ℕ) (x : X) → Every P xs → slice_get xs n ≡ Some x → P x
every-at P [] n x every at = absurd (let never : ⊥ = cc in never)
every-at P (y ∷ ys) zero x every at =
    let same : x ≡ y = cc in
    subst P (sym same) every.0
every-at P (y ∷ ys) (suc n) x every at = every-at P ys n x every.1 at

pub every-front : {A : Type 0} (P : A → Type 0) (xs ys : List A) → Every P (xs ++ ys) → Every P xs
every-front P [] ys all = tt
every-front P (x ∷ xs) ys all = (all.0, every-front P xs ys all.1)

pub every-back : {A : Type 0} (P : A → Type 0) (xs ys : List A) → Every P (xs ++ ys) → Every P ys
every-back P [] ys all = all
every-back P (x ∷ xs) ys all = every-back P xs ys all.1

pub In-either : {A : Type 0} (x : A) (xs ys : List A) → In x (xs ++ ys) → In x xs ⊎ In x ys
In-either x [] ys h = inr h
In-either x (z ∷ zs) ys (inl same) = inl (inl same)
In-either x (z ∷ zs) ys (inr h) = elim (In-either x zs ys h) [ inl a ↦ inl (inr a) | inr b ↦ inr b ]

pub In-none : {X : Type 0} (xs : List X) → ((x : X) → In x xs → ⊥) → xs ≡ []
In-none [] none = refl
In-none (x ∷ xs) none = absurd (none x (inl refl))

pub In-at : {A : Type 0} (xs : List A) (q : ℕ) (x : A) → slice_get xs q ≡ Some x → In x xs
In-at [] q x is = absurd (cc)
In-at (y ∷ ys) zero x is = inl cc
In-at (y ∷ ys) (suc q) x is = inr (In-at ys q x is)

pub In-map : {A B : Type 0} (f : A → B) (x : A) (xs : List A) → In x xs → In (f x) (map f xs)
In-map f x [] h = absurd h
In-map f x (y ∷ ys) (inl same) = inl (ap f same)
In-map f x (y ∷ ys) (inr h) = inr (In-map f x ys h)

pub length-filter : (test : ℕ → Bool) (xs : List ℕ) → length (filter test xs) ≤ length xs
length-filter test [] = omega arith
length-filter test (x ∷ xs) = by (test x) (length-filter test xs)
  where
    by : (t : Bool) → length (filter test xs) ≤ length xs
        → length (cond t (x ∷ filter test xs) (filter test xs)) ≤ length (x ∷ xs)
    by true few = omega arith
    by false few = omega arith
