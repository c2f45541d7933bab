-- Lists in an order stay in it: insertion, filters, ends.
use Rattle.std.proofs.Common.{◌≡◌, ℕ, zero, suc, List, [], ◌∷◌, Bool, true, false, cond, drop, IsTrue, refl, ap, ◌∙◌}
use Rattle.std.specs.Cmp.{IsTotalOrder}
use Rattle.std.specs.List.{filter}
use Rattle.std.specs.Ordering.{is_lt, ordering_reverse}
use Rattle.std.specs.declared.cmp.Ordering.{Ordering}
use Rattle.std.specs.declared.cmp.Ordering.TheVariants.{Less, Equal, Greater}
use Rattle.qc_list.specs.Vocabulary.{Ascends, IsBelowAll, by_order, inserted}

-- the test for Less tells that it is Less
pub less_is : (order : Ordering) → IsTrue (is_lt order) → order ≡ Less
less_is Less test = refl
less_is Equal test = absurd (let never : ⊥ = cc in never)
less_is Greater test = absurd (let never : ⊥ = cc in never)

-- an item below another is below all that the other is below
pub below_trans : {A : Type 0} (cmp : A → A → Ordering) (total : IsTotalOrder cmp) (x y : A) (ys : List A)
    → cmp x y ≡ Less → IsBelowAll cmp y ys → IsBelowAll cmp x ys
below_trans cmp total x y [] less below = tt
below_trans cmp total x y (z ∷ zs) less below =
    (total.trans x y z less below.0, below_trans cmp total x y zs less below.1)

-- so is an item that ties with the other
pub below_tied : {A : Type 0} (cmp : A → A → Ordering) (total : IsTotalOrder cmp) (x y : A) (ys : List A)
    → cmp x y ≡ Equal → IsBelowAll cmp y ys → IsBelowAll cmp x ys
below_tied cmp total x y [] equal below = tt
below_tied cmp total x y (z ∷ zs) equal below =
    (total.congr x y z equal ∙ below.0, below_tied cmp total x y zs equal below.1)

pub below-filter : {A : Type 0} (cmp : A → A → Ordering) (x : A) (test : A → Bool) (ys : List A) → IsBelowAll cmp x ys
    → IsBelowAll cmp x (filter test ys)
below-filter cmp x test [] below = tt
below-filter {A = A} cmp x test (y ∷ ys) below = by (test y) (below-filter cmp x test ys below.1) where
  by : (b : Bool) → IsBelowAll cmp x (filter test ys) → IsBelowAll cmp x (cond b (y ∷ filter test ys) (filter test ys))
  by true rest = (below.0, rest)
  by false rest = rest

-- a filter of ascending items ascends
pub ascends-filter : {A : Type 0} (cmp : A → A → Ordering) (test : A → Bool) (xs : List A) → Ascends cmp xs
    → Ascends cmp (filter test xs)
ascends-filter cmp test [] ascends = tt
ascends-filter {A = A} cmp test (x ∷ xs) ascends = by (test x) (ascends-filter cmp test xs ascends.1) where
  by : (b : Bool) → Ascends cmp (filter test xs) → Ascends cmp (cond b (x ∷ filter test xs) (filter test xs))
  by true rest = (below-filter cmp x test xs ascends.0, rest)
  by false rest = rest

-- the end of ascending items ascends
pub ascends-drop : {A : Type 0} (cmp : A → A → Ordering) (i : ℕ) (xs : List A) → Ascends cmp xs
    → Ascends cmp (drop i xs)
ascends-drop cmp zero xs ascends = ascends
ascends-drop cmp (suc i) [] ascends = tt
ascends-drop cmp (suc i) (x ∷ xs) ascends = ascends-drop cmp i xs ascends.1

below-inserted : {A : Type 0} (cmp : A → A → Ordering) (x y : A) (ys : List A) → cmp x y ≡ Less → IsBelowAll cmp x ys
    → IsBelowAll cmp x (inserted cmp ys y)
below-inserted cmp x y [] less below = (less, tt)
below-inserted {A = A} cmp x y (z ∷ zs) less below = by (cmp y z) (below-inserted cmp x y zs less below.1) where
  by : (order : Ordering) → IsBelowAll cmp x (inserted cmp zs y)
      → IsBelowAll cmp x (by_order order (y ∷ z ∷ zs) (y ∷ zs) (z ∷ inserted cmp zs y))
  by Less rest = (less, below)
  by Equal rest = (less, below.1)
  by Greater rest = (below.0, rest)

-- ascending items with one more at its place ascend
pub ascends-inserted : {A : Type 0} (cmp : A → A → Ordering) (total : IsTotalOrder cmp) (ys : List A) (x : A)
    → Ascends cmp ys → Ascends cmp (inserted cmp ys x)
ascends-inserted cmp total [] x ascends = (tt, tt)
ascends-inserted {A = A} cmp total (y ∷ ys) x ascends =
    by (cmp x y) refl (ascends-inserted cmp total ys x ascends.1) where
      by : (order : Ordering) → cmp x y ≡ order → Ascends cmp (inserted cmp ys x)
          → Ascends cmp (by_order order (x ∷ y ∷ ys) (x ∷ ys) (y ∷ inserted cmp ys x))
      by Less is rest = ((is, below_trans cmp total x y ys is ascends.0), ascends)
      by Equal is rest = (below_tied cmp total x y ys is ascends.0, ascends.1)
      by Greater is rest = (below-inserted cmp y x ys (total.antisymm y x ∙ ap ordering_reverse is) ascends.0, rest)
