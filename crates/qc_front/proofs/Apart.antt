-- Lists of different numbers, and their order.
use Rattle.std.proofs.Common.{◌≡◌, ◌≢◌, ℕ, zero, suc, ◌+◌, ◌-◌, ◌<◌, ◌≤◌, nat_lt, Bool, true, false, cond, ◌⊎◌, inl}
use Rattle.std.proofs.Common.{inr, List, [], ◌∷◌, ◌++◌, filter, refl, arith}
use Rattle.std.specs.List.{range_with_len}
use Rattle.qc_list.specs.Vocabulary.{In}
use Rattle.qc_list.proofs.Members.{In-first, In-unfiltered, In-either}
use Rattle.qc_plan.specs.Vocabulary.{cyclic, weighing, weight_at}
pub use Rattle.qc_front.specs.Holds.{AreApart}

pub apart_first : (xs ys : List ℕ) → AreApart (xs ++ ys) → AreApart xs
apart_first [] ys apart = tt
apart_first (x ∷ xs) ys apart = (λ y among. apart.0 y (In-first y xs ys among), apart_first xs ys apart.1)

pub apart_second : (xs ys : List ℕ) → AreApart (xs ++ ys) → AreApart ys
apart_second [] ys apart = apart
apart_second (x ∷ xs) ys apart = apart_second xs ys apart.1

pub both_apart : (xs ys : List ℕ) → AreApart xs → AreApart ys → ((x y : ℕ) → In x xs → In y ys → x ≢ y)
    → AreApart (xs ++ ys)
both_apart [] ys first second across = second
both_apart (x ∷ xs) ys first second across = (
  λ y among. by y (In-either y xs ys among),
  both_apart xs ys first.1 second (λ z w in_xs in_ys. across z w (inr in_xs) in_ys),
)
  where
    by : (y : ℕ) → In y xs ⊎ In y ys → x ≢ y
    by y (inl among) = first.0 y among
    by y (inr among) = across x y (inl refl) among

pub apart_filter : (test : ℕ → Bool) (xs : List ℕ) → AreApart xs → AreApart (filter test xs)
apart_filter test [] apart = tt
apart_filter test (x ∷ xs) apart = by (test x) (apart_filter test xs apart.1)
  where
    by : (b : Bool) → AreApart (filter test xs) → AreApart (cond b (x ∷ filter test xs) (filter test xs))
    by true rest = (λ y among. apart.0 y (In-unfiltered test y xs among), rest)
    by false rest = rest

-- the sites of a plan in a client's order

pub in_range : (first count x : ℕ) → In x (range_with_len first count) → (first ≤ x) × (x < first + count)
in_range first zero x among = absurd among
in_range first (suc count) x (inl same) =
    (let is : x ≡ first = same in omega arith, let is : x ≡ first = same in omega arith)
in_range first (suc count) x (inr among) =
    let more : (first + 1 ≤ x) × (x < (first + 1) + count) = in_range (first + 1) count x among in
    (let low : first + 1 ≤ x = more.0 in omega arith, let high : x < (first + 1) + count = more.1 in omega arith)

pub apart_range : (first count : ℕ) → AreApart (range_with_len first count)
apart_range first zero = tt
apart_range first (suc count) = (
  λ y among same. (let more : (first + 1 ≤ y) × (y < (first + 1) + count) = in_range (first + 1) count y among in
      let low : first + 1 ≤ y = more.0 in omega arith),
  apart_range (first + 1) count,
)

pub apart_cyclic : (sites first : ℕ) → AreApart (cyclic sites first)
apart_cyclic sites first =
    both_apart (range_with_len first (sites - first)) (range_with_len 0 first) (apart_range first (sites - first))
    (apart_range 0 first)
    (λ x y later sooner same.
    (let a : (first ≤ x) × (x < first + (sites - first)) = in_range first (sites - first) x later in
    let b : (0 ≤ y) × (y < 0 + first) = in_range 0 first y sooner in
    let low : first ≤ x = a.0 in let high : y < 0 + first = b.1 in omega arith))

pub apart_weighing : (weights : List ℕ) (sites first : ℕ) → AreApart (weighing weights (cyclic sites first))
apart_weighing weights sites first = apart_filter (λ site. nat_lt 0 (weight_at weights site)) (cyclic sites first)
    (apart_cyclic sites first)
