-- Sites that ascend, each once, are no more than there are, and stay so where more are asked.
use Rattle.std.proofs.Common.{ℕ, ◌+◌, ◌-◌, ◌<◌, ◌≤◌, List, [], ◌∷◌, fold, length, arith}
use Rattle.std.specs.List.{AllByRecursion as Every}
use Rattle.std.specs.Ordering.{nat_cmp}
use Rattle.std.specs.declared.cmp.Ordering.{Ordering}
use Rattle.std.specs.declared.cmp.Ordering.TheVariants.{Less, Equal, Greater}
use Rattle.std.proofs.lemmas.Cmp.{nat_cmp_total}
use Rattle.qc_list.specs.Vocabulary.{Ascends, IsBelowAll, by_order, inserted}
use Rattle.qc_list.proofs.Order.{ascends-inserted}
use Rattle.qc_msg.specs.Vocabulary.{with_site}
use Rattle.qc_list.proofs.Numbers.{below_from_cmp}

pub record AreSites (n : ℕ) (xs : List ℕ) : Type 0 where
  pub below : Every (λ site. site < n) xs
  pub ascends : Ascends nat_cmp xs

above : (x : ℕ) (ys : List ℕ) → IsBelowAll nat_cmp x ys → Every (λ y. x + 1 ≤ y) ys
above x [] is = tt
above x (y ∷ ys) is = (let low : x < y = below_from_cmp x y is.0 in omega arith, above x ys is.1)

few_between : (m n : ℕ) (xs : List ℕ) → Every (λ x. m ≤ x) xs → Every (λ x. x < n) xs → Ascends nat_cmp xs
    → length xs ≤ n - m
few_between m n [] low high order = omega arith
few_between m n (x ∷ xs) low high order =
    let rest : length xs ≤ n - (x + 1) = few_between (x + 1) n xs (above x xs order.0) high.1 order.1 in
    let least : m ≤ x = low.0 in
    let most : x < n = high.0 in
    omega arith

pub none_low : (xs : List ℕ) → Every (λ x. 0 ≤ x) xs
none_low [] = tt
none_low (x ∷ xs) = (omega arith, none_low xs)

pub few_sites : (n : ℕ) (xs : List ℕ) → AreSites n xs → length xs ≤ n
few_sites n xs are = let few : length xs ≤ n - 0 = few_between 0 n xs (none_low xs) are.below are.ascends in omega arith

with_below : (n : ℕ) (xs : List ℕ) (x : ℕ) → x < n → Every (λ y. y < n) xs → Every (λ y. y < n) (with_site xs x)
with_below n [] x low all = (low, tt)
with_below n (y ∷ ys) x low all = by (nat_cmp x y) (with_below n ys x low all.1)
  where
    by : (o : Ordering) → Every (λ z. z < n) (with_site ys x)
        → Every (λ z. z < n) (by_order o (x ∷ y ∷ ys) (x ∷ ys) (y ∷ inserted nat_cmp ys x))
    by Less rest = (low, all)
    by Equal rest = (low, all.1)
    by Greater rest = (all.0, rest)

pub more_sites : (n : ℕ) (xs sites : List ℕ) → AreSites n xs → Every (λ x. x < n) sites
    → AreSites n (fold with_site xs sites)
more_sites n xs [] are low = are
more_sites n xs (x ∷ sites) are low =
    more_sites n (with_site xs x) sites (record {
      below = with_below n xs x low.0 are.below;
      ascends = ascends-inserted nat_cmp nat_cmp_total xs x are.ascends;
    }) low.1
