-- Numbers as tests and comparisons tell them.
use Rattle.std.proofs.Common.{◌≡◌, ℕ, ◌==◌, true, refl, ◌<◌, nat_lt, Bool, false, cond, arith, sym, eqb-true, ◌-◌, ◌+◌}
use Rattle.std.proofs.Common.{suc}
use Rattle.std.proofs.lemmas.Bool.{eq-eqb, ltb-true}
use Rattle.std.specs.Ordering.{nat_cmp, is_eq}
use Rattle.std.specs.declared.cmp.Ordering.TheVariants.{Equal, Greater, Less}
use Rattle.std.proofs.lemmas.Bool.Decides.{nat_tests}
use Rattle.std.specs.Cmp.{nat_cmp_is}
use Rattle.std.proofs.lemmas.Grind.{common_steps}

pub number_same : (a : ℕ) → (a == a) ≡ true
number_same a = eq-eqb a a refl

pub below_from_cmp : (x y : ℕ) → nat_cmp x y ≡ Less → x < y
below_from_cmp x y less = by (nat_lt x y) refl (x == y) less
  where
    by : (t : Bool) → nat_lt x y ≡ t → (e : Bool) → cond t Less (cond e Equal Greater) ≡ Less → x < y
    by true is e less = ltb-true x y is
    by false is true less = let never : ⊥ = cc in absurd never
    by false is false less = let never : ⊥ = cc in absurd never

pub cmp_below : (a b : ℕ) → a < b → nat_cmp a b ≡ Less
cmp_below a b l = grind (arith, nat_tests)

pub cmp_same : (a b : ℕ) → a ≡ b → nat_cmp a b ≡ Equal
cmp_same a b h = sym (nat_cmp_is a b Equal h)

pub cmp_above : (a b : ℕ) → b < a → nat_cmp a b ≡ Greater
cmp_above a b h = sym (nat_cmp_is a b Greater h)

pub cmp_is_eq : (x y : ℕ) → is_eq (nat_cmp x y) ≡ (x == y)
cmp_is_eq x y = grind (arith, common_steps)

pub numbers_apart : (x y : ℕ) → (x ≡ y → ⊥) → (x == y) ≡ false
numbers_apart x y differs = at (x == y) refl
  where
    at : (t : Bool) → (x == y) ≡ t → t ≡ false
    at true same = absurd (differs (eqb-true x y same))
    at false other = refl

pub test_turned : (x y : ℕ) → (x == y) ≡ false → (y == x) ≡ false
test_turned x y other = at (y == x) refl
  where
    at : (t : Bool) → (y == x) ≡ t → t ≡ false
    at true same = absurd (let yes : (x == y) ≡ true = eq-eqb x y (sym (eqb-true y x same)) in let never : ⊥ = cc in
        never)
    at false is = refl

pub zero_first : (n : ℕ) → 0 + n ≡ n
zero_first n = omega arith

pub is_last : (k n : ℕ) → nat_lt k n ≡ false → k < suc n → k ≡ n
is_last k n not_below less = grind (arith, nat_tests)
