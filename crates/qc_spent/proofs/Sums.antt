-- Sums over the numbers below one.
use Rattle.std.proofs.Common.{◌≡◌, ℕ, zero, suc, ◌+◌, ◌<◌, ◌≤◌, ◌==◌, Bool, true, false, refl, subst, arith}
use Rattle.std.proofs.lemmas.Bool.{eqb-true, eqb-false, ne_eqb}
use Rattle.qc_promise.specs.Vocabulary.{total_below}

pub total_same : (n : ℕ) (f g : ℕ → ℕ) → ((a : ℕ) → f a ≡ g a) → total_below n f ≡ total_below n g
total_same zero f g same = refl
total_same (suc n) f g same = omega (arith, total_same n f g same, same n)

pub total_less : (n : ℕ) (f g : ℕ → ℕ) → ((a : ℕ) → f a ≤ g a) → total_below n f ≤ total_below n g
total_less zero f g less = omega arith
total_less (suc n) f g less = omega (arith, total_less n f g less, less n)

-- one more at a place
pub total_past : (n e : ℕ) (f g : ℕ → ℕ) → n ≤ e → ((a : ℕ) → (e == a) ≡ false → g a ≡ f a)
    → total_below n g ≡ total_below n f
total_past zero e f g past other = refl
total_past (suc n) e f g past other =
    let here : g n ≡ f n = other n (ne_eqb e n (λ same. omega (arith, past, same))) in
    omega (arith, total_past n e f g (omega (arith, past)) other, here)

pub total_more : (n e : ℕ) (f g : ℕ → ℕ) → e < n → g e ≡ f e + 1 → ((a : ℕ) → (e == a) ≡ false → g a ≡ f a)
    → total_below n g ≡ total_below n f + 1
total_more zero e f g less at other = absurd (omega (arith, less))
total_more (suc n) e f g less at other = by (e == n) refl (λ below. total_more n e f g below at other)
  where
    by : (t : Bool) → (e == n) ≡ t → (e < n → total_below n g ≡ total_below n f + 1)
        → total_below n g + g n ≡ total_below n f + f n + 1
    by true is ih =
        let same : e ≡ n = eqb-true e n is in
        let here : g n ≡ f n + 1 = subst (λ (k : ℕ). g k ≡ f k + 1) same at in
        omega (arith, total_past n e f g (omega (arith, same)) other, here)
    by false is ih =
        let apart : e ≡ n → ⊥ = eqb-false e n is in
        let below : e < n = omega (arith, less, apart) in
        omega (arith, ih below, other n is)
