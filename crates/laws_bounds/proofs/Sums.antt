-- Sums over the numbers below one, of which one term grows.
use Rattle.std.proofs.Common.{◌≡◌, ℕ, zero, suc, ◌+◌, ◌<◌, ◌==◌, Bool, true, false, refl, subst, arith}
use Rattle.std.proofs.lemmas.Bool.{eqb-true, eqb-false}
use Rattle.qc_promise.specs.Vocabulary.{total_below}
use Rattle.std.proofs.Common.{◌≤◌}
use Rattle.std.proofs.lemmas.Bool.{ne_eqb}

pub total_past : (n e : ℕ) (f g : ℕ → ℕ) → n ≤ e → ((a : ℕ) → (e == a) ≡ false → g a ≡ f a)
    → total_below n g ≡ total_below n f
total_past zero e f g past other = refl
total_past (suc n) e f g past other =
    let here : g n ≡ f n = other n (ne_eqb e n (λ same. omega (arith, past, same))) in
    omega (arith, total_past n e f g (omega (arith, past)) other, here)

pub zeros : (n : ℕ) → total_below n (λ a. 0) ≡ 0
zeros zero = refl
zeros (suc n) = omega (arith, zeros n)

pub total_more : (n e d : ℕ) (f g : ℕ → ℕ) → e < n → g e ≡ f e + d → ((a : ℕ) → (e == a) ≡ false → g a ≡ f a)
    → total_below n g ≡ total_below n f + d
total_more zero e d f g less at other = absurd (omega (arith, less))
total_more (suc n) e d f g less at other = by (e == n) refl (λ below. total_more n e d f g below at other)
  where
    by : (t : Bool) → (e == n) ≡ t → (e < n → total_below n g ≡ total_below n f + d)
        → total_below n g + g n ≡ total_below n f + f n + d
    by true is ih =
        let same : e ≡ n = eqb-true e n is in
        let here : g n ≡ f n + d = subst (λ (k : ℕ). g k ≡ f k + d) same at in
        omega (arith, total_past n e f g (omega (arith, same)) other, here)
    by false is ih =
        let apart : e ≡ n → ⊥ = eqb-false e n is in
        let below : e < n = omega (arith, less, apart) in
        omega (arith, ih below, other n is)
