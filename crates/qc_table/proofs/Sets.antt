-- Sets as words: an event is below 64, and an empty word has none.
use Rattle.std.proofs.Common.{◌≡◌, ◌⊎◌, inl, inr, ℕ, ◌-◌, ◌^◌, ◌<◌, ◌≤◌, true, arith, false, ap, ◌∙◌}
use Rattle.std.specs.Int.{bit_at}
use Rattle.std.proofs.lemmas.Bool.{cases_lt, eqb-true, false_from_ne_true}
use Rattle.std.proofs.lemmas.Nat.Bits.{bit_at_above, bit_at-zero}
use Rattle.qc_table.specs.Vocabulary.{has}
use Rattle.std.specs.Prelude.{◌==◌}

pub below_64 : (set k : ℕ) → set < 2 ^ 64 → has set k ≡ true → k < 64
below_64 set k small here = by (cases_lt k 64)
  where
    by : (k < 64) ⊎ (64 ≤ k) → k < 64
    by (inl l) = l
    by (inr past) = absurd (let zero_bit : bit_at set k ≡ 0 = bit_at_above set 64 k small past in
        let one : bit_at set k ≡ 1 = eqb-true (bit_at set k) 1 here in omega arith)

pub none_left : (rest : ℕ) → rest ≡ 0 → (k : ℕ) → has rest k ≡ false
none_left rest is k = ap (λ n. has n k) is ∙ ap (λ n. n == 1) (bit_at-zero k)

pub none_past : (rest : ℕ) → rest < 2 ^ 64 → ((k : ℕ) → has rest k ≡ true → 64 ≤ k) → (k : ℕ) → has rest k ≡ false
none_past rest small past k = false_from_ne_true (has rest k) (λ (here : has rest k ≡ true).
    let high : 64 ≤ k = past k here in let low : k < 64 = below_64 rest k small here in omega arith)
