-- The events of a set, lowest first, and the smallest clash of those that were looked at.
use Rattle.std.proofs.Common.{◌≡◌, ◌⊎◌, inl, inr, ℕ, ◌+◌, ◌^◌, ◌%◌, ◌*◌, ◌<◌, ◌≤◌, Bool, true, false, Option, None}
use Rattle.std.proofs.Common.{bit_and, refl, sym, ap, subst, ◌∙◌, arith, w64}
use Rattle.std.specs.Prelude.{◌==◌}
use Rattle.std.specs.Int.{bit_at, bit_not, trailing_zeros}
use Rattle.std.proofs.lemmas.Bool.{cases_lt, eqb-true, eqb-false, eq-eqb, false_from_ne_true, true≢false}
use Rattle.std.proofs.lemmas.Nat.{and_le_l}
use Rattle.std.proofs.lemmas.Nat.Bits.{bit_at_clear_same, bit_at_clear_other, bit_at-trailing_zeros}
use Rattle.qc_lock.specs.declared.clash.Clash.{Clash}
use Rattle.qc_lock.specs.Vocabulary.{IsSmallest, smaller_of}
use Rattle.qc_lock.proofs.SmallestOf.{smallest_by}
use Rattle.qc_lock.proofs.Smallest.{smallest_both}
use Rattle.qc_table.specs.Vocabulary.{has}
use Rattle.qc_table.proofs.Sets.{below_64}

-- the set without its lowest event
abbrev pub without : ℕ → ℕ → ℕ
without rest event = bit_and rest (bit_not w64 (1 * 2 ^ event % 2 ^ 64))

pub without_same : (rest event : ℕ) → event < 64 → has (without rest event) event ≡ false
without_same rest event l = ap (λ n. n == 1) (bit_at_clear_same w64 rest event l)

pub without_other : (rest event k : ℕ) → event < 64 → k < 64 → (k ≡ event → ⊥) → has (without rest event) k ≡ has rest k
without_other rest event k l kl ne = ap (λ n. n == 1) (bit_at_clear_other w64 rest event l k kl ne)

pub without_small : (rest event : ℕ) → rest < 2 ^ 64 → without rest event < 2 ^ 64
without_small rest event small = let less : without rest event ≤ rest =
    and_le_l rest (bit_not w64 (1 * 2 ^ event % 2 ^ 64)) in omega (arith, less, small)

-- without its lowest event a set has only events that are higher
pub left_more : (rest turn : ℕ) → 0 < rest → rest < 2 ^ 64 → ((k : ℕ) → has rest k ≡ true → turn ≤ k)
    → (k : ℕ) → has (without rest (trailing_zeros w64 rest)) k ≡ true → turn + 1 ≤ k
left_more rest turn some small left k here = by (k == low) refl
  where
    low : ℕ
    low = trailing_zeros w64 rest

    lowest : (low < 64) × (bit_at rest low ≡ 1) × ((i : ℕ) → i < low → bit_at rest i ≡ 0)
    lowest = bit_at-trailing_zeros w64 rest some small

    within : k < 64
    within = below_64 (without rest low) k (without_small rest low small) here

    by : (b : Bool) → (k == low) ≡ b → turn + 1 ≤ k
    by true e =
        let same : k ≡ low = eqb-true k low e in
        absurd (true≢false (sym here ∙ ap (has (without rest low)) same ∙ without_same rest low lowest.0))
    by false e =
        let old : has rest k ≡ true = sym (without_other rest low k lowest.0 within (eqb-false k low e)) ∙ here in
        let from : turn ≤ low = left low (eq-eqb (bit_at rest low) 1 lowest.1) in
        above from old (cases_lt k low)
      where
        above : turn ≤ low → has rest k ≡ true → (k < low) ⊎ (low ≤ k) → turn + 1 ≤ k
        above from old (inl l) = absurd (let one : bit_at rest k ≡ 1 = eqb-true (bit_at rest k) 1 old in
            let none : bit_at rest k ≡ 0 = lowest.2 k l in omega arith)
        above from old (inr past) = let ne : k ≡ low → ⊥ = eqb-false k low e in grind (arith, from, past, ne)

-- ---- the smallest clash with the events that aren't left
abbrev pub Passed : (ℕ → Clash → Type 0) → ℕ → Clash → Type 0
Passed P rest d = (n : ℕ) × (has rest n ≡ false) × P n d

-- at first all that clash are left
pub none_passed : (P : ℕ → Clash → Type 0) (rest : ℕ) → ((n : ℕ) (d : Clash) → P n d → has rest n ≡ true)
    → IsSmallest (Passed P rest) None
none_passed P rest all = λ d found. true≢false (sym (all found.0 d found.2) ∙ found.1)

-- one more was looked at
pub passed_more : (P : ℕ → Clash → Type 0) (rest low : ℕ) (a b : Option Clash) → low < 64 → rest < 2 ^ 64
    → IsSmallest (Passed P rest) a → IsSmallest (P low) b → IsSmallest (Passed P (without rest low)) (smaller_of a b)
passed_more P rest low a b l small p q =
    smallest_by (λ d. Passed P rest d ⊎ P low d) (Passed P (without rest low)) (smaller_of a b) to back
    (smallest_both (Passed P rest) (P low) a b p q)
  where
    lacks : (k : ℕ) → has rest k ≡ false → has (without rest low) k ≡ false
    lacks k none = by (k == low) refl (cases_lt k 64)
      where
        by : (b : Bool) → (k == low) ≡ b → (k < 64) ⊎ (64 ≤ k) → has (without rest low) k ≡ false
        by true e at = ap (has (without rest low)) (eqb-true k low e) ∙ without_same rest low l
        by false e (inl less) = without_other rest low k l less (eqb-false k low e) ∙ none
        by false e (inr past) = false_from_ne_true (has (without rest low) k)
            (λ (here : has (without rest low) k ≡ true).
            let less : k < 64 = below_64 (without rest low) k (without_small rest low small) here in
            omega (arith, less, past))

    to : (d : Clash) → Passed P rest d ⊎ P low d → Passed P (without rest low) d
    to d (inl x) = (x.0, lacks x.0 x.1, x.2)
    to d (inr y) = (low, without_same rest low l, y)

    had : (k : ℕ) → (k ≡ low → ⊥) → has (without rest low) k ≡ false → has rest k ≡ false
    had k ne none = by (cases_lt k 64)
      where
        by : (k < 64) ⊎ (64 ≤ k) → has rest k ≡ false
        by (inl less) = sym (without_other rest low k l less ne) ∙ none
        by (inr past) = false_from_ne_true (has rest k)
            (λ (here : has rest k ≡ true). let less : k < 64 = below_64 rest k small here in omega (arith, less, past))

    back : (d : Clash) → Passed P (without rest low) d → Passed P rest d ⊎ P low d
    back d x = by (x.0 == low) refl
      where
        by : (b : Bool) → (x.0 == low) ≡ b → Passed P rest d ⊎ P low d
        by true e = inr (subst (λ n. P n d) (eqb-true x.0 low e) x.2)
        by false e = inl (x.0, had x.0 (eqb-false x.0 low e) x.1, x.2)

-- none is left
pub passed_all : (P : ℕ → Clash → Type 0) (rest : ℕ) (a : Option Clash) → ((k : ℕ) → has rest k ≡ false)
    → IsSmallest (Passed P rest) a → IsSmallest (λ d. (n : ℕ) × P n d) a
passed_all P rest a none least = smallest_by (Passed P rest) (λ d. (n : ℕ) × P n d) a (λ d x. (x.0, x.2))
    (λ d x. (x.0, none x.0, x.1)) least
