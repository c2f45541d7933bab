-- The falls of disks that come back one by one, in any order, are counted together.
use Rattle.std.proofs.Common.{◌≡◌, ℕ, zero, suc, ◌+◌, ◌-◌, ◌^◌, ◌<◌, ◌≤◌, Bool, true, false, cond, List, refl, sym, ap}
use Rattle.std.proofs.Common.{subst, arith, min, nat_lt}
use Rattle.std.proofs.lemmas.Bool.{ltb-true}
use Rattle.qc_msg.specs.Vocabulary.{Entry}
use Rattle.qc_outside.specs.Vocabulary.{IsKept}
use Rattle.qc_promise.specs.Vocabulary.{AreFallsBelow, IsEverInTime, Spent, disk_account, total_below}
use Rattle.laws_bounds.specs.Vocabulary.{AreFaultsBelow, IsSpentSoFar, falls_of, nobody, with_visit}
use Rattle.laws_bounds.proofs.Others.{at_least, others_in_time}
use Rattle.laws_bounds.proofs.RunFaults.{falls_below}
use Rattle.laws_bounds.proofs.Sums.{zeros}
use Rattle.laws_bounds.proofs.Counted.{more_visited}
use Rattle.qc_spent.proofs.Whole.{accounts_make_spent}
use Rattle.qc_store.specs.Vocabulary.{IsCounted}

pub none_spent : (n : ℕ) (h : List Entry) (before : ℕ) → IsSpentSoFar n h nobody before before
none_spent n h before = record { counted = omega (arith, zeros n) }

summed : (before falls own disk now then : ℕ) → IsCounted own disk → IsKept now disk then
    → min (before + falls) (2 ^ 64 - 1) ≤ now → min (before + (falls + own)) (2 ^ 64 - 1) ≤ then
summed before falls own disk now then counted kept so_far =
    omega (arith, counted, kept.later, kept.added, so_far)

pub one_spent : (n a : ℕ) (h : List Entry) (visited : ℕ → Bool) (before now disk then : ℕ) → a < n
    → visited a ≡ false → IsCounted (disk_account a h).unarmed disk → IsKept now disk then
    → IsSpentSoFar n h visited before now → IsSpentSoFar n h (with_visit visited a) before then
one_spent n a h visited before now disk then low new counted kept so_far =
    let same : falls_of n h (with_visit visited a) ≡ falls_of n h visited + (disk_account a h).unarmed =
    more_visited n a visited (λ b. (disk_account b h).unarmed) low new in
    record {
      counted =
          subst (λ (m : ℕ). min (before + m) (2 ^ 64 - 1) ≤ then) (sym same)
          (summed before (falls_of n h visited) (disk_account a h).unarmed disk now then counted kept so_far.counted);
    }

pub other_spent : (n : ℕ) (h : List Entry) (visited : ℕ → Bool) (before now disk then : ℕ) → IsKept now disk then
    → IsSpentSoFar n h visited before now → IsSpentSoFar n h visited before then
other_spent n h visited before now disk then kept so_far =
    record { counted = omega (arith, kept.later, so_far.counted) }

-- all were visited

whole : (n : ℕ) (f : ℕ → ℕ) (visited : ℕ → Bool) → ((a : ℕ) → a < n → visited a ≡ true)
    → total_below n (λ a. cond (visited a) (f a) 0) ≡ total_below n f
whole zero f visited all = refl
whole (suc n) f visited all =
    let here : cond (visited n) (f n) 0 ≡ f n = ap (λ (t : Bool). cond t (f n) 0) (all n (omega arith)) in
    omega (arith, whole n f visited (λ a low. all a (omega (arith, low))), here)

pub all_spent : (n : ℕ) (h : List Entry) (visited : ℕ → Bool) (before now : ℕ)
    → ((a : ℕ) → a < n → visited a ≡ true) → now < 2 ^ 64 - 1 → AreFallsBelow n h
    → ((a : ℕ) → IsEverInTime a h) → IsSpentSoFar n h visited before now → Spent h (now - before)
all_spent n h visited before now all few below times so_far =
    let sum : falls_of n h visited ≡ total_below n (λ a. (disk_account a h).unarmed) =
    whole n (λ a. (disk_account a h).unarmed) visited all in
    accounts_make_spent h n (now - before) (λ a. (disk_account a h).unarmed) below times (λ a. omega arith)
    (omega (arith, so_far.counted, sum, few))

-- others have no faults
pub all_below_spent : (n : ℕ) (h : List Entry) (visited : ℕ → Bool) (before now : ℕ)
    → ((a : ℕ) → a < n → visited a ≡ true) → now < 2 ^ 64 - 1 → AreFaultsBelow n h
    → ((a : ℕ) → a < n → IsEverInTime a h) → IsSpentSoFar n h visited before now → Spent h (now - before)
all_below_spent n h visited before now all few below times so_far =
    all_spent n h visited before now all few (falls_below n h below) (λ a. by a (nat_lt a n) refl) so_far
  where
    by : (a : ℕ) (t : Bool) → nat_lt a n ≡ t → IsEverInTime a h
    by a true low = times a (ltb-true a n low)
    by a false high = others_in_time n a h below (at_least n a high)
