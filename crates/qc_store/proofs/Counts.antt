-- Disks go back to a rack one by one: the rack's count rises by the sum of theirs, as long as 64 bits hold it.
use Rattle.std.proofs.Common.{◌≡◌, ℕ, zero, suc, ◌+◌, ◌-◌, ◌^◌, ◌<◌, ◌≤◌, nat_lt, Bool, true, false, List, refl, arith}
use Rattle.std.proofs.lemmas.Bool.{ltb-true}
use Rattle.qc_msg.specs.Vocabulary.{Entry}
use Rattle.qc_outside.specs.Vocabulary.{IsKept}
use Rattle.qc_promise.specs.Vocabulary.{AreFallsBelow, IsEverInTime, Spent, disk_account, total_below}
use Rattle.qc_spent.proofs.Whole.{accounts_make_spent}
use Rattle.qc_store.specs.Vocabulary.{IsCounted}
use Rattle.qc_list.proofs.Numbers.{is_last}

settled : (n : ℕ) (disks nows : ℕ → ℕ) → ((k : ℕ) → k < n → IsKept (nows k) (disks k) (nows (suc k)))
    → nows n < 2 ^ 64 - 1 → nows 0 + total_below n disks ≤ nows n
settled zero disks nows each few = omega arith
settled (suc n) disks nows each few =
    let last = each n (omega arith) in
    let later : nows n ≤ nows (suc n) = last.later in
    let before : nows 0 + total_below n disks ≤ nows n =
    settled n disks nows (λ k le. each k (omega (arith, le))) (omega (arith, later, few)) in
    omega (arith, last.added, few, before)

-- one of a sum is no more than all

pub one_of_sum : (n k : ℕ) (f : ℕ → ℕ) → k < n → f k ≤ total_below n f
one_of_sum zero k f less = absurd (omega (arith, less))
one_of_sum (suc n) k f less = by (λ low. one_of_sum n k f low) (nat_lt k n) refl
  where
    by : (k < n → f k ≤ total_below n f) → (b : Bool) → nat_lt k n ≡ b → f k ≤ total_below n f + f n
    by ih true is = omega (arith, ih (ltb-true k n is))
    by ih false is = rw (is_last k n is less) (omega arith)

sum_less : (n : ℕ) (f g : ℕ → ℕ) → ((k : ℕ) → k < n → f k ≤ g k) → total_below n f ≤ total_below n g
sum_less zero f g less = omega arith
sum_less (suc n) f g less =
    omega (arith, sum_less n f g (λ k le. less k (omega (arith, le))), less n (omega arith))

exact : (falls count : ℕ) → IsCounted falls count → count < 2 ^ 64 - 1 → falls ≤ count
exact falls count counted few = omega (arith, counted, few)

pub counted_disks_make_spent : (h : List Entry) (actors : ℕ) (disks nows : ℕ → ℕ) → AreFallsBelow actors h
    → ((a : ℕ) → IsEverInTime a h) → ((a : ℕ) → a < actors → IsCounted (disk_account a h).unarmed (disks a))
    → ((a : ℕ) → a < actors → IsKept (nows a) (disks a) (nows (suc a))) → nows actors < 2 ^ 64 - 1
    → Spent h (nows actors - nows 0)
counted_disks_make_spent h actors disks nows below times counted kept few =
    let sum : nows 0 + total_below actors disks ≤ nows actors = settled actors disks nows kept few in
    let less : total_below actors (λ a. (disk_account a h).unarmed) ≤ total_below actors disks =
    sum_less actors (λ a. (disk_account a h).unarmed) disks (λ a low.
    exact (disk_account a h).unarmed (disks a) (counted a low)
    (omega (arith, one_of_sum actors a disks low, sum, few))) in
    accounts_make_spent h actors (nows actors - nows 0) (λ a. (disk_account a h).unarmed) below times (λ a. omega arith)
    (omega (arith, sum, less))
