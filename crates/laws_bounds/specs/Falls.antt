-- What a rack counted of the falls of the disks that came back so far.
use Rattle.std.specs.Prelude.{ℕ, ◌≤◌, Bool, List, cond}
use Rattle.qc_msg.specs.Vocabulary.{Entry}
use Rattle.qc_outside.specs.Vocabulary.{sum_of_faults}
use Rattle.qc_promise.specs.Vocabulary.{disk_account, total_below}

-- the falls of the disks of those below a number that were visited, in which nothing that was armed can have acted
abbrev pub falls_of : ℕ → List Entry → (ℕ → Bool) → ℕ
falls_of n h visited = total_below n (λ a. cond (visited a) (disk_account a h).unarmed 0)

-- the rack's count rose by them, as long as 64 bits hold it
pub record IsSpentSoFar (n : ℕ) (h : List Entry) (visited : ℕ → Bool) (before now : ℕ) : Type 0 where
  pub counted : sum_of_faults before (falls_of n h visited) ≤ now
