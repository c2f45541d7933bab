use Rattle.std.proofs.Common.{length, ◌-◌, ◌≡◌, ◌≤◌, take}
use Rattle.qc_entry.proofs.slices.shared.Given as goal

abbrev pub invariant-lines : goal.invariant-lines
invariant-lines l = (l.n ≤ length l.a) × (l.n ≤ length l.b) × (take l.n l.a ≡ take l.n l.b)

abbrev pub decreases-lines : goal.decreases-lines
decreases-lines l = length l.a - l.n
