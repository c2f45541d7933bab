use Rattle.std.proofs.Common.{length, ◌-◌, ◌≤◌, take}
use Rattle.qc_entry.specs.Vocabulary.{IsAscending}
use Rattle.qc_entry.proofs.slices.ascend.Given as goal

-- the lines so far ascend
abbrev pub invariant-lines : goal.invariant-lines
invariant-lines l = (l.count ≤ length l.lines) × IsAscending (take l.count l.lines)

abbrev pub decreases-lines : goal.decreases-lines
decreases-lines l = length l.lines - l.count
