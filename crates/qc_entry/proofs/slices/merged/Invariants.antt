use Rattle.std.proofs.Common.{length, ◌-◌, ◌+◌}
use Rattle.qc_entry.specs.Vocabulary.{union}
use Rattle.qc_entry.proofs.Walks.{IsWalk}
use Rattle.qc_entry.proofs.slices.merged.Given as goal

abbrev pub invariant-lines : goal.invariant-lines
invariant-lines l = IsWalk union l.a l.b l.i l.j l.out.items

abbrev pub decreases-lines : goal.decreases-lines
decreases-lines l = (length l.a + length l.b) - (l.i + l.j)
