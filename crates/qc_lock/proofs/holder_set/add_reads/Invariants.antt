use Rattle.std.proofs.Common.{true, take}
use Rattle.qc_lock.specs.Vocabulary.{Widens, has_read}
use Rattle.qc_lock.proofs.holder_set.add_reads.Given as goal

abbrev pub invariant-locks : goal.invariant-locks
invariant-locks l = Widens l.initial.places l.places l.tx (has_read (take l.lock-index l.locks)) true
