use Rattle.std.proofs.Common.{take}
use Rattle.qc_lock.specs.Vocabulary.{Narrows, has_read}
use Rattle.qc_lock.proofs.holder_set.drop_reads.Given as goal

abbrev pub invariant-locks : goal.invariant-locks
invariant-locks l = Narrows l.initial.places l.places l.tx (has_read (take l.lock-index l.locks)) (has_read l.kept)
