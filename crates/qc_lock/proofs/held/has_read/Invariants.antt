use Rattle.std.proofs.Common.{◌≡◌, drop}
use Rattle.qc_lock.specs.Vocabulary.{has_read}
use Rattle.qc_lock.proofs.held.has_read.Given as goal

abbrev pub invariant-locks : goal.invariant-locks
invariant-locks l = has_read (drop l.other-index l.locks) l.lock.object l.lock.inv
    ≡ has_read l.locks l.lock.object l.lock.inv
