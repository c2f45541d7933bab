use Rattle.std.proofs.Common.{List, sym, subst}
use Rattle.qc_lock.specs.declared.held.Held.{Held}
use Rattle.qc_lock.specs.Vocabulary.{AreIndexed}
use Rattle.qc_lock.proofs.locks.Locks.new.Goals as goal

pub invariant_of-result : goal.invariant_of-result
invariant_of-result c =
    subst (λ (held : List Held). AreIndexed held c.new-2.result.readers c.new-2.result.writers) (sym c.new.ensures)
    (record {
      sound = record { single = tt; full = tt; sorted = tt };
      reads = c.new-2.ensures.readers;
      lines = c.new-2.ensures.writers;
    })
