use Rattle.std.proofs.Common.{◌≡◌, ◌+◌, ◌≤◌, ◌++◌, length}
use Rattle.qc_mailbox.specs.Vocabulary.{items, spare}
use Rattle.qc_mailbox.proofs.queue.Queue.prepend.Given as goal

abbrev pub invariant-items : goal.invariant-items
invariant-items g l = record {
  moved : items l.other ++ items l.self ≡ items l.initial.other ++ items l.initial.self;
  fits : length (items l.other) ≤ spare l.self;
  used : spare l.initial.self + length (items l.other) ≤ spare l.self + length (items l.initial.other);
  other : spare l.initial.other ≤ spare l.other;
}

abbrev pub decreases-items : goal.decreases-items
decreases-items g l = length (items l.other)
