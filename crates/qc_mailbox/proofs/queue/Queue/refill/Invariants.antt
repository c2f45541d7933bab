use Rattle.std.proofs.Common.{◌≡◌, ◌+◌, ◌≤◌, length, take}
use Rattle.qc_mailbox.specs.Vocabulary.{items, spare}
use Rattle.qc_mailbox.proofs.queue.Queue.refill.Given as goal

abbrev pub invariant-loop-item : goal.invariant-loop-item
invariant-loop-item g l = record {
  held : items l.self ≡ take l.item-index l.values;
  fits : length l.values ≤ spare l.self + l.item-index;
}
