use Rattle.std.proofs.Common.{◌≡◌, ℕ, [], length, slice_index_or}
use Rattle.qc_text.proofs.queues.empty_queues.Given as goal

abbrev pub invariant-queues : goal.invariant-queues
invariant-queues l = record {
  all : length l.queues.items ≡ l._actor;
  empty : (a : ℕ) → slice_index_or l.queues.items a [] ≡ [];
}
