use Rattle.std.proofs.Common.{◌≡◌, ◌<◌, ℕ, [], length, take, slice_index_or}
use Rattle.qc_text.specs.Vocabulary.{told_of}
use Rattle.qc_text.proofs.queues.add_replies.Given as goal

abbrev pub invariant-entries : goal.invariant-entries
invariant-entries l = record {
  all : length l.queues ≡ 256;
  told : (a : ℕ) → a < 256 → slice_index_or l.queues a [] ≡ told_of a (take l.entry-index l.entries);
}
