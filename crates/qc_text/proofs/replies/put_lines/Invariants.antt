use Rattle.std.proofs.Common.{◌≡◌, ◌<◌, ◌++◌, ℕ, [], length, take, drop, slice_index_or}
use Rattle.qc_text.specs.Vocabulary.{asked, reply_lines, told_of}
use Rattle.qc_text.proofs.replies.put_lines.Given as goal

abbrev pub invariant-commands : goal.invariant-commands
invariant-commands l = record {
  all : length l.queues ≡ 256;
  left : (a : ℕ) → a < 256 → slice_index_or l.queues a [] ≡ drop (asked a (take l.line-index l.commands))
      (told_of a l.entries);
  text : l.page ++ reply_lines l.decl l.entries (take l.line-index l.commands) (drop l.line-index l.commands)
      ≡ l.initial.page ++ reply_lines l.decl l.entries [] l.commands;
}
