use Rattle.std.proofs.Common.{◌≡◌, ◌-◌, drop, length, map}
use Rattle.std.specs.List.{AllByRecursion as Every}
use Rattle.qc_mailbox.specs.Vocabulary.{with_commands, IsPrepared, tray}
use Rattle.qc_mailbox.proofs.boxes.ask_commands.Given as goal

abbrev pub invariant-lines : goal.invariant-lines
invariant-lines l = record {
  trays : with_commands (map tray l.boxes.items) (drop l.line-index l.lines) ≡ with_commands
      (map tray l.initial.boxes.items) l.lines;
  prepared : Every (IsPrepared l.room (length l.lines - l.line-index)) l.boxes.items;
  long : length l.boxes.items ≡ length l.initial.boxes.items;
}
