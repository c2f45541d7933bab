use Rattle.std.proofs.Common.{◌≡◌, length, map, take}
use Rattle.std.specs.List.{AllByRecursion as Every}
use Rattle.qc_mailbox.specs.Vocabulary.{HasRoom, IsPrepared, tray}
use Rattle.qc_mailbox.proofs.boxes.prepare.Given as goal
use Rattle.qc_link.specs.Vocabulary.{most_actors}

abbrev pub invariant-actors : goal.invariant-actors
invariant-actors l = record {
  long : length l.boxes.items ≡ most_actors;
  same : map tray l.boxes.items ≡ map tray l.initial.boxes.items;
  kept : Every (HasRoom l.room) l.boxes.items;
  done : Every (IsPrepared l.room l.commands) (take l.actor l.boxes.items);
}
