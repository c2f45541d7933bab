use Rattle.std.proofs.Common.{◌≡◌, ℕ, length, map, take}
use Rattle.std.specs.List.{AllByRecursion as Every}
use Rattle.qc_mailbox.specs.Vocabulary.{HasRoom, tray}
use Rattle.qc_mailbox.proofs.boxes.reserve.Given as goal
use Rattle.qc_link.specs.Vocabulary.{most_actors}

abbrev pub invariant-actors : goal.invariant-actors
invariant-actors l = record {
  long : length l.boxes.items ≡ most_actors;
  same : map tray l.boxes.items ≡ map tray l.initial.boxes.items;
  kept : (room : ℕ) → Every (HasRoom room) l.initial.boxes.items → Every (HasRoom room) l.boxes.items;
  done : Every (HasRoom l.room) (take l.actor l.boxes.items);
}
