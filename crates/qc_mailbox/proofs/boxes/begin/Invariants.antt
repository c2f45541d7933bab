use Rattle.std.proofs.Common.{◌≡◌, ◌++◌, ℕ, drop, length, map, take}
use Rattle.std.specs.List.{AllByRecursion as Every}
use Rattle.qc_mailbox.specs.Vocabulary.{each_by_up, tray_begun, HasRoom, tray}
use Rattle.qc_mailbox.proofs.boxes.begin.Given as goal
use Rattle.qc_link.specs.Vocabulary.{most_actors}

abbrev pub invariant-actors : goal.invariant-actors
invariant-actors l = record {
  long : length l.boxes.items ≡ most_actors;
  trays : map tray l.boxes.items ≡ each_by_up (tray_begun l.none_left) l.up
      (map tray (take l.actor l.initial.boxes.items)) ++ map tray (drop l.actor l.initial.boxes.items);
  kept : (room : ℕ) → Every (HasRoom room) l.initial.boxes.items → Every (HasRoom room) l.boxes.items;
}
