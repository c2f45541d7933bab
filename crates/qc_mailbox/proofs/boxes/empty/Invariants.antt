use Rattle.std.proofs.Common.{◌≡◌, map, replicate}
use Rattle.std.specs.List.{AllByRecursion as Every}
use Rattle.qc_mailbox.specs.Vocabulary.{empty_tray, HasRoom, tray}
use Rattle.qc_mailbox.proofs.boxes.empty.Given as goal

abbrev pub invariant-actors : goal.invariant-actors
invariant-actors l = record {
  trays : map tray l.boxes.items ≡ replicate l.counter empty_tray;
  room : Every (HasRoom 0) l.boxes.items;
}
