use Rattle.std.proofs.Common.{◌≡◌, ◌+◌, length}
use Rattle.std.specs.Prelude.{is_some, option_copied}
use Rattle.std.specs.Vec.Iter.{into_iter_items}
use Rattle.qc_node.specs.Vocabulary.{AreUnwritten, IsBackFrom}
use Rattle.qc_node.proofs.processes.give_back_disks.Given as goal

-- so many disks came back, from the first actor's on, and the others are left
abbrev pub invariant-loop-disk : goal.invariant-loop-disk
invariant-loop-disk g l = record {
  can : (goal.iterator-loop-disk g).can_next l.disk-iterator;
  finite : (goal.iterator-loop-disk g).is_finite l.disk-iterator;
  count : length l.yielded + length (into_iter_items l.disk-iterator) ≡ length (into_iter_items l.fn.disks);
  number : l.actor ≡ l.first + length l.yielded;
  unwritten :
      AreUnwritten (is_some (g.K.Rack.places l.initial.rack)) g.K.D.Disk.told g.K.D.Disk.faults
      (into_iter_items l.disk-iterator);
  back :
      IsBackFrom (option_copied l.fn.dir) l.first (length l.yielded) (g.K.Rack.places l.initial.rack)
      (g.K.Rack.faults l.initial.rack) (g.K.Rack.places l.rack) (g.K.Rack.faults l.rack);
}
