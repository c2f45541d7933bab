use Rattle.std.specs.Prelude.{option_copied}
use Rattle.std.proofs.Common.{◌≡◌, ◌++◌, length}
use Rattle.std.specs.Vec.Iter.{into_iter_items}
use Rattle.qc_node.specs.Vocabulary.{IsGivenBack}
use Rattle.qc_node.proofs.processes.give_back.Given as goal

-- the disks of those so far came back
abbrev pub invariant-loop-process : goal.invariant-loop-process
invariant-loop-process g l = record {
  can : (goal.iterator-loop-process g).can_next l.process-iterator;
  finite : (goal.iterator-loop-process g).is_finite l.process-iterator;
  split : l.yielded ++ into_iter_items l.process-iterator ≡ l.fn.each.items;
  back :
      IsGivenBack (option_copied l.fn.dir) (length l.yielded) (g.K.Rack.places l.initial.rack)
      (g.K.Rack.faults l.initial.rack) (g.K.Rack.places l.rack) (g.K.Rack.faults l.rack);
}
