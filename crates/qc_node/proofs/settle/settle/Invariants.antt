use Rattle.std.proofs.Common.{◌≡◌, ◌+◌, length}
use Rattle.std.specs.Prelude.{vec_len, option_copied}
use Rattle.std.specs.Vec.Iter.{into_iter_items}
use Rattle.qc_node.specs.Vocabulary.{IsSettling}
use Rattle.qc_node.proofs.settle.settle.Given as goal

-- the history stays, and the disk of each cell so far went back
abbrev pub invariant-loop-cell : goal.invariant-loop-cell
invariant-loop-cell g l = record {
  can : (goal.iterator-loop-cell g).can_next l.cell-iterator;
  finite : (goal.iterator-loop-cell g).is_finite l.cell-iterator;
  same : l.roll.history ≡ l.initial.roll.history;
  count : length l.yielded + length (into_iter_items l.cell-iterator) ≡ vec_len l.fn.cells.cells;
  settling :
      IsSettling (option_copied l.fn.dir) g.N.RunName.tells g.N.RunName.declaration l.roll.history l.roll.rooms
      (length l.yielded)
      (g.K.Rack.faults l.initial.rack) (g.K.Rack.faults l.rack) (g.K.Rack.places l.rack);
}
