use Rattle.std.proofs.Common.{◌≡◌, ◌+◌, ◌≤◌, ◌++◌, ℕ, length}
use Rattle.std.specs.Prelude.{slice_get, vec_capacity, vec_len}
use Rattle.std.specs.Vec.Iter.{into_iter_items, into_iter_len}
use Rattle.qc_decl.specs.Vocabulary.{actors}
use Rattle.qc_node.proofs.runs.actors_of.Given as goal

-- there is a cell for each pass so far, and the processes of the others are left
abbrev pub invariant-loop-pass : goal.invariant-loop-pass
invariant-loop-pass g l = record {
  can : (goal.iterator-loop-pass g).can_next l.pass-iterator;
  finite : (goal.iterator-loop-pass g).is_finite l.pass-iterator;
  split : l.yielded ++ into_iter_items l.pass-iterator ≡ l.fn.passes.items;
  count : vec_len l.cells ≡ length l.yielded;
  room : actors g.N.RunName.declaration ≤ vec_capacity l.cells;
  many : length l.yielded + into_iter_len l.processes ≡ vec_len l.fn.processes;
  left : (k : ℕ) → slice_get (into_iter_items l.processes) k ≡ slice_get l.fn.processes.items (length l.yielded + k);
}
