use Rattle.std.proofs.Common.{◌≡◌, ℕ, length, take}
use Rattle.qc_table.specs.Vocabulary.{grid_next}
use Rattle.qc_table.proofs.Gridded.{step_by}
use Rattle.qc_table.proofs.grid.Grid.new.Given as goal

abbrev pub invariant-loop-row : goal.invariant-loop-row
invariant-loop-row l = record {
  size : length l.grid ≡ 4096;
  each : (state number : ℕ) → grid_next l.grid state number ≡ step_by (take l.row-index l.rows) l.events state number;
}
