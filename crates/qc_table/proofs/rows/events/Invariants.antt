use Rattle.std.proofs.Common.{◌≡◌, ◌≤◌, length, drop}
use Rattle.std.specs.List.{fold}
use Rattle.qc_table.specs.Vocabulary.{event_of, events_of, with_event}
use Rattle.qc_table.proofs.rows.events.Given as goal

abbrev pub invariant-loop-row : goal.invariant-loop-row
invariant-loop-row l = record {
  folded : fold (λ events row. with_event events (event_of row)) l.events (drop l.row-index l.rows) ≡ events_of l.rows;
  few : length l.events ≤ 64;
}
