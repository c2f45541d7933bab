use Rattle.std.proofs.Common.{◌≡◌, ℕ, take}
use Rattle.std.specs.Prelude.{◌&&◌}
use Rattle.qc_table.specs.Vocabulary.{event, events_of, has}
use Rattle.qc_table.proofs.Legal.{is_legal}
use Rattle.qc_table.proofs.Numbered.{is_among}
use Rattle.qc_table.proofs.table.Table.responses.Given as goal

abbrev pub invariant-loop-number : goal.invariant-loop-number
invariant-loop-number l = (k : ℕ) → has l.responses k ≡
    (is_among (event l.inv k) (take l.number (events_of l.self.rows)) && is_legal l.self.rows l.state (event l.inv k))
