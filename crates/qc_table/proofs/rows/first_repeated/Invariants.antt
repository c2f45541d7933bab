use Rattle.std.proofs.Common.{◌≡◌, take, drop}
use Rattle.std.specs.List.{list_any}
use Rattle.qc_table.specs.declared.row.Row.{Row}
use Rattle.qc_table.specs.Vocabulary.{IsSmall, first_repeat, has_case, repeat_after, same_case}
use Rattle.qc_table.proofs.rows.first_repeated.Given as goal

abbrev pub invariant-loop-place : goal.invariant-loop-place
invariant-loop-place l = record {
  repeat : repeat_after (take l.place l.rows) (drop l.place l.rows) ≡ first_repeat l.rows;
  seen : (row : Row) → IsSmall row → has_case l.cases row ≡ list_any (λ r. same_case r row) (take l.place l.rows);
}
