use Rattle.std.proofs.Common.{◌≡◌, drop}
use Rattle.qc_accept.specs.Vocabulary.{data_of, read_each, row_in, rows_in, with_read, words_in}
use Rattle.qc_accept.proofs.rows.rows.Given as goal

abbrev pub invariant-loop-item : goal.invariant-loop-item
invariant-loop-item l = rows_in (words_in l.words) (data_of l.items) ≡ read_each
    (with_read (row_in (words_in l.words))) l.rows (drop l.item-index (data_of l.items))
