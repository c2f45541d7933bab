use Rattle.std.proofs.Common.{◌++◌, List, Ok, ap, sym, ◌∙◌}
use Rattle.std.specs.Prelude.{codes}
use Rattle.std.proofs.lemmas.Result.{err_from_is_err_and}
use Rattle.qc_table.specs.declared.row.Row.{Row}
use Rattle.qc_decl.specs.Vocabulary.{most_rows}
use Rattle.qc_accept.specs.Vocabulary.{Answer, data_of, items, path_in, rows, rows_in, table_in, words_in}
use Rattle.qc_accept.proofs.Told.{then_answers, then_err, then_ok, told_err, told_ok}
use Rattle.qc_accept.proofs.TypeFields.{few_rows}
use Rattle.qc_accept.proofs.kinds.read_table.Goals as goal

pub table_of-requires-clause-rows : goal.table_of-requires-clause-rows
table_of-requires-clause-rows c =
    few_rows (path_in c.args.fields.now) (table_in c.args.fields.now) (words_in c.args.words.now)
    (data_of c.in_ok-items.items.now) c.items-2.result.now c.in_ok-items.ensures
    ((told_ok (λ rows. rows) (path_in c.args.fields.now ++ codes "rows")
    (rows_in (words_in c.args.words.now) (data_of c.in_ok-items.items.now)) c.rows.result c.in_ok-rows.rows
    c.rows.ensures c.in_ok-rows.ensures) ∙ ap (λ (rs : List Row). let answer : Answer (List Row) = Ok rs in answer)
    (sym c.items-2.ensures))

pub returns-in_err-items : goal.returns-in_err-items
returns-in_err-items c =
    let out = err_from_is_err_and c.from_residual.result c.from_residual.ensures.1 in
    rw (out.1, out.2) (then_err (rows (path_in c.args.fields.now) (table_in c.args.fields.now)
    (words_in c.args.words.now)) _ _ (then_err
    (items (path_in c.args.fields.now) (table_in c.args.fields.now) (codes "rows") 0 most_rows) _ _
    c.in_err-items.ensures))

pub returns-in_err-rows : goal.returns-in_err-rows
returns-in_err-rows c =
    let out = err_from_is_err_and c.from_residual-in_err-rows.result c.from_residual-in_err-rows.ensures.1 in
    rw (out.1, out.2) (then_err (rows (path_in c.args.fields.now) (table_in c.args.fields.now)
    (words_in c.args.words.now)) _ _ (λ apart.
    then_ok (items (path_in c.args.fields.now) (table_in c.args.fields.now) (codes "rows") 0 most_rows) _
    (data_of c.in_ok-items.items.now) _ c.in_ok-items.ensures
    (told_err (λ rows. rows) (path_in c.args.fields.now ++ codes "rows")
    (rows_in (words_in c.args.words.now) (data_of c.in_ok-items.items.now)) c.rows.result _ c.rows.ensures
    c.in_err-rows.ensures apart)))

pub returns : goal.returns
returns c =
    then_answers (λ table. table) c.table_of.result
    (rows (path_in c.args.fields.now) (table_in c.args.fields.now) (words_in c.args.words.now)) _
    c.items-2.result.now
    (then_ok (items (path_in c.args.fields.now) (table_in c.args.fields.now) (codes "rows") 0 most_rows) _
    (data_of c.in_ok-items.items.now) _ c.in_ok-items.ensures
    ((told_ok (λ rows. rows) (path_in c.args.fields.now ++ codes "rows")
    (rows_in (words_in c.args.words.now) (data_of c.in_ok-items.items.now)) c.rows.result c.in_ok-rows.rows
    c.rows.ensures c.in_ok-rows.ensures) ∙ ap (λ (rs : List Row). let answer : Answer (List Row) = Ok rs in answer)
    (sym c.items-2.ensures)))
    c.table_of.ensures
