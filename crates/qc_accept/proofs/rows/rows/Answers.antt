use Rattle.std.proofs.Common.{◌≡◌, Some, None, sym, ◌∙◌}
use Rattle.std.proofs.lemmas.Result.{err_from_is_err_and}
use Rattle.qc_accept.specs.Vocabulary.{row_in, words_in}
use Rattle.qc_accept.proofs.ListTexts.{takes, no_text, no_item}
use Rattle.qc_accept.proofs.rows.rows.Goals as goal

pub returns-in_err-text : goal.returns-in_err-text
returns-in_err-text c =
    let told = err_from_is_err_and c.from_residual.result c.from_residual.ensures.1 in
    rw (told.1, told.2) (λ form.
    no_text (row_in (words_in c.args.words.now)) c.loop-item.rows c.args.items.now c.loop-item.item-index
    c.item-item.result _
    c.loop-item-test.true c.item-item.is (c.in_err-text.ensures form) c.loop-item.invariant)

pub returns-in_err-ok_or : goal.returns-in_err-ok_or
returns-in_err-ok_or c =
    let told = err_from_is_err_and c.from_residual-in_err-ok_or.result c.from_residual-in_err-ok_or.ensures.1 in
    let none : c.row.result ≡ None = c.in_err-ok_or.ensures.ok_part in
    rw (told.1, told.2) (λ form.
    no_item (row_in (words_in c.args.words.now)) c.loop-item.rows c.args.items.now c.loop-item.item-index
    c.item-item.result c.in_ok-text.field-0.now _
    c.loop-item-test.true c.item-item.is c.in_ok-text.ensures (sym c.row.ensures ∙ none) c.loop-item.invariant)

pub loop-item-preserved : goal.loop-item-preserved
loop-item-preserved c =
    let some : c.row.result ≡ Some c.in_ok-ok_or.field-0 = c.in_ok-ok_or.ensures.ok_part in
    takes (row_in (words_in c.args.words.now)) c.loop-item.rows c.push.new.self c.args.items.now c.loop-item.item-index
    c.item-item.result
    c.in_ok-text.field-0.now c.in_ok-ok_or.field-0 _ c.loop-item-test.true c.item-item.is c.in_ok-text.ensures
    (sym c.row.ensures ∙ some) c.in_ok-push.ensures.ok c.loop-item.invariant
