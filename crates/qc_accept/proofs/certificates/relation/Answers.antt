use Rattle.std.proofs.Common.{◌≡◌, ◌<◌, List, Option, Some, None, ap, sym, subst, ◌∙◌}
use Rattle.std.specs.Prelude.{All, IfSome, option_map}
use Rattle.std.proofs.lemmas.List.Elements.{All-push}
use Rattle.std.proofs.lemmas.Result.{err_from_is_err_and}
use Rattle.qc_table.specs.Vocabulary.{relation_of}
use Rattle.qc_table.specs.declared.relation.Pair.{Pair}
use Rattle.qc_decl.specs.Vocabulary.{most_events, most_invocations}
use Rattle.qc_accept.specs.Vocabulary.{events_in, pair_in, words_in}
use Rattle.qc_accept.proofs.ListTexts.{takes, no_text, no_item}
use Rattle.qc_accept.proofs.certificates.relation.Goals as goal

pub returns-in_err-text : goal.returns-in_err-text
returns-in_err-text c =
    let told = err_from_is_err_and c.from_residual.result c.from_residual.ensures.1 in
    rw (told.1, told.2) (λ form.
    ap (option_map relation_of)
    (no_text (pair_in (words_in c.args.words.now) (events_in c.args.events.now)) c.loop-item.pairs c.args.items.now
    c.loop-item.item-index c.item-item.result _
    c.loop-item-test.true c.item-item.is (c.in_err-text.ensures form) c.loop-item.invariant.reads))

pub returns-in_err-ok_or : goal.returns-in_err-ok_or
returns-in_err-ok_or c =
    let told = err_from_is_err_and c.from_residual-in_err-ok_or.result c.from_residual-in_err-ok_or.ensures.1 in
    let none : c.pair.result ≡ None = c.in_err-ok_or.ensures.ok_part in
    rw (told.1, told.2) (λ form.
    ap (option_map relation_of)
    (no_item (pair_in (words_in c.args.words.now) (events_in c.args.events.now)) c.loop-item.pairs c.args.items.now
    c.loop-item.item-index c.item-item.result c.in_ok-text.field-0.now _
    c.loop-item-test.true c.item-item.is c.in_ok-text.ensures
    (sym c.pair.ensures.pair ∙ none) c.loop-item.invariant.reads))

pub loop-item-preserved : goal.loop-item-preserved
loop-item-preserved c =
    let some : c.pair.result ≡ Some c.in_ok-ok_or.field-0 = c.in_ok-ok_or.ensures.ok_part in
    record {
      reads = takes (pair_in (words_in c.args.words.now) (events_in c.args.events.now)) c.loop-item.pairs
          c.push.new.self c.args.items.now c.loop-item.item-index c.item-item.result
          c.in_ok-text.field-0.now c.in_ok-ok_or.field-0 _ c.loop-item-test.true c.item-item.is c.in_ok-text.ensures
          (sym c.pair.ensures.pair ∙ some) c.in_ok-push.ensures.ok c.loop-item.invariant.reads;
      within = subst (λ (ps : List Pair). All (λ (p : Pair). (p.inv < most_invocations) × (p.event < most_events)) ps)
          (sym c.in_ok-push.ensures.ok)
          (All-push (λ (p : Pair). (p.inv < most_invocations) × (p.event < most_events)) c.loop-item.pairs
          c.in_ok-ok_or.field-0 c.loop-item.invariant.within
          (subst (λ (o : Option Pair). IfSome o (λ p. (p.inv < most_invocations) × (p.event < most_events))) some
          c.pair.ensures.within));
    }
