use Rattle.std.proofs.Common.{◌≡◌, List, Some, None, All, length, sym, subst, ◌∙◌}
use Rattle.std.proofs.lemmas.List.Elements.{All-push}
use Rattle.std.proofs.lemmas.Result.{err_from_is_err_and}
use Rattle.qc_cert.specs.declared.triple.Triple.{Triple}
use Rattle.qc_accept.specs.Vocabulary.{data_of, events_in, names_in, triple_in, words_in}
use Rattle.qc_accept.proofs.Alike.{AreLow, low_at, no_triples}
use Rattle.qc_accept.proofs.ListTexts.{takes, no_text, no_item}
use Rattle.qc_accept.proofs.certificates.triples.Goals as goal

pub returns-in_err-text : goal.returns-in_err-text
returns-in_err-text c =
    let told = err_from_is_err_and c.from_residual.result c.from_residual.ensures.1 in
    rw (told.1, told.2) (λ form.
    no_triples (words_in c.args.words.now) (events_in c.args.events.now) (data_of c.args.items.now)
    (no_text (triple_in (words_in c.args.words.now) (events_in c.args.events.now)) c.loop-item.triples c.args.items.now
    c.loop-item.item-index c.item-item.result _
    c.loop-item-test.true c.item-item.is (c.in_err-text.ensures form) c.loop-item.invariant.reads))

pub returns-in_err-ok_or : goal.returns-in_err-ok_or
returns-in_err-ok_or c =
    let told = err_from_is_err_and c.from_residual-in_err-ok_or.result c.from_residual-in_err-ok_or.ensures.1 in
    let none : c.triple.result ≡ None = c.in_err-ok_or.ensures.ok_part in
    rw (told.1, told.2) (λ form.
    no_triples (words_in c.args.words.now) (events_in c.args.events.now) (data_of c.args.items.now)
    (no_item (triple_in (words_in c.args.words.now) (events_in c.args.events.now)) c.loop-item.triples c.args.items.now
    c.loop-item.item-index c.item-item.result c.in_ok-text.field-0.now _
    c.loop-item-test.true c.item-item.is c.in_ok-text.ensures
    (sym c.triple.ensures.triple ∙ none) c.loop-item.invariant.reads))

pub loop-item-preserved : goal.loop-item-preserved
loop-item-preserved c =
    let some : c.triple.result ≡ Some c.in_ok-ok_or.field-0 = c.in_ok-ok_or.ensures.ok_part in
    record {
      reads = takes (triple_in (words_in c.args.words.now) (events_in c.args.events.now)) c.loop-item.triples
          c.push.new.self c.args.items.now c.loop-item.item-index c.item-item.result
          c.in_ok-text.field-0.now c.in_ok-ok_or.field-0 _ c.loop-item-test.true c.item-item.is c.in_ok-text.ensures
          (sym c.triple.ensures.triple ∙ some) c.in_ok-push.ensures.ok c.loop-item.invariant.reads;
      within = subst (λ (ts : List Triple). All AreLow ts) (sym c.in_ok-push.ensures.ok)
          (All-push AreLow c.loop-item.triples c.in_ok-ok_or.field-0 c.loop-item.invariant.within
          (low_at c.triple.result c.in_ok-ok_or.field-0
          (length (names_in c.args.words.now.states)) some c.triple.ensures.within c.requires.words.states));
    }
