use Rattle.std.proofs.Common.{◌≡◌, List, length, ap, map, sym, ◌∙◌}
use Rattle.std.specs.Prelude.{[], fold}
use Rattle.std.proofs.lemmas.List.{drop_all}
use Rattle.qc_promise.specs.Vocabulary.{Holding}
use Rattle.qc_text.specs.Vocabulary.{deed_of, held_by, holders_from, holders_with, parted, promised_at}
use Rattle.qc_text.specs.declared.deeds.Deed.{Deed}
use Rattle.qc_text.proofs.Promised.{holders_counted}
use Rattle.qc_text.proofs.grants.count_holders.Goals as goal

pub returns : goal.returns
returns c =
    let known = c.deeds.invariant in
    let kept = c.args.current.now.kept.now in
    let parts = c.holding_of-holding.result in
    let walked : known.0 ≡ holders_from (fold promised_at (fold holders_with [] kept) (map deed_of parts.before.now))
    (map deed_of parts.since.now) =
    ap (λ (ds : List Deed). holders_from known.0 (map deed_of ds))
    (sym (drop_all c.deeds.place parts.since.now c.deeds-test.false)) ∙ known.2 in
    c.count.ensures known.0 known.1 ∙ ap length walked ∙ holders_counted kept (parted parts)
    ∙ ap (λ (h : Holding). length (held_by kept h)) c.holding_of-holding.ensures
