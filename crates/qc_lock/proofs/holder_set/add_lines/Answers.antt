use Rattle.std.proofs.Common.{rules, ◌≡◌, ◌<◌, ◌==◌, ◌&&◌, true, false, is_ok, take, get_or, length, List, ◌+◌, sym}
use Rattle.std.proofs.Common.{subst}
use Rattle.std.proofs.lemmas.List.{take_all}
use Rattle.std.proofs.lemmas.List.Folds.{list_any_more}
use Rattle.qc_entry.specs.declared.line.OwnLine.{OwnLine}
use Rattle.qc_lock.specs.Vocabulary.{Widens, has_line}
use Rattle.qc_lock.proofs.Widening.{part_passes, widens_more, widens_none, widens_part}
use Rattle.qc_lock.proofs.holder_set.add_lines.Goals as goal

pub own-init : goal.own-init
own-init c = widens_none c.args.places.now c.args.tx

pub returns-in_err-add_place : goal.returns-in_err-add_place
returns-in_err-add_place c =
    let failed : is_ok c.from_residual.result ≡ false = search rules in
    subst (Widens c.args.places.now c.add_place.new.places c.args.tx (has_line c.args.own.now)) (sym failed)
    (widens_part c.args.places.now c.own.places c.add_place.new.places c.args.tx
    (has_line (take c.own.line-index c.args.own.now)) (has_line c.args.own.now)
    c.own.invariant c.in_err-add_place.ensures.err
    (λ a b. part_passes (λ (l : OwnLine). (l.object == a) && (l.event == b)) c.own.line-index c.args.own.now))

pub own-preserved : goal.own-preserved
own-preserved c =
    let here : OwnLine = get_or c.args.own.now c.own.line-index (record { op = 0; object = 0; event = 0 }) in
    let small : here.event < 256 = c.in_ok-add_place.ensures.small in
    let within : c.own.line-index < length c.args.own.now = c.own-test.true in
    widens_more c.args.places.now c.own.places c.add_place.new.places c.args.tx
    (has_line (take c.own.line-index c.args.own.now)) (has_line (take (c.own.line-index + 1) c.args.own.now))
    here.object here.event small c.own.invariant c.in_ok-add_place.ensures.ok
    (λ a b. list_any_more (λ (l : OwnLine). (l.object == a) && (l.event == b)) c.args.own.now c.own.line-index
    (record { op = 0; object = 0; event = 0 }) within)

pub returns : goal.returns
returns c = subst (λ (ls : List OwnLine). Widens c.args.places.now c.own.places c.args.tx (has_line ls) true)
    (take_all c.own.line-index c.args.own.now c.own-test.false) c.own.invariant
