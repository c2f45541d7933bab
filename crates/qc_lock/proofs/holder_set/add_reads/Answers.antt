use Rattle.std.proofs.Common.{rules, ◌≡◌, ◌<◌, ◌==◌, ◌&&◌, true, false, is_ok, take, get_or, length, List, ◌+◌, sym}
use Rattle.std.proofs.Common.{subst}
use Rattle.std.proofs.lemmas.List.{take_all}
use Rattle.std.proofs.lemmas.List.Folds.{list_any_more}
use Rattle.qc_entry.specs.declared.line.ReadLock.{ReadLock}
use Rattle.qc_lock.specs.Vocabulary.{Widens, has_read}
use Rattle.qc_lock.proofs.Widening.{part_passes, widens_more, widens_none, widens_part}
use Rattle.qc_lock.proofs.holder_set.add_reads.Goals as goal

pub locks-init : goal.locks-init
locks-init c = widens_none c.args.places.now c.args.tx

pub returns-in_err-add_place : goal.returns-in_err-add_place
returns-in_err-add_place c =
    let failed : is_ok c.from_residual.result ≡ false = search rules in
    subst (Widens c.args.places.now c.add_place.new.places c.args.tx (has_read c.args.locks.now)) (sym failed)
    (widens_part c.args.places.now c.locks.places c.add_place.new.places c.args.tx
    (has_read (take c.locks.lock-index c.args.locks.now)) (has_read c.args.locks.now)
    c.locks.invariant c.in_err-add_place.ensures.err
    (λ a b. part_passes (λ (l : ReadLock). (l.object == a) && (l.inv == b)) c.locks.lock-index c.args.locks.now))

pub locks-preserved : goal.locks-preserved
locks-preserved c =
    let here : ReadLock = get_or c.args.locks.now c.locks.lock-index (record { object = 0; inv = 0 }) in
    let small : here.inv < 256 = c.in_ok-add_place.ensures.small in
    let within : c.locks.lock-index < length c.args.locks.now = c.locks-test.true in
    widens_more c.args.places.now c.locks.places c.add_place.new.places c.args.tx
    (has_read (take c.locks.lock-index c.args.locks.now))
    (has_read (take (c.locks.lock-index + 1) c.args.locks.now))
    here.object here.inv small c.locks.invariant c.in_ok-add_place.ensures.ok
    (λ a b. list_any_more (λ (l : ReadLock). (l.object == a) && (l.inv == b)) c.args.locks.now c.locks.lock-index
    (record { object = 0; inv = 0 }) within)

pub returns : goal.returns
returns c = subst (λ (ls : List ReadLock). Widens c.args.places.now c.locks.places c.args.tx (has_read ls) true)
    (take_all c.locks.lock-index c.args.locks.now c.locks-test.false) c.locks.invariant
