use Rattle.std.proofs.Common.{◌<◌, ◌+◌, ◌==◌, ◌&&◌, take, get_or, length, sym, subst, BTreeSet}
use Rattle.std.proofs.lemmas.List.Folds.{list_any_more}
use Rattle.qc_entry.specs.declared.line.ReadLock.{ReadLock}
use Rattle.qc_lock.specs.declared.holder_set.HolderKey.{HolderKey}
use Rattle.qc_lock.specs.Vocabulary.{Narrows, has_read}
use Rattle.qc_lock.proofs.Widening.{narrows_more, narrows_spared, Grows}
use Rattle.qc_lock.proofs.holder_set.drop_reads.Goals as goal
use Rattle.qc_lock.proofs.holder_set.drop_reads.Goals.{then-not-has_read, else-not-has_read}

pub locks-preserved : goal.locks-preserved
locks-preserved c =
    let here : ReadLock = get_or c.args.locks.now c.locks.lock-index (record { object = 0; inv = 0 }) in
    let within : c.locks.lock-index < length c.args.locks.now = c.locks-test.true in
    let more : Grows (has_read (take c.locks.lock-index c.args.locks.now))
    (has_read (take (c.locks.lock-index + 1) c.args.locks.now)) here.object here.inv =
    λ a b. list_any_more (λ (l : ReadLock). (l.object == a) && (l.inv == b)) c.args.locks.now c.locks.lock-index
    (record { object = 0; inv = 0 }) within in
    elim c.if-not-has_read.branch [
      | then-not-has_read w ↦
          subst (λ (s : BTreeSet HolderKey). Narrows c.args.places.now s c.args.tx
          (has_read (take (c.locks.lock-index + 1) c.args.locks.now)) (has_read c.args.kept.now)) (sym w.places-is)
          (narrows_more c.args.places.now c.locks.places w.drop_place.new.places c.args.tx
          (has_read (take c.locks.lock-index c.args.locks.now))
          (has_read (take (c.locks.lock-index + 1) c.args.locks.now)) (has_read c.args.kept.now)
          here.object here.inv (sym w.if-not-has_read.ensures) c.locks.invariant w.drop_place.ensures more)
      | else-not-has_read w ↦
          subst (λ (s : BTreeSet HolderKey). Narrows c.args.places.now s c.args.tx
          (has_read (take (c.locks.lock-index + 1) c.args.locks.now)) (has_read c.args.kept.now)) (sym w.places-is)
          (narrows_spared c.args.places.now c.locks.places c.args.tx
          (has_read (take c.locks.lock-index c.args.locks.now))
          (has_read (take (c.locks.lock-index + 1) c.args.locks.now)) (has_read c.args.kept.now)
          here.object here.inv (sym w.if-not-has_read.ensures) c.locks.invariant more)
    ]
