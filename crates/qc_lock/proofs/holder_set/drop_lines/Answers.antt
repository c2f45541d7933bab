use Rattle.std.proofs.Common.{◌<◌, ◌+◌, ◌==◌, ◌&&◌, take, get_or, length, sym, subst, BTreeSet}
use Rattle.std.proofs.lemmas.List.Folds.{list_any_more}
use Rattle.qc_entry.specs.declared.line.OwnLine.{OwnLine}
use Rattle.qc_lock.specs.declared.holder_set.HolderKey.{HolderKey}
use Rattle.qc_lock.specs.Vocabulary.{Narrows, has_line}
use Rattle.qc_lock.proofs.Widening.{narrows_more, narrows_spared, Grows}
use Rattle.qc_lock.proofs.holder_set.drop_lines.Goals as goal
use Rattle.qc_lock.proofs.holder_set.drop_lines.Goals.{then-not-has_line, else-not-has_line}

pub own-preserved : goal.own-preserved
own-preserved c =
    let here : OwnLine = get_or c.args.own.now c.own.line-index (record { op = 0; object = 0; event = 0 }) in
    let within : c.own.line-index < length c.args.own.now = c.own-test.true in
    let more : Grows (has_line (take c.own.line-index c.args.own.now))
    (has_line (take (c.own.line-index + 1) c.args.own.now)) here.object here.event =
    λ a b. list_any_more (λ (l : OwnLine). (l.object == a) && (l.event == b)) c.args.own.now c.own.line-index
    (record { op = 0; object = 0; event = 0 }) within in
    elim c.if-not-has_line.branch [
      | then-not-has_line w ↦
          subst (λ (s : BTreeSet HolderKey). Narrows c.args.places.now s c.args.tx
          (has_line (take (c.own.line-index + 1) c.args.own.now)) (has_line c.args.kept.now)) (sym w.places-is)
          (narrows_more c.args.places.now c.own.places w.drop_place.new.places c.args.tx
          (has_line (take c.own.line-index c.args.own.now)) (has_line (take (c.own.line-index + 1) c.args.own.now))
          (has_line c.args.kept.now)
          here.object here.event (sym w.if-not-has_line.ensures) c.own.invariant w.drop_place.ensures more)
      | else-not-has_line w ↦
          subst (λ (s : BTreeSet HolderKey). Narrows c.args.places.now s c.args.tx
          (has_line (take (c.own.line-index + 1) c.args.own.now)) (has_line c.args.kept.now)) (sym w.places-is)
          (narrows_spared c.args.places.now c.own.places c.args.tx (has_line (take c.own.line-index c.args.own.now))
          (has_line (take (c.own.line-index + 1) c.args.own.now)) (has_line c.args.kept.now)
          here.object here.event (sym w.if-not-has_line.ensures) c.own.invariant more)
    ]
