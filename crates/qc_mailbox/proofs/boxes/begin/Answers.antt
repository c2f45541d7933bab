use Rattle.std.proofs.Common.{◌<◌, ◌∙◌, ap, arith, length, subst, sym}
use Rattle.std.proofs.lemmas.List.{length-set}
use Rattle.qc_mailbox.specs.Vocabulary.{tray_begun, HasRoom, tray}
use Rattle.qc_script.specs.Vocabulary.{is_up}
use Rattle.qc_mailbox.proofs.Changed.{each_on}
use Rattle.qc_mailbox.proofs.Each.{every_get}
use Rattle.qc_mailbox.proofs.Room.{kept_set}
use Rattle.qc_mailbox.proofs.boxes.begin.Goals as goal

pub begin-requires : goal.begin-requires
begin-requires c =
    let within : c.actors.actor < length c.actors.boxes.items = omega (arith, c.actors.invariant.long) in
    subst (HasRoom 0) (sym c.index_mut.ensures.value)
    (every_get (HasRoom 0) c.actors.boxes.items c.actors.actor c.index_mut.result.now
    (c.actors.invariant.kept 0 c.requires.room) within)

pub actors-preserved : goal.actors-preserved
actors-preserved c =
    let within : c.actors.actor < length c.actors.boxes.items = omega (arith, c.actors.invariant.long) in
    let before : c.actors.actor < length c.args.boxes.now.items = omega arith in
    record {
      long = length-set c.actors.boxes.items c.actors.actor c.begin.new.self ∙ c.actors.invariant.long;
      trays = each_on tray (tray_begun c.args.none_left) c.args.up.now c.args.boxes.now.items c.actors.boxes.items
          c.actors.actor c.begin.new.self c.index_mut.result.now before c.actors.invariant.trays
          (c.begin.ensures.tray ∙ (ap (λ u. tray_begun c.args.none_left u (tray c.index_mut.result.now)) c.is_up.ensures
          ∙ ap (λ m. tray_begun c.args.none_left (is_up c.args.up.now c.actors.actor) (tray m))
          c.index_mut.ensures.value));
      kept = λ room all. kept_set c.actors.boxes.items c.actors.actor c.index_mut.result.now c.begin.new.self within
          c.index_mut.ensures.value room c.begin.ensures.used (c.actors.invariant.kept room all);
    }
