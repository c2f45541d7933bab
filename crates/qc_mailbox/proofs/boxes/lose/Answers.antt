use Rattle.std.proofs.Common.{◌<◌, ◌∙◌, ap, arith, length, subst, sym}
use Rattle.std.proofs.lemmas.List.{length-set}
use Rattle.qc_mailbox.specs.Vocabulary.{tray_losing, HasRoom, tray}
use Rattle.qc_mailbox.proofs.Each.{every_get, map_on}
use Rattle.qc_mailbox.proofs.Room.{kept_set}
use Rattle.qc_mailbox.proofs.boxes.lose.Goals as goal

pub lose-requires : goal.lose-requires
lose-requires c =
    let within : c.actors.actor < length c.actors.boxes.items = omega (arith, c.actors.invariant.long) in
    subst (HasRoom 0) (sym c.index_mut.ensures.value)
    (every_get (HasRoom 0) c.actors.boxes.items c.actors.actor c.index_mut.result.now
    (c.actors.invariant.kept 0 c.requires.room) within)

pub actors-preserved : goal.actors-preserved
actors-preserved c =
    let within : c.actors.actor < length c.actors.boxes.items = omega (arith, c.actors.invariant.long) in
    let before : c.actors.actor < length c.args.boxes.now.items = omega arith in
    record {
      long = length-set c.actors.boxes.items c.actors.actor c.lose.new.self ∙ c.actors.invariant.long;
      trays = map_on tray (tray_losing c.args.fallen) c.args.boxes.now.items c.actors.boxes.items c.actors.actor
          c.lose.new.self c.index_mut.result.now before c.actors.invariant.trays
          (c.lose.ensures.tray ∙ ap (λ m. tray_losing c.args.fallen (tray m)) c.index_mut.ensures.value);
      kept = λ room all. kept_set c.actors.boxes.items c.actors.actor c.index_mut.result.now c.lose.new.self within
          c.index_mut.ensures.value room c.lose.ensures.used (c.actors.invariant.kept room all);
    }
