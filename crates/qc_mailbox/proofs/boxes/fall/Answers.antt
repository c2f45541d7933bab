use Rattle.std.proofs.Common.{◌<◌, arith, length}
use Rattle.qc_mailbox.specs.Vocabulary.{tray_emptied}
use Rattle.qc_mailbox.proofs.Room.{changed, kept_set}
use Rattle.qc_mailbox.proofs.boxes.fall.Goals as goal

pub returns-clause-trays : goal.returns-clause-trays
returns-clause-trays c =
    let within : c.args.actor < length c.args.boxes.now.items = omega arith in
    changed c.args.boxes.now.items c.args.actor c.index_mut.result.now c.fall.new.self within c.index_mut.ensures.value
    tray_emptied c.fall.ensures.tray

pub returns-clause-room : goal.returns-clause-room
returns-clause-room c = λ room all.
    (let within : c.args.actor < length c.args.boxes.now.items = omega arith in
    kept_set c.args.boxes.now.items c.args.actor c.index_mut.result.now c.fall.new.self within c.index_mut.ensures.value
    room c.fall.ensures.used all)
