use Rattle.std.proofs.Common.{◌<◌, arith, length}
use Rattle.qc_mailbox.specs.Vocabulary.{tray_told}
use Rattle.qc_mailbox.proofs.Room.{changed}
use Rattle.qc_mailbox.proofs.boxes.tell.Goals as goal

pub returns-clause-trays : goal.returns-clause-trays
returns-clause-trays c =
    let within : c.args.actor < length c.args.boxes.now.items = omega arith in
    changed c.args.boxes.now.items c.args.actor c.index_mut.result.now c.tell.new.self within c.index_mut.ensures.value
    tray_told c.tell.ensures.tray
