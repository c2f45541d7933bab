use Rattle.std.proofs.Common.{◌<◌, arith, length}
use Rattle.qc_mailbox.specs.Vocabulary.{tray_comes}
use Rattle.qc_mailbox.proofs.Room.{changed, used_set}
use Rattle.qc_mailbox.proofs.boxes.come.Goals as goal

pub returns-clause-trays : goal.returns-clause-trays
returns-clause-trays c =
    let within : c.args.to < length c.args.boxes.now.items = omega arith in
    changed c.args.boxes.now.items c.args.to c.index_mut.result.now c.come.new.self within c.index_mut.ensures.value
    (λ t. tray_comes c.args.up t c.args.number c.args.message.now c.args.fate) c.come.ensures.tray

pub returns-clause-room : goal.returns-clause-room
returns-clause-room c = λ room all.
    (let within : c.args.to < length c.args.boxes.now.items = omega arith in
    used_set c.args.boxes.now.items c.args.to c.index_mut.result.now c.come.new.self within c.index_mut.ensures.value 3
    room c.come.ensures.used all)
