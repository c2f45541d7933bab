use Rattle.std.proofs.Common.{◌<◌, arith, length}
use Rattle.qc_mailbox.specs.Vocabulary.{tray_goes}
use Rattle.qc_mailbox.proofs.Room.{changed, used_set}
use Rattle.qc_mailbox.proofs.boxes.go.Goals as goal

pub returns-clause-trays : goal.returns-clause-trays
returns-clause-trays c =
    let within : c.args.from < length c.args.boxes.now.items = omega arith in
    changed c.args.boxes.now.items c.args.from c.index_mut.result.now c.go.new.self within c.index_mut.ensures.value
    (λ t. tray_goes c.args.up t c.args.number c.args.to c.args.message.now c.args.fate) c.go.ensures.tray

pub returns-clause-room : goal.returns-clause-room
returns-clause-room c = λ room all.
    (let within : c.args.from < length c.args.boxes.now.items = omega arith in
    used_set c.args.boxes.now.items c.args.from c.index_mut.result.now c.go.new.self within c.index_mut.ensures.value 1
    room c.go.ensures.used all)
