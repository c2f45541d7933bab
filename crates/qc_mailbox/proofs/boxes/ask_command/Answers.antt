use Rattle.std.proofs.Common.{◌<◌, ◌+◌, arith, length}
use Rattle.qc_mailbox.specs.Vocabulary.{tray_asked, IsPrepared}
use Rattle.qc_mailbox.proofs.Each.{every_weaker}
use Rattle.qc_mailbox.proofs.Room.{asked_set, changed, prepared_less}
use Rattle.qc_mailbox.proofs.boxes.ask_command.Goals as goal

pub returns-then-line-len-clause-trays : goal.returns-then-line-len-clause-trays
returns-then-line-len-clause-trays c =
    let within : c.args.line.now.actor < length c.args.boxes.now.items = omega arith in
    changed c.args.boxes.now.items c.args.line.now.actor c.index_mut.result.now c.ask_command.new.self within
    c.index_mut.ensures.value (λ t. tray_asked t c.args.line.now.command) c.ask_command.ensures.tray

pub returns-then-line-len-clause-prepared : goal.returns-then-line-len-clause-prepared
returns-then-line-len-clause-prepared c = λ room commands all.
    (let within : c.args.line.now.actor < length c.args.boxes.now.items = omega arith in
    asked_set c.args.boxes.now.items c.args.line.now.actor c.index_mut.result.now c.ask_command.new.self within
    c.index_mut.ensures.value c.ask_command.ensures.others c.ask_command.ensures.spare room commands all)

pub returns-else-line-len-clause-prepared : goal.returns-else-line-len-clause-prepared
returns-else-line-len-clause-prepared c = λ room commands all.
    every_weaker (IsPrepared room (commands + 1)) (IsPrepared room commands) c.args.boxes.now.items
    (prepared_less room commands) all
