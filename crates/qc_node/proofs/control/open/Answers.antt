use Rattle.std.proofs.Common.{rules}
use Rattle.std.proofs.lemmas.Result.{on_err_weaker}
use Rattle.qc_process.specs.Vocabulary.{HasRisen, bodies_of}
use Rattle.qc_node.proofs.control.open.Goals as goal

-- the journal of a process that rose was opened, and closed again
pub returns-in-Ok-Rose-clause-err : goal.returns-in-Ok-Rose-clause-err
returns-in-Ok-Rose-clause-err g c =
    let risen : HasRisen c.args.decl.now c.args.process.now c.open.new.self c.in-Ok-Rose.records c.in-Ok-Rose.turn =
    search rules in
    on_err_weaker c.make_room.result
    (λ closed. (
      closed.is_down,
      λ tells a h is. closed.on_disk tells c.args.decl.now a h
          (bodies_of c.in-Ok-Rose.records) (risen.opened tells a h is),
    ))
    c.make_room.ensures.err
