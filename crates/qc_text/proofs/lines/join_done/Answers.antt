use Rattle.qc_text.proofs.Recorded.{done_nothing}
use Rattle.qc_text.proofs.lines.join_done.Goals as goal

pub returns-in_default : goal.returns-in_default
returns-in_default c = λ before last. done_nothing before c.args.tx c.args.clock c.args.known.now
    (c.in_default.ensures before last)
