use Rattle.qc_record.proofs.Logs.{one_more}
use Rattle.qc_record.proofs.line.log_of.Goals as goal

pub loop-line-preserved : goal.loop-line-preserved
loop-line-preserved c = one_more c.args.lines.now c.loop-line.line-index _ c.loop-line.log c.add.new.self c.requires
    c.loop-line-test.true c.loop-line.invariant c.in_ok-add.ensures.ok
