use Rattle.std.proofs.Common.{arith}
use Rattle.qc_plan.proofs.Sums.{total_more}
use Rattle.qc_plan.proofs.quorum.total.Goals as goal

pub loop-weight-preserved : goal.loop-weight-preserved
loop-weight-preserved c = grind (
  arith,
  total_more c.args.weights.now c.loop-weight.weight-index 0
      c.loop-weight-test.true,
)
