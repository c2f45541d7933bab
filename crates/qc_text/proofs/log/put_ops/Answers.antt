use Rattle.std.proofs.Common.{refl, rules}
use Rattle.qc_text.proofs.Sections.{ops_more}
use Rattle.qc_text.proofs.log.put_ops.Goals as goal

pub ops-preserved : goal.ops-preserved
ops-preserved c = (
  search rules,
  ops_more c.args.decl.now c.ops.before.now c.args.ops.now c.ops.op-index _ _ c.ops.page c.put_op.new.page _
      c.ops-test.true refl c.in_ok-put_op.ensures c.ops.invariant.1,
)
