use Rattle.std.proofs.Common.{refl, sym, ◌∙◌}
use Rattle.theory_onecopy.proofs.Missing.{op_missing}
use Rattle.theory_onecopy.proofs.states.replay_ops.Goals as goal

pub returns-then-not-replay_op : goal.returns-then-not-replay_op
returns-then-not-replay_op c =
    sym c.ops.invariant ∙ op_missing c.args.decl.now c.ops.states c.args.ops.now c.ops.op-index _ _ c.ops-test.true refl
    c.if-not-replay_op.ensures
