use Rattle.std.proofs.Common.{◌≡◌, Some, drop}
use Rattle.std.specs.Prelude.{fold}
use Rattle.theory_onecopy.specs.Vocabulary.{replayed}
use Rattle.theory_onecopy.proofs.states.replay_ops.Given as goal

abbrev pub invariant-ops : goal.invariant-ops
invariant-ops l = fold (replayed l.decl) (Some l.states) (drop l.op-index l.ops) ≡ fold (replayed l.decl)
    (Some l.initial.states) l.ops
