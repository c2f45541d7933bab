use Rattle.std.proofs.Common.{◌≡◌, List, ℕ, Some, None, sym, ap, ◌∙◌}
use Rattle.std.specs.Prelude.{fold}
use Rattle.theory_onecopy.specs.Vocabulary.{replayed}
use Rattle.theory_onecopy.proofs.Missing.{commit_missing}
use Rattle.theory_onecopy.proofs.states.replay.Goals as goal

pub returns-then-not-replay_ops : goal.returns-then-not-replay_ops
returns-then-not-replay_ops c =
    let missing : fold (replayed c.args.decl.now) (Some c.commits.states.items) c.commit-item.result.ops ≡ None =
    ap (fold (replayed c.args.decl.now) (Some c.commits.states.items)) (sym c.items.ensures)
    ∙ ap (λ (s : List ℕ). fold (replayed c.args.decl.now) (Some s) c.items.result.now) (sym c.deref_mut.ensures.value)
    ∙ c.if-not-replay_ops.ensures in
    sym (commit_missing c.args.decl.now c.commits.states.items c.args.commits.now c.commits.commit-index _ _
    c.commits-test.true c.commit-item.is missing)
    ∙ c.commits.invariant
