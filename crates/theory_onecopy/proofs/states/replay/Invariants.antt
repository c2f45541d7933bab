use Rattle.std.proofs.Common.{◌≡◌, Some, drop}
use Rattle.std.specs.Prelude.{fold}
use Rattle.theory_onecopy.specs.Vocabulary.{replay, replay_commit}
use Rattle.theory_onecopy.proofs.states.replay.Given as goal

abbrev pub invariant-commits : goal.invariant-commits
invariant-commits l = fold (replay_commit l.decl) (Some l.states.items) (drop l.commit-index l.commits)
    ≡ replay l.decl l.commits
