use Rattle.std.proofs.Common.{◌≡◌, ◌++◌, take}
use Rattle.std.specs.List.{flat_map}
use Rattle.qc_text.specs.Vocabulary.{commit_line}
use Rattle.qc_text.proofs.log.put_log.Given as goal

abbrev pub invariant-commits : goal.invariant-commits
invariant-commits l = l.page ≡ l.initial.page ++ flat_map (commit_line l.decl) (take l.commit-index l.commits)
