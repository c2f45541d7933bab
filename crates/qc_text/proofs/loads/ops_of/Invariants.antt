use Rattle.std.proofs.Common.{◌≡◌, ◌++◌, drop}
use Rattle.qc_text.specs.Vocabulary.{ops_of}
use Rattle.qc_text.proofs.loads.ops_of.Given as goal

abbrev pub invariant-commits : goal.invariant-commits
invariant-commits l = l.ops.items ++ ops_of (drop l.commit-index l.commits) ≡ ops_of l.commits
