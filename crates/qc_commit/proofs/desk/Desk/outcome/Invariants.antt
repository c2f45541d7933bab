use Rattle.std.proofs.Common.{◌≡◌, drop}
use Rattle.qc_commit.specs.Vocabulary.{record_of}
use Rattle.qc_commit.proofs.desk.Desk.outcome.Given as goal

abbrev pub invariant-commits : goal.invariant-commits
invariant-commits l = record_of (drop l.commit-index l.commit-items) l.tx ≡ record_of l.self.commits l.tx
