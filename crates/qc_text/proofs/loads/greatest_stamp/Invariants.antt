use Rattle.std.proofs.Common.{◌≡◌, drop}
use Rattle.std.specs.Prelude.{fold}
use Rattle.qc_text.specs.Vocabulary.{greatest_stamp, with_stamp}
use Rattle.qc_text.proofs.loads.greatest_stamp.Given as goal

abbrev pub invariant-commits : goal.invariant-commits
invariant-commits l = fold with_stamp l.greatest (drop l.commit-index l.commits) ≡ greatest_stamp l.commits
