use Rattle.std.proofs.Common.{◌≡◌, ◌++◌, map}
use Rattle.qc_text.specs.Vocabulary.{commit_of}
use Rattle.qc_text.proofs.committed.commits_of.Given as goal

abbrev pub invariant-keys : goal.invariant-keys
invariant-keys l = l.commits.items ++ map commit_of l.key-iterator ≡ map commit_of l.fn.keys.keys
