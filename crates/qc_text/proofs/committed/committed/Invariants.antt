use Rattle.std.proofs.Common.{◌≡◌, map, take}
use Rattle.qc_promise.specs.Vocabulary.{committed}
use Rattle.qc_text.specs.Vocabulary.{commit_of}
use Rattle.qc_text.proofs.committed.committed.Given as goal

abbrev pub invariant-entries : goal.invariant-entries
invariant-entries l = map commit_of l.keys.keys ≡ committed l.decl (take l.entry-index l.entries)
