-- How many operations with a response the committed transactions of a history with falls have.
use Rattle.std.specs.Prelude.{ℕ, List, sum_by}
use Rattle.qc_decl.specs.declared.declaration.Declaration.{Declaration}
use Rattle.qc_entry.specs.declared.record.Commit.{Commit}
use Rattle.qc_msg.specs.Vocabulary.{Entry, answered}
use Rattle.qc_promise.specs.Vocabulary.{committed}

-- of each committed transaction once, whether its record was written, or its client rose with it
abbrev pub committed_operations : Declaration → List Entry → ℕ
committed_operations decl h = sum_by (λ (c : Commit). answered c.ops) (committed decl h)
