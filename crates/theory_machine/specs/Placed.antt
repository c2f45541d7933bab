-- The operations of commit records, each with its stamp and its transaction.
use Rattle.std.specs.Prelude.{List, [], ◌∷◌, ◌++◌, map}
use Rattle.qc_stamp.specs.declared.stamp.TxId.{TxId}
use Rattle.qc_entry.specs.declared.record.Commit.{Commit as CommitRecord}
use Rattle.theory_onecopy.specs.Vocabulary.{Executed, Placed}

-- an operation of a record
abbrev pub place : CommitRecord → Executed → Placed
place c d = record { stamp = c.stamp; tx = c.tx; operation = d }

-- all operations of all records, in the order of the records and then of each transaction
abbrev pub placed : (TxId → List Executed) → List CommitRecord → List Placed
placed executed [] = []
placed executed (c ∷ cs) = map (λ (d : Executed). place c d) (executed c.tx) ++ placed executed cs
