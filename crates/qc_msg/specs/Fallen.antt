-- Histories of one actor that falls as it writes a commit record of one operation, and rises with the record or without
-- it.
use Rattle.std.specs.Prelude.{List, [], ◌∷◌, Some}
use Rattle.qc_entry.specs.declared.record.Commit.{Commit as CommitRecord}
use Rattle.qc_msg.specs.declared.record.Record.{Record}
use Rattle.qc_msg.specs.declared.record.Record.TheVariants.{Commit}
use Rattle.qc_msg.specs.declared.step.Fall.TheVariants.{Stop}
use Rattle.qc_msg.specs.declared.step.Step.TheVariants.{Fell, Rose, Wrote}
use Rattle.qc_msg.specs.Steps.{Entry, marked}

abbrev pub commit : CommitRecord
commit =
    record {
      stamp = record { clock = 1; client = 0 };
      tx = record { client = 0; life = 1; number = 1 };
      ops = record { object = 0; inv = 0; resp = Some 0 } ∷ [];
    }

-- it is actor 1
abbrev pub risen : List Record → List Entry
risen given = marked 1 (Fell Stop (Some (Commit commit))) ∷ marked 1 (Rose given) ∷ []

-- it rises again with the record
abbrev pub risen_again : List Entry
risen_again =
    marked 1 (Fell Stop (Some (Commit commit)))
    ∷ marked 1 (Rose (Commit commit ∷ []))
    ∷ marked 1 (Rose (Commit commit ∷ []))
    ∷ []

-- its disk loses the record, which it had written and writes again
abbrev pub rewritten : List Entry
rewritten =
    marked 1 (Wrote (Commit commit)) ∷ marked 1 (Rose []) ∷ marked 1 (Wrote (Commit commit)) ∷ []
