-- What is read of a record, case by case: it is that of a rise, a commit record, or neither; and a client writes none
-- of the last.
use Rattle.std.proofs.Common.{◌≡◌, Bool, true, false, Option, Some, None, refl}
use Rattle.qc_entry.specs.declared.record.Commit.{Commit}
use Rattle.qc_msg.specs.declared.record.Record.{Record}
use Rattle.qc_msg.specs.declared.record.Record.TheVariants as records
use Rattle.qc_msg.specs.declared.reply.Reply.{Reply}
use Rattle.qc_msg.specs.Vocabulary.{commit_of, is_life}
use Rattle.qc_promise.specs.Vocabulary.{Account, IsRecordDue}

pub record_cases : (P : Record → Bool → Option Commit → Type 0) → P records.Life true None
    → ((c : Commit) → P (records.Commit c) false (Some c)) → ((r : Record) → commit_of r ≡ None → P r false None)
    → (r : Record) → P r (is_life r) (commit_of r)
record_cases P rises commits rest records.Life = rises
record_cases P rises commits rest (records.Prepare prepared) = rest (records.Prepare prepared) refl
record_cases P rises commits rest (records.Done tx clock) = rest (records.Done tx clock) refl
record_cases P rises commits rest (records.Close epoch) = rest (records.Close epoch) refl
record_cases P rises commits rest (records.Install start) = rest (records.Install start) refl
record_cases P rises commits rest (records.Commit c) = commits c
record_cases P rises commits rest (records.Decide start) = rest (records.Decide start) refl

-- a commit record, or none
pub commit_cases : (P : Record → Option Commit → Type 0) → ((c : Commit) → P (records.Commit c) (Some c))
    → ((r : Record) → commit_of r ≡ None → P r None) → (r : Record) → P r (commit_of r)
commit_cases P commits rest r = record_cases (λ r life o. P r o) (rest records.Life refl) commits rest r

-- a record that is due
pub due_cases : (d : Account) (row : Option Reply) (P : Record → Type 0) → P records.Life
    → ((c : Commit) → IsRecordDue d row (records.Commit c) → P (records.Commit c)) → (r : Record)
    → IsRecordDue d row r → P r
due_cases d row P rises commits records.Life due = rises
due_cases d row P rises commits (records.Prepare prepared) due = absurd due
due_cases d row P rises commits (records.Done tx clock) due = absurd due
due_cases d row P rises commits (records.Close epoch) due = absurd due
due_cases d row P rises commits (records.Install start) due = absurd due
due_cases d row P rises commits (records.Commit c) due = commits c due
due_cases d row P rises commits (records.Decide start) due = absurd due
