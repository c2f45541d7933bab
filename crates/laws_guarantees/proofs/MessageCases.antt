-- A message is a request or none, and an answer or none; a record is a commit's or none.
use Rattle.std.proofs.Common.{ℕ, Option, Some, None}
use Rattle.qc_stamp.specs.declared.stamp.TxId.{TxId}
use Rattle.qc_msg.specs.declared.message.Answer.{Answer}
use Rattle.qc_msg.specs.declared.message.Message.{Message}
use Rattle.qc_msg.specs.declared.message.Message.TheVariants as messages
use Rattle.qc_msg.specs.declared.message.Want.{Want}
use Rattle.qc_msg.specs.Vocabulary.{Answered, Requested, answer_in, request_in, commit_of}
use Rattle.qc_entry.specs.declared.record.Commit.{Commit as CommitRecord}
use Rattle.qc_msg.specs.declared.record.Record.{Record}
use Rattle.qc_msg.specs.declared.record.Record.TheVariants as records

pub asking_cases : (P : Message → Option Requested → Type 0) → ((m : Message) → P m None)
    → ((tx : TxId) (epoch life : ℕ) (want : Want)
    → P (messages.Request tx epoch life want) (Some (record { tx = tx; epoch = epoch; life = life; want = want })))
    → (m : Message) → P m (request_in m)
asking_cases P none asks (messages.Request tx epoch life want) = asks tx epoch life want
asking_cases P none asks (messages.Answer to answer) = none _
asking_cases P none asks (messages.Decision tx verdict) = none _
asking_cases P none asks (messages.Inquiry tx) = none _
asking_cases P none asks (messages.Ask tx) = none _
asking_cases P none asks (messages.Close epoch) = none _
asking_cases P none asks (messages.Install start) = none _

pub answering_cases : (P : Message → Option Answered → Type 0) → ((m : Message) → P m None)
    → ((to : ℕ) (answer : Answer) → P (messages.Answer to answer) (Some (record { to = to; answer = answer })))
    → (m : Message) → P m (answer_in m)
answering_cases P none answers (messages.Request tx epoch life want) = none _
answering_cases P none answers (messages.Answer to answer) = answers to answer
answering_cases P none answers (messages.Decision tx verdict) = none _
answering_cases P none answers (messages.Inquiry tx) = none _
answering_cases P none answers (messages.Ask tx) = none _
answering_cases P none answers (messages.Close epoch) = none _
answering_cases P none answers (messages.Install start) = none _

pub commit_cases : (P : Record → Option CommitRecord → Type 0) → ((w : Record) → P w None)
    → ((commit : CommitRecord) → P (records.Commit commit) (Some commit)) → (w : Record) → P w (commit_of w)
commit_cases P none commits records.Life = none _
commit_cases P none commits (records.Prepare prepared) = none _
commit_cases P none commits (records.Done tx clock) = none _
commit_cases P none commits (records.Close epoch) = none _
commit_cases P none commits (records.Install start) = none _
commit_cases P none commits (records.Commit commit) = commits commit
commit_cases P none commits (records.Decide start) = none _
