-- The lines of logs that a message carries, and what a Decision says of the records.
use Rattle.std.specs.Prelude.{[], List, ◌++◌, Some, None, flat_map}
use Rattle.std.specs.Option.{option_map_or}
use Rattle.qc_stamp.specs.declared.stamp.TxId.{TxId}
use Rattle.qc_entry.specs.declared.line.Line.{Line}
use Rattle.qc_entry.specs.declared.record.Commit.{Commit as CommitRecord}
use Rattle.qc_entry.specs.declared.record.Prepared.{Prepared}
use Rattle.qc_msg.specs.declared.message.Answer.{Answer}
use Rattle.qc_msg.specs.declared.message.Message.{Message}
use Rattle.qc_msg.specs.declared.message.Outcome.{Outcome}
use Rattle.qc_msg.specs.declared.message.Outcome.TheVariants as outcomes
use Rattle.theory_machine.specs.Vocabulary.{IsVerdictOf}
use Rattle.qc_site.specs.Vocabulary.{view_in}
use Rattle.qc_msg.specs.Vocabulary.{Answered, Requested, answer_in, granted_in}
use Rattle.qc_msg.specs.declared.payload.EpochStart.{EpochStart}
use Rattle.qc_msg.specs.declared.payload.Snapshot.{Snapshot}
use Rattle.qc_msg.specs.declared.payload.Grant.{Grant}
use Rattle.qc_msg.specs.Vocabulary.{installing_in, request_in, shut_in}

-- the lines of a grant's log, and of a snapshot's log and promises

abbrev pub lines_promised : List Prepared → List Line
lines_promised prepared = flat_map (λ (p : Prepared). p.lines) prepared

abbrev pub lines_answered : Answer → List Line
lines_answered answer =
    option_map_or (λ (g : Grant). g.log) (granted_in answer)
    (option_map_or (λ (z : Snapshot). z.log ++ lines_promised z.prepared) (shut_in answer) [])

abbrev pub lines_in : Message → List Line
lines_in message =
    option_map_or (λ (q : Requested). view_in q.want) (request_in message)
    (option_map_or (λ (a : Answered). lines_answered a.answer) (answer_in message)
    (option_map_or (λ (i : EpochStart). i.lines) (installing_in message) []))

-- a final verdict is the records': one with this stamp, or none

abbrev pub IsTrueVerdict : List CommitRecord → TxId → Outcome → Type 0
IsTrueVerdict records tx (outcomes.Committed stamp) = IsVerdictOf records tx (Some stamp)
IsTrueVerdict records tx outcomes.Aborted = IsVerdictOf records tx None
IsTrueVerdict records tx outcomes.Active = Unit {0}
