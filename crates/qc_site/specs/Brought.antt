-- What a message brings to a site: stamps that the clock passes, and lines that join the log.
use Rattle.std.specs.Prelude.{[], Bool, if◌then◌else◌, List, ◌∷◌, map, Option, Some, None}
use Rattle.std.specs.Option.{option_map_or}
use Rattle.std.specs.List.{flat_map}
use Rattle.qc_stamp.specs.declared.stamp.Stamp.{Stamp}
use Rattle.qc_stamp.specs.declared.stamp.TxId.{TxId}
use Rattle.qc_entry.specs.declared.line.Line.{Line}
use Rattle.qc_entry.specs.declared.record.Prepared.{Prepared}
use Rattle.qc_msg.specs.declared.message.Message.{Message}
use Rattle.qc_msg.specs.declared.message.Outcome.{Outcome}
use Rattle.qc_msg.specs.declared.message.Outcome.TheVariants.{Committed, Aborted, Active}
use Rattle.qc_msg.specs.declared.step.Input.{Input}
use Rattle.qc_msg.specs.declared.step.Input.TheVariants as inputs
use Rattle.qc_msg.specs.Vocabulary.{Deed, Falls, Rises, Sends, Takes, Tells, Writes, Decided, Requested}
use Rattle.qc_msg.specs.declared.payload.EpochStart.{EpochStart}
use Rattle.qc_msg.specs.Vocabulary.{decision_in, installing_in, request_in}
use Rattle.qc_site.specs.Promise.{lines_of, prepared_of}
pub use Rattle.qc_msg.specs.Vocabulary.{view_in}

-- stamps: those of the lines of an Append's view and of an Install, and that of a committed transaction

abbrev pub stamps_of : List Line → List Stamp
stamps_of lines = map (λ (l : Line). l.stamp) lines

abbrev pub stamps_told : Outcome → List Stamp
stamps_told (Committed stamp) = stamp ∷ []
stamps_told Aborted = []
stamps_told Active = []

abbrev pub stamps_in : Message → List Stamp
stamps_in message =
    option_map_or (λ (q : Requested). stamps_of (view_in q.want)) (request_in message)
    (option_map_or (λ (v : Decided). stamps_told v.verdict) (decision_in message)
    (option_map_or (λ (i : EpochStart). stamps_of i.lines) (installing_in message) []))

abbrev pub stamps_given : Input → List Stamp
stamps_given (inputs.Called command) = []
stamps_given (inputs.Got envelope) = stamps_in envelope.message
stamps_given (inputs.Lost number) = []

abbrev pub stamps_at : Deed → List Stamp
stamps_at (Takes given) = stamps_given given
stamps_at (Writes written) = []
stamps_at (Sends number to message) = []
stamps_at (Tells reply) = []
stamps_at (Falls cause pending) = []
stamps_at (Rises records) = []

-- all stamps that came in these deeds
abbrev pub stamps_taken : List Deed → List Stamp
stamps_taken deeds = flat_map stamps_at deeds

-- lines: an Append's view, where it is granted; and the own lines that were promised of a committed transaction, with
-- its stamp

abbrev pub lines_promised : Stamp → TxId → Option Prepared → List Line
lines_promised stamp tx None = []
lines_promised stamp tx (Some p) = lines_of stamp tx p.own

abbrev pub lines_told : List Prepared → TxId → Outcome → List Line
lines_told prepared tx (Committed stamp) = lines_promised stamp tx (prepared_of prepared tx)
lines_told prepared tx Aborted = []
lines_told prepared tx Active = []

abbrev pub brought : List Prepared → Bool → Message → List Line
brought prepared granted message =
    option_map_or (λ (q : Requested). if granted then view_in q.want else []) (request_in message)
    (option_map_or (λ (v : Decided). lines_told prepared v.tx v.verdict) (decision_in message) [])
