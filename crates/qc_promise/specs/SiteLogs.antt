-- The lines that a site knows: those that its epoch began with, those that it learned since, those of these that its
-- own records give, and the order in which it learned them.
use Rattle.std.specs.Prelude.{ℕ, List, [], ◌∷◌, ◌++◌, fold, cond, option_and_then}
use Rattle.std.specs.Option.{option_map_or}
use Rattle.qc_stamp.specs.declared.stamp.Stamp.{Stamp}
use Rattle.qc_stamp.specs.declared.stamp.TxId.{TxId}
use Rattle.qc_entry.specs.declared.line.Line.{Line}
use Rattle.qc_entry.specs.declared.line.OwnLine.{OwnLine}
use Rattle.qc_entry.specs.declared.record.Prepared.{Prepared}
use Rattle.qc_entry.specs.Vocabulary.{of_object, union, without}
use Rattle.qc_msg.specs.declared.message.Envelope.{Envelope}
use Rattle.qc_msg.specs.declared.record.Record.{Record}
use Rattle.qc_msg.specs.Vocabulary.{Deed, Finished, Requested, done_in, got_in, install_in, prepare_in}
use Rattle.qc_msg.specs.declared.payload.EpochStart.{EpochStart}
use Rattle.qc_msg.specs.Vocabulary.{request_in, written_in}
use Rattle.qc_promise.specs.Lifetimes.{lifetime, records_in}
use Rattle.qc_promise.specs.SiteHeld.{is_granted}
use Rattle.qc_promise.specs.SiteRecords.{last_prepare}
pub use Rattle.qc_msg.specs.Vocabulary.{view_in}
pub use Rattle.qc_entry.specs.Vocabulary.{stamped}

-- what an epoch began with, and the lines since
pub record Lines : Type 0 where
  pub began : List Line
  pub since : List Line

abbrev pub no_lines : Lines
no_lines = record { began = []; since = [] }

abbrev pub begun_with_lines : List Line → Lines
begun_with_lines lines = record { began = lines; since = [] }

-- lines are learned: those that the epoch didn't begin with come to those since
abbrev pub learning : Lines → List Line → Lines
learning l lines = record l { since = union l.since (without lines l.began) }

-- The lines that records give: a Prepare its lines; a Done the own lines of the last Prepare of its transaction before
-- it, with its clock and the transaction's client as their stamp. With an Install another epoch begins.

abbrev pub lines_of : Stamp → TxId → List OwnLine → List Line
lines_of stamp tx own = fold (λ (lines : List Line) (o : OwnLine). union lines (stamped stamp tx o ∷ [])) [] own

abbrev pub done_lines : List Record → Finished → List Line
done_lines before f =
    option_map_or (λ (p : Prepared). lines_of (record { clock = f.clock; client = f.tx.client }) f.tx p.own)
    (last_prepare f.tx before) []

-- those that are learned with a record alone, these records before it: a Prepare's stood in the log before
abbrev pub lines_done : List Record → Record → List Line
lines_done before r = option_map_or (done_lines before) (done_in r) []

-- a record that begins no epoch gives a Prepare's lines as they are, which aren't those that the epoch began with
abbrev pub given_since : Lines → List Record → Record → Lines
given_since l before r =
    option_map_or (λ (p : Prepared). record l { since = union l.since p.lines }) (prepare_in r)
    (learning l (lines_done before r))

abbrev pub with_given : Lines → List Record → Record → Lines
with_given l before r =
    option_map_or (λ (i : EpochStart). begun_with_lines i.lines) (install_in r) (given_since l before r)

abbrev pub recorded_from : Lines → List Record → List Record → Lines
recorded_from l before [] = l
recorded_from l before (r ∷ rs) = recorded_from (with_given l before r) (before ++ r ∷ []) rs

abbrev pub recorded_by : List Record → Lines
recorded_by rs = recorded_from no_lines [] rs

abbrev pub began_shown : List Deed → List Line
began_shown ds = (recorded_by (records_in ds)).began

abbrev pub recorded_shown : List Deed → List Line
recorded_shown ds = (recorded_by (records_in ds)).since

-- The log: what the records give that the site rose with, and since then the views of granted Appends and what the Done
-- records give, until an Install. What came with grants is lost at a rise.

abbrev pub view_by : List Deed → Envelope → List Line
view_by after e =
    option_map_or (λ (q : Requested). cond (is_granted e.number after) (view_in q.want) []) (request_in e.message) []

-- the lines that a deed brings, after these records and among the deeds after it
abbrev pub joining : List Record → Deed → List Deed → List Line
joining before d after =
    option_map_or (view_by after) (got_in d) (option_map_or (lines_done before) (written_in d) [])

abbrev pub with_written : List Record → Deed → List Record
with_written rs d = option_map_or (λ (r : Record). rs ++ r ∷ []) (written_in d) rs

abbrev pub with_joined : Lines → List Record → Deed → List Deed → Lines
with_joined l before d after =
    option_map_or (λ (i : EpochStart). begun_with_lines i.lines) (option_and_then install_in (written_in d))
    (learning l (joining before d after))

abbrev pub lines_from : Lines → List Record → List Deed → Lines
lines_from l before [] = l
lines_from l before (d ∷ after) = lines_from (with_joined l before d after) (with_written before d) after

abbrev pub lines_shown : List Deed → Lines
lines_shown ds = lines_from (recorded_by (lifetime ds).kept) (lifetime ds).kept (lifetime ds).since

abbrev pub since_shown : List Deed → List Line
since_shown ds = (lines_shown ds).since

-- all lines that it knows
abbrev pub log_shown : List Deed → List Line
log_shown ds = union (lines_shown ds).began (lines_shown ds).since

-- All lines that it knows in the order in which they joined since it rose or began its epoch, whichever came later:
-- what stood there then is in line order, and so is what joins with one deed.

abbrev pub unknown : Lines → List Line → List Line
unknown l lines = without (without lines l.began) l.since

abbrev pub with_arrived : List Line → Lines → List Record → Deed → List Deed → List Line
with_arrived arrived l before d after =
    option_map_or (λ (i : EpochStart). i.lines) (option_and_then install_in (written_in d))
    (arrived ++ unknown l (joining before d after))

abbrev pub arrived_from : List Line → Lines → List Record → List Deed → List Line
arrived_from arrived l before [] = arrived
arrived_from arrived l before (d ∷ after) =
    arrived_from (with_arrived arrived l before d after) (with_joined l before d after) (with_written before d) after

abbrev pub risen_with : Lines → List Line
risen_with l = union l.began l.since

abbrev pub all_arrived : List Deed → List Line
all_arrived ds =
    arrived_from (risen_with (recorded_by (lifetime ds).kept)) (recorded_by (lifetime ds).kept) (lifetime ds).kept
    (lifetime ds).since

-- those of an object
abbrev pub arrived_shown : List Deed → ℕ → List Line
arrived_shown ds object = of_object (all_arrived ds) object
