-- What a site promises of a transaction that is to commit, and what it does as the verdict comes (presumed abort).
use Rattle.std.specs.Prelude.{ℕ, nat_le, Bool, if◌then◌else◌, not, List, [], ◌∷◌, ◌++◌, fold, Option, Some, None}
use Rattle.std.specs.Prelude.{is_some}
use Rattle.qc_stamp.specs.declared.stamp.Stamp.{Stamp}
use Rattle.qc_stamp.specs.declared.stamp.TxId.{TxId}
use Rattle.qc_entry.specs.declared.line.Line.{Line}
use Rattle.qc_entry.specs.declared.line.OwnLine.{OwnLine}
use Rattle.qc_entry.specs.declared.record.Prepared.{Prepared}
use Rattle.qc_entry.specs.Vocabulary.{union, without}
use Rattle.qc_decl.specs.Vocabulary.{most_record_bytes}
use Rattle.qc_lock.specs.declared.held.Held.{Held}
use Rattle.qc_lock.specs.Vocabulary.{held_of, is_held, one_of, without_held, without_one}
use Rattle.qc_msg.specs.declared.message.Answer.TheVariants.{Stale, Yes}
use Rattle.qc_msg.specs.declared.message.Outcome.{Outcome}
use Rattle.qc_msg.specs.declared.message.Outcome.TheVariants.{Committed, Aborted, Active}
use Rattle.qc_msg.specs.declared.record.Record.TheVariants as records
use Rattle.qc_msg.specs.declared.turn.Appended.TheVariants.{Done}
use Rattle.qc_msg.specs.declared.turn.Turn.{Turn}
pub use Rattle.qc_msg.specs.Lengths.{prepare_length}
use Rattle.qc_msg.specs.Vocabulary.{quiet}
use Rattle.qc_site.specs.Site.{SiteState, SiteMove, arriving, learned, moved, answers, recording}
pub use Rattle.qc_entry.specs.Vocabulary.{stamped}

-- what the site would promise: all that the transaction holds, and the lines that no record gives yet
abbrev pub promise_of : SiteState → TxId → Prepared
promise_of s tx =
    let entry : Held = held_of s.held tx in
    record { tx = tx; epoch = s.epoch; locks = entry.locks; own = entry.own; lines = without s.log s.recorded }

abbrev pub prepared_of : List Prepared → TxId → Option Prepared
prepared_of prepared tx = one_of (λ p. p.tx) prepared tx

abbrev pub is_prepared : List Prepared → TxId → Bool
is_prepared prepared tx = is_some (prepared_of prepared tx)

-- the promise is made

abbrev pub promised : SiteState → Prepared → SiteState
promised s p = record s { recorded = union s.recorded p.lines; prepared = s.prepared ++ p ∷ [] }

-- the promise is written before it is told
abbrev pub votes : SiteState → ℕ → ℕ → Prepared → Turn
votes s from number p = recording from number (records.Prepare p) (Yes s.clock)

-- it is made where it fits a record
abbrev pub promises : SiteState → ℕ → ℕ → Prepared → SiteMove
promises s from number p =
    if nat_le (prepare_length p) most_record_bytes
    then moved (promised s p) (votes s from number p)
    else moved s (answers from number Stale)

-- a Prepare: nothing can be promised where nothing is held, and a promise stands
abbrev pub prepares : SiteState → ℕ → ℕ → TxId → SiteMove
prepares s from number tx =
    if not (is_held s.held tx)
    then moved s (answers from number Stale)
    else (if is_prepared s.prepared tx
    then moved s (answers from number (Yes s.clock))
    else promises s from number (promise_of s tx))

-- the transaction is finished here: it holds nothing, and nothing is promised of it

abbrev pub without_prepared : List Prepared → TxId → List Prepared
without_prepared prepared tx = without_one (λ p. p.tx) prepared tx

abbrev pub dropped : SiteState → TxId → SiteState
dropped s tx =
    record s { held = without_held s.held tx; prepared = without_prepared s.prepared tx }

-- the lines of a committed transaction's own lines

abbrev pub with_stamped : Stamp → TxId → List Line → OwnLine → List Line
with_stamped stamp tx lines o = union lines (stamped stamp tx o ∷ [])

abbrev pub lines_of : Stamp → TxId → List OwnLine → List Line
lines_of stamp tx own = fold (with_stamped stamp tx) [] own

-- the turn that writes only that the transaction is done
abbrev pub records_done : TxId → Stamp → Turn
records_done tx stamp =
    record {
      write = Some (records.Done tx stamp.clock);
      sends = [];
      told = None;
      failed_sends = [];
      failed_told = None;
      append = Done;
    }

-- a transaction committed: what was promised of it is learned, and this is written
abbrev pub joins : SiteState → TxId → Stamp → Option Prepared → SiteMove
joins s tx stamp None = moved (dropped s tx) quiet
joins s tx stamp (Some p) =
    let lines : List Line = lines_of stamp tx p.own in
    moved
    (record (dropped s tx) {
      log = learned s lines;
      recorded = union s.recorded (without lines s.began);
      arrived = arriving s lines;
    })
    (records_done tx stamp)

-- a Decision
abbrev pub finishes : SiteState → TxId → Outcome → SiteMove
finishes s tx (Committed stamp) = joins s tx stamp (prepared_of s.prepared tx)
finishes s tx Aborted = moved (dropped s tx) quiet
finishes s tx Active = moved s quiet
