-- How a site closes its epoch for the next one, and begins another.
use Rattle.std.specs.Prelude.{ℕ, ◌+◌, ◌==◌, max, nat_lt, nat_le, Bool, false, if◌then◌else◌, List, [], fold, Option}
use Rattle.std.specs.Prelude.{Some, None}
use Rattle.qc_list.specs.Vocabulary.{inserted}
use Rattle.qc_entry.specs.declared.line.Line.{Line}
use Rattle.qc_entry.specs.declared.record.Prepared.{Prepared}
use Rattle.qc_decl.specs.Vocabulary.{most_record_bytes}
use Rattle.qc_lock.specs.declared.held.Held.{Held}
use Rattle.qc_lock.specs.Vocabulary.{with_held}
use Rattle.qc_msg.specs.declared.message.Answer.{Answer}
use Rattle.qc_msg.specs.declared.message.Answer.TheVariants.{Behind, Closed, Installed, Shut}
use Rattle.qc_msg.specs.declared.record.Record.TheVariants as records
use Rattle.qc_msg.specs.Vocabulary.{epoch_length}
use Rattle.qc_msg.specs.Vocabulary.{snapshot_with, start_with}
use Rattle.qc_site.specs.Site.{SiteState, SiteMove, moved, answers, known, recording}
pub use Rattle.qc_entry.specs.Vocabulary.{in_order, promise_cmp}

-- transactions in their order, and promises in that of their transactions

abbrev pub promises_in_order : List Prepared → List Prepared
promises_in_order promises = fold (inserted promise_cmp) [] promises

-- what promised transactions hold

abbrev pub holds : List Held → Prepared → List Held
holds held p = with_held held p.tx p.locks p.own

abbrev pub held_by : List Prepared → List Held
held_by promises = fold holds [] promises

-- a closed site tells its clock, all lines that it knows, and its promises
abbrev pub shut_answer : SiteState → Answer
shut_answer s = Shut (snapshot_with s.clock (known s) (promises_in_order s.prepared))

-- it has closed: a new life begins, in which it holds what it has promised
abbrev pub closed : SiteState → ℕ → SiteState
closed s k = record s { life = s.life + 1; closed_for = Some k; held = held_by s.prepared }

abbrev pub is_closed_for : ℕ → Option ℕ → Bool
is_closed_for k None = false
is_closed_for k (Some n) = n == k

-- a Close for epoch k: the site is too far behind, or in this epoch or a later one already, or has closed for it, or
-- closes, which is written before it is told
abbrev pub closes : SiteState → ℕ → ℕ → ℕ → SiteMove
closes s from number k =
    if nat_lt (s.epoch + 1) k then moved s (answers from number (Behind s.epoch))
    else (if nat_le k s.epoch then moved s (answers from number (Closed s.epoch))
    else (if is_closed_for k s.closed_for then moved s (answers from number (shut_answer s))
    else moved (closed s k) (recording from number (records.Close k) (shut_answer (closed s k)))))

-- it has begun an epoch: with these lines, and with nothing held or promised; its life stays
abbrev pub installed : SiteState → ℕ → ℕ → List Line → SiteState
installed s k clock lines =
    record s {
      epoch = k;
      closed_for = None;
      began = lines;
      log = [];
      recorded = [];
      arrived = lines;
      held = [];
      prepared = [];
      clock = max s.clock clock;
    }

-- an Install of epoch k: the site is in it or in a later one, or the record would be too long, or it begins the epoch,
-- which is written before it is told
abbrev pub installs : SiteState → ℕ → ℕ → ℕ → ℕ → List Line → SiteMove
installs s from number k clock lines =
    if nat_le k s.epoch then moved s (answers from number Installed)
    else (if nat_le (epoch_length lines) most_record_bytes
    then moved (installed s k clock lines)
    (recording from number (records.Install (start_with k clock lines)) Installed)
    else moved s (answers from number (Behind s.epoch)))
