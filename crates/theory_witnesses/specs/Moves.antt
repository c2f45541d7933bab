-- Moves, of which the runs here are told: a move is an act that takes from the state what its doer would tell. A
-- site's grant shows what the site did, with the least clock that passes it; a client chooses with all that it was
-- shown; a snapshot, a decision and a commit record are made as the protocol makes them. A run that does otherwise
-- changes a move by hand.
use Rattle.std.specs.Prelude.{ℕ, suc, max, Bool, false, ◌==◌, ◌&&◌, if◌then◌else◌, List, [], ◌∷◌, ◌++◌, map, flat_map}
use Rattle.std.specs.Prelude.{filter, fold, length, Option, None, unwrap_or, find, option_to_list}
use Rattle.std.specs.List.{list_any}
use Rattle.qc_stamp.specs.declared.stamp.Stamp.{Stamp}
use Rattle.qc_stamp.specs.declared.stamp.TxId.{TxId}
use Rattle.qc_entry.specs.Vocabulary.{union}
use Rattle.qc_entry.specs.declared.line.Line.{Line}
use Rattle.qc_entry.specs.declared.record.Commit.{Commit as CommitRecord}
use Rattle.theory_onecopy.specs.Vocabulary.{Executed, own_line}
use Rattle.theory_machine.specs.Vocabulary.{Abort, Act, Announce, AppendRequest, Begin, Choose, Close, Commit}
use Rattle.theory_machine.specs.Vocabulary.{CommitUnknown, Count, Decide, Decision, Deed, DoneRecord, Execute}
use Rattle.theory_machine.specs.Vocabulary.{ExecuteAbsent, Grant, Granted, Install, Installs, Item, Learn, Lock, Own}
use Rattle.theory_machine.specs.Vocabulary.{Prepare, PrepareLost, Promise, Recover, Rise, RiseClient, SendAppend}
use Rattle.theory_machine.specs.Vocabulary.{Snapshot, State, TakeSnapshot, Verdict, Vote, done_records, empty_site}
use Rattle.theory_machine.specs.Vocabulary.{epoch_from, op_of, own_on, site_after, stamped_lines, state}
use Rattle.qc_stamp.specs.Vocabulary.{same_tx}

-- an act, made from the state
abbrev pub Move : Type 0
Move = State → Act

-- the acts of moves, oldest first, after older acts
abbrev pub acts_from : List Act → List Move → List Act
acts_from older [] = older
acts_from older (m ∷ ms) = acts_from (m (state older) ∷ older) ms

-- the acts of a story, newest first
abbrev pub acts_of : List Move → List Act
acts_of story = acts_from [] story

-- what an invocation is, and what it was told; an event has its number
pub record Call : Type 0 where
  pub inv : ℕ
  pub resp : Option ℕ
  pub event : ℕ

-- the clocks that a site has passed: of Done records, lines and Install records
abbrev pub done_clocks : List Deed → List ℕ
done_clocks deeds = map (λ (d : DoneRecord). d.stamp.clock) (done_records empty_site deeds)

-- of the lines of its log
abbrev pub line_clocks : List Deed → List ℕ
line_clocks deeds = map (λ (l : Line). l.stamp.clock) (site_after deeds).volatile

-- of an Install record
abbrev pub install_clock : Deed → List ℕ
install_clock (Installs k c log) = c ∷ []
install_clock _ = []

-- the greatest of clocks, 0 where there is none
abbrev pub greatest : List ℕ → ℕ
greatest clocks = fold max 0 clocks

-- the least clock that has passed all of these
abbrev pub site_clock : List Deed → ℕ
site_clock deeds = greatest (done_clocks deeds ++ line_clocks deeds ++ flat_map install_clock deeds)

-- the first that passes a test
abbrev pub first_where : {A : Type 0} → (A → Bool) → A → List A → A
first_where test none xs = unwrap_or (find test xs) none

-- the transaction begins in an epoch
abbrev pub begins : TxId → ℕ → Move
begins tx epoch now = Begin tx epoch

-- a site's grant of items and a view to a transaction
abbrev pub grant_of : TxId → ℕ → List Item → List Line → State → Granted
grant_of tx site items view now = record {
  tx = tx;
  site = site;
  epoch = epoch_from 1 (now.deeds site);
  life = now.life site;
  clock = site_clock (now.deeds site);
  before = now.deeds site;
  items = items;
  view = view;
}

-- a read lock of an object and an invocation, as what is granted
abbrev pub lock : ℕ → ℕ → List Item
lock object inv = Lock (record { object = object; inv = inv }) ∷ []

-- a site's grant of a read lock
abbrev pub read_grant : TxId → ℕ → ℕ → ℕ → State → Granted
read_grant tx site object inv now = grant_of tx site (lock object inv) [] now

-- the last Append of the transaction
abbrev pub last_append : TxId → State → AppendRequest
last_append tx now =
    first_where (λ (s : AppendRequest). same_tx s.tx tx) (record { tx = tx; items = []; view = [] }) now.appends

-- a site's grant of the transaction's last Append
abbrev pub append_grant : TxId → ℕ → State → Granted
append_grant tx site now = let s : AppendRequest = last_append tx now in grant_of tx site s.items s.view now

-- the site grants a read lock
abbrev pub grants_read : TxId → ℕ → ℕ → ℕ → Move
grants_read tx site object inv now = Grant (read_grant tx site object inv now)

-- the site grants the transaction's last Append
abbrev pub grants_append : TxId → ℕ → Move
grants_append tx site now = Grant (append_grant tx site now)

-- the client counts the last grant of the site
abbrev pub counts : TxId → ℕ → Move
counts tx site now =
    Count (first_where (λ (g : Granted). same_tx g.tx tx && (g.site == site)) (grant_of tx site [] [] now) now.granted)

-- whether an item is a read lock on the object
abbrev pub locks_object : Item → ℕ → Bool
locks_object (Lock l) object = l.object == object
locks_object (Own o) object = false

-- what a transaction was shown of an object
abbrev pub shown_by : TxId → ℕ → Granted → List Line
shown_by tx object g =
    if same_tx g.tx tx && list_any (λ (x : Item). locks_object x object) g.items
    then filter (λ (l : Line). l.object == object) (site_after g.before).volatile
    else []

-- lines in order, with one more
abbrev pub with_line : List Line → Line → List Line
with_line lines l = union (l ∷ []) lines

-- all that it was shown of the object, in order and each line once
abbrev pub view_of : TxId → ℕ → State → List Line
view_of tx object now = fold with_line [] (flat_map (shown_by tx object) now.counted)

-- the next operation of the transaction, answered so from all that it was shown
abbrev pub operation : TxId → ℕ → Call → State → Executed
operation tx object call now = record {
  number = suc (length (now.executed tx));
  op = record { object = object; inv = call.inv; resp = call.resp };
  event = call.event;
  view = view_of tx object now;
  own = own_on (now.executed tx) object;
}

-- the transaction chooses it
abbrev pub chooses : TxId → ℕ → Call → Move
chooses tx object call now = Choose tx (operation tx object call now)

-- the transaction executes it with no append
abbrev pub finds_absent : TxId → ℕ → Call → Move
finds_absent tx object call now = ExecuteAbsent tx (operation tx object call now)

-- the Append of an operation, with all earlier own lines of the object
abbrev pub append_of : TxId → Executed → AppendRequest
append_of tx d = record { tx = tx; items = map Own d.own ++ Own (own_line d) ∷ []; view = d.view }

-- an operation for where none is chosen
abbrev pub nothing : Executed
nothing = record { number = 0; op = record { object = 0; inv = 0; resp = None }; event = 0; view = []; own = [] }

-- the Append of what the transaction has chosen
abbrev pub chosen_append : TxId → State → AppendRequest
chosen_append tx now = append_of tx (unwrap_or (now.chosen tx) nothing)

-- its client sends this Append
abbrev pub sends : TxId → Move
sends tx now = SendAppend (chosen_append tx now)

-- what is chosen is executed
abbrev pub executes : TxId → Move
executes tx now = Execute tx

-- its client sends Prepare
abbrev pub prepares : TxId → Move
prepares tx now = Prepare tx

-- the site votes Yes
abbrev pub votes : TxId → ℕ → Move
votes tx site now = Vote site tx

-- the site writes a Prepare record, and no Yes is sent
abbrev pub prepares_unheard : TxId → ℕ → Move
prepares_unheard tx site now = PrepareLost site tx

-- the commit record, with the least stamp above the client's clock
abbrev pub record_of : TxId → State → CommitRecord
record_of tx now = record {
  stamp = record { clock = suc (now.clock tx.client); client = tx.client };
  tx = tx;
  ops = map op_of (now.executed tx);
}

-- its client writes its record
abbrev pub commits : TxId → Move
commits tx now = Commit (record_of tx now)

-- its client falls as it writes its record
abbrev pub falls_committing : TxId → Move
falls_committing tx now = CommitUnknown (record_of tx now)

-- its client reads its records again: with this one, or without
abbrev pub recovers : TxId → Bool → Move
recovers tx with_record now = Recover tx with_record

-- its client gives it up
abbrev pub aborts : TxId → Move
aborts tx now = Abort tx

-- a client rises with this clock
abbrev pub rises_at : ℕ → ℕ → Move
rises_at client clock now = RiseClient client clock

-- its client tells how it ended
abbrev pub announces : TxId → Move
announces tx now = Announce tx

-- the site takes the last verdict of the transaction
abbrev pub learns : TxId → ℕ → Move
learns tx site now =
    Learn site (first_where (λ (v : Verdict). same_tx v.tx tx) (record { tx = tx; stamp = None }) now.verdicts)

-- a site falls and rises
abbrev pub rises : ℕ → Move
rises site now = Rise site

-- a site writes its Close record
abbrev pub closes : ℕ → Move
closes site now = Close site

-- what a site tells that is closed, with the least clock that has passed its Done and Install records
abbrev pub snapshot : ℕ → State → Snapshot
snapshot site now = record {
  site = site;
  clock = greatest (done_clocks (now.deeds site) ++ flat_map install_clock (now.deeds site));
  before = now.deeds site;
}

-- the site sends it
abbrev pub tells : ℕ → Move
tells site now = TakeSnapshot (snapshot site now)

-- the last snapshot of each of the sites
abbrev pub snapshots_of : List ℕ → State → List Snapshot
snapshots_of sites now =
    map (λ site. first_where (λ (s : Snapshot). s.site == site) (snapshot site now) now.snapshots) sites

-- the stamps that verdicts gave a prepared transaction
abbrev pub stamps_of : List Verdict → Promise → List Stamp
stamps_of verdicts p = flat_map (λ (v : Verdict). if same_tx v.tx p.tx then option_to_list v.stamp else []) verdicts

-- the own lines of a prepared transaction, with these stamps
abbrev pub promised_lines : List Verdict → Promise → List Line
promised_lines verdicts p = flat_map (λ (stamp : Stamp). stamped_lines p.tx stamp p.items) (stamps_of verdicts p)

-- the clocks of these stamps
abbrev pub promised_clocks : List Verdict → Promise → List ℕ
promised_clocks verdicts p = map (λ (stamp : Stamp). stamp.clock) (stamps_of verdicts p)

-- the lines of a snapshot: its log, and the own lines of what is prepared there and committed
abbrev pub merged_lines : List Verdict → Snapshot → List Line
merged_lines verdicts s =
    (site_after s.before).volatile ++ flat_map (promised_lines verdicts) (site_after s.before).prepared

-- the clocks that a snapshot brings
abbrev pub merged_clocks : List Verdict → Snapshot → List ℕ
merged_clocks verdicts s = s.clock ∷ flat_map (promised_clocks verdicts) (site_after s.before).prepared

-- the decision of an epoch from the last snapshots of the sites
abbrev pub decision : ℕ → List ℕ → State → Decision
decision epoch sites now =
    let snapshots : List Snapshot = snapshots_of sites now in
    record {
      epoch = epoch;
      clock = greatest (flat_map (merged_clocks now.verdicts) snapshots);
      log = flat_map (merged_lines now.verdicts) snapshots;
      snapshots = snapshots;
    }

-- the administrator writes this decision
abbrev pub decides : ℕ → List ℕ → Move
decides epoch sites now = Decide (decision epoch sites now)

-- the site installs the last decision of the epoch
abbrev pub installs : ℕ → ℕ → Move
installs site epoch now =
    Install site (first_where (λ (d : Decision). d.epoch == epoch) (decision epoch [] now) now.decided)
