-- When each act is allowed, and runs: lists of acts that were allowed, newest first. A guard asks no more than its
-- site or client can see: what it did, what it has, and what was sent to it. Quorums are weighted votes (Gifford
-- 1979); locks of reads and lines conflict by the relation of the object's type (Herlihy 1986); stamps are clocks
-- with the client's number (Lamport 1978).
use Rattle.std.specs.Prelude.{◌≡◌, ◌≢◌, ℕ, suc, ◌<◌, ◌≤◌, Bool, true, false, IsTrue, ◌⊎◌}
use Rattle.std.specs.Prelude.{List, [], ◌∷◌, map, length, Some, None, IsSome}
use Rattle.qc_stamp.specs.declared.stamp.Stamp.{Stamp}
use Rattle.qc_stamp.specs.declared.stamp.TxId.{TxId}
use Rattle.qc_entry.specs.declared.line.Line.{Line}
use Rattle.qc_entry.specs.declared.line.Op.{Op}
use Rattle.qc_entry.specs.declared.line.OwnLine.{OwnLine}
use Rattle.qc_entry.specs.declared.line.ReadLock.{ReadLock}
use Rattle.qc_entry.specs.declared.record.Commit.{Commit as CommitRecord}
use Rattle.qc_table.specs.declared.kind.Kind.{Kind}
use Rattle.qc_plan.specs.declared.plan.Plan.{Plan}
use Rattle.qc_plan.specs.Vocabulary.{Closes as Closing, weight}
use Rattle.qc_decl.specs.declared.declaration.Declaration.{Declaration}
use Rattle.qc_decl.specs.Vocabulary.{append_need_of, plan_in, read_need_of}
use Rattle.qc_list.specs.Vocabulary.{In}
use Rattle.theory_onecopy.specs.Vocabulary.{Executed, IsAnswered, committed_line, depends_at, kind_at, own_line}
use Rattle.theory_machine.specs.Shares.{IsShareBy}
pub use Rattle.theory_machine.specs.Quorums.{HasGranted, HasQuorum, IsShown, Shows, own_on, read_lock, weights_of}
use Rattle.theory_machine.specs.Site.{Item, Lock, Own, Promise, Installs, epoch_from, shut_from, items_of, site_after}
use Rattle.theory_machine.specs.Site.{empty_site, done_records}
use Rattle.theory_machine.specs.Asked.{Guard, Asked, every_guard, AnswersFromView, InvocationIsDeclared}
use Rattle.theory_machine.specs.Asked.{OperationsAreNumbered, OwnLinesAreKept, ViewWasShown, ViewIsWhole}
use Rattle.theory_machine.specs.Asked.{ReadQuorumIsMet, AppendCarriesView, AppendCarriesOnlyOwnLines}
use Rattle.theory_machine.specs.Asked.{AppendCarriesEarlierLines, GrantTellsEpoch, GrantsUnlessClosed}
use Rattle.theory_machine.specs.Asked.{GrantPassesInstalls, GrantsWithoutConflict, GrantPassesDone, GrantPassesLines}
use Rattle.theory_machine.specs.Asked.{SnapshotIsOfClosed, SnapshotPassesDone, SnapshotPassesInstalls, MergesEveryEntry}
use Rattle.theory_machine.specs.Asked.{DecidePassesCommitted, DecidesByPlan, DecidesFromSnapshots, DecidesNextEpoch}
use Rattle.theory_machine.specs.Asked.{ClosesEnough, ClosedSitesAnswered, ResolvesPrepared, MergesLogs}
use Rattle.theory_machine.specs.Asked.{MergesOnlyCommitted, DecidePassesSnapshots, CommitsWhenVoting, AllHaveVoted}
use Rattle.theory_machine.specs.Asked.{StampIsItsClients, StampPassesClock, RecordHasOperations, BeginsOnce}
use Rattle.theory_machine.specs.Asked.{BeginsInPlannedEpoch, OperatesWhileActive, ChoosesOneAtATime, ChosenHasResponse}
use Rattle.theory_machine.specs.Asked.{AppendsWhatIsChosen, AppendQuorumIsMet, AbsentHasNoResponse, GrantTellsDeeds}
use Rattle.theory_machine.specs.Asked.{GrantTellsLife, GrantsWhatWasRequested, CountsWhatWasGranted, CountsWhileActive}
use Rattle.theory_machine.specs.Asked.{CountsInItsEpoch, PreparesOnce, PreparesWhenExecuted, VotesWhenAsked}
use Rattle.theory_machine.specs.Asked.{VotesInGrantedLife, RecordsPrepareWhenAsked, AbortsBeforeRecord}
use Rattle.theory_machine.specs.Asked.{RisesWithNoneRunning, RisesPastRecords, LearnsWhatWasAnnounced}
use Rattle.theory_machine.specs.Asked.{SnapshotTellsDeeds, InstallsWhatWasDecided, InstallsLaterEpoch}
use Rattle.theory_machine.specs.State.{Status, NotBegun, Active, Voting, Pending, Committed, AppendRequest, Granted}
use Rattle.theory_machine.specs.State.{Verdict, Snapshot, Decision, State}
use Rattle.theory_machine.specs.Acts.{Act, Begin, Choose, SendAppend, Execute, ExecuteAbsent, Grant, Count, Prepare}
use Rattle.theory_machine.specs.Acts.{Vote, PrepareLost, Commit, CommitUnknown, Recover, Abort, RiseClient, Announce}
use Rattle.theory_machine.specs.Acts.{Learn, Rise, Close, TakeSnapshot, Decide, Install, state}

-- the operation's Read round is met: it comes next in its transaction, its view is all that the transaction was shown
-- of the object, and its reply is one that the view allows
pub record IsExecutedFromBy (ask : Guard → Bool) (decl : Declaration) (epoch : ℕ) (counted : List Granted)
    (executed : List Executed) (tx : TxId) (d : Executed) : Type 0 where
  pub answered : Asked (ask AnswersFromView) (IsAnswered decl d)
  pub known : Asked (ask InvocationIsDeclared)
      ((kind : Kind) → kind_at decl d.op.object ≡ Some kind → d.op.inv < kind.table.invs)
  pub numbered : Asked (ask OperationsAreNumbered) (d.number ≡ suc (length executed))
  pub own : Asked (ask OwnLinesAreKept) (d.own ≡ own_on executed d.op.object)
  pub shown : Asked (ask ViewWasShown) ((l : Line) → In l d.view → (l.object ≡ d.op.object) × IsShown counted tx l)
  pub whole : Asked (ask ViewIsWhole) ((l : Line) → IsShown counted tx l → l.object ≡ d.op.object → In l d.view)
  pub met : Asked (ask ReadQuorumIsMet)
      (HasQuorum decl epoch counted tx (Lock (read_lock d.op)) (read_need_of decl epoch d.op.object d.op.inv))

abbrev pub IsExecutedFrom : Declaration → ℕ → List Granted → List Executed → TxId → Executed → Type 0
IsExecutedFrom = IsExecutedFromBy every_guard

-- an Append of the operation brings its view, and own lines of the object: its own, and at least those of events with
-- a final threshold
pub record IsAppendOfBy (ask : Guard → Bool) (decl : Declaration) (epoch : ℕ) (d : Executed) (s : AppendRequest) :
    Type 0 where
  pub view : Asked (ask AppendCarriesView) (s.view ≡ d.view)
  pub items : Asked (ask AppendCarriesOnlyOwnLines)
      ((x : Item) → In x s.items → (o : OwnLine) × (x ≡ Own o) × ((o ≡ own_line d) ⊎ In o d.own))
  pub whole : Asked (ask AppendCarriesEarlierLines)
      ((o : OwnLine) → In o d.own → 0 < append_need_of decl epoch o.object o.event → In (Own o) s.items)

abbrev pub IsAppendOf : Declaration → ℕ → Executed → AppendRequest → Type 0
IsAppendOf = IsAppendOfBy every_guard

-- a read lock conflicts with a line on whose event its invocation depends
abbrev pub Conflict : Declaration → Item → Item → Type 0
Conflict decl (Lock l) (Own o) = (l.object ≡ o.object) × IsTrue (depends_at decl o.object l.inv o.event)
Conflict decl (Own o) (Lock l) = (l.object ≡ o.object) × IsTrue (depends_at decl o.object l.inv o.event)
Conflict decl _ _ = ⊥

-- it was asked for a Read, or by an Append that was sent
abbrev pub IsRequested : List AppendRequest → Granted → Type 0
IsRequested appends g = ((lock : ReadLock) × (g.items ≡ Lock lock ∷ []) × (g.view ≡ []))
    ⊎ In (record { tx = g.tx; items = g.items; view = g.view }) appends

-- a site may grant in the epoch that it has installed and not closed, where nobody else holds what conflicts, and
-- with a clock that has passed its Install records, its Done records and its lines
pub record MayGrantBy (ask : Guard → Bool) (decl : Declaration) (g : Granted) : Type 0 where
  pub current : Asked (ask GrantTellsEpoch) (epoch_from 1 g.before ≡ g.epoch)
  pub unshut : Asked (ask GrantsUnlessClosed) (shut_from false g.before ≡ false)
  pub passes_installs : Asked (ask GrantPassesInstalls)
      ((k c : ℕ) (log : List Line) → In (Installs k c log) g.before → c ≤ g.clock)
  pub free : Asked (ask GrantsWithoutConflict)
      ((u : TxId) (x y : Item) → In x g.items → In y (items_of u (site_after g.before).held) → u ≢ g.tx
      → Conflict decl x y → ⊥)
  pub passes_done : Asked (ask GrantPassesDone)
      ((u : TxId) (stamp : Stamp) → In (record { tx = u; stamp = stamp }) (done_records empty_site g.before)
      → stamp.clock ≤ g.clock)
  pub passes_lines : Asked (ask GrantPassesLines)
      ((l : Line) → In l (site_after g.before).volatile → l.stamp.clock ≤ g.clock)

abbrev pub MayGrant : Declaration → Granted → Type 0
MayGrant = MayGrantBy every_guard

-- a site that has closed may tell what it has, with a clock that has passed its Install and Done records
pub record MaySnapshotBy (ask : Guard → Bool) (s : Snapshot) : Type 0 where
  pub shut : Asked (ask SnapshotIsOfClosed) (shut_from false s.before ≡ true)
  pub passes_done : Asked (ask SnapshotPassesDone)
      ((u : TxId) (stamp : Stamp) → In (record { tx = u; stamp = stamp }) (done_records empty_site s.before)
      → stamp.clock ≤ s.clock)
  pub passes_installs : Asked (ask SnapshotPassesInstalls)
      ((k c : ℕ) (log : List Line) → In (Installs k c log) s.before → c ≤ s.clock)

abbrev pub MaySnapshot : Snapshot → Type 0
MaySnapshot = MaySnapshotBy every_guard

-- the client of a prepared transaction of a snapshot told its end: it committed, its own lines are in the log with
-- its stamp, and the clock has passed this; or it aborted
abbrev pub IsResolvedBy : (Guard → Bool) → List Verdict → Decision → Promise → Type 0
IsResolvedBy ask verdicts d p =
    ((stamp : Stamp) × In (record { tx = p.tx; stamp = Some stamp }) verdicts
    × Asked (ask MergesEveryEntry) ((o : OwnLine) → In (Own o) p.items → In (committed_line stamp p.tx o) d.log)
    × Asked (ask DecidePassesCommitted) (stamp.clock ≤ d.clock))
    ⊎ In (record { tx = p.tx; stamp = None }) verdicts

abbrev pub IsResolved : List Verdict → Decision → Promise → Type 0
IsResolved = IsResolvedBy every_guard

-- where a line of the new log comes from: the log of a snapshot, or an own line of a prepared transaction there that
-- committed
pub record IsMerged (verdicts : List Verdict) (d : Decision) (l : Line) : Type 0 where
  pub snapshot : Snapshot
  pub counts : In snapshot d.snapshots
  pub from : In l (site_after snapshot.before).volatile
      ⊎ ((p : Promise) × (o : OwnLine) × (stamp : Stamp) × In p (site_after snapshot.before).prepared
      × In (Own o) p.items × In (record { tx = p.tx; stamp = Some stamp }) verdicts
      × (l ≡ committed_line stamp p.tx o))

-- an epoch is decided from snapshots of the epoch before, of sites that weigh enough to close it; its log is
-- all that they have, and its clock has passed theirs
pub record MayDecideBy (ask : Guard → Bool) (decl : Declaration) (now : State) (d : Decision) : Type 0 where
  pub plan : Plan
  pub planned : Asked (ask DecidesByPlan) ((epoch : ℕ) → d.epoch ≡ suc epoch → plan_in decl epoch ≡ Some plan)
  pub epochs : (s : Snapshot) → In s d.snapshots
      → Asked (ask DecidesFromSnapshots) (In s now.snapshots)
      × Asked (ask DecidesNextEpoch) (d.epoch ≡ suc (epoch_from 1 s.before))
  pub sites : ℕ → Bool
  pub closes : Asked (ask ClosesEnough) (Closing plan (weight sites plan.weights))
  pub each : Asked (ask ClosedSitesAnswered)
      ((site : ℕ) → IsTrue (sites site) → (s : Snapshot) × In s d.snapshots × (s.site ≡ site))
  pub resolved : Asked (ask ResolvesPrepared)
      ((s : Snapshot) (p : Promise) → In s d.snapshots → In p (site_after s.before).prepared
      → IsResolvedBy ask now.verdicts d p)
  pub logs : Asked (ask MergesLogs)
      ((s : Snapshot) (l : Line) → In s d.snapshots → In l (site_after s.before).volatile → In l d.log)
  pub merged : Asked (ask MergesOnlyCommitted) ((l : Line) → In l d.log → IsMerged now.verdicts d l)
  pub clocks : Asked (ask DecidePassesSnapshots) ((s : Snapshot) → In s d.snapshots → s.clock ≤ d.clock)

abbrev pub MayDecide : Declaration → State → Decision → Type 0
MayDecide = MayDecideBy every_guard

-- Prepare may have been sent
abbrev pub MayPrepare : Status → Type 0
MayPrepare NotBegun = ⊥
MayPrepare Active = ⊥
MayPrepare _ = Unit {0}

-- its client runs it
abbrev pub IsLive : Status → Type 0
IsLive Active = Unit {0}
IsLive Voting = Unit {0}
IsLive _ = ⊥

-- the commit record that stands or may stand
abbrev pub HasRecord : Status → CommitRecord → Type 0
HasRecord (Committed c) d = c ≡ d
HasRecord (Pending c) d = c ≡ d
HasRecord _ d = ⊥

-- the operation itself, without what it was answered from
abbrev pub op_of : Executed → Op
op_of d = d.op

-- each site that the client counted a grant of has voted; the record has the operations of the transaction, the
-- client's number, and a stamp above the client's clock
pub record MayCommitBy (ask : Guard → Bool) (now : State) (c : CommitRecord) : Type 0 where
  pub voting : Asked (ask CommitsWhenVoting) (now.status c.tx ≡ Voting)
  pub votes : Asked (ask AllHaveVoted)
      ((g : Granted) → In g now.counted → g.tx ≡ c.tx → In (record { tx = c.tx; site = g.site }) now.votes)
  pub client : Asked (ask StampIsItsClients) (c.stamp.client ≡ c.tx.client)
  pub above : Asked (ask StampPassesClock) (now.clock c.tx.client < c.stamp.clock)
  pub ops : Asked (ask RecordHasOperations) (c.ops ≡ map op_of (now.executed c.tx))

abbrev pub MayCommit : State → CommitRecord → Type 0
MayCommit = MayCommitBy every_guard

-- when an act is allowed, where these guards are asked
abbrev pub IsAllowedBy : (Guard → Bool) → Declaration → State → Act → Type 0
-- a transaction begins once, in an epoch that is declared
IsAllowedBy ask decl now (Begin tx epoch) =
    Asked (ask BeginsOnce) (now.status tx ≡ NotBegun)
    × Asked (ask BeginsInPlannedEpoch) ((plan : Plan) × (plan_in decl epoch ≡ Some plan))
-- an active transaction that has chosen nothing chooses what its view allows
IsAllowedBy ask decl now (Choose tx operation) =
    Asked (ask OperatesWhileActive) (now.status tx ≡ Active)
    × Asked (ask ChoosesOneAtATime) (now.chosen tx ≡ None)
    × IsExecutedFromBy ask decl (now.epoch tx) now.counted (now.executed tx) tx operation
    × Asked (ask ChosenHasResponse) (IsSome operation.op.resp)
-- an Append is of what is chosen
IsAllowedBy ask decl now (SendAppend s) =
    (operation : Executed) × Asked (ask AppendsWhatIsChosen) (now.chosen s.tx ≡ Some operation)
    × IsAppendOfBy ask decl (now.epoch s.tx) operation s
-- what is chosen is executed where sites of the final threshold granted its line
IsAllowedBy ask decl now (Execute tx) =
    (operation : Executed) × (now.chosen tx ≡ Some operation)
    × Asked (ask AppendQuorumIsMet)
    (HasQuorum decl (now.epoch tx) now.counted tx (Own (own_line operation))
    (append_need_of decl (now.epoch tx) operation.op.object operation.event))
-- an active transaction that has chosen nothing finds no response where its view allows none
IsAllowedBy ask decl now (ExecuteAbsent tx operation) =
    Asked (ask OperatesWhileActive) (now.status tx ≡ Active)
    × Asked (ask ChoosesOneAtATime) (now.chosen tx ≡ None)
    × IsExecutedFromBy ask decl (now.epoch tx) now.counted (now.executed tx) tx operation
    × Asked (ask AbsentHasNoResponse) (operation.op.resp ≡ None)
-- a site grants what was asked for or shared, tells its life, and has done what it did
IsAllowedBy ask decl now (Grant g) =
    Asked (ask GrantTellsDeeds) (g.before ≡ now.deeds g.site)
    × Asked (ask GrantTellsLife) (g.life ≡ now.life g.site)
    × MayGrantBy ask decl g
    × Asked (ask GrantsWhatWasRequested) (IsRequested now.appends g ⊎ IsShareBy ask now g)
-- an active transaction counts grants that were sent, of its epoch
IsAllowedBy ask decl now (Count g) =
    Asked (ask CountsWhatWasGranted) (In g now.granted)
    × Asked (ask CountsWhileActive) (now.status g.tx ≡ Active)
    × Asked (ask CountsInItsEpoch) (g.epoch ≡ now.epoch g.tx)
-- Prepare is sent by an active transaction that has chosen nothing
IsAllowedBy ask decl now (Prepare tx) =
    Asked (ask PreparesOnce) (now.status tx ≡ Active) × Asked (ask PreparesWhenExecuted) (now.chosen tx ≡ None)
-- a site votes on what may have been sent Prepare, in the life of all grants that were counted
IsAllowedBy ask decl now (Vote site tx) =
    Asked (ask VotesWhenAsked) (MayPrepare (now.status tx))
    × Asked (ask VotesInGrantedLife)
    ((g : Granted) → In g now.counted → g.tx ≡ tx → g.site ≡ site → g.life ≡ now.life site)
-- a Prepare record is written only of what may have been sent Prepare
IsAllowedBy ask decl now (PrepareLost site tx) = Asked (ask RecordsPrepareWhenAsked) (MayPrepare (now.status tx))
-- a commit record is written as MayCommit says
IsAllowedBy ask decl now (Commit c) = MayCommitBy ask now c
-- and so is one that may stand or not
IsAllowedBy ask decl now (CommitUnknown c) = MayCommitBy ask now c
-- a commit record that may stand or not is read again
IsAllowedBy ask decl now (Recover tx with_record) = (c : CommitRecord) × (now.status tx ≡ Pending c)
-- a transaction that has no commit record aborts
IsAllowedBy ask decl now (Abort tx) =
    Asked (ask AbortsBeforeRecord) ((now.status tx ≡ Active) ⊎ (now.status tx ≡ Voting))
-- a client rises without transactions that it runs, and with a clock that has passed the stamps of its commit records
IsAllowedBy ask decl now (RiseClient client clock) =
    Asked (ask RisesWithNoneRunning) ((tx : TxId) → tx.client ≡ client → IsLive (now.status tx) → ⊥)
    × Asked (ask RisesPastRecords)
    ((tx : TxId) (c : CommitRecord) → tx.client ≡ client → HasRecord (now.status tx) c → c.stamp.clock ≤ clock)
-- a client may always tell how its transaction stands: it tells no more than a final status
IsAllowedBy ask decl now (Announce tx) = Unit {0}
-- a site takes a verdict that was sent
IsAllowedBy ask decl now (Learn site v) = Asked (ask LearnsWhatWasAnnounced) (In v now.verdicts)
-- a site may fall and rise at any time
IsAllowedBy ask decl now (Rise site) = Unit {0}
-- a site may close at any time
IsAllowedBy ask decl now (Close site) = Unit {0}
-- a site that has closed tells what it did
IsAllowedBy ask decl now (TakeSnapshot s) =
    Asked (ask SnapshotTellsDeeds) (s.before ≡ now.deeds s.site) × MaySnapshotBy ask s
-- an epoch is decided as MayDecide says
IsAllowedBy ask decl now (Decide d) = MayDecideBy ask decl now d
-- a site installs a decision that stands, of a greater epoch than its own
IsAllowedBy ask decl now (Install site d) =
    Asked (ask InstallsWhatWasDecided) (In d now.decided)
    × Asked (ask InstallsLaterEpoch) (epoch_from 1 (now.deeds site) < d.epoch)

abbrev pub IsAllowed : Declaration → State → Act → Type 0
IsAllowed = IsAllowedBy every_guard

-- acts, newest first, each of which was allowed where these guards are asked
abbrev pub IsRunBy : (Guard → Bool) → Declaration → List Act → Type 0
IsRunBy ask decl [] = Unit {0}
IsRunBy ask decl (a ∷ older) = IsAllowedBy ask decl (state older) a × IsRunBy ask decl older

-- a run of the protocol: each guard is asked
abbrev pub IsRun : Declaration → List Act → Type 0
IsRun = IsRunBy every_guard
