-- Closed logs: each line of a log is a committed operation's, and with a line stands what it was answered from.
use Rattle.std.specs.Prelude.{◌≡◌, ◌≢◌, ℕ, suc, ◌<◌, ◌≤◌, Bool, IsTrue, ◌⊎◌, List, [], ◌∷◌, ◌++◌, length, Option, Some}
use Rattle.std.specs.Prelude.{IsSome}
use Rattle.qc_stamp.specs.declared.stamp.TxId.{TxId}
use Rattle.qc_entry.specs.declared.line.Line.{Line}
use Rattle.qc_entry.specs.declared.line.OwnLine.{OwnLine}
use Rattle.qc_entry.specs.declared.record.Commit.{Commit as CommitRecord}
use Rattle.qc_table.specs.declared.kind.Kind.{Kind}
use Rattle.qc_table.specs.Vocabulary.{events_of}
use Rattle.qc_plan.specs.Vocabulary.{weight}
use Rattle.qc_decl.specs.declared.declaration.Declaration.{Declaration}
use Rattle.qc_decl.specs.Vocabulary.{append_need_of, read_need_of}
use Rattle.qc_list.specs.Vocabulary.{In}
use Rattle.theory_onecopy.specs.Vocabulary.{Executed, IsAnswered, committed_line, depends_at, kind_at, own_line}
use Rattle.theory_machine.specs.Site.{Item, Lock, Own, Promise, Site, items_of, site_after}
use Rattle.theory_machine.specs.State.{Status, NotBegun, Committed, Decision, Granted, AppendRequest, Snapshot, State}
use Rattle.theory_machine.specs.Guards.{HasQuorum, IsShown, Shows, own_on, read_lock, weights_of}

-- some invocation of the object's type depends on the event of this number
pub record IsDependedOn (decl : Declaration) (object number : ℕ) : Type 0 where
  pub inv : ℕ
  pub kind : Kind
  pub typed : kind_at decl object ≡ Some kind
  pub low : inv < kind.table.invs
  pub within : number < length (events_of kind.table.rows)
  pub depends : IsTrue (depends_at decl object inv number)

-- an operation that was executed or is chosen
abbrev pub IsExecutedOrChosen : List Executed → Option Executed → Executed → Type 0
IsExecutedOrChosen executed chosen d = In d executed ⊎ (chosen ≡ Some d)

-- the line is a committed operation's, and the log has all that this one was answered from: its view, and the earlier
-- own lines of its object on whose event something depends
pub record IsClosedAt (decl : Declaration) (status : TxId → Status) (executed : TxId → List Executed)
    (log : List Line) (l : Line) : Type 0 where
  pub commit : CommitRecord
  pub committed : status l.tx ≡ Committed commit
  pub operation : Executed
  pub listed : In operation (executed l.tx)
  pub some : IsSome operation.op.resp
  pub is : l ≡ committed_line commit.stamp l.tx (own_line operation)
  pub view : (m : Line) → In m operation.view → In m log
  pub own : (o : OwnLine) → In o operation.own → IsDependedOn decl o.object o.event
      → In (committed_line l.stamp l.tx o) log

-- the own line is an operation's of tx, whose view is in the log, and with it tx has the earlier ones of its object
pub record IsOwnClosedAt (decl : Declaration) (executed : TxId → List Executed) (chosen : TxId → Option Executed)
    (tx : TxId) (log : List Line) (items : List Item) (o : OwnLine) : Type 0 where
  pub operation : Executed
  pub known : IsExecutedOrChosen (executed tx) (chosen tx) operation
  pub some : IsSome operation.op.resp
  pub is : o ≡ own_line operation
  pub view : (m : Line) → In m operation.view → In m log
  pub own : (p : OwnLine) → In p operation.own → IsDependedOn decl p.object p.event → In (Own p) items

-- what an Append brings
pub record IsAppendClosed (decl : Declaration) (status : TxId → Status) (executed : TxId → List Executed)
    (chosen : TxId → Option Executed) (tx : TxId) (items : List Item) (view : List Line) : Type 0 where
  pub closed_at : (l : Line) → In l view → IsClosedAt decl status executed view l
  pub own_closed : (o : OwnLine) → In (Own o) items → IsOwnClosedAt decl executed chosen tx view items o

-- a site's logs, what it holds and what it promised
pub record IsSiteClosed (decl : Declaration) (status : TxId → Status) (executed : TxId → List Executed)
    (chosen : TxId → Option Executed) (s : Site) : Type 0 where
  pub less : (l : Line) → In l s.stable → In l s.volatile
  pub volatile : (l : Line) → In l s.volatile → IsClosedAt decl status executed s.volatile l
  pub stable : (l : Line) → In l s.stable → IsClosedAt decl status executed s.stable l
  pub own_closed : (tx : TxId) (o : OwnLine) → In (Own o) (items_of tx s.held)
      → IsOwnClosedAt decl executed chosen tx s.volatile (items_of tx s.held) o
  pub prepared : (p : Promise) → In p s.prepared → In p s.promises
  pub promised : (p : Promise) (o : OwnLine) → In p s.promises → In (Own o) p.items
      → IsOwnClosedAt decl executed chosen p.tx s.stable p.items o

-- the operation comes next: it has its number, all earlier own lines of its object, and the earlier views of it
pub record IsNextOperation (earlier : List Executed) (d : Executed) : Type 0 where
  pub numbered : d.number ≡ suc (length earlier)
  pub own : d.own ≡ own_on earlier d.op.object
  pub grows : (b : Executed) (l : Line) → In b earlier → b.op.object ≡ d.op.object → In l b.view → In l d.view

abbrev pub AreInOrder : List Executed → List Executed → Type 0
AreInOrder earlier [] = Unit {0}
AreInOrder earlier (d ∷ ds) = IsNextOperation earlier d × AreInOrder (earlier ++ d ∷ []) ds

-- a counted grant of tx from a site, with the lock, all of whose lines of the object are in the view
pub record IsReadAt (counted : List Granted) (tx : TxId) (site : ℕ) (d : Executed) : Type 0 where
  pub grant : Granted
  pub counts : In grant counted
  pub its : grant.tx ≡ tx
  pub from : grant.site ≡ site
  pub has : In (Lock (read_lock d.op)) grant.items
  pub seen : (l : Line) → Shows grant l → l.object ≡ d.op.object → In l d.view

pub record IsReadBy (decl : Declaration) (epoch : ℕ) (counted : List Granted) (tx : TxId)
    (d : Executed) : Type 0 where
  pub sites : ℕ → Bool
  pub enough : read_need_of decl epoch d.op.object d.op.inv ≤ weight sites (weights_of decl epoch)
  pub each : (site : ℕ) → IsTrue (sites site) → IsReadAt counted tx site d

-- an operation was answered from a met Read round, whose sites showed all that its view has
pub record IsAnsweredFromQuorum (decl : Declaration) (epoch : ℕ) (counted : List Granted) (tx : TxId)
    (d : Executed) : Type 0 where
  pub answered : IsAnswered decl d
  pub known : (kind : Kind) → kind_at decl d.op.object ≡ Some kind → d.op.inv < kind.table.invs
  pub shown : (l : Line) → In l d.view → (l.object ≡ d.op.object) × IsShown counted tx l
  pub met : IsReadBy decl epoch counted tx d

pub record LogLaws (decl : Declaration) (now : State) : Type 0 where
  pub order : (tx : TxId) → AreInOrder [] (now.executed tx)
  pub begun : (tx : TxId) (d : Executed) → IsExecutedOrChosen (now.executed tx) (now.chosen tx) d
      → now.status tx ≢ NotBegun
  pub next : (tx : TxId) (d : Executed) → now.chosen tx ≡ Some d → IsNextOperation (now.executed tx) d
      × IsSome d.op.resp
  pub right : (tx : TxId) (d : Executed) → IsExecutedOrChosen (now.executed tx) (now.chosen tx) d
      → IsAnsweredFromQuorum decl (now.epoch tx) now.counted tx d
  pub written : (tx : TxId) (d : Executed) → In d (now.executed tx) → IsSome d.op.resp
      → HasQuorum decl (now.epoch tx) now.counted tx (Own (own_line d))
      (append_need_of decl (now.epoch tx) d.op.object d.event)
  pub views : (tx : TxId) (d : Executed) (l : Line) → IsExecutedOrChosen (now.executed tx) (now.chosen tx) d
      → In l d.view → IsClosedAt decl now.status now.executed d.view l
  pub appends : (s : AppendRequest) → In s now.appends
      → IsAppendClosed decl now.status now.executed now.chosen s.tx s.items s.view
  pub sites : (site : ℕ) → IsSiteClosed decl now.status now.executed now.chosen (site_after (now.deeds site))
  pub granted : (g : Granted) → In g now.granted
      → IsSiteClosed decl now.status now.executed now.chosen (site_after g.before)
  pub snapshots : (s : Snapshot) → In s now.snapshots
      → IsSiteClosed decl now.status now.executed now.chosen (site_after s.before)
  pub decided : (d : Decision) (l : Line) → In d now.decided → In l d.log
      → IsClosedAt decl now.status now.executed d.log l
