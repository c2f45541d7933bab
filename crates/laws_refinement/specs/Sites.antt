-- A site agrees with what the machine says that it did, in whichever life and epoch it is, and so do its records.
use Rattle.std.specs.Prelude.{◌≡◌, ◌≢◌, ◌⊎◌, ℕ, suc, ◌<◌, ◌≤◌, false, List, [], ◌∷◌, Option, Some, None, is_some}
use Rattle.qc_stamp.specs.declared.stamp.TxId.{TxId}
use Rattle.qc_stamp.specs.Vocabulary.{same_tx}
use Rattle.qc_list.specs.Vocabulary.{In}
use Rattle.qc_entry.specs.declared.line.Line.{Line}
use Rattle.qc_entry.specs.declared.line.OwnLine.{OwnLine}
use Rattle.qc_entry.specs.declared.record.Prepared.{Prepared}
use Rattle.qc_entry.specs.Vocabulary.{IsAscending, union}
use Rattle.qc_plan.specs.declared.plan.Plan.{Plan}
use Rattle.qc_decl.specs.declared.declaration.Declaration.{Declaration}
use Rattle.qc_decl.specs.Vocabulary.{plan_in}
use Rattle.qc_lock.specs.declared.held.Held.{Held}
use Rattle.qc_lock.specs.Vocabulary.{held_of}
use Rattle.theory_machine.specs.Vocabulary.{Decision, Deed, DoneRecord, Installs, Item, Lock, MayPrepare, NotBegun, Own}
use Rattle.theory_machine.specs.Vocabulary.{Promise, State, Status, Verdict, done_records, empty_site, epoch_from}
use Rattle.theory_machine.specs.Vocabulary.{items_of, promise_of, shut_from, site_after}
use Rattle.qc_msg.specs.declared.record.Record.{Record}
use Rattle.qc_msg.specs.declared.record.Record.TheVariants as records
use Rattle.qc_recover.specs.Vocabulary.{Kept, done_stamp}
use Rattle.qc_site.specs.Vocabulary.{SiteState, known, prepared_of}

-- the epoch has a plan
abbrev pub IsPlanned : Declaration → ℕ → Type 0
IsPlanned decl epoch = (plan : Plan) × (plan_in decl epoch ≡ Some plan)

-- an item is among what an entry has, and among what a promise has

abbrev pub IsHeld : Held → Item → Type 0
IsHeld entry (Lock lock) = In lock entry.locks
IsHeld entry (Own own) = In own entry.own

abbrev pub IsPromised : Prepared → Item → Type 0
IsPromised promise (Lock lock) = In lock promise.locks
IsPromised promise (Own own) = In own promise.own

-- the machine has a promise just where the site has one: all its items are the site's, with the same own lines
abbrev pub IsPromiseOf : Option Promise → Option Prepared → Type 0
IsPromiseOf None None = Unit {0}
IsPromiseOf None (Some q) = ⊥
IsPromiseOf (Some p) None = ⊥
IsPromiseOf (Some p) (Some q) = ((x : Item) → In x p.items → IsPromised q x)
    × ((o : OwnLine) → In o q.own → In (Own o) p.items)

-- no two promises are of one transaction: a site's, and the machine's

abbrev pub IsApart : TxId → List Prepared → Type 0
IsApart tx [] = Unit {0}
IsApart tx (p ∷ ps) = (same_tx p.tx tx ≡ false) × IsApart tx ps

abbrev pub AreApart : List Prepared → Type 0
AreApart [] = Unit {0}
AreApart (p ∷ ps) = IsApart p.tx ps × AreApart ps

abbrev pub IsSingle : TxId → List Promise → Type 0
IsSingle tx [] = Unit {0}
IsSingle tx (p ∷ ps) = (same_tx tx p.tx ≡ false) × IsSingle tx ps

abbrev pub AreSingle : List Promise → Type 0
AreSingle [] = Unit {0}
AreSingle (p ∷ ps) = IsSingle p.tx ps × AreSingle ps

-- the lines of each promise are among these
abbrev pub AreLined : List Prepared → List Line → Type 0
AreLined ps log = (p : Prepared) → In p ps → (l : Line) → In l p.lines → In l log

-- it has closed for the next epoch just where the machine's site has closed
abbrev pub IsClosing : Declaration → ℕ → Option ℕ → Type 0
IsClosing decl epoch None = Unit {0}
IsClosing decl epoch (Some k) = (k ≡ suc epoch) × IsPlanned decl k

pub record SiteMirrors (decl : Declaration) (s : SiteState) (ds : List Deed) (alive : ℕ) : Type 0 where
  -- its life and epoch are the machine's, and whether it has closed
  pub life : s.life ≡ alive
  pub some : 0 < s.life
  pub epoch : epoch_from 1 ds ≡ s.epoch
  pub planned : IsPlanned decl s.epoch
  pub shut : shut_from false ds ≡ is_some s.closed_for
  pub closing : IsClosing decl s.epoch s.closed_for
  -- all that the machine's site holds it holds, with the same own lines
  pub held : (t : TxId) (x : Item) → In x (items_of t (site_after ds).held) → IsHeld (held_of s.held t) x
  pub owned : (t : TxId) (o : OwnLine) → In o (held_of s.held t).own → In (Own o) (items_of t (site_after ds).held)
  -- its clock has passed its Install and Done records and its lines
  pub installs : (k c : ℕ) (log : List Line) → In (Installs k c log) ds → c ≤ s.clock
  pub done : (d : DoneRecord) → In d (done_records empty_site ds) → d.stamp.clock ≤ s.clock
  pub passed : (l : Line) → In l (site_after ds).volatile → l.stamp.clock ≤ s.clock
  -- it knows the same lines, and has them in order
  pub log : (l : Line) → In l (site_after ds).volatile → In l (known s)
  pub logged : (l : Line) → In l (known s) → In l (site_after ds).volatile
  pub sorted : IsAscending s.began × IsAscending s.log
  pub promised : (t : TxId) → IsPromiseOf (promise_of t (site_after ds).prepared) (prepared_of s.prepared t)
  pub apart : AreApart s.prepared
  pub lined : AreLined s.prepared (known s)
  pub single : AreSingle (site_after ds).prepared

-- all lines that the records give
abbrev pub kept_lines : Kept → List Line
kept_lines k = union k.began k.lines

-- what its records give is what the machine's site would have after a rise
pub record KeptMirrors (decl : Declaration) (k : Kept) (status : TxId → Status) (life : ℕ)
    (ds : List Deed) : Type 0 where
  pub life_is : k.life ≡ life
  pub epoch : epoch_from 1 ds ≡ k.epoch
  pub planned : IsPlanned decl k.epoch
  pub shut : shut_from false ds ≡ is_some k.closed_for
  pub closing : IsClosing decl k.epoch k.closed_for
  pub installs : (n c : ℕ) (log : List Line) → In (Installs n c log) ds → c ≤ k.clock
  pub stable : (l : Line) → In l (site_after ds).stable → In l (kept_lines k)
  pub kept : (l : Line) → In l (kept_lines k) → In l (site_after ds).stable
  pub sorted : IsAscending k.began × IsAscending k.lines
  pub done : (d : DoneRecord) → In d (done_records empty_site ds) → d.stamp.clock ≤ k.clock
  pub passed : (l : Line) → In l (site_after ds).stable → l.stamp.clock ≤ k.clock
  pub promised : (t : TxId) → IsPromiseOf (promise_of t (site_after ds).promises) (prepared_of k.promises t)
  -- what is done has the own lines of its last Prepare
  pub last : (t : TxId) (p : Prepared) → prepared_of k.promises t ≡ Some p → prepared_of k.prepares t ≡ Some p
  -- each promise is of its own transaction, which was begun, and of lines that the records give
  pub apart : AreApart k.promises
  pub lined : AreLined k.promises (kept_lines k)
  pub begun : (p : Prepared) → In p k.promises → status p.tx ≢ NotBegun

-- the site has what its records give, but for what it let go of since
pub record IsKeptBy (s : SiteState) (k : Kept) : Type 0 where
  pub began : s.began ≡ k.began
  pub recorded : s.recorded ≡ k.lines
  pub promises : (t : TxId) (p : Prepared) → prepared_of s.prepared t ≡ Some p → prepared_of k.promises t ≡ Some p

-- a promise of all that the transaction holds, and of all lines that no record gives yet
pub record IsPreparing (now : State) (k : Kept) (ds : List Deed) (p : Prepared) : Type 0 where
  pub asked : MayPrepare (now.status p.tx)
  pub fresh : promise_of p.tx (site_after ds).prepared ≡ None
  pub same : IsPromiseOf (Some (record { tx = p.tx; items = items_of p.tx (site_after ds).held })) (Some p)
  pub whole : (l : Line) → In l (site_after ds).volatile → In l (kept_lines k) ⊎ In l p.lines
  pub lines : (l : Line) → In l p.lines → In l (site_after ds).volatile
  pub ascends : IsAscending p.lines

-- a promised transaction whose client told that it committed
pub record IsFinishing (now : State) (k : Kept) (ds : List Deed) (tx : TxId) (clock : ℕ) : Type 0 where
  pub told : In {X = Verdict} (record { tx = tx; stamp = Some (done_stamp tx clock) }) now.verdicts
  pub promise : Promise
  pub promised : promise_of tx (site_after ds).prepared ≡ Some promise
  pub prepared : Prepared
  pub kept : prepared_of k.promises tx ≡ Some prepared
  pub same : IsPromiseOf (Some promise) (Some prepared)

-- what begins an epoch was decided
pub record IsDecided (decl : Declaration) (now : State) (epoch clock : ℕ) (log : List Line) : Type 0 where
  pub decision : Decision
  pub decided : In decision now.decided
  pub epoch_is : decision.epoch ≡ epoch
  pub clock_is : decision.clock ≡ clock
  pub log_is : decision.log ≡ log
  pub sorted : IsAscending log
  pub planned : IsPlanned decl epoch

-- what stands behind a record that may stand or not: were it written, the machine would go on so
abbrev pub IsPendingAt : Declaration → State → Kept → List Deed → Option Record → Type 0
IsPendingAt decl now k ds None = Unit {0}
IsPendingAt decl now k ds (Some records.Life) = Unit {0}
IsPendingAt decl now k ds (Some (records.Prepare p)) = IsPreparing now k ds p
IsPendingAt decl now k ds (Some (records.Done tx clock)) = IsFinishing now k ds tx clock
IsPendingAt decl now k ds (Some (records.Close epoch)) = IsClosing decl k.epoch (Some epoch)
IsPendingAt decl now k ds (Some (records.Install start)) =
    IsDecided decl now start.epoch start.clock start.lines × (k.epoch < start.epoch)
IsPendingAt decl now k ds (Some (records.Commit commit)) = ⊥
IsPendingAt decl now k ds (Some (records.Decide start)) = ⊥
