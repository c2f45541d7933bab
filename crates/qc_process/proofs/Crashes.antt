-- A store whose journal is given up, by the parts of its views.
use Rattle.std.proofs.Common.{◌≡◌, ℕ, Bool, List, [], ◌∷◌, Option, Some, None, sym, ◌∙◌, subst}
use Rattle.qc_decl.specs.declared.declaration.Declaration.{Declaration}
use Rattle.qc_journal.specs.Vocabulary.{Rests}
use Rattle.qc_msg.specs.Vocabulary.{Entry}
use Rattle.qc_msg.specs.declared.step.Fall.TheVariants as falls
use Rattle.qc_msg.specs.declared.step.Step.TheVariants as steps
use Rattle.qc_outside.specs.Vocabulary.{Fuse, Told}
use Rattle.qc_outside.specs.declared.disk.ArmKind.{ArmKind}
use Rattle.qc_promise.specs.Vocabulary.{DiskAccount, disk_armed}
use Rattle.qc_store.specs.Vocabulary.{DiskHolds, IsAccountOf, StillTells}
use Rattle.qc_store.proofs.Accounts.{counted, armed_faults_are_accounted}
use Rattle.qc_process.specs.Vocabulary.{AreUnfit, Goes, GoesArmed, IsOnDisk, IsOpened, IsStored, OpenJournal, StoreView}
use Rattle.qc_process.proofs.Appending.{Shows}
use Rattle.qc_process.proofs.Going.{crashed_on}
use Rattle.qc_process.proofs.Openings.{given_up, unfit_on}
use Rattle.qc_process.proofs.Told.{told_armed}

same_end : (o p : OpenJournal) (j : Option OpenJournal) → j ≡ Some o → j ≡ Some p → p ≡ o
same_end o p j is other = cc (sym other ∙ is)

module _ (tells : Bool) (decl : Declaration) (a : ℕ) (h : List Entry) (s new : StoreView) (o : OpenJournal)
    (old_told new_told : Option Told) (f g : Fuse) (shows : Shows s old_told f (Some o))
    (shows_new : Shows new new_told g None) (tells_on : StillTells old_told new_told)
    (holds : (bodies : List (List ℕ)) → Rests old_told o.end bodies → DiskHolds new_told bodies None)
    (accounts : (t : DiskAccount) → IsAccountOf t f → IsAccountOf t g) where
  tells_here : StillTells s.told new.told
  tells_here = rw (shows.told_is, shows_new.told_is) tells_on

  holds_here : (bodies : List (List ℕ)) → Rests s.told o.end bodies → DiskHolds new.told bodies None
  holds_here bodies rests =
      subst (λ (t : Option Told). DiskHolds t bodies None) (sym shows_new.told_is)
      (holds bodies (subst (λ (t : Option Told). Rests t o.end bodies) shows.told_is rests))

  holds_at : (p : OpenJournal) → s.journal ≡ Some p → (l : List (List ℕ)) → Rests s.told p.end l
      → DiskHolds new.told l None
  holds_at p is l rests =
      holds_here l
      (subst (λ (q : OpenJournal). Rests s.told q.end l) (same_end o p s.journal shows.journal_is is) rests)

  accounts_here : (t : DiskAccount) → IsAccountOf t s.fuse → IsAccountOf t new.fuse
  accounts_here t is =
      subst (IsAccountOf t) (sym shows_new.fuse_is) (accounts t (subst (IsAccountOf t) shows.fuse_is is))

  pub crash_of : (now : List Entry) → Goes a h (steps.Fell falls.Script None ∷ []) now → IsStored tells decl a h s
      → IsStored tells decl a now new
  crash_of now goes is =
      crashed_on tells decl a h now s new o shows.journal_is is shows_new.journal_is goes tells_here holds_here
      accounts_here

  pub damaged_of : (now : List Entry) (bodies : List (List ℕ)) (offset : ℕ) → AreUnfit decl a bodies
      → Goes a h (steps.Damaged offset ∷ []) now → IsOpened tells decl a h bodies s → IsStored tells decl a now new
  damaged_of now bodies offset unfit goes is =
      unfit_on tells decl a h s new now bodies offset shows_new.journal_is tells_here holds_at accounts_here unfit goes
      is

  pub given_up_of : (bodies : List (List ℕ)) → IsOpened tells decl a h bodies s
      → IsOnDisk tells decl a h new.told new.fuse.unarmed
  given_up_of bodies is =
      given_up tells decl a h s new bodies new.fuse.unarmed new.told tells_here holds_at
      (λ t of. counted t new.fuse (accounts_here t of)) is

-- a fault is armed
pub armed_of : (tells : Bool) (decl : Declaration) (a : ℕ) (h now : List Entry) (s new : StoreView) (kind : ArmKind)
    (at : ℕ) → new ≡ record s { fuse = record { armed = Some (kind, at); unarmed = s.fuse.unarmed } }
    → GoesArmed a h kind at now → IsStored tells decl a h s → IsStored tells decl a now new
armed_of tells decl a h now s new kind at same goes is =
    let t : DiskAccount = disk_armed is.account kind at in
    subst (IsStored tells decl a now) (sym same) (record {
      records = is.records;
      account = t;
      told_by = told_armed tells decl a h now is.records is.account kind at goes is.told_by;
      still = is.still;
      accounted = armed_faults_are_accounted is.account s.fuse kind at goes.some is.accounted;
      placed = is.placed;
    })
