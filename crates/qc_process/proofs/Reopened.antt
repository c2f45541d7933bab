-- A store's opening, by the parts of its views.
use Rattle.std.proofs.Common.{◌≡◌, ℕ, Bool, List, [], ◌∷◌, Option, Some, None, Vec, length, refl, sym, ◌∙◌, subst}
use Rattle.std.proofs.Common.{arith}
use Rattle.std.specs.declared.alloc.Global.{Global}
use Rattle.qc_decl.specs.declared.declaration.Declaration.{Declaration}
use Rattle.qc_journal.specs.Vocabulary.{Rests, lists}
use Rattle.qc_msg.specs.Vocabulary.{Entry}
use Rattle.qc_msg.specs.declared.step.Step.TheVariants as steps
use Rattle.qc_outside.specs.Vocabulary.{Fuse, Tells, Told}
use Rattle.qc_outside.specs.declared.disk.ArmKind.{ArmKind}
use Rattle.qc_promise.specs.Vocabulary.{DiskAccount, disk_called, disk_fell, of_reading}
use Rattle.qc_store.specs.Vocabulary.{AreGiven, DiskHolds, IsAccountOf, StillTells, of_bodies, of_broken_opening}
use Rattle.qc_process.specs.Vocabulary.{Goes, IsOpened, IsStored, OpenJournal, StoreView, fall_by}
use Rattle.qc_process.proofs.Appending.{Shows}
use Rattle.qc_process.proofs.Openings.{opened_on, torn_on, unopened_on}

pub length_lists : (vs : List (Vec ℕ Global)) → length (lists vs) ≡ length vs
length_lists [] = refl
length_lists (v ∷ vs) = omega (arith, length_lists vs)

module _ (tells : Bool) (decl : Declaration) (a : ℕ) (h : List Entry) (s new : StoreView)
    (old_told new_told : Option Told) (f g : Fuse) (shows : Shows s old_told f None)
    (tells_on : StillTells old_told new_told) where
  pub opened_of : (P : Told → Told → Type 0) (o : OpenJournal) (found : List (List ℕ))
      → Shows new new_told g (Some o) → Tells old_told new_told P
      → ((bodies : List (List ℕ)) (pending : Option (List ℕ)) (t : Told) → old_told ≡ Some t
      → DiskHolds old_told bodies pending → AreGiven bodies pending found)
      → Rests new_told o.end found → o.records ≡ length found
      → ((t : DiskAccount) → IsAccountOf t f → IsAccountOf (disk_called t (of_bodies found)) g)
      → IsStored tells decl a h s → IsOpened tells decl a h found new
  opened_of P o found shows_new opened given rests counted accounts is =
      opened_on tells decl a h s new P o found shows.journal_is shows_new.journal_is
      (rw (shows.told_is, shows_new.told_is) opened)
      (λ bodies pending t told_is holds. given bodies pending t (sym shows.told_is ∙ told_is)
      (subst (λ (x : Option Told). DiskHolds x bodies pending) shows.told_is holds))
      (rw (shows.told_is, shows_new.told_is) tells_on)
      (subst (λ (x : Option Told). Rests x o.end found) (sym shows_new.told_is) rests) counted
      (λ t of. subst (IsAccountOf (disk_called t (of_bodies found))) (sym shows_new.fuse_is)
      (accounts t (subst (IsAccountOf t) shows.fuse_is of))) is

  module _ (now : List Entry) (shows_new : Shows new new_told g None)
      (holds : (bodies : List (List ℕ)) (pending : Option (List ℕ)) → DiskHolds old_told bodies pending
      → DiskHolds new_told bodies pending) where
    holds_here : (bodies : List (List ℕ)) (pending : Option (List ℕ)) → DiskHolds s.told bodies pending
        → DiskHolds new.told bodies pending
    holds_here bodies pending is =
        subst (λ (x : Option Told). DiskHolds x bodies pending) (sym shows_new.told_is)
        (holds bodies pending (subst (λ (x : Option Told). DiskHolds x bodies pending) shows.told_is is))

    pub fell_of : (kind : ArmKind)
        → ((t : DiskAccount) → IsAccountOf t f → IsAccountOf (disk_fell t kind of_broken_opening) g)
        → Goes a h (steps.Fell (fall_by kind) None ∷ []) now → IsStored tells decl a h s
        → IsStored tells decl a now new
    fell_of kind accounts goes is =
        unopened_on tells decl a h s new now kind shows.journal_is shows_new.journal_is
        (rw (shows.told_is, shows_new.told_is) tells_on) holds_here
        (λ t of. subst (IsAccountOf (disk_fell t kind of_broken_opening)) (sym shows_new.fuse_is)
        (accounts t (subst (IsAccountOf t) shows.fuse_is of))) goes is

    pub torn_of : (offset : ℕ)
        → ((bodies : List (List ℕ)) (pending : Option (List ℕ)) (t : Told) → old_told ≡ Some t
        → DiskHolds old_told bodies pending → ⊥)
        → ((t : DiskAccount) → IsAccountOf t f → IsAccountOf (disk_called t of_reading) g)
        → Goes a h (steps.Damaged offset ∷ []) now → IsStored tells decl a h s → IsStored tells decl a now new
    torn_of offset never accounts goes is =
        torn_on tells decl a h s new now offset shows.journal_is shows_new.journal_is
        (rw (shows.told_is, shows_new.told_is) tells_on)
        (λ bodies pending t told_is of. never bodies pending t (sym shows.told_is ∙ told_is)
        (subst (λ (x : Option Told). DiskHolds x bodies pending) shows.told_is of)) holds_here
        (λ t of. subst (IsAccountOf (disk_called t of_reading)) (sym shows_new.fuse_is)
        (accounts t (subst (IsAccountOf t) shows.fuse_is of))) goes is
