-- A store that was begun, and one whose open journal is given up.
use Rattle.std.proofs.Common.{◌≡◌, ℕ, ◌≤◌, Bool, true, List, [], ◌∷◌, Option, Some, None, IsSome, length, refl, sym}
use Rattle.std.proofs.Common.{◌∙◌, ap, arith, subst, Err}
use Rattle.qc_decl.specs.declared.declaration.Declaration.{Declaration}
use Rattle.qc_journal.specs.Vocabulary.{IsNoJournal, JournalRose, Rests}
use Rattle.qc_journal.specs.declared.fault.JournalFault.{JournalFault}
use Rattle.qc_journal.specs.declared.fault.JournalFault.TheVariants as faults
use Rattle.qc_msg.specs.Vocabulary.{Entry, own}
use Rattle.qc_outside.specs.Vocabulary.{Fuse, Rose, Tells, Told, as_read, settled}
use Rattle.qc_outside.specs.declared.rack.RackFault.{RackFault}
use Rattle.qc_outside.specs.declared.rack.RackFault.TheVariants as racks
use Rattle.qc_promise.specs.Vocabulary.{IsEverInTime, IsInTime, Journal, journal_of, no_disk_account, no_journal}
use Rattle.qc_store.specs.Vocabulary.{DiskHasJournal, IsAccountOf}
use Rattle.qc_process.specs.Vocabulary.{IsPlaced, IsStartRefused, IsStored, IsTold, OpenJournal, StoreView, bodies_of}
use Rattle.qc_process.specs.Vocabulary.{not_begun}
use Rattle.qc_process.proofs.Appending.{Shows}
use Rattle.qc_process.proofs.Own.{none_kept}

pub none_in : {X : Type 0} (xs : List X) → length xs ≡ 0 → xs ≡ []
none_in [] none = refl
none_in (x ∷ xs) none = absurd (omega (arith, none))

none_waits : IsInTime no_disk_account
none_waits w waits = absurd (cc waits)

first_in_time : (a : ℕ) → IsEverInTime a []
first_in_time a [] later is = none_waits
first_in_time a (e ∷ before) later is = absurd (cc is)

pub nothing_told : (tells : Bool) (decl : Declaration) (a : ℕ) → IsTold tells decl a [] no_journal no_disk_account
nothing_told tells decl a = record {
  store = record { journal_is = refl; account_is = refl; kept = λ no. absurd (cc no); in_time = first_in_time a };
  kept = λ yes. none_kept decl a;
  legal = tt;
  legal_pending = tt;
  few = omega arith;
}

pub begun : (tells : Bool) (decl : Declaration) (a : ℕ) (new : StoreView) (o : OpenJournal) → new.journal ≡ Some o
    → IsAccountOf no_disk_account new.fuse → Rests new.told o.end [] → o.records ≡ 0
    → (tells ≡ true → IsSome new.told) → IsStored tells decl a [] new
begun tells decl a new o is_open counted rests none still = record {
  records = no_journal;
  account = no_disk_account;
  told_by = nothing_told tells decl a;
  still = still;
  accounted = counted;
  placed = rw is_open (rests, refl, none);
}

empty_told : (old new : Option Told) (offset : ℕ) (t : Told)
    → Tells old new (λ x y. IsNoJournal offset (as_read x.now)) → old ≡ Some t → t.now ≡ settled [] → ⊥
empty_told None new offset t tells is empty = absurd (cc is)
empty_told (Some o) None offset t tells is empty = absurd tells
empty_told (Some o) (Some n) offset t tells is empty =
    let same : ◌≡◌ {A = Told} o t = cc is in
    let whole : as_read o.now ≡ [] = ap (λ (x : Told). as_read x.now) same ∙ ap as_read empty in
    let short : length (as_read o.now) ≡ 0 = ap length whole in
    omega (arith, tells.0, short)

pub not_begun_as : (actor : ℕ) (old new : Option Told) (before now : ℕ) (fault : JournalFault)
    → JournalRose {T = Unit {0}} before now (Err fault)
    → ((offset : ℕ) → fault ≡ faults.Torn offset → Tells old new (λ x y. IsNoJournal offset (as_read x.now)))
    → IsStartRefused actor old before now (not_begun actor fault)
not_begun_as actor old new before now faults.Failed rose torn = (refl, rose.failed refl)
not_begun_as actor old new before now faults.Stopped rose torn = (refl, rose.stopped refl)
not_begun_as actor old new before now (faults.Torn offset) rose torn =
    (refl, λ t is empty. empty_told old new offset t (torn offset refl) is empty)
not_begun_as actor old new before now faults.OutOfMemory rose torn = tt

pub refused_later : (actor : ℕ) (old mid : Option Told) (before between now : ℕ) (fault : RackFault) → mid ≡ old
    → before ≤ between → IsStartRefused actor mid between now fault → IsStartRefused actor old before now fault
refused_later actor old mid before between now (racks.NotEmpty a) same later is =
    (is.0, λ t told empty. is.1 t (same ∙ told) empty)
refused_later actor old mid before between now (racks.Failed a) same later is =
    (is.0, (let rose : Rose between now = is.1 in omega (arith, rose, later)))
refused_later actor old mid before between now racks.OutOfMemory same later is = tt

-- an open journal stays begun

module _ (tells : Bool) (decl : Declaration) (a : ℕ) (h : List Entry) (s : StoreView) (o : OpenJournal)
    (old new : Option Told) (f : Fuse) (shows : Shows s old f (Some o))
    (begun : (bodies : List (List ℕ)) → Rests old o.end bodies → DiskHasJournal new bodies) where
  rests_here : (j : Journal) → IsPlaced s.told s.journal j → Rests old o.end (bodies_of j.records)
  rests_here j placed =
      let at : IsPlaced s.told (Some o) j =
      subst (λ (open_as : Option OpenJournal). IsPlaced s.told open_as j) shows.journal_is placed in
      subst (λ (t : Option Told). Rests t o.end (bodies_of j.records)) shows.told_is at.0

  pub stays_begun : IsStored tells decl a h s → DiskHasJournal new (bodies_of (journal_of (own a h)).records)
  stays_begun is =
      subst (λ (j : Journal). DiskHasJournal new (bodies_of j.records)) (sym is.told_by.store.journal_is)
      (begun (bodies_of is.records.records) (rests_here is.records is.placed))
