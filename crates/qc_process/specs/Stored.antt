-- What is known of an actor's store and of its process after a history. `tells` is true only where the disk tells.
use Rattle.std.specs.Prelude.{◌≡◌, ℕ, ◌+◌, ◌^◌, ◌≤◌, Bool, true, false, List, [], Option, Some, None, IsSome, length}
use Rattle.std.specs.Prelude.{map, option_map}
use Rattle.qc_core.specs.Vocabulary.{actor_after}
use Rattle.qc_decl.specs.declared.declaration.Declaration.{Declaration}
use Rattle.qc_journal.specs.Vocabulary.{Rests}
use Rattle.qc_msg.specs.Vocabulary.{Entry, deeds, own}
use Rattle.qc_msg.specs.declared.record.Record.{Record}
use Rattle.qc_msg.specs.declared.turn.Turn.{Turn}
use Rattle.qc_outside.specs.Vocabulary.{Told}
use Rattle.qc_promise.specs.Vocabulary.{DiskAccount, IsStoreOf, Journal, disk_called}
use Rattle.qc_record.specs.Vocabulary.{is_legal, spelled}
use Rattle.qc_store.specs.Vocabulary.{AreGiven, DiskHolds, IsAccountOf, IsCounted, of_bodies}
use Rattle.qc_process.specs.Fitting.{AreKeptOrUnfit, AreLegal}
use Rattle.qc_process.specs.Views.{OpenJournal, ProcessView, StoreView}

-- the bodies of records in a journal

abbrev pub bodies_of : List Record → List (List ℕ)
bodies_of rs = map spelled rs

abbrev pub body_of : Option Record → Option (List ℕ)
body_of r = option_map spelled r

abbrev pub IsLegalPending : Option Record → Type 0
IsLegalPending None = Unit {0}
IsLegalPending (Some r) = is_legal r ≡ true

-- What an actor's history tells: its journal and its disk's account. Its records were kept, or found damaged where one
-- doesn't fit; no fault waited past its call; its records have spellings, and are few.
pub record IsTold (tells : Bool) (decl : Declaration) (a : ℕ) (h : List Entry) (j : Journal) (t : DiskAccount) : Type 0
  where
    pub store : IsStoreOf false a h j t
    pub kept : tells ≡ true → AreKeptOrUnfit decl a (own a h)
    pub legal : AreLegal j.records
    pub legal_pending : IsLegalPending j.pending
    pub few : length j.records ≤ 2 ^ 31 + length h

-- what the disk holds of this: the records of an open journal; else those, with the pending one or without it
abbrev pub IsPlaced : Option Told → Option OpenJournal → Journal → Type 0
IsPlaced told (Some o) j = Rests told o.end (bodies_of j.records) × (j.pending ≡ None) × (o.records ≡ length j.records)
IsPlaced told None j = DiskHolds told (bodies_of j.records) (body_of j.pending)

-- a store after this history
pub record IsStored (tells : Bool) (decl : Declaration) (a : ℕ) (h : List Entry) (s : StoreView) : Type 0 where
  pub records : Journal
  pub account : DiskAccount
  pub told_by : IsTold tells decl a h records account
  pub still : tells ≡ true → IsSome s.told
  pub accounted : IsAccountOf account s.fuse
  pub placed : IsPlaced s.told s.journal records

-- a store whose journal was just opened after this history, and gave these bodies: the actor's records, with the
-- pending one or without it, where its disk tells
pub record IsOpened (tells : Bool) (decl : Declaration) (a : ℕ) (h : List Entry) (bodies : List (List ℕ))
    (s : StoreView) : Type 0 where
  pub records : Journal
  pub account : DiskAccount
  pub told_by : IsTold tells decl a h records account
  pub still : tells ≡ true → IsSome s.told
  pub given : IsSome s.told → AreGiven (bodies_of records.records) (body_of records.pending) bodies
  pub accounted : IsAccountOf (disk_called account (of_bodies bodies)) s.fuse
  pub open_journal : OpenJournal
  pub is_open : s.journal ≡ Some open_journal
  pub rests : Rests s.told open_journal.end bodies
  pub counted : open_journal.records ≡ length bodies

-- A disk, with its own count of faults, after this history: it holds the actor's records, with the pending one or
-- without it, and counted the falls that nothing armed can have made.
pub record IsOnDisk (tells : Bool) (decl : Declaration) (a : ℕ) (h : List Entry) (told : Option Told) (count : ℕ)
    : Type 0 where
  pub records : Journal
  pub account : DiskAccount
  pub told_by : IsTold tells decl a h records account
  pub still : tells ≡ true → IsSome told
  pub holds : DiskHolds told (bodies_of records.records) (body_of records.pending)
  pub counted : IsCounted account.unarmed count

-- the record of the turn waits in the store to be written
pub record Spells (turn : Turn) (s : StoreView) : Type 0 where
  pub legal : IsLegalPending turn.write
  pub spelling_is : s.spelling ≡ option_map spelled turn.write

-- a process after this history: its actor is what its deeds make of it
pub record IsProcess (tells : Bool) (decl : Declaration) (a : ℕ) (h : List Entry) (p : ProcessView) : Type 0 where
  pub number_is : p.number ≡ a
  pub actor_is : p.actor ≡ (actor_after decl a (deeds a [] h)).actor
  pub stored : IsStored tells decl a h p.store
