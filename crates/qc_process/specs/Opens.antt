-- What a restart finds, and what it makes of a process.
use Rattle.std.specs.Prelude.{◌≡◌, ℕ, Bool, true, List, [], ◌∷◌, Option, Some, None, option_map}
use Rattle.qc_core.specs.Vocabulary.{actor_rises, moved}
use Rattle.qc_core.specs.declared.actor.Actor.TheVariants.{Down}
use Rattle.qc_decl.specs.declared.declaration.Declaration.{Declaration}
use Rattle.qc_journal.specs.declared.fault.JournalFault.{JournalFault}
use Rattle.qc_journal.specs.declared.fault.JournalFault.TheVariants as journal_faults
use Rattle.qc_msg.specs.Vocabulary.{Entry, IsByDisk}
use Rattle.qc_msg.specs.declared.record.Record.{Record}
use Rattle.qc_msg.specs.declared.record.Record.TheVariants.{Life}
use Rattle.qc_msg.specs.declared.step.Step.{Step}
use Rattle.qc_msg.specs.declared.step.Step.TheVariants.{Damaged, Fell, Rose}
use Rattle.qc_msg.specs.declared.turn.Turn.{Turn}
use Rattle.qc_outside.specs.Vocabulary.{Rose as CountRose, Told, as_read, settled}
use Rattle.qc_outside.specs.declared.rack.RackFault.{RackFault}
use Rattle.qc_outside.specs.declared.rack.RackFault.TheVariants.{Failed, NotEmpty, OutOfMemory}
use Rattle.qc_record.specs.Vocabulary.{spelled}
use Rattle.qc_process.specs.Fitting.{AreLegal, IsDamaged, all_fit}
use Rattle.qc_process.specs.Goes.{Goes}
use Rattle.qc_process.specs.Stored.{IsOnDisk, IsOpened, IsStored, bodies_of}
use Rattle.qc_process.specs.Views.{HasFewRecords, ProcessView, StoreView}
use Rattle.qc_process.specs.declared.opened.Opened.{Opened}
use Rattle.qc_process.specs.declared.opened.Opened.TheVariants as opens

-- the store goes on with a history in which its actor did this
abbrev pub GoesOn : Declaration → ℕ → StoreView → List Step → StoreView → Type 0
GoesOn decl a old own new = (tells : Bool) (h now : List Entry) → Goes a h own now → IsStored tells decl a h old
    → IsStored tells decl a now new

-- the disk holds what it held after the same history
abbrev pub StaysOnDisk : Declaration → StoreView → StoreView → Type 0
StaysOnDisk decl old new = (tells : Bool) (a : ℕ) (h : List Entry) → IsStored tells decl a h old
    → IsOnDisk tells decl a h new.told new.fuse.unarmed

-- The actor rose with these records, which all fit it: it is what they make of it, and the record of its new life
-- waits to be written.
pub record HasRisen (decl : Declaration) (old new : ProcessView) (records : List Record) (turn : Turn) : Type 0 where
  pub number_is : new.number ≡ old.number
  pub rises : actor_rises decl new.number records ≡ moved new.actor turn
  pub fit : all_fit decl new.number 0 records ≡ true
  pub legal : AreLegal records
  pub write_is : turn.write ≡ Some Life
  pub waits : new.store.spelling ≡ option_map spelled turn.write
  pub is_up : new.actor ≡ Down → ⊥
  pub few : HasFewRecords new.store
  pub opened : (tells : Bool) (a : ℕ) (h : List Entry) → IsStored tells decl a h old.store
      → IsOpened tells decl a h (bodies_of records) new.store
  pub goes : GoesOn decl new.number old.store (Rose records ∷ []) new.store

-- the actor stays down
pub record StaysDown (decl : Declaration) (old new : ProcessView) (own : List Step) : Type 0 where
  pub number_is : new.number ≡ old.number
  pub actor_is : new.actor ≡ Down
  pub is_down : new.store.journal ≡ None
  pub goes : GoesOn decl new.number old.store own new.store

abbrev pub OpensAs : Declaration → ProcessView → ProcessView → Opened → Type 0
OpensAs decl old new (opens.Rose records turn) = HasRisen decl old new records turn
OpensAs decl old new (opens.Damaged offset) = StaysDown decl old new (Damaged offset ∷ [])
    × ((t : Told) → old.store.told ≡ Some t → IsDamaged decl old.number offset (as_read t.now))
OpensAs decl old new (opens.NotOpened cause) = StaysDown decl old new (Fell cause None ∷ []) × IsByDisk cause

-- Why no journal was begun on a disk: it wasn't empty, if it tells; or it failed or stopped, and its count rose.
abbrev pub IsStartRefused : ℕ → Option Told → ℕ → ℕ → RackFault → Type 0
IsStartRefused number told before now (NotEmpty actor) =
    (actor ≡ number) × ((t : Told) → told ≡ Some t → t.now ≡ settled [] → ⊥)
IsStartRefused number told before now (Failed actor) = (actor ≡ number) × CountRose before now
IsStartRefused number told before now OutOfMemory = Unit {0}

-- a disk that holds a journal isn't empty; what fails is the disk
abbrev pub not_begun : ℕ → JournalFault → RackFault
not_begun actor journal_faults.Failed = Failed actor
not_begun actor journal_faults.Stopped = Failed actor
not_begun actor (journal_faults.Torn offset) = NotEmpty actor
not_begun actor journal_faults.OutOfMemory = OutOfMemory
