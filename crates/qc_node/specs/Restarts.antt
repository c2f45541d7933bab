-- What a restart found, and how its record is written.
use Rattle.std.specs.Prelude.{◌≡◌, ℕ, Bool, List, None}
use Rattle.qc_core.specs.declared.actor.Actor.TheVariants.{Down}
use Rattle.qc_decl.specs.declared.declaration.Declaration.{Declaration}
use Rattle.qc_msg.specs.Vocabulary.{Entry, posted_as}
use Rattle.qc_msg.specs.declared.turn.Appended.{Appended}
use Rattle.qc_msg.specs.declared.turn.Appended.TheVariants.{Done}
use Rattle.qc_msg.specs.declared.turn.Turn.{Turn}
use Rattle.qc_process.specs.Vocabulary.{Goes, IsOnDisk, IsOpened, IsStored, ProcessView, Spells}
use Rattle.qc_process.specs.declared.opened.Opened.{Opened}
use Rattle.qc_process.specs.declared.opened.Opened.TheVariants as opens
use Rattle.qc_fabric.specs.declared.rising.Rising.{Rising}
use Rattle.qc_fabric.specs.declared.rising.Rising.TheVariants as risings

-- what the process found
abbrev pub opened_of : Rising → Opened
opened_of (risings.Rose records turn) = opens.Rose records turn
opened_of (risings.Damaged offset) = opens.Damaged offset
opened_of (risings.NotOpened cause) = opens.NotOpened cause

-- A process that rose, and is given up: its disk holds what it held before the journal was opened.
pub record IsClosed (opened new : ProcessView) : Type 0 where
  pub is_down : new.store.journal ≡ None
  pub on_disk : (tells : Bool) (decl : Declaration) (a : ℕ) (h : List Entry) (bodies : List (List ℕ))
      → IsOpened tells decl a h bodies opened.store → IsOnDisk tells decl a h new.store.told new.store.fuse.unarmed

-- the record that was spelled was written, or the actor fell as it was to be
pub record Appends (old new : ProcessView) (end : Appended) : Type 0 where
  pub number : new.number ≡ old.number
  pub stays : end ≡ Done → new.actor ≡ old.actor
  pub falls : (end ≡ Done → ⊥) → new.actor ≡ Down
  pub goes : (tells : Bool) (decl : Declaration) (a : ℕ) (h now : List Entry) (turn : Turn) (first : ℕ)
      → Spells turn old.store → Goes a h (posted_as end first turn) now
      → IsStored tells decl a h old.store → IsStored tells decl a now new.store

-- a rise, with what became of the record of its turn
abbrev pub with_end : Appended → Rising → Rising
with_end end (risings.Rose records turn) = risings.Rose records (record turn { append = end })
with_end end (risings.Damaged offset) = risings.Damaged offset
with_end end (risings.NotOpened cause) = risings.NotOpened cause

abbrev pub IsAppended : ProcessView → ProcessView → Rising → Appended → Type 0
IsAppended old new (risings.Rose records turn) end = Appends old new end
IsAppended old new (risings.Damaged offset) end = new ≡ old
IsAppended old new (risings.NotOpened cause) end = new ≡ old

-- only a process that rose writes something
pub record IsRecorded (old new : ProcessView) (rising result : Rising) : Type 0 where
  pub end : Appended
  pub result_is : result ≡ with_end end rising
  pub appends : IsAppended old new rising end
