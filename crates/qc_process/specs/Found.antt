-- What the bodies of a journal that was opened give, and what becomes of it.
use Rattle.std.specs.Prelude.{◌≡◌, ℕ, Bool, List, [], ◌∷◌, Some, None, Result, Ok, Err, option_map}
use Rattle.qc_core.specs.Vocabulary.{actor_rises, moved}
use Rattle.qc_core.specs.declared.actor.Actor.{Actor}
use Rattle.qc_core.specs.declared.actor.Actor.TheVariants.{Down}
use Rattle.qc_decl.specs.declared.declaration.Declaration.{Declaration}
use Rattle.qc_msg.specs.Vocabulary.{Entry}
use Rattle.qc_msg.specs.declared.record.Record.{Record}
use Rattle.qc_msg.specs.declared.record.Record.TheVariants.{Life}
use Rattle.qc_msg.specs.declared.step.Step.TheVariants.{Damaged}
use Rattle.qc_msg.specs.declared.turn.Turn.{Turn}
use Rattle.qc_record.specs.Vocabulary.{spelled}
use Rattle.qc_store.specs.declared.store.RiseFault.{RiseFault}
use Rattle.qc_store.specs.declared.store.RiseFault.TheVariants as faults
use Rattle.std.specs.declared.alloc.AllocError.{AllocError}
use Rattle.qc_process.specs.Fitting.{AreUnfit, IsFirstUnfit}
use Rattle.qc_process.specs.Goes.{Goes}
use Rattle.qc_process.specs.Reading.{ReadsFit}
use Rattle.qc_process.specs.Stored.{IsOnDisk, IsOpened, IsStored}
use Rattle.qc_process.specs.Views.{HasFewRecords, StoreView, fall_by}
use Rattle.qc_process.specs.declared.opened.Opened.{Opened}
use Rattle.qc_process.specs.declared.opened.Opened.TheVariants as opens
use Rattle.qc_process.specs.declared.restart.Found.{Found}
use Rattle.qc_process.specs.declared.restart.Found.TheVariants as found

-- the records fit, their actor rises, and the record of its new life waits in the store
pub record RisesFrom (decl : Declaration) (a : ℕ) (bodies : List (List ℕ)) (s : StoreView) (actor : Actor)
    (records : List Record) (turn : Turn) : Type 0 where
  pub reads : ReadsFit decl a bodies records
  pub rises : actor_rises decl a records ≡ moved actor turn
  pub is_up : actor ≡ Down → ⊥
  pub write_is : turn.write ≡ Some Life
  pub waits : s.spelling ≡ option_map spelled turn.write
  pub few : HasFewRecords s

abbrev pub FoundAs : Declaration → ℕ → List (List ℕ) → StoreView → Found → Type 0
FoundAs decl a bodies s (found.Risen actor records turn) = RisesFrom decl a bodies s actor records turn
FoundAs decl a bodies s (found.Unfit offset) = AreUnfit decl a bodies × IsFirstUnfit decl a bodies offset

-- a journal that was given up as it was opened: damage was found, or memory was wanting
pub record IsGivenUp (old new : StoreView) : Type 0 where
  pub is_down : new.journal ≡ None
  pub damaged : (tells : Bool) (decl : Declaration) (a : ℕ) (h now : List Entry) (bodies : List (List ℕ)) (offset : ℕ)
      → IsOpened tells decl a h bodies old → AreUnfit decl a bodies → Goes a h (Damaged offset ∷ []) now
      → IsStored tells decl a now new
  pub on_disk : (tells : Bool) (decl : Declaration) (a : ℕ) (h : List Entry) (bodies : List (List ℕ))
      → IsOpened tells decl a h bodies old → IsOnDisk tells decl a h new.told new.fuse.unarmed

abbrev pub IsRiseOrFall : StoreView → StoreView → Result Found AllocError → Result (Actor × Opened) AllocError → Type 0
IsRiseOrFall old new (Ok (found.Risen actor records turn)) result =
    (result ≡ Ok (actor, opens.Rose records turn)) × (new ≡ old)
IsRiseOrFall old new (Ok (found.Unfit offset)) result =
    (result ≡ Ok (Down, opens.Damaged offset)) × IsGivenUp old new
IsRiseOrFall old new (Err error) result = (result ≡ Err error) × IsGivenUp old new

-- a journal that wasn't opened
abbrev pub IsNotOpened : RiseFault → Result Opened AllocError → Type 0
IsNotOpened (faults.Fell kind) result = result ≡ Ok (opens.NotOpened (fall_by kind))
IsNotOpened (faults.Torn offset) result = result ≡ Ok (opens.Damaged offset)
IsNotOpened faults.OutOfMemory result = (error : AllocError) × (result ≡ Err error)
