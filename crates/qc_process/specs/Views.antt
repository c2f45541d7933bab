-- What contracts see of an actor's store and of a process.
use Rattle.std.specs.Prelude.{◌≡◌, ℕ, ◌^◌, ◌<◌, ◌≤◌, true, List, Option, Some, None, IfSome, IsSome, MatchOption}
use Rattle.std.specs.Prelude.{length}
use Rattle.qc_core.specs.declared.actor.Actor.{Actor}
use Rattle.qc_core.specs.declared.actor.Actor.TheVariants.{Down}
use Rattle.qc_msg.specs.declared.record.Record.{Record}
use Rattle.qc_msg.specs.declared.step.Fall.{Fall}
use Rattle.qc_msg.specs.declared.step.Fall.TheVariants as falls
use Rattle.qc_msg.specs.declared.turn.Appended.{Appended}
use Rattle.qc_msg.specs.declared.turn.Appended.TheVariants.{Failed, Stopped}
use Rattle.qc_outside.specs.Vocabulary.{Fuse, Told}
use Rattle.qc_outside.specs.declared.disk.ArmKind.{ArmKind}
use Rattle.qc_outside.specs.declared.disk.ArmKind.TheVariants.{Fail, Stop}
use Rattle.qc_record.specs.Vocabulary.{is_legal, most_bytes, spelled}

-- an open journal: where its closed gate stands, and how many records stand before it
pub record OpenJournal : Type 0 where
  pub end : ℕ
  pub records : ℕ

-- an actor's disk, its journal while that is open, and the spelling of the record that is to be written next
pub record StoreView : Type 0 where
  pub told : Option Told
  pub fuse : Fuse
  pub journal : Option OpenJournal
  pub spelling : Option (List ℕ)

-- an actor, and its store
pub record ProcessView : Type 0 where
  pub number : ℕ
  pub actor : Actor
  pub store : StoreView

abbrev pub process_of : ℕ → Actor → StoreView → ProcessView
process_of number actor store = record { number = number; actor = actor; store = store }

-- another record waits to be written, or none
pub record IsSameStore (old new : StoreView) : Type 0 where
  pub told : new.told ≡ old.told
  pub fuse : new.fuse ≡ old.fuse
  pub journal : new.journal ≡ old.journal

-- the store is open where its actor is up
abbrev pub IsOpenWhileUp : Actor → StoreView → Type 0
IsOpenWhileUp actor s = MatchOption s.journal (actor ≡ Down) (λ o. actor ≡ Down → ⊥)

abbrev pub IsUp : StoreView → Type 0
IsUp s = IsSome s.journal

-- so few records that one more can be written
abbrev pub HasFewRecords : StoreView → Type 0
HasFewRecords s = IfSome s.journal (λ o. o.records < 2 ^ 32)

-- a record that a journal takes: it has a spelling, of no more bytes than a body may have
pub record IsWritable (written : Record) : Type 0 where
  pub legal : is_legal written ≡ true
  pub short : length (spelled written) ≤ most_bytes

-- a turn's record, if it has one, is such a record, and the store is up and takes one more
abbrev pub MayWrite : Option Record → StoreView → Type 0
MayWrite None s = Unit {0}
MayWrite (Some written) s = IsWritable written × IsUp s × HasFewRecords s

-- what became of a record where its disk failed or stopped
abbrev pub appended_by : ArmKind → Appended
appended_by Fail = Failed
appended_by Stop = Stopped

-- why an actor fell whose disk failed or stopped
abbrev pub fall_by : ArmKind → Fall
fall_by Fail = falls.Disk
fall_by Stop = falls.Stop
