-- What a call does with a rack: disks are taken for a run alone, and go back to their places.
use Rattle.std.specs.Prelude.{◌≡◌, ◌≢◌, ℕ, ◌-◌, ◌^◌, ◌<◌, ◌≤◌, List, Option, Ok, Err, IsSome}
use Rattle.qc_decl.specs.declared.declaration.Declaration.{Declaration}
use Rattle.qc_msg.specs.Vocabulary.{Entry}
use Rattle.qc_node.specs.Vocabulary.{AreEmpty, HoldJournals, IsRefused}
use Rattle.qc_outside.specs.Vocabulary.{Places}
use Rattle.qc_outside.specs.declared.rack.RackFault.{RackFault}
use Rattle.qc_outside.specs.declared.rack.RackFault.TheVariants as racks
use Rattle.qc_promise.specs.Vocabulary.{Kept, Spent}
use Rattle.qc_report.specs.declared.cause.Cause.{Cause}
use Rattle.qc_report.specs.declared.cause.Cause.TheVariants as causes
use Rattle.qc_script.specs.Vocabulary.{phase_of}
use Rattle.qc_top.specs.Work.{Caused}
use Rattle.qc_top.specs.declared.work.Work.{Work}
use Rattle.qc_top.specs.declared.work.Work.TheVariants as works

-- the cause for a disk that wasn't given; want of memory is no fault of the rack
abbrev pub cause_of_rack : RackFault → Cause
cause_of_rack (racks.NotEmpty actor) = causes.Rack (racks.NotEmpty actor)
cause_of_rack (racks.Failed actor) = causes.Rack (racks.Failed actor)
cause_of_rack racks.OutOfMemory = causes.OutOfMemory

-- The rack is blamed only where the actor's place held bytes, or where its count rose; want of memory isn't its fault.
abbrev pub IsRackBlamed : Option (List ℕ) → Option Places → ℕ → ℕ → RackFault → Type 0
IsRackBlamed folder told before now fault = IsRefused folder told before now fault × (fault ≢ racks.OutOfMemory)

-- Where the rack tells and a phase began: in this folder, or without one, no actor's place held a byte before, and each
-- holds its journal now.
pub record FillsPlaces (folder : Option (List ℕ)) (decl : Declaration) (before after : Option Places) (h : List Entry)
    : Type 0 where
  pub empty : 1 ≤ phase_of h → AreEmpty folder decl before
  pub journals : 1 ≤ phase_of h → HoldJournals folder decl h after

-- What a call leaves of the rack, by what it had to do; told says what the places of a rack hold. Where no script is
-- run, the rack is left as it was.
abbrev pub LeavesRack : {R : Type 0} → Option (List ℕ) → (R → Option Places) → Caused Work → R → R → List Entry → Type 0
LeavesRack folder told (Err why) before after h = after ≡ before
LeavesRack folder told (Ok (works.Accept decl)) before after h = after ≡ before
LeavesRack folder told (Ok (works.Run decl script output)) before after h =
    FillsPlaces folder decl (told before) (told after) h

-- What every call leaves of a rack: faults counts those of its disks too.
pub record IsUsed {R : Type 0} (folder : Option (List ℕ)) (faults : R → ℕ) (told : R → Option Places)
    (before after : R) (cause : Cause) (h : List Entry) : Type 0 where
  -- the falls by disks are within the rise of the count, as long as 64 bits hold it
  pub spent : faults after < 2 ^ 64 - 1 → Spent h (faults after - faults before)
  -- records are kept, where the rack tells what its places hold
  pub kept : IsSome (told before) → Kept h
  pub tells : IsSome (told before) → IsSome (told after)
  pub later : faults before ≤ faults after
  pub blame : (fault : RackFault) → cause ≡ causes.Rack fault
      → IsRackBlamed folder (told before) (faults before) (faults after) fault
