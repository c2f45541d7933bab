-- Faults that are armed on a disk, and those that it has of itself: what one call makes of both, and what several make.
use Rattle.std.specs.Prelude.{◌≡◌, ◌⊎◌, ℕ, ◌-◌, ◌<◌, ◌≤◌, Option, Some, None, Result, Ok, Err}
use Rattle.qc_outside.specs.Arms.{Armed, acting, armed_after}
use Rattle.qc_outside.specs.Causes.{Rose}
use Rattle.qc_outside.specs.Disk.{DiskRose}
use Rattle.qc_outside.specs.declared.disk.ArmKind.{ArmKind}
use Rattle.qc_outside.specs.declared.disk.ArmKind.TheVariants.{Fail, Stop}
use Rattle.qc_outside.specs.declared.disk.DiskFault.{DiskFault}
use Rattle.qc_outside.specs.declared.disk.DiskFault.TheVariants.{Failed, Stopped, OutOfMemory}

-- what is armed, and how many faults came that weren't, or more
pub record Fuse : Type 0 where
  pub armed : Armed
  pub unarmed : ℕ

-- a disk on which nothing is ever armed
abbrev pub no_fuse : ℕ → Fuse
no_fuse faults = record { armed = None; unarmed = faults }

-- what a call answers in which an arm acts
abbrev pub fault_of : ArmKind → DiskFault
fault_of Fail = Failed
fault_of Stop = Stopped

-- where an arm acts it is the answer; else a fault is the disk's own
abbrev pub IsBlamed : {T : Type 0} → Option ArmKind → ℕ → ℕ → Result T DiskFault → Type 0
IsBlamed None before now result = DiskRose before now result
IsBlamed (Some kind) before now result = (result ≡ Err (fault_of kind)) × (before ≤ now)

-- a call that counts for what is armed: a write or a sync
pub record Burns {T : Type 0} (old new : Fuse) (result : Result T DiskFault) : Type 0 where
  pub left : new.armed ≡ armed_after old.armed
  pub blamed : IsBlamed (acting old.armed) old.unarmed new.unarmed result

-- a call that doesn't count for it, whose fault is the disk's own
pub record BurnsNothing {T : Type 0} (old new : Fuse) (result : Result T DiskFault) : Type 0 where
  pub left : new.armed ≡ old.armed
  pub blamed : DiskRose old.unarmed new.unarmed result

-- a fall of the disk: what is armed stays armed
pub record KeepsArm (old new : Fuse) : Type 0 where
  pub left : new.armed ≡ old.armed
  pub later : old.unarmed ≤ new.unarmed

-- Several calls. Only those are counted that count for what is armed.

-- what is armed after so many calls in which it hasn't acted
abbrev pub IsArmedAfter : ℕ → Armed → Armed → Type 0
IsArmedAfter calls None new = new ≡ None
IsArmedAfter calls (Some arm) new = (new ≡ Some (arm.0, arm.1 - calls)) × (0 < arm.1 → calls < arm.1)

-- so many calls, at least and at most, and in none an arm acted
pub record HasPassed (fewest most : ℕ) (old new : Fuse) : Type 0 where
  pub calls : ℕ
  pub some : fewest ≤ calls
  pub few : calls ≤ most
  pub left : IsArmedAfter calls old.armed new.armed
  pub later : old.unarmed ≤ new.unarmed

-- in one of so many calls, at most, an arm of that kind acted
pub record HasActed (most : ℕ) (kind : ArmKind) (old new : Fuse) : Type 0 where
  pub at : ℕ
  pub was : old.armed ≡ Some (kind, at)
  pub soon : at ≤ most
  pub none : new.armed ≡ None
  pub later : old.unarmed ≤ new.unarmed

-- in the last of so many calls came a fault of the disk's own, and in none an arm acted
pub record HasFailed (fewest most : ℕ) (old new : Fuse) : Type 0 where
  pub calls : ℕ
  pub some : fewest ≤ calls
  pub few : calls ≤ most
  pub left : IsArmedAfter calls old.armed new.armed
  pub later : old.unarmed ≤ new.unarmed
  pub rose : Rose old.unarmed new.unarmed

abbrev pub HasFaulted : ℕ → ℕ → ArmKind → Fuse → Fuse → Type 0
HasFaulted fewest most kind old new = HasActed most kind old new ⊎ HasFailed fewest most old new

-- a fault after so many calls, at least and at most; where memory was wanting, the disk's own faults are no fewer
abbrev pub IsRefused : ℕ → ℕ → Fuse → Fuse → DiskFault → Type 0
IsRefused fewest most old new Failed = HasFaulted fewest most Fail old new
IsRefused fewest most old new Stopped = HasFaulted fewest most Stop old new
IsRefused fewest most old new OutOfMemory = old.unarmed ≤ new.unarmed

-- several calls and their answer: fewest and most where all went well, and at least that least where one didn't
abbrev pub BurnsMany : {T : Type 0} → ℕ → ℕ → ℕ → Fuse → Fuse → Result T DiskFault → Type 0
BurnsMany least fewest most old new (Ok done) = HasPassed fewest most old new
BurnsMany least fewest most old new (Err e) = IsRefused least most old new e
