-- Arms: faults that are to act in a disk's call to come.
use Rattle.std.specs.Prelude.{◌≡◌, ℕ, ◌-◌, Option, Some, None, Result, Err, nat_le, if◌then◌else◌}
use Rattle.qc_outside.specs.Causes.{one_more}
use Rattle.qc_outside.specs.Images.{Told}
use Rattle.qc_outside.specs.declared.disk.ArmKind.{ArmKind}
use Rattle.qc_outside.specs.declared.disk.ArmKind.TheVariants.{Fail, Stop}
use Rattle.qc_outside.specs.declared.disk.DiskFault.{DiskFault}
use Rattle.qc_outside.specs.declared.disk.DiskFault.TheVariants.{Failed, Stopped}

-- what is armed: a kind, and the number of the call in which it acts, counted from the next one on
abbrev pub Armed : Type 0
Armed = Option (ArmKind × ℕ)

-- what acts in the next call
abbrev pub acting : Armed → Option ArmKind
acting None = None
acting (Some arm) = if nat_le arm.1 1 then Some arm.0 else None

-- what is armed after it
abbrev pub armed_after : Armed → Armed
armed_after None = None
armed_after (Some arm) = if nat_le arm.1 1 then None else Some (arm.0, arm.1 - 1)

-- how many have acted after it
abbrev pub acted_after : Option ArmKind → ℕ → ℕ
acted_after None count = count
acted_after (Some kind) count = one_more count

-- what the call answers where an arm acts; one that fails leaves the disk as it is
abbrev pub Acts : Option ArmKind → Result (Unit {0}) DiskFault → Option Told → Option Told → Type 0
Acts None result old new = Unit {0}
Acts (Some Fail) result old new = (result ≡ Err Failed) × (new ≡ old)
Acts (Some Stop) result old new = result ≡ Err Stopped
