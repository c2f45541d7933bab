-- Counts of faults of disks and racks.
use Rattle.std.specs.Prelude.{◌≡◌, ℕ, ◌≤◌, Result, Err}
use Rattle.qc_outside.specs.Causes.{Rose, sum_of_faults}
use Rattle.qc_outside.specs.declared.disk.DiskFault.{DiskFault}
use Rattle.qc_outside.specs.declared.disk.DiskFault.TheVariants.{Failed, Stopped, OutOfMemory}
use Rattle.qc_outside.specs.declared.rack.RackFault.{RackFault}
use Rattle.qc_outside.specs.declared.rack.RackFault.TheVariants.{NotEmpty, Failed as RackFailed}
use Rattle.qc_outside.specs.declared.rack.RackFault.TheVariants.{OutOfMemory as RackWants}

-- a disk's count never falls, rises where it failed or stopped, and stands where memory was wanting
pub record DiskRose {T : Type 0} (before now : ℕ) (result : Result T DiskFault) : Type 0 where
  pub later : before ≤ now
  pub failed : result ≡ Err Failed → Rose before now
  pub stopped : result ≡ Err Stopped → Rose before now
  pub wanting : result ≡ Err OutOfMemory → now ≡ before

-- a rack's count never falls, rises where it failed, and stands where memory was wanting
pub record RackRose {T : Type 0} (before now : ℕ) (result : Result T RackFault) : Type 0 where
  pub later : before ≤ now
  pub failed : (actor : ℕ) → result ≡ Err (RackFailed actor) → Rose before now
  pub wanting : result ≡ Err RackWants → now ≡ before

-- a refusal names the actor whose disk was wanted
abbrev pub NamesActor : ℕ → RackFault → Type 0
NamesActor actor (NotEmpty named) = named ≡ actor
NamesActor actor (RackFailed named) = named ≡ actor
NamesActor actor RackWants = Unit {0}

-- the faults of a disk that came back are the rack's too, up to the most that 64 bits hold
pub record IsKept (before disk now : ℕ) : Type 0 where
  pub later : before ≤ now
  pub added : sum_of_faults before disk ≤ now
  pub same : disk ≡ 0 → now ≡ before
