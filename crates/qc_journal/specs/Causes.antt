-- Which error comes when.
use Rattle.std.specs.Prelude.{◌≡◌, ℕ, ◌≤◌, Result, Err}
use Rattle.qc_outside.specs.Vocabulary.{Rose}
use Rattle.qc_journal.specs.declared.fault.JournalFault.{JournalFault}
use Rattle.qc_journal.specs.declared.fault.JournalFault.TheVariants.{Failed, Stopped, OutOfMemory}
use Rattle.qc_outside.specs.declared.disk.DiskFault.{DiskFault}
use Rattle.qc_outside.specs.declared.disk.DiskFault.TheVariants.{Failed as DiskFails, Stopped as DiskStops}
use Rattle.qc_outside.specs.declared.disk.DiskFault.TheVariants.{OutOfMemory as DiskWants}

-- the journal failed or stopped only where the disk's count rose
pub record JournalRose {T : Type 0} (before now : ℕ) (result : Result T JournalFault) : Type 0 where
  pub later : before ≤ now
  pub failed : result ≡ Err Failed → Rose before now
  pub stopped : result ≡ Err Stopped → Rose before now

-- a disk's fault, told by the journal
abbrev pub of_disk : DiskFault → JournalFault
of_disk DiskFails = Failed
of_disk DiskStops = Stopped
of_disk DiskWants = OutOfMemory
