use Rattle.std.proofs.Common.{◌≡◌, ℕ, ◌-◌, ◌*◌, ◌<◌, ◌≤◌, length, Some}
use Rattle.qc_outside.specs.Vocabulary.{Fuse, HasPassed, Told, as_read}
use Rattle.qc_journal.specs.Vocabulary.{AreShort, Passed, lists}
use Rattle.qc_journal.proofs.reading.read_records.Given as goal

pub record Reading (same : Type 0) (x y : Fuse) (before now at len count : ℕ) (each passed : Type 0) : Type 0 where
  pub fuse : HasPassed 0 0 x y
  pub told : same
  pub faults : before ≤ now
  pub within : at < len
  pub short : at ≤ 65541 * count
  pub bodies : each
  pub passed_is : passed

abbrev pub invariant-records : goal.invariant-records
invariant-records g l =
    Reading (g.D.Disk.told l.disk ≡ g.D.Disk.told l.fn.disk) (g.D.Disk.fuse l.fn.disk) (g.D.Disk.fuse l.disk)
    (g.D.Disk.faults l.fn.disk) (g.D.Disk.faults l.disk) l.at l.len (length l.bodies.items)
    (AreShort l.bodies.items)
    ((t : Told) → g.D.Disk.told l.fn.disk ≡ Some t → Passed l.at (lists l.bodies.items) (as_read t.now))

abbrev pub decreases-records : goal.decreases-records
decreases-records g l = l.len - l.at
