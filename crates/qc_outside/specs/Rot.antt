-- The disks of a rack of which one actor's lose what they held.
use Rattle.std.specs.Prelude.{◌≡◌, ℕ, List, [], Option, Some, None}
use Rattle.qc_outside.specs.Images.{Told, Write, as_read, overwritten}
use Rattle.qc_outside.specs.Memory.{left_by, told_by, torn_by}
use Rattle.qc_outside.specs.declared.mem_disk.MemDisk.{MemDisk}
use Rattle.qc_outside.specs.declared.rot_rack.RotRackDisk.{RotRackDisk}
use Rattle.qc_outside.specs.declared.rot_rack.RotRackDisk.TheVariants.{Mem, Rot}
use Rattle.qc_outside.specs.declared.tear.Tear.{Tear}
use Rattle.qc_outside.specs.declared.tear.Tear.TheVariants.{Nothing}

-- what a disk in memory tells
abbrev pub told_in : MemDisk → Told
told_in disk = told_by disk.tear disk.changes.items disk.written.items

-- one that loses what it held tells nothing
abbrev pub told_of : RotRackDisk → Option Told
told_of (Rot disk) = None
told_of (Mem disk) = Some (told_in disk)

-- it is empty, and its falls leave these bytes
abbrev pub IsRotting : List ℕ → RotRackDisk → Type 0
IsRotting after (Rot disk) = (disk.after.items ≡ after) × (disk.bytes.items ≡ [])
IsRotting after (Mem disk) = ⊥

-- it is empty, and its falls undo what wasn't synced
abbrev pub IsKeeping : RotRackDisk → Type 0
IsKeeping (Rot disk) = ⊥
IsKeeping (Mem disk) = (disk.tear ≡ Nothing) × (told_in disk ≡ told_by Nothing [] [])

-- The bytes as a read gives them, and as a fall now would leave them; and how falls tear, where what they leave isn't
-- always the same.
pub record Holding : Type 0 where
  pub tear : Option Tear
  pub reads : List ℕ
  pub leaves : List ℕ

abbrev pub holding_of : RotRackDisk → Holding
holding_of (Rot disk) = record { tear = None; reads = disk.bytes.items; leaves = disk.after.items }
holding_of (Mem disk) = record {
  tear = Some disk.tear;
  reads = as_read (told_in disk).now;
  leaves = left_by disk.tear (told_in disk).now;
}

-- what a fall leaves after one write more, where it left these bytes before
abbrev pub left_after_write : Option Tear → List ℕ → Write → List ℕ
left_after_write None left w = left
left_after_write (Some tear) left w = torn_by tear left w

abbrev pub after_write : Holding → Write → Holding
after_write h w = record {
  tear = h.tear;
  reads = overwritten h.reads w;
  leaves = left_after_write h.tear h.leaves w;
}

-- what a fall leaves after a sync, where it left these bytes before
abbrev pub left_after_sync : Option Tear → List ℕ → List ℕ → List ℕ
left_after_sync None left reads = left
left_after_sync (Some tear) left reads = reads

abbrev pub after_sync : Holding → Holding
after_sync h = record { tear = h.tear; reads = h.reads; leaves = left_after_sync h.tear h.leaves h.reads }

abbrev pub after_fall : Holding → Holding
after_fall h = record { tear = h.tear; reads = h.leaves; leaves = h.leaves }
