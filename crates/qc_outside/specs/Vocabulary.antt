-- What proofs, and other crates, name of this crate's definitions.
pub use Rattle.qc_outside.specs.Arms.{Armed, acting, armed_after}
pub use Rattle.qc_outside.specs.Causes.{Rose, sum_of_faults}
pub use Rattle.qc_outside.specs.Disk.{DiskRose, IsKept, NamesActor, RackRose}
pub use Rattle.qc_outside.specs.Fuses.{Burns, BurnsMany, BurnsNothing, Fuse, HasActed, HasFailed, HasFaulted, HasPassed}
pub use Rattle.qc_outside.specs.Fuses.{IsArmedAfter, IsBlamed, IsRefused, KeepsArm, fault_of, no_fuse}
pub use Rattle.qc_outside.specs.Images.{IsImage, IsOutside, Leaves, Since, Stored, Tells, Told, Write, all_written}
pub use Rattle.qc_outside.specs.Images.{as_read, overwritten, settled, told_at_first, wrote}
pub use Rattle.qc_outside.specs.MemRack.{IsAdded, IsFirstAt, held, is_at, is_folder, name_of, tear_of}
pub use Rattle.qc_outside.specs.Memory.{all_torn, blotted, count_of, counts, left_by, told_after, told_by, told_next}
pub use Rattle.qc_outside.specs.Memory.{torn_by}
pub use Rattle.qc_outside.specs.Places.{HoldsNoByte, IsHandedOut, IsPutBack, IsSameAtAll, IsSameElsewhere, Place}
pub use Rattle.qc_outside.specs.Places.{Places, held_after}
pub use Rattle.qc_outside.specs.Shelf.{Answer, Files, IsAnswer, IsTaken, answer_of, contents, file_named}
