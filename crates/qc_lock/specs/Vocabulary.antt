-- What proofs, and other crates, name of this crate's definitions.
pub use Rattle.qc_lock.specs.Clash.{append_clash, append_clashes, clash_cmp, lines_in_way, locks_in_way, read_clash}
pub use Rattle.qc_lock.specs.Clash.{read_clashes, smaller, smallest}
pub use Rattle.qc_lock.specs.Conflict.{In, IsAppendConflict, IsReadConflict, IsSmallest}
pub use Rattle.qc_lock.specs.Held.{entry_of, has_lock, held_of, inserted, is_held, lock_cmp, own_cmp, same_lock}
pub use Rattle.qc_lock.specs.Held.{same_tx, with_entry, with_held, with_lock, with_locks, with_own, with_owns}
pub use Rattle.qc_lock.specs.Held.{without_held}
pub use Rattle.qc_lock.specs.TransactionMap.{AreBelow, AreNumbered, AreOfOthers, IsOneForEach, number_of, one_of}
pub use Rattle.qc_lock.specs.TransactionMap.{put_one}
pub use Rattle.qc_lock.specs.TransactionMap.{without_one}
pub use Rattle.qc_lock.specs.HolderSets.{AreIndexed, AreSmall, IsAppendPlaced, IsFirst, IsIndex, IsLinePlaced, IsPlaced}
pub use Rattle.qc_lock.specs.HolderSets.{IsReadPlaced, Narrows, Sets, Widens, has_line, has_read, holder_at, is_there}
pub use Rattle.qc_lock.specs.HolderSets.{lines_held, place_cmp, reads_held, smaller_of}
pub use Rattle.qc_lock.specs.Sound.{AreFull, AreSorted, IsSingle, IsSound}
