-- What proofs, and other crates, name of this crate's definitions.
pub use Rattle.theory_bases.specs.Bases.{IsAbove, events, state_from}
pub use Rattle.theory_bases.specs.Belongs.{BelongsNow, BelongsTo, IsInherited, IsOwnWrittenIn, IsWrittenIn}
pub use Rattle.theory_bases.specs.Discipline.{AreDisciplined, IsDisciplined, IsGrantOfEpoch, IsShareOfEpoch}
pub use Rattle.theory_bases.specs.Discipline.{WasLogInEpoch}
pub use Rattle.theory_bases.specs.EpochLaws.{EpochLaws, EpochLawsOf, IsAppendOfEpoch, IsLineOfDecision, IsSiteOfEpoch}
pub use Rattle.theory_bases.specs.EpochLaws.{IsSnapshotOfEpoch}
pub use Rattle.theory_bases.specs.Short.{AreShortDeeds, AreShortFrom, IsShortDeed, IsUnionOf, StandsFor, after_short}
pub use Rattle.theory_bases.specs.Short.{base_after, base_from, base_of, short_from, short_site_after}
pub use Rattle.theory_bases.specs.Witnesses.{HasDependence, HasLowSnapshot, IsDisciplinedRun, WritesAfter, WritesBefore}
pub use Rattle.theory_bases.specs.Witnesses.{low_snapshot, read_and_written_in_both, two_moves, write_line}
pub use Rattle.theory_bases.specs.Wrong.{HasLaterView, HasMissedLine, HasStrayLine, HasTwoDecisions, IsUndisciplinedRun}
pub use Rattle.theory_bases.specs.Wrong.{appended_without_threshold, decided_twice, decided_with_two_logs}
pub use Rattle.theory_bases.specs.Wrong.{granted_in_another_epoch, seen_in_another_epoch, short_deeds, shorter_deeds}
pub use Rattle.theory_bases.specs.Wrong.{shared_with_another_epoch, whole_deeds}
