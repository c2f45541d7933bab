-- What proofs, and other crates, name of this crate's definitions.
pub use Rattle.laws_bounds.specs.AdminParts.{AdminKeeps, AnyNumber, NumberKeeps, ToldKeeps}
pub use Rattle.laws_bounds.specs.AdminWithin.{AdminWithin, AnyEpoch, ClockWithin, DecidedWithin, PromiseWithin}
pub use Rattle.laws_bounds.specs.AdminWithin.{VerdictWithin}
pub use Rattle.laws_bounds.specs.Bounds.{CountsWithin, IsBoundedWithFalls, LivesWithin, RiseWithFew}
pub use Rattle.laws_bounds.specs.Calls.{IsFailedShort, IsOfClient, IsRisingShort, IsSound, IsTurnShort}
pub use Rattle.laws_bounds.specs.Calls.{PromisesDeclared}
pub use Rattle.laws_bounds.specs.Falls.{IsSpentSoFar, falls_of}
pub use Rattle.laws_bounds.specs.Faults.{AreControlsBelow, AreFaultsBelow, IsControlBelow, IsFaultBelow}
pub use Rattle.laws_bounds.specs.Fitting.{AllFit, AllRiseFit, JournalFits}
pub use Rattle.laws_bounds.specs.Limits.{IsDamagedWithin, before_last}
pub use Rattle.laws_bounds.specs.Misfits.{AreKeptOrMisfits, IsKeptOrMisfit, NextAreKeptOrMisfits}
pub use Rattle.laws_bounds.specs.Places.{AreBackSoFar, AreHandedOut, HoldJournals, HoldsJournal, JournalIsOn}
pub use Rattle.laws_bounds.specs.Places.{PlaceHolds, place_of}
pub use Rattle.laws_bounds.specs.Records.{AllPut, AllRisen, records_at, risen_at}
pub use Rattle.laws_bounds.specs.Visits.{nobody, visits_below, with_visit}
pub use Rattle.laws_bounds.specs.Within.{AreWithin, MoveWithin, PutWithin, RecordWithin, RiseWithin, StateWithin}
pub use Rattle.laws_bounds.specs.Within.{TurnWithin}
