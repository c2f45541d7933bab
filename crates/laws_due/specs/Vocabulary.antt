-- What proofs, and other crates, name of this crate's definitions.
pub use Rattle.laws_due.specs.ByRows.{AreByRows, IsByRow, IsSendDue}
pub use Rattle.laws_due.specs.Calls.{AreApart, ballot_of, call_of, calls_in}
pub use Rattle.laws_due.specs.Declares.{ArePlanned, Declares, IsDeclaredCommand, IsDeclaredDeed, IsPlanned, epoch_told}
pub use Rattle.laws_due.specs.Goes.{Goes, Holds}
pub use Rattle.laws_due.specs.Known.{AsksEpochs, AsksKnown, IsEpoch, IsKnown}
pub use Rattle.laws_due.specs.Order.{AreInOrder, MayBeGiven}
pub use Rattle.laws_due.specs.Planned.{IsRecordPlanned}
pub use Rattle.laws_due.specs.Risen.{AllRisePlanned, RisesPlanned}
pub use Rattle.laws_due.specs.Ties.{Appends, IsDo, IsIdleDesk, IsPrepare, NoneRuns, Reads, Rests, Ties, Votes, appends}
pub use Rattle.laws_due.specs.Ties.{reads, rests, votes}
pub use Rattle.laws_due.specs.Told.{AreBegun, IsBegun, IsOpenIn, begun_of, front_of, transaction_of}
pub use Rattle.laws_due.specs.Waits.{IsAnswerTo, IsAwaited, IsEnough, IsGranted, IsGrantedDo, IsNotFor, IsWaiting}
pub use Rattle.laws_due.specs.Whole.{IsClosedWithFalls, IsWholeWithFalls}
