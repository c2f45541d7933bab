-- What proofs, and other crates, name of this crate's definitions.
pub use Rattle.laws_votes.specs.Counted.{IsCountedInLife}
pub use Rattle.laws_votes.specs.Epochs.{AsksIn}
pub use Rattle.laws_votes.specs.Operations.{committed_operations}
pub use Rattle.laws_votes.specs.Ordered.{DependsOn, IsToldBy}
pub use Rattle.laws_votes.specs.Promised.{HasPromisedItems, IsLastPromise, IsPromisedStill, IsUnaborted}
pub use Rattle.laws_votes.specs.Recorded.{AreWriting, HasPromised, HaveAllPromised, IsRecorded}
pub use Rattle.laws_votes.specs.Replies.{EndsTurn, IsRunWithout, IsToldAtFall, unknown_fall}
pub use Rattle.laws_votes.specs.Votes.{IsCastSince, life_at}
pub use Rattle.laws_votes.specs.WrongEpochs.{asked, decides}
pub use Rattle.laws_votes.specs.WrongHoldings.{AreCastSince, aborted_before, aborted_since, begun, fallen, finished}
pub use Rattle.laws_votes.specs.WrongHoldings.{prepared, promise, promised, risen, voting}
pub use Rattle.laws_votes.specs.WrongPrecedence.{all_fit, fell_bare, fell_later, reader_fell, writer_fell}
