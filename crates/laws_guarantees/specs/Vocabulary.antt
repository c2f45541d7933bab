-- What proofs, and other crates, name of this crate's definitions.
pub use Rattle.laws_guarantees.specs.Acting.{IsStill}
pub use Rattle.laws_guarantees.specs.Answers.{AnswersFit, Fits, FitsHold, FitsPromise, IfAnswered, IsAnswered}
pub use Rattle.laws_guarantees.specs.Answers.{sent_before}
pub use Rattle.laws_guarantees.specs.Arrives.{Arrives, IsCalm, message_in, sent_to, taken, taken_by, taken_in}
pub use Rattle.laws_guarantees.specs.Clocks.{GrantTells, IsCounted, PromiseTells, Tells}
pub use Rattle.laws_guarantees.specs.Elsewhere.{IsOpenElsewhere, Parts, before_phase, begun_by, goes_on, name_of}
pub use Rattle.laws_guarantees.specs.Elsewhere.{no_parts, parts, parts_by}
pub use Rattle.laws_guarantees.specs.First.{AreFirst, IsFirst, IsFirstAnswer}
pub use Rattle.laws_guarantees.specs.Held.{HasWanted, IsGrantedSince}
pub use Rattle.laws_guarantees.specs.Open.{asks_to_hold, is_open, is_open_at, open_said}
pub use Rattle.laws_guarantees.specs.Ordered.{DependsOn, IsAnsweredFrom, IsOrdered, IsRunWithout, IsSeenBefore}
pub use Rattle.laws_guarantees.specs.Ordered.{IsToldBy, Records}
pub use Rattle.laws_guarantees.specs.Succeeds.{CommitOf, CommitSucceeds, CommitsSucceed, DoOf, DoSucceeds, DosSucceed}
pub use Rattle.laws_guarantees.specs.Succeeds.{EachReply, IfTold, IsCommitted, IsDone, OfRunning}
pub use Rattle.laws_guarantees.specs.Undisturbed.{AsksOne, IsLossless, IsUndisturbed}
pub use Rattle.laws_guarantees.specs.Votes.{IsOpenVote, IsRemembered}
pub use Rattle.laws_guarantees.specs.WrongGuarantees.{granted, tx}
pub use Rattle.laws_guarantees.specs.WrongOrder.{line, name, read, reads, told, write, writes}
pub use Rattle.laws_guarantees.specs.WrongUndisturbed.{aborted, mine, others, refused, refused_for_ended}
pub use Rattle.laws_guarantees.specs.WrongUndisturbed.{refused_for_new, refused_for_own, short, two_clients}
