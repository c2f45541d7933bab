-- What proofs, and other crates, name of this crate's definitions.
pub use Rattle.laws_reach.specs.Agreement.{AgreeOnVerdicts}
pub use Rattle.laws_reach.specs.Ends.{AreCommitsTold, HasRecord, IsDeedTold, IsRecordTold, IsToldOf, TellsNext}
pub use Rattle.laws_reach.specs.Falling.{Deals, Tells, crashed, cut_off, decl, fallen, kept, mine, reading_on}
pub use Rattle.laws_reach.specs.Falling.{record_of}
pub use Rattle.laws_reach.specs.Pending.{AreRightButWritten, IsRightButWritten}
pub use Rattle.laws_reach.specs.Reached.{HasTaken, IsReachedWithFalls, TakesInputs, actor_in}
pub use Rattle.laws_reach.specs.Recorded.{IsRecorded}
pub use Rattle.laws_reach.specs.Says.{Finds, IsNoCommit, Responds, Says, SaysIn}
pub use Rattle.laws_reach.specs.Standing.{AreStanding, IsOfClient, IsPromiseRecorded, records_of}
pub use Rattle.laws_reach.specs.WrongSight.{anew, asked_before, record_pending, rises_with_others, shown_anew}
pub use Rattle.laws_reach.specs.WrongSight.{shown_before, told_before}
pub use Rattle.laws_reach.specs.WrongVerdicts.{asked, begins_anew, crashes, falls_rising, falls_writing, is_asked}
pub use Rattle.laws_reach.specs.WrongVerdicts.{lives, recorded, rises, told}
