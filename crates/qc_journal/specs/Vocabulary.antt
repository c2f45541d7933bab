-- What proofs, and other crates, name of this crate's definitions.
pub use Rattle.qc_journal.specs.Calls.{JournalBurns, JournalIsRefused, most_of_opening}
pub use Rattle.qc_journal.specs.Causes.{JournalRose, of_disk}
pub use Rattle.qc_journal.specs.Grammar.{AreRecords, Holds, HoldsWithOrWithout, IsBody, IsJournal, IsNoJournal, IsTorn}
pub use Rattle.qc_journal.specs.Grammar.{counted}
pub use Rattle.qc_journal.specs.Head.{IsOpenHead, IsTornHead}
pub use Rattle.qc_journal.specs.Journal.{AreShort, IsAtRest, IsBehind, IsLeftAtOpen, Passed, Rests, Stands, lists}
pub use Rattle.qc_journal.specs.Writes.{at_once, behind, gate}
