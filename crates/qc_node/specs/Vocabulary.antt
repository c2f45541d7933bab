-- What proofs, and other crates, name of this crate's definitions.
pub use Rattle.qc_node.specs.Cells.{IsCell, IsIdle, IsKnown, IsLeft, IsServed, Known}
pub use Rattle.qc_node.specs.Ends.{HasEnded, IsScriptEnd}
pub use Rattle.qc_node.specs.OwnLines.{IsLineOf}
pub use Rattle.qc_node.specs.Places.{AreEmpty, AreGivenBack, BothTell, HasBegun, HoldJournals, IsNotEmpty, IsRefused}
pub use Rattle.qc_node.specs.Places.{place_of}
pub use Rattle.qc_node.specs.Restarts.{Appends, IsAppended, IsRecorded, opened_of, with_end}
pub use Rattle.qc_node.specs.Rules.{fits_of}
pub use Rattle.qc_node.specs.Runnable.{IsRunnable}
pub use Rattle.qc_node.specs.Settling.{IsSettling}
pub use Rattle.qc_node.specs.Starts.{AreBackBelow, AreBackBut, AreBackFrom, AreHandedBelow, AreProcesses, AreStarted}
pub use Rattle.qc_node.specs.Starts.{AreUnbegun, AreUnstarted, AreUnwritten, AreUp, IsBackFrom, IsGivenBack}
pub use Rattle.qc_node.specs.Starts.{IsHandedBelow, IsStarted, IsUnbegun, IsUnstarted, IsUnwritten}
