-- What proofs, and other crates, name of this crate's definitions.
pub use Rattle.qc_store.specs.Accounts.{IsAccountOf, IsArmOf, IsArmedBy, IsCounted}
pub use Rattle.qc_store.specs.Calls.{of_bodies, of_broken_opening, of_broken_record}
pub use Rattle.qc_store.specs.Contents.{AreGiven, DiskHasJournal, DiskHolds, HoldsBodies, IsSettled, StillTells}
