-- What proofs, and other crates, name of this crate's definitions.
pub use Rattle.qc_process.specs.Fitting.{AreKeptOrUnfit, AreLegal, AreUnfit, IsFirstUnfit, all_fit, bytes_of}
pub use Rattle.qc_process.specs.Fitting.{journal_fits}
pub use Rattle.qc_process.specs.Found.{FoundAs, IsGivenUp, IsNotOpened, IsRiseOrFall}
pub use Rattle.qc_process.specs.Goes.{Goes, GoesArmed}
pub use Rattle.qc_process.specs.Inputs.{IsReadable}
pub use Rattle.qc_process.specs.Opens.{GoesOn, HasRisen, IsStartRefused, OpensAs, StaysDown, StaysOnDisk, not_begun}
pub use Rattle.qc_process.specs.Reading.{ReadsAs, ReadsFit, ReadsOne}
pub use Rattle.qc_process.specs.Stored.{IsLegalPending, IsOnDisk, IsOpened, IsPlaced, IsProcess, IsStored, IsTold}
pub use Rattle.qc_process.specs.Stored.{Spells, bodies_of, body_of}
pub use Rattle.qc_process.specs.Views.{HasFewRecords, IsOpenWhileUp, IsSameStore, IsUp, IsWritable, MayWrite}
pub use Rattle.qc_process.specs.Views.{OpenJournal, ProcessView, StoreView, appended_by, fall_by, process_of}
