-- What proofs, and other crates, name of this crate's definitions.
pub use Rattle.qc_report.specs.Causes.{status_of}
pub use Rattle.qc_report.specs.Declarations.{accepted_text_of}
