-- What proofs, and other crates, name of this crate's definitions.
pub use Rattle.qc_fit.specs.Fits.{fits, is_line_fit, is_lock_fit, is_of, is_op_fit, is_own_fit, is_prepared_fit}
pub use Rattle.qc_fit.specs.Fits.{is_start_fit}
pub use Rattle.qc_fit.specs.Numbers.{greatest_clock, has_client, has_epoch, has_response, is_administrator, is_clock}
pub use Rattle.qc_fit.specs.Numbers.{is_this_client, most_records}
pub use Rattle.qc_fit.specs.Said.{HasEvent, HasInvocation, HasNumber, HasPlan, HasResponse, IsFit, IsLineDeclared}
pub use Rattle.qc_fit.specs.Said.{IsOpDeclared}
