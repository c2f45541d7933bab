-- What proofs, and other crates, name of this crate's definitions.
pub use Rattle.qc_view.specs.View.{answer_in, empty_view, events_in, state_in, with_log, with_own}
