-- What proofs, and other crates, name of this crate's definitions.
pub use Rattle.qc_gen.specs.Load.{client_of, command_of, lines_from, load_of, load_text, modulus, next_state, phase_of}
pub use Rattle.qc_gen.specs.Load.{phases_from, state_after, transaction_lines, write_number, write_of}
