-- What proofs, and other crates, name of this crate's definitions.
pub use Rattle.qc_number.specs.Numbers.{greatest, most_digits, number_of}
