-- What proofs, and other crates, name of this crate's definitions.
pub use Rattle.qc_stamp.specs.Lives.{first_life}
pub use Rattle.qc_stamp.specs.Order.{IsOrder, same_tx, stamp_cmp, tx_cmp}
