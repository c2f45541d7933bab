-- What proofs, and other crates, name of this crate's definitions.
pub use Rattle.qc_pass.specs.Made.{AreNew, IsFirst, IsNew, IsSetUp}
pub use Rattle.qc_pass.specs.Rule.{IsOneHistory, IsPassOf, IsRightTo}
pub use Rattle.qc_pass.specs.Seats.{IsPassAt, IsRightAt, word_of}
pub use Rattle.qc_pass.specs.Tokens.{Met, all, ends, mine, number, pass_table, right_table, room, rooms, seen, table_of}
pub use Rattle.qc_pass.specs.Views.{Adds, IsJoined, Knows, Loads, joined, marked, next_pass, own, pass_apart, pass_view}
pub use Rattle.qc_pass.specs.Views.{right_apart, right_view, spent, with_entry, with_pass}
