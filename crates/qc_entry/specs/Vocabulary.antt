-- What proofs, and other crates, name of this crate's definitions.
pub use Rattle.qc_entry.specs.Line.{IsAscending, clocks_of, line_cmp, stamped}
pub use Rattle.qc_entry.specs.Log.{IsUnion, has_line, log_of, of_object, union, union_from, without}
pub use Rattle.qc_entry.specs.Orders.{in_order, promise_cmp}
pub use Rattle.qc_entry.specs.Marks.{is_current, lines_told, no_mark, told}
