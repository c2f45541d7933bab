-- What proofs, and other crates, name of this crate's definitions.
pub use Rattle.qc_list.specs.Members.{In}
pub use Rattle.qc_list.specs.Order.{Ascends, IsBelowAll, by_order, inserted}
pub use Rattle.qc_list.specs.Pages.{joined}
pub use Rattle.qc_list.specs.Results.{and_then, ◌>>=◌}
pub use Rattle.qc_list.specs.Search.{first_below}
