-- What proofs, and other crates, name of this crate's definitions.
pub use Rattle.laws_atomic.specs.Reached.{AreNamed, IsReached}
pub use Rattle.laws_atomic.specs.Wrong.{asks, begins, commit, counting, decl, earlier, falling, first, hears}
pub use Rattle.laws_atomic.specs.Wrong.{is_granted, is_told, late, second, stamp, theirs, they_commit, unrecorded}
pub use Rattle.laws_atomic.specs.Wrong.{writes}
