-- What proofs, and other crates, name of this crate's definitions.
pub use Rattle.qc_cert.specs.Asked.{AreFound, is_found}
pub use Rattle.qc_cert.specs.Covered.{IsAccountedFor, StandsOutside}
pub use Rattle.qc_cert.specs.Faults.{covers, fault_of, inv_fault, is_covered, is_free, left_out_fault, taken_fault}
pub use Rattle.qc_cert.specs.Faults.{triple_fault, triples_fault, unequal_fault, unless_covered}
pub use Rattle.qc_cert.specs.Firsts.{distinct, firsts, firsts_after, is_among, is_same, marked, marked_fault}
pub use Rattle.qc_cert.specs.Groups.{AreParted, AreStates, any_within, outs_at, parts_within, place_of, sets_of}
pub use Rattle.qc_cert.specs.Inductive.{Covers, IsCovered, IsFree, IsInductive, is_allowed, triple}
pub use Rattle.qc_cert.specs.IndexedKind.{AreAllowed, AreEvents, AreLegal, AreOwn}
pub use Rattle.qc_cert.specs.Tables.{AreLeft, AreRows, IsLeft, IsRow, IsWord, agrees, keeps, no_row, piece}
pub use Rattle.qc_cert.specs.Views.{IsClosed, IsExact, IsLegalFor, IsView, allows, inv_of, picked, state_after}
