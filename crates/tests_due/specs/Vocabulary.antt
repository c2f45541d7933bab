-- What proofs, and other crates, name of this crate's definitions.
pub use Rattle.tests_due.specs.Disks.{arms, arms_other, fails, rises_with_one, stops, stops_rising}
pub use Rattle.tests_due.specs.Journals.{after_one, after_stop, after_two, at_last, crashes, damaged, elsewhere, first}
pub use Rattle.tests_due.specs.Journals.{later, rises, second, stops_at, twice, writes}
