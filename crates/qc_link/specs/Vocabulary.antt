-- What proofs, and other crates, name of this crate's definitions.
pub use Rattle.qc_link.specs.Cuts.{is_cut, is_pair, no_cuts, pair_place, with_cut, without_cut}
pub use Rattle.qc_link.specs.Fate.{by_rules, fate, fate_of, is_for, matches}
pub use Rattle.qc_link.specs.Limits.{most_actors}
pub use Rattle.qc_link.specs.Places.{IsIndex, Pattern, first, has_pattern, pattern_cmp, pattern_of, place, same_pattern}
