-- What proofs, and other crates, name of this crate's definitions.
pub use Rattle.qc_table.specs.Cases.{IsSmall, case_place, case_set, has_case, no_cases, with_case}
pub use Rattle.qc_table.specs.Depends.{depended, depends, is_given, relation_of, with_pair}
pub use Rattle.qc_table.specs.Faults.{fault_of, first_repeat, is_unknown, ranked, repeat_after, same_case}
pub use Rattle.qc_table.specs.Grid.{grid_next, grid_place, with_next, with_row}
pub use Rattle.qc_table.specs.Limits.{most_events, most_invocations, most_states}
pub use Rattle.qc_table.specs.Rules.{Rules, event, event_number, event_of, events_of, rules_of, same_event, with_event}
pub use Rattle.qc_table.specs.Run.{IsLegal, IsLowest, after, first_of, is_row_of, lower, lowest_in, lowest_with}
pub use Rattle.qc_table.specs.Run.{next_in, next_state, reached, step_of}
pub use Rattle.qc_table.specs.Sets.{IsWithin, are_apart, has, is_within, with_member}
pub use Rattle.qc_table.specs.Sound.{IsSound}
