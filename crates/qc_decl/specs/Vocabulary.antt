-- What proofs, and other crates, name of this crate's definitions.
pub use Rattle.qc_decl.specs.Accepted.{AreThresholds, HasNames, HasThresholds, IsAccepted, IsGood, IsRight}
pub use Rattle.qc_decl.specs.Actors.{actors, administrator, client_actor, controller, first_site, is_administrator}
pub use Rattle.qc_decl.specs.Actors.{is_client, is_site}
pub use Rattle.qc_decl.specs.Limits.{greatest_threshold, greatest_weight, longest_name, most_alike_triples}
pub use Rattle.qc_decl.specs.Limits.{most_carried_lines, most_clients, most_committed_operations, most_epochs}
pub use Rattle.qc_decl.specs.Limits.{most_events, most_invocations, most_objects, most_record_bytes, most_responses}
pub use Rattle.qc_decl.specs.Limits.{most_rows, most_sites, most_states, most_steps, most_transaction_operations}
pub use Rattle.qc_decl.specs.Limits.{most_triples, most_types}
pub use Rattle.qc_decl.specs.Lookup.{append_need_of, kind_at, plan_in, read_need_of, relation_at, resp_of, table_at}
pub use Rattle.qc_decl.specs.Lookup.{weights_of}
pub use Rattle.qc_decl.specs.Named.{IsNamed, StandForPlaces, inv_named, names_of, object_named, place_of}
pub use Rattle.qc_decl.specs.Names.{AreNames, is_between, is_name, is_name_byte, name_at}
pub use Rattle.qc_decl.specs.One.{built_in_of, one, register, register_kind, register_names, register_pairs}
pub use Rattle.qc_decl.specs.One.{register_plan, register_store, row, three}
