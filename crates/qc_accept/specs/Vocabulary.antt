-- What proofs, and other crates, name of this crate's definitions.
pub use Rattle.qc_accept.specs.Accept.{AreChecked, AreOfStates, ArePlanned, DraftOf, IsShaped, accepted, admitted}
pub use Rattle.qc_accept.specs.Accept.{all_admitted, all_certified, all_names, cert_names, certified, declared}
pub use Rattle.qc_accept.specs.Accept.{document_of, draft, draft_of, keys, kind_names, lists_of, plan_names}
pub use Rattle.qc_accept.specs.Answers.{Answer, IsAnswer, IsReading, each, read_each}
pub use Rattle.qc_accept.specs.Certificates.{certificate_of, rest_of, type_with}
pub use Rattle.qc_accept.specs.Epochs.{EntryOf, IsFit, StoreOf, entries_in, entry_in, epoch_keys, is_at, needs}
pub use Rattle.qc_accept.specs.Epochs.{needs_of, place_in, places, places_of, plan_in, plan_of, plans_of, threshold_of}
pub use Rattle.qc_accept.specs.Epochs.{thresholds, weights, with_entry, with_item, with_plan, with_weight}
pub use Rattle.qc_accept.specs.Fields.{first_other, item_path, item_table, items, items_between, keys_path, listed}
pub use Rattle.qc_accept.specs.Fields.{name_among, names, natural, no_others, number, number_between, optional}
pub use Rattle.qc_accept.specs.Fields.{required, told, with_name, with_text}
pub use Rattle.qc_accept.specs.Objects.{ObjectsOf, kind_of, object_keys, objects_of, with_object}
pub use Rattle.qc_accept.specs.Spelled.{AreListed, AreTexts, IsDeclared, IsListed, IsSpelled, array_at, text_at}
pub use Rattle.qc_accept.specs.Sufficient.{AreAdmitted, AreInductive}
pub use Rattle.qc_accept.specs.Types.{AreFew, AreSome, TypeOf, TypesOf, WordsOf, are_few_alike, event_of_text, is_alike}
pub use Rattle.qc_accept.specs.Types.{name_at, out_in, pair_in, pairs_in, relation, row_in, rows, rows_in, ruled}
pub use Rattle.qc_accept.specs.Types.{table_of, triple_in, triples, triples_in, type_keys, type_of, types_of, with_new}
pub use Rattle.qc_accept.specs.Types.{with_read, with_type, words}
pub use Rattle.qc_accept.specs.Views.{data_of, draft_in, entry_at, events_in, listed_in, names_in, objects_in, path_in}
pub use Rattle.qc_accept.specs.Views.{store_in, table_in, type_in, types_in, words_in}
pub use Rattle.qc_accept.specs.Words.{cut, number_in, number_of, three, two, value_of}
