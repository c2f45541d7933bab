-- What proofs, and other crates, name of this crate's definitions.
pub use Rattle.qc_words.specs.Askable.{AreFew, IsAskable, IsLoad, IsName, IsNameIfAny, IsRun}
pub use Rattle.qc_words.specs.Asked.{IsTold, asked_in}
pub use Rattle.qc_words.specs.Forms.{Form, Part, Reading, Text, Values, are_given, ended, is_among, is_given, is_value}
pub use Rattle.qc_words.specs.Forms.{nothing_read, option_of, option_or_place, parts_of, placed, value_of, values_in}
pub use Rattle.qc_words.specs.Forms.{values_of, waiting_for, waits_for_none, with_named, with_next, with_part}
pub use Rattle.qc_words.specs.Forms.{with_word, with_words}
pub use Rattle.qc_words.specs.Limits.{greatest_seed, most_transactions, most_workers}
pub use Rattle.qc_words.specs.Matching.{IsForm, IsTaken, command_for, found_in, option_rule, place_rule, with_rules}
pub use Rattle.qc_words.specs.Numbers.{number_within, within}
pub use Rattle.qc_words.specs.Parts.{form_in, part_in, texts_of}
pub use Rattle.qc_words.specs.Said.{IsOptionName, is_joined, is_known, is_whole, said_apart, said_joined}
pub use Rattle.qc_words.specs.Words.{AskedOf, Check, Load, Run, asked, asked_behind, check_form, check_of, load_form}
pub use Rattle.qc_words.specs.Words.{load_of, run_form, run_of, workers_of}
pub use Rattle.qc_words.specs.Written.{words_in}
