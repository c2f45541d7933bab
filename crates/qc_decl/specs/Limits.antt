-- The limits, each once: how much there may be of each thing. Those of types, certificates and plans stand in the
-- crates that test them, and are handed on. `src/limits.rt` has the same numbers for code, and laws say that both
-- agree.
use Rattle.std.specs.Prelude.{ℕ}
pub use Rattle.qc_table.specs.Limits.{most_events, most_invocations, most_responses, most_rows, most_states}
pub use Rattle.qc_cert.specs.Limits.{most_triples}
pub use Rattle.qc_plan.specs.Limits.{most_sites}

-- Of a declaration.

abbrev pub most_clients : ℕ
most_clients = 16

abbrev pub most_types : ℕ
most_types = 8

abbrev pub most_objects : ℕ
most_objects = 16

abbrev pub most_epochs : ℕ
most_epochs = 8

-- triples of a type with the same two states
abbrev pub most_alike_triples : ℕ
most_alike_triples = 1024

-- Of texts and numbers: the bytes of a name, and the greatest of each kind of number.

abbrev pub longest_name : ℕ
longest_name = 32

abbrev pub greatest_weight : ℕ
greatest_weight = 255

abbrev pub greatest_threshold : ℕ
greatest_threshold = 65535

-- Of files, in bytes.

abbrev pub most_declaration_bytes : ℕ
most_declaration_bytes = 4194304

abbrev pub most_script_bytes : ℕ
most_script_bytes = 1048576

-- Of a run: the operations of a transaction, the bytes of a journal record's body, the steps, the committed operations
-- with a response, and the lines that messages carry.

abbrev pub most_transaction_operations : ℕ
most_transaction_operations = 16

abbrev pub most_record_bytes : ℕ
most_record_bytes = 65536

abbrev pub most_steps : ℕ
most_steps = 262144

abbrev pub most_committed_operations : ℕ
most_committed_operations = 1024

abbrev pub most_carried_lines : ℕ
most_carried_lines = 8388608
