-- What proofs, and other crates, name of this crate's definitions.
pub use Rattle.qc_record.specs.Answers.{Answers, Halts}
pub use Rattle.qc_record.specs.Form.{Form, IsBytes, all_of, both, climb, climbs, counted, field, is_above, is_at_least}
pub use Rattle.qc_record.specs.Form.{items_are_legal, items_spelled, nothing, shaped, tied, top, tops, within, ◌>>=◌}
unfoldable pub use Rattle.qc_record.specs.Form.{items_at, number_at}
pub use Rattle.qc_record.specs.Legal.{AreLines, AreLocks, AreOps, AreOwns, IsInForm, IsLine, IsLock, IsLockBelow, IsOp}
pub use Rattle.qc_record.specs.Legal.{IsOwn, IsOwnBelow, IsResponse, IsStart, IsTx, IsWithin, Rises}
pub use Rattle.qc_record.specs.Records.{always, body_at, client_form, commit_form, commit_of, commit_parts, decide_of}
pub use Rattle.qc_record.specs.Records.{done_form, done_of, epoch_form, event_form, framed, from_client, from_event}
pub use Rattle.qc_record.specs.Records.{from_life, from_number, from_object, from_op, greatest_clock, has_own_stamp}
pub use Rattle.qc_record.specs.Records.{has_response_number, install_of, invocation_form, is_legal, is_own_stamp}
pub use Rattle.qc_record.specs.Records.{is_response, line_floor, line_form, line_numbers, line_of, line_parts}
pub use Rattle.qc_record.specs.Records.{lines_form, lock_floor, lock_form, lock_of, lock_parts, locks_form, most_bytes}
pub use Rattle.qc_record.specs.Records.{object_form, op_form, op_of, op_parts, ops_form, ordinal_form, own_floor}
pub use Rattle.qc_record.specs.Records.{own_form, own_of, own_parts, owns_form, placed, prepared_form, prepared_of}
pub use Rattle.qc_record.specs.Records.{prepared_parts, record_at, response_form, response_number, response_of, spelled}
pub use Rattle.qc_record.specs.Records.{stamp_clock_form, start_clock_form, start_form, tx_form, tx_of, tx_parts}
pub use Rattle.qc_record.specs.Records.{whole_at}
