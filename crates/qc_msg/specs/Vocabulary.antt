-- What proofs, and other crates, name of this crate's definitions.
pub use Rattle.qc_msg.specs.Begun.{decisions, first_epoch, has_granted, life_of, site_set, with_life, with_site}
pub use Rattle.qc_msg.specs.Calls.{calls_from, numbered_from, site_called, with_call, without_call}
pub use Rattle.qc_msg.specs.Counts.{IsNoRise, Tally, answered, answered_at, answered_in, answered_in_all, carried_at}
pub use Rattle.qc_msg.specs.Counts.{carried_back, carried_of, commit_in, commit_of, lines_promised, no_tally}
pub use Rattle.qc_msg.specs.Counts.{operations_of, standing_after, tally_of, tally_with, written}
pub use Rattle.qc_msg.specs.Deeds.{Deed, Falls, Rises, Sends, Takes, Tells, WasSentTo, Writes, deed_at, deeds, deeds_as}
pub use Rattle.qc_msg.specs.Deeds.{envelope_at, envelope_of, envelopes, heard, mail, own, sends_of, tells_of}
pub use Rattle.qc_msg.specs.Deeds.{turn_deeds, writes_of}
pub use Rattle.qc_msg.specs.Fallen.{commit, risen}
pub use Rattle.qc_msg.specs.Lengths.{epoch_length, prepare_length}
pub use Rattle.qc_msg.specs.Steps.{Entry, HasRecord, IsByDisk, MayEnd, by, fell, marked, posted, posted_as, sends_as}
pub use Rattle.qc_msg.specs.Steps.{sents, step_of, told, wrote}
pub use Rattle.qc_msg.specs.Turns.{ending, quiet, says, sending, telling}
pub use Rattle.qc_msg.specs.InputReadings.{Invocation, command_in, decided_in, do_in, epoch_in, got_in, heard_in}
pub use Rattle.qc_msg.specs.InputReadings.{risen_in, taken_in, written_in}
pub use Rattle.qc_msg.specs.Payloads.{append_grant, first_read, grant_with, read_of, snapshot_with, start_with}
pub use Rattle.qc_msg.specs.Payloads.{whole_grant}
pub use Rattle.qc_msg.specs.Readings.{Answered, Clashing, Decided, Finished, Requested}
pub use Rattle.qc_msg.specs.Readings.{answer_in, asking_in, clash_in, close_in, closed_in, closing_in, decide_in}
pub use Rattle.qc_msg.specs.Readings.{decision_in, done_in, granted_in, has_installed, inquiry_in, install_in}
pub use Rattle.qc_msg.specs.Readings.{installing_in, is_life, prepare_in, promised_in, request_in, shut_in, verdict_in}
pub use Rattle.qc_msg.specs.Readings.{is_final, view_in, wants_answer}
pub use Rattle.qc_msg.specs.ReplyReadings.{already_in, began_in, committed_in, is_end, is_given_up, is_in_doubt}
pub use Rattle.qc_msg.specs.ReplyReadings.{is_refused, response_in, short_in}
pub use Rattle.qc_msg.specs.StepReadings.{Arming, Fallen, Mailed, armed_in, commanded_in, damaged_in, fell_in, lost_in}
pub use Rattle.qc_msg.specs.StepReadings.{mailed_in, received_in, replied_in, rose_in, wrote_in}
