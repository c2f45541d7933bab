-- What proofs, and other crates, name of this crate's definitions.
pub use Rattle.qc_mailbox.specs.Downs.{IsCommand, IsEmptied, TellsWhereDown, down_at, is_down}
pub use Rattle.qc_mailbox.specs.Few.{AreFew}
pub use Rattle.qc_mailbox.specs.Inboxes.{Inboxes, Tray}
pub use Rattle.qc_mailbox.specs.Inputs.{IsWithin, after_controls, first_command, first_copy, first_lost, input_in}
pub use Rattle.qc_mailbox.specs.Inputs.{input_of, next_in}
pub use Rattle.qc_mailbox.specs.KeptInboxes.{AreBetweenActors, AreNumbered, IsKept, MayPost, MayWrite, Shows}
pub use Rattle.qc_mailbox.specs.KeptInboxes.{numbers_of, tray_of}
pub use Rattle.qc_mailbox.specs.Owned.{IsOwnRequest}
pub use Rattle.qc_mailbox.specs.Picks.{calls_at, calls_of, comes_before, first_of, is_held, picked, rank_at, rank_of}
pub use Rattle.qc_mailbox.specs.Picks.{sooner, unless_held}
pub use Rattle.qc_mailbox.specs.PicksKept.{input_rank, picked_in, rank_in}
pub use Rattle.qc_mailbox.specs.Rooms.{after_control, after_fall, after_fall_by_line, after_first, after_phase}
pub use Rattle.qc_mailbox.specs.Rooms.{after_post_as, after_reply, after_rise, after_rising_as, after_send, after_sends}
pub use Rattle.qc_mailbox.specs.Rooms.{after_take, after_turn, each_by_up, empty_inboxes, none_left, tray_at}
pub use Rattle.qc_mailbox.specs.Rooms.{with_coming, with_command, with_commands, with_control_gone, with_going}
pub use Rattle.qc_mailbox.specs.Tallies.{Tally, count, one_message_more, place}
pub use Rattle.qc_mailbox.specs.Trays.{empty_tray, tray_answered, tray_answered_by, tray_asked, tray_asks, tray_begun}
pub use Rattle.qc_mailbox.specs.Trays.{tray_comes, tray_emptied, tray_goes, tray_losing, tray_lost_unless, tray_opened}
pub use Rattle.qc_mailbox.specs.Trays.{tray_taken, tray_told, tray_with_copies}
pub use Rattle.qc_mailbox.specs.Asked.{asked}
pub use Rattle.qc_mailbox.specs.Boxes.{HasRoom, HasUsed, tray}
pub use Rattle.qc_mailbox.specs.Kept.{Roomy}
pub use Rattle.qc_mailbox.specs.Passed.{either}
pub use Rattle.qc_mailbox.specs.Passing.{first_does_nothing}
pub use Rattle.qc_mailbox.specs.Phases.{HasOthers, IsPrepared}
pub use Rattle.qc_mailbox.specs.Queues.{items, spare}
