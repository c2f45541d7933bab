-- What proofs, and other crates, name of this crate's definitions.
pub use Rattle.qc_front.specs.Answering.{answer_of, next_own, op_of, resp_of, view_log, with_event, with_granted}
pub use Rattle.qc_front.specs.Answering.{with_op, with_view}
pub use Rattle.qc_front.specs.Appending.{append_want, own_appended, read_want, request_of, round_for, weighs}
pub use Rattle.qc_front.specs.Appending.{weights_of}
pub use Rattle.qc_front.specs.Conduct.{append_counts, appending_takes, awaited, called, commits, numbered, read_counts}
pub use Rattle.qc_front.specs.Conduct.{reading_takes, requested, requested_in, sent, takes, takes_in}
pub use Rattle.qc_front.specs.Counted.{IsGrant, KeepsLives, Learns, asked_at, asked_in, lives_of}
pub use Rattle.qc_front.specs.Counting.{appended_with, learns, lived, read_with, standing_of}
pub use Rattle.qc_front.specs.Drafts.{IsDraft, answer_in_draft, append_want_of, appended_draft, asking, becomes}
pub use Rattle.qc_front.specs.Drafts.{draft_of, drafted, event_draft, lived_draft, noted, noted_at, read_draft}
pub use Rattle.qc_front.specs.Drafts.{views_of, views_with, went}
pub use Rattle.qc_front.specs.Fits.{AsksFew, FrontFits, HasRoom}
pub use Rattle.qc_front.specs.Front.{FrontMove, aborts, begins, ended, fresh, gives_up, moved, new_front, next_tx}
pub use Rattle.qc_front.specs.Front.{turned}
pub use Rattle.qc_front.specs.Going.{GoesOn, calls_in, is_idle}
pub use Rattle.qc_front.specs.Holds.{AppendingHolds, AreApart, AreOpen, BegunHolds, DoingHolds, FrontHolds, IsAwaiting}
pub use Rattle.qc_front.specs.Holds.{IsNumbered, IsPrefix, IsRound, ReadingHolds, RecordsHold, own_on, sites_called}
pub use Rattle.qc_front.specs.Holds.{sites_of}
pub use Rattle.qc_front.specs.Replies.{AppendCame, DoTold, ReadCame}
pub use Rattle.qc_front.specs.Requests.{AreSent, AsksAll, AsksAtOnce, AsksIn, AsksNobody, IsFor, IsNextCall, IsNextOpen}
pub use Rattle.qc_front.specs.Requests.{IsRequestOf, IsSent, is_request, numbered_all, numbered_one}
pub use Rattle.qc_front.specs.Rounds.{absents, answered, append_by, appends, doomed, goes_on, performs, read_by, reads}
pub use Rattle.qc_front.specs.Rounds.{refuses, responds, with_asked}
