-- What proofs, and other crates, name of this crate's definitions.
pub use Rattle.qc_commit.specs.Calls.{AreNewTo, DeskCall, HasFew, IsNewTo, Numbers, Prepares, Sends, Votes, after_call}
pub use Rattle.qc_commit.specs.Calls.{after_calls, handed}
pub use Rattle.qc_commit.specs.Conduct.{abort_turn, awaited, commit_of, commit_turn, counted_out, counts, decides}
pub use Rattle.qc_commit.specs.Conduct.{gives_up, learns, next_stamp, passed, prepare, prepared, prepared_in, sent}
pub use Rattle.qc_commit.specs.Conduct.{sent_in, vote, votes_at, votes_in, with_voting}
pub use Rattle.qc_commit.specs.Course.{AreFor, IsAborted, IsCommitted, IsRefused, IsWaiting, Taken, after_all}
pub use Rattle.qc_commit.specs.Course.{ballots_by, course_ballots, course_clock, course_desk, first_taken}
pub use Rattle.qc_commit.specs.Course.{greatest_promised, open_calls, sent_each, stamp_after}
pub use Rattle.qc_commit.specs.Desk.{DeskMove, known, known_by, moved, new_desk, record_of}
pub use Rattle.qc_commit.specs.Fits.{AsksFew, DeskFits}
pub use Rattle.qc_commit.specs.Learning.{closed, promised}
pub use Rattle.qc_commit.specs.Votes.{against, are_cast, blank, cast, first_against, participants, prepares, vote_of}
