-- What proofs, and other crates, name of this crate's definitions.
pub use Rattle.theory_onecopy.specs.Committed.{AreApart, IsStampedBefore, commit_cmp, op_cmp, sorted, with_commit}
pub use Rattle.theory_onecopy.specs.Executed.{Executed, IsAnswered, IsEarlier, IsLineBefore, IsOwnBefore, Placed}
pub use Rattle.theory_onecopy.specs.Executed.{Replies, committed_line, depends_at, events_seen, kind_at, line_of}
pub use Rattle.theory_onecopy.specs.Executed.{own_line}
pub use Rattle.theory_onecopy.specs.Lists.{IsBeforeAll, IsOrdered}
pub use Rattle.theory_onecopy.specs.Logged.{IsClosedLog, IsLogged, IsOperation, event_at, line_depends}
pub use Rattle.theory_onecopy.specs.OneCopy.{Goes, OneCopy, Walks, operations, start_at, step_at, updated}
pub use Rattle.theory_onecopy.specs.Replay.{kept, replay, replay_commit, replayed, start_of, starts, state_after}
pub use Rattle.theory_onecopy.specs.Replay.{states_after, states_by, unlisted}
pub use Rattle.theory_onecopy.specs.Views.{AreFromViews, HasLine, HasOwn, IsFromView, IsNext, lines_of, lines_on}
