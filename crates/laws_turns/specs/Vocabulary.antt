-- What proofs, and other crates, name of this crate's definitions.
pub use Rattle.laws_turns.specs.Asked.{AreAskable, AsksDeclared, IsAskable}
pub use Rattle.laws_turns.specs.Books.{Book, begun_in, book_of, book_with}
pub use Rattle.laws_turns.specs.Bounds.{ClockBounds, IsBounded}
pub use Rattle.laws_turns.specs.Calls.{HasAnswer, IsAnswerTo, IsAwaited, calls_by, is_waiting, open_calls, waits}
pub use Rattle.laws_turns.specs.Calm.{AreCalm, IsCalm}
pub use Rattle.laws_turns.specs.Exchanges.{AreAnswered, Exchange, exchanges, exchanges_from}
pub use Rattle.laws_turns.specs.LivesIn.{LivesIn}
pub use Rattle.laws_turns.specs.Order.{AreInOrder, IsInOrder}
pub use Rattle.laws_turns.specs.Others.{IsFall}
pub use Rattle.laws_turns.specs.OwnRises.{GivesOwn, IsOwnRecord, RiseWithOwn}
pub use Rattle.laws_turns.specs.RecordsAsked.{AreSites, AskedSites, AsksSites, VotedSites}
pub use Rattle.laws_turns.specs.Turns.{ActsIn}
pub use Rattle.laws_turns.specs.Waits.{IsAtReceiver, IsTaken}
pub use Rattle.laws_turns.specs.Whole.{IsClosed, IsQuiet, IsWhole, asked_by, asked_in_all, asked_until, call_in}
pub use Rattle.laws_turns.specs.Whole.{calls_of, replies_of, reply_in}
pub use Rattle.laws_turns.specs.Within.{AnswerWithin, ClientMoveWithin, ClientWithin, DeskWithin, FrontWithin}
pub use Rattle.laws_turns.specs.Within.{GivenWithin, LinesWithin, MailWithin, MessageWithin, OutcomeWithin}
pub use Rattle.laws_turns.specs.Within.{PromisesWithin, SendsWithin, SiteMoveWithin, SiteWithin, TransactionWithin}
pub use Rattle.laws_turns.specs.Within.{ViewsWithin, WantWithin}
pub use Rattle.laws_turns.specs.Written.{written_by, written_in}
pub use Rattle.laws_turns.specs.Wrong.{asks, begun, commit, committed, first, none_read, read_it, reading, says, second}
pub use Rattle.laws_turns.specs.Wrong.{tx}
pub use Rattle.laws_turns.specs.EachRun.{OfEachKeptRun}
