-- Clocks within a bound: those of lines, messages, turns, and of what a site and a client are.
use Rattle.std.specs.Prelude.{ℕ, ◌≤◌, List, Option, Some, None}
use Rattle.std.specs.List.{AllByRecursion as Every}
use Rattle.qc_entry.specs.declared.line.Line.{Line}
use Rattle.qc_entry.specs.declared.record.Commit.{Commit}
use Rattle.qc_entry.specs.declared.record.Prepared.{Prepared}
use Rattle.qc_client.specs.Vocabulary.{ClientMove}
use Rattle.qc_client.specs.declared.client.Client.{Client}
use Rattle.qc_commit.specs.declared.desk.Desk.{Desk}
use Rattle.qc_front.specs.declared.front.Front.{Front}
use Rattle.qc_front.specs.declared.transaction.Transaction.{Transaction}
use Rattle.qc_msg.specs.declared.message.Answer.{Answer}
use Rattle.qc_msg.specs.declared.message.Answer.TheVariants as answers
use Rattle.qc_msg.specs.declared.message.Envelope.{Envelope}
use Rattle.qc_msg.specs.declared.message.Message.{Message}
use Rattle.qc_msg.specs.declared.message.Message.TheVariants as messages
use Rattle.qc_msg.specs.declared.message.Outcome.{Outcome}
use Rattle.qc_msg.specs.declared.message.Outcome.TheVariants.{Aborted, Active, Committed}
use Rattle.qc_msg.specs.declared.message.Want.{Want}
use Rattle.qc_msg.specs.declared.message.Want.TheVariants.{Append, Prepare, Read}
use Rattle.qc_msg.specs.declared.step.Input.{Input}
use Rattle.qc_msg.specs.declared.step.Input.TheVariants as inputs
use Rattle.qc_msg.specs.declared.turn.Posting.{Posting}
use Rattle.qc_site.specs.Vocabulary.{SiteMove, SiteState}
use Rattle.qc_view.specs.declared.view.View.{View}

-- each line's stamp has at most this clock
abbrev pub LinesWithin : ℕ → List Line → Type 0
LinesWithin bound lines = Every (λ (l : Line). l.stamp.clock ≤ bound) lines

-- the lines of each promise
abbrev pub PromisesWithin : ℕ → List Prepared → Type 0
PromisesWithin bound prepared = Every (λ (p : Prepared). LinesWithin bound p.lines) prepared

-- the clocks that a message tells

abbrev pub OutcomeWithin : ℕ → Outcome → Type 0
OutcomeWithin bound (Committed stamp) = stamp.clock ≤ bound
OutcomeWithin bound Aborted = Unit {0}
OutcomeWithin bound Active = Unit {0}

abbrev pub WantWithin : ℕ → Want → Type 0
WantWithin bound (Read read) = Unit {0}
WantWithin bound (Append object view own) = LinesWithin bound view
WantWithin bound Prepare = Unit {0}

abbrev pub AnswerWithin : ℕ → Answer → Type 0
AnswerWithin bound (answers.Granted grant) = (grant.clock ≤ bound) × LinesWithin bound grant.log
AnswerWithin bound (answers.Clash holder inv event) = Unit {0}
AnswerWithin bound (answers.Closed epoch) = Unit {0}
AnswerWithin bound (answers.Behind epoch) = Unit {0}
AnswerWithin bound (answers.Restarted life) = Unit {0}
AnswerWithin bound answers.Stale = Unit {0}
AnswerWithin bound answers.Fault = Unit {0}
AnswerWithin bound (answers.Yes clock) = clock ≤ bound
AnswerWithin bound (answers.Shut snapshot) =
    (snapshot.clock ≤ bound) × LinesWithin bound snapshot.log × PromisesWithin bound snapshot.prepared
AnswerWithin bound answers.Installed = Unit {0}
AnswerWithin bound (answers.Answered verdict) = OutcomeWithin bound verdict

abbrev pub MessageWithin : ℕ → Message → Type 0
MessageWithin bound (messages.Request tx epoch life want) = WantWithin bound want
MessageWithin bound (messages.Answer to answer) = AnswerWithin bound answer
MessageWithin bound (messages.Decision tx verdict) = OutcomeWithin bound verdict
MessageWithin bound (messages.Inquiry tx) = Unit {0}
MessageWithin bound (messages.Ask tx) = Unit {0}
MessageWithin bound (messages.Close epoch) = Unit {0}
MessageWithin bound (messages.Install start) = (start.clock ≤ bound) × LinesWithin bound start.lines

-- those of messages, of what is taken, and of a turn's messages

abbrev pub MailWithin : ℕ → List Envelope → Type 0
MailWithin bound mail = Every (λ (e : Envelope). MessageWithin bound e.message) mail

abbrev pub GivenWithin : ℕ → Input → Type 0
GivenWithin bound (inputs.Called command) = Unit {0}
GivenWithin bound (inputs.Got envelope) = MessageWithin bound envelope.message
GivenWithin bound (inputs.Lost number) = Unit {0}

abbrev pub SendsWithin : ℕ → List Posting → Type 0
SendsWithin bound sends = Every (λ (p : Posting). MessageWithin bound p.message) sends

-- a site: its clock, the lines that it knows, and those of its promises
pub record SiteWithin (bound : ℕ) (s : SiteState) : Type 0 where
  pub clock : s.clock ≤ bound
  pub began : LinesWithin bound s.began
  pub log : LinesWithin bound s.log
  pub arrived : LinesWithin bound s.arrived
  pub prepared : PromisesWithin bound s.prepared

pub record SiteMoveWithin (bound : ℕ) (move : SiteMove) : Type 0 where
  pub site : SiteWithin bound move.site
  pub sends : SendsWithin bound move.turn.sends

-- a front end: its clock, the number of transactions that it began, and the lines in the begun one's views

abbrev pub ViewsWithin : ℕ → List View → Type 0
ViewsWithin bound views = Every (λ (v : View). LinesWithin bound v.log) views

abbrev pub TransactionWithin : ℕ → Option Transaction → Type 0
TransactionWithin bound None = Unit {0}
TransactionWithin bound (Some t) = ViewsWithin bound t.views

pub record FrontWithin (bound : ℕ) (front : Front) : Type 0 where
  pub clock : front.clock.value ≤ bound
  pub count : front.count ≤ bound
  pub views : TransactionWithin bound front.transaction

-- a desk: its clock, and the stamps of its records
pub record DeskWithin (bound : ℕ) (desk : Desk) : Type 0 where
  pub clock : desk.clock.value ≤ bound
  pub commits : Every (λ (c : Commit). c.stamp.clock ≤ bound) desk.commits

pub record ClientWithin (bound : ℕ) (c : Client) : Type 0 where
  pub front : FrontWithin bound c.front
  pub desk : DeskWithin bound c.desk

pub record ClientMoveWithin (bound : ℕ) (move : ClientMove) : Type 0 where
  pub client : ClientWithin bound move.client
  pub sends : SendsWithin bound move.turn.sends
