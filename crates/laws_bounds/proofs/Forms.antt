-- What is in form, up to how great clocks are: numbers in the ranges of their fields, clocks of stamps at least 1,
-- lines in order; in messages, in what is taken, and in records. `laws_bounds` has how great clocks are.
use Rattle.std.proofs.Common.{◌≡◌, ℕ, ◌-◌, ◌^◌, ◌≤◌, List, length, Option, Some, None}
use Rattle.std.specs.List.{AllByRecursion as Every}
use Rattle.qc_decl.specs.Vocabulary.{most_record_bytes}
use Rattle.qc_entry.specs.Vocabulary.{IsAscending}
use Rattle.qc_entry.specs.declared.line.Line.{Line}
use Rattle.qc_entry.specs.declared.record.Commit.{Commit}
use Rattle.qc_entry.specs.declared.record.Prepared.{Prepared}
use Rattle.qc_list.specs.Vocabulary.{Ascends}
use Rattle.qc_lock.specs.Vocabulary.{lock_cmp, own_cmp}
use Rattle.qc_msg.specs.Vocabulary.{epoch_length, prepare_length, Invocation, decide_in}
use Rattle.qc_msg.specs.declared.payload.EpochStart.{EpochStart}
use Rattle.qc_msg.specs.declared.payload.Snapshot.{Snapshot}
use Rattle.qc_msg.specs.declared.payload.Grant.{Grant}
use Rattle.qc_msg.specs.Vocabulary.{do_in, epoch_in, granted_in, install_in, prepare_in, shut_in}
use Rattle.qc_msg.specs.declared.message.Answer.{Answer}
use Rattle.qc_msg.specs.declared.message.Envelope.{Envelope}
use Rattle.qc_msg.specs.declared.message.Message.{Message}
use Rattle.qc_msg.specs.declared.message.Message.TheVariants as messages
use Rattle.qc_msg.specs.declared.message.Outcome.{Outcome}
use Rattle.qc_msg.specs.declared.message.Outcome.TheVariants.{Aborted, Active, Committed}
use Rattle.qc_msg.specs.declared.message.Want.{Want}
use Rattle.qc_msg.specs.declared.message.Want.TheVariants.{Append, Prepare, Read}
use Rattle.qc_msg.specs.declared.record.Record.{Record}
use Rattle.qc_msg.specs.declared.record.Record.TheVariants as records
use Rattle.qc_msg.specs.declared.step.Command.{Command}
use Rattle.qc_msg.specs.declared.step.Input.{Input}
use Rattle.qc_msg.specs.declared.step.Input.TheVariants as inputs
use Rattle.qc_msg.specs.declared.turn.Posting.{Posting}
use Rattle.qc_record.specs.Vocabulary.{IsLock, IsOp, IsOwn, IsTx, IsWithin}
use Rattle.qc_stamp.specs.declared.stamp.Stamp.{Stamp}
use Rattle.qc_stamp.specs.declared.stamp.TxId.{TxId}
use Rattle.std.specs.Prelude.{MatchOption}

-- parts

-- a transaction's life and number, whatever its client
pub record OrdinalsInForm (tx : TxId) : Type 0 where
  pub life : IsWithin 1 (2 ^ 32 - 1) tx.life
  pub number : IsWithin 1 (2 ^ 32 - 1) tx.number

-- a stamp of a transaction
pub record StampInForm (stamp : Stamp) (tx : TxId) : Type 0 where
  pub client : stamp.client ≡ tx.client
  pub clock : 1 ≤ stamp.clock

pub record LineInForm (l : Line) : Type 0 where
  pub stamp : StampInForm l.stamp l.tx
  pub tx : IsTx l.tx
  pub op : IsWithin 1 16 l.op
  pub object : l.object ≤ 15
  pub event : l.event ≤ 63

pub record LinesInForm (lines : List Line) : Type 0 where
  pub each_is : Every LineInForm lines
  pub ascend : IsAscending lines

-- an invocation of an object, and an event that answers it

pub record InvocationInForm (object inv : ℕ) : Type 0 where
  pub object_is : object ≤ 15
  pub inv_is : inv ≤ 31

pub record EventInForm (object event resp : ℕ) : Type 0 where
  pub object_is : object ≤ 15
  pub event_is : event ≤ 63
  pub resp_is : resp ≤ 31

-- a promise, as far as its site goes by it
pub record PromiseInForm (p : Prepared) : Type 0 where
  pub tx : IsTx p.tx
  pub locks : Every IsLock p.locks
  pub own : Every IsOwn p.own

-- how an epoch begins
pub record StartInForm (epoch : ℕ) (lines : List Line) : Type 0 where
  pub epoch_is : IsWithin 1 8 epoch
  pub lines_are : LinesInForm lines

-- what is said

abbrev pub VerdictInForm : TxId → Outcome → Type 0
VerdictInForm tx (Committed stamp) = StampInForm stamp tx
VerdictInForm tx Aborted = Unit {0}
VerdictInForm tx Active = Unit {0}

abbrev pub WantInForm : Want → Type 0
WantInForm (Read read) = InvocationInForm read.object read.inv
WantInForm (Append object view own) = LinesInForm view × Every IsOwn own
WantInForm Prepare = Unit {0}

abbrev pub AnswerInForm : Answer → Type 0
AnswerInForm answer =
    MatchOption (granted_in answer)
    (MatchOption (shut_in answer) (Unit {0}) (λ (z : Snapshot). LinesInForm z.log × Every PromiseInForm z.prepared))
    (λ (g : Grant). LinesInForm g.log)

abbrev pub CameInForm : Option Answer → Type 0
CameInForm None = Unit {0}
CameInForm (Some answer) = AnswerInForm answer

abbrev pub MessageInForm : Message → Type 0
MessageInForm (messages.Request tx epoch life want) = OrdinalsInForm tx × WantInForm want
MessageInForm (messages.Answer to answer) = AnswerInForm answer
MessageInForm (messages.Decision tx verdict) = VerdictInForm tx verdict
MessageInForm (messages.Inquiry tx) = Unit {0}
MessageInForm (messages.Ask tx) = Unit {0}
MessageInForm (messages.Close epoch) = IsWithin 1 8 epoch
MessageInForm (messages.Install start) = StartInForm start.epoch start.lines

abbrev pub MailInForm : List Envelope → Type 0
MailInForm mail = Every (λ (e : Envelope). MessageInForm e.message) mail

abbrev pub SendsInForm : List Posting → Type 0
SendsInForm sends = Every (λ (p : Posting). MessageInForm p.message) sends

-- what is taken: a command asks for what is in form

abbrev pub CommandInForm : Command → Type 0
CommandInForm command =
    MatchOption (do_in command) (MatchOption (epoch_in command) (Unit {0}) (IsWithin 1 8))
    (λ (i : Invocation). InvocationInForm i.object i.inv)

abbrev pub TakenInForm : Input → Type 0
TakenInForm (inputs.Called command) = CommandInForm command
TakenInForm (inputs.Got e) = MessageInForm e.message
TakenInForm (inputs.Lost number) = Unit {0}

-- records

pub record PreparedInForm (p : Prepared) : Type 0 where
  pub tx : IsTx p.tx
  pub epoch : IsWithin 1 8 p.epoch
  pub locks : Every IsLock p.locks
  pub own : Every IsOwn p.own
  pub lines : LinesInForm p.lines
  pub locks_ascend : Ascends lock_cmp p.locks
  pub own_ascend : Ascends own_cmp p.own

pub record CommitInForm (c : Commit) : Type 0 where
  pub stamp : StampInForm c.stamp c.tx
  pub tx : IsTx c.tx
  pub ops : Every IsOp c.ops
  pub few : length c.ops ≤ 16

abbrev pub RecordInForm : Record → Type 0
RecordInForm records.Life = Unit {0}
RecordInForm (records.Prepare p) = PreparedInForm p
RecordInForm (records.Done tx clock) = IsTx tx × (1 ≤ clock)
RecordInForm (records.Close epoch) = IsWithin 1 8 epoch
RecordInForm (records.Install start) = StartInForm start.epoch start.lines
RecordInForm (records.Commit c) = CommitInForm c
RecordInForm (records.Decide start) = StartInForm start.epoch start.lines

-- records that are written are no longer than a journal's record may be

abbrev pub IsBriefStart : EpochStart → Type 0
IsBriefStart i = epoch_length i.lines ≤ most_record_bytes

abbrev pub IsBrief : Record → Type 0
IsBrief r =
    MatchOption (prepare_in r)
    (MatchOption (install_in r) (MatchOption (decide_in r) (Unit {0}) IsBriefStart) IsBriefStart)
    (λ (p : Prepared). prepare_length p ≤ most_record_bytes)

abbrev pub WriteInForm : Record → Type 0
WriteInForm r = RecordInForm r × IsBrief r
