-- What the administrator is, sends, writes and takes, where clocks, lines, promises, verdicts, epochs and the numbers
-- of Asks have each a property.
use Rattle.std.specs.Prelude.{MatchOption, option_and_then}
use Rattle.std.proofs.Common.{◌≡◌, ℕ, ◌≤◌, max, true, List, [], Option, Some}
use Rattle.std.specs.List.{AllByRecursion as Every}
use Rattle.qc_decl.specs.Vocabulary.{most_record_bytes}
use Rattle.qc_entry.specs.declared.line.Line.{Line}
use Rattle.qc_entry.specs.declared.record.Prepared.{Prepared}
use Rattle.qc_epoch.specs.Vocabulary.{Admin, AdminMove, Doing, Question, ShutSite, is_number, outcome_in}
use Rattle.qc_epoch.specs.Vocabulary.{promised_lines}
use Rattle.qc_msg.specs.Vocabulary.{epoch_length}
use Rattle.qc_msg.specs.declared.message.Answer.{Answer}
use Rattle.qc_msg.specs.declared.message.Message.{Message}
use Rattle.qc_msg.specs.declared.message.Outcome.{Outcome}
use Rattle.qc_msg.specs.declared.message.Outcome.TheVariants.{Committed}
use Rattle.qc_msg.specs.declared.step.Command.{Command}
use Rattle.qc_msg.specs.declared.step.Input.{Input}
use Rattle.qc_msg.specs.declared.step.Input.TheVariants as inputs
use Rattle.qc_msg.specs.declared.turn.Posting.{Posting}
use Rattle.qc_stamp.specs.Vocabulary.{same_tx}
use Rattle.qc_stamp.specs.declared.stamp.Stamp.{Stamp}
use Rattle.qc_stamp.specs.declared.stamp.TxId.{TxId}
use Rattle.laws_bounds.specs.AdminParts as parts
use Rattle.qc_list.specs.Vocabulary.{In}
use Rattle.qc_entry.specs.Vocabulary.{union}
use Rattle.qc_msg.specs.declared.record.Record.{Record}
use Rattle.qc_msg.specs.Vocabulary.{Answered, answer_in, asking_in, closing_in}
use Rattle.qc_msg.specs.declared.payload.EpochStart.{EpochStart}
use Rattle.qc_msg.specs.declared.payload.Snapshot.{Snapshot}
use Rattle.qc_msg.specs.Vocabulary.{decide_in, epoch_in, installing_in, shut_in}
use Rattle.laws_bounds.proofs.AdminQuestions.{AreLined, questions_in}

-- a property of each thing that he knows or tells
pub record Properties : Type 1 where
  pub Clock : ℕ → Type 0
  pub Lines : List Line → Type 0
  pub Promise : Prepared → Type 0
  pub Verdict : TxId → Outcome → Type 0
  pub Epoch : ℕ → Type 0
  pub Number : TxId → ℕ → Type 0

-- that a decision keeps them
pub record Keeping (Clock : ℕ → Type 0) (Lines : List Line → Type 0) (Promise : Prepared → Type 0)
    (Verdict : TxId → Outcome → Type 0) : Type 0 where
  pub first : Clock 0
  pub later : (x y : ℕ) → Clock x → Clock y → Clock (max x y)
  pub stamped : (tx : TxId) (stamp : Stamp) → Verdict tx (Committed stamp) → Clock stamp.clock
  pub none : Lines []
  pub both : (xs ys : List Line) → Lines xs → Lines ys → Lines (union xs ys)
  pub promised : (p : Prepared) (stamp : Stamp) → Promise p → Verdict p.tx (Committed stamp)
      → Lines (promised_lines p (Some stamp))
  pub agree : (t u : TxId) (verdict : Outcome) → same_tx t u ≡ true → Verdict t verdict → Verdict u verdict

module _ (K : Properties) where
  -- what he is

  abbrev pub StartKeeps : ℕ → ℕ → List Line → Type 0
  StartKeeps epoch clock lines = parts.StartKeeps K.Clock K.Lines K.Promise K.Verdict K.Epoch K.Number epoch clock lines

  abbrev pub DecidedKeeps : Option EpochStart → Type 0
  DecidedKeeps o = parts.DecidedKeeps K.Clock K.Lines K.Promise K.Verdict K.Epoch K.Number o

  abbrev pub ShutKeeps : ShutSite → Type 0
  ShutKeeps s = parts.ShutKeeps K.Clock K.Lines K.Promise K.Verdict K.Epoch K.Number s

  abbrev pub ShutsKeep : List ShutSite → Type 0
  ShutsKeep shuts = parts.ShutsKeep K.Clock K.Lines K.Promise K.Verdict K.Epoch K.Number shuts

  abbrev pub ToldKeeps : TxId → Option Outcome → Type 0
  ToldKeeps tx told = parts.ToldKeeps K.Clock K.Lines K.Promise K.Verdict K.Epoch K.Number tx told

  abbrev pub TakenKeeps : TxId → Option (Option Outcome) → Type 0
  TakenKeeps tx taken = parts.TakenKeeps K.Clock K.Lines K.Promise K.Verdict K.Epoch K.Number tx taken

  abbrev pub QuestionKeeps : Question → Type 0
  QuestionKeeps q = parts.QuestionKeeps K.Clock K.Lines K.Promise K.Verdict K.Epoch K.Number q

  abbrev pub QuestionsKeep : List Question → Type 0
  QuestionsKeep questions = parts.QuestionsKeep K.Clock K.Lines K.Promise K.Verdict K.Epoch K.Number questions

  abbrev pub DoingKeeps : Doing → Type 0
  DoingKeeps d = parts.DoingKeeps K.Clock K.Lines K.Promise K.Verdict K.Epoch K.Number d

  abbrev pub AdminKeeps : Admin → Type 0
  AdminKeeps m = parts.AdminKeeps K.Clock K.Lines K.Promise K.Verdict K.Epoch K.Number m

  -- what he sends and writes: an Ask is about a transaction of which a site told a promise

  abbrev pub AboutPromise : TxId → Type 0
  AboutPromise tx = (p : Prepared) × ((p.tx ≡ tx) × K.Promise p)

  abbrev pub SendKeeps : Message → Type 0
  SendKeeps message =
      MatchOption (asking_in message)
      (MatchOption (closing_in message)
      (MatchOption (installing_in message) ⊥ (λ (i : EpochStart). StartKeeps i.epoch i.clock i.lines)) K.Epoch)
      AboutPromise

  abbrev pub SendsKeep : List Posting → Type 0
  SendsKeep ps = Every (λ (p : Posting). SendKeeps p.message) ps

  abbrev pub WriteKeeps : Option Record → Type 0
  WriteKeeps write =
      MatchOption write (Unit {0})
      (λ (r : Record). MatchOption (decide_in r) ⊥
      (λ (i : EpochStart). StartKeeps i.epoch i.clock i.lines × (epoch_length i.lines ≤ most_record_bytes)))

  pub record AdminMoveKeeps (move : AdminMove) : Type 0 where
    pub admin : AdminKeeps move.admin
    pub sends : SendsKeep move.turn.sends
    pub lined : AreLined (questions_in move.admin.doing) move.turn.sends
    pub write : WriteKeeps move.turn.write

  -- what he takes: an epoch that a command asks for; what a site tells of itself; what a client tells of the
  -- transaction that it was asked about

  abbrev pub ShutCame : Option Answer → Type 0
  ShutCame answer =
      MatchOption (option_and_then shut_in answer) (Unit {0})
      (λ (z : Snapshot). K.Clock z.clock × K.Lines z.log × Every K.Promise z.prepared)

  pub record CameKeeps (m : Admin) (number : ℕ) (answer : Option Answer) : Type 0 where
    pub shut : ShutCame answer
    pub told : (q : Question) → In q (questions_in m.doing) → is_number number q.number ≡ true
        → ToldKeeps q.tx (outcome_in answer)

  abbrev pub CommandKeeps : Command → Type 0
  CommandKeeps command = MatchOption (epoch_in command) (Unit {0}) K.Epoch

  abbrev pub MessageKeeps : Admin → Message → Type 0
  MessageKeeps m message =
      MatchOption (answer_in message) (Unit {0}) (λ (a : Answered). CameKeeps m a.to (Some a.answer))

  abbrev pub GivenKeeps : Admin → Input → Type 0
  GivenKeeps m (inputs.Called command) = CommandKeeps command
  GivenKeeps m (inputs.Got e) = MessageKeeps m e.message
  GivenKeeps m (inputs.Lost number) = Unit {0}
