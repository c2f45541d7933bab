-- What the administrator is keeps a property of clocks, of lines, of promises, of verdicts of a transaction, of epochs,
-- and of the numbers of Asks.
use Rattle.std.specs.Prelude.{ℕ, List, Option, Some, None}
use Rattle.std.specs.List.{AllByRecursion as Every}
use Rattle.qc_entry.specs.declared.line.Line.{Line}
use Rattle.qc_entry.specs.declared.record.Prepared.{Prepared}
use Rattle.qc_epoch.specs.Vocabulary.{Admin, Asking, Closing, Doing, Installing, Question, Resting, ShutSite}
use Rattle.qc_msg.specs.declared.payload.EpochStart.{EpochStart}
use Rattle.qc_msg.specs.declared.message.Outcome.{Outcome}
use Rattle.qc_stamp.specs.declared.stamp.TxId.{TxId}

abbrev pub AnyNumber : TxId → ℕ → Type 0
AnyNumber tx number = Unit {0}

-- the number of the Ask about a transaction, if it was sent
abbrev pub NumberKeeps : (TxId → ℕ → Type 0) → TxId → Option ℕ → Type 0
NumberKeeps Number tx None = Unit {0}
NumberKeeps Number tx (Some number) = Number tx number

module _ (Clock : ℕ → Type 0) (Lines : List Line → Type 0) (Promise : Prepared → Type 0)
    (Verdict : TxId → Outcome → Type 0) (Epoch : ℕ → Type 0) (Number : TxId → ℕ → Type 0) where
  -- an epoch that was decided
  pub record StartKeeps (epoch clock : ℕ) (lines : List Line) : Type 0 where
    pub epoch_is : Epoch epoch
    pub clock_is : Clock clock
    pub lines_are : Lines lines

  abbrev pub DecidedKeeps : Option EpochStart → Type 0
  DecidedKeeps None = Unit {0}
  DecidedKeeps (Some d) = StartKeeps d.epoch d.clock d.lines

  pub record ShutKeeps (s : ShutSite) : Type 0 where
    pub clock : Clock s.clock
    pub log : Lines s.log
    pub prepared : Every Promise s.prepared

  abbrev pub ShutsKeep : List ShutSite → Type 0
  ShutsKeep shuts = Every ShutKeeps shuts

  abbrev pub ToldKeeps : TxId → Option Outcome → Type 0
  ToldKeeps tx None = Unit {0}
  ToldKeeps tx (Some verdict) = Verdict tx verdict

  abbrev pub TakenKeeps : TxId → Option (Option Outcome) → Type 0
  TakenKeeps tx None = Unit {0}
  TakenKeeps tx (Some told) = ToldKeeps tx told

  abbrev pub QuestionKeeps : Question → Type 0
  QuestionKeeps q = TakenKeeps q.tx q.taken × NumberKeeps Number q.tx q.number

  abbrev pub QuestionsKeep : List Question → Type 0
  QuestionsKeep questions = Every QuestionKeeps questions

  abbrev pub DoingKeeps : Doing → Type 0
  DoingKeeps Resting = Unit {0}
  DoingKeeps (Closing epoch calls round shuts) = Epoch epoch × ShutsKeep shuts
  DoingKeeps (Asking epoch shuts questions) = Epoch epoch × ShutsKeep shuts × QuestionsKeep questions
  DoingKeeps (Installing closed awaits calls installed) = Unit {0}

  pub record AdminKeeps (m : Admin) : Type 0 where
    pub decided : DecidedKeeps m.decided
    pub doing : DoingKeeps m.doing
