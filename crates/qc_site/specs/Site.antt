-- A site's state, and what it answers.
use Rattle.std.specs.Prelude.{ℕ, List, [], ◌∷◌, ◌++◌, Option, Some, None}
use Rattle.qc_entry.specs.declared.line.Line.{Line}
use Rattle.qc_entry.specs.declared.record.Prepared.{Prepared}
use Rattle.qc_entry.specs.Vocabulary.{union, without}
use Rattle.qc_lock.specs.declared.held.Held.{Held}
use Rattle.qc_stamp.specs.Vocabulary.{first_life}
use Rattle.qc_msg.specs.declared.message.Answer.{Answer}
use Rattle.qc_msg.specs.declared.message.Answer.TheVariants.{Fault}
use Rattle.qc_msg.specs.declared.message.Message.TheVariants as messages
use Rattle.qc_msg.specs.declared.record.Record.{Record}
use Rattle.qc_msg.specs.declared.turn.Appended.TheVariants.{Done}
use Rattle.qc_msg.specs.declared.turn.Posting.{Posting}
use Rattle.qc_msg.specs.declared.turn.Turn.{Turn}
use Rattle.qc_msg.specs.Vocabulary.{first_epoch, sending}

pub record SiteState : Type 0 where
  pub number : ℕ
  -- 1 more than its records of a rise or of a closed epoch
  pub life : ℕ
  -- the epoch that it has installed, and the one that it has closed that for
  pub epoch : ℕ
  pub closed_for : Option ℕ
  -- the lines that its epoch began with, those that it learned since, and those of these that its own records give
  pub began : List Line
  pub log : List Line
  pub recorded : List Line
  -- all that it knows, in the order in which they joined since it rose or began its epoch, whichever came later
  pub arrived : List Line
  -- what each unfinished transaction holds
  pub held : List Held
  -- the transactions that it has promised to keep, in the order of its promises
  pub prepared : List Prepared
  -- its Lamport clock
  pub clock : ℕ

-- what a site becomes, and what it does
pub record SiteMove : Type 0 where
  pub site : SiteState
  pub turn : Turn

abbrev pub moved : SiteState → Turn → SiteMove
moved site turn = record { site = site; turn = turn }

abbrev pub new_site : ℕ → SiteState
new_site number =
    record {
      number = number;
      life = first_life;
      epoch = first_epoch;
      closed_for = None;
      began = [];
      log = [];
      recorded = [];
      arrived = [];
      held = [];
      prepared = [];
      clock = 0;
    }

-- all lines that it knows
abbrev pub known : SiteState → List Line
known s = union s.began s.log

-- it learns lines: those that its epoch didn't begin with join the log
abbrev pub learned : SiteState → List Line → List Line
learned s lines = union s.log (without lines s.began)

-- those that it didn't know, which come last
abbrev pub fresh : SiteState → List Line → List Line
fresh s lines = without (without lines s.began) s.log

abbrev pub arriving : SiteState → List Line → List Line
arriving s lines = s.arrived ++ fresh s lines

-- the answer to the request of this number, to its sender
abbrev pub answering : ℕ → ℕ → Answer → Posting
answering from number answer = record { to = from; message = messages.Answer number answer }

abbrev pub answers : ℕ → ℕ → Answer → Turn
answers from number answer = sending (answering from number answer ∷ [])

-- this is written before the request is answered; where it can't be written, that is told
abbrev pub recording : ℕ → ℕ → Record → Answer → Turn
recording from number written answer =
    record {
      write = Some written;
      sends = answering from number answer ∷ [];
      told = None;
      failed_sends = answering from number Fault ∷ [];
      failed_told = None;
      append = Done;
    }
