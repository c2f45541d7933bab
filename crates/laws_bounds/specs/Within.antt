-- Clocks within a bound: those of records, and of what an actor is, sends and writes.
use Rattle.std.specs.Prelude.{ℕ, ◌≤◌, List, option_to_list}
use Rattle.std.specs.List.{AllByRecursion as Every}
use Rattle.qc_core.specs.declared.actor.Actor.{Actor}
use Rattle.qc_core.specs.declared.actor.Actor.TheVariants.{Site, Client, Admin, Down}
use Rattle.qc_core.specs.Vocabulary.{ActorMove}
use Rattle.qc_msg.specs.declared.record.Record.{Record}
use Rattle.qc_msg.specs.declared.record.Record.TheVariants as records
use Rattle.qc_msg.specs.declared.turn.Turn.{Turn}
use Rattle.qc_msg.specs.Vocabulary.{Entry}
use Rattle.laws_turns.specs.Vocabulary.{ClientWithin, LinesWithin, SendsWithin, SiteWithin}
use Rattle.laws_bounds.specs.AdminWithin.{AdminWithin}
use Rattle.laws_bounds.specs.Records.{AllPut, AllRisen}

-- the clocks that a record tells
abbrev pub RecordWithin : ℕ → Record → Type 0
RecordWithin bound records.Life = Unit {0}
RecordWithin bound (records.Prepare p) = LinesWithin bound p.lines
RecordWithin bound (records.Done tx clock) = clock ≤ bound
RecordWithin bound (records.Close epoch) = Unit {0}
RecordWithin bound (records.Install start) = (start.clock ≤ bound) × LinesWithin bound start.lines
RecordWithin bound (records.Commit c) = c.stamp.clock ≤ bound
RecordWithin bound (records.Decide start) = (start.clock ≤ bound) × LinesWithin bound start.lines

abbrev pub AreWithin : ℕ → List Record → Type 0
AreWithin bound rs = Every (RecordWithin bound) rs

-- those that a history puts into journals, and those that rise in it

abbrev pub PutWithin : ℕ → List Entry → Type 0
PutWithin bound h = AllPut (λ a. RecordWithin bound) h

abbrev pub RiseWithin : ℕ → List Entry → Type 0
RiseWithin bound h = AllRisen (λ a. RecordWithin bound) h

-- an actor, and its last turn: what it sends where its record is written, what it sends where it isn't, the record

abbrev pub StateWithin : ℕ → Actor → Type 0
StateWithin bound (Site s) = SiteWithin bound s
StateWithin bound (Client c) = ClientWithin bound c
StateWithin bound (Admin m) = AdminWithin bound m
StateWithin bound Down = Unit {0}

pub record TurnWithin (bound : ℕ) (turn : Turn) : Type 0 where
  pub sends : SendsWithin bound turn.sends
  pub failed_sends : SendsWithin bound turn.failed_sends
  pub write : AreWithin bound (option_to_list turn.write)

pub record MoveWithin (bound : ℕ) (move : ActorMove) : Type 0 where
  pub state : StateWithin bound move.actor
  pub turn : TurnWithin bound move.turn
