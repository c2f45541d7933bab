-- What the state under the lock keeps.
use Rattle.std.specs.Prelude.{◌≡◌, ℕ, ◌+◌, ◌<◌, ◌≤◌, suc, Bool, true, List, Option, Some, None, length, slice_get, sum}
use Rattle.atomic_table.specs.Seated.{TableId}
use Rattle.qc_decl.specs.Vocabulary.{actors, controller}
use Rattle.qc_decl.specs.declared.declaration.Declaration.{Declaration}
use Rattle.qc_mailbox.specs.Vocabulary.{IsKept, TellsWhereDown, Roomy}
use Rattle.qc_msg.specs.Vocabulary.{Deed, Entry}
use Rattle.qc_msg.specs.declared.record.Record.{Record}
use Rattle.qc_msg.specs.declared.step.Step.{Step}
use Rattle.qc_msg.specs.declared.turn.Turn.{Turn}
use Rattle.qc_pass.specs.declared.token.Right.{Right}
use Rattle.qc_pass.specs.Vocabulary.{all, ends, right_table, rooms}
use Rattle.qc_script.specs.Vocabulary.{IsScriptFor, RunsWithFalls, phase_of}
use Rattle.qc_script.specs.declared.script.Script.{Script}
use Rattle.qc_fabric.specs.Events.{before_last_event}
use Rattle.qc_fabric.specs.Gains.{ArmsNoneBehind}
use Rattle.qc_fabric.specs.Logs.{Logged, full_of}
use Rattle.qc_link.specs.Vocabulary.{most_actors}

-- what callers see: the history, of each site and client whether its input is open, and whether it is held, and for how
-- many steps there is room beyond those that are reserved
pub record Shown : Type 0 where
  pub history : List Entry
  pub open_inputs : List Bool
  pub held : List Bool
  pub spare : ℕ

-- the most steps of a history
abbrev pub most_history : ℕ
most_history = 8388608

pub record IsFabricState (lawful : ℕ → List Deed → Turn → Type 0) (fits : ℕ → List Record → Type 0) (decl : Declaration)
    (script : Script) (z : TableId) (own : Script) (log : Logged) (mailboxes : Roomy) (inputs held : List Bool)
    (phase reserved spare : ℕ) (table : TableId) (right : Option (Right Step)) : Type 0 where
  -- the script is the named one
  pub script_is : own ≡ script
  -- the right is there, of the named table
  pub holder : Right Step
  pub right_is : right ≡ Some holder
  pub table_is : table ≡ z
  pub right_table_is : right_table holder ≡ z
  -- the history is the right's, and a run
  pub all_is : all holder ≡ log.history
  pub runs : RunsWithFalls lawful fits decl script log.history inputs
  -- what is kept beside it is what it shows
  pub kept : IsKept script log.history mailboxes.inboxes
  pub phase_is : phase ≡ phase_of log.history
  pub opens : length inputs ≡ actors decl
  pub helds : length held ≡ actors decl
  -- room is kept for every reserved step, and for the spare ones, in the history and in the mailboxes
  pub passes : length (rooms holder) ≡ controller decl + 1
  pub sum_is : sum (rooms holder) ≡ reserved
  pub log_room : reserved + spare ≤ log.room
  pub mail_room : reserved + spare ≤ mailboxes.room
  pub bound : length log.history + (reserved + spare) ≤ most_history
  -- before the last event each counted quantity was below its limit
  pub below : full_of (before_last_event log.history) ≡ None
  -- who has room has an open input
  pub opened : (a k : ℕ) → slice_get (rooms holder) a ≡ Some (suc k) → slice_get inputs a ≡ Some true
  -- nothing that arms an actor's disk stands behind what its pass has seen
  pub unarmed : ArmsNoneBehind (ends holder) log.history
  -- the name is that of a run: its script is for its declaration, whose actors are few; and by the conduct who is down
  -- only tells replies
  pub sound : IsScriptFor decl script
  pub few : controller decl < most_actors
  pub down : TellsWhereDown lawful
