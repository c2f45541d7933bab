-- A run with falls made by a schedule: whoever is named takes what is ready for it, or posts the turn of its conduct,
-- whose record ends as the schedule says; the controller begins the next phase; the first control line that is left
-- acts. A move that no run has there ends it.
use Rattle.std.specs.Prelude.{ℕ, ◌+◌, ◌&&◌, Bool, true, false, cond, List, [], ◌∷◌, ◌++◌, length, slice_set, Option}
use Rattle.std.specs.Prelude.{Some, None, is_some, option_and_then, option_map, option_to_list, slice_get}
use Rattle.qc_core.specs.Vocabulary.{turn_with_falls}
use Rattle.qc_decl.specs.declared.declaration.Declaration.{Declaration}
use Rattle.qc_fit.specs.Vocabulary.{fits}
use Rattle.qc_msg.specs.declared.record.Record.{Record}
use Rattle.qc_msg.specs.declared.step.Control.{Control}
use Rattle.qc_msg.specs.declared.step.Control.TheVariants as controls
use Rattle.qc_msg.specs.declared.step.Fall.{Fall}
use Rattle.qc_msg.specs.declared.step.Fall.TheVariants as causes
use Rattle.qc_msg.specs.declared.step.Step.TheVariants as steps
use Rattle.qc_msg.specs.declared.turn.Appended.{Appended}
use Rattle.qc_msg.specs.declared.turn.Appended.TheVariants.{Done, Failed, Stopped}
use Rattle.qc_msg.specs.declared.turn.Turn.{Turn}
use Rattle.qc_msg.specs.Vocabulary.{Entry, by, deeds, mail, marked, own, posted_as}
use Rattle.qc_promise.specs.Vocabulary.{Journal, journal_of}
use Rattle.qc_script.specs.declared.script.Script.{Script}
use Rattle.qc_script.specs.Vocabulary.{controls_left, ready}
use Rattle.tests_runs.specs.Perform.{Stage, ended, nothing_done, taken_by, with_phase, with_step}

-- the next phase begins; the first control line that is left acts, and restarts nobody; an actor takes what is ready
-- for it; an actor posts its turn, whose record ends so; an actor rises by the first control line, with the record that
-- was being written as it fell or without it, and its rising turn ends so; or its journal isn't opened, for this cause
pub data Move : Type 0 where
  Begins : Move
  Acts : Move
  Takes : (actor : ℕ) → Move
  Posts : (actor : ℕ) (end : Appended) → Move
  Rises : (is_given_back : Bool) (end : Appended) → Move
  Unopened : (cause : Fall) → Move

-- a turn, and what becomes of its record: only where it has one can that fail to be written

abbrev pub where_recorded : Option Record → Turn → Option Turn
where_recorded None turn = None
where_recorded (Some written) turn = Some turn

abbrev pub ending_so : Appended → Turn → Option Turn
ending_so Done turn = Some (record turn { append = Done })
ending_so Failed turn = where_recorded turn.write (record turn { append = Failed })
ending_so Stopped turn = where_recorded turn.write (record turn { append = Stopped })

-- the turn that an actor's deeds in a history call for, where its record ends so
abbrev pub turn_in : Declaration → ℕ → List Entry → Appended → Option Turn
turn_in decl a h end = option_and_then (ending_so end) (turn_with_falls decl a (deeds a [] h))

-- an actor with an open input posts

abbrev pub with_posted : Stage → ℕ → Turn → Stage
with_posted s a turn =
    record {
      history = s.history ++ by a (posted_as turn.append (length (mail s.history)) turn);
      open_inputs = slice_set s.open_inputs a false;
    }

abbrev pub posted_by : Stage → ℕ → Option Bool → Option Turn → Option Stage
posted_by s a None turn = None
posted_by s a (Some false) turn = None
posted_by s a (Some true) turn = option_map (with_posted s a) turn

-- the first control line acts, where it restarts nobody

abbrev pub with_fall : Stage → ℕ → Fall → Stage
with_fall s a cause = record s { history = s.history ++ marked a (steps.Fell cause None) ∷ [] }

abbrev pub acted_by : Declaration → Stage → List Control → Option Stage
acted_by decl s [] = None
acted_by decl s (controls.Phase k ∷ lines) = None
acted_by decl s (controls.Cut a b ∷ lines) = Some (with_step decl s (steps.Cut a b))
acted_by decl s (controls.Heal a b ∷ lines) = Some (with_step decl s (steps.Heal a b))
acted_by decl s (controls.Armed actor kind at ∷ lines) = Some (with_step decl s (steps.Armed actor kind at))
acted_by decl s (controls.Crash a ∷ lines) = Some (with_fall s a causes.Script)
acted_by decl s (controls.Restart a ∷ lines) = None

-- whom the first control line restarts
abbrev pub restarted : List Control → Option ℕ
restarted [] = None
restarted (controls.Phase k ∷ lines) = None
restarted (controls.Cut a b ∷ lines) = None
restarted (controls.Heal a b ∷ lines) = None
restarted (controls.Armed actor kind at ∷ lines) = None
restarted (controls.Crash a ∷ lines) = None
restarted (controls.Restart a ∷ lines) = Some a

-- it rises, with records that fit it, and posts its rising turn

abbrev pub given_back : Bool → Journal → List Record
given_back true j = j.records ++ option_to_list j.pending
given_back false j = j.records

abbrev pub are_fit : Declaration → ℕ → ℕ → List Record → Bool
are_fit decl a before [] = true
are_fit decl a before (r ∷ rs) = fits decl a before r && are_fit decl a (before + 1) rs

abbrev pub with_rise : Stage → ℕ → List Record → Turn → Stage
with_rise s a records turn =
    record s { history = s.history ++ by a (steps.Rose records ∷ posted_as turn.append (length (mail s.history)) turn) }

abbrev pub risen_with : Declaration → Stage → ℕ → List Record → Option Turn → Option Stage
risen_with decl s a records None = None
risen_with decl s a records (Some turn) =
    cond (are_fit decl a 0 records && is_some turn.write) (Some (with_rise s a records turn)) None

abbrev pub rises_with : Declaration → Stage → ℕ → Appended → List Record → Option Stage
rises_with decl s a end records =
    risen_with decl s a records (turn_in decl a (s.history ++ marked a (steps.Rose records) ∷ []) end)

abbrev pub rises_by : Declaration → Stage → Bool → Appended → Option ℕ → Option Stage
rises_by decl s is_given_back end None = None
rises_by decl s is_given_back end (Some a) =
    rises_with decl s a end (given_back is_given_back (journal_of (own a s.history)))

-- its journal isn't opened: its disk stops or fails

abbrev pub is_by_disk : Fall → Bool
is_by_disk causes.Script = false
is_by_disk causes.Stop = true
is_by_disk causes.Disk = true

abbrev pub unopened_by : Stage → Fall → Option ℕ → Option Stage
unopened_by s cause None = None
unopened_by s cause (Some a) = cond (is_by_disk cause) (Some (with_fall s a cause)) None

-- a move, where it is an event of a run with falls
abbrev pub moved : Declaration → Script → Stage → Move → Option Stage
moved decl script s Begins = with_phase decl script s
moved decl script s Acts = acted_by decl s (controls_left script s.history)
moved decl script s (Takes a) = taken_by s a (slice_get s.open_inputs a) (ready decl script a s.history)
moved decl script s (Posts a end) = posted_by s a (slice_get s.open_inputs a) (turn_in decl a s.history end)
moved decl script s (Rises is_given_back end) =
    rises_by decl s is_given_back end (restarted (controls_left script s.history))
moved decl script s (Unopened cause) = unopened_by s cause (restarted (controls_left script s.history))

abbrev pub moved_on : Declaration → Script → Stage → List Move → Option Stage
moved_on decl script s [] = Some s
moved_on decl script s (move ∷ moves) =
    option_and_then (λ (next : Stage). moved_on decl script next moves) (moved decl script s move)

-- the history that a whole run of the script by these moves makes
abbrev pub run_with_falls : Declaration → Script → List Move → Option (List Entry)
run_with_falls decl script moves =
    option_and_then (ended decl script) (moved_on decl script (nothing_done decl) moves)
