-- Which histories are runs of a script, over any conduct of the actors, where disks fail and actors fall and rise.
use Rattle.std.specs.Prelude.{◌≡◌, ℕ, ◌+◌, ◌<◌, Bool, true, false, List, [], ◌∷◌, ◌++◌, Some, None, length, replicate}
use Rattle.std.specs.Prelude.{slice_get, slice_set}
use Rattle.qc_decl.specs.declared.declaration.Declaration.{Declaration}
use Rattle.qc_decl.specs.Vocabulary.{actors, controller}
use Rattle.qc_msg.specs.declared.record.Record.{Record}
use Rattle.qc_msg.specs.declared.step.Control.{Control}
use Rattle.qc_msg.specs.declared.step.Control.TheVariants.{Crash, Restart}
use Rattle.qc_msg.specs.declared.step.Fall.{Fall}
use Rattle.qc_msg.specs.declared.step.Fall.TheVariants as causes
use Rattle.qc_msg.specs.declared.step.Input.{Input}
use Rattle.qc_msg.specs.declared.step.Step.{Step}
use Rattle.qc_msg.specs.declared.step.Step.TheVariants.{Phase, Fell, Rose, Damaged}
use Rattle.qc_msg.specs.declared.turn.Turn.{Turn}
use Rattle.qc_msg.specs.Vocabulary.{Deed, Entry, HasRecord, IsByDisk, by, deeds, mail, marked, posted_as, step_of}
use Rattle.qc_script.specs.Ready.{controller_step, controls_left, phase_of, ready}
use Rattle.qc_script.specs.declared.script.Script.{Script}

-- A conduct says which turns are lawful for an actor after its deeds, the last of which is the input that it took, or
-- its rise; what became of a turn's record is part of the turn. `fits` says with which records an actor may rise. A
-- history is a run where it is made of these events; each actor has an open input or none, by actor:
-- an actor without an open input takes what is ready next for it; an actor with one posts a lawful turn; where no input
-- is open, every control line has acted and nothing is ready for anybody, the next phase of the script begins; and the
-- first control line of a phase that hasn't acted does. That line cuts, heals or arms, which is a step of the
-- controller's; or it crashes an actor, which falls; or it restarts an actor, which rises and posts its rising turn, a
-- turn with a record, in one event, or stays down since its journal is damaged, or since a disk failed or stopped as
-- the journal was opened.
pub data RunsWithFalls (lawful : ℕ → List Deed → Turn → Type 0) (fits : ℕ → List Record → Type 0) (decl : Declaration)
    (script : Script) : List Entry → List Bool → Type 0 where
  begins : RunsWithFalls lawful fits decl script [] (replicate (actors decl) false)
  takes : (a : ℕ) (given : Input) (open_inputs : List Bool) (h : List Entry)
      → RunsWithFalls lawful fits decl script h open_inputs
      → slice_get open_inputs a ≡ Some false → ready decl script a h ≡ Some given
      → RunsWithFalls lawful fits decl script (h ++ marked a (step_of given) ∷ []) (slice_set open_inputs a true)
  posts : (a : ℕ) (turn : Turn) (open_inputs : List Bool) (h : List Entry)
      → RunsWithFalls lawful fits decl script h open_inputs
      → slice_get open_inputs a ≡ Some true → lawful a (deeds a [] h) turn
      → RunsWithFalls lawful fits decl script (h ++ by a (posted_as turn.append (length (mail h)) turn))
      (slice_set open_inputs a false)
  phase : (open_inputs : List Bool) (h : List Entry) → RunsWithFalls lawful fits decl script h open_inputs
      → ((a : ℕ) → slice_get open_inputs a ≡ Some true → ⊥) → controls_left script h ≡ []
      → ((a : ℕ) → a < actors decl → ready decl script a h ≡ None) → phase_of h < length script.phases
      → RunsWithFalls lawful fits decl script (h ++ marked (controller decl) (Phase (phase_of h + 1)) ∷ []) open_inputs
  control : (line : Control) (lines : List Control) (step : Step) (open_inputs : List Bool) (h : List Entry)
      → RunsWithFalls lawful fits decl script h open_inputs
      → controls_left script h ≡ line ∷ lines → controller_step line ≡ Some step
      → RunsWithFalls lawful fits decl script (h ++ marked (controller decl) step ∷ []) open_inputs
  falls : (a : ℕ) (lines : List Control) (open_inputs : List Bool) (h : List Entry)
      → RunsWithFalls lawful fits decl script h open_inputs → controls_left script h ≡ Crash a ∷ lines
      → RunsWithFalls lawful fits decl script (h ++ marked a (Fell causes.Script None) ∷ []) open_inputs
  rises : (a : ℕ) (records : List Record) (turn : Turn) (lines : List Control) (open_inputs : List Bool)
      (h : List Entry)
      → RunsWithFalls lawful fits decl script h open_inputs → controls_left script h ≡ Restart a ∷ lines
      → fits a records → HasRecord turn.write → lawful a (deeds a [] (h ++ marked a (Rose records) ∷ [])) turn
      → RunsWithFalls lawful fits decl script
      (h ++ by a (Rose records ∷ posted_as turn.append (length (mail h)) turn)) open_inputs
  damaged : (a offset : ℕ) (lines : List Control) (open_inputs : List Bool) (h : List Entry)
      → RunsWithFalls lawful fits decl script h open_inputs → controls_left script h ≡ Restart a ∷ lines
      → RunsWithFalls lawful fits decl script (h ++ marked a (Damaged offset) ∷ []) open_inputs
  unopened : (a : ℕ) (cause : Fall) (lines : List Control) (open_inputs : List Bool) (h : List Entry)
      → RunsWithFalls lawful fits decl script h open_inputs → controls_left script h ≡ Restart a ∷ lines
      → IsByDisk cause
      → RunsWithFalls lawful fits decl script (h ++ marked a (Fell cause None) ∷ []) open_inputs

-- the history is a run, with some inputs open
abbrev pub RunWithFalls : (ℕ → List Deed → Turn → Type 0) → (ℕ → List Record → Type 0) → Declaration → Script
    → List Entry → Type 0
RunWithFalls lawful fits decl script h =
    (open_inputs : List Bool) × RunsWithFalls lawful fits decl script h open_inputs
