-- Which histories are runs of a script, over any conduct of the actors.
use Rattle.std.specs.Prelude.{◌≡◌, ℕ, ◌+◌, ◌<◌, Bool, true, false, List, [], ◌∷◌, ◌++◌, Some, None, length, replicate}
use Rattle.std.specs.Prelude.{slice_get, slice_set}
use Rattle.qc_decl.specs.declared.declaration.Declaration.{Declaration}
use Rattle.qc_decl.specs.Vocabulary.{actors, controller}
use Rattle.qc_msg.specs.declared.step.Control.{Control}
use Rattle.qc_msg.specs.declared.step.Input.{Input}
use Rattle.qc_msg.specs.declared.step.Step.{Step}
use Rattle.qc_msg.specs.declared.step.Step.TheVariants.{Phase}
use Rattle.qc_msg.specs.declared.turn.Turn.{Turn}
use Rattle.qc_msg.specs.Vocabulary.{Deed, Entry, by, deeds, mail, marked, posted, step_of}
use Rattle.qc_script.specs.Ready.{controls_left, phase_of, ready, step_of_control}
use Rattle.qc_script.specs.declared.script.Script.{Script}

-- A conduct says which turns are lawful for an actor after its deeds, the last of which is the input that it took.
-- A history is a run where it is made of these events; each actor has an open input or none, by actor:
-- an actor without an open input takes what is ready next for it; an actor with one posts a lawful turn; where no input
-- is open, every control line has acted and nothing is ready for anybody, the next phase of the script begins; and the
-- first control line of a phase that hasn't acted does.
pub data Runs (lawful : ℕ → List Deed → Turn → Type 0) (decl : Declaration) (script : Script) : List Entry
    → List Bool → Type 0 where
  begins : Runs lawful decl script [] (replicate (actors decl) false)
  takes : (a : ℕ) (given : Input) (open_inputs : List Bool) (h : List Entry) → Runs lawful decl script h open_inputs
      → slice_get open_inputs a ≡ Some false → ready decl script a h ≡ Some given
      → Runs lawful decl script (h ++ marked a (step_of given) ∷ []) (slice_set open_inputs a true)
  posts : (a : ℕ) (turn : Turn) (open_inputs : List Bool) (h : List Entry) → Runs lawful decl script h open_inputs
      → slice_get open_inputs a ≡ Some true → lawful a (deeds a [] h) turn
      → Runs lawful decl script (h ++ by a (posted (length (mail h)) turn)) (slice_set open_inputs a false)
  phase : (open_inputs : List Bool) (h : List Entry) → Runs lawful decl script h open_inputs
      → ((a : ℕ) → slice_get open_inputs a ≡ Some true → ⊥) → controls_left script h ≡ []
      → ((a : ℕ) → a < actors decl → ready decl script a h ≡ None) → phase_of h < length script.phases
      → Runs lawful decl script (h ++ marked (controller decl) (Phase (phase_of h + 1)) ∷ []) open_inputs
  control : (line : Control) (lines : List Control) (step : Step) (open_inputs : List Bool) (h : List Entry)
      → Runs lawful decl script h open_inputs → controls_left script h ≡ line ∷ lines → step_of_control line ≡ Some step
      → Runs lawful decl script (h ++ marked (controller decl) step ∷ []) open_inputs

-- the history is a run, with some inputs open
abbrev pub Run : (ℕ → List Deed → Turn → Type 0) → Declaration → Script → List Entry → Type 0
Run lawful decl script h = (open_inputs : List Bool) × Runs lawful decl script h open_inputs
