-- What the controller may do next.
use Rattle.std.specs.Prelude.{◌≡◌, ◌+◌, ◌<◌, ◌≤◌, ℕ, Bool, List, Option, Some, None, length, slice_get}
use Rattle.qc_decl.specs.declared.declaration.Declaration.{Declaration}
use Rattle.qc_msg.specs.Vocabulary.{Entry}
use Rattle.qc_msg.specs.declared.step.Control.{Control}
use Rattle.qc_msg.specs.declared.step.Control.TheVariants as controls
use Rattle.qc_msg.specs.declared.step.Step.{Step}
use Rattle.qc_msg.specs.declared.step.Step.TheVariants as steps
use Rattle.qc_script.specs.Vocabulary.{controls_left, phase_of}
use Rattle.qc_script.specs.declared.script.Script.{Script}
use Rattle.qc_fabric.specs.Logs.{full_of}
use Rattle.qc_fabric.specs.Picks.{IsStopped}

-- The next phase comes where nothing is left to do in this one, and else the first control line that hasn't acted.
abbrev pub ComesNext : Declaration → Script → List Entry → List Bool → Control → Type 0
ComesNext decl script h inputs (controls.Phase k) =
    IsStopped decl script h inputs × (k ≡ phase_of h + 1) × (phase_of h < length script.phases)
ComesNext decl script h inputs (controls.Cut a b) = slice_get (controls_left script h) 0 ≡ Some (controls.Cut a b)
ComesNext decl script h inputs (controls.Heal a b) = slice_get (controls_left script h) 0 ≡ Some (controls.Heal a b)
ComesNext decl script h inputs (controls.Armed actor kind at) =
    slice_get (controls_left script h) 0 ≡ Some (controls.Armed actor kind at)
ComesNext decl script h inputs (controls.Crash a) = slice_get (controls_left script h) 0 ≡ Some (controls.Crash a)
ComesNext decl script h inputs (controls.Restart a) = slice_get (controls_left script h) 0 ≡ Some (controls.Restart a)

-- what comes next may be done, while no limit is reached
pub record MayDo (decl : Declaration) (script : Script) (h : List Entry) (inputs : List Bool) (control : Control)
    : Type 0 where
  pub next : ComesNext decl script h inputs control
  pub below : full_of h ≡ None

-- the phase that begins, if one does, is none behind this one
abbrev pub IsUpTo : ℕ → Control → Type 0
IsUpTo last (controls.Phase k) = k ≤ last
IsUpTo last (controls.Cut a b) = Unit {0}
IsUpTo last (controls.Heal a b) = Unit {0}
IsUpTo last (controls.Armed actor kind at) = Unit {0}
IsUpTo last (controls.Crash a) = Unit {0}
IsUpTo last (controls.Restart a) = Unit {0}

-- what the controller does with no actor. A line that arms an actor's disk, crashes the actor or restarts it takes that
-- actor's pass too
abbrev pub IsControllers : Control → Type 0
IsControllers (controls.Phase k) = Unit {0}
IsControllers (controls.Cut a b) = Unit {0}
IsControllers (controls.Heal a b) = Unit {0}
IsControllers (controls.Armed actor kind at) = ⊥
IsControllers (controls.Crash a) = ⊥
IsControllers (controls.Restart a) = ⊥

-- the step of what may be done, where it is the controller's own
abbrev pub control_step : Control → Option Step
control_step (controls.Phase k) = Some (steps.Phase k)
control_step (controls.Cut a b) = Some (steps.Cut a b)
control_step (controls.Heal a b) = Some (steps.Heal a b)
control_step (controls.Armed actor kind at) = Some (steps.Armed actor kind at)
control_step (controls.Crash a) = None
control_step (controls.Restart a) = None
