-- What is ready next for an actor after a history, and which control line acts next.
use Rattle.std.specs.Prelude.{ℕ, ◌==◌, ◌&&◌, ◌||◌, Bool, not, List, [], ◌∷◌, Option, Some, None, cond, fold}
use Rattle.qc_decl.specs.declared.declaration.Declaration.{Declaration}
use Rattle.qc_decl.specs.Vocabulary.{administrator, is_client}
use Rattle.qc_msg.specs.declared.message.Envelope.{Envelope}
use Rattle.qc_msg.specs.declared.step.Command.{Command}
use Rattle.qc_msg.specs.declared.step.Control.{Control}
use Rattle.qc_msg.specs.declared.step.Control.TheVariants as controls
use Rattle.qc_msg.specs.declared.step.Input.{Input}
use Rattle.qc_msg.specs.declared.step.Input.TheVariants.{Called, Got, Lost}
use Rattle.qc_msg.specs.declared.step.Step.{Step}
use Rattle.qc_msg.specs.declared.step.Step.TheVariants as steps
use Rattle.qc_msg.specs.Vocabulary.{Entry}
use Rattle.qc_script.specs.Inbox.{Inbox, inbox}
use Rattle.qc_script.specs.declared.script.Script.{Script}

-- copies come first, then lost requests, then a command for a client, or the administrator, that has told its last one

abbrev pub takes_commands : Declaration → ℕ → Bool
takes_commands decl a = is_client decl a || (a == administrator decl)

abbrev pub first_command : List Command → Option Input
first_command [] = None
first_command (command ∷ commands) = Some (Called command)

abbrev pub first_lost : List ℕ → Option Input → Option Input
first_lost [] other = other
first_lost (n ∷ ns) other = Some (Lost n)

abbrev pub first_copy : List Envelope → Option Input → Option Input
first_copy [] other = other
first_copy (e ∷ es) other = Some (Got e)

abbrev pub command_in : Declaration → ℕ → Inbox → Option Input
command_in decl a i = cond (takes_commands decl a && not i.busy) (first_command i.commands) None

-- nothing is taken between a phase's control lines
abbrev pub after_controls : List Control → Option Input → Option Input
after_controls [] given = given
after_controls (c ∷ cs) given = None

abbrev pub ready_in : Declaration → ℕ → Inbox → Option Input
ready_in decl a i = after_controls i.controls (first_copy i.copies (first_lost i.lost (command_in decl a i)))

abbrev pub ready : Declaration → Script → ℕ → List Entry → Option Input
ready decl script a h = ready_in decl a (inbox script a h)

-- the control lines of the phase that haven't acted: every inbox has the same
abbrev pub controls_left : Script → List Entry → List Control
controls_left script h = (inbox script 0 h).controls

-- the step of a control line in runs without falls. A phase's beginning is no line among them; lines that arm a disk,
-- crash an actor or restart it have no step there, so no such run goes on past one
abbrev pub step_of_control : Control → Option Step
step_of_control (controls.Phase k) = None
step_of_control (controls.Cut a b) = Some (steps.Cut a b)
step_of_control (controls.Heal a b) = Some (steps.Heal a b)
step_of_control (controls.Armed actor kind at) = None
step_of_control (controls.Crash a) = None
step_of_control (controls.Restart a) = None

-- the step of a control line that is the controller's own. One that crashes an actor, or restarts it, has steps of that
-- actor
abbrev pub controller_step : Control → Option Step
controller_step (controls.Phase k) = None
controller_step (controls.Cut a b) = Some (steps.Cut a b)
controller_step (controls.Heal a b) = Some (steps.Heal a b)
controller_step (controls.Armed actor kind at) = Some (steps.Armed actor kind at)
controller_step (controls.Crash a) = None
controller_step (controls.Restart a) = None

-- the number of the last phase that began, or 0

abbrev pub phase_at : ℕ → Step → ℕ
phase_at k (steps.Phase n) = n
phase_at k (steps.Cut a b) = k
phase_at k (steps.Heal a b) = k
phase_at k (steps.Armed actor kind at) = k
phase_at k (steps.Called command) = k
phase_at k (steps.Got n) = k
phase_at k (steps.Lost n) = k
phase_at k (steps.Wrote written) = k
phase_at k (steps.Sent n to message) = k
phase_at k (steps.Told reply) = k
phase_at k (steps.Fell cause pending) = k
phase_at k (steps.Rose records) = k
phase_at k (steps.Damaged offset) = k

abbrev pub phase_of : List Entry → ℕ
phase_of h = fold (λ k e. phase_at k e.step) 0 h
