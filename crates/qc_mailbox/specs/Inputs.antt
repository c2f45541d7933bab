-- What is ready for an actor, as it is read off what is kept.
use Rattle.std.specs.Prelude.{ℕ, ◌<◌, ◌&&◌, Bool, not, List, [], ◌∷◌, Option, Some, None, cond}
use Rattle.qc_decl.specs.declared.declaration.Declaration.{Declaration}
use Rattle.qc_msg.specs.declared.step.Command.{Command}
use Rattle.qc_msg.specs.declared.step.Control.{Control}
use Rattle.qc_msg.specs.declared.step.Control.TheVariants as controls
use Rattle.qc_msg.specs.declared.step.Input.{Input}
use Rattle.qc_msg.specs.declared.step.Input.TheVariants as inputs
use Rattle.qc_script.specs.Vocabulary.{takes_commands}
use Rattle.qc_mailbox.specs.Inboxes.{Inboxes, Tray}
use Rattle.qc_mailbox.specs.Rooms.{tray_at}
use Rattle.qc_mailbox.specs.declared.input.ReadyInput.{ReadyInput}
use Rattle.qc_mailbox.specs.declared.input.ReadyInput.TheVariants.{Copy, Lost, Command as Called}
use Rattle.qc_link.specs.Vocabulary.{most_actors}

-- an input, its message named by its number
abbrev pub input_of : Input → ReadyInput
input_of (inputs.Called command) = Called command
input_of (inputs.Got envelope) = Copy envelope.number
input_of (inputs.Lost number) = Lost number

-- copies come first, then lost requests, then a command for who takes some and has told its last reply

abbrev pub first_command : List Command → Option ReadyInput
first_command [] = None
first_command (command ∷ commands) = Some (Called command)

abbrev pub first_lost : List ℕ → Option ReadyInput → Option ReadyInput
first_lost [] other = other
first_lost (n ∷ ns) other = Some (Lost n)

abbrev pub first_copy : List ℕ → Option ReadyInput → Option ReadyInput
first_copy [] other = other
first_copy (n ∷ ns) other = Some (Copy n)

abbrev pub command_in : Bool → Tray → Option ReadyInput
command_in takes t = cond (takes && not t.busy) (first_command t.commands) None

abbrev pub next_in : Bool → Tray → Option ReadyInput
next_in takes t = first_copy t.copies (first_lost t.lost (command_in takes t))

-- nothing is taken between a phase's control lines
abbrev pub after_controls : List Control → Option ReadyInput → Option ReadyInput
after_controls [] input = input
after_controls (c ∷ cs) input = None

abbrev pub input_in : Declaration → ℕ → Inboxes → Option ReadyInput
input_in decl a i = after_controls i.controls (next_in (takes_commands decl a) (tray_at i.trays a))

-- the actors that a control line cuts or heals are actors
abbrev pub IsWithin : Control → Type 0
IsWithin (controls.Phase k) = Unit {0}
IsWithin (controls.Cut a b) = (a < most_actors) × (b < most_actors)
IsWithin (controls.Heal a b) = (a < most_actors) × (b < most_actors)
IsWithin (controls.Armed actor kind at) = Unit {0}
IsWithin (controls.Crash a) = Unit {0}
IsWithin (controls.Restart a) = Unit {0}
