-- Inputs whose messages are named by their numbers.
use Rattle.std.specs.Prelude.{◌≡◌, ◌⊎◌, ◌<◌, ℕ, Bool, true, false, List, Option, Some, None, IsSome, length, option_map}
use Rattle.std.specs.Prelude.{slice_get}
use Rattle.qc_decl.specs.declared.declaration.Declaration.{Declaration}
use Rattle.qc_mailbox.specs.Vocabulary.{Inboxes, input_in, is_held}
use Rattle.qc_mailbox.specs.declared.input.ReadyInput.{ReadyInput}
use Rattle.qc_mailbox.specs.declared.input.ReadyInput.TheVariants as inputs
use Rattle.qc_msg.specs.declared.message.Envelope.{Envelope}
use Rattle.qc_msg.specs.declared.step.Input.{Input}
use Rattle.qc_msg.specs.declared.step.Input.TheVariants as given
use Rattle.qc_msg.specs.Vocabulary.{Entry}
use Rattle.qc_fabric.specs.Logs.{full_of}

-- the input with its message in full, these being the messages so far
abbrev pub given_by : List Envelope → ReadyInput → Option Input
given_by ms (inputs.Copy number) = option_map given.Got (slice_get ms number)
given_by ms (inputs.Lost number) = Some (given.Lost number)
given_by ms (inputs.Command command) = Some (given.Called command)

-- its message is there
abbrev pub IsThere : List Envelope → ReadyInput → Type 0
IsThere ms (inputs.Copy number) = number < length ms
IsThere ms (inputs.Lost number) = Unit {0}
IsThere ms (inputs.Command command) = Unit {0}

-- The input that is handed to an actor: none where a counted quantity has reached its limit, where the actor's bit is
-- set, and where the inboxes show none.
abbrev pub IsInputFor : Declaration → List Entry → Inboxes → List Bool → ℕ → Option ReadyInput → Type 0
IsInputFor decl h kept bits a None = IsSome (full_of h) ⊎ ((is_held bits a ≡ true) ⊎ (input_in decl a kept ≡ None))
IsInputFor decl h kept bits a (Some input) =
    (full_of h ≡ None) × (is_held bits a ≡ false) × (input_in decl a kept ≡ Some input)
