-- The messages of a history, and what an actor does in it: one form for all that is read off its steps.
use Rattle.std.specs.Prelude.{[], option_and_then, ◌≡◌, ℕ, ◌+◌, ◌==◌, List, ◌∷◌, ◌++◌, filter, map, cond, slice_get}
use Rattle.std.specs.Prelude.{Option, Some, None, option_to_list}
use Rattle.std.specs.List.{filter_map}
use Rattle.qc_msg.specs.declared.message.Envelope.{Envelope}
use Rattle.qc_msg.specs.declared.message.Message.{Message}
use Rattle.qc_msg.specs.declared.record.Record.{Record}
use Rattle.qc_msg.specs.declared.reply.Reply.{Reply}
use Rattle.qc_msg.specs.declared.step.Fall.{Fall}
use Rattle.qc_msg.specs.declared.step.Fall.TheVariants as causes
use Rattle.qc_msg.specs.declared.step.Input.{Input}
use Rattle.qc_msg.specs.declared.step.Input.TheVariants as inputs
use Rattle.qc_msg.specs.declared.step.Step.{Step}
use Rattle.qc_msg.specs.declared.step.Step.TheVariants as steps
use Rattle.qc_msg.specs.declared.turn.Appended.{Appended}
use Rattle.qc_msg.specs.declared.turn.Appended.TheVariants.{Done, Failed, Stopped}
use Rattle.qc_msg.specs.declared.turn.Posting.{Posting}
use Rattle.qc_msg.specs.declared.turn.Turn.{Turn}
use Rattle.qc_msg.specs.Steps.{Entry}
use Rattle.qc_msg.specs.StepReadings.{Mailed, mailed_in}

-- the messages of a history, in the order of their numbers

abbrev pub envelope_at : ℕ → Step → Option Envelope
envelope_at a step =
    option_and_then (λ (m : Mailed). Some (record { number = m.number; from = a; to = m.to; message = m.message }))
    (mailed_in step)

abbrev pub envelope_of : Entry → Option Envelope
envelope_of e = envelope_at e.actor e.step

abbrev pub mail : List Entry → List Envelope
mail h = filter_map envelope_of h

-- the messages that an actor posts, numbered from n
abbrev pub envelopes : ℕ → ℕ → List Posting → List Envelope
envelopes from n [] = []
envelopes from n (p ∷ ps) =
    record { number = n; from = from; to = p.to; message = p.message } ∷ envelopes from (n + 1) ps

-- what an actor does: it takes an input, a message in full; it writes a record; it sends a message; it tells a reply;
-- it falls, with the record that was being written, if one was; it rises with the records that its journal gave
pub data Deed : Type 0 where
  Takes : (given : Input) → Deed
  Writes : (written : Record) → Deed
  Sends : (number to : ℕ) (message : Message) → Deed
  Tells : (reply : Reply) → Deed
  Falls : (cause : Fall) (pending : Option Record) → Deed
  Rises : (records : List Record) → Deed

abbrev pub heard : Option Envelope → List Deed
heard None = []
heard (Some envelope) = Takes (inputs.Got envelope) ∷ []

-- what a step does, the messages so far being ms; where a journal is damaged its actor stays down
abbrev pub deed_at : List Envelope → Step → List Deed
deed_at ms (steps.Phase k) = []
deed_at ms (steps.Cut x y) = []
deed_at ms (steps.Heal x y) = []
deed_at ms (steps.Armed actor kind at) = []
deed_at ms (steps.Called command) = Takes (inputs.Called command) ∷ []
deed_at ms (steps.Got n) = heard (slice_get ms n)
deed_at ms (steps.Lost n) = Takes (inputs.Lost n) ∷ []
deed_at ms (steps.Wrote written) = Writes written ∷ []
deed_at ms (steps.Sent n to message) = Sends n to message ∷ []
deed_at ms (steps.Told reply) = Tells reply ∷ []
deed_at ms (steps.Fell cause pending) = Falls cause pending ∷ []
deed_at ms (steps.Rose records) = Rises records ∷ []
deed_at ms (steps.Damaged offset) = []

-- the deeds of an actor in a history, each message that it takes looked up among those sent before: ms, and those of
-- the history
abbrev pub deeds : ℕ → List Envelope → List Entry → List Deed
deeds a ms [] = []
deeds a ms (e ∷ h) = cond (e.actor == a) (deed_at ms e.step) [] ++ deeds a (ms ++ option_to_list (envelope_of e)) h

-- an actor's own steps
abbrev pub own : ℕ → List Entry → List Step
own a h = map (λ e. e.step) (filter (λ e. e.actor == a) h)

-- the deeds of a turn whose messages have the numbers from n on

abbrev pub writes_of : Option Record → List Deed
writes_of None = []
writes_of (Some written) = Writes written ∷ []

abbrev pub sends_of : ℕ → List Posting → List Deed
sends_of n [] = []
sends_of n (p ∷ ps) = Sends n p.to p.message ∷ sends_of (n + 1) ps

abbrev pub tells_of : Option Reply → List Deed
tells_of None = []
tells_of (Some reply) = Tells reply ∷ []

abbrev pub turn_deeds : ℕ → Turn → List Deed
turn_deeds n turn = writes_of turn.write ++ (sends_of n turn.sends ++ tells_of turn.told)

-- the deeds of a post, by what became of the turn's record: where it isn't written, a fall ends them
abbrev pub deeds_as : Appended → ℕ → Turn → List Deed
deeds_as Done n turn = turn_deeds n turn
deeds_as Failed n turn =
    sends_of n turn.failed_sends ++ (tells_of turn.failed_told ++ Falls causes.Disk turn.write ∷ [])
deeds_as Stopped n turn = tells_of turn.failed_told ++ Falls causes.Stop turn.write ∷ []

-- where the input is a message, it is the one that was sent to actor a under its number
abbrev pub WasSentTo : ℕ → List Envelope → Input → Type 0
WasSentTo a ms (inputs.Called command) = Unit {0}
WasSentTo a ms (inputs.Got envelope) = (slice_get ms envelope.number ≡ Some envelope) × (envelope.to ≡ a)
WasSentTo a ms (inputs.Lost number) = Unit {0}
