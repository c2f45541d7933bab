-- A whole run: all that the script asks was done, and nothing is left to do.
use Rattle.std.specs.Prelude.{◌≡◌, ℕ, ◌<◌, true, false, List, Option, Some, None, flat_map, filter_map, length, []}
use Rattle.std.specs.Prelude.{replicate, take}
use Rattle.qc_core.specs.Vocabulary.{IsLawful}
use Rattle.qc_decl.specs.declared.declaration.Declaration.{Declaration}
use Rattle.qc_decl.specs.Vocabulary.{actors, is_client}
use Rattle.qc_msg.specs.declared.reply.Reply.{Reply}
use Rattle.qc_msg.specs.declared.step.Command.{Command}
use Rattle.qc_msg.specs.declared.step.Input.{Input}
use Rattle.qc_msg.specs.declared.step.Input.TheVariants as inputs
use Rattle.qc_msg.specs.Vocabulary.{Deed, Entry, Falls, Rises, Sends, Takes, Tells, Writes, deeds}
use Rattle.qc_script.specs.Vocabulary.{Runs, commands_for, controls_left, phase_of, ready}
use Rattle.qc_script.specs.declared.script.PhaseLines.{PhaseLines}
use Rattle.qc_script.specs.declared.script.Script.{Script}
use Rattle.laws_turns.specs.Exchanges.{AreAnswered, exchanges}

-- the commands that an actor called, in order

abbrev pub call_taken : Input → Option Command
call_taken (inputs.Called command) = Some command
call_taken (inputs.Got envelope) = None
call_taken (inputs.Lost number) = None

abbrev pub call_in : Deed → Option Command
call_in (Takes taken) = call_taken taken
call_in (Writes written) = None
call_in (Sends number to message) = None
call_in (Tells reply) = None
call_in (Falls cause pending) = None
call_in (Rises records) = None

abbrev pub calls_of : ℕ → List Entry → List Command
calls_of a h = filter_map call_in (deeds a [] h)

-- the replies that an actor told, in order

abbrev pub reply_in : Deed → Option Reply
reply_in (Takes taken) = None
reply_in (Writes written) = None
reply_in (Sends number to message) = None
reply_in (Tells reply) = Some reply
reply_in (Falls cause pending) = None
reply_in (Rises records) = None

abbrev pub replies_of : ℕ → List Entry → List Reply
replies_of a h = filter_map reply_in (deeds a [] h)

-- the commands that phases ask an actor, phase by phase
abbrev pub asked_in_all : ℕ → List PhaseLines → List Command
asked_in_all a phases = flat_map (λ (p : PhaseLines). commands_for a p.commands) phases

-- the commands that the first k phases of a script ask an actor
abbrev pub asked_until : ℕ → Script → ℕ → List Command
asked_until a script k = asked_in_all a (take k script.phases)

-- all commands that a script asks an actor
abbrev pub asked_by : ℕ → Script → List Command
asked_by a script = asked_in_all a script.phases

-- the history is a run in which no input is open
abbrev pub IsClosed : Declaration → Script → List Entry → Type 0
IsClosed decl script h = Runs (IsLawful decl) decl script h (replicate (actors decl) false)

-- nothing is ready for any actor
abbrev pub IsQuiet : Declaration → Script → List Entry → Type 0
IsQuiet decl script h = (a : ℕ) → a < actors decl → ready decl script a h ≡ None

-- the history is a whole run of the script
pub record IsWhole (decl : Declaration) (script : Script) (h : List Entry) : Type 0 where
  -- it is a run, and each input that was taken has its turn
  pub closed : IsClosed decl script h
  -- every phase began, and each of their control lines acted
  pub phases : phase_of h ≡ length script.phases
  pub controls : controls_left script h ≡ []
  -- each client called just the commands that the script asks it, in their order, and told a reply to each before the
  -- next one; and it told nothing beside
  pub replies : (a : ℕ) → is_client decl a ≡ true → AreAnswered (asked_by a script) (exchanges (deeds a [] h))
  -- nothing is ready for any actor
  pub quiet : IsQuiet decl script h
