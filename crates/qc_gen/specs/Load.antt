-- The script of a load, and what is read of it.
--
-- A load is so many transactions, one in each phase. Transaction k, from 0, is client `k % 3`'s: it writes a bit to the
-- object `x`, reads `x` and commits. A generator of numbers gives one for each transaction, from a seed on, and the bit
-- is the number's lowest one.
use Rattle.std.specs.Prelude.{ℕ, zero, suc, ◌+◌, ◌*◌, ◌%◌, ◌==◌, if◌then◌else◌, List, [], ◌∷◌, ◌++◌, codes}
use Rattle.qc_decl.specs.Vocabulary.{client_actor, three}
use Rattle.qc_msg.specs.declared.step.Command.{Command}
use Rattle.qc_msg.specs.declared.step.Command.TheVariants as commands
use Rattle.qc_script.specs.Vocabulary.{text_of_lines}
use Rattle.qc_script.specs.declared.line.ScriptLine.{ScriptLine}
use Rattle.qc_script.specs.declared.line.ScriptLine.TheVariants.{Phase, Command as Asks}
use Rattle.qc_script.specs.declared.line.Verb.TheVariants.{Begin, Do, Commit}
use Rattle.qc_script.specs.declared.script.CommandLine.{CommandLine}
use Rattle.qc_script.specs.declared.script.PhaseLines.{PhaseLines}
use Rattle.qc_script.specs.declared.script.Script.{Script}

-- the generator's numbers are below this one
abbrev pub modulus : ℕ
modulus = 65537

-- the generator's next number
abbrev pub next_state : ℕ → ℕ
next_state state = (75 * state + 74) % modulus

-- its number after so many steps
abbrev pub state_after : ℕ → ℕ → ℕ
state_after zero state = state
state_after (suc steps) state = state_after steps (next_state state)

-- the client of a transaction, by the transaction's number
abbrev pub client_of : ℕ → ℕ
client_of number = number % 3

-- what is written for one of the generator's numbers
abbrev pub write_of : ℕ → List ℕ
write_of state = if state % 2 == 1 then codes "W1" else codes "W0"

-- the lines of a transaction, by its own number and the generator's
abbrev pub transaction_lines : ℕ → ℕ → List ScriptLine
transaction_lines number state = Phase
    ∷ Asks (client_of number) Begin
    ∷ Asks (client_of number) (Do (codes "x") (write_of state))
    ∷ Asks (client_of number) (Do (codes "x") (codes "R"))
    ∷ Asks (client_of number) Commit
    ∷ []

-- the lines of so many transactions, the first of which has this number, with the generator's number before them
abbrev pub lines_from : ℕ → ℕ → ℕ → List ScriptLine
lines_from zero number state = []
lines_from (suc count) number state =
    transaction_lines number (next_state state) ++ lines_from count (suc number) (next_state state)

-- the load's text, by its count and its seed
abbrev pub load_text : ℕ → ℕ → List ℕ
load_text count seed = text_of_lines (lines_from count 0 seed)

-- What is read of it over `@three`, where `x` has the number 0, and R, W0 and W1 have 0, 1 and 2.

abbrev pub write_number : ℕ → ℕ
write_number state = if state % 2 == 1 then 2 else 1

-- a command of a transaction's client
abbrev pub command_of : ℕ → Command → CommandLine
command_of number command = record { actor = client_actor three (client_of number); command = command }

-- a transaction as a phase, by its own number and the generator's
abbrev pub phase_of : ℕ → ℕ → PhaseLines
phase_of number state = record {
  controls = [];
  commands = command_of number commands.Begin
      ∷ command_of number (commands.Do 0 (write_number state))
      ∷ command_of number (commands.Do 0 0)
      ∷ command_of number commands.Commit
      ∷ [];
}

abbrev pub phases_from : ℕ → ℕ → ℕ → List PhaseLines
phases_from zero number state = []
phases_from (suc count) number state =
    phase_of number (next_state state) ∷ phases_from count (suc number) (next_state state)

-- the load as a script
abbrev pub load_of : ℕ → ℕ → Script
load_of count seed = record { links = []; phases = phases_from count 0 seed }
