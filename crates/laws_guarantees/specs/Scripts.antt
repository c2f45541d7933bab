-- Scripts of two clients: one that nothing disturbs, and others that something does.
use Rattle.std.specs.Prelude.{ℕ, List, [], ◌∷◌, None}
use Rattle.qc_link.specs.declared.rule.Rule.TheVariants as rules
use Rattle.qc_msg.specs.declared.step.Command.TheVariants as commands
use Rattle.qc_msg.specs.declared.step.Control.{Control}
use Rattle.qc_msg.specs.declared.step.Control.TheVariants as controls
use Rattle.qc_script.specs.declared.script.CommandLine.{CommandLine}
use Rattle.qc_script.specs.declared.script.PhaseLines.{PhaseLines}
use Rattle.qc_script.specs.declared.script.Script.{Script}

-- an actor is to begin
abbrev pub line : ℕ → CommandLine
line a = record { actor = a; command = commands.Begin }

abbrev pub phase_of : List Control → List CommandLine → PhaseLines
phase_of lines asked = record { controls = lines; commands = asked }

-- each of two clients acts in a phase of its own
abbrev pub in_turn : Script
in_turn = record { links = []; phases = phase_of [] (line 1 ∷ line 1 ∷ []) ∷ phase_of [] (line 2 ∷ []) ∷ [] }

-- both act in one phase
abbrev pub at_once : Script
at_once = record { links = []; phases = phase_of [] (line 1 ∷ line 2 ∷ []) ∷ [] }

-- a rule drops a message
abbrev pub over_a_link : Script
over_a_link =
    record {
      links = record { from = None; to = None; ordinal = None; rule = rules.Drop } ∷ [];
      phases = phase_of [] (line 1 ∷ []) ∷ [];
    }

-- two actors are cut from each other
abbrev pub behind_a_cut : Script
behind_a_cut = record { links = []; phases = phase_of (controls.Cut 0 1 ∷ []) (line 1 ∷ []) ∷ [] }
