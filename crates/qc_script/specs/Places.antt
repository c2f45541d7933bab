-- Where a line may stand, and what it adds to the script so far.
use Rattle.std.specs.Prelude.{Bool, true, false, List, [], ◌∷◌, ◌++◌}
use Rattle.qc_msg.specs.declared.step.Command.TheVariants as commands
use Rattle.qc_msg.specs.declared.step.Control.{Control}
use Rattle.qc_script.specs.declared.item.Item.{Item}
use Rattle.qc_script.specs.declared.item.Item.TheVariants as items
use Rattle.qc_script.specs.declared.script.CommandLine.{CommandLine}
use Rattle.qc_script.specs.declared.script.PhaseLines.{PhaseLines}
use Rattle.qc_script.specs.declared.script.Script.{Script}

-- before the first phase
abbrev pub is_before_phases : List PhaseLines → Bool
is_before_phases [] = true
is_before_phases (phase ∷ phases) = false

-- in a phase
abbrev pub is_in_phase : List PhaseLines → Bool
is_in_phase [] = false
is_in_phase (phase ∷ phases) = true

-- before the first command
abbrev pub is_before_commands : List CommandLine → Bool
is_before_commands [] = true
is_before_commands (line ∷ lines) = false

-- in a phase, before its first command; the phase is the last one so far
abbrev pub is_at_controls : List PhaseLines → Bool
is_at_controls [] = false
is_at_controls (phase ∷ []) = is_before_commands phase.commands
is_at_controls (phase ∷ next ∷ phases) = is_at_controls (next ∷ phases)

-- whether the line may stand behind the script so far
abbrev pub has_place : Script → Item → Bool
has_place script items.Phase = true
has_place script (items.Link link) = is_before_phases script.phases
has_place script (items.Control control) = is_at_controls script.phases
has_place script (items.Command line) = is_in_phase script.phases
has_place script (items.Epoch actor number) = is_in_phase script.phases

abbrev pub empty_phase : PhaseLines
empty_phase = record { controls = []; commands = [] }

abbrev pub with_control : Control → PhaseLines → PhaseLines
with_control control phase = record phase { controls = phase.controls ++ control ∷ [] }

abbrev pub with_command : CommandLine → PhaseLines → PhaseLines
with_command line phase = record phase { commands = phase.commands ++ line ∷ [] }

-- the last phase is changed so
abbrev pub on_last : (PhaseLines → PhaseLines) → List PhaseLines → List PhaseLines
on_last change [] = []
on_last change (phase ∷ []) = change phase ∷ []
on_last change (phase ∷ next ∷ phases) = phase ∷ on_last change (next ∷ phases)

-- the script so far, with what the line adds at its end
abbrev pub with_item : Script → Item → Script
with_item script items.Phase = record script { phases = script.phases ++ empty_phase ∷ [] }
with_item script (items.Link link) = record script { links = script.links ++ link ∷ [] }
with_item script (items.Control control) = record script { phases = on_last (with_control control) script.phases }
with_item script (items.Command line) = record script { phases = on_last (with_command line) script.phases }
with_item script (items.Epoch actor number) = record script {
  phases = on_last
      (with_command (record { actor = actor; command = commands.Epoch number })) script.phases;
}
