-- Scripts in which nobody is crashed or restarted.
use Rattle.std.specs.List.{AllByRecursion as Every}
use Rattle.qc_msg.specs.declared.step.Control.{Control}
use Rattle.qc_msg.specs.declared.step.Control.TheVariants as controls
use Rattle.qc_script.specs.declared.script.PhaseLines.{PhaseLines}
use Rattle.qc_script.specs.declared.script.Script.{Script}

-- a control line that leaves everybody up: it neither crashes an actor nor restarts one
abbrev pub LeavesUp : Control → Type 0
LeavesUp (controls.Phase k) = Unit {0}
LeavesUp (controls.Cut a b) = Unit {0}
LeavesUp (controls.Heal a b) = Unit {0}
LeavesUp (controls.Armed actor kind at) = Unit {0}
LeavesUp (controls.Crash a) = ⊥
LeavesUp (controls.Restart a) = ⊥

-- a script of such lines
abbrev pub LeavesAllUp : Script → Type 0
LeavesAllUp script = Every (λ (phase : PhaseLines). Every LeavesUp phase.controls) script.phases
