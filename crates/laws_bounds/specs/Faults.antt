-- Whom control lines arm, crash and restart, and who is armed, falls and rises in a history: actors below a number.
use Rattle.std.specs.Prelude.{ℕ, ◌<◌, List}
use Rattle.std.specs.List.{AllByRecursion as Every}
use Rattle.qc_msg.specs.Vocabulary.{Entry}
use Rattle.qc_msg.specs.declared.step.Control.{Control}
use Rattle.qc_msg.specs.declared.step.Control.TheVariants as controls
use Rattle.qc_msg.specs.declared.step.Step.{Step}
use Rattle.qc_msg.specs.declared.step.Step.TheVariants as steps
use Rattle.qc_script.specs.declared.script.PhaseLines.{PhaseLines}
use Rattle.qc_script.specs.declared.script.Script.{Script}

abbrev pub IsControlBelow : ℕ → Control → Type 0
IsControlBelow n (controls.Phase k) = Unit {0}
IsControlBelow n (controls.Cut a b) = Unit {0}
IsControlBelow n (controls.Heal a b) = Unit {0}
IsControlBelow n (controls.Armed actor kind at) = actor < n
IsControlBelow n (controls.Crash actor) = actor < n
IsControlBelow n (controls.Restart actor) = actor < n

abbrev pub AreControlsBelow : ℕ → Script → Type 0
AreControlsBelow n script = Every (λ (phase : PhaseLines). Every (IsControlBelow n) phase.controls) script.phases

-- a step of this actor: a fault is armed for the disk of an actor below the number, and such an actor falls, rises, or
-- finds its journal damaged
abbrev pub IsFaultBelow : ℕ → ℕ → Step → Type 0
IsFaultBelow n actor (steps.Phase k) = Unit {0}
IsFaultBelow n actor (steps.Cut a b) = Unit {0}
IsFaultBelow n actor (steps.Heal a b) = Unit {0}
IsFaultBelow n actor (steps.Armed armed kind at) = armed < n
IsFaultBelow n actor (steps.Called command) = Unit {0}
IsFaultBelow n actor (steps.Got number) = Unit {0}
IsFaultBelow n actor (steps.Lost number) = Unit {0}
IsFaultBelow n actor (steps.Wrote written) = Unit {0}
IsFaultBelow n actor (steps.Sent number to message) = Unit {0}
IsFaultBelow n actor (steps.Told reply) = Unit {0}
IsFaultBelow n actor (steps.Fell cause pending) = actor < n
IsFaultBelow n actor (steps.Rose records) = actor < n
IsFaultBelow n actor (steps.Damaged offset) = actor < n

abbrev pub AreFaultsBelow : ℕ → List Entry → Type 0
AreFaultsBelow n h = Every (λ (e : Entry). IsFaultBelow n e.actor e.step) h
