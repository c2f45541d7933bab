-- Scripts under which nothing is disturbed: no rule drops, doubles or delays a message, the controller does nothing
-- between the phases, and each phase asks one actor alone. That may be the administrator, whom no run lets act yet.
use Rattle.std.specs.Prelude.{◌≡◌, ℕ, []}
use Rattle.std.specs.List.{AllByRecursion as Every}
use Rattle.qc_script.specs.declared.script.CommandLine.{CommandLine}
use Rattle.qc_script.specs.declared.script.PhaseLines.{PhaseLines}
use Rattle.qc_script.specs.declared.script.Script.{Script}

-- every command of the phase is for the same actor
pub record AsksOne (phase : PhaseLines) : Type 0 where
  pub actor : ℕ
  pub alone : Every (λ (l : CommandLine). l.actor ≡ actor) phase.commands

-- no rule drops, doubles or delays a message, and the controller does nothing between the phases
pub record IsLossless (script : Script) : Type 0 where
  pub links : script.links ≡ []
  pub controls : Every (λ (p : PhaseLines). p.controls ≡ []) script.phases

pub record IsUndisturbed (script : Script) : Type 0 where
  pub lossless : IsLossless script
  pub one : Every AsksOne script.phases
