-- How a phase ends, and a script, and what its run comes to.
use Rattle.std.specs.Prelude.{◌≡◌, ◌≤◌, ℕ, Bool, List, Some, None, length}
use Rattle.qc_core.specs.Vocabulary.{IsLawfulWithFalls}
use Rattle.qc_decl.specs.Vocabulary.{actors}
use Rattle.qc_decl.specs.declared.declaration.Declaration.{Declaration}
use Rattle.qc_msg.specs.Vocabulary.{Entry}
use Rattle.qc_script.specs.Vocabulary.{RunsWithFalls, phase_of}
use Rattle.qc_script.specs.declared.script.Script.{Script}
use Rattle.qc_fabric.specs.Vocabulary.{IsStopped, before_last_event, full_of}
use Rattle.qc_node.specs.Rules.{fits_of}
use Rattle.qc_node.specs.declared.ends.DriveEnd.{DriveEnd}
use Rattle.qc_node.specs.declared.ends.DriveEnd.TheVariants as ends

-- the phase has begun, and nothing is left to do in it
abbrev pub IsThrough : Declaration → Script → ℕ → List Entry → List Bool → Type 0
IsThrough decl script phase h inputs = (phase_of h ≡ phase) × IsStopped decl script h inputs

-- exactly: a counted quantity that has reached its limit comes first; then that the phase is through; where neither is
-- so, memory was wanting
abbrev pub IsPhaseEnd : Declaration → Script → ℕ → List Entry → List Bool → DriveEnd → Type 0
IsPhaseEnd decl script phase h inputs ends.Quiet = (full_of h ≡ None) × IsThrough decl script phase h inputs
IsPhaseEnd decl script phase h inputs (ends.Full full) = full_of h ≡ Some full
IsPhaseEnd decl script phase h inputs ends.OutOfMemory =
    (full_of h ≡ None) × (IsThrough decl script phase h inputs → ⊥)

-- every phase has begun, and nothing is left to do in the last
abbrev pub IsOver : Declaration → Script → List Entry → List Bool → Type 0
IsOver decl script h inputs = (length script.phases ≤ phase_of h) × IsStopped decl script h inputs

-- the same of a script
abbrev pub IsScriptEnd : Declaration → Script → List Entry → List Bool → DriveEnd → Type 0
IsScriptEnd decl script h inputs ends.Quiet = (full_of h ≡ None) × IsOver decl script h inputs
IsScriptEnd decl script h inputs (ends.Full full) = full_of h ≡ Some full
IsScriptEnd decl script h inputs ends.OutOfMemory = (full_of h ≡ None) × (IsOver decl script h inputs → ⊥)

-- What a run comes to, and how it ended: with which inputs open, and that before its last event each counted quantity
-- was below its limit.
pub record HasEnded (decl : Declaration) (script : Script) (h : List Entry) (end : DriveEnd) : Type 0 where
  pub inputs : List Bool
  pub opens : length inputs ≡ actors decl
  pub runs : RunsWithFalls (IsLawfulWithFalls decl) (fits_of decl) decl script h inputs
  pub ended : IsScriptEnd decl script h inputs end
  pub below : full_of (before_last_event h) ≡ None
