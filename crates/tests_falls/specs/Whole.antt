-- A whole run with falls: all that the script asks was done, no record was lost, and nothing is left to do.
use Rattle.std.specs.Prelude.{◌≡◌, ℕ, ◌<◌, Bool, true, false, List, [], None, length, replicate}
use Rattle.qc_core.specs.Vocabulary.{IsLawfulWithFalls}
use Rattle.qc_decl.specs.declared.declaration.Declaration.{Declaration}
use Rattle.qc_decl.specs.Vocabulary.{actors}
use Rattle.qc_msg.specs.declared.record.Record.{Record}
use Rattle.qc_msg.specs.Vocabulary.{Entry}
use Rattle.qc_promise.specs.Vocabulary.{Kept}
use Rattle.qc_script.specs.declared.script.Script.{Script}
use Rattle.qc_script.specs.Vocabulary.{RunsWithFalls, controls_left, phase_of, ready}
use Rattle.tests_falls.specs.Perform.{are_fit}

-- all records of a rise fit their actor
abbrev pub AreFit : Declaration → ℕ → List Record → Type 0
AreFit decl a records = are_fit decl a 0 records ≡ true

abbrev pub IsRun : Declaration → Script → List Entry → List Bool → Type 0
IsRun decl script h open_inputs = RunsWithFalls (IsLawfulWithFalls decl) (AreFit decl) decl script h open_inputs

pub record IsWholeRun (decl : Declaration) (script : Script) (h : List Entry) : Type 0 where
  -- it is a run with falls, and each input that was taken has its turn
  pub closed : IsRun decl script h (replicate (actors decl) false)
  -- no disk has lost a record
  pub kept : Kept h
  -- every phase began, and all their control lines acted
  pub begun : phase_of h ≡ length script.phases
  pub acted : controls_left script h ≡ []
  -- nothing is ready for any actor
  pub quiet : (a : ℕ) → a < actors decl → ready decl script a h ≡ None
