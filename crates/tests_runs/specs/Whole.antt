-- A whole run: all that the script asks was done, and nothing is left to do.
use Rattle.std.specs.Prelude.{◌≡◌, ℕ, ◌<◌, false, List, [], None, length, replicate}
use Rattle.qc_core.specs.Vocabulary.{IsLawful}
use Rattle.qc_decl.specs.declared.declaration.Declaration.{Declaration}
use Rattle.qc_decl.specs.Vocabulary.{actors}
use Rattle.qc_msg.specs.Vocabulary.{Entry}
use Rattle.qc_script.specs.declared.script.Script.{Script}
use Rattle.qc_script.specs.Vocabulary.{Runs, controls_left, phase_of, ready}

pub record IsWholeRun (decl : Declaration) (script : Script) (h : List Entry) : Type 0 where
  -- it is a run, and each input that was taken has its turn
  pub closed : Runs (IsLawful decl) decl script h (replicate (actors decl) false)
  -- every phase began, and all their control lines acted
  pub begun : phase_of h ≡ length script.phases
  pub acted : controls_left script h ≡ []
  -- nothing is ready for any actor
  pub quiet : (a : ℕ) → a < actors decl → ready decl script a h ≡ None
