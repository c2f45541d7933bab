-- When the controller may do nothing.
use Rattle.std.proofs.Common.{◌≡◌, ℕ, ◌≤◌, Bool, List, Some, None, sym, ◌∙◌, slice_get}
use Rattle.qc_decl.specs.declared.declaration.Declaration.{Declaration}
use Rattle.qc_msg.specs.declared.step.Control.{Control}
use Rattle.qc_msg.specs.declared.step.Control.TheVariants as controls
use Rattle.qc_msg.specs.Vocabulary.{Entry}
use Rattle.qc_script.specs.Vocabulary.{controls_left}
use Rattle.qc_script.specs.declared.script.Script.{Script}
use Rattle.qc_fabric.specs.Vocabulary.{ComesNext, IsUpTo, MayDo}

module _ (decl : Declaration) (script : Script) (h : List Entry) (inputs : List Bool) where
  -- where no line is left and no phase comes, nothing does
  no_line : (line : Control) → slice_get (controls_left script h) 0 ≡ None
      → slice_get (controls_left script h) 0 ≡ Some line → ⊥
  no_line line none first = let both : None ≡ Some line = sym none ∙ first in absurd (let no : ⊥ = cc in no)

  pub nothing_comes : (last : ℕ) → slice_get (controls_left script h) 0 ≡ None
      → ((k : ℕ) → k ≤ last → ComesNext decl script h inputs (controls.Phase k) → ⊥) → (c : Control) → IsUpTo last c
      → MayDo decl script h inputs c → ⊥
  nothing_comes last none phases (controls.Phase k) up may = phases k up may.next
  nothing_comes last none phases (controls.Cut a b) up may = no_line (controls.Cut a b) none may.next
  nothing_comes last none phases (controls.Heal a b) up may = no_line (controls.Heal a b) none may.next
  nothing_comes last none phases (controls.Armed actor kind at) up may =
      no_line (controls.Armed actor kind at) none may.next
  nothing_comes last none phases (controls.Crash a) up may = no_line (controls.Crash a) none may.next
  nothing_comes last none phases (controls.Restart a) up may = no_line (controls.Restart a) none may.next
