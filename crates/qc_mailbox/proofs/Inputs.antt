-- Open inputs by their places, and that nothing is ready between control lines.
use Rattle.std.proofs.Common.{◌≡◌, ℕ, zero, suc, Bool, List, [], ◌∷◌, length, Option, Some, refl, ap}
use Rattle.std.specs.Prelude.{slice_set}
use Rattle.qc_msg.specs.declared.step.Control.{Control}
use Rattle.qc_msg.specs.declared.step.Input.{Input}
use Rattle.qc_script.specs.Vocabulary.{after_controls}

pub set_long : (bs : List Bool) (a : ℕ) (v : Bool) → length (slice_set bs a v) ≡ length bs
set_long [] a v = refl
set_long (b ∷ bs) zero v = refl
set_long (b ∷ bs) (suc a) v = ap suc (set_long bs a v)

pub between_none : (lines : List Control) (other : Option Input) (g : Input) → after_controls lines other ≡ Some g
    → lines ≡ []
between_none [] other g is = refl
between_none (line ∷ lines) other g is = absurd (let never : ⊥ = cc in never)
