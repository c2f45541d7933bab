-- Lines that are all of one object are the lines of that object.
use Rattle.std.proofs.Common.{◌≡◌, ℕ, ◌==◌, Bool, true, false, cond, ◌&&◌, List, [], ◌∷◌, refl, ap}
use Rattle.std.specs.List.{list_all}
use Rattle.qc_entry.specs.declared.line.Line.{Line}
use Rattle.qc_entry.specs.Vocabulary.{of_object}

pub all_on : (lines : List Line) (object : ℕ) → list_all (λ (l : Line). l.object == object) lines ≡ true
    → lines ≡ of_object lines object
all_on [] object all = refl
all_on (l ∷ lines) object all = by (l.object == object) all (all_on lines object) where
  by : (t : Bool) → (t && list_all (λ (k : Line). k.object == object) lines) ≡ true
      → (list_all (λ (k : Line). k.object == object) lines ≡ true → lines ≡ of_object lines object)
      → l ∷ lines ≡ cond t (l ∷ of_object lines object) (of_object lines object)
  by true all rest = ap (λ ls. l ∷ ls) (rest all)
  by false all rest = absurd (let never : ⊥ = cc in never)
