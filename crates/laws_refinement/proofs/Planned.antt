-- Of two epochs with plans the greater has one.
use Rattle.std.proofs.Common.{◌≡◌, inl, inr, ℕ, max, sym, subst, arith}
use Rattle.qc_decl.specs.declared.declaration.Declaration.{Declaration}
use Rattle.theory_machine.proofs.PlacedOperations.{le_cases}
use Rattle.laws_refinement.specs.Vocabulary.{IsPlanned}

pub planned_max : (decl : Declaration) (a b : ℕ) → IsPlanned decl a → IsPlanned decl b → IsPlanned decl (max a b)
planned_max decl a b p q = elim (le_cases a b) [
  | inl low ↦ (let e : max a b ≡ b = omega arith in subst (λ (n : ℕ). IsPlanned decl n) (sym e) q)
  | inr low ↦ (let e : max a b ≡ a = omega arith in subst (λ (n : ℕ). IsPlanned decl n) (sym e) p)
]
