-- Records fit where each one does at its place.
use Rattle.std.proofs.Common.{◌≡◌, ◌↔◌, ℕ, zero, suc, ◌+◌, true, List, [], ◌∷◌, Some, slice_get, refl, subst, arith}
use Rattle.qc_decl.specs.declared.declaration.Declaration.{Declaration}
use Rattle.qc_fit.specs.Vocabulary.{fits}
use Rattle.qc_msg.specs.declared.record.Record.{Record}
use Rattle.laws_bounds.specs.Vocabulary.{AllFit}

module _ (decl : Declaration) (a : ℕ) where
  fit_at : (before : ℕ) (rs : List Record) → AllFit decl a before rs → (place : ℕ) (r : Record)
      → slice_get rs place ≡ Some r → fits decl a (before + place) r ≡ true
  fit_at before [] all place r is = absurd (let never : ⊥ = cc in never)
  fit_at before (x ∷ xs) all zero r is =
      let same : x ≡ r = cc in
      subst (λ (v : Record). fits decl a (before + 0) v ≡ true) same
      (subst (λ (n : ℕ). fits decl a n x ≡ true) (let here : before ≡ before + 0 = omega arith in here) all.0)
  fit_at before (x ∷ xs) all (suc place) r is =
      subst (λ (n : ℕ). fits decl a n r ≡ true)
      (let later : before + 1 + place ≡ before + suc place = omega arith in later)
      (fit_at (before + 1) xs all.1 place r is)

  all_at : (before : ℕ) (rs : List Record)
      → ((place : ℕ) (r : Record) → slice_get rs place ≡ Some r → fits decl a (before + place) r ≡ true)
      → AllFit decl a before rs
  all_at before [] each = tt
  all_at before (x ∷ xs) each = (
    subst (λ (n : ℕ). fits decl a n x ≡ true) (let here : before + 0 ≡ before = omega arith in here) (each 0 x refl),
    all_at (before + 1) xs
        (λ place r is. subst (λ (n : ℕ). fits decl a n r ≡ true)
        (let later : before + suc place ≡ before + 1 + place = omega arith in later) (each (suc place) r is)),
  )

  pub records_fit_at_their_places : (rs : List Record)
      → AllFit decl a 0 rs ↔ ((place : ℕ) (r : Record) → slice_get rs place ≡ Some r → fits decl a place r ≡ true)
  records_fit_at_their_places rs = (
    λ all place r is. subst (λ (n : ℕ). fits decl a n r ≡ true) (let same : 0 + place ≡ place = omega arith in same)
        (fit_at 0 rs all place r is),
    λ each. all_at 0 rs
        (λ place r is. subst (λ (n : ℕ). fits decl a n r ≡ true)
        (let same : place ≡ 0 + place = omega arith in same) (each place r is)),
  )
