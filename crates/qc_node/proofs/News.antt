-- A new pass among new passes.
use Rattle.std.proofs.Common.{◌≡◌, ℕ, suc, ◌+◌, ◌<◌, List, [], ◌∷◌, ◌++◌, length, length-append, Some, sym, ap, ◌∙◌}
use Rattle.std.proofs.Common.{subst, arith, slice_get}
use Rattle.atomic_table.specs.Seated.{TableId}
use Rattle.laws_turns.proofs.Places.{slice_get-last}
use Rattle.qc_msg.specs.declared.step.Step.{Step}
use Rattle.qc_pass.specs.declared.token.Pass.{Pass}
use Rattle.qc_pass.specs.Vocabulary.{AreNew, IsNew, number}
use Rattle.qc_list.proofs.Places.{slice_get-more, slice_get-seam}

module _ (z : TableId) (all xs ys : List (Pass Step)) (p : Pass Step) (split : xs ++ p ∷ ys ≡ all)
    (new : AreNew z all) where
  here : IsNew z (length xs) p
  here = new (length xs) p (ap (λ (l : List (Pass Step)). slice_get l (length xs)) (sym split) ∙ slice_get-seam xs ys p)

  pub is_new : IsNew z (number p) p
  is_new = subst (λ (n : ℕ). IsNew z n p) (sym here.number_is) here

  pub number_here : number p ≡ length xs
  number_here = here.number_is

  pub is_below : (n : ℕ) → length all ≡ n → number p < n
  is_below n count =
      let whole : length (xs ++ p ∷ ys) ≡ length all = ap (λ (l : List (Pass Step)). length l) split in
      omega (arith, here.number_is, whole, length-append xs (p ∷ ys), count)

-- the last of all is the controller's

pub front_new : (z : TableId) (all xs ys : List (Pass Step)) → all ≡ xs ++ ys → AreNew z all → AreNew z xs
front_new z all xs ys split new = λ n p is.
    new n p (ap (λ (l : List (Pass Step)). slice_get l n) split ∙ slice_get-more xs ys n p is)

pub last_new : (z : TableId) (all xs : List (Pass Step)) (p : Pass Step) (n : ℕ) → all ≡ xs ++ p ∷ []
    → length all ≡ n + 1 → AreNew z all → IsNew z n p
last_new z all xs p n split count new =
    let whole : length all ≡ length (xs ++ p ∷ []) = ap (λ (l : List (Pass Step)). length l) split in
    let same : length xs ≡ n = omega (arith, whole, length-append xs (p ∷ []), count) in
    subst (λ (k : ℕ). IsNew z k p) same
    (new (length xs) p (ap (λ (l : List (Pass Step)). slice_get l (length xs)) split ∙ slice_get-last xs p))

-- what is left of a list behind so many of its elements, by places

module _ {A : Type 0} (xs rest : List A) (n : ℕ) where
  pub left_here : (p : A) → ((k : ℕ) → slice_get (p ∷ rest) k ≡ slice_get xs (n + k)) → slice_get xs n ≡ Some p
  left_here p left =
      let place : n + 0 ≡ n = omega arith in
      ap (λ (i : ℕ). slice_get xs i) (sym place) ∙ sym (left 0)

  pub left_more : (p : A) (m : ℕ) → m ≡ n + 1 → ((k : ℕ) → slice_get (p ∷ rest) k ≡ slice_get xs (n + k)) → (k : ℕ)
      → slice_get rest k ≡ slice_get xs (m + k)
  left_more p m more left k =
      let place : n + suc k ≡ m + k = omega (arith, more) in
      left (suc k) ∙ ap (λ (i : ℕ). slice_get xs i) place
