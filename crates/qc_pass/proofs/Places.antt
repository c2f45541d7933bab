-- Places of a list after a place is set and after an item is added, facts of all places, and where a list begins.
use Rattle.std.proofs.Common.{◌≡◌, ℕ, zero, suc, ◌<◌, ◌≢◌, ◌⊎◌, List, [], ◌∷◌, ◌++◌, length, set, refl, ap, sym, ◌∙◌}
use Rattle.std.proofs.Common.{subst, inl, inr, ⊎_elim, arith, append_assoc, slice_get, Some}
use Rattle.std.proofs.lemmas.List.{append-nil}
use mathlib.Core.Option.{some, some-injective, some-ne-none}
use mathlib.Core.List.{IsPrefix}
use lib.ListN.{get_elem?}

module _ {A : Type 0} where
  -- what the table's steps say of places
  pub got : (l : List A) (i : ℕ) (a : A) → get_elem? l i ≡ some a → slice_get l i ≡ Some a
  got [] i a e = absurd (some-ne-none a (sym e))
  got (x ∷ xs) zero a e = ap (λ (y : A). Some y) (some-injective x a e)
  got (x ∷ xs) (suc i) a e = got xs i a e

  pub at_inside : (l : List A) (i : ℕ) (a : A) → slice_get l i ≡ Some a → i < length l
  at_inside [] i a e = absurd (cc e)
  at_inside (x ∷ xs) zero a e = omega arith
  at_inside (x ∷ xs) (suc i) a e = let r = at_inside xs i a e in omega arith

  pub set_here : (l : List A) (i : ℕ) (a : A) → i < length l → slice_get (set l i a) i ≡ Some a
  set_here [] i a h = absurd (omega arith)
  set_here (x ∷ xs) zero a h = refl
  set_here (x ∷ xs) (suc i) a h = set_here xs i a (omega arith)

  pub set_else : (l : List A) (i j : ℕ) (a : A) → j ≢ i → slice_get (set l i a) j ≡ slice_get l j
  set_else [] i j a n = refl
  set_else (x ∷ xs) zero zero a n = absurd (n refl)
  set_else (x ∷ xs) zero (suc j) a n = refl
  set_else (x ∷ xs) (suc i) zero a n = refl
  set_else (x ∷ xs) (suc i) (suc j) a n = set_else xs i j a (λ e. n (ap suc e))

  pub at_longer : (l m : List A) (i : ℕ) (a : A) → slice_get l i ≡ Some a → slice_get (l ++ m) i ≡ Some a
  at_longer [] m i a e = absurd (cc e)
  at_longer (x ∷ xs) m zero a e = e
  at_longer (x ∷ xs) m (suc i) a e = at_longer xs m i a e

  pub at_last : (l : List A) (a : A) (n : ℕ) → length l ≡ n → slice_get (l ++ a ∷ []) n ≡ Some a
  at_last [] a zero e = refl
  at_last [] a (suc n) e = absurd (omega arith)
  at_last (x ∷ xs) a zero e = absurd (omega arith)
  at_last (x ∷ xs) a (suc n) e = at_last xs a n (omega arith)

  at_set : (l : List A) (i j : ℕ) (a b : A) → slice_get (set l i a) j ≡ Some b
      → ((j ≡ i) × (a ≡ b)) ⊎ ((j ≢ i) × (slice_get l j ≡ Some b))
  at_set [] i j a b e = absurd (cc e)
  at_set (x ∷ xs) zero zero a b e = inl (refl, cc e)
  at_set (x ∷ xs) zero (suc j) a b e = inr ((λ h. omega arith), e)
  at_set (x ∷ xs) (suc i) zero a b e = inr ((λ h. omega arith), e)
  at_set (x ∷ xs) (suc i) (suc j) a b e = ⊎_elim (λ t. inl (ap suc t.0, t.1))
      (λ t. let n = t.0 in inr ((λ h. n (omega arith)), t.1)) (at_set xs i j a b e)

  at_end : (l : List A) (a b : A) (j : ℕ) → slice_get (l ++ a ∷ []) j ≡ Some b
      → (slice_get l j ≡ Some b) ⊎ ((j ≡ length l) × (a ≡ b))
  at_end [] a b zero e = inr (refl, cc e)
  at_end [] a b (suc j) e = absurd (cc e)
  at_end (x ∷ xs) a b zero e = inl e
  at_end (x ∷ xs) a b (suc j) e = ⊎_elim (λ t. inl t) (λ t. inr (ap suc t.0, t.1)) (at_end xs a b j e)

  -- a fact of each place, after one place is set
  pub set_fact : (P : ℕ → A → Type 0) (l : List A) (i : ℕ) (w : A) → P i w
      → ((j : ℕ) (d : A) → j ≢ i → slice_get l j ≡ Some d → P j d)
      → (j : ℕ) (d : A) → slice_get (set l i w) j ≡ Some d → P j d
  set_fact P l i w here others j d e = ⊎_elim
      (λ (t : (j ≡ i) × (w ≡ d)). subst (λ (x : ℕ × A). P x.0 x.1) (λ k. (sym t.0 k, t.1 k)) here)
      (λ (t : (j ≢ i) × (slice_get l j ≡ Some d)). others j d t.0 t.1) (at_set l i j w d e)

  -- after an item is added
  pub end_fact : (P : ℕ → A → Type 0) (l : List A) (w : A) → P (length l) w
      → ((j : ℕ) (d : A) → slice_get l j ≡ Some d → P j d)
      → (j : ℕ) (d : A) → slice_get (l ++ w ∷ []) j ≡ Some d → P j d
  end_fact P l w here others j d e = ⊎_elim (λ (t : slice_get l j ≡ Some d). others j d t)
      (λ (t : (j ≡ length l) × (w ≡ d)). subst (λ (x : ℕ × A). P x.0 x.1) (λ k. (sym t.0 k, t.1 k)) here)
      (at_end l w d j e)

  pub prefix_more : (xs ys zs : List A) → IsPrefix xs ys → IsPrefix xs (ys ++ zs)
  prefix_more xs ys zs p = (p.0 ++ zs, sym (append_assoc xs p.0 zs) ∙ ap (λ w. w ++ zs) p.1)

  pub prefix_all : (xs ys : List A) → xs ≡ ys → IsPrefix xs ys
  prefix_all xs ys same = ([], append-nil xs ∙ same)

  -- of two beginnings of a list the one begins with the other
  pub prefixes : (xs ys zs : List A) → IsPrefix xs zs → IsPrefix ys zs → IsPrefix xs ys ⊎ IsPrefix ys xs
  prefixes [] ys zs p q = inl (ys, refl)
  prefixes (x ∷ xs) [] zs p q = inr (x ∷ xs, refl)
  prefixes (x ∷ xs) (y ∷ ys) [] p q = absurd (cc p.1)
  prefixes (x ∷ xs) (y ∷ ys) (z ∷ zs) p q =
      let same : x ≡ y = cc (p.1, q.1) in
      let p' : xs ++ p.0 ≡ zs = cc p.1 in
      let q' : ys ++ q.0 ≡ zs = cc q.1 in
      ⊎_elim (λ (t : IsPrefix xs ys). inl (t.0, λ k. same k ∷ t.1 k))
      (λ (t : IsPrefix ys xs). inr (t.0, λ k. sym same k ∷ t.1 k)) (prefixes xs ys zs (p.0, p') (q.0, q'))
