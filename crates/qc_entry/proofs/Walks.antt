-- Two sorted lists, walked side by side.
use Rattle.std.proofs.Common.{◌≡◌, ◌⊎◌, inl, inr, ℕ, ◌+◌, ◌<◌, ◌≤◌, ◌-◌, length, take, List, [], ◌∷◌, ◌++◌, drop}
use Rattle.std.proofs.Common.{get_or, sym, ap, ◌∙◌, subst, arith, add-one, drop-cons, append_assoc}
use Rattle.std.proofs.Math.ListN.{drop_of_length-le}
use Rattle.std.proofs.Math.Seq.{take-length}
use Rattle.std.proofs.lemmas.List.{append-nil, length-drop}
use Rattle.std.specs.declared.cmp.Ordering.TheVariants.{Less, Equal, Greater}
use Rattle.qc_entry.specs.declared.line.Line.{Line}
use Rattle.qc_entry.specs.Vocabulary.{IsAscending, line_cmp, union, without}
use Rattle.qc_list.proofs.Order.{ascends-drop}
use Rattle.qc_list.specs.Vocabulary.{IsBelowAll}
use Rattle.qc_entry.proofs.Union.{union-nil}
use Rattle.qc_entry.proofs.Without.{without-nil, without-Less, without-Equal, without-Greater}

-- a list that is made so far, and what the rests of two lists will add to it
pub record IsWalk (made : List Line → List Line → List Line) (a b : List Line) (i j : ℕ)
    (out : List Line) : Type 0 where
  pub first : i ≤ length a
  pub second : j ≤ length b
  pub whole : out ++ made (drop i a) (drop j b) ≡ made a b

-- a list from a place on: the line there, and the rest
pub from-place : (xs : List Line) (i : ℕ) (d : Line) → i < length xs → drop i xs ≡ get_or xs i d ∷ drop (i + 1) xs
from-place xs i d inside = rw add-one (drop-cons xs i d inside)

-- what holds of two lines with the rests after them holds of the lists from their places on
placed : (P : List Line → List Line → Type 0) (a b : List Line) (i j : ℕ) (d e : Line) → i < length a → j < length b
    → P (get_or a i d ∷ drop (i + 1) a) (get_or b j e ∷ drop (j + 1) b) → P (drop i a) (drop j b)
placed P a b i j d e in_a in_b holds =
    subst (λ xs. P xs (drop j b)) (sym (from-place a i d in_a))
    (subst (P (get_or a i d ∷ drop (i + 1) a)) (sym (from-place b j e in_b)) holds)

-- the line at a place of an ascending list is below the rest
pub low-at : (xs : List Line) (i : ℕ) (d : Line) → IsAscending xs → i < length xs
    → IsBelowAll line_cmp (get_or xs i d) (drop (i + 1) xs)
low-at xs i d ascending inside =
    let whole : IsAscending (get_or xs i d ∷ drop (i + 1) xs) =
    subst IsAscending (from-place xs i d inside) (ascends-drop line_cmp i xs ascending) in
    whole.0

-- a list from a place on, as a slice to its end
pub whole-rest : (xs : List Line) (i : ℕ) → take (length xs - i) (drop i xs) ≡ drop i xs
whole-rest xs i = ap (λ n. take n (drop i xs)) (sym (length-drop i xs)) ∙ take-length (drop i xs)

-- the union's end: one of the rests is empty
pub union-ends : (a b : List Line) (i j : ℕ) (out : List Line) → IsWalk union a b i j out
    → (length a ≤ i) ⊎ (length b ≤ j) → (out ++ drop i a) ++ drop j b ≡ union a b
union-ends a b i j out walk (inl past) =
    let none : drop i a ≡ [] = drop_of_length-le a past in
    let whole = rw none at walk.whole in
    rw (none, append-nil) whole
union-ends a b i j out walk (inr past) =
    let none : drop j b ≡ [] = drop_of_length-le b past in
    let whole = rw (none, union-nil) at walk.whole in
    rw (none, append-nil) whole

-- the difference's end: one of the rests is empty
pub without-ends : (a b : List Line) (i j : ℕ) (out : List Line) → IsWalk without a b i j out
    → (length a ≤ i) ⊎ (length b ≤ j) → out ++ drop i a ≡ without a b
without-ends a b i j out walk (inl past) =
    let none : drop i a ≡ [] = drop_of_length-le a past in
    let whole = rw none at walk.whole in
    rw none whole
without-ends a b i j out walk (inr past) =
    let none : drop j b ≡ [] = drop_of_length-le b past in
    let rest : without (drop i a) (drop j b) ≡ drop i a = ap (λ zs. without (drop i a) zs) none
    ∙ without-nil (drop i a) in
    ap (λ zs. out ++ zs) (sym rest) ∙ walk.whole

-- the difference's steps, as the two lines compare
pub without-first : (a b : List Line) (i j : ℕ) (out new : List Line) (d e : Line) → IsAscending b → i < length a
    → j < length b → Less ≡ line_cmp (get_or a i d) (get_or b j e) → new ≡ out ++ get_or a i d ∷ []
    → IsWalk without a b i j out → IsWalk without a b (i + 1) j new
without-first a b i j out new d e ascending in_a in_b less grown walk = record {
  first = omega arith;
  second = walk.second;
  whole =
      let stays : without (drop i a) (drop j b) ≡ get_or a i d ∷ without (drop (i + 1) a) (drop j b) =
      placed (λ xs ys. without xs ys ≡ get_or a i d ∷ without (drop (i + 1) a) ys) a b i j d e in_a in_b
      (without-Less (get_or a i d) (drop (i + 1) a) (get_or b j e) (drop (j + 1) b) (sym less)
      (low-at b j e ascending in_b)) in
      rw (grown, append_assoc) (ap (λ zs. out ++ zs) (sym stays) ∙ walk.whole);
}

pub without-both : (a b : List Line) (i j : ℕ) (out : List Line) (d e : Line) → IsAscending a → i < length a
    → j < length b → Equal ≡ line_cmp (get_or a i d) (get_or b j e) → IsWalk without a b i j out
    → IsWalk without a b (i + 1) (j + 1) out
without-both a b i j out d e ascending in_a in_b equal walk = record {
  first = omega arith;
  second = omega arith;
  whole =
      let goes : without (drop i a) (drop j b) ≡ without (drop (i + 1) a) (drop (j + 1) b) =
      placed (λ xs ys. without xs ys ≡ without (drop (i + 1) a) (drop (j + 1) b)) a b i j d e in_a in_b
      (without-Equal (get_or a i d) (drop (i + 1) a) (get_or b j e) (drop (j + 1) b) (sym equal)
      (low-at a i d ascending in_a)) in
      ap (λ zs. out ++ zs) (sym goes) ∙ walk.whole;
}

pub without-second : (a b : List Line) (i j : ℕ) (out : List Line) (d e : Line) → IsAscending a → i < length a
    → j < length b → Greater ≡ line_cmp (get_or a i d) (get_or b j e) → IsWalk without a b i j out
    → IsWalk without a b i (j + 1) out
without-second a b i j out d e ascending in_a in_b greater walk = record {
  first = walk.first;
  second = omega arith;
  whole =
      let passed : without (drop i a) (drop j b) ≡ without (drop i a) (drop (j + 1) b) =
      placed (λ xs ys. without xs ys ≡ without xs (drop (j + 1) b)) a b i j d e in_a in_b
      (without-Greater (get_or a i d) (drop (i + 1) a) (get_or b j e) (drop (j + 1) b) (sym greater)
      (low-at a i d ascending in_a)) in
      ap (λ zs. out ++ zs) (sym passed) ∙ walk.whole;
}
