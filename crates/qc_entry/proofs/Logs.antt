-- The log of lines in any order: it ascends, has just these lines, and is that of its parts, merged.
use Rattle.std.proofs.Common.{◌≡◌, ℕ, zero, suc, inl, inr, List, [], ◌∷◌, ◌++◌, take, Some, sym, subst}
use Rattle.std.specs.List.{AllByRecursion as Every, slice_get}
use Rattle.std.specs.declared.cmp.Ordering.TheVariants.{Less}
use Rattle.qc_entry.specs.declared.line.Line.{Line}
use Rattle.qc_entry.specs.Vocabulary.{IsAscending, line_cmp, log_of, union}
use Rattle.qc_list.specs.Vocabulary.{In, IsBelowAll}
use Rattle.qc_list.proofs.Members.{In-first, In-second, In-either}
use Rattle.qc_entry.proofs.Union.{ascending-union, in_either, in_first, in_second}
use Rattle.qc_entry.proofs.Members.{ascending-same}

pub ascending-log : (xs : List Line) → IsAscending (log_of xs)
ascending-log [] = tt
ascending-log (x ∷ xs) = ascending-union (x ∷ []) (log_of xs) (tt, tt) (ascending-log xs)

pub in_log : (l : Line) (xs : List Line) → In l xs → In l (log_of xs)
in_log l [] h = absurd h
in_log l (x ∷ xs) (inl e) = in_first l (x ∷ []) (log_of xs) (inl e)
in_log l (x ∷ xs) (inr h) = in_second l (x ∷ []) (log_of xs) (in_log l xs h)

pub of_log : (l : Line) (xs : List Line) → In l (log_of xs) → In l xs
of_log l [] h = h
of_log l (x ∷ xs) h =
    elim (in_either l (x ∷ []) (log_of xs) h)
    [ inl (inl e) ↦ inl e | inl (inr n) ↦ absurd n | inr t ↦ inr (of_log l xs t) ]

pub log-append : (xs ys : List Line) → union (log_of xs) (log_of ys) ≡ log_of (xs ++ ys)
log-append xs ys =
    ascending-same (union (log_of xs) (log_of ys)) (log_of (xs ++ ys))
    (ascending-union (log_of xs) (log_of ys) (ascending-log xs) (ascending-log ys)) (ascending-log (xs ++ ys))
    (λ l h. in_log l (xs ++ ys)
    (elim (in_either l (log_of xs) (log_of ys) h)
    [ inl a ↦ In-first l xs ys (of_log l xs a) | inr b ↦ In-second l xs ys (of_log l ys b) ]))
    (λ l h. elim (In-either l xs ys (of_log l (xs ++ ys) h)) [
      | inl a ↦ in_first l (log_of xs) (log_of ys) (in_log l xs a)
      | inr b ↦ in_second l (log_of xs) (log_of ys)
          (in_log l ys b)
    ])

-- ascending lines are their own log
pub ascending-is-log : (xs : List Line) → IsAscending xs → xs ≡ log_of xs
ascending-is-log xs up =
    ascending-same xs (log_of xs) up (ascending-log xs) (λ l h. in_log l xs h) (λ l h. of_log l xs h)

below-more : (x : Line) (xs : List Line) (n : ℕ) (y : Line) → slice_get xs n ≡ Some y
    → IsBelowAll line_cmp x (take n xs) → line_cmp x y ≡ Less → IsBelowAll line_cmp x (take (suc n) xs)
below-more x [] n y at below less = tt
below-more x (z ∷ zs) zero y at below less =
    let same : z ≡ y = cc in
    (subst (λ (l : Line). line_cmp x l ≡ Less) (sym same) less, tt)
below-more x (z ∷ zs) (suc n) y at below less = (below.0, below-more x zs n y at below.1 less)

-- the first lines ascend, and each of them is before the next one: then they ascend with it
pub ascending-more : (xs : List Line) (n : ℕ) (y : Line) → slice_get xs n ≡ Some y → IsAscending (take n xs)
    → Every (λ l. line_cmp l y ≡ Less) (take n xs) → IsAscending (take (suc n) xs)
ascending-more [] n y at up all = tt
ascending-more (x ∷ xs) zero y at up all = (tt, tt)
ascending-more (x ∷ xs) (suc n) y at up all = (
  below-more x xs n y at up.0 all.0,
  ascending-more xs n y at up.1 all.1,
)
