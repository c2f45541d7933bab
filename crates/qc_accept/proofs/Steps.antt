-- Reading the items of a slice, one after another.
use Rattle.std.proofs.Common.{◌≡◌, ℕ, suc, ◌+◌, ◌<◌, ◌≤◌, List, ◌∷◌, Option, Some, None, map, get_or, length, drop}
use Rattle.std.proofs.Common.{drop-cons, sym, ap, ◌∙◌, arith}
use Rattle.std.proofs.lemmas.List.{get_or-map, length-map, drop_all}
use Rattle.std.specs.Prelude.{option_and_then}
use Rattle.qc_accept.specs.Vocabulary.{read_each}

module _ {X A B : Type 0} (add : A → B → Option A) (see : X → B) (xs : List X) (i : ℕ) where
  -- what is left at an item begins with it
  left_at : (x : X) → i < length xs → x ≡ get_or xs i x → drop i (map see xs) ≡ see x ∷ drop (i + 1) (map see xs)
  left_at x l is =
      let within : i < length (map see xs) = omega (arith, length-map xs see) in
      let next : suc i ≡ i + 1 = omega arith in
      drop-cons (map see xs) i (see x) within ∙
      (λ j. (get_or-map see xs i x (see x) l ∙ sym (ap see is)) j ∷ drop (next j) (map see xs))

  -- an item that is read leads on
  pub read_on : (so_far next : A) (x : X) → i < length xs → x ≡ get_or xs i x → add so_far (see x) ≡ Some next
      → read_each add so_far (drop i (map see xs)) ≡ read_each add next (drop (i + 1) (map see xs))
  read_on so_far next x l is e = ap (read_each add so_far) (left_at x l is)
      ∙ ap (option_and_then (λ n. read_each add n (drop (i + 1) (map see xs)))) e

  -- and one that isn't ends it with nothing
  pub read_none : (so_far : A) (x : X) → i < length xs → x ≡ get_or xs i x → add so_far (see x) ≡ None
      → read_each add so_far (drop i (map see xs)) ≡ None
  read_none so_far x l is e = ap (read_each add so_far) (left_at x l is)
      ∙ ap (option_and_then (λ n. read_each add n (drop (i + 1) (map see xs)))) e

  -- behind the last item it is all read
  pub read_all : (so_far : A) → length xs ≤ i → read_each add so_far (drop i (map see xs)) ≡ Some so_far
  read_all so_far l = ap (read_each add so_far)
      (let past : length (map see xs) ≤ i = omega (arith, length-map xs see) in drop_all i (map see xs) past)
