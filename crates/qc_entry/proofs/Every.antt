-- What holds of every line of a list: members, filters, and lines below others.
use Rattle.std.proofs.Common.{◌≡◌, ℕ, zero, suc, length, ◌-◌, arith, Some, IsTrue, List, [], ◌∷◌, refl, sym, subst}
use Rattle.std.specs.List.{AllByRecursion as Every, slice_get}
use Rattle.std.specs.Ordering.{is_lt}
use Rattle.std.specs.declared.cmp.Ordering.TheVariants.{Less}
use Rattle.qc_entry.specs.declared.line.Line.{Line}
use Rattle.qc_entry.specs.Vocabulary.{IsAscending, line_cmp}
use Rattle.qc_list.proofs.Members.{every-at}
use Rattle.qc_list.proofs.Order.{less_is}
use Rattle.qc_entry.proofs.Orders.{lines_are_ordered}

-- where the last of an ascending list is below a line, each is
below_last : (xs : List Line) (n : ℕ) (last y : Line) → IsAscending xs → suc n ≡ length xs → slice_get xs n ≡ Some last
    → line_cmp last y ≡ Less → Every (λ x. line_cmp x y ≡ Less) xs
below_last [] n last y ascending size at less = absurd (omega arith)
below_last (x ∷ []) zero last y ascending size at less =
    let same : last ≡ x = cc in
    (subst (λ l. line_cmp l y ≡ Less) same less, tt)
below_last (x ∷ []) (suc n) last y ascending size at less = absurd (omega arith)
below_last (x ∷ z ∷ xs) zero last y ascending size at less = absurd (omega arith)
below_last (x ∷ z ∷ xs) (suc n) last y ascending size at less =
    let smaller : suc n ≡ length (z ∷ xs) = omega arith in
    let rest = below_last (z ∷ xs) n last y ascending.1 smaller at less in
    (lines_are_ordered.total.trans x z y ascending.0.0 rest.0, rest)

-- where the last line of an ascending list is below a line, each is
pub below-last : (xs : List Line) (last y : Line) → IsAscending xs → Some last ≡ slice_get xs (length xs - 1)
    → IsTrue (is_lt (line_cmp last y)) → Every (λ x. line_cmp x y ≡ Less) xs
below-last [] last y ascending at test = tt
below-last (x ∷ xs) last y ascending at test =
    let place : length (x ∷ xs) - 1 ≡ length xs = omega arith in
    below_last (x ∷ xs) (length xs) last y ascending refl (sym (rw place at at)) (less_is (line_cmp last y) test)

-- where each line is below a line, the last one is
pub last-below : (xs : List Line) (last y : Line) → Some last ≡ slice_get xs (length xs - 1)
    → Every (λ x. line_cmp x y ≡ Less) xs → IsTrue (is_lt (line_cmp last y))
last-below xs last y at every =
    let less : line_cmp last y ≡ Less = every-at (λ x. line_cmp x y ≡ Less) xs (length xs - 1) last every (sym at) in
    rw less refl
