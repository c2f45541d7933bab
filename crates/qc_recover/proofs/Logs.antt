-- The log of lines that come in any order: it ascends, and has just their lines.
use Rattle.std.proofs.Common.{◌≡◌, ◌⊎◌, inl, inr, List, [], ◌∷◌, ◌++◌, fold, sym, ◌∙◌, subst}
use Rattle.std.specs.List.{AllByRecursion}
use Rattle.std.specs.List.Sorted.{IsPermutation}
use Rattle.std.proofs.lemmas.List.Elements.{All-from_recursion, recursion_from_All}
use Rattle.std.proofs.lemmas.List.Sorted.{All-permutation, IsPermutation-sym}
use Rattle.std.proofs.lemmas.List.Sums.{fold-append}
use Rattle.qc_entry.specs.declared.line.Line.{Line}
use Rattle.qc_entry.specs.Vocabulary.{IsAscending, IsUnion, union}
use Rattle.qc_entry.proofs.Orders.{lines_are_ordered}
use Rattle.qc_entry.proofs.Union.{union_is_a_union}
use Rattle.qc_list.specs.Vocabulary.{In}
use Rattle.qc_list.proofs.Members.{every-In, every-from_In}
use Rattle.qc_recover.specs.Vocabulary.{log_of, with_line}
use Rattle.qc_site.proofs.Ascending.{same_ascending}

pub one_more : (log : List Line) (line : Line) → IsAscending log → IsUnion log (line ∷ []) (with_line log line)
one_more log line ascending = union_is_a_union log (line ∷ []) ascending (tt, tt)

ascends_from : (log lines : List Line) → IsAscending log → IsAscending (fold with_line log lines)
ascends_from log [] ascending = ascending
ascends_from log (l ∷ ls) ascending = ascends_from (with_line log l) ls (one_more log l ascending).ascending

pub log_ascends : (lines : List Line) → IsAscending (log_of lines)
log_ascends lines = ascends_from [] lines tt

In_from : (line : Line) (log lines : List Line) → IsAscending log → In line log ⊎ In line lines
    → In line (fold with_line log lines)
In_from line log [] ascending (inl member) = member
In_from line log [] ascending (inr never) = absurd never
In_from line log (l ∷ ls) ascending member =
    In_from line (with_line log l) ls (one_more log l ascending).ascending (by member) where
      by : In line log ⊎ In line (l ∷ ls) → In line (with_line log l) ⊎ In line ls
      by (inl before) = inl (((one_more log l ascending).members line).1 (inl before))
      by (inr (inl same)) = inl (((one_more log l ascending).members line).1 (inr (inl same)))
      by (inr (inr later)) = inr later

from_In : (line : Line) (log lines : List Line) → IsAscending log → In line (fold with_line log lines)
    → In line log ⊎ In line lines
from_In line log [] ascending member = inl member
from_In line log (l ∷ ls) ascending member =
    by (from_In line (with_line log l) ls (one_more log l ascending).ascending member) where
      split : In line log ⊎ In line (l ∷ []) → In line log ⊎ In line (l ∷ ls)
      split (inl before) = inl before
      split (inr (inl same)) = inr (inl same)
      split (inr (inr never)) = absurd never

      by : In line (with_line log l) ⊎ In line ls → In line log ⊎ In line (l ∷ ls)
      by (inl here) = split (((one_more log l ascending).members line).0 here)
      by (inr later) = inr (inr later)

-- a log and the lines of another one after it
pub log_joined : (lines others : List Line) → IsAscending others
    → log_of (lines ++ others) ≡ union (log_of lines) others
log_joined lines others ascending =
    fold-append with_line [] lines others
    ∙ same_ascending lines_are_ordered (fold with_line log others) (union log others)
    (ascends_from log others first) whole.ascending
    (λ line member. (whole.members line).1 (from_In line log others first member))
    (λ line member. In_from line log others first ((whole.members line).0 member)) where
      log : List Line
      log = log_of lines

      first : IsAscending log
      first = log_ascends lines

      whole : IsUnion log others (union log others)
      whole = union_is_a_union log others first ascending

-- a line that is there already
pub log_again : (log : List Line) (line : Line) → IsAscending log → In line log → log ≡ with_line log line
log_again log line ascending there =
    same_ascending lines_are_ordered log (with_line log line) ascending more.ascending
    (λ l member. (more.members l).1 (inl member))
    (λ l member. by l ((more.members l).0 member)) where
      more : IsUnion log (line ∷ []) (with_line log line)
      more = one_more log line ascending

      by : (l : Line) → In l log ⊎ In l (line ∷ []) → In l log
      by l (inl member) = member
      by l (inr (inl same)) = subst (λ k. In k log) (sym same) there
      by l (inr (inr never)) = absurd never

-- the same lines in another order
moved_In : (lines others : List Line) → IsPermutation lines others → (line : Line) → In line others → In line lines
moved_In lines others moves line member =
    let P : Line → Type 0 = λ l. In l lines in
    let first : AllByRecursion P lines = every-from_In P lines (λ l inside. inside) in
    every-In P line others (recursion_from_All P others
    (All-permutation P lines others moves (All-from_recursion P lines first))) member

pub log_moved : (lines others : List Line) → IsPermutation lines others → log_of others ≡ log_of lines
log_moved lines others moves =
    same_ascending lines_are_ordered (log_of others) (log_of lines) (log_ascends others) (log_ascends lines)
    (λ line member. In_from line [] lines tt (inr (by lines others moves line (from_In line [] others tt member))))
    (λ line member. In_from line [] others tt
    (inr (by others lines (IsPermutation-sym lines others moves) line (from_In line [] lines tt member)))) where
      by : (xs ys : List Line) → IsPermutation xs ys → (line : Line) → In line [] ⊎ In line ys → In line xs
      by xs ys moves line (inl never) = absurd never
      by xs ys moves line (inr member) = moved_In xs ys moves line member
