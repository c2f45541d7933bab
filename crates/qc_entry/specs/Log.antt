-- What the calls of a log give.
use Rattle.std.specs.Prelude.{◌↔◌, ◌⊎◌, ℕ, Bool, List, [], ◌∷◌, ◌==◌, filter, not}
use Rattle.std.specs.List.{list_any}
use Rattle.std.specs.Ordering.{is_eq, is_lt}
use Rattle.qc_list.specs.Vocabulary.{In, by_order}
use Rattle.qc_entry.specs.declared.line.Line.{Line}
use Rattle.qc_entry.specs.Line.{line_cmp, IsAscending}
use Rattle.qc_stamp.specs.declared.stamp.Stamp.{Stamp}
use Rattle.qc_stamp.specs.Vocabulary.{stamp_cmp}

-- the merge of x, before a rest that merges by itself, with a list
abbrev pub union_from : Line → List Line → (List Line → List Line) → List Line → List Line
union_from x xs rest [] = x ∷ xs
union_from x xs rest (y ∷ ys) = by_order (line_cmp x y) (x ∷ rest (y ∷ ys)) (x ∷ rest ys) (y ∷ union_from x xs rest ys)

-- the sorted union of two sorted lists, each line once
abbrev pub union : List Line → List Line → List Line
union [] ys = ys
union (x ∷ xs) ys = union_from x xs (union xs) ys

-- the lines of one object
abbrev pub of_object : List Line → ℕ → List Line
of_object lines object = filter (λ l. l.object == object) lines

-- the lines with a greater stamp
abbrev pub since_stamp : List Line → Stamp → List Line
since_stamp lines stamp = filter (λ l. is_lt (stamp_cmp stamp l.stamp)) lines

-- whether the line is among the lines
abbrev pub has_line : List Line → Line → Bool
has_line lines line = list_any (λ l. is_eq (line_cmp l line)) lines

-- the lines of the first list that aren't among the second
abbrev pub without : List Line → List Line → List Line
without lines others = filter (λ l. not (has_line others l)) lines

-- the log of lines in any order: in line order, each once
abbrev pub log_of : List Line → List Line
log_of [] = []
log_of (l ∷ ls) = union (l ∷ []) (log_of ls)

-- a list is sorted and has just the lines of either list
pub record IsUnion (xs ys zs : List Line) : Type 0 where
  pub ascending : IsAscending zs
  pub members : (l : Line) → In l zs ↔ (In l xs ⊎ In l ys)
