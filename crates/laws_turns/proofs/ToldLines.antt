-- What holds of each line holds of each that is told of them.
use Rattle.std.proofs.Common.{ℕ, zero, suc, Bool, true, false, List, [], ◌∷◌, drop, length}
use Rattle.std.specs.List.{AllByRecursion as Every}
use Rattle.qc_entry.specs.declared.line.Line.{Line}
use Rattle.qc_entry.specs.declared.mark.Mark.{Mark}
use Rattle.qc_entry.specs.Vocabulary.{is_current, lines_told, log_of, told}
use Rattle.qc_entry.proofs.Union.{every-union}

every-log : (P : Line → Type 0) (xs : List Line) → Every P xs → Every P (log_of xs)
every-log P [] all = tt
every-log P (x ∷ xs) all = every-union P (x ∷ []) (log_of xs) (all.0, tt) (every-log P xs all.1)

every-drop : (P : Line → Type 0) (n : ℕ) (xs : List Line) → Every P xs → Every P (drop n xs)
every-drop P zero xs all = all
every-drop P (suc n) [] all = all
every-drop P (suc n) (x ∷ xs) all = every-drop P n xs all.1

every-lines_told : (P : Line → Type 0) (current : Bool) (xs : List Line) (n : ℕ) → Every P xs
    → Every P (lines_told current xs n)
every-lines_told P true xs n all = every-drop P n xs all
every-lines_told P false xs n all = all

pub every-told : (P : Line → Type 0) (life epoch : ℕ) (xs : List Line) (m : Mark) → Every P xs
    → Every P (told life epoch xs m)
every-told P life epoch xs m all =
    every-log P _ (every-lines_told P (is_current life epoch (length xs) m) xs m.count all)
