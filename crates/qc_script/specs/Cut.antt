-- The words of a line, one at a time.
use Rattle.std.specs.Prelude.{ℕ, List, [], ◌∷◌, Option, Some, None}
use Rattle.std.specs.Borrow.{Bor}
use Rattle.qc_script.specs.Text.{words_of}

-- the words of what is left of a line; none where nothing is left
abbrev pub words_behind : Option (Bor (List ℕ)) → List (List ℕ)
words_behind None = []
words_behind (Some rest) = words_of rest.now

-- the first word, and those behind it
abbrev pub cut_off : List (List ℕ) → Option (List ℕ × List (List ℕ))
cut_off [] = None
cut_off (word ∷ words) = Some (word, words)

-- so many words and no more

abbrev pub one : List (List ℕ) → Option (List ℕ)
one (first ∷ []) = Some first
one _ = None

abbrev pub two : List (List ℕ) → Option (List ℕ × List ℕ)
two (first ∷ second ∷ []) = Some (first, second)
two _ = None

abbrev pub three : List (List ℕ) → Option (List ℕ × List ℕ × List ℕ)
three (first ∷ second ∷ third ∷ []) = Some (first, second, third)
three _ = None

abbrev pub four : List (List ℕ) → Option (List ℕ × List ℕ × List ℕ × List ℕ)
four (first ∷ second ∷ third ∷ fourth ∷ []) = Some (first, second, third, fourth)
four _ = None
