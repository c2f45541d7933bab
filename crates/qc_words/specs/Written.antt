-- How what is asked is written in words: options last, each as two words, and numbers without leading zeros.
use Rattle.std.specs.Prelude.{List, [], ◌∷◌, codes, decimal, Option, Some, None}
use Rattle.qc_words.specs.Forms.{Text}
use Rattle.qc_words.specs.Words.{AskedOf, Check, Run, Load}

abbrev pub dir_words : Option Text → List Text
dir_words None = []
dir_words (Some dir) = codes "--dir" ∷ dir ∷ []

abbrev pub words_in : AskedOf → List Text
words_in (Check decl) = codes "check" ∷ decl ∷ []
words_in (Run decl script workers dir) =
    codes "run" ∷ decl ∷ script ∷ codes "--workers" ∷ decimal workers ∷ dir_words dir
words_in (Load count seed workers) =
    codes "load" ∷ decimal count ∷ decimal seed ∷ codes "--workers" ∷ decimal workers ∷ []
