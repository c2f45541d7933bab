-- How words say options.
use Rattle.std.specs.Prelude.{◌<◌, ◌||◌, Bool, false, is_some, List, [], ◌∷◌, ◌++◌, length}
use Rattle.std.specs.Option.{option_map_or}
use Rattle.std.specs.Str.Iter.{LacksByte}
use Rattle.qc_words.specs.Forms.{Form, Text, is_among, is_value, option_of}

-- a word is a value, or names an option of the form
abbrev pub is_known : Form → Text → Bool
is_known form word = is_value word || option_map_or (λ named. is_among form.options named.0) (option_of word) false

-- a name has a byte at least, and no `=` (61)
abbrev pub IsOptionName : Text → Type 0
IsOptionName name = (0 < length name) × LacksByte 61 name

-- `--NAME VALUE`, as two words
abbrev pub said_apart : Text → Text → List Text
said_apart name value = (45 ∷ 45 ∷ name) ∷ value ∷ []

-- `--NAME=VALUE`, as one
abbrev pub said_joined : Text → Text → List Text
said_joined name value = (45 ∷ 45 ∷ (name ++ 61 ∷ value)) ∷ []

-- an option with its value joined
abbrev pub is_joined : Text → Bool
is_joined word = option_map_or (λ named. is_some named.1) (option_of word) false

-- a word that needs none behind it
abbrev pub is_whole : Text → Bool
is_whole word = is_value word || is_joined word
