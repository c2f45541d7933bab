-- The words behind a command: one for each of its places, in their order, and options anywhere among them.
--
-- An option is two words, `--NAME VALUE`, or one, `--NAME=VALUE`, cut at the first `=`. Each is given at most once. No
-- value is empty or begins with `-`, whether it is an option's or a place's. So `--`, `-h` and `--help` are refused.
use Rattle.std.specs.Prelude.{ℕ, ◌+◌, ◌==◌, ◌&&◌, Bool, true, false, not, List, [], ◌∷◌, ◌++◌, find, Option, Some, None}
use Rattle.std.specs.Prelude.{option_map, option_and_then, slice_get, if◌then◌else◌}
use Rattle.std.specs.List.{after_first, before_first, list_all, list_any}
use Rattle.std.specs.Str.{bytes_eq}

abbrev pub Text : Type 0
Text = List ℕ

-- what a command takes: the names of its places and of its options
pub record Form : Type 0 where
  pub places : List Text
  pub options : List Text

-- a value, by the name of its place or option
pub record Part : Type 0 where
  pub name : Text
  pub value : Text

-- what the words so far gave: the parts, how many places are taken, and the option that waits for its value
pub record Reading : Type 0 where
  pub parts : List Part
  pub taken : ℕ
  pub waits : Option Text

abbrev pub nothing_read : Reading
nothing_read = record { parts = []; taken = 0; waits = None }

-- a value isn't empty and doesn't begin with `-` (45)
abbrev pub is_value : Text → Bool
is_value [] = false
is_value (b ∷ rest) = not (b == 45)

abbrev pub is_given : Text → List Part → Bool
is_given name parts = list_any (λ p. bytes_eq p.name name) parts

abbrev pub value_of : Text → List Part → Option Text
value_of name parts = option_map (λ p. p.value) (find (λ p. bytes_eq p.name name) parts)

-- one part more, unless it isn't a value or stands there already
abbrev pub with_part : Text → Text → Reading → Option Reading
with_part name value r = if is_value value && not (is_given name r.parts)
    then Some (record r { parts = r.parts ++ (record { name = name; value = value }) ∷ []; waits = None }) else None

-- the name of `--NAME` or `--NAME=VALUE`, and its value where it has one (61 is `=`)
abbrev pub cut_at_equals : Text → Text × Option Text
cut_at_equals rest = (
  before_first (λ b. b == 61) rest,
  if list_any (λ b. b == 61) rest then Some (after_first (λ b. b == 61) rest) else None,
)

abbrev pub option_behind : Text → Option (Text × Option Text)
option_behind [] = None
option_behind (b ∷ rest) = Some (cut_at_equals (b ∷ rest))

abbrev pub second_dash : Text → Option (Text × Option Text)
second_dash [] = None
second_dash (b ∷ rest) = if b == 45 then option_behind rest else None

abbrev pub option_of : Text → Option (Text × Option Text)
option_of [] = None
option_of (b ∷ rest) = if b == 45 then second_dash rest else None

abbrev pub waiting_for : Text → Reading → Option Reading
waiting_for name r = if is_given name r.parts then None else Some (record r { waits = Some name })

abbrev pub with_named : Text → Option Text → Reading → Option Reading
with_named name (Some value) r = with_part name value r
with_named name None r = waiting_for name r

abbrev pub is_among : List Text → Text → Bool
is_among names name = list_any (λ n. bytes_eq n name) names

abbrev pub with_option : Form → Text × Option Text → Reading → Option Reading
with_option form named r = if is_among form.options named.0 then with_named named.0 named.1 r else None

-- the next place's value
abbrev pub placed : Option Text → Text → Reading → Option Reading
placed None word r = None
placed (Some name) word r = with_part name word (record r { taken = r.taken + 1 })

abbrev pub option_or_place : Form → Option (Text × Option Text) → Text → Reading → Option Reading
option_or_place form (Some named) word r = with_option form named r
option_or_place form None word r = placed (slice_get form.places r.taken) word r

abbrev pub with_next : Form → Option Text → Text → Reading → Option Reading
with_next form (Some name) word r = with_part name word r
with_next form None word r = option_or_place form (option_of word) word r

-- the reading with one word more
abbrev pub with_word : Form → Reading → Text → Option Reading
with_word form r word = with_next form r.waits word r

-- the reading with words more
abbrev pub with_words : Form → Reading → List Text → Option Reading
with_words form r [] = Some r
with_words form r (word ∷ words) = option_and_then (λ more. with_words form more words) (with_word form r word)

abbrev pub waits_for_none : Option Text → Bool
waits_for_none None = true
waits_for_none (Some name) = false

abbrev pub are_given : List Text → List Part → Bool
are_given names parts = list_all (λ name. is_given name parts) names

-- the parts, where no option waits and each place has its value
abbrev pub ended : Form → Reading → Option (List Part)
ended form r = if waits_for_none r.waits && are_given form.places r.parts then Some r.parts else None

-- the parts that words give, where they have the form
abbrev pub parts_of : Form → List Text → Option (List Part)
parts_of form words = option_and_then (ended form) (with_words form nothing_read words)

-- values by the names of their places and options
abbrev pub Values : Type 0
Values = Text → Option Text

abbrev pub values_in : List Part → Values
values_in parts = λ name. value_of name parts

-- the values that words give, where they have the form
abbrev pub values_of : Form → List Text → Option Values
values_of form words = option_map values_in (parts_of form words)
