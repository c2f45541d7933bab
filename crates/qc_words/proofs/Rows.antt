-- The rows that `clap` holds for parts, in their order.
use Rattle.std.proofs.Common.{◌≡◌, ◌∙◌, List, [], ◌∷◌, ◌++◌, Bool, true, false, Some, None, refl, ap, sym, map}
use Rattle.std.proofs.Common.{append-nil}
use Rattle.std.specs.List.{list_all}
use Rattle.std.specs.Str.{bytes_eq}
use Rattle.clap.proofs.WalkLemmas.{list_any-map}
use Rattle.clap.specs.Takes as passes
use Rattle.clap.specs.Walk.{Row, Rule, at_row, first_of, has_row, is_multiple, more_values, most_values, takes_several}
use Rattle.clap.specs.Walk.{takes_values, used}
use Rattle.clap.specs.declared.builder.action.ArgAction.TheVariants.{Set}
use Rattle.clap.specs.declared.builder.value_parser.Reading.TheVariants.{AsWritten}
use Rattle.clap.specs.declared.builder.value_parser.ValueParser.TheVariants as parsers
use Rattle.clap.specs.declared.parser.matches.ValueSource.TheVariants.{CommandLine}
use Rattle.qc_words.specs.Vocabulary.{Part, Text, are_given, is_given, value_of}
use Rattle.qc_list.proofs.Booleans.{or_parts}

-- what `clap` holds for a part
abbrev pub row : Part → Row
row p = record { id = p.name; values = p.value ∷ []; count = None; source = Some CommandLine; reading = AsWritten }

-- an argument that takes one text, as it is written
pub record IsOne (a : Rule) (name : Text) : Type 0 where
  pub id : a.id ≡ name
  pub action : a.action ≡ Some Set
  pub range : a.range ≡ Some (record { start_inclusive = 1; end_inclusive = 1 })
  pub parser : a.parser ≡ Some parsers.String
  pub trailing : a.trailing_var_arg ≡ false

pub one_value : (a : Rule) (name : Text) → IsOne a name → most_values a ≡ 1
one_value a name one = rw one.range refl

pub one_takes : (a : Rule) (name : Text) → IsOne a name → takes_values a ≡ true
one_takes a name one = rw one.range refl

pub one_not_several : (a : Rule) (name : Text) → IsOne a name → takes_several a ≡ false
one_not_several a name one = rw one.range refl

pub one_not_multiple : (a : Rule) (name : Text) → IsOne a name → is_multiple a ≡ false
one_not_multiple a name one = rw (one.range, one.action) refl

-- a row joins behind the others where none has its id
at_no_row : (id : Text) (change : Row → List Row) (missing rows : List Row) → has_row id rows ≡ false
    → at_row id change missing rows ≡ rows ++ missing
at_no_row id change missing [] none = refl
at_no_row id change missing (r ∷ rows) none =
    let parts = or_parts (bytes_eq r.id id) (has_row id rows) none in
    rw parts.0 (ap (λ rs. r ∷ rs) (at_no_row id change missing rows parts.1))

pub used_once : (a : Rule) (name value : Text) (rows : List Row) → IsOne a name → has_row name rows ≡ false
    → used a (value ∷ []) rows ≡ rows ++ row (record { name = name; value = value }) ∷ []
used_once a name value rows one none =
    let kept = at_no_row name (λ _. []) [] rows none ∙ append-nil rows in
    rw (one.action, one.parser, one.id) (rw kept
    (at_no_row name (more_values CommandLine (value ∷ []))
    (row (record { name = name; value = value }) ∷ []) rows none))

pub no_row_of : (name : Text) (parts : List Part) → is_given name parts ≡ false → has_row name (map row parts) ≡ false
no_row_of name parts none = sym (list_any-map (λ r. bytes_eq r.id name) row parts) ∙ none

-- what `clap` gives by a name
pub first_is_value : (name : Text) (parts : List Part) → first_of name (map row parts) ≡ value_of name parts
first_is_value name [] = refl
first_is_value name (p ∷ parts) = by (bytes_eq p.name name) refl (first_is_value name parts)
  where
    by : (t : Bool) → bytes_eq p.name name ≡ t → first_of name (map row parts) ≡ value_of name parts
        → first_of name (map row (p ∷ parts)) ≡ value_of name (p ∷ parts)
    by true is rest = rw is refl
    by false is rest = rw is rest

given_here : (name : Text) (parts : List Part) → passes.is_given name (map row parts) ≡ is_given name parts
given_here name [] = refl
given_here name (p ∷ parts) = by (bytes_eq p.name name) refl (given_here name parts)
  where
    by : (t : Bool) → bytes_eq p.name name ≡ t → passes.is_given name (map row parts) ≡ is_given name parts
        → passes.is_given name (map row (p ∷ parts)) ≡ is_given name (p ∷ parts)
    by true is rest = rw is refl
    by false is rest = rw is rest

pub given_rows : (names : List Text) (parts : List Part)
    → list_all (λ name. passes.is_given name (map row parts)) names ≡ are_given names parts
given_rows names parts = λ i. list_all (λ name. given_here name parts i) names
