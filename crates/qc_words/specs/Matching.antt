-- A form as a simple command of `clap`, without help and version, and what `clap` is to make of words that have it.
use Rattle.std.specs.Prelude.{◌≡◌, ◌⊎◌, List, [], ◌++◌, Some, true, codes, map}
use Rattle.clap.specs.Matches.{first_value, found_of}
use Rattle.clap.specs.Simple.{App, matches_of, new_rule, new_shape, on_top}
use Rattle.clap.specs.Takes.{takes}
use Rattle.clap.specs.Walk.{Rule, first_of}
use Rattle.clap.specs.declared.builder.action.ArgAction.TheVariants.{Set}
use Rattle.clap.specs.declared.parser.matches.ArgMatches.{ArgMatches}
use Rattle.qc_words.specs.Forms.{Form, Part, Text, Values, value_of}
use Rattle.qc_words.specs.Words.{check_form, load_form, run_form}

-- a place has to be given; an option is `--` and its name
abbrev pub place_rule : Text → Rule
place_rule name = record (new_rule name) { action = Some Set; required = true }

abbrev pub option_rule : Text → Rule
option_rule name = record (new_rule name) { long = Some name; action = Some Set }

-- a command with these rules, which is handed the words behind its own
abbrev pub command_with : List Rule → App
command_with rules = record {
  top = record (new_shape (codes "quorum")) { rules = rules; no_binary_name = true; disable_help_flag = true };
  subs = [];
}

-- a command with more rules
abbrev pub with_rules : App → List Rule → App
with_rules command rules = on_top (λ s. record s { rules = s.rules ++ rules }) command

abbrev pub command_for : Form → App
command_for form = command_with (map place_rule form.places ++ map option_rule form.options)

-- the program's forms
abbrev pub IsForm : Form → Type 0
IsForm form = (form ≡ check_form) ⊎ ((form ≡ run_form) ⊎ (form ≡ load_form))

-- `clap` takes the words, so that it fails only for want of memory, and gives each value of these parts, and no other
pub record IsTaken (form : Form) (words : List Text) (parts : List Part) : Type 0 where
  pub takes : takes (command_for form) words ≡ true
  pub values : (name : Text) → first_of name (matches_of (command_for form) words) ≡ value_of name parts

-- the values that `clap` found
abbrev pub found_in : ArgMatches → Values
found_in m = λ name. first_value (found_of m) name
