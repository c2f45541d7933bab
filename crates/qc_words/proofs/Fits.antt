-- What `clap` reads of a form's command: where it finds the rule of each place and each option.
use Rattle.std.proofs.Common.{◌≡◌, ◌⊎◌, ℕ, zero, suc, ◌+◌, ◌≤◌, ◌||◌, Bool, true, false, List, [], ◌∷◌, Some, codes}
use Rattle.std.proofs.Common.{inl, inr, length, not, refl, subst, sym, true≢false, arith}
use Rattle.std.specs.List.{list_all}
use Rattle.std.specs.Prelude.{slice_get}
use Rattle.std.specs.Str.{bytes_eq}
use Rattle.std.proofs.lemmas.Option.{none-some, same_Some}
use Rattle.std.proofs.lemmas.Slice.Eq.{bytes_eq-Decides}
use Rattle.clap.specs.Simple.{App, Shape, built, filled, is_simple, names_of, with_index}
use Rattle.clap.specs.Takes.{default_passes, is_given as has_given}
use Rattle.clap.specs.Walk.{Row, Rule, arg_by_id, arg_by_index, arg_by_long, is_empty}
use Rattle.qc_words.specs.Vocabulary.{Form, IsForm, Text, check_form, command_for, is_among, load_form, option_rule}
use Rattle.qc_words.specs.Vocabulary.{place_rule, run_form}
use Rattle.qc_words.proofs.Rows.{IsOne}

pub record IsPlace (rules : List Rule) (position : ℕ) (name : Text) : Type 0 where
  pub rule : Rule
  pub found : arg_by_index rules position ≡ Some rule
  pub by_id : arg_by_id rules name ≡ Some rule
  pub one : IsOne rule name

pub record IsOption (rules : List Rule) (name : Text) : Type 0 where
  pub rule : Rule
  pub found : arg_by_long rules name ≡ Some rule
  pub by_id : arg_by_id rules name ≡ Some rule
  pub one : IsOne rule name

pub record Reads (form : Form) (rules : List Rule) : Type 0 where
  pub place : (i : ℕ) (name : Text) → slice_get form.places i ≡ Some name → IsPlace rules (i + 1) name
  pub named : (name : Text) → is_among form.options name ≡ true → IsOption rules name
  pub few : length form.places ≤ 100

-- the command, as `clap` builds it
abbrev pub shape : Form → Shape
shape form = (built (command_for form)).top

-- the rules are read as the form has them, and nothing is asked of the words but that each place is given
pub record Fits (form : Form) (a : App) : Type 0 where
  pub reads : Reads form a.top.rules
  pub no_subcommands : names_of a ≡ []
  pub args_override_self : a.top.args_override_self ≡ false
  pub arg_required_else_help : a.top.arg_required_else_help ≡ false
  pub subcommand_required : a.top.subcommand_required ≡ false
  pub subcommand_negates_reqs : a.top.subcommand_negates_reqs ≡ false
  pub free : list_all (λ rule. rule.is_free) a.top.rules ≡ true
  pub passes : list_all default_passes a.top.rules ≡ true
  pub defaults : list_all (λ rule. is_empty rule.defaults) a.top.rules ≡ true
  pub required : (rows : List Row) → list_all (λ rule. not rule.required || has_given rule.id rows) a.top.rules
      ≡ list_all (λ name. has_given name rows) form.places

abbrev place_at : ℕ → Text → Rule
place_at i name = with_index i (filled (place_rule name))

abbrev option_at : Text → Rule
option_at name = with_index 0 (filled (option_rule name))

-- rules in which a place's name, or an option's, is found are so for each name that is the same
place_of : (rules : List Rule) (i : ℕ) (one name : Text) → arg_by_index rules i ≡ Some (place_at i one)
    → arg_by_id rules one ≡ Some (place_at i one)
    → Some one ≡ Some name → IsPlace rules i name
place_of rules i one name found by_id same = subst (IsPlace rules i) (same_Some one name same) (record {
  rule = place_at i one;
  found = found;
  by_id = by_id;
  one = record { id = refl; action = refl; range = refl; parser = refl; trailing = refl };
})

option_of : (rules : List Rule) (one name : Text) → arg_by_long rules one ≡ Some (option_at one)
    → arg_by_id rules one ≡ Some (option_at one)
    → one ≡ name → IsOption rules name
option_of rules one name found by_id same = subst (IsOption rules) same (record {
  rule = option_at one;
  found = found;
  by_id = by_id;
  one = record { id = refl; action = refl; range = refl; parser = refl; trailing = refl };
})

among : (one : Text) (names : List Text) (name : Text) → is_among (one ∷ names) name ≡ true
    → (one ≡ name) ⊎ (is_among names name ≡ true)
among one names name e = by (bytes_eq one name) refl e
  where
    by : (t : Bool) → bytes_eq one name ≡ t → (t || is_among names name) ≡ true
        → (one ≡ name) ⊎ (is_among names name ≡ true)
    by true is e = inl ((bytes_eq-Decides one name).0 is)
    by false is e = inr e

check_place : (i : ℕ) (name : Text) → slice_get check_form.places i ≡ Some name
    → IsPlace (shape check_form).rules (i + 1) name
check_place zero name e = place_of (shape check_form).rules 1 (codes "DECL") name refl refl e
check_place (suc i) name e = absurd (none-some name e)

run_place : (i : ℕ) (name : Text) → slice_get run_form.places i ≡ Some name
    → IsPlace (shape run_form).rules (i + 1) name
run_place zero name e = place_of (shape run_form).rules 1 (codes "DECL") name refl refl e
run_place (suc zero) name e = place_of (shape run_form).rules 2 (codes "SCRIPT") name refl refl e
run_place (suc (suc i)) name e = absurd (none-some name e)

load_place : (i : ℕ) (name : Text) → slice_get load_form.places i ≡ Some name
    → IsPlace (shape load_form).rules (i + 1) name
load_place zero name e = place_of (shape load_form).rules 1 (codes "COUNT") name refl refl e
load_place (suc zero) name e = place_of (shape load_form).rules 2 (codes "SEED") name refl refl e
load_place (suc (suc i)) name e = absurd (none-some name e)

run_option : (name : Text) → is_among run_form.options name ≡ true → IsOption (shape run_form).rules name
run_option name e = elim (among (codes "workers") (codes "dir" ∷ []) name e) [
  | inl same ↦ option_of (shape run_form).rules (codes "workers") name refl refl same
  | inr rest ↦ elim (among (codes "dir") [] name rest) [
    | inl same ↦ option_of (shape run_form).rules (codes "dir") name refl refl same
    | inr none ↦ absurd (true≢false (sym none))
  ]
]

load_option : (name : Text) → is_among load_form.options name ≡ true → IsOption (shape load_form).rules name
load_option name e = elim (among (codes "workers") [] name e) [
  | inl same ↦ option_of (shape load_form).rules (codes "workers") name refl refl same
  | inr none ↦ absurd (true≢false (sym none))
]

check_fits : Fits check_form (built (command_for check_form))
check_fits = record {
  reads = record { place = check_place; named = λ name e. absurd (true≢false (sym e)); few = omega arith };
  no_subcommands = refl;
  args_override_self = refl;
  arg_required_else_help = refl;
  subcommand_required = refl;
  subcommand_negates_reqs = refl;
  free = refl;
  passes = refl;
  defaults = refl;
  required = λ rows. refl;
}

run_fits : Fits run_form (built (command_for run_form))
run_fits = record {
  reads = record { place = run_place; named = run_option; few = omega arith };
  no_subcommands = refl;
  args_override_self = refl;
  arg_required_else_help = refl;
  subcommand_required = refl;
  subcommand_negates_reqs = refl;
  free = refl;
  passes = refl;
  defaults = refl;
  required = λ rows. refl;
}

load_fits : Fits load_form (built (command_for load_form))
load_fits = record {
  reads = record { place = load_place; named = load_option; few = omega arith };
  no_subcommands = refl;
  args_override_self = refl;
  arg_required_else_help = refl;
  subcommand_required = refl;
  subcommand_negates_reqs = refl;
  free = refl;
  passes = refl;
  defaults = refl;
  required = λ rows. refl;
}

abbrev pub Suits : Form → Type 0
Suits form = (is_simple (command_for form) ≡ true) × Fits form (built (command_for form))

-- each form of the program fits its command, which is simple
pub form_fits : (form : Form) → IsForm form → Suits form
form_fits form is = elim is [
  | inl check ↦ subst Suits (sym check) (refl, check_fits)
  | inr other ↦ elim other [
    | inl run ↦ subst Suits (sym run) (refl, run_fits)
    | inr load ↦ subst Suits (sym load)
        (refl, load_fits)
  ]
]
