-- Words that some_of a form are taken by `clap`, as the command of that form, with the same values.
use Rattle.std.proofs.Common.{◌≡◌, ◌∙◌, ◌&&◌, Bool, true, false, cond, List, [], ◌∷◌, Option, Some, None, refl, ap, sym}
use Rattle.std.proofs.Common.{subst, map, true≢false}
use Rattle.std.specs.List.{fold, list_all}
use Rattle.std.specs.Prelude.{is_some, option_map}
use Rattle.std.proofs.lemmas.Bool.{and_from}
use Rattle.std.proofs.lemmas.Option.{cond_some, option_and_then_some, same_Some}
use Rattle.clap.proofs.SimpleLemmas.{is_nil}
use Rattle.clap.proofs.WalkLemmas.{both, first_value-rows}
use Rattle.clap.specs.Matches.{first_value, found_of}
use Rattle.clap.specs.Simple.{App, HasMatchesOf, Shape, built, is_simple, matches_of, names_of}
use Rattle.clap.specs.Takes.{built_takes, is_valid, level_passes, takes, walk_passes}
use Rattle.clap.specs.Walk.{Held, Row, Rule, default_rows, finished, first_of, has_row, is_empty, Walk, nothing_held}
use Rattle.clap.specs.Walk.{reading_by, rows_after, rows_of, walk, walked, with_default}
use Rattle.clap.specs.declared.parser.matches.ArgMatches.{ArgMatches}
use Rattle.qc_words.specs.Vocabulary.{Form, IsForm, IsTaken, Part, Reading, Text, are_given, command_for, ended}
use Rattle.qc_words.specs.Vocabulary.{found_in, nothing_read, parts_of, value_of, values_in, values_of, waits_for_none}
use Rattle.qc_words.specs.Vocabulary.{with_word, with_words}
use Rattle.qc_words.proofs.Fits.{Fits, Reads, form_fits}
use Rattle.qc_words.proofs.Rows.{first_is_value, given_rows, row}
use Rattle.qc_words.proofs.Steps.{Holds, Steps, stands, step}
use Rattle.qc_list.proofs.Options.{some_of}

module _ (form : Form) (s : Shape) (reads : Reads form s.rules) (once : s.args_override_self ≡ false) where
  -- the walk over words, where the reading comes to `end`
  record Walks (r : Reading) (h : Held) (words : List Text) (end : Reading) : Type 0 where
    pub held : Held
    pub is : fold (walked s.rules []) (stands r h) words ≡ stands end held
    pub holds : Holds form s reads once end.parts end.waits held
    pub passes : walk_passes s [] (stands r h) words ≡ true

  walks_none : (r : Reading) (h : Held) → Holds form s reads once r.parts r.waits h → Walks r h [] r
  unfolding walk_passes
  walks_none r h holds = record { held = h; is = refl; holds = holds; passes = refl }

  walks_more : (r mid end : Reading) (word : Text) (words : List Text) (h : Held)
      → (one : Steps form s reads once r h word mid) → Walks mid one.held words end → Walks r h (word ∷ words) end
  unfolding walk_passes
  walks_more r mid end word words h one rest = record {
    held = rest.held;
    is = ap (λ w. fold (walked s.rules []) w words) one.is ∙ rest.is;
    holds = rest.holds;
    passes = and_from _ _ one.passes (ap (λ w. walk_passes s [] w words) one.is ∙ rest.passes);
  }

  walks : (r end : Reading) (words : List Text) (h : Held) → Holds form s reads once r.parts r.waits h
      → with_words form r words ≡ Some end → Walks r h words end
  walks r end [] h holds e = subst (Walks r h []) (same_Some r end e) (walks_none r h holds)
  walks r end (word ∷ words) h holds e =
      option_and_then_some (λ more. with_words form more words) (with_word form r word) end e
      (λ mid first rest.
      let one = step form s reads once r mid word h holds first in
      walks_more r mid end word words h one (walks mid end words one.held one.holds rest))

-- no argument has a default
undefault : (rules : List Rule) (rows : List Row) → list_all (λ (a : Rule). is_empty a.defaults) rules ≡ true
    → fold with_default rows rules ≡ rows
undefault [] rows e = refl
undefault (a ∷ rules) rows e =
    let b = both (is_empty a.defaults) _ e in
    let none = ap (λ ds. cond (has_row a.id rows) rows (default_rows a.id (reading_by a) ds rows))
    (is_nil a.defaults b.0) in
    ap (λ rs. fold with_default rs rules) (none ∙ by (has_row a.id rows)) ∙ undefault rules rows b.1
  where
    by : (t : Bool) → cond t rows rows ≡ rows
    by true = refl
    by false = refl

module _ (form : Form) (a : App) (fits : Fits form a) where
  idle_holds : (parts : List Part) (waits : Option Text) (h : Held) → waits_for_none waits ≡ true
      → Holds form a.top fits.reads fits.args_override_self parts waits h
      → Holds form a.top fits.reads fits.args_override_self parts None h
  idle_holds parts None h e holds = holds
  idle_holds parts (Some name) h e holds = absurd (true≢false (sym e))

  valid : (parts : List Part) → are_given form.places parts ≡ true → is_valid a.top (map row parts) false ≡ true
  valid parts given =
      rw (fits.arg_required_else_help, fits.subcommand_required, fits.subcommand_negates_reqs)
      (and_from _ _ fits.free (fits.required (map row parts) ∙ given_rows form.places parts ∙ given))

  level : (words : List Text) (end : Reading)
      → Walks form a.top fits.reads fits.args_override_self nothing_read nothing_held words end
      → waits_for_none end.waits ≡ true → are_given form.places end.parts ≡ true
      → (level_passes a.top [] nothing_held words false ≡ true) × (rows_after a.top.rules [] words ≡ map row end.parts)
  level words end w idle given =
      let held : (walk a.top.rules [] nothing_held words).held ≡ w.held = ap (λ (w : Walk). w.held) w.is in
      let holds = idle_holds end.parts end.waits w.held idle w.holds in
      let rows : finished a.top.rules w.held ≡ map row end.parts = undefault a.top.rules _ fits.defaults ∙ holds.0 in (
        and_from _ _ w.passes (rw (held, fits.args_override_self)
            (and_from _ _ holds.1 (and_from _ _ fits.passes (rw rows (valid end.parts given))))),
        ap (finished a.top.rules) held ∙ rows,
      )

  -- what `clap` makes of words that come to `end`
  ends : (words : List Text) (end : Reading) → with_words form nothing_read words ≡ Some end
      → waits_for_none end.waits ≡ true → are_given form.places end.parts ≡ true
      → (built_takes a nothing_held words ≡ true) × (rows_after a.top.rules (names_of a) words ≡ map row end.parts)
  ends words end read idle given =
      let w = walks form a.top fits.reads fits.args_override_self nothing_read end words nothing_held
      (refl, refl) read in
      let stopped : (walk a.top.rules [] nothing_held words).stopped ≡ None = ap (λ (w : Walk). w.stopped) w.is in
      let at = level words end w idle given in
      (rw (fits.no_subcommands, stopped) at.0, rw fits.no_subcommands at.1)

-- words that some_of a form are taken with just their values
pub words_of_a_form_are_taken_by_clap : (form : Form) → IsForm form → (words : List Text) (parts : List Part)
    → parts_of form words ≡ Some parts
    → IsTaken form words parts
words_of_a_form_are_taken_by_clap form is words parts e =
    option_and_then_some (ended form) (with_words form nothing_read words) parts e
    (λ end read ended.
    let fits = form_fits form is in
    let t = cond_some (waits_for_none end.waits && are_given form.places end.parts) end.parts parts ended in
    let b = both (waits_for_none end.waits) _ t.0 in
    let at = ends form (built (command_for form)) fits.1 words end read b.0 b.1 in
    record {
      takes = and_from _ _ fits.0 at.0;
      values = λ name. ap (first_of name) at.1 ∙ first_is_value name end.parts ∙ ap (λ ps. value_of name ps) t.1;
    })

-- `clap` fails at them only for want of memory
pub takes_words : (form : Form) → IsForm form → (words : List Text) → is_some (parts_of form words) ≡ true → (a : App)
    → a ≡ command_for form → takes a words ≡ true
takes_words form is words has a same =
    let parts = some_of (parts_of form words) has in
    ap (λ (a : App). takes a words) same ∙ (words_of_a_form_are_taken_by_clap form is words parts.0 parts.1).takes

-- and gives their values
pub gives_values : (form : Form) → IsForm form → (words : List Text) → is_some (parts_of form words) ≡ true → (a : App)
    → a ≡ command_for form → (m : ArgMatches) → HasMatchesOf a words m
    → Some (found_in m) ≡ values_of form words
gives_values form is words has a same m matches =
    let parts = some_of (parts_of form words) has in
    let as_read = words_of_a_form_are_taken_by_clap form is words parts.0 parts.1 in
    let rows : rows_of (found_of m) ≡ matches_of (command_for form) words =
    (matches (ap is_simple same ∙ (form_fits form is).0)).0 ∙ ap (λ a. matches_of a words) same in
    let each : (name : Text) → first_value (found_of m) name ≡ value_of name parts.0 =
    λ name. first_value-rows (found_of m) name ∙ ap (first_of name) rows ∙ as_read.values name in
    (λ i. Some (λ (name : Text). each name i)) ∙ ap (option_map values_in) (sym parts.1)
