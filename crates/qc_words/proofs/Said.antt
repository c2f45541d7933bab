-- Each word of a form is a value or names an option, and an option asks the same as one word and as two.
use Rattle.std.proofs.Common.{◌≡◌, ◌∙◌, ℕ, ◌&&◌, ◌||◌, Bool, true, false, cond, codes, List, [], ◌∷◌, ◌++◌, Option}
use Rattle.std.proofs.Common.{Some, None, not, refl, ap, sym, arith}
use Rattle.std.specs.List.{list_all}
use Rattle.std.specs.Option.{option_map_or}
use Rattle.std.specs.Str.Iter.{LacksByte}
use Rattle.std.specs.Prelude.{option_and_then, option_map, slice_get}
use Rattle.std.specs.Str.{bytes_eq}
use Rattle.std.proofs.lemmas.Bool.{and_from}
use Rattle.std.proofs.lemmas.Option.{cond_some, none-some, option_and_then_some}
use Rattle.clap.proofs.LexerLemmas.{name_and_value-at, name_and_value-without}
use Rattle.clap.proofs.WalkLemmas.{both}
use Rattle.qc_words.specs.Vocabulary.{Form, IsOptionName, Part, Reading, Text, Values, asked, asked_behind, check_form}
use Rattle.qc_words.specs.Vocabulary.{check_of, ended, is_among, is_given, is_known, is_value, load_form, load_of}
use Rattle.qc_words.specs.Vocabulary.{nothing_read, option_of, option_or_place, parts_of, placed, run_form, run_of}
use Rattle.qc_words.specs.Vocabulary.{said_apart, said_joined, values_in, values_of, waiting_for, with_named, with_next}
use Rattle.qc_words.specs.Vocabulary.{with_part, with_word, with_words}
use Rattle.qc_words.proofs.Steps.{reading}
use Rattle.qc_list.proofs.Booleans.{or_second}

part_fits : (name text : Text) (r end : Reading) → with_part name text r ≡ Some end → is_value text ≡ true
part_fits name text r end e = (both (is_value text) (not (is_given name r.parts))
    (cond_some (is_value text && not (is_given name r.parts)) _ end e).0).0

known_value : (form : Form) (word : Text) → is_value word ≡ true → is_known form word ≡ true
known_value form word e = ap (λ b. b || option_map_or (λ named. is_among form.options named.0) (option_of word) false) e

word_known : (form : Form) (waits : Option Text) (word : Text) (r end : Reading)
    → with_next form waits word r ≡ Some end → is_known form word ≡ true
word_known form (Some name) word r end e = known_value form word (part_fits name word r end e)
word_known form None word r end e = by (option_of word) refl e
  where
    place : (name : Option Text) → placed name word r ≡ Some end → is_known form word ≡ true
    place None e = absurd (none-some end e)
    place (Some name) e = known_value form word (part_fits name word (record r { taken = _ }) end e)

    by : (o : Option (Text × Option Text)) → option_of word ≡ o → option_or_place form o word r ≡ Some end
        → is_known form word ≡ true
    by None is e = place (slice_get form.places r.taken) e
    by (Some named) is e = or_second (is_value word) _ (go (is_among form.options named.0) refl e)
      where
        go : (t : Bool) → is_among form.options named.0 ≡ t → cond t (with_named named.0 named.1 r) None ≡ Some end
            → option_map_or (λ named. is_among form.options named.0) (option_of word) false ≡ true
        go true among e = ap (λ o. option_map_or (λ named. is_among form.options named.0) o false) is ∙ among
        go false among e = absurd (none-some end e)

-- ---- each word

words_known : (form : Form) (words : List Text) (r end : Reading) → with_words form r words ≡ Some end
    → list_all (is_known form) words ≡ true
words_known form [] r end e = refl
words_known form (word ∷ words) r end e =
    option_and_then_some (λ more. with_words form more words) (with_word form r word) end e
    (λ more first rest. and_from _ _ (word_known form r.waits word r more first) (words_known form words more end rest))

pub words_are_values_and_options : (form : Form) (words : List Text) (values : Values)
    → values_of form words ≡ Some values
    → list_all (is_known form) words ≡ true
words_are_values_and_options form words values e = by (parts_of form words) refl e
  where
    by : (o : Option (List Part)) → parts_of form words ≡ o → option_map values_in o ≡ Some values
        → list_all (is_known form) words ≡ true
    by None is e = absurd (none-some values e)
    by (Some parts) is e =
        option_and_then_some (ended form) (with_words form nothing_read words) parts is
        (λ end read _. words_known form words nothing_read end read)

-- ---- one word or two

apart_is : (b : ℕ) (name : Text) → LacksByte 61 (b ∷ name) → option_of (45 ∷ 45 ∷ b ∷ name) ≡ Some (b ∷ name, None)
apart_is b name lacks = ap Some (name_and_value-without (b ∷ name) lacks)

joined_is : (b : ℕ) (name text : Text) → LacksByte 61 (b ∷ name)
    → option_of (45 ∷ 45 ∷ b ∷ (name ++ 61 ∷ text)) ≡ Some (b ∷ name, Some text)
joined_is b name text lacks = ap Some (name_and_value-at (b ∷ name) text lacks)

abbrev pub then : Form → List Text → Option Reading → Option Reading
then form words o = option_and_then (λ more. with_words form more words) o

-- the option's value, after its name as a word of its own, or at once
part_after : (form : Form) (name text : Text) (rest : List Text) (parts : List Part) (taken : ℕ)
    → then form (text ∷ rest) (waiting_for name (reading parts taken None))
    ≡ then form rest (with_part name text (reading parts taken None))
part_after form name text rest parts taken = by (is_given name parts) (is_value text) refl refl
  where
    by : (t u : Bool) → is_given name parts ≡ t → is_value text ≡ u
        → then form (text ∷ rest) (waiting_for name (reading parts taken None))
        ≡ then form rest (with_part name text (reading parts taken None))
    by true true given fits = rw (given, fits) refl
    by true false given fits = rw (given, fits) refl
    by false true given fits = rw (given, fits) (rw given refl)
    by false false given fits = rw (given, fits) refl

behind_apart : (form : Form) (b : ℕ) (name text : Text) → LacksByte 61 (b ∷ name)
    → (rest : List Text) (waits : Option Text) (parts : List Part) (taken : ℕ)
    → with_words form (reading parts taken waits) (said_apart (b ∷ name) text ++ rest)
    ≡ with_words form (reading parts taken waits) (said_joined (b ∷ name) text ++ rest)
behind_apart form b name text lacks rest (Some other) parts taken = refl
behind_apart form b name text lacks rest None parts taken =
    let r = reading parts taken None in
    ap (λ o. then form (text ∷ rest) (option_or_place form o (45 ∷ 45 ∷ b ∷ name) r)) (apart_is b name lacks)
    ∙ by (is_among form.options (b ∷ name))
    ∙ sym (ap (λ o. then form rest (option_or_place form o (45 ∷ 45 ∷ b ∷ (name ++ 61 ∷ text)) r))
    (joined_is b name text lacks))
  where
    by : (t : Bool) → then form (text ∷ rest) (cond t (waiting_for (b ∷ name) (reading parts taken None)) None)
        ≡ then form rest (cond t (with_part (b ∷ name) text (reading parts taken None)) None)
    by true = part_after form (b ∷ name) text rest parts taken
    by false = refl

words_apart : (form : Form) (b : ℕ) (name text : Text) → LacksByte 61 (b ∷ name)
    → (before rest : List Text) (r : Reading)
    → with_words form r (before ++ (said_apart (b ∷ name) text ++ rest)) ≡ with_words form r
    (before ++ (said_joined (b ∷ name) text ++ rest))
words_apart form b name text lacks [] rest r = behind_apart form b name text lacks rest r.waits r.parts r.taken
words_apart form b name text lacks (word ∷ before) rest r =
    by (with_word form r word) (words_apart form b name text lacks before rest)
  where
    by : (o : Option Reading) → ((r : Reading)
        → with_words form r (before ++ (said_apart (b ∷ name) text ++ rest)) ≡ with_words form r
        (before ++ (said_joined (b ∷ name) text ++ rest)))
        → then form (before ++ (said_apart (b ∷ name) text ++ rest)) o ≡ then form
        (before ++ (said_joined (b ∷ name) text ++ rest)) o
    by None same = refl
    by (Some more) same = same more

values_apart : (form : Form) (b : ℕ) (name text : Text) → LacksByte 61 (b ∷ name) → (before rest : List Text)
    → values_of form (before ++ (said_apart (b ∷ name) text ++ rest)) ≡ values_of form
    (before ++ (said_joined (b ∷ name) text ++ rest))
values_apart form b name text lacks before rest =
    ap (λ o. option_map values_in (option_and_then (ended form) o))
    (words_apart form b name text lacks before rest nothing_read)

pub behind_same : (command : Text) (x y : List Text) → ((form : Form) → values_of form x ≡ values_of form y)
    → asked_behind command x ≡ asked_behind command y
behind_same command x y same = λ i.
    cond (bytes_eq command (codes "check")) (option_and_then check_of (same check_form i))
    (cond (bytes_eq command (codes "run")) (option_and_then run_of (same run_form i))
    (cond (bytes_eq command (codes "load")) (option_and_then load_of (same load_form i)) None))

-- the command is no option
no_command : (word : Text) (words : List Text) (e : bytes_eq word (codes "check") ≡ false)
    → bytes_eq word (codes "run") ≡ false → bytes_eq word (codes "load") ≡ false
    → asked_behind word words ≡ None
no_command word words check run load = rw (check, run, load) refl

pub options_are_one_word_or_two : (name text : Text) → IsOptionName name → (before after : List Text)
    → asked (before ++ (said_apart name text ++ after)) ≡ asked (before ++ (said_joined name text ++ after))
options_are_one_word_or_two [] text is before after = let none = is.0 in absurd (omega arith)
options_are_one_word_or_two (b ∷ name) text is [] after = no_command (45 ∷ 45 ∷ b ∷ name) (text ∷ after) refl refl refl
    ∙ sym (no_command (45 ∷ 45 ∷ b ∷ (name ++ 61 ∷ text)) after refl refl refl)
options_are_one_word_or_two (b ∷ name) text is (command ∷ before) after =
    behind_same command (before ++ (said_apart (b ∷ name) text ++ after))
    (before ++ (said_joined (b ∷ name) text ++ after)) (λ form. values_apart form b name text is.1 before after)
