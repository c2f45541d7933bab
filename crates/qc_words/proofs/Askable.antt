-- What words ask has names that are values, and numbers within the limits.
use Rattle.std.proofs.Common.{◌≡◌, ◌∙◌, ℕ, ◌+◌, ◌≤◌, ◌&&◌, Bool, true, false, not, List, [], ◌∷◌, Option, Some, None}
use Rattle.std.proofs.Common.{cond, codes, refl, subst, arith}
use Rattle.std.specs.List.{find, list_all}
use Rattle.std.specs.Option.{option_map_or}
use Rattle.std.specs.Prelude.{option_and_then, option_map, slice_get}
use Rattle.std.specs.Str.{bytes_eq}
use Rattle.std.proofs.lemmas.Bool.{and_from, leb-true}
use Rattle.std.proofs.lemmas.List.Folds.{list_all-append}
use Rattle.std.proofs.lemmas.Option.{cond_some, none-some, option_and_then_some, same_Some}
use Rattle.clap.proofs.WalkLemmas.{both}
use Rattle.qc_words.specs.Vocabulary.{AreFew, AskedOf, Check, Form, IsAskable, IsName, IsNameIfAny, Part, Reading, Text}
use Rattle.qc_words.specs.Vocabulary.{Values, are_given, asked, asked_behind, check_form, check_of, ended}
use Rattle.qc_words.specs.Vocabulary.{greatest_seed, is_among, is_given, is_value, load_form, load_of}
use Rattle.qc_words.specs.Vocabulary.{most_transactions, most_workers, nothing_read, number_within, option_of}
use Rattle.qc_words.specs.Vocabulary.{option_or_place, parts_of, placed, run_form, run_of, value_of, values_in}
use Rattle.qc_words.specs.Vocabulary.{values_of, waits_for_none, with_named, with_next, with_part, with_word}
use Rattle.qc_words.specs.Vocabulary.{with_words, within, workers_of}
use Rattle.qc_number.specs.Vocabulary.{number_of}

bounds : (least most : ℕ) (o : Option ℕ) (n : ℕ) → within least most o ≡ Some n → (least ≤ n) × (n ≤ most)
bounds least most None n is = absurd (none-some n is)
bounds least most (Some m) n is =
    let t = cond_some _ m n is in
    let b = both _ _ t.0 in
    subst (λ k. (least ≤ k) × (k ≤ most)) t.1 (leb-true least m b.0, leb-true m most b.1)

number_bounds : (least most : ℕ) (word : Text) (n : ℕ) → number_within least most word ≡ Some n
    → (least ≤ n) × (n ≤ most)
number_bounds least most word n is = bounds least most (number_of word) n is

workers_few : (values : Values) (n : ℕ) → workers_of values ≡ Some n → AreFew n
workers_few values n is = by (values (codes "workers")) is
  where
    by : (o : Option Text) → option_map_or (number_within 1 most_workers) o (Some 1) ≡ Some n → AreFew n
    by None e = subst AreFew (same_Some 1 n e) (omega arith, omega arith)
    by (Some word) e = number_bounds 1 most_workers word n e

-- each part is a value
abbrev AreNames : List Part → Type 0
AreNames parts = list_all (λ p. is_value p.value) parts ≡ true

part_named : (name text : Text) (r end : Reading) → with_part name text r ≡ Some end → AreNames r.parts
    → AreNames end.parts
part_named name text r end e were =
    let t = cond_some (is_value text && not (is_given name r.parts)) _ end e in
    let fits = (both (is_value text) (not (is_given name r.parts)) t.0).0 in
    let one : AreNames (record { name = name; value = text } ∷ []) = and_from _ _ fits refl in
    subst (λ (end : Reading). AreNames end.parts) t.1
    (list_all-append (λ p. is_value p.value) r.parts _ ∙ and_from _ _ were one)

word_named : (form : Form) (waits : Option Text) (word : Text) (r end : Reading)
    → with_next form waits word r ≡ Some end → AreNames r.parts → AreNames end.parts
word_named form (Some name) word r end e were = part_named name word r end e were
word_named form None word r end e were = by (option_of word) e
  where
    place : (name : Option Text) → placed name word r ≡ Some end → AreNames end.parts
    place None e = absurd (none-some end e)
    place (Some name) e = part_named name word (record r { taken = r.taken + 1 }) end e were

    said : (name : Text) (joined : Option Text) → with_named name joined r ≡ Some end → AreNames end.parts
    said name (Some text) e = part_named name text r end e were
    said name None e = go (is_given name r.parts) e
      where
        go : (t : Bool) → cond t None (Some (record r { waits = Some name })) ≡ Some end → AreNames end.parts
        go true e = absurd (none-some end e)
        go false e = subst (λ (end : Reading). AreNames end.parts) (same_Some _ end e) were

    by : (o : Option (Text × Option Text)) → option_or_place form o word r ≡ Some end → AreNames end.parts
    by None e = place (slice_get form.places r.taken) e
    by (Some named) e = go (is_among form.options named.0) e
      where
        go : (t : Bool) → cond t (with_named named.0 named.1 r) None ≡ Some end → AreNames end.parts
        go true e = said named.0 named.1 e
        go false e = absurd (none-some end e)

words_named : (form : Form) (words : List Text) (r end : Reading) → with_words form r words ≡ Some end
    → AreNames r.parts → AreNames end.parts
words_named form [] r end e were = subst (λ (end : Reading). AreNames end.parts) (same_Some r end e) were
words_named form (word ∷ words) r end e were =
    option_and_then_some (λ more. with_words form more words) (with_word form r word) end e
    (λ more first rest. words_named form words more end rest (word_named form r.waits word r more first were))

-- each value is one
abbrev GiveNames : Values → Type 0
GiveNames values = (name text : Text) → values name ≡ Some text → IsName text

named_values : (parts : List Part) → AreNames parts → GiveNames (values_in parts)
named_values [] are name text e = absurd (none-some text e)
named_values (p ∷ parts) are name text e =
    let b = both (is_value p.value) _ are in
    by (bytes_eq p.name name) b.0 (named_values parts b.1 name text) e
  where
    by : (t : Bool) → IsName p.value → (value_of name parts ≡ Some text → IsName text)
        → option_map (λ (p : Part). p.value) (cond t (Some p) (find (λ p. bytes_eq p.name name) parts)) ≡ Some text
        → IsName text
    by true one rest e = subst IsName (same_Some p.value text e) one
    by false one rest e = rest e

values_named : (form : Form) (words : List Text) (values : Values) → values_of form words ≡ Some values
    → GiveNames values
values_named form words values e = by (parts_of form words) refl e
  where
    by : (o : Option (List Part)) → parts_of form words ≡ o → option_map values_in o ≡ Some values → GiveNames values
    by None is e = absurd (none-some values e)
    by (Some parts) is e =
        option_and_then_some (ended form) (with_words form nothing_read words) parts is (λ end read ended.
        let are = words_named form words nothing_read end read refl in
        let same = (cond_some (waits_for_none end.waits && are_given form.places end.parts) end.parts parts ended).1 in
        subst GiveNames (same_Some (values_in parts) values e) (named_values parts (subst AreNames same are)))

check_askable : (values : Values) (a : AskedOf) → GiveNames values → check_of values ≡ Some a → IsAskable a
check_askable values a names is = by (values (codes "DECL")) refl is
  where
    by : (o : Option Text) → values (codes "DECL") ≡ o → option_map Check o ≡ Some a → IsAskable a
    by None has e = absurd (none-some a e)
    by (Some decl) has e = subst IsAskable (same_Some (Check decl) a e) (names (codes "DECL") decl has)

dir_named : (values : Values) → GiveNames values → IsNameIfAny (values (codes "dir"))
dir_named values names = by (values (codes "dir")) refl
  where
    by : (o : Option Text) → values (codes "dir") ≡ o → IsNameIfAny o
    by None has = tt
    by (Some dir) has = names (codes "dir") dir has

run_askable : (values : Values) (a : AskedOf) → GiveNames values → run_of values ≡ Some a → IsAskable a
run_askable values a names is =
    option_and_then_some _ (values (codes "DECL")) a is (λ decl has_decl e.
    option_and_then_some _ (values (codes "SCRIPT")) a e (λ script has_script e.
    option_and_then_some _ (workers_of values) a e (λ workers few e.
    subst IsAskable (same_Some _ a e) (record {
      decl_is_name = names (codes "DECL") decl has_decl;
      script_is_name = names (codes "SCRIPT") script has_script;
      are_few = workers_few values workers few;
      dir_is_name = dir_named values names;
    }))))

load_askable : (values : Values) (a : AskedOf) → load_of values ≡ Some a → IsAskable a
load_askable values a is =
    option_and_then_some _ (values (codes "COUNT")) a is (λ count _ e.
    option_and_then_some _ (values (codes "SEED")) a e (λ seed _ e.
    option_and_then_some _ (number_within 1 most_transactions count) a e (λ transactions counted e.
    option_and_then_some _ (number_within 0 greatest_seed seed) a e (λ first seeded e.
    option_and_then_some _ (workers_of values) a e (λ workers few e.
    let c = number_bounds 1 most_transactions count transactions counted in
    let s = number_bounds 0 greatest_seed seed first seeded in
    subst IsAskable (same_Some _ a e) (record
    { least = c.0; most = c.1; within = s.1; are_few = workers_few values workers few }))))))

behind_askable : (command : Text) (words : List Text) (a : AskedOf) → asked_behind command words ≡ Some a → IsAskable a
behind_askable command words a is = by (bytes_eq command (codes "check")) (bytes_eq command (codes "run"))
    (bytes_eq command (codes "load")) is
  where
    by : (check run load : Bool)
        → cond check (option_and_then check_of (values_of check_form words))
        (cond run (option_and_then run_of (values_of run_form words))
        (cond load (option_and_then load_of (values_of load_form words)) None)) ≡ Some a → IsAskable a
    by true run load e = option_and_then_some check_of (values_of check_form words) a e
        (λ values has e. check_askable values a (values_named check_form words values has) e)
    by false true load e = option_and_then_some run_of (values_of run_form words) a e
        (λ values has e. run_askable values a (values_named run_form words values has) e)
    by false false true e = option_and_then_some load_of (values_of load_form words) a e
        (λ values _ e. load_askable values a e)
    by false false false e = absurd (none-some a e)

pub words_ask_within_limits : (words : List Text) (a : AskedOf) → asked words ≡ Some a → IsAskable a
words_ask_within_limits [] a is = absurd (none-some a is)
words_ask_within_limits (command ∷ words) a is = behind_askable command words a is
