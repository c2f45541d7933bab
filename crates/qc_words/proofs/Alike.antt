-- Readings that give the same values, though their parts stand in another order, stay so over words.
use Rattle.std.proofs.Common.{◌≡◌, ◌∙◌, ◌+◌, ◌&&◌, ◌||◌, Bool, true, false, cond, List, [], ◌∷◌, ◌++◌, Option, Some}
use Rattle.std.proofs.Common.{None, not, refl, ap, sym, subst, true≢false}
use Rattle.std.specs.List.{find, list_all}
use Rattle.std.specs.Prelude.{is_some, option_and_then, option_map, slice_get}
use Rattle.std.specs.Str.{bytes_eq}
use Rattle.qc_words.specs.Vocabulary.{Form, Part, Reading, Text, ended, is_among, is_given, is_value, option_of}
use Rattle.qc_words.specs.Vocabulary.{option_or_place, placed, value_of, values_in, waits_for_none, with_named}
use Rattle.qc_words.specs.Vocabulary.{with_next, with_part, with_word, with_words}
use Rattle.qc_words.proofs.Said.{then}
use Rattle.qc_words.proofs.Steps.{part}

-- ---- values of parts

given_by_value : (name : Text) (parts : List Part) → is_given name parts ≡ is_some (value_of name parts)
given_by_value name [] = refl
given_by_value name (p ∷ parts) = by (bytes_eq p.name name) (given_by_value name parts)
  where
    by : (t : Bool) → is_given name parts ≡ is_some (value_of name parts)
        → (t || is_given name parts) ≡ is_some (option_map (λ (p : Part). p.value)
        (cond t (Some p) (find (λ p. bytes_eq p.name name) parts)))
    by true rest = refl
    by false rest = rest

abbrev pub or_else : Option Text → Option Text → Option Text
or_else None other = other
or_else (Some text) other = Some text

-- a part's value, where it has the name
abbrev pub if_named : Bool → Text → Option Text
if_named t text = cond t (Some text) None

pub value_more : (n name text : Text) (parts : List Part)
    → value_of n (parts ++ part name text ∷ []) ≡ or_else (value_of n parts) (if_named (bytes_eq name n) text)
value_more n name text [] = by (bytes_eq name n)
  where
    by : (t : Bool) → option_map (λ (p : Part). p.value) (cond t (Some (part name text)) None) ≡ if_named t text
    by true = refl
    by false = refl
value_more n name text (p ∷ parts) = by (bytes_eq p.name n) (value_more n name text parts)
  where
    by : (t : Bool) → value_of n (parts ++ part name text ∷ []) ≡ or_else (value_of n parts)
        (if_named (bytes_eq name n) text)
        → option_map (λ (p : Part). p.value) (cond t (Some p)
        (find (λ p. bytes_eq p.name n) (parts ++ part name text ∷ [])))
        ≡ or_else (option_map (λ (p : Part). p.value) (cond t (Some p) (find (λ p. bytes_eq p.name n) parts)))
        (if_named (bytes_eq name n) text)
    by true rest = refl
    by false rest = rest

pub given_more : (n name text : Text) (parts : List Part)
    → is_given n (parts ++ part name text ∷ []) ≡ (is_given n parts || bytes_eq name n)
given_more n name text [] = by (bytes_eq name n)
  where
    by : (t : Bool) → (t || false) ≡ t
    by true = refl
    by false = refl
given_more n name text (p ∷ parts) = by (bytes_eq p.name n) (given_more n name text parts)
  where
    by : (t : Bool) → is_given n (parts ++ part name text ∷ []) ≡ (is_given n parts || bytes_eq name n)
        → (t || is_given n (parts ++ part name text ∷ [])) ≡ ((t || is_given n parts) || bytes_eq name n)
    by true rest = refl
    by false rest = rest

-- ---- readings that give the same

pub record Alike (a b : Reading) : Type 0 where
  pub values : (name : Text) → value_of name a.parts ≡ value_of name b.parts
  pub taken : a.taken ≡ b.taken
  pub waits : a.waits ≡ b.waits

abbrev pub AreAlike : Option Reading → Option Reading → Type 0
AreAlike None None = Unit {0}
AreAlike None (Some b) = ⊥
AreAlike (Some a) None = ⊥
AreAlike (Some a) (Some b) = Alike a b

module _ (form : Form) where
  same_given : (name : Text) (a b : List Part) → ((name : Text) → value_of name a ≡ value_of name b)
      → is_given name a ≡ is_given name b
  same_given name a b same = given_by_value name a ∙ ap is_some (same name) ∙ sym (given_by_value name b)

  alike_part : (name text : Text) (a b : Reading) → Alike a b → AreAlike (with_part name text a) (with_part name text b)
  alike_part name text a b alike = by (is_value text) (is_given name a.parts) (is_given name b.parts)
      (same_given name a.parts b.parts alike.values)
    where
      after : Alike (record a { parts = a.parts ++ part name text ∷ []; waits = None })
          (record b { parts = b.parts ++ part name text ∷ []; waits = None })
      after = record {
        values = λ n. value_more n name text a.parts
            ∙ ap (λ o. or_else o (if_named (bytes_eq name n) text)) (alike.values n)
            ∙ sym (value_more n name text b.parts);
        taken = alike.taken;
        waits = refl;
      }

      by : (t u v : Bool) → u ≡ v
          → AreAlike (cond (t && not u) (Some (record a { parts = a.parts ++ part name text ∷ []; waits = None })) None)
          (cond (t && not v) (Some (record b { parts = b.parts ++ part name text ∷ []; waits = None })) None)
      by false u v same = tt
      by true true true same = tt
      by true true false same = absurd (true≢false same)
      by true false true same = absurd (true≢false (sym same))
      by true false false same = after

  alike_named : (name : Text) (joined : Option Text) (a b : Reading) → Alike a b
      → AreAlike (with_named name joined a) (with_named name joined b)
  alike_named name (Some text) a b alike = alike_part name text a b alike
  alike_named name None a b alike = by (is_given name a.parts) (is_given name b.parts)
      (same_given name a.parts b.parts alike.values)
    where
      by : (u v : Bool) → u ≡ v → AreAlike (cond u None (Some (record a { waits = Some name })))
          (cond v None (Some (record b { waits = Some name })))
      by true true same = tt
      by true false same = absurd (true≢false same)
      by false true same = absurd (true≢false (sym same))
      by false false same = record { values = alike.values; taken = alike.taken; waits = refl }

  alike_next : (waits : Option Text) (word : Text) (a b : Reading) → Alike a b
      → AreAlike (with_next form waits word a) (with_next form waits word b)
  alike_next (Some name) word a b alike = alike_part name word a b alike
  alike_next None word a b alike = by (option_of word)
    where
      place : (o : Option Text) → AreAlike (placed o word a) (placed o word b)
      place None = tt
      place (Some name) = alike_part name word (record a { taken = a.taken + 1 }) (record b { taken = b.taken + 1 })
          (record { values = alike.values; taken = ap (λ k. k + 1) alike.taken; waits = alike.waits })

      by : (o : Option (Text × Option Text)) → AreAlike (option_or_place form o word a) (option_or_place form o word b)
      by None =
          subst (λ k. AreAlike (placed (slice_get form.places a.taken) word a)
          (placed (slice_get form.places k) word b)) alike.taken (place (slice_get form.places a.taken))
      by (Some named) = go (is_among form.options named.0)
        where
          go : (t : Bool) → AreAlike (cond t (with_named named.0 named.1 a) None)
              (cond t (with_named named.0 named.1 b) None)
          go true = alike_named named.0 named.1 a b alike
          go false = tt

  alike_word : (word : Text) (a b : Reading) → Alike a b → AreAlike (with_word form a word) (with_word form b word)
  alike_word word a b alike =
      subst (λ w. AreAlike (with_next form a.waits word a) (with_next form w word b)) alike.waits
      (alike_next a.waits word a b alike)

  alike_words : (words : List Text) (a b : Reading) → Alike a b
      → AreAlike (with_words form a words) (with_words form b words)
  alike_words [] a b alike = alike
  alike_words (word ∷ words) a b alike = by (with_word form a word) (with_word form b word) (alike_word word a b alike)
      (alike_words words)
    where
      by : (x y : Option Reading) → AreAlike x y
          → ((a b : Reading) → Alike a b → AreAlike (with_words form a words) (with_words form b words))
          → AreAlike (then form words x) (then form words y)
      by None None alike rest = tt
      by None (Some b) alike rest = absurd alike
      by (Some a) None alike rest = absurd alike
      by (Some a) (Some b) alike rest = rest a b alike

  pub alike_then : (words : List Text) (x y : Option Reading) → AreAlike x y
      → AreAlike (then form words x) (then form words y)
  alike_then words None None alike = tt
  alike_then words None (Some b) alike = absurd alike
  alike_then words (Some a) None alike = absurd alike
  alike_then words (Some a) (Some b) alike = alike_words words a b alike

  pub alike_values : (x y : Option Reading) → AreAlike x y
      → option_map values_in (option_and_then (ended form) x) ≡ option_map values_in (option_and_then (ended form) y)
  alike_values None None alike = refl
  alike_values None (Some b) alike = absurd alike
  alike_values (Some a) None alike = absurd alike
  alike_values (Some a) (Some b) alike =
      by (waits_for_none a.waits && list_all (λ name. is_given name a.parts) form.places) a.parts
      ∙ (λ i. cond (waits_for_none (alike.waits i)
      && list_all (λ name. same_given name a.parts b.parts alike.values i) form.places)
      (Some (λ (name : Text). alike.values name i)) None)
      ∙ sym (by (waits_for_none b.waits && list_all (λ name. is_given name b.parts) form.places) b.parts)
    where
      by : (t : Bool) (parts : List Part) → option_map values_in (cond t (Some parts) None) ≡ cond t
          (Some (values_in parts)) None
      by true parts = refl
      by false parts = refl
