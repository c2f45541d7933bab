-- A joined option changes places with the word behind it, and the same is asked: the parts stand in another order, and
-- give the same values.
use Rattle.std.proofs.Common.{◌≡◌, ◌∙◌, ℕ, ◌+◌, ◌&&◌, ◌||◌, Bool, true, false, cond, List, [], ◌∷◌, ◌++◌, Option, Some}
use Rattle.std.proofs.Common.{None, not, refl, ap, ap₂, sym, subst, true≢false}
use Rattle.std.specs.List.{list_all}
use Rattle.std.specs.Option.{option_map_or}
use Rattle.std.specs.Prelude.{is_some, option_and_then, slice_get}
use Rattle.std.specs.Str.{bytes_eq}
use Rattle.std.proofs.lemmas.Option.{cond_some, none-some}
use Rattle.std.proofs.lemmas.Slice.Eq.{bytes_eq-Decides}
use Rattle.clap.proofs.WalkLemmas.{both}
use Rattle.qc_words.specs.Vocabulary.{Form, Part, Reading, Text, asked, is_among, is_given, is_joined, is_value}
use Rattle.qc_words.specs.Vocabulary.{is_whole, nothing_read, option_of, option_or_place, placed, value_of, waiting_for}
use Rattle.qc_words.specs.Vocabulary.{with_named, with_part, with_word, with_words}
use Rattle.qc_words.proofs.Clapped.{option_is_long, values_are_plain}
use Rattle.qc_words.proofs.Said.{behind_same, then}
use Rattle.qc_words.proofs.Steps.{part, reading}
use Rattle.qc_words.proofs.Alike.{Alike, AreAlike, alike_then, alike_values, given_more, if_named, or_else, value_more}
use Rattle.qc_list.proofs.Booleans.{or_second}

-- ---- what a word adds

-- the name, the value, and how many places are taken then
abbrev Added : Type 0
Added = Text × Text × ℕ

added_by : Option Text → Text → ℕ → Option Added
added_by None word taken = None
added_by (Some name) word taken = Some (name, word, taken + 1)

added_named : Bool → Text → Option Text → ℕ → Option Added
added_named among name None taken = None
added_named among name (Some text) taken = cond among (Some (name, text, taken)) None

abbrev added_as : Form → Option (Text × Option Text) → Text → ℕ → Option Added
added_as form None word taken = added_by (slice_get form.places taken) word taken
added_as form (Some named) word taken = added_named (is_among form.options named.0) named.0 named.1 taken

abbrev added : Form → Text → ℕ → Option Added
added form word taken = added_as form (option_of word) word taken

abbrev with_added : Option Added → List Part → Option Reading
with_added None parts = None
with_added (Some a) parts = with_part a.0 a.1 (reading parts a.2 None)

no_value : (word : Text) (named : Text × Option Text) → is_value word ≡ true → option_of word ≡ Some named → ⊥
no_value word named fits is = none-some named (sym (option_is_long word ∙ (values_are_plain word fits).long) ∙ is)

module _ (form : Form) where
  adds_whole : (word : Text) (parts : List Part) (taken : ℕ) → is_whole word ≡ true
      → with_word form (reading parts taken None) word ≡ with_added (added form word taken) parts
  unfolding added_by added_named
  adds_whole word parts taken whole = by (option_of word) refl
    where
      place : (o : Option Text) → placed o word (reading parts taken None) ≡ with_added (added_by o word taken) parts
      place None = refl
      place (Some name) = refl

      named : (name : Text) (joined : Option Text) → option_of word ≡ Some (name, joined) → (t : Bool)
          → cond t (with_named name joined (reading parts taken None)) None ≡ with_added
          (added_named t name joined taken) parts
      named name (Some text) is true = refl
      named name (Some text) is false = refl
      named name None is t = go (is_value word) refl whole
        where
          go : (u : Bool) → is_value word ≡ u → (u || is_joined word) ≡ true
              → cond t (waiting_for name (reading parts taken None)) None ≡ None
          go true fits e = absurd (no_value word (name, None) fits is)
          go false fits e = absurd (true≢false (sym e ∙ ap (λ o. option_map_or (λ named. is_some named.1) o false) is))

      by : (o : Option (Text × Option Text)) → option_of word ≡ o
          → option_or_place form o word (reading parts taken None) ≡ with_added (added_as form o word taken) parts
      by None is = place (slice_get form.places taken)
      by (Some n) is = named n.0 n.1 is (is_among form.options n.0)

  -- the word behind what is added
  abbrev behind : Text → Option Added → List Part → Option Reading
  behind word a parts = option_and_then (λ m. with_word form m word) (with_added a parts)

  abbrev can_add : Added → List Part → Bool
  can_add a parts = is_value a.1 && not (is_given a.0 parts)

  abbrev more : List Part → Added → List Part
  more parts a = parts ++ part a.0 a.1 ∷ []

  behind_is : (word : Text) (a : Added) (parts : List Part) → is_whole word ≡ true
      → behind word (Some a) parts ≡ cond (can_add a parts) (with_added (added form word a.2) (more parts a)) None
  behind_is word a parts whole = by (can_add a parts)
    where
      by : (t : Bool) → option_and_then (λ m. with_word form m word)
          (cond t (Some (reading (more parts a) a.2 None)) None)
          ≡ cond t (with_added (added form word a.2) (more parts a)) None
      by true = adds_whole word (more parts a) a.2 whole
      by false = refl

  or_swap : (o : Option Text) (s t : Bool) (x y : Text) → (s ≡ true → t ≡ true → ⊥)
      → or_else (or_else o (if_named s x)) (if_named t y) ≡ or_else (or_else o (if_named t y)) (if_named s x)
  or_swap (Some z) s t x y apart = refl
  or_swap None true true x y apart = absurd (apart refl refl)
  or_swap None true false x y apart = refl
  or_swap None false true x y apart = refl
  or_swap None false false x y apart = refl

  bytes_eq_swap : (a b : Text) → bytes_eq a b ≡ bytes_eq b a
  bytes_eq_swap a b = by (bytes_eq a b) (bytes_eq b a) refl refl
    where
      by : (t u : Bool) → bytes_eq a b ≡ t → bytes_eq b a ≡ u → t ≡ u
      by true true is and = refl
      by false false is and = refl
      by true false is and = let e = (bytes_eq-Decides a b).0 is in
          absurd (true≢false (sym is ∙ ap₂ bytes_eq e (sym e) ∙ and))
      by false true is and = let e = (bytes_eq-Decides b a).0 and in
          absurd (true≢false (sym and ∙ ap₂ bytes_eq e (sym e) ∙ is))

  -- two parts in either order give the same
  two_alike : (a b : Added) (parts : List Part) (k : ℕ) → bytes_eq a.0 b.0 ≡ false
      → Alike (reading (more (more parts a) b) k None) (reading (more (more parts b) a) k None)
  two_alike a b parts k apart = record {
    values = λ n.
        value_more n b.0 b.1 (more parts a) ∙ ap (λ o. or_else o (if_named (bytes_eq b.0 n) b.1))
        (value_more n a.0 a.1 parts)
        ∙ or_swap (value_of n parts) (bytes_eq a.0 n) (bytes_eq b.0 n) a.1 b.1
        (λ is and. true≢false (sym is ∙ ap (bytes_eq a.0) (sym ((bytes_eq-Decides b.0 n).0 and)) ∙ apart))
        ∙ sym (value_more n a.0 a.1 (more parts b)
        ∙ ap (λ o. or_else o (if_named (bytes_eq a.0 n) a.1)) (value_more n b.0 b.1 parts));
    taken = refl;
    waits = refl;
  }

  both_added : (a b : Added) (parts : List Part) (k : ℕ)
      → AreAlike (cond (can_add a parts) (with_part b.0 b.1 (reading (more parts a) k None)) None)
      (cond (can_add b parts) (with_part a.0 a.1 (reading (more parts b) k None)) None)
  both_added a b parts k =
      rw (given_more b.0 a.0 a.1 parts, given_more a.0 b.0 b.1 parts, bytes_eq_swap b.0 a.0)
      (by (is_value a.1) (is_value b.1) (is_given a.0 parts) (is_given b.0 parts) (bytes_eq a.0 b.0)
      (two_alike a b parts k))
    where
      by : (va vb ga gb same : Bool) → (same ≡ false
          → Alike (reading (more (more parts a) b) k None) (reading (more (more parts b) a) k None))
          → AreAlike (cond (va && not ga) (cond (vb && not (gb || same))
          (Some (reading (more (more parts a) b) k None)) None) None)
          (cond (vb && not gb) (cond (va && not (ga || same)) (Some (reading (more (more parts b) a) k None)) None)
          None)
      by true true false false false alike = alike refl
      by true true false false true alike = tt
      by true true false true same alike = tt
      by true true true true same alike = tt
      by true true true false same alike = tt
      by true false true gb same alike = tt
      by true false false gb same alike = tt
      by false true ga true same alike = tt
      by false true ga false same alike = tt
      by false false ga gb same alike = tt

  -- what a joined option adds takes no place
  record IsJoinedAs (word : Text) : Type 0 where
    pub among : Bool
    pub name : Text
    pub text : Text
    pub is : (k : ℕ) → added form word k ≡ cond among (Some (name, text, k)) None

  joined_as : (word : Text) → is_joined word ≡ true → IsJoinedAs word
  unfolding added_named
  joined_as word joined = by (option_of word) refl joined
    where
      by : (o : Option (Text × Option Text)) → option_of word ≡ o
          → option_map_or (λ named. is_some named.1) o false ≡ true → IsJoinedAs word
      by None is e = absurd (true≢false (sym e))
      by (Some n) is e = go n.1 refl e
        where
          go : (text : Option Text) → n.1 ≡ text → is_some text ≡ true → IsJoinedAs word
          go None at e = absurd (true≢false (sym e))
          go (Some text) at e = record {
            among = is_among form.options n.0;
            name = n.0;
            text = text;
            is = λ k. ap (λ o. added_as form o word k) is
                ∙ ap (λ t. added_named (is_among form.options n.0) n.0 t k) at;
          }

  none_same : (t : Bool) → ◌≡◌ {A = Option Reading} (cond t None None) None
  none_same true = refl
  none_same false = refl

  swapped : (option word : Text) (parts : List Part) (taken : ℕ) → is_joined option ≡ true → is_whole option ≡ true
      → is_whole word ≡ true
      → AreAlike (behind word (added form option taken) parts) (behind option (added form word taken) parts)
  swapped option word parts taken joined first whole =
      let j = joined_as option joined in
      subst (λ o. AreAlike (behind word o parts) (behind option (added form word taken) parts)) (sym (j.is taken))
      (by j.among j.name j.text j.is (added form word taken) refl)
    where
      by : (among : Bool) (name text : Text) → ((k : ℕ) → added form option k ≡ cond among (Some (name, text, k)) None)
          → (b : Option Added) → added form word taken ≡ b
          → AreAlike (behind word (cond among (Some (name, text, taken)) None) parts) (behind option b parts)
      by false name text is None e = tt
      by false name text is (Some b) e =
          subst (AreAlike None) (sym (behind_is option b parts first
          ∙ ap (λ a. cond (can_add b parts) (with_added a (more parts b)) None) (is b.2)
          ∙ none_same (can_add b parts))) tt
      by true name text is None e =
          let a : Added = (name, text, taken) in
          subst (λ o. AreAlike o None) (sym (behind_is word a parts whole
          ∙ ap (λ b. cond (can_add a parts) (with_added b (more parts a)) None) e ∙ none_same (can_add a parts))) tt
      by true name text is (Some b) e =
          let a : Added = (name, text, taken) in
          subst (λ o. AreAlike o (behind option (Some b) parts))
          (sym (behind_is word a parts whole ∙ ap (λ c. cond (can_add a parts) (with_added c (more parts a)) None)
          e))
          (subst (AreAlike (cond (can_add a parts) (with_added (Some b) (more parts a)) None))
          (sym (behind_is option b parts first ∙ ap (λ c. cond (can_add b parts) (with_added c (more parts b)) None)
          (is b.2)))
          (both_added a b parts b.2))

  no_wait : (a : Option Added) (parts : List Part) (end : Reading) → with_added a parts ≡ Some end → end.waits ≡ None
  no_wait None parts end e = absurd (none-some end e)
  no_wait (Some a) parts end e = subst (λ (r : Reading). r.waits ≡ None)
      (cond_some (can_add a parts) (reading (more parts a) a.2 None) end e).1 refl

  then_then : (word : Text) (words : List Text) (o : Option Reading)
      → then form (word ∷ words) o ≡ then form words (option_and_then (λ m. with_word form m word) o)
  then_then word words None = refl
  then_then word words (Some m) = refl

  moves : (before after : List Text) (option word : Text) → list_all is_whole before ≡ true → is_joined option ≡ true
      → is_whole option ≡ true → is_whole word ≡ true
      → (parts : List Part) (taken : ℕ)
      → AreAlike (with_words form (reading parts taken None) (before ++ (option ∷ word ∷ after)))
      (with_words form (reading parts taken None) (before ++ (word ∷ option ∷ after)))
  moves [] after option word all joined first whole parts taken =
      subst (λ o. AreAlike o (then form (option ∷ after) (with_word form (reading parts taken None) word)))
      (sym (ap (then form (word ∷ after)) (adds_whole option parts taken first)
      ∙ then_then word after (with_added (added form option taken) parts)))
      (subst (AreAlike (then form after (behind word (added form option taken) parts)))
      (sym (ap (then form (option ∷ after)) (adds_whole word parts taken whole)
      ∙ then_then option after (with_added (added form word taken) parts)))
      (alike_then form after _ _ (swapped option word parts taken joined first whole)))
  moves (w ∷ before) after option word all joined first whole parts taken =
      let b = both (is_whole w) _ all in
      by (with_word form (reading parts taken None) w) (sym (adds_whole w parts taken b.0))
      (moves before after option word b.1 joined first whole)
    where
      by : (o : Option Reading) → with_added (added form w taken) parts ≡ o
          → ((parts : List Part) (taken : ℕ) → AreAlike
          (with_words form (reading parts taken None) (before ++ (option ∷ word ∷ after)))
          (with_words form (reading parts taken None) (before ++ (word ∷ option ∷ after))))
          → AreAlike (then form (before ++ (option ∷ word ∷ after)) o) (then form (before ++ (word ∷ option ∷ after)) o)
      by None is rest = tt
      by (Some m) is rest =
          subst (λ waits. AreAlike (with_words form (reading m.parts m.taken waits) (before ++ (option ∷ word ∷ after)))
          (with_words form (reading m.parts m.taken waits) (before ++ (word ∷ option ∷ after))))
          (sym (no_wait (added form w taken) parts m is)) (rest m.parts m.taken)

pub options_stand_anywhere : (option word : Text) → is_joined option ≡ true → is_whole word ≡ true
    → (command : Text) (before after : List Text) → list_all is_whole before ≡ true
    → asked (command ∷ (before ++ (option ∷ word ∷ after))) ≡ asked (command ∷ (before ++ (word ∷ option ∷ after)))
options_stand_anywhere option word joined whole command before after all =
    behind_same command (before ++ (option ∷ word ∷ after)) (before ++ (word ∷ option ∷ after))
    (λ form. alike_values form (with_words form nothing_read (before ++ (option ∷ word ∷ after)))
    (with_words form nothing_read (before ++ (word ∷ option ∷ after)))
    (moves form before after option word all joined (or_second (is_value option) (is_joined option) joined) whole [] 0))
