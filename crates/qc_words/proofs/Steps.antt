-- One word: what the test reads of it and what `clap`'s walk does with it stay in step.
use Rattle.std.proofs.Common.{◌≡◌, ◌∙◌, ℕ, ◌+◌, ◌<◌, ◌&&◌, not, Bool, true, false, cond, List, [], ◌∷◌, ◌++◌, Option}
use Rattle.std.proofs.Common.{Some, None, refl, ap, ap₂, sym, subst, arith, length, map}
use Rattle.std.specs.Prelude.{slice_get}
use Rattle.std.specs.Str.{bytes_eq}
use Rattle.std.proofs.lemmas.Bool.{and_from, and_right}
use Rattle.std.proofs.lemmas.List.{map-append}
use Rattle.std.proofs.lemmas.Option.{cond_some, none-some, same_Some, slice_get_within}
use Rattle.std.proofs.lemmas.Slice.Eq.{bytes_eq-Decides}
use Rattle.clap.proofs.WalkLemmas.{both}
use Rattle.clap.specs.Lexer.{long_of}
use Rattle.clap.specs.Simple.{Shape}
use Rattle.clap.specs.Takes.{settle_passes, step_passes, turn_passes, use_passes, word_passes}
use Rattle.clap.specs.Walk.{Held, Rule, Step, Waiting, Walk, after_step, arg_by_id, Row, has_row, idle, next}
use Rattle.clap.specs.Walk.{next_position, option, positional, positional_held, pushed, reacted, settled, settled_rows}
use Rattle.clap.specs.Walk.{takes_several, to_positional, used, value, walked, word_met}
use Rattle.qc_words.specs.Vocabulary.{Form, Part, Reading, Text, is_among, is_given, is_value, option_of}
use Rattle.qc_words.specs.Vocabulary.{option_or_place, placed, with_named, with_next, with_part, with_word}
use Rattle.qc_words.proofs.Clapped.{IsPlain, option_is_long, joined_met, option_met, place_met, value_met}
use Rattle.qc_words.proofs.Clapped.{values_are_plain}
use Rattle.qc_words.proofs.Fits.{Reads}
use Rattle.qc_words.proofs.Rows.{IsOne, no_row_of, one_not_multiple, one_not_several, one_takes, one_value, row}
use Rattle.qc_words.proofs.Rows.{used_once}
use Rattle.qc_list.proofs.Booleans.{or_second}

abbrev pub part : Text → Text → Part
part name text = record { name = name; value = text }

abbrev pub reading : List Part → ℕ → Option Text → Reading
reading parts taken waits = record { parts = parts; taken = taken; waits = waits }

-- what waits of the walk
abbrev pub waiting_in : Option Text → Waiting
waiting_in None = idle
waiting_in (Some name) = option name

-- where the walk stands, by the reading and what is held
abbrev pub stands : Reading → Held → Walk
stands r h = record {
  held = h;
  waiting = waiting_in r.waits;
  position = r.taken + 1;
  is_trailing = false;
  stopped = None;
}

not_true : (b : Bool) → not b ≡ true → b ≡ false
not_true true e = sym e
not_true false e = refl

-- a use of an argument that wasn't used passes
pub use_passes_once : (a : Rule) (name text : Text) (rows : List Row) → IsOne a name → has_row name rows ≡ false
    → use_passes false a (text ∷ []) rows ≡ true
use_passes_once a name text rows one none = rw (one.range, one.action) (rw (one.id, none, one.parser) refl)

-- the rows and the test where an argument is pending with its value
pub pending_settles : (c : List Rule) (a : Rule) (name text : Text) (parts : List Part) (h : Held)
    → arg_by_id c name ≡ Some a → IsOne a name
    → h.pending ≡ Some (name, text ∷ []) → h.rows ≡ map row parts → is_given name parts ≡ false
    → (settled_rows c h.pending h.rows ≡ map row (parts ++ part name text ∷ [])) × (settle_passes c false h ≡ true)
pending_settles c a name text parts h found one waits rows none =
    let no_row = no_row_of name parts none in (
      rw (waits, found, rows) (used_once a name text (map row parts) one no_row
          ∙ sym (map-append row parts (part name text ∷ []))),
      rw (waits, found, rows) (use_passes_once a name text (map row parts) one no_row),
    )

-- a part more is a value, and wasn't given
record Adds (name text : Text) (r end : Reading) : Type 0 where
  pub fits : is_value text ≡ true
  pub new : is_given name r.parts ≡ false
  pub is : ◌≡◌ {A = Reading} (record r { parts = r.parts ++ part name text ∷ []; waits = None }) end

adds : (name text : Text) (r end : Reading) → with_part name text r ≡ Some end → Adds name text r end
adds name text r end e =
    let t = cond_some (is_value text && not (is_given name r.parts)) _ end e in
    let b = both (is_value text) (not (is_given name r.parts)) t.0 in
    record { fits = b.0; new = not_true _ b.1; is = t.1 }

-- `--NAME` isn't `--`
option_is_no_end : (word : Text) (p : Text × Option Text) → long_of word ≡ Some p → bytes_eq word (45 ∷ 45 ∷ []) ≡ false
option_is_no_end word p long = by (bytes_eq word (45 ∷ 45 ∷ [])) refl
  where
    by : (t : Bool) → bytes_eq word (45 ∷ 45 ∷ []) ≡ t → t ≡ false
    by true is = absurd (none-some p (sym (ap long_of ((bytes_eq-Decides word (45 ∷ 45 ∷ [])).0 is)) ∙ long))
    by false is = refl

walked_as : (c : List Rule) (r : Reading) (h : Held) (word : Text) (met : Held × Step)
    → word_met c [] false (waiting_in r.waits) (r.taken + 1) word h ≡ met
    → walked c [] (stands r h) word ≡ after_step c word (stands r h) met.0 met.1
unfolding walked
walked_as c r h word met is = ap (λ (m : Held × Step). after_step c word (stands r h) m.0 m.1) is

module _ (form : Form) (s : Shape) (reads : Reads form s.rules) (once : s.args_override_self ≡ false) where
  -- what is held where this option waits, or none
  abbrev pub Holds : List Part → Option Text → Held → Type 0
  Holds parts None h = (settled_rows s.rules h.pending h.rows ≡ map row parts) × (settle_passes s.rules false h ≡ true)
  Holds parts (Some name) h = (h.pending ≡ Some (name, [])) × (h.rows ≡ map row parts)
      × (is_among form.options name ≡ true) × (is_given name parts ≡ false)

  -- the walk over one word, where the reading comes to `end`
  pub record Steps (r : Reading) (h : Held) (word : Text) (end : Reading) : Type 0 where
    pub held : Held
    pub is : walked s.rules [] (stands r h) word ≡ stands end held
    pub holds : Holds end.parts end.waits held
    pub passes : turn_passes s [] (stands r h) word ≡ true

  turn : (r : Reading) (h : Held) (word : Text) (met : Held × Step)
      → word_met s.rules [] false (waiting_in r.waits) (r.taken + 1) word h ≡ met
      → word_passes s [] false (waiting_in r.waits) word h ≡ true → step_passes s (r.taken + 1) met.0 met.1 ≡ true
      → turn_passes s [] (stands r h) word ≡ true
  turn r h word met is passes step =
      and_from _ _ passes (ap (λ (m : Held × Step). step_passes s (r.taken + 1) m.0 m.1) is ∙ step)

  plain_passes : (waits : Option Text) (word : Text) (h : Held) → IsPlain word
      → word_passes s [] false (waiting_in waits) word h ≡ true
  plain_passes None word h p = rw (p.dashes, p.long, p.short) refl
  plain_passes (Some name) word h p = rw (p.dashes, p.long, p.short) refl

  -- the value of the option that waits
  step_value : (parts : List Part) (taken : ℕ) (name word : Text) (h : Held) → Holds parts (Some name) h
      → is_value word ≡ true
      → Steps (reading parts taken (Some name)) h word (reading (parts ++ part name word ∷ []) taken None)
  step_value parts taken name word h holds fits =
      let r = reading parts taken (Some name) in
      let o = reads.named name holds.2 in
      let plain = values_are_plain word fits in
      let met = value_met s.rules (taken + 1) o.rule name word h plain o.by_id (one_value o.rule name o.one)
      (sym o.one.id) holds.0 in
      record {
        held = pushed name word h;
        is = walked_as s.rules r h word (pushed name word h, next idle) met;
        holds = pending_settles s.rules o.rule name word parts (pushed name word h) o.by_id o.one
            (rw holds.0 refl) holds.1 holds.3;
        passes = turn r h word (pushed name word h, next idle) met (plain_passes (Some name) word h plain) refl;
      }

  -- `--NAME=VALUE`
  step_joined : (parts : List Part) (taken : ℕ) (name text word : Text) (h : Held) → Holds parts None h
      → option_of word ≡ Some (name, Some text)
      → is_among form.options name ≡ true → is_value text ≡ true → is_given name parts ≡ false
      → Steps (reading parts taken None) h word (reading (parts ++ part name text ∷ []) taken None)
  step_joined parts taken name text word h holds said named fits none =
      let r = reading parts taken None in
      let o = reads.named name named in
      let long = sym (option_is_long word) ∙ said in
      let other = option_is_no_end word (name, Some text) long in
      let no_row = no_row_of name parts none in
      let takes = one_takes o.rule name o.one in
      let met = joined_met s.rules (taken + 1) o.rule word name text h other long o.found takes in
      let after = reacted s.rules o.rule (text ∷ []) h in
      record {
        held = after;
        is = walked_as s.rules r h word (after, next idle) met;
        holds = (
          ap (used o.rule (text ∷ [])) holds.0 ∙ used_once o.rule name text (map row parts) o.one no_row
              ∙ sym (map-append row parts (part name text ∷ [])),
          refl,
        );
        passes = turn r h word (after, next idle) met
            (rw (other, long, o.found, takes, once) (and_from _ _ holds.1
            (rw holds.0 (use_passes_once o.rule name text (map row parts) o.one no_row)))) refl;
      }

  -- `--NAME`, whose value is to come
  step_option : (parts : List Part) (taken : ℕ) (name word : Text) (h : Held) → Holds parts None h
      → option_of word ≡ Some (name, None)
      → is_among form.options name ≡ true → is_given name parts ≡ false
      → Steps (reading parts taken None) h word (reading parts taken (Some name))
  step_option parts taken name word h holds said named none =
      let r = reading parts taken None in
      let o = reads.named name named in
      let long = sym (option_is_long word) ∙ said in
      let other = option_is_no_end word (name, None) long in
      let takes = one_takes o.rule name o.one in
      let after : Held = record (settled s.rules h) { pending = Some (name, []) } in
      let waits : ◌≡◌ {A = Held × Step} (
        record (settled s.rules h) { pending = Some (o.rule.id, []) },
        next (option o.rule.id),
      ) (after, next (option name)) =
      ap (λ (id : Text). (record (settled s.rules h) { pending = Some (id, []) }, next (option id))) o.one.id in
      let met = option_met s.rules (taken + 1) o.rule word name h other long o.found takes ∙ waits in
      record {
        held = after;
        is = walked_as s.rules r h word (after, next (option name)) met;
        holds = (refl, holds.0, named, none);
        passes = turn r h word (after, next (option name)) met (rw (other, long, o.found, takes, once) holds.1) refl;
      }

  -- the value of the next place
  step_place : (parts : List Part) (taken : ℕ) (name word : Text) (h : Held) → Holds parts None h
      → slice_get form.places taken ≡ Some name
      → is_value word ≡ true → is_given name parts ≡ false
      → Steps (reading parts taken None) h word (reading (parts ++ part name word ∷ []) (taken + 1) None)
  step_place parts taken name word h holds at fits none =
      let r = reading parts taken None in
      let o = reads.place taken name at in
      let plain = values_are_plain word fits in
      let met = place_met s.rules (taken + 1) word h plain in
      let several = one_not_several o.rule name o.one in
      let multiple = one_not_multiple o.rule name o.one in
      let after = pushed name word (settled s.rules h) in
      let held : positional_held s.rules o.rule word h ≡ after =
      ap₂ (λ (id : Text) (b : Bool). pushed id word (cond b h (settled s.rules h))) o.one.id
      (and_right _ (takes_several o.rule) several) in
      let within : taken < length form.places = slice_get_within form.places taken name at in
      let few = reads.few in
      let follows : next_position o.rule (taken + 1) ≡ (taken + 1) + 1 = rw multiple (omega arith) in
      let walk : ◌≡◌ {A = Walk} (to_positional s.rules (Some o.rule) word (stands r h) h)
      (stands (reading parts (taken + 1) None) after) =
      λ i. record {
        held = held i;
        waiting = cond (multiple i) positional idle;
        position = follows i;
        is_trailing = o.one.trailing i;
        stopped = None;
      } in
      record {
        held = after;
        is = walked_as s.rules r h word (h, value) met ∙ ap (λ a. to_positional s.rules a word (stands r h) h) o.found
            ∙ walk;
        holds = pending_settles s.rules o.rule name word parts after o.by_id o.one refl holds.0 none;
        passes = turn r h word (h, value) met (plain_passes None word h plain)
            (rw (o.found, once) (or_second _ _ holds.1));
      }

  step_named : (parts : List Part) (taken : ℕ) (name : Text) (joined : Option Text) (word : Text) (h : Held)
      (end : Reading) → Holds parts None h → option_of word ≡ Some (name, joined)
      → is_among form.options name ≡ true → with_named name joined (reading parts taken None) ≡ Some end
      → Steps (reading parts taken None) h word end
  step_named parts taken name (Some text) word h end holds said named e =
      let r = reading parts taken None in
      let a = adds name text r end e in
      subst (Steps r h word) a.is (step_joined parts taken name text word h holds said named a.fits a.new)
  step_named parts taken name None word h end holds said named e = by (is_given name parts) refl e
    where
      by : (t : Bool) → is_given name parts ≡ t → cond t None (Some (reading parts taken (Some name))) ≡ Some end
          → Steps (reading parts taken None) h word end
      by true is e = absurd (none-some end e)
      by false is e = subst (Steps (reading parts taken None) h word) (same_Some _ end e)
          (step_option parts taken name word h holds said named is)

  -- a word where no option waits
  step_word : (parts : List Part) (taken : ℕ) (said : Option (Text × Option Text)) (word : Text) (h : Held)
      (end : Reading) → Holds parts None h → option_of word ≡ said
      → option_or_place form said word (reading parts taken None) ≡ Some end
      → Steps (reading parts taken None) h word end
  step_word parts taken (Some said) word h end holds is e = by (is_among form.options said.0) refl e
    where
      by : (t : Bool) → is_among form.options said.0 ≡ t
          → cond t (with_named said.0 said.1 (reading parts taken None)) None ≡ Some end
          → Steps (reading parts taken None) h word end
      by true named e = step_named parts taken said.0 said.1 word h end holds is named e
      by false named e = absurd (none-some end e)
  step_word parts taken None word h end holds is e = by (slice_get form.places taken) refl e
    where
      by : (place : Option Text) → slice_get form.places taken ≡ place
          → placed place word (reading parts taken None) ≡ Some end
          → Steps (reading parts taken None) h word end
      by None at e = absurd (none-some end e)
      by (Some name) at e =
          let a = adds name word (reading parts (taken + 1) None) end e in
          subst (Steps (reading parts taken None) h word) a.is
          (step_place parts taken name word h holds at a.fits a.new)

  step_by : (waits : Option Text) (parts : List Part) (taken : ℕ) (word : Text) (h : Held) (end : Reading)
      → Holds parts waits h
      → with_next form waits word (reading parts taken waits) ≡ Some end
      → Steps (reading parts taken waits) h word end
  step_by (Some name) parts taken word h end holds e =
      let r = reading parts taken (Some name) in
      let a = adds name word r end e in
      subst (Steps r h word) a.is (step_value parts taken name word h holds a.fits)
  step_by None parts taken word h end holds e = step_word parts taken (option_of word) word h end holds refl e

  -- one word more
  pub step : (r end : Reading) (word : Text) (h : Held) → Holds r.parts r.waits h → with_word form r word ≡ Some end
      → Steps r h word end
  step r end word h holds e = step_by r.waits r.parts r.taken word h end holds e
