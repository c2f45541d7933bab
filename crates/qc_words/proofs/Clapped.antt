-- What `clap`'s walk makes of a word that the test takes, at a command without subcommands: a value of a place, an
-- option, or an option's value.
use Rattle.std.proofs.Common.{◌≡◌, ◌==◌, ℕ, List, [], ◌∷◌, Bool, true, false, Some, None, not, refl, rules, true≢false}
use Rattle.std.proofs.Common.{sym}
use Rattle.std.specs.Str.{bytes_eq}
use Rattle.clap.specs.Lexer.{long_of, short_of}
use Rattle.clap.specs.Walk.{Held, Rule, arg_by_id, arg_by_long, idle, most_values, next, option, pushed, reacted}
use Rattle.clap.specs.Walk.{settled, takes_values, value, word_met}
use Rattle.qc_words.specs.Vocabulary.{Text, is_value, option_of}

-- a word that is no flag
pub record IsPlain (word : Text) : Type 0 where
  pub dashes : bytes_eq word (45 ∷ 45 ∷ []) ≡ false
  pub long : long_of word ≡ None
  pub short : short_of word ≡ None

pub values_are_plain : (word : Text) → is_value word ≡ true → IsPlain word
values_are_plain [] e = absurd (true≢false (sym e))
values_are_plain (b ∷ rest) e = go (b == 45) refl e
  where
    go : (t : Bool) → (b == 45) ≡ t → not t ≡ true → IsPlain (b ∷ rest)
    go true is bad = absurd (true≢false (sym bad))
    go false is good = record { dashes = rw is refl; long = rw is refl; short = rw is refl }

-- the test and `clap` read the same options
pub option_is_long : (word : Text) → option_of word ≡ long_of word
option_is_long [] = refl
option_is_long (b ∷ []) = go (b == 45) refl
  where
    go : (t : Bool) → (b == 45) ≡ t → option_of (b ∷ []) ≡ long_of (b ∷ [])
    go true is = rw is refl
    go false is = rw is refl
option_is_long (b ∷ c ∷ []) = go (b == 45) (c == 45) refl refl
  where
    go : (t u : Bool) → (b == 45) ≡ t → (c == 45) ≡ u → option_of (b ∷ c ∷ []) ≡ long_of (b ∷ c ∷ [])
    go true true is and = rw is (rw and refl)
    go true false is and = rw is (rw and refl)
    go false u is and = rw is refl
option_is_long (b ∷ c ∷ x ∷ rest) = go (b == 45) (c == 45) refl refl
  where
    go : (t u : Bool) → (b == 45) ≡ t → (c == 45) ≡ u → option_of (b ∷ c ∷ x ∷ rest) ≡ long_of (b ∷ c ∷ x ∷ rest)
    go true true is and = rw is (rw and refl)
    go true false is and = rw is (rw and refl)
    go false u is and = rw is refl

pub place_met : (args : List Rule) (position : ℕ) (word : Text) (h : Held) → IsPlain word
    → word_met args [] false idle position word h ≡ (h, value)
place_met args position word h p = rw (p.dashes, p.long, p.short) refl

-- a text is itself
bytes_same : (t : Text) → bytes_eq t t ≡ true
bytes_same t = search rules

pub value_met : (args : List Rule) (position : ℕ) (a : Rule) (id word : Text) (h : Held) → IsPlain word
    → arg_by_id args id ≡ Some a → most_values a ≡ 1 → id ≡ a.id → h.pending ≡ Some (id, [])
    → word_met args [] false (option id) position word h ≡ (pushed id word h, next idle)
value_met args position a id word h p found one same waits =
    rw (p.dashes, p.long, p.short, found, one, waits, same) (rw (bytes_same a.id) refl)

pub option_met : (args : List Rule) (position : ℕ) (a : Rule) (word name : Text) (h : Held)
    → bytes_eq word (45 ∷ 45 ∷ []) ≡ false → long_of word ≡ Some (name, None)
    → arg_by_long args name ≡ Some a → takes_values a ≡ true
    → word_met args [] false idle position word h ≡
    (record (settled args h) { pending = Some (a.id, []) }, next (option a.id))
option_met args position a word name h other long found takes = rw (other, long, found, takes) refl

pub joined_met : (args : List Rule) (position : ℕ) (a : Rule) (word name v : Text) (h : Held)
    → bytes_eq word (45 ∷ 45 ∷ []) ≡ false → long_of word ≡ Some (name, Some v)
    → arg_by_long args name ≡ Some a → takes_values a ≡ true
    → word_met args [] false idle position word h ≡ (reacted args a (v ∷ []) h, next idle)
joined_met args position a word name v h other long found takes = rw (other, long, found, takes) refl
