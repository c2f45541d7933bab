-- A text of lines that can be written is cut into these lines, and each line into its words.
use Rattle.std.proofs.Common.{◌≡◌, ℕ, ◌-◌, ◌<◌, Bool, true, false, cond, List, [], ◌∷◌, ◌++◌, Option, Some, None}
use Rattle.std.proofs.Common.{length, get_or, take, refl, ap, ◌∙◌, arith, rules}
use Rattle.std.specs.Prelude.{◌==◌, decimal, nat_lt, slice_index}
use Rattle.std.specs.Char.{is_ascii_digit}
use Rattle.std.specs.List.{AllByRecursion as Every, join_with_byte, list_all, onto_first, slice_split}
use Rattle.std.proofs.lemmas.Bool.{and_from, and_parts, eq-eqb, lt-ltb, ltb-true, ne_eqb}
use Rattle.std.proofs.lemmas.Fmt.{decimal_is_IsNumeral}
use Rattle.std.proofs.lemmas.List.Folds.{list_all-append, list_all_at}
use Rattle.std.proofs.lemmas.List.Splits.{slice_split-cons_no, slice_split-cons_yes}
use Rattle.qc_link.specs.declared.rule.Rule.{Rule}
use Rattle.qc_link.specs.declared.rule.Rule.TheVariants as rule
use Rattle.qc_outside.specs.declared.disk.ArmKind.{ArmKind}
use Rattle.qc_outside.specs.declared.disk.ArmKind.TheVariants.{Stop, Fail}
use Rattle.qc_number.proofs.Numbers.{digits}
use Rattle.qc_script.specs.Vocabulary.{HasFewDigits, IsWritable, IsWritableActor, IsWritableEnd, IsWritableOrdinal}
use Rattle.qc_script.specs.Vocabulary.{IsWritableVerb, actor_word, arm_word, end_word, is_plain, is_skipped, lines_of}
use Rattle.qc_script.specs.Vocabulary.{ordinal_word, rule_word, text_of_line, verb_words, without_cr, words_in}
use Rattle.qc_script.specs.Vocabulary.{words_of}
use Rattle.qc_script.specs.declared.actor.ActorName.{ActorName}
use Rattle.qc_script.specs.declared.actor.ActorName.TheVariants.{Site, Client, Administrator}
use Rattle.qc_script.specs.declared.line.ScriptLine.{ScriptLine}
use Rattle.qc_script.specs.declared.line.ScriptLine.TheVariants as lines
use Rattle.qc_script.specs.declared.line.Verb.{Verb}
use Rattle.qc_script.specs.declared.line.Verb.TheVariants.{Begin, Do, Commit, Abort}

-- bytes above another one are cut nowhere at that one

above : (byte b : ℕ) → nat_lt byte b ≡ true → (b == byte) ≡ false
above byte b is = ne_eqb b byte (λ same. let l : byte < b = ltb-true byte b is in omega arith)

pub split_none : (byte : ℕ) (bytes : List ℕ) → list_all (nat_lt byte) bytes ≡ true
    → slice_split (λ b. b == byte) bytes ≡ bytes ∷ []
split_none byte [] all = refl
split_none byte (b ∷ bytes) all =
    let parts = and_parts (nat_lt byte b) (list_all (nat_lt byte) bytes) all in
    slice_split-cons_no (λ b. b == byte) b bytes (above byte b parts.0)
    ∙ ap (onto_first b) (split_none byte bytes parts.1)

pub split_at : (byte : ℕ) (bytes rest : List ℕ) → list_all (nat_lt byte) bytes ≡ true
    → slice_split (λ b. b == byte) (bytes ++ byte ∷ rest) ≡ bytes ∷ slice_split (λ b. b == byte) rest
split_at byte [] rest all = slice_split-cons_yes (λ b. b == byte) byte rest (eq-eqb byte byte refl)
split_at byte (b ∷ bytes) rest all =
    let parts = and_parts (nat_lt byte b) (list_all (nat_lt byte) bytes) all in
    slice_split-cons_no (λ b. b == byte) b (bytes ++ byte ∷ rest) (above byte b parts.0)
    ∙ ap (onto_first b) (split_at byte bytes rest parts.1)

-- words of a line, one or more

abbrev pub ArePlain : List (List ℕ) → Type 0
ArePlain = Every (λ word. is_plain word ≡ true)

pub words_joined : (word : List ℕ) (words : List (List ℕ)) → ArePlain (word ∷ words)
    → words_of (join_with_byte 32 (word ∷ words)) ≡ word ∷ words
words_joined word [] plain = split_none 32 word plain.0
words_joined word (next ∷ words) plain =
    split_at 32 word (join_with_byte 32 (next ∷ words)) plain.0
    ∙ ap (λ (rest : List (List ℕ)). word ∷ rest) (words_joined next words plain.1)

-- a test that passes more passes all that the other passes
pub all_weaker : (p q : ℕ → Bool) → ((b : ℕ) → p b ≡ true → q b ≡ true) → (bytes : List ℕ) → list_all p bytes ≡ true
    → list_all q bytes ≡ true
all_weaker p q weaker [] all = refl
all_weaker p q weaker (b ∷ bytes) all =
    let parts = and_parts (p b) (list_all p bytes) all in
    and_from (q b) (list_all q bytes) (weaker b parts.0) (all_weaker p q weaker bytes parts.1)

-- bytes above 31 are none of the bytes at which lines are cut
abbrev pub is_printed : List ℕ → Bool
is_printed text = list_all (nat_lt 31) text

printed_plain : (word : List ℕ) → is_plain word ≡ true → is_printed word ≡ true
printed_plain word plain = all_weaker (nat_lt 32) (nat_lt 31)
    (λ b is. lt-ltb 31 b (let l : 32 < b = ltb-true 32 b is in omega arith)) word plain

pub printed_joined : (words : List (List ℕ)) → ArePlain words → is_printed (join_with_byte 32 words) ≡ true
printed_joined [] plain = refl
printed_joined (word ∷ []) plain = printed_plain word plain.0
printed_joined (word ∷ next ∷ words) plain =
    list_all-append (nat_lt 31) word (32 ∷ join_with_byte 32 (next ∷ words))
    ∙ and_from (is_printed word) (is_printed (join_with_byte 32 (next ∷ words))) (printed_plain word plain.0)
    (printed_joined (next ∷ words) plain.1)

-- the words of a line are plain

decimal_plain : (n : ℕ) → HasFewDigits n → is_plain (decimal n) ≡ true
decimal_plain n few =
    all_weaker is_ascii_digit (nat_lt 32) (λ b is. search rules) (decimal n)
    (digits.from (decimal n) (decimal_is_IsNumeral n (omega arith)).0.1)

actor_plain : (actor : ActorName) → IsWritableActor actor → is_plain (actor_word actor) ≡ true
actor_plain (Site n) few = decimal_plain n few
actor_plain (Client n) few = decimal_plain n few
actor_plain Administrator few = refl

end_plain : (end : Option ActorName) → IsWritableEnd end → is_plain (end_word end) ≡ true
end_plain None few = refl
end_plain (Some actor) few = actor_plain actor few

ordinal_plain : (ordinal : Option ℕ) → IsWritableOrdinal ordinal → is_plain (ordinal_word ordinal) ≡ true
ordinal_plain None few = refl
ordinal_plain (Some n) few = decimal_plain n few

rule_plain : (what : Rule) → is_plain (rule_word what) ≡ true
rule_plain rule.Drop = refl
rule_plain rule.Twice = refl
rule_plain rule.Late = refl
rule_plain rule.Again = refl

arm_plain : (kind : ArmKind) → is_plain (arm_word kind) ≡ true
arm_plain Stop = refl
arm_plain Fail = refl

verb_plain : (verb : Verb) → IsWritableVerb verb → ArePlain (verb_words verb)
verb_plain Begin few = (refl, tt)
verb_plain (Do object inv) few = (refl, (few.0.0, (few.1.0, tt)))
verb_plain Commit few = (refl, tt)
verb_plain Abort few = (refl, tt)

pub words_plain : (line : ScriptLine) → IsWritable line → ArePlain (words_in line)
words_plain lines.Phase few = (refl, tt)
words_plain (lines.Link from to ordinal what) few =
    (refl, (end_plain from few.0, (end_plain to few.1, (ordinal_plain ordinal few.2, (rule_plain what, tt)))))
words_plain (lines.Cut a b) few = (refl, (actor_plain a few.0, (actor_plain b few.1, tt)))
words_plain (lines.Heal a b) few = (refl, (actor_plain a few.0, (actor_plain b few.1, tt)))
words_plain (lines.Crash actor) few = (refl, (actor_plain actor few, tt))
words_plain (lines.Restart actor) few = (refl, (actor_plain actor few, tt))
words_plain (lines.Armed actor kind at) few =
    (arm_plain kind, (actor_plain actor few.0, (refl, (decimal_plain at few.1, tt))))
words_plain (lines.Command client verb) few = (actor_plain (Client client) few.0, verb_plain verb few.1)
words_plain (lines.Epoch number) few = (refl, (refl, (decimal_plain number few, tt)))

-- a line's words, again
pub words_back : (line : ScriptLine) → IsWritable line → words_of (text_of_line line) ≡ words_in line
words_back line few = by (words_in line) (words_plain line few) (some line) where
  some : (line : ScriptLine) → length (words_in line) == 0 ≡ false
  some lines.Phase = refl
  some (lines.Link from to ordinal what) = refl
  some (lines.Cut a b) = refl
  some (lines.Heal a b) = refl
  some (lines.Crash actor) = refl
  some (lines.Restart actor) = refl
  some (lines.Armed actor kind at) = refl
  some (lines.Command client verb) = search rules
  some (lines.Epoch number) = refl

  by : (words : List (List ℕ)) → ArePlain words → length words == 0 ≡ false → words_of (join_with_byte 32 words) ≡ words
  by [] plain some = absurd (let never : ⊥ = cc in never)
  by (word ∷ words) plain some = words_joined word words plain

-- a text that is printed is a line where an LF stands behind it
pub printed_split : (text rest : List ℕ) → is_printed text ≡ true → lines_of (text ++ 10 ∷ rest) ≡ text ∷ lines_of rest
printed_split text rest printed = split_at 10 text rest
    (all_weaker (nat_lt 31) (nat_lt 10) (λ b is. lt-ltb 10 b (let l : 31 < b = ltb-true 31 b is in omega arith)) text
    printed)

-- it isn't skipped
pub not_skipped : (line : ScriptLine) → is_skipped (text_of_line line) ≡ false
not_skipped lines.Phase = refl
not_skipped (lines.Link from to ordinal what) = refl
not_skipped (lines.Cut a b) = refl
not_skipped (lines.Heal a b) = refl
not_skipped (lines.Crash actor) = refl
not_skipped (lines.Restart actor) = refl
not_skipped (lines.Armed actor Stop at) = refl
not_skipped (lines.Armed actor Fail at) = refl
not_skipped (lines.Command client Begin) = refl
not_skipped (lines.Command client (Do object inv)) = refl
not_skipped (lines.Command client Commit) = refl
not_skipped (lines.Command client Abort) = refl
not_skipped (lines.Epoch number) = refl

-- and has no CR at its end
pub no_cr : (text : List ℕ) → is_printed text ≡ true → without_cr text ≡ text
no_cr text printed = ap (λ t. cond t (take (length text - 1) text) text) (last text printed) where
  last : (text : List ℕ) → is_printed text ≡ true → (slice_index text (length text - 1) == 13) ≡ false
  last [] all = refl
  last (b ∷ bytes) all = by (nat_lt 31 (get_or (b ∷ bytes) (length (b ∷ bytes) - 1) 0)) refl where
    by : (t : Bool) → nat_lt 31 (get_or (b ∷ bytes) (length (b ∷ bytes) - 1) 0) ≡ t
        → (slice_index (b ∷ bytes) (length (b ∷ bytes) - 1) == 13) ≡ false
    by true is = ne_eqb _ 13 (λ same. let l = ltb-true 31 (get_or (b ∷ bytes) (length (b ∷ bytes) - 1) 0) is in
        omega arith)
    by false is = absurd (let none = list_all_at (nat_lt 31) (b ∷ bytes) (length (b ∷ bytes) - 1) 0 (omega arith) is in
        let never : ⊥ = cc in never)
