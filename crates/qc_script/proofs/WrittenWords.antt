-- The words of each place are read as what they are written for.
use Rattle.std.proofs.Common.{◌≡◌, ℕ, zero, suc, ◌<◌, ◌≤◌, ◌^◌, Bool, true, false, cond, codes, List, [], ◌∷◌, Option}
use Rattle.std.proofs.Common.{Some, None, length, get_or, refl, ap, ◌∙◌, arith}
use Rattle.std.specs.Prelude.{option_map, option_and_then, decimal}
use Rattle.std.specs.Char.{is_ascii_digit}
use Rattle.std.specs.List.{list_all}
use Rattle.std.specs.Str.{bytes_eq}
use Rattle.std.specs.Str.Parse.{digits_value}
use Rattle.std.proofs.lemmas.Bool.{le-leb, eqb-true, and_from}
use Rattle.std.proofs.lemmas.Fmt.{decimal_digit, decimal_is_IsNumeral, decimal_nonempty, first_decimal}
use Rattle.std.proofs.lemmas.Fmt.{length-decimal-le}
use Rattle.std.proofs.lemmas.Slice.Eq.{bytes_eq-Decides}
use Rattle.qc_link.specs.declared.rule.Rule.{Rule}
use Rattle.qc_link.specs.declared.rule.Rule.TheVariants as rule
use Rattle.qc_number.proofs.Numbers.{numbers_are_read_as_written}
use Rattle.qc_number.specs.Vocabulary.{number_of}
use Rattle.qc_script.specs.Vocabulary.{HasFewDigits, IsWritableActor, IsWritableEnd, IsWritableName, IsWritableOrdinal}
use Rattle.qc_script.specs.Vocabulary.{actor_of, actor_word, client_in, client_of, end_of, end_word, has_leading_zero}
use Rattle.qc_script.specs.Vocabulary.{index_of, name_of, ordinal_of, ordinal_word, rule_of, rule_word}
use Rattle.qc_script.specs.declared.actor.ActorName.{ActorName}
use Rattle.qc_script.specs.declared.actor.ActorName.TheVariants.{Site, Client, Administrator}

-- a leading zero is the first digit, before others
zero_first : (ds : List ℕ) → has_leading_zero ds ≡ true → get_or ds 0 0 ≡ 48
zero_first [] is = absurd (let never : ⊥ = cc in never)
zero_first (d ∷ []) is = absurd (let never : ⊥ = cc in never)
zero_first (d ∷ e ∷ ds) is = eqb-true d 48 is

no_leading_zero : (n : ℕ) → HasFewDigits n → has_leading_zero (decimal n) ≡ false
no_leading_zero zero few = ap has_leading_zero (decimal_digit 0 (omega arith))
no_leading_zero (suc n) few = by (has_leading_zero (decimal (suc n))) refl
  where
    by : (b : Bool) → has_leading_zero (decimal (suc n)) ≡ b → b ≡ false
    by true is =
        let first = zero_first (decimal (suc n)) is in
        let above = first_decimal (suc n) (omega arith) (omega arith) in
        absurd (omega arith)
    by false is = refl

pub index_read : (n : ℕ) → HasFewDigits n → index_of (decimal n) ≡ Some n
index_read n few =
    ap (λ t. cond t None (number_of (decimal n))) (no_leading_zero n few) ∙ numbers_are_read_as_written n few

-- an actor
pub actor_read : (actor : ActorName) → IsWritableActor actor → actor_of (actor_word actor) ≡ Some actor
actor_read (Site n) few = ap (option_map Site) (index_read n few)
actor_read (Client n) few = ap (option_map Client) (index_read n few)
actor_read Administrator few = refl

pub client_read : (n : ℕ) → HasFewDigits n → client_of (actor_word (Client n)) ≡ Some n
client_read n few = ap (option_and_then client_in) (actor_read (Client n) few)

-- a word that is read as something isn't one that isn't
pub apart : {A : Type 0} (read : List ℕ → Option A) (word other : List ℕ) (x : A) → read word ≡ Some x
    → read other ≡ None → bytes_eq word other ≡ false
apart read word other x some none = by (bytes_eq word other) refl
  where
    by : (b : Bool) → bytes_eq word other ≡ b → b ≡ false
    by true is = let same : word ≡ other = (bytes_eq-Decides word other).0 is in let e = ap read same in
        absurd (let never : ⊥ = cc in never)
    by false is = refl

-- a link's end
pub end_read : (end : Option ActorName) → IsWritableEnd end → end_of (end_word end) ≡ Some end
end_read None few = refl
end_read (Some actor) few =
    ap (λ t. cond t (Some None) (option_map Some (actor_of (actor_word actor))))
    (apart actor_of (actor_word actor) (codes "*") actor (actor_read actor few) refl)
    ∙ ap (option_map Some) (actor_read actor few)

pub ordinal_read : (ordinal : Option ℕ) → IsWritableOrdinal ordinal → ordinal_of (ordinal_word ordinal) ≡ Some ordinal
ordinal_read None few = refl
ordinal_read (Some n) few =
    ap (λ t. cond t (Some None) (option_map Some (number_of (decimal n))))
    (apart number_of (decimal n) (codes "*") n (numbers_are_read_as_written n few) refl)
    ∙ ap (option_map Some) (numbers_are_read_as_written n few)

pub rule_read : (what : Rule) → rule_of (rule_word what) ≡ Some what
rule_read rule.Drop = refl
rule_read rule.Twice = refl
rule_read rule.Late = refl
rule_read rule.Again = refl

pub name_read : (name : List ℕ) → IsWritableName name → name_of name ≡ Some name
name_read [] some = absurd (let h = some.1 in omega arith)
name_read (b ∷ bs) some = refl
