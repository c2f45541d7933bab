-- What a word may be in the place where it stands: a number, an actor, a link's end, an ordinal, a rule, a name.
use Rattle.std.specs.Prelude.{ℕ, Bool, false, ◌==◌, ◌&&◌, if◌then◌else◌, List, [], ◌∷◌, codes, length, Option, Some}
use Rattle.std.specs.Prelude.{None, option_map, option_and_then}
use Rattle.std.specs.Str.{bytes_eq}
use Rattle.qc_link.specs.declared.rule.Rule.{Rule}
use Rattle.qc_link.specs.declared.rule.Rule.TheVariants.{Drop, Twice, Late, Again}
use Rattle.qc_number.specs.Vocabulary.{number_of}
use Rattle.qc_script.specs.declared.actor.ActorName.{ActorName}
use Rattle.qc_script.specs.declared.actor.ActorName.TheVariants.{Site, Client, Administrator}

-- whether a zero (48) stands before other digits
abbrev pub has_leading_zero : List ℕ → Bool
has_leading_zero [] = false
has_leading_zero (digit ∷ []) = false
has_leading_zero (digit ∷ next ∷ digits) = digit == 48

-- N: a number without a leading zero
abbrev pub index_of : List ℕ → Option ℕ
index_of digits = if has_leading_zero digits then None else number_of digits

-- `sN` or `cN` (115 and 99)
abbrev pub numbered_of : List ℕ → Option ActorName
numbered_of [] = None
numbered_of (letter ∷ digits) =
    if letter == 115 then option_map Site (index_of digits)
    else (if letter == 99 then option_map Client (index_of digits) else None)

-- ACTOR: `sN`, `cN` or `admin`
abbrev pub actor_of : List ℕ → Option ActorName
actor_of word = if bytes_eq word (codes "admin") then Some Administrator else numbered_of word

-- a link's end: ACTOR, or `*` for all
abbrev pub end_of : List ℕ → Option (Option ActorName)
end_of word = if bytes_eq word (codes "*") then Some None else option_map Some (actor_of word)

-- ORDINAL: NUMBER, or `*` for all
abbrev pub ordinal_of : List ℕ → Option (Option ℕ)
ordinal_of word = if bytes_eq word (codes "*") then Some None else option_map Some (number_of word)

-- RULE: `drop`, `twice`, `late` or `again`
abbrev pub rule_of : List ℕ → Option Rule
rule_of word =
    if bytes_eq word (codes "drop") then Some Drop
    else (if bytes_eq word (codes "twice") then Some Twice
    else (if bytes_eq word (codes "late") then Some Late
    else (if bytes_eq word (codes "again") then Some Again else None)))

-- a client's number, of `cN` alone
abbrev pub client_in : ActorName → Option ℕ
client_in (Site number) = None
client_in (Client number) = Some number
client_in Administrator = None

abbrev pub client_of : List ℕ → Option ℕ
client_of word = option_and_then client_in (actor_of word)

-- OBJECT and INV: a word that isn't empty
abbrev pub name_of : List ℕ → Option (List ℕ)
name_of [] = None
name_of (byte ∷ bytes) = Some (byte ∷ bytes)
