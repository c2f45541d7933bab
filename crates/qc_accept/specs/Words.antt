-- Texts of a declaration: words, names, numbers and events.
use Rattle.std.specs.Prelude.{ℕ, ◌+◌, ◌-◌, ◌*◌, ◌==◌, ◌&&◌, nat_le, List, [], ◌∷◌, length, fold, Option, Some, None}
use Rattle.std.specs.Prelude.{if◌then◌else◌, option_map, option_and_then, position}
use Rattle.std.specs.List.{list_any, list_all}
use Rattle.std.specs.Str.{bytes_eq}
use Rattle.qc_table.specs.Vocabulary.{event, event_number}
use Rattle.qc_table.specs.declared.row.Event.{Event}
use Rattle.qc_decl.specs.Vocabulary.{greatest_threshold, is_between}
use Rattle.qc_number.specs.Vocabulary.{most_digits}

-- what stands before and behind the first byte of this kind
abbrev pub cut : ℕ → List ℕ → Option (List ℕ × List ℕ)
cut byte [] = None
cut byte (b ∷ bs) = if b == byte then Some ([], bs) else option_map (λ p. (b ∷ p.0, p.1)) (cut byte bs)

-- Words are separated by one space (32). No name has a space, so a second one in a row is refused with the empty word.

-- two words, the one before and the one behind the only space
abbrev pub two : List ℕ → Option (List ℕ × List ℕ)
two text = option_and_then (λ p. if list_any (λ b. b == 32) p.1 then None else Some (p.0, p.1)) (cut 32 text)

abbrev pub three : List ℕ → Option (List ℕ × List ℕ × List ℕ)
three text = option_and_then (λ p. option_map (λ w. (p.0, w.0, w.1)) (two p.1)) (cut 32 text)

abbrev pub four : List ℕ → Option (List ℕ × List ℕ × List ℕ × List ℕ)
four text = option_and_then (λ p. option_map (λ w. (p.0, w.0, w.1, w.2)) (three p.1)) (cut 32 text)

-- the number that digits write
abbrev pub value_of : List ℕ → ℕ
value_of digits = fold (λ n d. 10 * n + (d - 48)) 0 digits

-- NUMBER: ASCII digits, one or more and not too many, that write no number past the greatest threshold
abbrev pub number_in : List ℕ → Option ℕ
number_in text =
    if is_between 1 most_digits (length text) && (list_all (is_between 48 57) text
    && nat_le (value_of text) greatest_threshold)
    then Some (value_of text)
    else None

-- the number of a name among distinct names: its place
abbrev pub number_of : List (List ℕ) → List ℕ → Option ℕ
number_of names text = position (bytes_eq text) names

-- the number of an event, written `INV:RESP` (58 is the colon), among the events of a type
abbrev pub event_in : List (List ℕ) → List (List ℕ) → List Event → List ℕ → Option ℕ
event_in invs resps events text =
    option_and_then (λ p.
    option_and_then (λ inv.
    option_and_then (λ resp. event_number events (event inv resp)) (number_of resps p.1)) (number_of invs p.0))
    (cut 58 text)
