-- How large the number is that a few digits write, and that decimal digits are read as their number.
use Rattle.std.proofs.Common.{◌≡◌, ℕ, ◌+◌, ◌-◌, ◌*◌, ◌^◌, ◌<◌, ◌≤◌, true, List, length, get_or, take, Some, ap, arith}
use Rattle.std.proofs.Common.{rules}
use Rattle.std.specs.Prelude.{decimal}
use Rattle.std.specs.Char.{digit_value, is_ascii_digit}
use Rattle.std.specs.Int.{IsInRange}
use Rattle.std.specs.List.{list_all}
use Rattle.std.specs.Str.Parse.{digits_value}
use Rattle.std.proofs.lemmas.Bool.{le-leb}
use Rattle.std.proofs.lemmas.Fmt.{decimal_is_IsNumeral, decimal_nonempty, length-decimal-le}
use Rattle.std.proofs.lemmas.Int.Digits.{digits_value_more}
use Rattle.std.proofs.lemmas.Str.Parse.{IsNumeralModel, numerals_by_value, digits_value-take-le, digits_value_short}
use Rattle.std.proofs.lemmas.Str.Parse.{digit_at}
use Rattle.qc_number.specs.Vocabulary.{greatest, most_digits, number_of}

-- what the test says of digits, in the words of std
pub digits : IsNumeralModel (λ ds. list_all is_ascii_digit ds ≡ true) (digits_value 10)
digits = numerals_by_value (λ ds. list_all is_ascii_digit ds ≡ true) (search rules)

-- the value of a digit
pub value_of_digit : (c : ℕ) → IsInRange 48 57 c → digit_value c ≡ c - 48
value_of_digit c within = search rules

-- digits whose number is read from the left, up to a place
pub record IsReadTo (ds : List ℕ) (i v : ℕ) : Type 0 where
  pub few : length ds ≤ most_digits
  pub all : list_all is_ascii_digit ds ≡ true
  pub within : i < length ds
  pub is : v ≡ digits_value 10 (take i ds)

-- one digit more
pub digit_more : (ds : List ℕ) (i v d : ℕ) → IsReadTo ds i v → d ≡ get_or ds i 0 - 48
    → (10 * v + d ≡ digits_value 10 (take (i + 1) ds)) × (10 * v + d < 100000)
digit_more ds i v d h same =
    let next = digits_value_more 10 ds i h.within in
    let digit = value_of_digit (get_or ds i 0) (digit_at ds i (digits.to ds h.all) h.within) in
    let le = digits_value-take-le 10 ds (i + 1) (omega arith) in
    let small : digits_value 10 ds < 100000 = digits_value_short digits ds 5 h.all h.few in
    let is = h.is in
    (omega arith, omega arith)

-- Decimal digits are few digits, one or more, and their number is read from them.
pub decimal_is_digits : (n : ℕ) → n ≤ greatest → (0 < length (decimal n)) × (list_all is_ascii_digit (decimal n) ≡ true)
decimal_is_digits n few =
    let small : n < 2 ^ 64 = omega arith in
    (decimal_nonempty n small, digits.from (decimal n) (decimal_is_IsNumeral n small).0.1)

pub numbers_are_read_as_written : (n : ℕ) → n ≤ greatest → number_of (decimal n) ≡ Some n
numbers_are_read_as_written n few =
    let small : n < 2 ^ 64 = omega arith in
    let is = decimal_is_digits n few in
    let short : length (decimal n) ≤ 5 = length-decimal-le 5 n (omega arith) (omega arith) small in
    rw (le-leb 1 _ is.0, le-leb _ 5 short, is.1) (ap Some (decimal_is_IsNumeral n small).1)
