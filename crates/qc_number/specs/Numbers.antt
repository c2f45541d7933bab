-- Numbers in words.
use Rattle.std.specs.Prelude.{ℕ, ◌&&◌, nat_le, if◌then◌else◌, List, length, Option, Some, None}
use Rattle.std.specs.Char.{is_ascii_digit}
use Rattle.std.specs.List.{list_all}
use Rattle.std.specs.Str.Parse.{digits_value}

-- the digits of a number
abbrev pub most_digits : ℕ
most_digits = 5

-- the greatest number that so many digits write
abbrev pub greatest : ℕ
greatest = 99999

-- NUMBER: one to five ASCII digits. Zeros may lead.
abbrev pub number_of : List ℕ → Option ℕ
number_of word =
    if (nat_le 1 (length word) && nat_le (length word) most_digits) && list_all is_ascii_digit word
    then Some (digits_value 10 word) else None
