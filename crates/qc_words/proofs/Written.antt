-- What can be asked is read as it is written.
use Rattle.std.proofs.Common.{◌≡◌, ◌∙◌, ℕ, ◌<◌, ◌≤◌, true, [], ◌∷◌, Option, Some, None, length, refl, arith}
use Rattle.std.specs.Prelude.{decimal}
use Rattle.std.specs.Char.{is_ascii_digit}
use Rattle.std.specs.List.{list_all}
use Rattle.std.proofs.lemmas.Bool.{le-leb}
use Rattle.qc_words.specs.Vocabulary.{AskedOf, Check, IsAskable, IsLoad, IsName, IsRun, Load, Run, Text, asked}
use Rattle.qc_words.specs.Vocabulary.{greatest_seed, most_transactions, most_workers, number_within, option_of}
use Rattle.qc_words.specs.Vocabulary.{words_in}
use Rattle.qc_number.specs.Vocabulary.{number_of}
use Rattle.qc_words.proofs.Clapped.{option_is_long, values_are_plain}
use Rattle.qc_number.proofs.Numbers.{decimal_is_digits, numbers_are_read_as_written}

-- a value names no option
no_option : (word : Text) → IsName word → option_of word ≡ None
no_option word name = option_is_long word ∙ (values_are_plain word name).long

-- digits begin with no `-`
digits_are_value : (word : Text) → 0 < length word → list_all is_ascii_digit word ≡ true → IsName word
digits_are_value [] some all = absurd (omega arith)
digits_are_value (b ∷ rest) some all = grind (arith, all)

number_is : (n : ℕ) → n ≤ 99999 → (IsName (decimal n)) × (number_of (decimal n) ≡ Some n)
number_is n few =
    let is = decimal_is_digits n few in
    (digits_are_value (decimal n) is.0 is.1, numbers_are_read_as_written n few)

within_is : (least most n : ℕ) → least ≤ n → n ≤ most → most ≤ 99999 → number_within least most (decimal n) ≡ Some n
within_is least most n above below few =
    rw ((number_is n (omega arith)).1, le-leb least n above, le-leb n most below) refl

check_read : (decl : Text) → IsName decl → asked (words_in (Check decl)) ≡ Some (Check decl)
check_read decl name = rw (no_option decl name, name) refl

run_read : (decl script : Text) (workers : ℕ) (dir : Option Text) → IsRun decl script workers dir
    → asked (words_in (Run decl script workers dir)) ≡ Some (Run decl script workers dir)
run_read decl script workers None is =
    let few : workers ≤ 8 = is.are_few.1 in
    let number = number_is workers (omega arith) in
    rw (
      no_option decl is.decl_is_name,
      is.decl_is_name,
      no_option script is.script_is_name,
      is.script_is_name,
      number.0,
    )
    (rw (within_is 1 most_workers workers is.are_few.0 is.are_few.1 (omega arith)) refl)
run_read decl script workers (Some dir) is =
    let few : workers ≤ 8 = is.are_few.1 in
    let number = number_is workers (omega arith) in
    rw (
      no_option decl is.decl_is_name,
      is.decl_is_name,
      no_option script is.script_is_name,
      is.script_is_name,
      number.0,
      is.dir_is_name,
    )
    (rw (within_is 1 most_workers workers is.are_few.0 is.are_few.1 (omega arith)) refl)

load_read : (count seed workers : ℕ) → IsLoad count seed workers
    → asked (words_in (Load count seed workers)) ≡ Some (Load count seed workers)
load_read count seed workers is =
    let few : workers ≤ 8 = is.are_few.1 in
    let most = is.most in
    let within = is.within in
    let counted = number_is count (omega arith) in
    let seeded = number_is seed (omega arith) in
    let number = number_is workers (omega arith) in
    rw (no_option (decimal count) counted.0, counted.0, no_option (decimal seed) seeded.0, seeded.0, number.0)
    (rw (
      within_is 1 most_transactions count is.least is.most (omega arith),
      within_is 0 greatest_seed seed (omega arith) is.within (omega arith),
      within_is 1 most_workers workers is.are_few.0 is.are_few.1 (omega arith),
    ) refl)

pub words_are_read_as_written : (a : AskedOf) → IsAskable a → asked (words_in a) ≡ Some a
words_are_read_as_written (Check decl) is = check_read decl is
words_are_read_as_written (Run decl script workers dir) is = run_read decl script workers dir is
words_are_read_as_written (Load count seed workers) is = load_read count seed workers is
