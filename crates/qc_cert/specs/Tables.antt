-- Tables of bits over sets of events: which of the sets have none but some of four events.
use Rattle.std.specs.Prelude.{◌≡◌, ℕ, zero, suc, ◌+◌, ◌*◌, ◌/◌, ◌%◌, ◌^◌, ◌<◌, ◌≤◌, Bool, true, false, ◌&&◌, All, List}
use Rattle.std.specs.Prelude.{length, slice_get, slice_index_or}
use Rattle.std.specs.Option.{option_map_or}
use Rattle.qc_cert.specs.declared.blocks.Row.{Row}
use Rattle.qc_table.specs.Vocabulary.{has, is_within}

-- the most sets of a block: one for each bit of a row
abbrev pub most_sets : ℕ
most_sets = 256

-- A piece of a set is four of its events: piece 0 is events 0 to 3, and piece 15 is events 60 to 63.
abbrev pub piece : ℕ → ℕ → ℕ
piece set number = set / 2 ^ (4 * number) % 16

-- whether there is a set at the place, and its piece of this number has none but some of four events
abbrev pub keeps : List ℕ → ℕ → ℕ → ℕ → Bool
keeps sets place number some =
    option_map_or (λ set. is_within (piece set number) some) (slice_get sets place) false

-- a word has a bit for each of 64 sets, from a place on
abbrev pub IsWord : List ℕ → ℕ → ℕ → ℕ → ℕ → Type 0
IsWord sets from number some word = (k : ℕ) → k < 64 → has word k ≡ keeps sets (from + k) number some

-- a row is four words
pub record IsRow (sets : List ℕ) (number some : ℕ) (row : Row) : Type 0 where
  pub first : IsWord sets 0 number some row.first
  pub second : IsWord sets 64 number some row.second
  pub third : IsWord sets 128 number some row.third
  pub fourth : IsWord sets 192 number some row.fourth

abbrev pub no_row : Row
no_row = record { first = 0; second = 0; third = 0; fourth = 0 }

-- of each piece there are 16 rows, one for each choice of its events
abbrev pub AreRows : List ℕ → List Row → Type 0
AreRows sets rows =
    (place : ℕ) → place < length rows → IsRow sets (place / 16) (place % 16) (slice_index_or rows place no_row)

-- sets with the rows of all pieces
pub record IsTable (sets : List ℕ) (rows : List Row) : Type 0 where
  pub few : length sets ≤ most_sets
  pub small : All (λ set. set < 2 ^ 64) sets
  pub all : length rows ≡ 256
  pub told : AreRows sets rows

-- whether there is a set at the place, of whose first pieces each has none but events of another set
abbrev pub agrees : List ℕ → ℕ → ℕ → ℕ → Bool
agrees sets out place zero = true
agrees sets out place (suc count) = agrees sets out place count && keeps sets place count (piece out count)

-- the words of the sets that do
abbrev pub AreLeft : List ℕ → ℕ → ℕ → ℕ → ℕ → Type 0
AreLeft sets out count from word = (k : ℕ) → k < 64 → has word k ≡ agrees sets out (from + k) count

pub record IsLeft (sets : List ℕ) (out count : ℕ) (row : Row) : Type 0 where
  pub first : AreLeft sets out count 0 row.first
  pub second : AreLeft sets out count 64 row.second
  pub third : AreLeft sets out count 128 row.third
  pub fourth : AreLeft sets out count 192 row.fourth
