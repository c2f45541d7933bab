-- Names: which texts are names, and lists of names.
use Rattle.std.specs.Prelude.{◌≡◌, ◌≢◌, ℕ, Bool, ◌==◌, ◌&&◌, ◌||◌, nat_le, List, [], length, AllPairs, IsTrue}
use Rattle.std.specs.Prelude.{slice_get, unwrap_or}
use Rattle.std.specs.List.{list_all}
use Rattle.qc_decl.specs.Limits.{longest_name}

-- whether a number is one from the first to the last of these
abbrev pub is_between : ℕ → ℕ → ℕ → Bool
is_between first last b = nat_le first b && nat_le b last

-- an ASCII letter, a digit or `_` (95)
abbrev pub is_name_byte : ℕ → Bool
is_name_byte b = is_between 48 57 b || (is_between 65 90 b || (is_between 97 122 b || b == 95))

-- a name is one or more of them, and not too many
abbrev pub is_name : List ℕ → Bool
is_name text = is_between 1 longest_name (length text) && list_all is_name_byte text

-- the name with this number; no byte where there is none
abbrev pub name_at : List (List ℕ) → ℕ → List ℕ
name_at names k = unwrap_or (slice_get names k) []

-- so many names, and no two the same
pub record AreNames (many : ℕ) (names : List (List ℕ)) : Type 0 where
  pub count : length names ≡ many
  pub formed : IsTrue (list_all is_name names)
  pub distinct : AllPairs (λ a b. a ≢ b) names
