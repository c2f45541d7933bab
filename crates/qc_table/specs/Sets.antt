-- A set of small numbers is a number, bit k of which is 1 where k is in the set.
use Rattle.std.specs.Prelude.{ℕ, ◌^◌, Bool, IsTrue, ◌==◌, bit_and, bit_or}
use Rattle.std.specs.Int.{bit_at}

-- whether k is in the set
abbrev pub has : ℕ → ℕ → Bool
has set k = bit_at set k == 1

-- the set with k in it
abbrev pub with_member : ℕ → ℕ → ℕ
with_member set k = bit_or set (2 ^ k)

-- each member of the first is one of the second
abbrev pub IsWithin : ℕ → ℕ → Type 0
IsWithin a b = (k : ℕ) → IsTrue (has a k) → IsTrue (has b k)

-- the same, computed
abbrev pub is_within : ℕ → ℕ → Bool
is_within a b = bit_and a b == a

-- whether the two have no member in common
abbrev pub are_apart : ℕ → ℕ → Bool
are_apart a b = bit_and a b == 0
