-- The first five bytes of a record.
use Rattle.std.specs.Prelude.{◌≡◌, ◌≢◌, ◌⊎◌, ℕ, ◌≤◌, List, [], ◌∷◌}
use Rattle.std.specs.Int.{w32, to_be_bytes}
use Rattle.qc_journal.specs.declared.reading.Head.{Head}
use Rattle.qc_journal.specs.declared.reading.Head.TheVariants.{Closed, Open, Torn}

-- an open gate and a length
pub record IsOpenHead (count : ℕ) (bytes : List ℕ) : Type 0 where
  pub gate : ℕ
  pub is_open : gate ≢ 0
  pub some : 1 ≤ count
  pub short : count ≤ 65536
  pub bytes_are : bytes ≡ gate ∷ to_be_bytes w32 count

-- an open gate without one
pub record IsTornHead (bytes : List ℕ) : Type 0 where
  pub gate : ℕ
  pub rest : List ℕ
  pub is_open : gate ≢ 0
  pub bytes_are : bytes ≡ gate ∷ rest
  pub none : (count : ℕ) → 1 ≤ count → count ≤ 65536 → rest ≢ to_be_bytes w32 count

abbrev pub IsHead : List ℕ → Head → Type 0
IsHead bytes Closed = (rest : List ℕ) × (bytes ≡ 0 ∷ rest)
IsHead bytes (Open count) = IsOpenHead count bytes
IsHead bytes Torn = (bytes ≡ []) ⊎ IsTornHead bytes
