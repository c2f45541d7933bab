-- Thresholds, looked up.
use Rattle.std.specs.Prelude.{ℕ, List, [], slice_get, unwrap_or}

-- the threshold at these two places, and 0 where there is none
abbrev pub need_of : List (List ℕ) → ℕ → ℕ → ℕ
need_of needs object place = unwrap_or (slice_get (unwrap_or (slice_get needs object) []) place) 0
