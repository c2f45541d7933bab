-- The limit of plans. `src/limits.rt` has the same number for code, and a law says that both agree.
use Rattle.std.specs.Prelude.{ℕ, ◌*◌}

-- the most sites of a plan
abbrev pub most_sites : ℕ
most_sites = 16

-- the most that they weigh together, since a weight is a byte
abbrev pub most_weight : ℕ
most_weight = most_sites * 255

-- the most objects that can be told apart, since an object's number is a byte
abbrev pub most_numbers : ℕ
most_numbers = 256
