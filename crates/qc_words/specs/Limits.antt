-- The limits of words. `src/limits.rt` has the same numbers for code, and a law says that both agree.
use Rattle.std.specs.Prelude.{ℕ}

-- the transactions of a load
abbrev pub most_transactions : ℕ
most_transactions = 500

-- the seed of a load
abbrev pub greatest_seed : ℕ
greatest_seed = 65536

-- the workers of a run
abbrev pub most_workers : ℕ
most_workers = 8
