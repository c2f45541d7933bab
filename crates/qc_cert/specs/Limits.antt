-- The limit of certificates. `src/limits.rt` has the same number for code, and a law says that both agree.
use Rattle.std.specs.Prelude.{ℕ}

-- the most triples of a type
abbrev pub most_triples : ℕ
most_triples = 65536
