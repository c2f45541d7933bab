-- The limits of a type, each once. `src/limits.rt` has the same numbers for code, and a law says that both agree.
use Rattle.std.specs.Prelude.{ℕ}

abbrev pub most_states : ℕ
most_states = 64

abbrev pub most_invocations : ℕ
most_invocations = 32

abbrev pub most_responses : ℕ
most_responses = 32

abbrev pub most_events : ℕ
most_events = 64

abbrev pub most_rows : ℕ
most_rows = 131072
