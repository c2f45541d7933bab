-- Steps in a row, each of which may give nothing.
use Rattle.std.specs.Prelude.{Option, option_and_then}

-- what follows, where there was something before
infixl 10 ◌>>=◌
abbrev pub ◌>>=◌ : {A B : Type 0} → Option A → (A → Option B) → Option B
before >>= next = option_and_then next before
