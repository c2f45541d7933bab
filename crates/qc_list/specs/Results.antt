-- Results in a row: each step goes on from what the last one gave, up to the first cause or fault.
use Rattle.std.specs.Prelude.{Result, Ok, Err}

-- what follows, where there was no error before
abbrev pub and_then : {A B E : Type 0} → (A → Result B E) → Result A E → Result B E
and_then next (Ok a) = next a
and_then next (Err e) = Err e

infixl 10 ◌>>=◌
abbrev pub ◌>>=◌ : {A B E : Type 0} → Result A E → (A → Result B E) → Result B E
result >>= next = and_then next result
