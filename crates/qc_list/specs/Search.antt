-- The first answer of a search by number.
use Rattle.std.specs.Prelude.{ℕ, zero, suc, Option, None}
use Rattle.std.specs.Option.{option_or}

-- the first of the answers to 0, 1 and so on below the bound
abbrev pub first_below : {A : Type 0} → ℕ → (ℕ → Option A) → Option A
first_below zero answer = None
first_below (suc n) answer = option_or (first_below n answer) (answer n)
