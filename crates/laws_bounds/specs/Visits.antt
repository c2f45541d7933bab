-- Sets of actors' numbers that are visited one by one.
use Rattle.std.specs.Prelude.{ℕ, ◌==◌, Bool, true, false, cond, if◌then◌else◌}
use Rattle.qc_promise.specs.Vocabulary.{total_below}

abbrev pub nobody : ℕ → Bool
nobody a = false

-- one more
abbrev pub with_visit : (ℕ → Bool) → ℕ → ℕ → Bool
with_visit visited a b = if a == b then true else visited b

-- how many below a number are visited
abbrev pub visits_below : ℕ → (ℕ → Bool) → ℕ
visits_below n visited = total_below n (λ a. cond (visited a) 1 0)
