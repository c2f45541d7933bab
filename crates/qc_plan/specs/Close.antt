-- The close weight, computed: the least that adds with each threshold above 0 to more than all weight.
use Rattle.std.specs.Prelude.{ℕ, ◌+◌, ◌-◌, ◌==◌, List, if◌then◌else◌, fold, max}

-- the least weight that adds with this threshold to more than all weight, and 0 where the threshold is 0
abbrev pub closing : ℕ → ℕ → ℕ
closing all need = if need == 0 then 0 else all + 1 - need

-- the greatest of these, over a list of thresholds
abbrev pub closing_list : ℕ → List ℕ → ℕ
closing_list all list = fold (λ most need. max most (closing all need)) 0 list

-- and over the lists of all objects
abbrev pub closing_needs : ℕ → List (List ℕ) → ℕ
closing_needs all needs = fold (λ most list. max most (closing_list all list)) 0 needs
