-- What bounds the counts of messages.
use Rattle.std.specs.Prelude.{ℕ, ◌≤◌, List, get_or}

-- no count is above that of all messages
abbrev pub AreFew : List ℕ → ℕ → Type 0
AreFew each all = (k : ℕ) → get_or each k 0 ≤ all
