-- The limit of links. `src/limits.rt` has the same number for code, and a law says that both agree.
use Rattle.std.specs.Prelude.{ℕ}

-- the most actors: 16 sites, 16 clients, the administrator and the controller
abbrev pub most_actors : ℕ
most_actors = 34
