-- The lives of actors, from one fall to the next.
use Rattle.std.specs.Prelude.{ℕ}

-- the life of an actor that has never fallen
abbrev pub first_life : ℕ
first_life = 1
