-- How many calls of its disk each step of a store takes, of those that count for what is armed.
use Rattle.std.specs.Prelude.{ℕ, List, [], ◌∷◌}
use Rattle.qc_promise.specs.Vocabulary.{Calls, of_reading}

-- an opening that gives these bodies
abbrev pub of_bodies : List (List ℕ) → Calls
of_bodies [] = record { fewest = 1; most = 2 }
of_bodies (body ∷ bodies) = of_reading

-- a fault comes in one of a record's calls
abbrev pub of_broken_record : Calls
of_broken_record = record { fewest = 1; most = 4 }

-- a fault comes in one of an opening's
abbrev pub of_broken_opening : Calls
of_broken_opening = record { fewest = 0; most = 2 }
