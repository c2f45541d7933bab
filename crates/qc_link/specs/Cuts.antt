-- Which actors are cut from each other. Actors are numbered below the most actors.
use Rattle.std.specs.Prelude.{ℕ, ◌+◌, ◌*◌, ◌==◌, ◌&&◌, ◌||◌, Bool, true, false, List, set, get_or, min, max, replicate}
use Rattle.qc_link.specs.Limits.{most_actors}

-- the place of a pair of actors, in either order
abbrev pub pair_place : ℕ → ℕ → ℕ
pair_place a b = most_actors * min a b + max a b

-- whether two pairs are of the same actors, in either order
abbrev pub is_pair : ℕ → ℕ → ℕ → ℕ → Bool
is_pair a b x y = ((a == x) && (b == y)) || ((a == y) && (b == x))

-- no cut
abbrev pub no_cuts : List Bool
no_cuts = replicate (most_actors * most_actors) false

-- whether two actors are cut from each other
abbrev pub is_cut : List Bool → ℕ → ℕ → Bool
is_cut cuts a b = get_or cuts (pair_place a b) false

-- the two are cut from each other
abbrev pub with_cut : List Bool → ℕ → ℕ → List Bool
with_cut cuts a b = set cuts (pair_place a b) true

-- the two are joined, however often they were cut
abbrev pub without_cut : List Bool → ℕ → ℕ → List Bool
without_cut cuts a b = set cuts (pair_place a b) false
