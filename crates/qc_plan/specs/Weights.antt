-- Weights of site sets (weighted voting, Gifford 1979).
use Rattle.std.specs.Prelude.{ℕ, suc, ◌+◌, ◌<◌, Bool, IsTrue, List, [], ◌∷◌, length, if◌then◌else◌}

-- the weight of the sites of a set, where the list has each site's weight
abbrev pub weight : (ℕ → Bool) → List ℕ → ℕ
weight sites [] = 0
weight sites (w ∷ ws) = (if sites 0 then w else 0) + weight (λ site. sites (suc site)) ws

-- the weight of all sites
abbrev pub total : List ℕ → ℕ
total [] = 0
total (w ∷ ws) = w + total ws

-- a site in both sets
pub record IsShared (weights : List ℕ) (a b : ℕ → Bool) : Type 0 where
  pub site : ℕ
  pub within : site < length weights
  pub first : IsTrue (a site)
  pub second : IsTrue (b site)
