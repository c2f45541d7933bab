-- Which actors are passed over: those of which one of two bits is set.
use Rattle.std.specs.Prelude.{Bool, ◌||◌, List, [], ◌∷◌}

abbrev pub either : List Bool → List Bool → List Bool
either [] bs = bs
either (a ∷ more) [] = a ∷ more
either (a ∷ more) (b ∷ bs) = (a || b) ∷ either more bs
