-- Texts of several pieces.
use Rattle.std.specs.Prelude.{ℕ, List, [], ◌∷◌, ◌++◌}
use Rattle.std.specs.Borrow.{Bor}

-- the pieces, one after another
abbrev pub joined : List (Bor (List ℕ)) → List ℕ
joined [] = []
joined (piece ∷ []) = piece.now
joined (piece ∷ next ∷ pieces) = piece.now ++ joined (next ∷ pieces)
