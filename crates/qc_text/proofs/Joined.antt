-- Pieces, one after another.
use Rattle.std.proofs.Common.{◌≡◌, List, [], ◌∷◌, ◌++◌, refl, sym}
use Rattle.std.proofs.lemmas.List.{append-nil}
use Rattle.qc_text.specs.Vocabulary.{pieces_text, piece_text}
use Rattle.qc_text.specs.declared.piece.Piece.{Piece}

-- a first piece, and the rest
pub pieces_text-cons : (piece : Piece) (pieces : List Piece)
    → pieces_text (piece ∷ pieces) ≡ piece_text piece ++ pieces_text pieces
pieces_text-cons piece [] = sym (append-nil (piece_text piece))
pieces_text-cons piece (next ∷ pieces) = refl
