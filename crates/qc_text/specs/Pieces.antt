-- Parts of a line, and lines of several parts.
use Rattle.std.specs.Prelude.{ℕ, List, [], ◌∷◌, ◌++◌, decimal}
use Rattle.qc_text.specs.Parts.{site_text, stamp_text, transaction_text}
use Rattle.qc_text.specs.declared.piece.Piece.{Piece}
use Rattle.qc_text.specs.declared.piece.Piece.TheVariants.{Words, Number, Site, Transaction, Stamp}

abbrev pub piece_text : Piece → List ℕ
piece_text (Words words) = words.now
piece_text (Number number) = decimal number
piece_text (Site site) = site_text site
piece_text (Transaction tx) = transaction_text tx
piece_text (Stamp stamp) = stamp_text stamp

-- the pieces, one after another
abbrev pub pieces_text : List Piece → List ℕ
pieces_text [] = []
pieces_text (piece ∷ []) = piece_text piece
pieces_text (piece ∷ next ∷ pieces) = piece_text piece ++ pieces_text (next ∷ pieces)
