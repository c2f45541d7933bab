use Rattle.std.proofs.Common.{◌≡◌, ◌++◌, drop}
use Rattle.qc_text.specs.Vocabulary.{pieces_text}
use Rattle.qc_text.proofs.piece.put_all.Given as goal

abbrev pub invariant-pieces : goal.invariant-pieces
invariant-pieces l = l.page ++ pieces_text (drop l.piece-index l.pieces) ≡ l.initial.page ++ pieces_text l.pieces
