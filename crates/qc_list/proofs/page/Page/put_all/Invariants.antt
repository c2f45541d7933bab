use Rattle.std.proofs.Common.{◌≡◌, ◌++◌, drop}
use Rattle.qc_list.specs.Vocabulary.{joined}
use Rattle.qc_list.proofs.page.Page.put_all.Given as goal

abbrev pub invariant-pieces : goal.invariant-pieces
invariant-pieces l = l.self ++ joined (drop l.piece-index l.pieces) ≡ l.initial.self ++ joined l.pieces
