-- The two writes of an append, and the one write that it must not make.
use Rattle.std.specs.Prelude.{ℕ, ◌+◌, List, [], ◌∷◌, ◌++◌}
use Rattle.qc_outside.specs.Vocabulary.{Write}
use Rattle.qc_journal.specs.Grammar.{counted}

-- length, body and the next closed gate, behind the closed gate at the end
abbrev pub behind : ℕ → List ℕ → Write
behind end body = record { at = end + 1; bytes = counted body ++ 0 ∷ [] }

-- the gate at the end, now open
abbrev pub gate : ℕ → Write
gate end = record { at = end; bytes = 1 ∷ [] }

-- both in one piece
abbrev pub at_once : ℕ → List ℕ → Write
at_once end body = record { at = end; bytes = 1 ∷ (counted body ++ 0 ∷ []) }
