-- What a shelf handed over.
use Rattle.std.specs.Prelude.{ℕ, List}
use Rattle.qc_outside.specs.Vocabulary.{Answer}

-- one call of a shelf: a file's name, the most bytes that it was to have, and what was handed over
abbrev pub HandedOver : Type 0
HandedOver = List ℕ × (ℕ × Answer)
