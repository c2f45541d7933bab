-- The real outside, as contracts see it.
use Rattle.std.specs.Prelude.{◌≡◌, ℕ, List, ◌++◌, Option}
use Rattle.std.specs.Io.KnownBytes.{Appends}
use Rattle.qc_files.specs.Handed.{HandedOver}

-- a shelf of the system's files: what it handed over, oldest first, and its count of faults
pub record ShelfOfFiles : Type 0 where
  pub handed : List HandedOver
  pub faults : ℕ

-- a sink over a writer: the writer, the bytes that it took, and the count of faults
pub record SinkOverWriter (W : Type 0) : Type 0 where
  pub writer : W
  pub taken : List ℕ
  pub faults : ℕ

-- What was taken grew by just the bytes that the writer says it holds more, where it says what it holds.
pub record IsTakenByWriter (held holds : Option (List ℕ)) (old new : List ℕ) : Type 0 where
  pub more : List ℕ
  pub grew : new ≡ old ++ more
  pub wrote : Appends held holds more
