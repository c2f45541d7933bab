-- What a sink took.
use Rattle.std.specs.Prelude.{◌≡◌, ℕ, ◌≤◌, List, ◌++◌, Option, Some, None, Result, Ok, Err}
use Rattle.qc_outside.specs.Causes.{Rose}
use Rattle.qc_outside.specs.declared.sink.SinkFault.{SinkFault}
use Rattle.qc_outside.specs.declared.sink.SinkFault.TheVariants.{Failed, OutOfMemory}

-- the whole piece was taken, or a prefix of it, or nothing
abbrev pub Takes : List ℕ → List ℕ → Result (Unit {0}) SinkFault → List ℕ → Type 0
Takes old piece (Ok done) new = new ≡ old ++ piece
Takes old piece (Err Failed) new = (front : List ℕ) × (back : List ℕ) × (front ++ back ≡ piece) × (new ≡ old ++ front)
Takes old piece (Err OutOfMemory) new = new ≡ old

-- a sink that tells takes so and still tells, and one that doesn't never begins to
abbrev pub IsWritten : Option (List ℕ) → List ℕ → Result (Unit {0}) SinkFault → Option (List ℕ) → Type 0
IsWritten None piece result None = Unit {0}
IsWritten None piece result (Some new) = ⊥
IsWritten (Some old) piece result None = ⊥
IsWritten (Some old) piece result (Some new) = Takes old piece result new

-- the count of faults never falls, rises where the sink failed, and stands where memory was wanting
pub record SinkRose (before now : ℕ) (result : Result (Unit {0}) SinkFault) : Type 0 where
  pub later : before ≤ now
  pub failed : result ≡ Err Failed → Rose before now
  pub wanting : result ≡ Err OutOfMemory → now ≡ before
