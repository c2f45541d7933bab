-- What a walk of one triple asks, and what it knows of it: with which two states the events left out are covered.
use Rattle.std.specs.Prelude.{◌≡◌, ℕ, Bool, true, List, slice_index_or}
use Rattle.qc_cert.specs.Faults.{is_covered}
use Rattle.qc_cert.specs.Inductive.{triple}
use Rattle.qc_cert.specs.declared.triple.Triple.{Triple}
use Rattle.qc_table.specs.Vocabulary.{has}

-- a list, and the events that one of its triples leaves out
pub record Asked : Type 0 where
  pub list : List Triple
  pub out : ℕ

-- whether the word of the view's state has a bit for the log's
abbrev pub is_found : List ℕ → ℕ → ℕ → Bool
is_found words view log = has (slice_index_or words view 0) log

-- the events are covered with each two states that have a bit
abbrev pub AreFound : List Triple → ℕ → List ℕ → Type 0
AreFound list out words =
    (view log : ℕ) → is_found words view log ≡ true → is_covered list (triple view log out) ≡ true
