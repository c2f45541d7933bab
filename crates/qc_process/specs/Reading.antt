-- What reading the bodies of a journal gives.
use Rattle.std.specs.Prelude.{◌≡◌, ℕ, true, false, List, Option, Some, None, Vec}
use Rattle.std.specs.declared.alloc.Global.{Global}
use Rattle.qc_decl.specs.declared.declaration.Declaration.{Declaration}
use Rattle.qc_fit.specs.Vocabulary.{fits}
use Rattle.qc_journal.specs.Vocabulary.{lists}
use Rattle.qc_msg.specs.declared.record.Record.{Record}
use Rattle.qc_record.specs.Vocabulary.{is_legal, spelled}
use Rattle.qc_process.specs.Fitting.{AreLegal, AreUnfit, IsFirstUnfit, all_fit}
use Rattle.qc_process.specs.Stored.{bodies_of}
use Rattle.qc_process.specs.declared.reading.Reading.{Reading}
use Rattle.qc_process.specs.declared.reading.Reading.TheVariants.{Fit, Unfit}

-- one body gives the record that it spells, where that fits; no record where no such one fits
abbrev pub ReadsOne : Declaration → ℕ → ℕ → List ℕ → Option Record → Type 0
ReadsOne decl a before body (Some r) = (body ≡ spelled r) × (is_legal r ≡ true) × (fits decl a before r ≡ true)
ReadsOne decl a before body None = (r : Record) → is_legal r ≡ true → body ≡ spelled r → fits decl a before r ≡ false

-- the bodies spell these records, which all fit
pub record ReadsFit (decl : Declaration) (a : ℕ) (bodies : List (List ℕ)) (records : List Record) : Type 0 where
  pub legal : AreLegal records
  pub spell : bodies ≡ bodies_of records
  pub fit : all_fit decl a 0 records ≡ true

abbrev pub ReadsAs : Declaration → ℕ → List (Vec ℕ Global) → Reading → Type 0
ReadsAs decl a bodies (Fit records) = ReadsFit decl a (lists bodies) records.items
ReadsAs decl a bodies (Unfit offset) = AreUnfit decl a (lists bodies) × IsFirstUnfit decl a (lists bodies) offset
