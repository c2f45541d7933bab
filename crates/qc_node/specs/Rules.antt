-- With which records an actor may rise.
use Rattle.std.specs.Prelude.{◌≡◌, ℕ, true, List}
use Rattle.std.specs.List.{AllByRecursion as Every}
use Rattle.laws_bounds.specs.Vocabulary.{AllFit}
use Rattle.qc_decl.specs.declared.declaration.Declaration.{Declaration}
use Rattle.qc_msg.specs.declared.record.Record.{Record}
use Rattle.qc_record.specs.Vocabulary.{is_legal}

-- each fits the actor at its place, and has a spelling
abbrev pub fits_of : Declaration → ℕ → List Record → Type 0
fits_of decl a records = AllFit decl a 0 records × Every (λ (r : Record). is_legal r ≡ true) records
