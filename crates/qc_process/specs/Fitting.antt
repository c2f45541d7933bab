-- Whether all records of a journal fit their actor, each at its place.
use Rattle.std.specs.Prelude.{◌≡◌, ◌⊎◌, ℕ, ◌+◌, Bool, true, false, ◌&&◌, List, [], ◌∷◌, ◌++◌, length, map}
use Rattle.std.specs.Prelude.{option_to_list}
use Rattle.std.specs.List.{AllByRecursion as Every}
use Rattle.qc_decl.specs.declared.declaration.Declaration.{Declaration}
use Rattle.qc_fit.specs.Vocabulary.{fits}
use Rattle.qc_journal.specs.Vocabulary.{Holds, IsNoJournal}
use Rattle.qc_msg.specs.declared.record.Record.{Record}
use Rattle.qc_msg.specs.declared.step.Step.{Step}
use Rattle.qc_promise.specs.Vocabulary.{IsKeptOrUnfit, Journal, journal_of}
use Rattle.qc_record.specs.Vocabulary.{is_legal, spelled}

-- each has a spelling
abbrev pub AreLegal : List Record → Type 0
AreLegal rs = Every (λ (r : Record). is_legal r ≡ true) rs

-- each record fits the actor behind so many others
abbrev pub all_fit : Declaration → ℕ → ℕ → List Record → Bool
all_fit decl a before [] = true
all_fit decl a before (r ∷ rs) = fits decl a before r && all_fit decl a (before + 1) rs

-- those that stand in the journal do, and the pending one behind them
abbrev pub journal_fits : Declaration → ℕ → Journal → Bool
journal_fits decl a j = all_fit decl a 0 (j.records ++ option_to_list j.pending)

-- Each of an actor's own steps leaves its records, or finds damage where a record doesn't fit.
abbrev pub AreKeptOrUnfit : Declaration → ℕ → List Step → Type 0
AreKeptOrUnfit decl a own = (before later : List Step) (s : Step) → before ++ s ∷ later ≡ own
    → IsKeptOrUnfit (journal_fits decl a (journal_of before)) before s

-- whatever records these bodies spell, not all of them fit
abbrev pub AreUnfit : Declaration → ℕ → List (List ℕ) → Type 0
AreUnfit decl a bodies = (rs : List Record) → AreLegal rs → bodies ≡ map spelled rs → all_fit decl a 0 rs ≡ false

-- the bytes of records with these bodies, each with its gate and its length
abbrev pub bytes_of : List (List ℕ) → ℕ
bytes_of [] = 0
bytes_of (body ∷ bodies) = 5 + length body + bytes_of bodies

-- the first of these bodies that is no record, or none that fits, stands at this offset
pub record IsFirstUnfit (decl : Declaration) (a : ℕ) (bodies : List (List ℕ)) (offset : ℕ) : Type 0 where
  pub records : List Record
  pub body : List ℕ
  pub later : List (List ℕ)
  pub whole : bodies ≡ map spelled records ++ body ∷ later
  pub legal : AreLegal records
  pub fit : all_fit decl a 0 records ≡ true
  pub unfit : (r : Record) → is_legal r ≡ true → body ≡ spelled r → fits decl a (length records) r ≡ false
  pub offset_is : offset ≡ bytes_of (map spelled records)

-- at this offset the bytes cease to be a journal, or a record stands there that doesn't fit
abbrev pub IsDamaged : Declaration → ℕ → ℕ → List ℕ → Type 0
IsDamaged decl a offset bytes =
    IsNoJournal offset bytes ⊎ ((bodies : List (List ℕ)) × Holds bodies bytes × IsFirstUnfit decl a bodies offset)
