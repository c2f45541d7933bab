-- Records that are kept but for damage: what an actor is given as it rises is its journal, and its journal is found
-- damaged only where a record of it doesn't fit.
use Rattle.std.specs.Prelude.{[], MatchOption, ◌≡◌, ℕ, List, ◌++◌, ◌∷◌}
use Rattle.laws_bounds.specs.Fitting.{JournalFits}
use Rattle.qc_decl.specs.declared.declaration.Declaration.{Declaration}
use Rattle.qc_msg.specs.declared.step.Step.{Step}
use Rattle.qc_promise.specs.Vocabulary.{IsGivenBack, Journal, journal_of, journal_with}
use Rattle.qc_msg.specs.Vocabulary.{damaged_in, rose_in}
use Rattle.qc_msg.specs.declared.record.Record.{Record}

-- of a step of an actor whose journal is this
abbrev pub IsKeptOrMisfit : Declaration → ℕ → Journal → Step → Type 0
IsKeptOrMisfit decl a j step =
    MatchOption (rose_in step) (MatchOption (damaged_in step) (Unit {0}) (λ (x : ℕ). JournalFits decl a j → ⊥))
    (λ (records : List Record). IsGivenBack j records)

-- of an actor's own steps
abbrev pub AreKeptOrMisfits : Declaration → ℕ → List Step → Type 0
AreKeptOrMisfits decl a own =
    (before later : List Step) (s : Step) → before ++ s ∷ later ≡ own → IsKeptOrMisfit decl a (journal_of before) s

-- of an actor's next steps, behind a journal
abbrev pub NextAreKeptOrMisfits : Declaration → ℕ → Journal → List Step → Type 0
NextAreKeptOrMisfits decl a j [] = Unit {0}
NextAreKeptOrMisfits decl a j (s ∷ more) =
    IsKeptOrMisfit decl a j s × NextAreKeptOrMisfits decl a (journal_with j s) more
