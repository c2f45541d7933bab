-- Journals whose records fit their actor, each at its place, and histories in which such rise.
use Rattle.std.specs.Prelude.{◌≡◌, ℕ, ◌+◌, true, List, [], ◌∷◌, length, option_to_list}
use Rattle.std.specs.List.{AllByRecursion as Every}
use Rattle.qc_decl.specs.declared.declaration.Declaration.{Declaration}
use Rattle.qc_fit.specs.Vocabulary.{fits}
use Rattle.qc_msg.specs.declared.record.Record.{Record}
use Rattle.qc_msg.specs.Vocabulary.{Entry}
use Rattle.qc_promise.specs.Vocabulary.{Journal}
use Rattle.laws_bounds.specs.Records.{risen_at}

-- each record fits the actor behind so many others
abbrev pub AllFit : Declaration → ℕ → ℕ → List Record → Type 0
AllFit decl actor before [] = Unit {0}
AllFit decl actor before (r ∷ rs) = (fits decl actor before r ≡ true) × AllFit decl actor (before + 1) rs

-- those that stand in the journal, and the pending one behind them
pub record JournalFits (decl : Declaration) (actor : ℕ) (j : Journal) : Type 0 where
  pub records : AllFit decl actor 0 j.records
  pub pending : AllFit decl actor (length j.records) (option_to_list j.pending)

-- each actor that rises does so with records that fit it
abbrev pub AllRiseFit : Declaration → List Entry → Type 0
AllRiseFit decl h = Every (λ (e : Entry). AllFit decl e.actor 0 (risen_at e.step)) h
