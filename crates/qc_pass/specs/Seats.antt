-- Who has which seat of the word, and a word with given seats.
use Rattle.std.specs.Prelude.{ℕ, ◌≡◌, true, List, [], ◌∷◌, slice_get, Some}
use Rattle.atomic_table.specs.Table.{State}
use Rattle.qc_pass.specs.declared.view.View.{View}

module _ {E : Type 0} where
  -- the seat k knows v, and is a pass
  abbrev pub IsPassAt : State (Unit {0}) (View E) → ℕ → View E → Type 0
  IsPassAt s k v = (slice_get s.views k ≡ Some v) × (v.is_pass ≡ true)

  -- the seat k knows v, and has the right
  abbrev pub IsRightAt : State (Unit {0}) (View E) → ℕ → View E → Type 0
  IsRightAt s k v = (slice_get s.views k ≡ Some v) × (v.has_right ≡ true)

  -- the word that counts n, whose seats know these views
  abbrev pub word_of : ℕ → List (View E) → State (Unit {0}) (View E)
  word_of n views = record { words = n ∷ []; homes = []; views = views }
