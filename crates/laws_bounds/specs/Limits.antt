-- Where in a history damage is found: before so many steps, as each event begins before them.
use Rattle.std.specs.Prelude.{◌≡◌, ℕ, ◌<◌, Bool, List, [], ◌∷◌, ◌++◌, length, if◌then◌else◌}
use Rattle.std.specs.List.{list_any}
use Rattle.qc_msg.specs.Vocabulary.{Entry}
use Rattle.qc_msg.specs.declared.step.Step.{Step}
use Rattle.qc_msg.specs.declared.step.Step.TheVariants.{Damaged}

-- a journal is found damaged only behind fewer steps
abbrev pub IsDamagedWithin : ℕ → List Entry → Type 0
IsDamagedWithin most h =
    (before later : List Entry) (e : Entry) (offset : ℕ) → before ++ e ∷ later ≡ h → e.step ≡ Damaged offset
    → length before < most

-- The history before the last step that begins something: an entry stands there where such a step comes after it.
abbrev pub before_last : (Step → Bool) → List Entry → List Entry
before_last begins [] = []
before_last begins (e ∷ later) =
    if list_any (λ (x : Entry). begins x.step) later then e ∷ before_last begins later else []
