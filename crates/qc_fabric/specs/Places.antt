-- Where the messages of a history stand in it: the place of each one's entry, by its number.
use Rattle.std.specs.Prelude.{[], ℕ, ◌+◌, List, ◌∷◌, ◌++◌}
use Rattle.std.specs.Option.{option_map_or}
use Rattle.qc_msg.specs.declared.step.Step.{Step}
use Rattle.qc_msg.specs.Vocabulary.{Entry, Mailed, mailed_in}

-- the place of a step that sends a message
abbrev pub place_of : ℕ → Step → List ℕ
place_of place step = option_map_or (λ (x : Mailed). place ∷ []) (mailed_in step) []

-- the places of a history's messages, whose first entry stands at this place
abbrev pub places_of : ℕ → List Entry → List ℕ
places_of place [] = []
places_of place (e ∷ h) = place_of place e.step ++ places_of (place + 1) h
