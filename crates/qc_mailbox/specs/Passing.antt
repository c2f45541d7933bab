-- Control lines that are passed over.
use Rattle.std.specs.Prelude.{Bool, false, List, [], ◌∷◌}
use Rattle.qc_msg.specs.declared.step.Control.{Control}
use Rattle.qc_script.specs.Vocabulary.{does_nothing}

-- the first one has nothing to do
abbrev pub first_does_nothing : List Bool → List Control → Bool
first_does_nothing up [] = false
first_does_nothing up (c ∷ cs) = does_nothing up c
