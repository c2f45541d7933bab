-- Commands and replies of one actor in order, through its falls: a command is called only where none runs, a reply is
-- told only where one does, whose reply it is, and the actor falls and rises only where none runs.
use Rattle.std.specs.Prelude.{◌≡◌, Bool, true, false, List, [], ◌∷◌}
use Rattle.qc_core.specs.Vocabulary.{runs_at}
use Rattle.qc_msg.specs.declared.step.Input.{Input}
use Rattle.qc_msg.specs.declared.step.Input.TheVariants as inputs
use Rattle.qc_msg.specs.Vocabulary.{Deed, Falls, Rises, Sends, Takes, Tells, Writes}

-- an input, where a command runs or none does
abbrev pub MayBeGiven : Bool → Input → Type 0
MayBeGiven running (inputs.Called command) = running ≡ false
MayBeGiven running (inputs.Got envelope) = Unit {0}
MayBeGiven running (inputs.Lost number) = Unit {0}

abbrev pub MayCome : Bool → Deed → Type 0
MayCome running (Takes given) = MayBeGiven running given
MayCome running (Writes written) = Unit {0}
MayCome running (Sends number to message) = Unit {0}
MayCome running (Tells reply) = running ≡ true
MayCome running (Falls cause pending) = running ≡ false
MayCome running (Rises records) = running ≡ false

-- so does each of these deeds
abbrev pub AreInOrder : Bool → List Deed → Type 0
AreInOrder running [] = Unit {0}
AreInOrder running (d ∷ ds) = MayCome running d × AreInOrder (runs_at running d) ds
