-- An actor that never fell is in its first life: all that it did is of it.
use Rattle.std.proofs.Common.{◌≡◌, List, [], ◌∷◌, refl}
use Rattle.qc_msg.specs.Vocabulary.{Deed, Falls, Rises, Sends, Takes, Tells, Writes}
use Rattle.qc_promise.specs.Vocabulary.{lifetime}
use Rattle.qc_promise.proofs.Lifetimes.{AreNoRises, first_life}
use Rattle.qc_core.specs.Vocabulary.{AreSteady}

up_rises : (ds : List Deed) → AreSteady ds → AreNoRises ds
up_rises [] up = tt
up_rises (Takes given ∷ ds) up = (refl, up_rises ds up.1)
up_rises (Writes written ∷ ds) up = (refl, up_rises ds up.1)
up_rises (Sends number to message ∷ ds) up = (refl, up_rises ds up.1)
up_rises (Tells reply ∷ ds) up = (refl, up_rises ds up.1)
up_rises (Falls cause pending ∷ ds) up = absurd up.0
up_rises (Rises records ∷ ds) up = absurd up.0

pub only_life : (ds : List Deed) → AreSteady ds → lifetime ds ≡ record { kept = []; since = ds }
only_life ds up = first_life ds (up_rises ds up)
