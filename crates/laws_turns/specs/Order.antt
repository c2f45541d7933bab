-- Commands and replies of one actor, in their order: a command is called only where none runs, and a reply is told only
-- where one does, whose reply it is.
use Rattle.std.specs.Prelude.{◌≡◌, true, List, [], ◌∷◌, ◌++◌}
use Rattle.qc_core.specs.Vocabulary.{MayTake, is_running}
use Rattle.qc_msg.specs.Vocabulary.{Deed, Falls, Rises, Sends, Takes, Tells, Writes}

abbrev pub IsInOrder : List Deed → Deed → Type 0
IsInOrder before (Takes given) = MayTake before given
IsInOrder before (Writes written) = Unit {0}
IsInOrder before (Sends number to message) = Unit {0}
IsInOrder before (Tells reply) = is_running before ≡ true
IsInOrder before (Falls cause pending) = Unit {0}
IsInOrder before (Rises records) = Unit {0}

-- so is each of these deeds, those before them being `before`
abbrev pub AreInOrder : List Deed → List Deed → Type 0
AreInOrder before [] = Unit {0}
AreInOrder before (d ∷ ds) = IsInOrder before d × AreInOrder (before ++ d ∷ []) ds
