-- What a disk holds of an actor that is down: the bodies of its records, with the one that was being written as it
-- fell or without it; and that a journal was begun on it.
use Rattle.std.specs.Prelude.{◌≡◌, ◌⊎◌, ℕ, List, [], ◌∷◌, ◌++◌, Option, Some, None, IfSome, IsSome}
use Rattle.qc_outside.specs.Vocabulary.{Leaves, Told}
use Rattle.qc_journal.specs.Vocabulary.{Holds, HoldsWithOrWithout, IsJournal}

abbrev pub HoldsBodies : List (List ℕ) → Option (List ℕ) → List ℕ → Type 0
HoldsBodies bodies None bytes = Holds bodies bytes
HoldsBodies bodies (Some body) bytes = HoldsWithOrWithout bodies body bytes

-- the disk doesn't tell, or each image that a stop may leave holds them
abbrev pub DiskHolds : Option Told → List (List ℕ) → Option (List ℕ) → Type 0
DiskHolds told bodies pending = IfSome told (λ t. Leaves (HoldsBodies bodies pending) t.now)

-- the disk doesn't tell, or each image that a stop may leave is a begun journal of these bodies
abbrev pub DiskHasJournal : Option Told → List (List ℕ) → Type 0
DiskHasJournal told bodies = IfSome told (λ t. Leaves (IsJournal bodies) t.now)

-- these are the bodies, with the pending one or without it
abbrev pub AreGiven : List (List ℕ) → Option (List ℕ) → List (List ℕ) → Type 0
AreGiven bodies None found = found ≡ bodies
AreGiven bodies (Some body) found = (found ≡ bodies) ⊎ (found ≡ bodies ++ body ∷ [])

-- a disk that told tells
abbrev pub StillTells : Option Told → Option Told → Type 0
StillTells old new = IsSome old → IsSome new

-- the disk doesn't tell, or nothing that was written to it is pending
abbrev pub IsSettled : Option Told → Type 0
IsSettled told = IfSome told (λ t. t.now.writes ≡ [])
