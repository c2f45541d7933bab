-- The places of a rack, and what they hold.
use Rattle.std.specs.Prelude.{◌≡◌, ◌≢◌, ℕ, List, [], Option, Some, None, Result, Ok, Err}
use Rattle.qc_outside.specs.Images.{Told, as_read}
use Rattle.qc_outside.specs.declared.rack.RackFault.{RackFault}
use Rattle.qc_outside.specs.declared.rack.RackFault.TheVariants.{NotEmpty, Failed, OutOfMemory}

-- a folder's name, or none, and an actor
pub record Place : Type 0 where
  pub folder : Option (List ℕ)
  pub actor : ℕ

-- what a place holds, where a disk was handed out for it
abbrev pub Places : Type 0
Places = Place → Option (List ℕ)

abbrev pub HoldsNoByte : Option (List ℕ) → Type 0
HoldsNoByte None = Unit {0}
HoldsNoByte (Some bytes) = bytes ≡ []

abbrev pub IsSameAtAll : Places → Places → Type 0
IsSameAtAll old new = (place : Place) → new place ≡ old place

abbrev pub IsSameElsewhere : Place → Places → Places → Type 0
IsSameElsewhere here old new = (place : Place) → place ≢ here → new place ≡ old place

-- a disk is handed out for a place without bytes, and refused for one with bytes
abbrev pub HandsOut : {T : Type 0} → Places → Place → Result T RackFault → Places → Type 0
HandsOut old here (Ok disk) new = HoldsNoByte (old here) × (new here ≡ Some []) × IsSameElsewhere here old new
HandsOut old here (Err (NotEmpty actor)) new = (HoldsNoByte (old here) → ⊥) × IsSameAtAll old new
HandsOut old here (Err (Failed actor)) new = IsSameAtAll old new
HandsOut old here (Err OutOfMemory) new = IsSameAtAll old new

abbrev pub IsHandedOut : {T : Type 0} → Option Places → Place → Result T RackFault → Option Places → Type 0
IsHandedOut None here result None = Unit {0}
IsHandedOut None here result (Some new) = ⊥
IsHandedOut (Some old) here result None = ⊥
IsHandedOut (Some old) here result (Some new) = HandsOut old here result new

-- what a place holds once a disk with these bytes came back to it
abbrev pub held_after : Option (List ℕ) → List ℕ → Option (List ℕ)
held_after None bytes = None
held_after (Some held) bytes = Some bytes

-- the place holds the bytes that the disk reads as, where it tells them; the others stay
abbrev pub PutsBack : Places → Place → Option Told → Places → Type 0
PutsBack old here None new = IsSameElsewhere here old new
PutsBack old here (Some disk) new =
    (new here ≡ held_after (old here) (as_read disk.now)) × IsSameElsewhere here old new

abbrev pub IsPutBack : Option Places → Place → Option Told → Option Places → Type 0
IsPutBack None here disk None = Unit {0}
IsPutBack None here disk (Some new) = ⊥
IsPutBack (Some old) here disk None = ⊥
IsPutBack (Some old) here disk (Some new) = PutsBack old here disk new
