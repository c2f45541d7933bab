-- What stands behind what passes have seen: nothing there arms a fault for the disk of a pass's actor.
use Rattle.std.specs.Prelude.{◌≡◌, ℕ, false, List, Some, drop, slice_get}
use Rattle.std.specs.List.{AllByRecursion as Every}
use Rattle.qc_msg.specs.Vocabulary.{Entry}
use Rattle.qc_promise.specs.Vocabulary.{arms_disk}

-- no entry arms a fault for actor a's disk
abbrev pub ArmsNone : ℕ → List Entry → Type 0
ArmsNone a h = Every (λ (e : Entry). arms_disk a e.step ≡ false) h

-- so it is behind where each pass's view of the history ends, by the passes' numbers
abbrev pub ArmsNoneBehind : List ℕ → List Entry → Type 0
ArmsNoneBehind ends h = (a end : ℕ) → slice_get ends a ≡ Some end → ArmsNone a (drop end h)
