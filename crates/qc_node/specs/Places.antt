-- What the places of a rack, in one folder or in none, hold before a run and after it; why no run began, and what they
-- hold then.
use Rattle.std.specs.Prelude.{◌≡◌, ◌⊎◌, ℕ, ◌<◌, List, [], Option, Some, None, IfSome}
use Rattle.qc_decl.specs.Vocabulary.{controller}
use Rattle.qc_decl.specs.declared.declaration.Declaration.{Declaration}
use Rattle.qc_journal.specs.Vocabulary.{IsJournal}
use Rattle.qc_outside.specs.Vocabulary.{HoldsNoByte, NamesActor, Places, Rose}
use Rattle.qc_outside.specs.declared.rack.RackFault.{RackFault}
use Rattle.qc_outside.specs.declared.rack.RackFault.TheVariants as racks
pub use Rattle.laws_bounds.specs.Places.{HoldJournals, HoldsJournal, place_of}

-- no actor's place holds a byte, where the rack tells
abbrev pub AreEmpty : Option (List ℕ) → Declaration → Option Places → Type 0
AreEmpty folder decl told =
    IfSome told (λ places. (a : ℕ) → a < controller decl → HoldsNoByte (places (place_of folder a)))

-- Why no run began, by what the places held before and the counts of the rack's faults before and now: a place isn't
-- empty only where it holds bytes, and the rack failed only where its count rose.
abbrev pub IsRefused : Option (List ℕ) → Option Places → ℕ → ℕ → RackFault → Type 0
IsRefused folder told before now (racks.NotEmpty actor) =
    IfSome told (λ places. HoldsNoByte (places (place_of folder actor)) → ⊥)
IsRefused folder told before now (racks.Failed actor) = Rose before now
IsRefused folder told before now racks.OutOfMemory = Unit {0}

-- neither rack tells its places, or both do, and this holds of them
abbrev pub BothTell : Option Places → Option Places → (Places → Places → Type 0) → Type 0
BothTell None None P = Unit {0}
BothTell None (Some new) P = ⊥
BothTell (Some old) None P = ⊥
BothTell (Some old) (Some new) P = P old new

-- a journal was begun at the place, and has no records: a closed gate comes first
abbrev pub HasBegun : Option (List ℕ) → Type 0
HasBegun None = ⊥
HasBegun (Some bytes) = IsJournal [] bytes

-- a place wasn't empty
abbrev pub IsNotEmpty : RackFault → Type 0
IsNotEmpty (racks.NotEmpty actor) = Unit {0}
IsNotEmpty (racks.Failed actor) = ⊥
IsNotEmpty racks.OutOfMemory = ⊥

-- No run began, since one actor's process wasn't started: that of the actor whom the fault names, if it names one. Each
-- place that held a byte is as it was. One that held none holds none, or a begun journal; only at that actor's place
-- may a disk that failed have left anything. Where a place wasn't empty, none got a byte. Where one did, the disks of
-- all actors before that one came back with their journals begun.
pub record AreGivenBack (folder : Option (List ℕ)) (fault : RackFault) (old new : Places) : Type 0 where
  pub actor : ℕ
  pub named : NamesActor actor fault
  pub full : (a : ℕ) → (HoldsNoByte (old (place_of folder a)) → ⊥)
      → new (place_of folder a) ≡ old (place_of folder a)
  pub empty : (a : ℕ) → (a ≡ actor → ⊥) → HoldsNoByte (old (place_of folder a))
      → HoldsNoByte (new (place_of folder a)) ⊎ HasBegun (new (place_of folder a))
  pub back : ((a : ℕ) → HoldsNoByte (old (place_of folder a)) → HoldsNoByte (new (place_of folder a)))
      ⊎ ((a : ℕ) → a < actor → HasBegun (new (place_of folder a)))
  pub unwritten : IsNotEmpty fault → (a : ℕ) → HoldsNoByte (old (place_of folder a))
      → HoldsNoByte (new (place_of folder a))
