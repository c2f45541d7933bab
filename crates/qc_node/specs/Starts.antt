-- What a rack is while its disks are handed out to the actors of a run, one by one; why no process began, and how the
-- disks that were handed out come back.
use Rattle.std.specs.Prelude.{◌≡◌, ℕ, ◌+◌, ◌<◌, ◌≤◌, Bool, true, List, [], Option, Some, Ok, All, IsSome, is_some}
use Rattle.std.specs.Prelude.{slice_get}
use Rattle.qc_decl.specs.declared.declaration.Declaration.{Declaration}
use Rattle.qc_outside.specs.Vocabulary.{HoldsNoByte, IsHandedOut, IsSameAtAll, NamesActor, Places, Rose, Told, settled}
use Rattle.qc_outside.specs.declared.rack.RackFault.{RackFault}
use Rattle.qc_outside.specs.declared.rack.RackFault.TheVariants as racks
use Rattle.qc_process.specs.Vocabulary.{IsProcess, IsUp, ProcessView}
use Rattle.laws_bounds.specs.Vocabulary.{AreHandedOut, place_of}
use Rattle.qc_node.specs.Places.{AreGivenBack, BothTell, HasBegun, IsRefused}

-- the processes of the actors from 0 on, before these do anything
abbrev pub AreProcesses : Bool → Declaration → List ProcessView → Type 0
AreProcesses tells decl ps = (a : ℕ) (p : ProcessView) → slice_get ps a ≡ Some p → IsProcess tells decl a [] p

-- their journals are open
abbrev pub AreUp : List ProcessView → Type 0
AreUp ps = (a : ℕ) (p : ProcessView) → slice_get ps a ≡ Some p → IsUp p.store

-- A disk that was handed out and did nothing yet, with its count of faults: it holds no byte, and tells where its rack
-- does.
pub record IsUnwritten (tells : Bool) (told : Option Told) (count : ℕ) : Type 0 where
  pub still : tells ≡ true → IsSome told
  pub empty : (t : Told) → told ≡ Some t → t.now ≡ settled []
  pub fresh : count ≡ 0

-- all of these are, by what each disk tells and counted
abbrev pub AreUnwritten : {D : Type 0} → Bool → (D → Option Told) → (D → ℕ) → List D → Type 0
AreUnwritten tells told count disks = All (λ disk. IsUnwritten tells (told disk) (count disk)) disks

-- disks were handed out for the actors below a number, at whose places there was no byte; those of the others stay
pub record AreHandedBelow (folder : Option (List ℕ)) (n : ℕ) (old new : Places) : Type 0 where
  pub empty : (a : ℕ) → a < n → HoldsNoByte (old (place_of folder a))
  pub handed : AreHandedOut folder n new
  pub same : (a : ℕ) → n ≤ a → new (place_of folder a) ≡ old (place_of folder a)

abbrev pub IsHandedBelow : Option (List ℕ) → ℕ → Option Places → Option Places → Type 0
IsHandedBelow folder n old new = BothTell old new (AreHandedBelow folder n)

-- A rack's places, and its count, before and after it handed out the disks of the actors below a number.
pub record AreStarted (folder : Option (List ℕ)) (n : ℕ) (old : Option Places) (before : ℕ) (new : Option Places)
    (now : ℕ) : Type 0 where
  pub places : IsHandedBelow folder n old new
  pub later : before ≤ now

-- of one actor
pub record IsStarted (folder : Option (List ℕ)) (a : ℕ) (old : Option Places) (before : ℕ) (new : Option Places)
    (now : ℕ) : Type 0 where
  pub handed : IsHandedOut {T = Unit {0}} old (place_of folder a) (Ok tt) new
  pub later : before ≤ now

-- A rack before and after it refused the disk of one actor.
pub record IsUnstarted (folder : Option (List ℕ)) (a : ℕ) (old : Option Places) (before : ℕ) (new : Option Places)
    (now : ℕ) (fault : RackFault) : Type 0 where
  pub why : IsRefused folder old before now fault
  pub named : NamesActor a fault
  pub later : before ≤ now
  pub places : BothTell old new IsSameAtAll

-- A rack before and after a start that was given up.
pub record AreUnstarted (folder : Option (List ℕ)) (old : Option Places) (before : ℕ) (new : Option Places) (now : ℕ)
    (fault : RackFault) : Type 0 where
  pub why : IsRefused folder old before now fault
  pub later : before ≤ now
  pub tells : is_some new ≡ is_some old
  pub back : BothTell old new (AreGivenBack folder fault)

-- the disks of the actors below a number came back, with their journals begun; the places of the others stay
pub record AreBackBelow (folder : Option (List ℕ)) (n : ℕ) (old new : Places) : Type 0 where
  pub begun : (a : ℕ) → a < n → HasBegun (new (place_of folder a))
  pub same : (a : ℕ) → n ≤ a → new (place_of folder a) ≡ old (place_of folder a)

-- A rack to which the disks of the actors below a number came back.
pub record IsGivenBack (folder : Option (List ℕ)) (n : ℕ) (old : Option Places) (before : ℕ) (new : Option Places)
    (now : ℕ) : Type 0 where
  pub later : before ≤ now
  pub places : BothTell old new (AreBackBelow folder n)

-- the disks of so many actors, from one on, came back unwritten; the places of the others stay
pub record AreBackFrom (folder : Option (List ℕ)) (first n : ℕ) (old new : Places) : Type 0 where
  pub empty : (a : ℕ) → first ≤ a → a < first + n → HoldsNoByte (new (place_of folder a))
  pub before : (a : ℕ) → a < first → new (place_of folder a) ≡ old (place_of folder a)
  pub behind : (a : ℕ) → first + n ≤ a → new (place_of folder a) ≡ old (place_of folder a)

-- A rack to which the unwritten disks of so many actors, from one on, came back.
pub record IsBackFrom (folder : Option (List ℕ)) (first n : ℕ) (old : Option Places) (before : ℕ)
    (new : Option Places) (now : ℕ) : Type 0 where
  pub later : before ≤ now
  pub places : BothTell old new (AreBackFrom folder first n)

-- Why no journal was begun on an unwritten disk: it failed, and the rack's count rose, or memory was wanting. That it
-- isn't empty comes only where the rack doesn't tell.
abbrev pub IsUnbegun : Option Places → ℕ → ℕ → RackFault → Type 0
IsUnbegun told before now (racks.NotEmpty actor) = IsSome told → ⊥
IsUnbegun told before now (racks.Failed actor) = Rose before now
IsUnbegun told before now racks.OutOfMemory = Unit {0}

-- the disks of the actors below a number came back: those before one with their journals begun, those behind it
-- unwritten; the places of the others stay
pub record AreBackBut (folder : Option (List ℕ)) (n actor : ℕ) (old new : Places) : Type 0 where
  pub begun : (a : ℕ) → a < actor → HasBegun (new (place_of folder a))
  pub behind : (a : ℕ) → actor < a → a < n → HoldsNoByte (new (place_of folder a))
  pub same : (a : ℕ) → n ≤ a → new (place_of folder a) ≡ old (place_of folder a)

-- A rack that had handed out the disks of the actors below a number, before and after no journal was begun on one.
pub record AreUnbegun (folder : Option (List ℕ)) (n : ℕ) (old : Option Places) (before : ℕ) (new : Option Places)
    (now : ℕ) (fault : RackFault) : Type 0 where
  pub actor : ℕ
  pub named : NamesActor actor fault
  pub why : IsUnbegun old before now fault
  pub later : before ≤ now
  pub places : BothTell old new (AreBackBut folder n actor)
