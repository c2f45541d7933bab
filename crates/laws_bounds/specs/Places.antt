-- What the places of a rack hold once disks came back: the journals of their actors.
use Rattle.std.specs.Prelude.{◌≡◌, ℕ, ◌<◌, Bool, true, List, map, Option, Some, None, IfSome, IsSome, option_map}
use Rattle.qc_decl.specs.Vocabulary.{controller}
use Rattle.qc_decl.specs.declared.declaration.Declaration.{Declaration}
use Rattle.qc_msg.specs.Vocabulary.{Entry, own}
use Rattle.qc_outside.specs.Vocabulary.{Place, Places, Told}
use Rattle.qc_promise.specs.Vocabulary.{Journal, journal_of}
use Rattle.qc_record.specs.Vocabulary.{spelled}
use Rattle.qc_store.specs.Vocabulary.{DiskHolds, HoldsBodies}

-- the place of an actor in a folder, or without one
abbrev pub place_of : Option (List ℕ) → ℕ → Place
place_of folder a = record { folder = folder; actor = a }

-- the bytes of a place are a journal of these bodies, with the pending one or without it
abbrev pub PlaceHolds : List (List ℕ) → Option (List ℕ) → Option (List ℕ) → Type 0
PlaceHolds bodies pending None = ⊥
PlaceHolds bodies pending (Some bytes) = HoldsBodies bodies pending bytes

-- the bodies are the records that stand in the journal, and the one that was being written as its actor fell last
abbrev pub HoldsJournal : Journal → Option (List ℕ) → Type 0
HoldsJournal j bytes = PlaceHolds (map spelled j.records) (option_map spelled j.pending) bytes

-- each actor's place holds the journal of its own steps, where the rack tells
abbrev pub HoldJournals : Option (List ℕ) → Declaration → List Entry → Option Places → Type 0
HoldJournals folder decl h told =
    IfSome told
    (λ places. (a : ℕ) → a < controller decl → HoldsJournal (journal_of (own a h)) (places (place_of folder a)))

-- the disk tells, and holds the journal
pub record JournalIsOn (j : Journal) (told : Option Told) : Type 0 where
  pub tells : IsSome told
  pub holds : DiskHolds told (map spelled j.records) (option_map spelled j.pending)

-- a disk was handed out for each actor below a number
abbrev pub AreHandedOut : Option (List ℕ) → ℕ → Places → Type 0
AreHandedOut folder n places = (a : ℕ) → a < n → IsSome (places (place_of folder a))

-- while disks come back, the places of those that were visited hold their journals
pub record AreBackSoFar (folder : Option (List ℕ)) (n : ℕ) (h : List Entry) (visited : ℕ → Bool) (places : Places)
    : Type 0 where
  pub handed : AreHandedOut folder n places
  pub back : (a : ℕ) → visited a ≡ true → HoldsJournal (journal_of (own a h)) (places (place_of folder a))
