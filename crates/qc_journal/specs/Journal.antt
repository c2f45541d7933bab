-- What an open journal knows of its disk.
use Rattle.std.specs.Prelude.{All, ◌≡◌, ◌⊎◌, ℕ, ◌+◌, ◌*◌, ◌≤◌, ◌<◌, ◌^◌, List, ◌∷◌, ◌++◌, length, Option, IfSome, map}
use Rattle.std.specs.Prelude.{Vec}
use Rattle.std.specs.declared.alloc.Global.{Global}
use Rattle.qc_outside.specs.Vocabulary.{IsImage, Stored, Told, as_read, settled}
use Rattle.qc_journal.specs.Grammar.{AreRecords, counted}

-- Nothing is pending, and at the end of the records of these bodies stands the closed gate.
pub record IsAtRest (end : ℕ) (bodies : List (List ℕ)) (told : Told) : Type 0 where
  pub front : List ℕ
  pub rest : List ℕ
  pub records : AreRecords bodies front
  pub end_is : length front ≡ end
  pub lasting : told.now ≡ settled (front ++ 0 ∷ rest)

-- Nothing is pending, and behind that closed gate stand one body more, with its length, and the next closed gate.
pub record IsBehind (end : ℕ) (bodies : List (List ℕ)) (body : List ℕ) (told : Told) : Type 0 where
  pub front : List ℕ
  pub rest : List ℕ
  pub records : AreRecords bodies front
  pub end_is : length front ≡ end
  pub lasting : told.now ≡ settled (front ++ 0 ∷ (counted body ++ 0 ∷ rest))

-- at the end of the records of these bodies stands a closed gate
pub record Stands (end : ℕ) (bodies : List (List ℕ)) (bytes : List ℕ) : Type 0 where
  pub front : List ℕ
  pub rest : List ℕ
  pub records : AreRecords bodies front
  pub place : length front ≡ end
  pub closed : bytes ≡ front ++ 0 ∷ rest

-- the disk doesn't tell, or is at rest
abbrev pub Rests : Option Told → ℕ → List (List ℕ) → Type 0
Rests told end bodies = IfSome told (λ t. IsAtRest end bodies t)

-- room for a body of that length, in the journal and its disk
pub record IsReserved (capacity : ℕ) (has_room : ℕ → ℕ → Type 0) (end count : ℕ) : Type 0 where
  pub frame : count + 5 ≤ capacity
  pub disk : has_room 2 (end + count + 6)
  pub bound : end + count + 6 < 2 ^ 64

-- the end of so many records: each has at most 65,541 bytes, with its gate and its length
abbrev pub EndsWithin : ℕ → ℕ → Type 0
EndsWithin end records = end ≤ 65541 * records

-- the bytes of each
abbrev pub lists : List (Vec ℕ Global) → List (List ℕ)
lists vs = map (λ (v : Vec ℕ Global). v.items) vs

-- each has at most the most bytes of a body
abbrev pub AreShort : List (Vec ℕ Global) → Type 0
AreShort vs = All (λ (v : Vec ℕ Global). length v.items ≤ 65536) vs

-- records of these bodies stand before the place
pub record Passed (at : ℕ) (bodies : List (List ℕ)) (bytes : List ℕ) : Type 0 where
  pub front : List ℕ
  pub rest : List ℕ
  pub records : AreRecords bodies front
  pub place : length front ≡ at
  pub split : bytes ≡ front ++ rest

-- A stop while a journal is opened leaves what one before might; on a disk of length 0 or 1 it leaves no record.
abbrev pub IsLeftAtOpen : Stored → List ℕ → Type 0
IsLeftAtOpen s image = IsImage s image ⊎ ((length (as_read s) ≤ 1) × (length image ≤ 1))
