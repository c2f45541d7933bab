-- What a disk holds, and the images that a stop may leave of it.
use Rattle.std.specs.Prelude.{◌≡◌, ◌⊎◌, ℕ, ◌+◌, ◌-◌, ◌<◌, ◌≤◌, List, [], ◌∷◌, ◌++◌, length, take, drop, replicate}
use Rattle.std.specs.Prelude.{get_or, Option, Some, None}
use Rattle.std.specs.List.{AllByRecursion}

-- bytes that were written from an offset on
pub record Write : Type 0 where
  pub at : ℕ
  pub bytes : List ℕ

-- what lasts since the last sync, and what was written since then, the newest first
pub record Stored : Type 0 where
  pub synced : List ℕ
  pub writes : List Write

-- the old bytes, and zeros up to the offset where they end before it
abbrev pub padded : List ℕ → ℕ → List ℕ
padded old at = old ++ replicate (at - length old) 0

-- the old bytes with these in their place
abbrev pub overwritten : List ℕ → Write → List ℕ
overwritten old w = take w.at (padded old w.at) ++ w.bytes ++ drop (w.at + length w.bytes) old

abbrev pub all_written : List ℕ → List Write → List ℕ
all_written synced [] = synced
all_written synced (w ∷ earlier) = overwritten (all_written synced earlier) w

-- the bytes as a read gives them
abbrev pub as_read : Stored → List ℕ
as_read s = all_written s.synced s.writes

-- the place is in none of the written ranges
abbrev pub IsOutside : List Write → ℕ → Type 0
IsOutside [] i = Unit {0}
IsOutside (w ∷ writes) i = ((i < w.at) ⊎ (w.at + length w.bytes ≤ i)) × IsOutside writes i

-- A stop may leave these bytes. In the written ranges and past the old end it may leave any, and elsewhere the same;
-- the length is the old one, or one up to the new one.
pub record IsImage (s : Stored) (image : List ℕ) : Type 0 where
  pub no_shorter : length s.synced ≤ length image
  pub no_longer : length image ≤ length (as_read s)
  pub same : (i : ℕ) → i < length s.synced → IsOutside s.writes i → get_or image i 0 ≡ get_or s.synced i 0

-- after a write
abbrev pub wrote : Stored → Write → Stored
wrote s w = record { synced = s.synced; writes = w ∷ s.writes }

-- with nothing pending
abbrev pub settled : List ℕ → Stored
settled bytes = record { synced = bytes; writes = [] }

-- what a disk tells: what it holds now, and at each moment before, the newest first
pub record Told : Type 0 where
  pub now : Stored
  pub past : List Stored

-- what an empty disk tells before its first call
abbrev pub told_at_first : Told
told_at_first = record { now = settled []; past = [] }

-- each image that a stop then may leave has P
abbrev pub Leaves : (List ℕ → Type 0) → Stored → Type 0
Leaves P s = (image : List ℕ) → IsImage s image → P image

-- each image that a stop at a moment after old, up to new, may leave has P
pub record Since (P : List ℕ → Type 0) (old new : Told) : Type 0 where
  pub later : List Stored
  pub past : new.past ≡ later ++ old.past
  pub now : Leaves P new.now
  pub each : AllByRecursion (Leaves P) later

-- both tell, and P holds of what they tell; or neither tells
abbrev pub Tells : Option Told → Option Told → (Told → Told → Type 0) → Type 0
Tells None None P = Unit {0}
Tells None (Some new) P = ⊥
Tells (Some old) None P = ⊥
Tells (Some old) (Some new) P = P old new
