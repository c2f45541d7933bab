-- What the places of a rack in memory hold.
use Rattle.std.specs.Prelude.{◌≡◌, ℕ, ◌<◌, Bool, true, false, ◌&&◌, nat_eq, List, [], ◌∷◌, ◌++◌, length, take, find}
use Rattle.std.specs.Prelude.{bytes_eq, HoldsAt, Option, Some, None, option_map, Vec, if◌then◌else◌}
use Rattle.std.specs.declared.alloc.Global.{Global}
use Rattle.qc_outside.specs.Places.{Place, Places}
use Rattle.qc_outside.specs.declared.mem_rack.Kept.{Kept}
use Rattle.qc_outside.specs.declared.tear.Tear.{Tear}

-- both are none, or the same name
abbrev pub is_folder : Option (List ℕ) → Option (List ℕ) → Bool
is_folder None None = true
is_folder None (Some b) = false
is_folder (Some a) None = false
is_folder (Some a) (Some b) = bytes_eq a b

abbrev pub name_of : Option (Vec ℕ Global) → Option (List ℕ)
name_of folder = option_map (λ v. v.items) folder

-- what is kept there is of this place
abbrev pub is_at : Place → Kept → Bool
is_at place kept = is_folder place.folder (name_of kept.folder) && nat_eq place.actor kept.actor

-- the bytes of the first that is of the place
abbrev pub held : List Kept → Places
held all place = option_map (λ kept. kept.bytes.items) (find (is_at place) all)

-- the first that is of the place stands there, or none is
abbrev pub IsFirstAt : Place → List Kept → Option ℕ → Type 0
IsFirstAt place all None = find (is_at place) all ≡ None
IsFirstAt place all (Some index) =
    (index < length all) × (find (is_at place) (take index all) ≡ None)
    × HoldsAt (λ kept. is_at place kept ≡ true) all index

-- it is of the place, and holds no byte
pub record IsEmptyPlace (place : Place) (kept : Kept) : Type 0 where
  pub folder : name_of kept.folder ≡ place.folder
  pub actor : kept.actor ≡ place.actor
  pub bytes : kept.bytes.items ≡ []

-- one such more is kept
abbrev pub IsAdded : List Kept → Place → List Kept → Type 0
IsAdded old place new = (kept : Kept) × IsEmptyPlace place kept × (new ≡ old ++ kept ∷ [])

-- what the falls of an actor's disks do: what the first that is listed for it says, or what those of the others do
abbrev pub tear_of : List (ℕ × Tear) → Tear → ℕ → Tear
tear_of [] others actor = others
tear_of (listed ∷ tears) others actor = if nat_eq listed.0 actor then listed.1 else tear_of tears others actor
