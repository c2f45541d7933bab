-- Where the lines of an object stand among lines.
use Rattle.std.specs.Prelude.{◌≡◌, ◌≤◌, ℕ, suc, ◌==◌, if◌then◌else◌, List, [], ◌∷◌, length, take, slice_get, Vec}
use Rattle.std.specs.Prelude.{flat_map, option_to_list}
use Rattle.std.specs.Option.{option_map_or}
use Rattle.std.specs.declared.alloc.Global.{Global}
use Rattle.qc_entry.specs.declared.line.Line.{Line}

-- the places of the lines of an object, the first line standing at this one
abbrev pub places_from : ℕ → ℕ → List Line → List ℕ
places_from object at [] = []
places_from object at (l ∷ ls) =
    if l.object == object then at ∷ places_from object (suc at) ls else places_from object (suc at) ls

-- those that are kept for an object
abbrev pub places_at : List (Vec ℕ Global) → ℕ → List ℕ
places_at places object = option_map_or (λ (v : Vec ℕ Global). v.items) (slice_get places object) []

-- the lines at places
abbrev pub picked : List Line → List ℕ → List Line
picked lines places = flat_map (λ (p : ℕ). option_to_list (slice_get lines p)) places

-- the first so many lines are placed, each under its object
pub record ArePlaced (lines : List Line) (places : List (Vec ℕ Global)) (count : ℕ) : Type 0 where
  pub within : count ≤ length lines
  pub each : (object : ℕ) → places_at places object ≡ places_from object 0 (take count lines)
