-- What the names of a declaration stand for.
use Rattle.std.specs.Prelude.{◌≡◌, ◌↔◌, ℕ, ◌≤◌, List, Option, Some, length, position, slice_get, option_and_then}
use Rattle.std.specs.Str.{bytes_eq}
use Rattle.qc_decl.specs.Limits.{most_invocations, most_objects}
use Rattle.qc_decl.specs.declared.declaration.Declaration.{Declaration}
use Rattle.qc_decl.specs.declared.declaration.KindNames.{KindNames}

-- the number of a name is its place among the names
abbrev pub place_of : List (List ℕ) → List ℕ → Option ℕ
place_of names name = position (bytes_eq name) names

-- each name stands for its place, and for no other
abbrev pub StandForPlaces : List (List ℕ) → Type 0
StandForPlaces names = (name : List ℕ) (number : ℕ) → (place_of names name ≡ Some number)
    ↔ (slice_get names number ≡ Some name)

-- the number of the object of this name
abbrev pub object_named : Declaration → List ℕ → Option ℕ
object_named decl name = place_of decl.object_names name

-- the names of an object's type and of its parts
abbrev pub names_of : Declaration → ℕ → Option KindNames
names_of decl object = option_and_then (slice_get decl.kind_names) (slice_get decl.objects object)

-- the number of the invocation that an object's type has by this name
abbrev pub inv_named : Declaration → ℕ → List ℕ → Option ℕ
inv_named decl object name = option_and_then (λ (names : KindNames). place_of names.invs name) (names_of decl object)

-- there are no more names than the limits allow, so that each number fits a byte
pub record IsNamed (decl : Declaration) : Type 0 where
  pub objects : length decl.object_names ≤ most_objects
  pub invs : (number : ℕ) (names : KindNames) → slice_get decl.kind_names number ≡ Some names
      → length names.invs ≤ most_invocations
