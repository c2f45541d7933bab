-- The section of states: the state of each object after a replay of the committed operations.
use Rattle.std.specs.Prelude.{ℕ, List, [], ◌++◌, Option, Some, None, codes, flat_map, length, slice_get}
use Rattle.std.specs.List.{range_with_len}
use Rattle.std.specs.Option.{option_map_or}
use Rattle.qc_decl.specs.declared.declaration.Declaration.{Declaration}
use Rattle.qc_text.specs.Names.{object_name, state_name}

-- the name of an object's state, and `?` where a step was missing
abbrev pub state_text : Declaration → Option (List ℕ) → ℕ → List ℕ
state_text decl None object = codes "?"
state_text decl (Some states) object = option_map_or (state_name decl object) (slice_get states object) []

abbrev pub state_line : Declaration → Option (List ℕ) → ℕ → List ℕ
state_line decl states object = object_name decl object ++ (codes " " ++ (state_text decl states object ++ codes "\n"))

abbrev pub states_text : Declaration → Option (List ℕ) → List ℕ
states_text decl states = codes "states\n" ++ flat_map (state_line decl states) (range_with_len 0 (length decl.objects))
