-- The objects of a declaration.
use Rattle.std.specs.Prelude.{ℕ, List, [], ◌∷◌, ◌++◌, length, Option, Ok, codes, slice_get, option_and_then}
use Rattle.toml.specs.Data.{Data, Members}
use Rattle.qc_list.specs.Vocabulary.{◌>>=◌}
use Rattle.qc_decl.specs.Vocabulary.{most_objects}
use Rattle.qc_accept.specs.Answers.{Answer, each}
use Rattle.qc_accept.specs.Fields.{told, required, items, name_among, with_name, no_others, item_table, keys_path}
use Rattle.qc_accept.specs.Types.{TypeOf, TypesOf}

-- the objects' names, and the number of each one's type
pub record ObjectsOf : Type 0 where
  pub names : List (List ℕ)
  pub kinds : List ℕ

-- the keys of an object
abbrev pub object_keys : List (List ℕ)
object_keys = codes "name" ∷ codes "type" ∷ []

-- one object more: a name that no object before has, and a type's name
abbrev pub with_kind : List (List ℕ) → ObjectsOf → List (List ℕ) → List ℕ → Members → Answer ObjectsOf
with_kind types objects known path table =
    required path table (codes "type") >>= (λ d.
    told (path ++ codes "type") (name_among types d) >>= (λ kind.
    no_others path table object_keys >>= (λ _.
    Ok (record { names = known; kinds = objects.kinds ++ kind ∷ [] }))))

abbrev pub with_fields : List (List ℕ) → ObjectsOf → List ℕ → Members → Answer ObjectsOf
with_fields types objects path table =
    required path table (codes "name") >>= (λ name.
    told (path ++ codes "name") (with_name objects.names name) >>= (λ known.
    with_kind types objects known path table))

abbrev pub with_object : List (List ℕ) → ObjectsOf → Data → Answer ObjectsOf
with_object types objects d =
    item_table (codes "object") (length objects.names) d
    >>= with_fields types objects (keys_path (codes "object") (length objects.names))

-- the objects
abbrev pub objects_of : List ℕ → Members → TypesOf → Answer ObjectsOf
objects_of path table types =
    items path table (codes "object") 1 most_objects
    >>= (λ ds. each (with_object types.names) (record { names = []; kinds = [] }) ds)

-- the type of an object
abbrev pub kind_of : TypesOf → ObjectsOf → ℕ → Option TypeOf
kind_of types objects object = option_and_then (slice_get types.list) (slice_get objects.kinds object)
