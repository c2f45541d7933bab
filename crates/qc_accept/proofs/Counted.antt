-- How many objects there are after one more.
use Rattle.std.proofs.Common.{◌≡◌, ℕ, ◌+◌, ◌++◌, List, [], ◌∷◌, Some, Ok, length, sym, ap, ◌∙◌}
use Rattle.std.specs.Prelude.{codes, not, ◌&&◌}
use Rattle.std.specs.List.{list_any}
use Rattle.std.specs.Str.{bytes_eq}
use Rattle.std.proofs.lemmas.List.{length_push}
use Rattle.std.proofs.lemmas.Option.{cond_some}
use Rattle.toml.specs.Data.{Data, as_str}
use Rattle.qc_accept.specs.Vocabulary.{ObjectsOf, item_table, keys_path, name_among, no_others, object_keys, required}
use Rattle.qc_accept.specs.Vocabulary.{told, with_name, with_object, with_text}
use Rattle.qc_decl.specs.Vocabulary.{is_name}
use Rattle.qc_accept.proofs.Answered.{came, found, same_ok, told_some}

-- a name more is one more
one_name_more : (names known : List (List ℕ)) (d : Data) → with_name names d ≡ Some known
    → length known ≡ length names + 1
one_name_more names known d is =
    let f = found (as_str d) (with_text names) known is in
    let longer = cond_some (is_name f.value && not (list_any (bytes_eq f.value) names))
    (names ++ f.value ∷ []) known f.rest in
    ap length (sym longer.1) ∙ length_push names f.value

-- so an object more is one more
pub object_counted : (types : List (List ℕ)) (objects : ObjectsOf) (d : Data) (next : ObjectsOf)
    → with_object types objects d ≡ Ok next
    → length next.names ≡ length objects.names + 1
object_counted types objects d next is =
    let path : List ℕ = keys_path (codes "object") (length objects.names) in
    let a = came (item_table (codes "object") (length objects.names) d) _ next is in
    let b = came (required path a.value (codes "name")) _ next a.rest in
    let c = came (told (path ++ codes "name") (with_name objects.names b.value)) _ next b.rest in
    let e = came (required path a.value (codes "type")) _ next c.rest in
    let f = came (told (path ++ codes "type") (name_among types e.value)) _ next e.rest in
    let g = came (no_others path a.value object_keys) _ next f.rest in
    ap (λ (o : ObjectsOf). length o.names) (sym
    (same_ok (record { names = c.value; kinds = objects.kinds ++ f.value ∷ [] }) next g.rest))
    ∙ one_name_more objects.names c.value b.value
    (told_some (path ++ codes "name") (with_name objects.names b.value) c.value c.first)
