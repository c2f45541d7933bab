-- The items of a document, their names, types and objects, and what is read of them.
use Rattle.std.proofs.Common.{[], ◌≡◌, ℕ, List, ◌∷◌, ◌++◌, length, Some, Ok, sym, ap, ◌∙◌}
use Rattle.std.specs.Prelude.{◌&&◌, not, codes, slice_get, option_and_then}
use Rattle.std.specs.List.{list_any}
use Rattle.std.specs.Str.{bytes_eq}
use Rattle.std.proofs.lemmas.Option.{cond_some}
use Rattle.toml.specs.Data.{Data, Members, as_str, as_table, get_member}
use Rattle.qc_decl.proofs.Places.{place_at}
use Rattle.qc_decl.specs.Vocabulary.{is_name}
use Rattle.qc_accept.specs.Vocabulary.{IsSpelled, ObjectsOf, TypeOf, TypesOf, item_path, item_table, keys_path}
use Rattle.qc_accept.specs.Vocabulary.{name_among, name_at, no_others, number, number_of, object_keys, required}
use Rattle.qc_accept.specs.Vocabulary.{text_at, told, type_of, with_name, with_object, with_text, with_type}
use Rattle.qc_accept.proofs.Answered.{came, found, same_ok, told_some}
use Rattle.qc_accept.proofs.Spelling.{types_are_their_texts}
use Rattle.qc_accept.proofs.ItemLists.{Adds}

-- an item's reading adds one to a list, which came from the item
-- the table of an item
pub is_table : (key : List ℕ) (place : ℕ) (d : Data) (table : Members) → item_table key place d ≡ Ok table
    → as_table d ≡ Some table
is_table key place d table is = told_some (item_path key place) (as_table d) table is

pub is_member : (path : List ℕ) (table : Members) (key : List ℕ) (d : Data) → required path table key ≡ Ok d
    → get_member key table ≡ Some d
is_member path table key d is = told_some (path ++ key) (get_member key table) d is

abbrev pub ItemText : List ℕ → Data → List ℕ → Type 0
ItemText key d text = option_and_then (λ item. text_at item key) (as_table d) ≡ Some text

-- a name that is read
pub record IsNewName (known : List (List ℕ)) (d : Data) (next : List (List ℕ)) : Type 0 where
  pub text : List ℕ
  pub is_text : as_str d ≡ Some text
  pub grown : known ++ text ∷ [] ≡ next

new_name : (known : List (List ℕ)) (d : Data) (next : List (List ℕ)) → with_name known d ≡ Some next
    → IsNewName known d next
new_name known d next is =
    let f = found (as_str d) (with_text known) next is in
    let t = cond_some (is_name f.value && not (list_any (bytes_eq f.value) known)) (known ++ f.value ∷ []) next
    f.rest in
    record { text = f.value; is_text = f.first; grown = t.1 }

item_text_is : (key : List ℕ) (d name : Data) (item : Members) (text : List ℕ) → as_table d ≡ Some item
    → get_member key item ≡ Some name → as_str name ≡ Some text
    → ItemText key d text
item_text_is key d name item text is member says =
    ap (option_and_then (λ (m : Members). text_at m key)) is ∙ ap (option_and_then as_str) member ∙ says

-- types

pub record IsTypeFrom (d : Data) (t : TypeOf) : Type 0 where
  pub item : Members
  pub is : as_table d ≡ Some item
  pub spelled : IsSpelled item t

pub type_from : (types : TypesOf) (d : Data) (next : TypesOf) → with_type types d ≡ Ok next
    → Adds (λ (x : TypesOf). x.list) IsTypeFrom types d next
type_from types d next is =
    let path : List ℕ = keys_path (codes "type") (length types.names) in
    let a = came (item_table (codes "type") (length types.names) d) _ next is in
    let b = came (required path a.value (codes "name")) _ next a.rest in
    let c = came (told (path ++ codes "name") (with_name types.names b.value)) _ next b.rest in
    let e = came (type_of path a.value (length types.names) (name_at c.value (length types.names))) _ next c.rest in
    record {
      one = e.value;
      grown =
          ap (λ (x : TypesOf). x.list)
          (same_ok (record { names = c.value; list = types.list ++ e.value ∷ [] }) next e.rest);
      from = record {
        item = a.value;
        is = is_table (codes "type") (length types.names) d a.value a.first;
        spelled =
            types_are_their_texts path a.value (length types.names) (name_at c.value (length types.names)) e.value
            e.first;
      };
    }

pub type_name_from : (types : TypesOf) (d : Data) (next : TypesOf) → with_type types d ≡ Ok next
    → Adds (λ (x : TypesOf). x.names) (ItemText (codes "name")) types d next
type_name_from types d next is =
    let path : List ℕ = keys_path (codes "type") (length types.names) in
    let a = came (item_table (codes "type") (length types.names) d) _ next is in
    let b = came (required path a.value (codes "name")) _ next a.rest in
    let c = came (told (path ++ codes "name") (with_name types.names b.value)) _ next b.rest in
    let e = came (type_of path a.value (length types.names) (name_at c.value (length types.names))) _ next c.rest in
    let n : IsNewName types.names b.value c.value =
    new_name types.names b.value c.value
    (told_some (path ++ codes "name") (with_name types.names b.value) c.value c.first) in
    record {
      one = n.text;
      grown =
          n.grown
          ∙ ap (λ (x : TypesOf). x.names)
          (same_ok (record { names = c.value; list = types.list ++ e.value ∷ [] }) next e.rest);
      from =
          item_text_is (codes "name") d b.value a.value n.text
          (is_table (codes "type") (length types.names) d a.value a.first)
          (is_member path a.value (codes "name") b.value b.first) n.is_text;
    }

-- objects

pub object_name_from : (types : List (List ℕ)) (objects : ObjectsOf) (d : Data) (next : ObjectsOf)
    → with_object types objects d ≡ Ok next
    → Adds (λ (x : ObjectsOf). x.names) (ItemText (codes "name")) objects d next
object_name_from types objects d next is =
    let path : List ℕ = keys_path (codes "object") (length objects.names) in
    let a = came (item_table (codes "object") (length objects.names) d) _ next is in
    let b = came (required path a.value (codes "name")) _ next a.rest in
    let c = came (told (path ++ codes "name") (with_name objects.names b.value)) _ next b.rest in
    let e = came (required path a.value (codes "type")) _ next c.rest in
    let f = came (told (path ++ codes "type") (name_among types e.value)) _ next e.rest in
    let g = came (no_others path a.value object_keys) _ next f.rest in
    let n : IsNewName objects.names b.value c.value =
    new_name objects.names b.value c.value
    (told_some (path ++ codes "name") (with_name objects.names b.value) c.value c.first) in
    record {
      one = n.text;
      grown =
          n.grown
          ∙ ap (λ (x : ObjectsOf). x.names)
          (same_ok (record { names = c.value; kinds = objects.kinds ++ f.value ∷ [] }) next g.rest);
      from =
          item_text_is (codes "name") d b.value a.value n.text
          (is_table (codes "object") (length objects.names) d a.value a.first)
          (is_member path a.value (codes "name") b.value b.first) n.is_text;
    }

abbrev pub IsTypeNamed : List (List ℕ) → Data → ℕ → Type 0
IsTypeNamed types d number = option_and_then (λ item. text_at item (codes "type")) (as_table d) ≡ slice_get types number

pub object_type_from : (types : List (List ℕ)) (objects : ObjectsOf) (d : Data) (next : ObjectsOf)
    → with_object types objects d ≡ Ok next
    → Adds (λ (x : ObjectsOf). x.kinds) (IsTypeNamed types) objects d next
object_type_from types objects d next is =
    let path : List ℕ = keys_path (codes "object") (length objects.names) in
    let a = came (item_table (codes "object") (length objects.names) d) _ next is in
    let b = came (required path a.value (codes "name")) _ next a.rest in
    let c = came (told (path ++ codes "name") (with_name objects.names b.value)) _ next b.rest in
    let e = came (required path a.value (codes "type")) _ next c.rest in
    let f = came (told (path ++ codes "type") (name_among types e.value)) _ next e.rest in
    let g = came (no_others path a.value object_keys) _ next f.rest in
    let n =
    found (as_str e.value) (number_of types) f.value
    (told_some (path ++ codes "type") (name_among types e.value) f.value f.first) in
    record {
      one = f.value;
      grown =
          ap (λ (x : ObjectsOf). x.kinds)
          (same_ok (record { names = c.value; kinds = objects.kinds ++ f.value ∷ [] }) next g.rest);
      from =
          item_text_is (codes "type") d e.value a.value n.value
          (is_table (codes "object") (length objects.names) d a.value a.first)
          (is_member path a.value (codes "type") e.value e.first) n.first
          ∙ sym (place_at types n.value f.value n.rest);
    }
