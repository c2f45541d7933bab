-- Reading one type more.
use Rattle.std.proofs.Common.{◌≡◌, ◌≢◌, ℕ, suc, List, [], ◌∷◌, ◌++◌, length, map, Ok, Err, refl, sym, ap, ◌∙◌, subst}
use Rattle.std.specs.Prelude.{codes}
use Rattle.std.proofs.lemmas.List.{map-append}
use Rattle.toml.specs.Data.{Data, Members}
use Rattle.qc_decl.specs.Vocabulary.{most_types}
use Rattle.qc_accept.specs.declared.fault.DeclFault.{DeclFault}
use Rattle.qc_accept.specs.declared.fault.DeclFault.TheVariants.{OutOfMemory}
use Rattle.qc_accept.specs.declared.kinds.TypeRead.{TypeRead}
use Rattle.qc_list.specs.Vocabulary.{◌>>=◌}
use Rattle.qc_accept.specs.Vocabulary.{Answer, TypeOf, TypesOf, each, item_table, items, keys_path, name_at, required}
use Rattle.qc_accept.specs.Vocabulary.{told, type_in, type_of, types_of, with_name, with_type}
use Rattle.qc_accept.proofs.Answered.{came, told_some, same_ok}
use Rattle.qc_accept.proofs.Kept.{name_more}
use Rattle.qc_accept.proofs.Told.{then_ok, then_err}

-- no type yet
abbrev pub no_types : TypesOf
no_types = record { names = []; list = [] }

-- a type more has a name more
pub type_named : (types : TypesOf) (d : Data) (next : TypesOf) → with_type types d ≡ Ok next
    → length next.names ≡ suc (length types.names)
type_named types d next is =
    let path : List ℕ = keys_path (codes "type") (length types.names) in
    let a = came (item_table (codes "type") (length types.names) d) _ next is in
    let b = came (required path a.value (codes "name")) _ next a.rest in
    let c = came (told (path ++ codes "name") (with_name types.names b.value)) _ next b.rest in
    let e = came (type_of path a.value (length types.names) (name_at c.value (length types.names))) _ next c.rest in
    ap (λ (t : TypesOf). length t.names) (sym
    (same_ok (record { names = c.value; list = types.list ++ e.value ∷ [] }) next e.rest))
    ∙ name_more types.names b.value c.value (told_some (path ++ codes "name")
    (with_name types.names b.value) c.value c.first)

-- the types are what the items give
pub types_read : (path : List ℕ) (table : Members) (ds : List Data) (whole : Answer TypesOf)
    → items path table (codes "type") 1 most_types ≡ Ok ds
    → each with_type no_types ds ≡ whole → types_of path table ≡ whole
types_read path table ds whole is rest =
    then_ok (items path table (codes "type") 1 most_types) (λ ds. each with_type no_types ds) ds whole is rest

-- what follows the table of a type's item
abbrev pub after_table : TypesOf → ℕ → List ℕ → Members → Answer TypesOf
after_table types place path table =
    required path table (codes "name") >>= (λ name.
    told (path ++ codes "name") (with_name types.names name) >>= (λ known.
    type_of path table place (name_at known place) >>= (λ t.
    Ok (record { names = known; list = types.list ++ t ∷ [] }))))

abbrev with_type_at : TypesOf → ℕ → Data → Answer TypesOf
with_type_at types place d = item_table (codes "type") place d >>=
    (λ table. after_table types place (keys_path (codes "type") place) table)

at_place : (types : TypesOf) (place : ℕ) (d : Data) (whole : Answer TypesOf) → place ≡ length types.names
    → with_type_at types place d ≡ whole → with_type types d ≡ whole
at_place types place d whole at is = subst (λ n. with_type_at types n d ≡ whole) at is

-- the item of a type is no table
pub no_table : (types : TypesOf) (place : ℕ) (d : Data) (fault : DeclFault) → place ≡ length types.names
    → (fault ≢ OutOfMemory → item_table (codes "type") place d ≡ Err fault) → fault ≢ OutOfMemory
    → with_type types d ≡ Err fault
no_table types place d fault at is apart =
    at_place types place d (Err fault) at
    (then_err (item_table (codes "type") place d)
    (λ table. after_table types place (keys_path (codes "type") place) table) fault is apart)

-- it is one
pub has_table : (types : TypesOf) (place : ℕ) (d : Data) (path : List ℕ) (table : Members) (whole : Answer TypesOf)
    → place ≡ length types.names
    → (item_table (codes "type") place d ≡ Ok table) × (path ≡ keys_path (codes "type") place)
    → after_table types place path table ≡ whole → with_type types d ≡ whole
has_table types place d path table whole at is rest =
    at_place types place d whole at
    (then_ok (item_table (codes "type") place d)
    (λ t. after_table types place (keys_path (codes "type") place) t) table whole is.0
    (subst (λ p. after_table types place p table ≡ whole) is.1 rest))

module _ (types : TypesOf) (place : ℕ) (path : List ℕ) (table : Members) where
  -- it has no name, or none of its form
  pub no_name : (fault : DeclFault) → (fault ≢ OutOfMemory → required path table (codes "name") ≡ Err fault)
      → fault ≢ OutOfMemory → after_table types place path table ≡ Err fault
  no_name fault is apart = then_err (required path table (codes "name")) _ fault is apart

  pub ill_named : (name : Data) (fault : DeclFault) → required path table (codes "name") ≡ Ok name
      → (fault ≢ OutOfMemory → told (path ++ codes "name") (with_name types.names name) ≡ Err fault)
      → fault ≢ OutOfMemory → after_table types place path table ≡ Err fault
  ill_named name fault a is apart =
      then_ok (required path table (codes "name")) _ name _ a
      (then_err (told (path ++ codes "name") (with_name types.names name)) _ fault is apart)

  -- what follows its name has a fault, or is a type
  pub no_type : (name : Data) (known : List (List ℕ)) (fault : DeclFault) → required path table (codes "name") ≡ Ok name
      → told (path ++ codes "name") (with_name types.names name) ≡ Ok known
      → (fault ≢ OutOfMemory → type_of path table place (name_at known place) ≡ Err fault) → fault ≢ OutOfMemory
      → after_table types place path table ≡ Err fault
  no_type name known fault a b is apart =
      then_ok (required path table (codes "name")) _ name _ a
      (then_ok (told (path ++ codes "name") (with_name types.names name)) _ known _ b
      (then_err (type_of path table place (name_at known place)) _ fault is apart))

  pub one_type : (name : Data) (known : List (List ℕ)) (t : TypeOf) → required path table (codes "name") ≡ Ok name
      → told (path ++ codes "name") (with_name types.names name) ≡ Ok known
      → type_of path table place (name_at known place) ≡ Ok t
      → after_table types place path table ≡ Ok (record { names = known; list = types.list ++ t ∷ [] })
  one_type name known t a b c =
      then_ok (required path table (codes "name")) _ name _ a
      (then_ok (told (path ++ codes "name") (with_name types.names name)) _ known _ b
      (then_ok (type_of path table place (name_at known place)) _ t _ c refl))

-- the types read, with one more
pub list_pushed : (before after : List TypeRead) (t : TypeRead) → after ≡ before ++ t ∷ []
    → map type_in before ++ type_in t ∷ [] ≡ map type_in after
list_pushed before after t is = sym (ap (map type_in) is ∙ map-append type_in before (t ∷ []))
