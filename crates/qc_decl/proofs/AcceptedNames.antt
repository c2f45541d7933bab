-- An accepted declaration has a name for each thing: they are few, and stand for their places.
use Rattle.std.proofs.Common.{◌≡◌, ℕ, ◌<◌, ◌≤◌, Some, length, map, arith}
use Rattle.std.specs.Prelude.{slice_get}
use Rattle.std.proofs.lemmas.List.{length-map}
use Rattle.std.proofs.lemmas.Option.{slice_get_within}
use Rattle.qc_table.specs.declared.kind.Kind.{Kind}
use Rattle.qc_decl.proofs.Places.{names_stand}
use Rattle.qc_decl.specs.Vocabulary.{HasNames, IsAccepted, IsNamed, StandForPlaces, most_invocations}
use Rattle.qc_decl.specs.declared.declaration.Declaration.{Declaration}
use Rattle.qc_decl.specs.declared.declaration.KindNames.{KindNames}
use Rattle.qc_list.proofs.Places.{some_at}

-- the type that names are of
pub record IsTypeOf (decl : Declaration) (number : ℕ) (names : KindNames) : Type 0 where
  pub kind : Kind
  pub at : slice_get decl.kinds number ≡ Some kind
  pub has : HasNames kind names

pub type_of : (decl : Declaration) (number : ℕ) (names : KindNames) → IsAccepted decl
    → slice_get decl.kind_names number ≡ Some names → IsTypeOf decl number names
type_of decl number names is of =
    let many : length (map (λ (n : KindNames). n.name) decl.kind_names) ≡ length decl.kinds = is.type_names.count in
    let long : length (map (λ (n : KindNames). n.name) decl.kind_names) ≡ length decl.kind_names =
    length-map decl.kind_names (λ (n : KindNames). n.name) in
    let inside : number < length decl.kind_names = slice_get_within decl.kind_names number names of in
    let within : number < length decl.kinds = omega arith in
    let there = some_at decl.kinds number within in
    record { kind = there.0; at = there.1; has = is.names number there.0 names there.1 of }

pub accepted_declarations_have_few_names : (decl : Declaration) → IsAccepted decl → IsNamed decl
accepted_declarations_have_few_names decl is = record { objects = objects; invs = invs }
  where
    objects : length decl.object_names ≤ 16
    objects = let many : length decl.object_names ≡ length decl.objects = is.object_names.count in
        let few : length decl.objects ≤ 16 = is.objects in omega arith

    invs : (number : ℕ) (names : KindNames) → slice_get decl.kind_names number ≡ Some names
        → length names.invs ≤ most_invocations
    invs number names of =
        let t : IsTypeOf decl number names = type_of decl number names is of in
        let many : length names.invs ≡ t.kind.table.invs = t.has.invs.count in
        let few : t.kind.table.invs ≤ 32 = (is.right number t.kind t.at).sound.invs in
        omega arith

pub type_names_stand : (decl : Declaration) → IsAccepted decl
    → StandForPlaces (map (λ (names : KindNames). names.name) decl.kind_names)
type_names_stand decl is = names_stand (map (λ (names : KindNames). names.name) decl.kind_names) is.type_names.distinct

pub object_names_stand : (decl : Declaration) → IsAccepted decl → StandForPlaces decl.object_names
object_names_stand decl is = names_stand decl.object_names is.object_names.distinct

pub states_stand : (decl : Declaration) (number : ℕ) (names : KindNames) → IsAccepted decl
    → slice_get decl.kind_names number ≡ Some names → StandForPlaces names.states
states_stand decl number names is of = names_stand names.states (type_of decl number names is of).has.states.distinct

pub invs_stand : (decl : Declaration) (number : ℕ) (names : KindNames) → IsAccepted decl
    → slice_get decl.kind_names number ≡ Some names → StandForPlaces names.invs
invs_stand decl number names is of = names_stand names.invs (type_of decl number names is of).has.invs.distinct

pub resps_stand : (decl : Declaration) (number : ℕ) (names : KindNames) → IsAccepted decl
    → slice_get decl.kind_names number ≡ Some names → StandForPlaces names.resps
resps_stand decl number names is of = names_stand names.resps (type_of decl number names is of).has.resps.distinct
