-- A script that has room, and others that don't.
use Rattle.std.proofs.Common.{◌≡◌, ◌<◌, ◌≤◌, [], arith, refl}
use Rattle.qc_decl.specs.Vocabulary.{most_committed_operations}
use Rattle.qc_decl.specs.declared.declaration.Declaration.{Declaration}
use Rattle.qc_script.specs.declared.script.Script.{Script}
use Rattle.laws_room.specs.Vocabulary.{HasRoom, doubled, dos_of, one_site, small}

pub has_room : HasRoom one_site small
has_room = record {
  plain = record {
    lossless = record { links = refl; controls = (refl, tt) };
    epochs = ((refl, (refl, (refl, tt))), tt);
  };
  steps = omega arith;
  operations = omega arith;
  lines = omega arith;
}

pub none_under_a_link : HasRoom one_site doubled → ⊥
none_under_a_link room =
    let none : doubled.links ≡ [] = room.plain.lossless.links in let never : ⊥ = cc in never

pub none_for_so_many : (decl : Declaration) (script : Script) → most_committed_operations ≤ dos_of script
    → HasRoom decl script → ⊥
none_for_so_many decl script many room =
    let few : dos_of script < most_committed_operations = room.operations in omega arith
