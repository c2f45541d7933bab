-- The name that a type has where no call has picked one: nothing is declared, asked or made.
use Rattle.std.specs.Prelude.{[]}
use Rattle.atomic_table.specs.Seated.{TableId}
use Rattle.qc_decl.specs.declared.declaration.Declaration.{Declaration}
use Rattle.qc_script.specs.declared.script.Script.{Script}

abbrev pub no_declaration : Declaration
no_declaration = record {
  sites = 0;
  clients = 0;
  kinds = [];
  objects = [];
  plans = [];
  kind_names = [];
  object_names = [];
}

abbrev pub no_script : Script
no_script = record { links = []; phases = [] }

abbrev pub no_table : TableId
no_table = record { words = 0; slots = 0; views_name = 0; atom = 0; block = 0; offset = 0; slot_names = [] }
