-- Room enough: what a script asks can't bring a run to a limit.
use Rattle.std.specs.Prelude.{◌+◌, ◌*◌, ◌<◌, length}
use Rattle.qc_decl.specs.Vocabulary.{most_carried_lines, most_committed_operations, most_steps}
use Rattle.qc_decl.specs.declared.declaration.Declaration.{Declaration}
use Rattle.qc_script.specs.declared.script.Script.{Script}
use Rattle.laws_room.specs.Asked.{commands_of, dos_of}
use Rattle.laws_room.specs.Plain.{IsPlain}

-- A command adds at most 3 steps and 18 for each site: a `do` two, and for each half and site a request, its Got, the
-- answer, its Got, an Inquiry, its Got, the Decision, its Got and a Done. At most two messages for each `do` and site
-- carry lines, and each of them at most a line for each operation that was committed.
pub record HasRoom (decl : Declaration) (script : Script) : Type 0 where
  pub plain : IsPlain script
  pub steps : length script.phases + commands_of script * (3 + 18 * decl.sites) < most_steps
  pub operations : dos_of script < most_committed_operations
  pub lines : 2 * decl.sites * dos_of script * dos_of script < most_carried_lines
