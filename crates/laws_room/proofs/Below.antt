-- Where a script has room, each count is below its limit.
use Rattle.std.proofs.Common.{ℕ, ◌+◌, ◌*◌, ◌<◌, ◌≤◌, Bool, List, length, arith}
use Rattle.qc_core.specs.Vocabulary.{IsLawful, IsLawfulWithFalls}
use Rattle.qc_decl.specs.Vocabulary.{IsAccepted, most_carried_lines, most_committed_operations, most_steps}
use Rattle.qc_decl.specs.declared.declaration.Declaration.{Declaration}
use Rattle.qc_msg.specs.declared.record.Record.{Record}
use Rattle.qc_msg.specs.Vocabulary.{Entry, carried_of, operations_of}
use Rattle.qc_promise.specs.Vocabulary.{Spent}
use Rattle.qc_script.specs.Vocabulary.{IsScriptFor, Runs, RunsWithFalls}
use Rattle.qc_script.specs.declared.script.Script.{Script}
use Rattle.laws_room.specs.Vocabulary.{HasRoom, commands_of, dos_of}
use Rattle.laws_room.proofs.Carried.{carried_lines_are_few}
use Rattle.laws_room.proofs.Counts.{operations_are_few, steps_are_few}
use Rattle.laws_room.proofs.Unfallen.{plain_runs_are_runs_without_falls}

module _ (fits : ℕ → List Record → Type 0) (decl : Declaration) (script : Script) (accepted : IsAccepted decl)
    (sound : IsScriptFor decl script) (room : HasRoom decl script) (h : List Entry) (open_inputs : List Bool)
    (run : RunsWithFalls (IsLawfulWithFalls decl) fits decl script h open_inputs) (spent : Spent h 0) where
  unfallen : Runs (IsLawful decl) decl script h open_inputs
  unfallen = plain_runs_are_runs_without_falls fits decl script accepted sound room.plain h open_inputs run spent

  pub steps_below : length h < most_steps
  steps_below =
      let few : length h ≤ length script.phases + commands_of script * (3 + 18 * decl.sites) =
      steps_are_few decl script accepted room.plain h open_inputs unfallen in
      let low : length script.phases + commands_of script * (3 + 18 * decl.sites) < most_steps = room.steps in
      omega arith

  pub operations_below : operations_of h < most_committed_operations
  operations_below =
      let few : operations_of h ≤ dos_of script =
      operations_are_few decl script accepted room.plain h open_inputs unfallen in
      let low : dos_of script < most_committed_operations = room.operations in
      omega arith

  pub lines_below : carried_of h < most_carried_lines
  lines_below =
      let few : carried_of h ≤ 2 * decl.sites * dos_of script * dos_of script =
      carried_lines_are_few decl script accepted sound room.plain h open_inputs unfallen in
      let low : 2 * decl.sites * dos_of script * dos_of script < most_carried_lines = room.lines in
      omega arith
