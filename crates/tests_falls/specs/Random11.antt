-- Random: sites 1, clients 1, steps 73, cuts 1, falls 2, rises 1, unwritten records 1.
use Rattle.std.specs.Prelude.{List, [], ◌∷◌, Some, None, false}
use Rattle.qc_decl.specs.declared.declaration.Declaration.{Declaration}
use Rattle.qc_decl.specs.Vocabulary.{row}
use Rattle.qc_msg.specs.Vocabulary.{Entry, marked}
use Rattle.tests_histories.specs.Words.{declaration, kind, pair, plan}
use Rattle.qc_msg.specs.declared.step.Step.TheVariants.{Phase, Cut, Heal, Called, Told, Armed, Fell, Rose}
use Rattle.qc_msg.specs.declared.turn.Appended.TheVariants.{Done, Failed}
use Rattle.tests_falls.specs.Perform.{Move, Begins, Acts, Takes, Posts, Rises}
use Rattle.qc_msg.specs.declared.step.Command.TheVariants as commands
use Rattle.qc_msg.specs.declared.record.Record.TheVariants as records
use Rattle.qc_msg.specs.declared.reply.Reply.TheVariants as replies
use Rattle.qc_msg.specs.declared.step.Fall.TheVariants as falls
use Rattle.qc_outside.specs.declared.disk.ArmKind.TheVariants as arms

abbrev pub decl : Declaration
decl =
    declaration 1 1 (kind 2 1 1 0 (row 1 0 0 1 ∷ []) [] ∷ kind 2 3 3 0 (row 0 0 0 0 ∷ row 1 0 1 1 ∷ row 0 1 2 0 ∷ row 1
    1 2 0 ∷ row 0 2 2 1 ∷ row 1 2 2 1 ∷ []) (pair 0 2 ∷ pair 0 3 ∷ []) ∷ []) (1 ∷ 0 ∷ []) (plan (3 ∷ []) ((1 ∷ 0 ∷ 0 ∷
    []) ∷ (0 ∷ []) ∷ []) ((2 ∷ 0 ∷ 3 ∷ 3 ∷ []) ∷ (2 ∷ []) ∷ []) ∷ [])

abbrev pub moves : List Move
moves =
    Begins ∷ Acts ∷ Acts ∷ Takes 1 ∷ Posts 1 Done ∷ Takes 1 ∷ Posts 1 Done ∷ Begins ∷ Takes 1 ∷ Posts 1 Done ∷ Takes 1 ∷
    Posts 1 Done ∷ Takes 1 ∷ Posts 1 Done ∷ Takes 1 ∷ Posts 1 Done ∷ Takes 1 ∷ Posts 1 Done ∷ Takes 1 ∷ Posts 1 Done ∷
    Begins ∷ Acts ∷ Rises false Failed ∷ Takes 1 ∷ Posts 1 Done ∷ Takes 1 ∷ Posts 1 Done ∷ Takes 1 ∷ Posts 1 Done ∷
    Takes 1 ∷ Posts 1 Done ∷ Begins ∷ Takes 1 ∷ Posts 1 Done ∷ Takes 1 ∷ Posts 1 Done ∷ Begins ∷ Takes 1 ∷
    Posts 1 Done ∷ Takes 1 ∷ Posts 1 Done ∷ Takes 1 ∷ Posts 1 Done ∷ Takes 1 ∷ Posts 1 Done ∷ Takes 1 ∷ Posts 1 Done ∷
    Begins ∷ Takes 1 ∷ Posts 1 Done ∷ Takes 1 ∷ Posts 1 Done ∷ Takes 1 ∷ Posts 1 Done ∷ Begins ∷ Acts ∷ Takes 1 ∷
    Posts 1 Done ∷ Takes 1 ∷ Posts 1 Done ∷ Takes 1 ∷ Posts 1 Done ∷ Takes 1 ∷ Posts 1 Done ∷ Takes 1 ∷ Posts 1 Done ∷
    Takes 1 ∷ Posts 1 Done ∷ Takes 1 ∷ Posts 1 Done ∷ Takes 1 ∷ Posts 1 Done ∷ []

abbrev pub history : List Entry
history =
    marked 3 (Phase 1) ∷ marked 3 (Cut 0 1) ∷ marked 1 (Fell falls.Script None) ∷ marked 1 (Called commands.Begin) ∷
    marked 1 (Told replies.Down) ∷ marked 1 (Called commands.Commit) ∷ marked 1 (Told replies.Down) ∷
    marked 3 (Phase 2) ∷ marked 1 (Called commands.Begin) ∷ marked 1 (Told replies.Down) ∷
    marked 1 (Called (commands.Do 0 1)) ∷ marked 1 (Told replies.Down) ∷ marked 1 (Called commands.Commit) ∷
    marked 1 (Told replies.Down) ∷ marked 1 (Called commands.Begin) ∷ marked 1 (Told replies.Down) ∷
    marked 1 (Called (commands.Do 0 1)) ∷ marked 1 (Told replies.Down) ∷ marked 1 (Called commands.Commit) ∷
    marked 1 (Told replies.Down) ∷ marked 3 (Phase 3) ∷ marked 3 (Heal 0 1) ∷ marked 1 (Rose []) ∷
    marked 1 (Fell falls.Disk (Some records.Life)) ∷ marked 1 (Called commands.Begin) ∷ marked 1 (Told replies.Down) ∷
    marked 1 (Called (commands.Do 0 1)) ∷ marked 1 (Told replies.Down) ∷ marked 1 (Called (commands.Do 0 2)) ∷
    marked 1 (Told replies.Down) ∷ marked 1 (Called commands.Abort) ∷ marked 1 (Told replies.Down) ∷
    marked 3 (Phase 4) ∷ marked 1 (Called commands.Begin) ∷ marked 1 (Told replies.Down) ∷
    marked 1 (Called commands.Commit) ∷ marked 1 (Told replies.Down) ∷ marked 3 (Phase 5) ∷
    marked 1 (Called commands.Begin) ∷ marked 1 (Told replies.Down) ∷ marked 1 (Called (commands.Do 0 2)) ∷
    marked 1 (Told replies.Down) ∷ marked 1 (Called (commands.Do 0 1)) ∷ marked 1 (Told replies.Down) ∷
    marked 1 (Called (commands.Do 1 0)) ∷ marked 1 (Told replies.Down) ∷ marked 1 (Called commands.Commit) ∷
    marked 1 (Told replies.Down) ∷ marked 3 (Phase 6) ∷ marked 1 (Called commands.Begin) ∷
    marked 1 (Told replies.Down) ∷ marked 1 (Called (commands.Do 0 0)) ∷ marked 1 (Told replies.Down) ∷
    marked 1 (Called commands.Commit) ∷ marked 1 (Told replies.Down) ∷ marked 3 (Phase 7) ∷
    marked 3 (Armed 2 arms.Fail 3) ∷ marked 1 (Called commands.Begin) ∷ marked 1 (Told replies.Down) ∷
    marked 1 (Called (commands.Do 0 1)) ∷ marked 1 (Told replies.Down) ∷ marked 1 (Called (commands.Do 0 1)) ∷
    marked 1 (Told replies.Down) ∷ marked 1 (Called commands.Commit) ∷ marked 1 (Told replies.Down) ∷
    marked 1 (Called commands.Begin) ∷ marked 1 (Told replies.Down) ∷ marked 1 (Called (commands.Do 1 0)) ∷
    marked 1 (Told replies.Down) ∷ marked 1 (Called (commands.Do 0 1)) ∷ marked 1 (Told replies.Down) ∷
    marked 1 (Called (commands.Do 0 1)) ∷ marked 1 (Told replies.Down) ∷ []
