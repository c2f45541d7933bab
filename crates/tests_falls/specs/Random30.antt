-- Random: sites 3, clients 4, steps 157, cuts 2, commits 7, falls 8, rises 5, unwritten records 4.
use Rattle.std.specs.Prelude.{List, [], ◌∷◌, Some, None, true, false}
use Rattle.qc_decl.specs.declared.declaration.Declaration.{Declaration}
use Rattle.qc_decl.specs.Vocabulary.{row}
use Rattle.qc_msg.specs.Vocabulary.{Entry, marked}
use Rattle.tests_histories.specs.Words.{tx, stamp, operation, commit, declaration, kind, plan}
use Rattle.qc_msg.specs.declared.step.Step.TheVariants.{Phase, Cut, Heal, Called, Wrote, Told, Armed, Fell, Rose}
use Rattle.qc_msg.specs.declared.turn.Appended.TheVariants.{Done, Failed, Stopped}
use Rattle.tests_falls.specs.Perform.{Move, Begins, Acts, Takes, Posts, Rises, Unopened}
use Rattle.qc_msg.specs.declared.step.Command.TheVariants as commands
use Rattle.qc_msg.specs.declared.record.Record.TheVariants as records
use Rattle.qc_msg.specs.declared.reply.Reply.TheVariants as replies
use Rattle.qc_msg.specs.declared.step.Fall.TheVariants as falls
use Rattle.qc_outside.specs.declared.disk.ArmKind.TheVariants as arms

abbrev pub decl : Declaration
decl =
    declaration 3 4 (kind 2 1 1 0 (row 0 0 0 1 ∷ row 1 0 0 0 ∷ []) [] ∷ []) (0 ∷ 0 ∷ []) (plan (1 ∷ 2 ∷ 1 ∷ []) ((0 ∷
    []) ∷ (0 ∷ []) ∷ []) ((0 ∷ []) ∷ (0 ∷ []) ∷ []) ∷ plan (1 ∷ 1 ∷ 1 ∷ []) ((0 ∷ []) ∷ (0 ∷ []) ∷ []) ((0 ∷ []) ∷ (0 ∷
    []) ∷ []) ∷ plan (3 ∷ 1 ∷ 1 ∷ []) ((0 ∷ []) ∷ (0 ∷ []) ∷ []) ((0 ∷ []) ∷ (0 ∷ []) ∷ []) ∷ [])

abbrev pub moves : List Move
moves =
    Begins ∷ Takes 4 ∷ Takes 6 ∷ Posts 6 Done ∷ Takes 6 ∷ Takes 3 ∷ Posts 3 Done ∷ Takes 3 ∷ Posts 4 Done ∷ Takes 4 ∷
    Posts 3 Done ∷ Takes 3 ∷ Posts 6 Done ∷ Takes 6 ∷ Posts 4 Done ∷ Takes 4 ∷ Posts 3 Done ∷ Takes 3 ∷ Posts 6 Done ∷
    Posts 4 Done ∷ Takes 4 ∷ Posts 4 Done ∷ Posts 3 Done ∷ Takes 3 ∷ Posts 3 Done ∷ Takes 3 ∷ Posts 3 Done ∷ Begins ∷
    Acts ∷ Takes 3 ∷ Takes 6 ∷ Posts 6 Done ∷ Takes 6 ∷ Posts 3 Done ∷ Takes 3 ∷ Posts 3 Done ∷ Posts 6 Done ∷ Takes 6 ∷
    Posts 6 Failed ∷ Begins ∷ Acts ∷ Acts ∷ Rises false Failed ∷ Takes 6 ∷ Takes 5 ∷ Takes 3 ∷ Posts 3 Done ∷ Takes 3 ∷
    Posts 6 Done ∷ Takes 6 ∷ Posts 6 Done ∷ Takes 6 ∷ Posts 6 Done ∷ Posts 3 Done ∷ Posts 5 Done ∷ Takes 3 ∷ Takes 5 ∷
    Posts 5 Done ∷ Posts 3 Done ∷ Takes 5 ∷ Takes 3 ∷ Posts 5 Done ∷ Takes 5 ∷ Posts 5 Done ∷ Posts 3 Done ∷ Takes 3 ∷
    Posts 3 Done ∷ Takes 3 ∷ Posts 3 Done ∷ Takes 3 ∷ Posts 3 Done ∷ Begins ∷ Acts ∷ Acts ∷ Rises false Done ∷
    Rises true Stopped ∷ Takes 6 ∷ Takes 3 ∷ Posts 6 Done ∷ Takes 6 ∷ Posts 6 Done ∷ Takes 6 ∷ Posts 3 Done ∷ Takes 3 ∷
    Posts 3 Stopped ∷ Takes 3 ∷ Posts 6 Done ∷ Posts 3 Done ∷ Takes 3 ∷ Posts 3 Done ∷ Takes 3 ∷ Posts 3 Done ∷
    Takes 3 ∷ Posts 3 Done ∷ Begins ∷ Acts ∷ Acts ∷ Takes 3 ∷ Takes 6 ∷ Takes 5 ∷ Posts 5 Done ∷ Takes 5 ∷
    Posts 3 Done ∷ Takes 3 ∷ Posts 5 Done ∷ Takes 5 ∷ Posts 6 Done ∷ Posts 5 Done ∷ Takes 6 ∷ Posts 3 Done ∷
    Posts 6 Done ∷ Takes 6 ∷ Takes 3 ∷ Posts 3 Done ∷ Takes 3 ∷ Posts 6 Done ∷ Posts 3 Done ∷ Takes 3 ∷ Posts 3 Done ∷
    Takes 3 ∷ Posts 3 Done ∷ Begins ∷ Rises true Done ∷ Rises false Done ∷ Acts ∷ Unopened falls.Disk ∷ Acts ∷ Takes 6 ∷
    Takes 5 ∷ Posts 6 Done ∷ Takes 6 ∷ Posts 5 Done ∷ Takes 5 ∷ Posts 5 Done ∷ Posts 6 Done ∷ Takes 6 ∷ Takes 5 ∷
    Posts 5 Done ∷ Takes 5 ∷ Posts 5 Done ∷ Takes 5 ∷ Posts 5 Done ∷ Posts 6 Done ∷ []

abbrev pub history : List Entry
history =
    marked 8 (Phase 1) ∷ marked 4 (Called commands.Begin) ∷ marked 6 (Called commands.Begin) ∷
    marked 6 (Told (replies.Began (tx 3 1))) ∷ marked 6 (Called (commands.Do 1 0)) ∷ marked 3 (Called commands.Begin) ∷
    marked 3 (Told (replies.Began (tx 0 1))) ∷ marked 3 (Called (commands.Do 0 0)) ∷
    marked 4 (Told (replies.Began (tx 1 1))) ∷ marked 4 (Called (commands.Do 1 0)) ∷
    marked 3 (Told (replies.Response 0)) ∷ marked 3 (Called commands.Commit) ∷ marked 6 (Told (replies.Response 0)) ∷
    marked 6 (Called commands.Commit) ∷ marked 4 (Told (replies.Response 0)) ∷ marked 4 (Called (commands.Do 1 0)) ∷
    marked 3 (Wrote (commit (stamp 1 0) (tx 0 1) (operation 0 0 (Some 0) ∷ []))) ∷
    marked 3 (Told (replies.Committed (stamp 1 0))) ∷ marked 3 (Called commands.Begin) ∷
    marked 6 (Wrote (commit (stamp 1 3) (tx 3 1) (operation 1 0 (Some 0) ∷ []))) ∷
    marked 6 (Told (replies.Committed (stamp 1 3))) ∷ marked 4 (Told (replies.Response 0)) ∷
    marked 4 (Called commands.Commit) ∷
    marked 4 (Wrote (commit (stamp 1 1) (tx 1 1) (operation 1 0 (Some 0) ∷ operation 1 0 (Some 0) ∷ []))) ∷
    marked 4 (Told (replies.Committed (stamp 1 1))) ∷ marked 3 (Told (replies.Began (tx 0 2))) ∷
    marked 3 (Called (commands.Do 0 0)) ∷ marked 3 (Told (replies.Response 0)) ∷ marked 3 (Called commands.Commit) ∷
    marked 3 (Wrote (commit (stamp 2 0) (tx 0 2) (operation 0 0 (Some 0) ∷ []))) ∷
    marked 3 (Told (replies.Committed (stamp 2 0))) ∷ marked 8 (Phase 2) ∷ marked 8 (Cut 0 2) ∷
    marked 3 (Called commands.Begin) ∷ marked 6 (Called commands.Begin) ∷ marked 6 (Told (replies.Began (tx 3 2))) ∷
    marked 6 (Called (commands.Do 0 0)) ∷ marked 3 (Told (replies.Began (tx 0 3))) ∷
    marked 3 (Called (commands.Do 0 0)) ∷ marked 3 (Told (replies.Response 0)) ∷ marked 6 (Told (replies.Response 0)) ∷
    marked 6 (Called commands.Commit) ∷ marked 6 (Told replies.Unknown) ∷
    marked 6 (Fell falls.Disk (Some (commit (stamp 2 3) (tx 3 2) (operation 0 0 (Some 0) ∷ [])))) ∷ marked 8 (Phase 3) ∷
    marked 8 (Heal 0 2) ∷ marked 4 (Fell falls.Script None) ∷
    marked 4 (Rose ((commit (stamp 1 1) (tx 1 1) (operation 1 0 (Some 0) ∷ operation 1 0 (Some 0) ∷ [])) ∷ [])) ∷
    marked 4 (Fell falls.Disk (Some records.Life)) ∷ marked 6 (Called commands.Begin) ∷
    marked 5 (Called commands.Begin) ∷ marked 3 (Called (commands.Do 1 0)) ∷ marked 3 (Told (replies.Response 0)) ∷
    marked 3 (Called commands.Commit) ∷ marked 6 (Told replies.Down) ∷ marked 6 (Called (commands.Do 0 0)) ∷
    marked 6 (Told replies.Down) ∷ marked 6 (Called commands.Commit) ∷ marked 6 (Told replies.Down) ∷
    marked 3 (Wrote (commit (stamp 3 0) (tx 0 3) (operation 0 0 (Some 0) ∷ operation 1 0 (Some 0) ∷ []))) ∷
    marked 3 (Told (replies.Committed (stamp 3 0))) ∷ marked 5 (Told (replies.Began (tx 2 1))) ∷
    marked 3 (Called commands.Begin) ∷ marked 5 (Called (commands.Do 0 0)) ∷ marked 5 (Told (replies.Response 0)) ∷
    marked 3 (Told (replies.Began (tx 0 4))) ∷ marked 5 (Called (commands.Do 0 0)) ∷
    marked 3 (Called (commands.Do 1 0)) ∷ marked 5 (Told (replies.Response 0)) ∷ marked 5 (Called (commands.Do 0 0)) ∷
    marked 5 (Told (replies.Response 0)) ∷ marked 3 (Told (replies.Response 0)) ∷ marked 3 (Called (commands.Do 0 0)) ∷
    marked 3 (Told (replies.Response 0)) ∷ marked 3 (Called (commands.Do 1 0)) ∷ marked 3 (Told (replies.Response 0)) ∷
    marked 3 (Called commands.Commit) ∷
    marked 3 (Wrote (commit (stamp 4 0) (tx 0 4) (operation 1 0 (Some 0) ∷ operation 0 0 (Some 0) ∷ operation 1 0 (Some
    0) ∷ []))) ∷
    marked 3 (Told (replies.Committed (stamp 4 0))) ∷ marked 8 (Phase 4) ∷ marked 8 (Cut 4 2) ∷
    marked 1 (Fell falls.Script None) ∷ marked 1 (Rose []) ∷ marked 1 (Wrote records.Life) ∷
    marked 4 (Rose ((commit (stamp 1 1) (tx 1 1) (operation 1 0 (Some 0) ∷ operation 1 0 (Some 0) ∷ [])) ∷ records.Life
    ∷ [])) ∷
    marked 4 (Fell falls.Stop (Some records.Life)) ∷ marked 6 (Called commands.Begin) ∷
    marked 3 (Called commands.Begin) ∷ marked 6 (Told replies.Down) ∷ marked 6 (Called (commands.Do 0 0)) ∷
    marked 6 (Told replies.Down) ∷ marked 6 (Called commands.Commit) ∷ marked 3 (Told (replies.Began (tx 0 5))) ∷
    marked 3 (Called commands.Commit) ∷ marked 3 (Told replies.Unknown) ∷
    marked 3 (Fell falls.Stop (Some (commit (stamp 5 0) (tx 0 5) []))) ∷ marked 3 (Called commands.Begin) ∷
    marked 6 (Told replies.Down) ∷ marked 3 (Told replies.Down) ∷ marked 3 (Called (commands.Do 1 0)) ∷
    marked 3 (Told replies.Down) ∷ marked 3 (Called (commands.Do 1 0)) ∷ marked 3 (Told replies.Down) ∷
    marked 3 (Called commands.Commit) ∷ marked 3 (Told replies.Down) ∷ marked 8 (Phase 5) ∷ marked 8 (Heal 4 2) ∷
    marked 8 (Armed 1 arms.Fail 3) ∷ marked 3 (Called commands.Begin) ∷ marked 6 (Called commands.Begin) ∷
    marked 5 (Called (commands.Do 0 0)) ∷ marked 5 (Told (replies.Response 0)) ∷ marked 5 (Called (commands.Do 1 0)) ∷
    marked 3 (Told replies.Down) ∷ marked 3 (Called (commands.Do 1 0)) ∷ marked 5 (Told (replies.Response 0)) ∷
    marked 5 (Called commands.Commit) ∷ marked 6 (Told replies.Down) ∷
    marked 5 (Wrote (commit (stamp 1 2) (tx 2 1) (operation 0 0 (Some 0) ∷ operation 0 0 (Some 0) ∷ operation 0 0 (Some
    0) ∷ operation 0 0 (Some 0) ∷ operation 1 0 (Some 0) ∷ []))) ∷
    marked 5 (Told (replies.Committed (stamp 1 2))) ∷ marked 6 (Called (commands.Do 0 0)) ∷
    marked 3 (Told replies.Down) ∷ marked 6 (Told replies.Down) ∷ marked 6 (Called commands.Commit) ∷
    marked 3 (Called commands.Commit) ∷ marked 3 (Told replies.Down) ∷ marked 3 (Called commands.Begin) ∷
    marked 6 (Told replies.Down) ∷ marked 3 (Told replies.Down) ∷ marked 3 (Called (commands.Do 0 0)) ∷
    marked 3 (Told replies.Down) ∷ marked 3 (Called commands.Commit) ∷ marked 3 (Told replies.Down) ∷
    marked 8 (Phase 6) ∷
    marked 3 (Rose ((commit (stamp 1 0) (tx 0 1) (operation 0 0 (Some 0) ∷ [])) ∷ (commit (stamp 2 0) (tx 0 2)
    (operation 0 0 (Some 0) ∷ [])) ∷ (commit (stamp 3 0) (tx 0 3) (operation 0 0 (Some 0) ∷ operation 1 0 (Some 0) ∷
    [])) ∷ (commit (stamp 4 0) (tx 0 4) (operation 1 0 (Some 0) ∷ operation 0 0 (Some 0) ∷ operation 1 0 (Some 0) ∷ []))
    ∷ (commit (stamp 5 0) (tx 0 5) []) ∷ [])) ∷
    marked 3 (Wrote records.Life) ∷
    marked 4 (Rose ((commit (stamp 1 1) (tx 1 1) (operation 1 0 (Some 0) ∷ operation 1 0 (Some 0) ∷ [])) ∷ records.Life
    ∷ [])) ∷
    marked 4 (Wrote records.Life) ∷ marked 5 (Fell falls.Script None) ∷ marked 5 (Fell falls.Disk None) ∷
    marked 8 (Armed 6 arms.Stop 7) ∷ marked 6 (Called commands.Begin) ∷ marked 5 (Called commands.Begin) ∷
    marked 6 (Told replies.Down) ∷ marked 6 (Called (commands.Do 1 0)) ∷ marked 5 (Told replies.Down) ∷
    marked 5 (Called (commands.Do 1 0)) ∷ marked 5 (Told replies.Down) ∷ marked 6 (Told replies.Down) ∷
    marked 6 (Called commands.Commit) ∷ marked 5 (Called commands.Abort) ∷ marked 5 (Told replies.Down) ∷
    marked 5 (Called commands.Begin) ∷ marked 5 (Told replies.Down) ∷ marked 5 (Called commands.Commit) ∷
    marked 5 (Told replies.Down) ∷ marked 6 (Told replies.Down) ∷ []
