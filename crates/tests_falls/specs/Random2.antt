-- Random: sites 4, clients 1, steps 49, cuts 1, commits 4, falls 2, rises 2.
use Rattle.std.specs.Prelude.{List, [], ◌∷◌, Some, None, false}
use Rattle.qc_decl.specs.declared.declaration.Declaration.{Declaration}
use Rattle.qc_decl.specs.Vocabulary.{row}
use Rattle.qc_msg.specs.Vocabulary.{Entry, marked}
use Rattle.tests_histories.specs.Words.{tx, stamp, operation, commit, declaration, kind, plan}
use Rattle.qc_msg.specs.declared.step.Step.TheVariants.{Phase, Cut, Heal, Called, Wrote, Told, Armed, Fell, Rose}
use Rattle.qc_msg.specs.declared.turn.Appended.TheVariants.{Done}
use Rattle.tests_falls.specs.Words.{tx_in}
use Rattle.tests_falls.specs.Perform.{Move, Begins, Acts, Takes, Posts, Rises}
use Rattle.qc_msg.specs.declared.step.Command.TheVariants as commands
use Rattle.qc_msg.specs.declared.record.Record.TheVariants as records
use Rattle.qc_msg.specs.declared.reply.Reply.TheVariants as replies
use Rattle.qc_msg.specs.declared.step.Fall.TheVariants as falls
use Rattle.qc_outside.specs.declared.disk.ArmKind.TheVariants as arms

abbrev pub decl : Declaration
decl =
    declaration 4 1 (kind 3 1 1 0 (row 0 0 0 1 ∷ row 1 0 0 0 ∷ []) [] ∷ []) (0 ∷ []) (plan (1 ∷ 1 ∷ 1 ∷ 1 ∷ []) ((0 ∷
    []) ∷ []) ((0 ∷ []) ∷ []) ∷ [])

abbrev pub moves : List Move
moves =
    Begins ∷ Takes 4 ∷ Posts 4 Done ∷ Takes 4 ∷ Posts 4 Done ∷ Takes 4 ∷ Posts 4 Done ∷ Takes 4 ∷ Posts 4 Done ∷
    Takes 4 ∷ Posts 4 Done ∷ Begins ∷ Acts ∷ Acts ∷ Rises false Done ∷ Takes 4 ∷ Posts 4 Done ∷ Takes 4 ∷ Posts 4 Done ∷
    Takes 4 ∷ Posts 4 Done ∷ Takes 4 ∷ Posts 4 Done ∷ Begins ∷ Acts ∷ Acts ∷ Rises false Done ∷ Takes 4 ∷ Posts 4 Done ∷
    Takes 4 ∷ Posts 4 Done ∷ Takes 4 ∷ Posts 4 Done ∷ Takes 4 ∷ Posts 4 Done ∷ Takes 4 ∷ Posts 4 Done ∷ Begins ∷ Acts ∷
    Takes 4 ∷ Posts 4 Done ∷ Takes 4 ∷ Posts 4 Done ∷ []

abbrev pub history : List Entry
history =
    marked 6 (Phase 1) ∷ marked 4 (Called commands.Begin) ∷ marked 4 (Told (replies.Began (tx 0 1))) ∷
    marked 4 (Called commands.Commit) ∷ marked 4 (Wrote (commit (stamp 1 0) (tx 0 1) [])) ∷
    marked 4 (Told (replies.Committed (stamp 1 0))) ∷ marked 4 (Called commands.Begin) ∷
    marked 4 (Told (replies.Began (tx 0 2))) ∷ marked 4 (Called (commands.Do 0 0)) ∷
    marked 4 (Told (replies.Response 0)) ∷ marked 4 (Called commands.Commit) ∷
    marked 4 (Wrote (commit (stamp 2 0) (tx 0 2) (operation 0 0 (Some 0) ∷ []))) ∷
    marked 4 (Told (replies.Committed (stamp 2 0))) ∷ marked 6 (Phase 2) ∷ marked 6 (Cut 1 0) ∷
    marked 4 (Fell falls.Script None) ∷
    marked 4 (Rose ((commit (stamp 1 0) (tx 0 1) []) ∷ (commit (stamp 2 0) (tx 0 2) (operation 0 0 (Some 0) ∷ [])) ∷
    [])) ∷
    marked 4 (Wrote records.Life) ∷ marked 4 (Called commands.Begin) ∷ marked 4 (Told (replies.Began (tx_in 0 2 1))) ∷
    marked 4 (Called (commands.Do 0 0)) ∷ marked 4 (Told (replies.Response 0)) ∷ marked 4 (Called (commands.Do 0 0)) ∷
    marked 4 (Told (replies.Response 0)) ∷ marked 4 (Called commands.Commit) ∷
    marked 4 (Wrote (commit (stamp 3 0) (tx_in 0 2 1) (operation 0 0 (Some 0) ∷ operation 0 0 (Some 0) ∷ []))) ∷
    marked 4 (Told (replies.Committed (stamp 3 0))) ∷ marked 6 (Phase 3) ∷ marked 6 (Heal 1 0) ∷
    marked 3 (Fell falls.Script None) ∷ marked 3 (Rose []) ∷ marked 3 (Wrote records.Life) ∷
    marked 4 (Called commands.Begin) ∷ marked 4 (Told (replies.Began (tx_in 0 2 2))) ∷
    marked 4 (Called (commands.Do 0 0)) ∷ marked 4 (Told (replies.Response 0)) ∷ marked 4 (Called (commands.Do 0 0)) ∷
    marked 4 (Told (replies.Response 0)) ∷ marked 4 (Called (commands.Do 0 0)) ∷ marked 4 (Told (replies.Response 0)) ∷
    marked 4 (Called commands.Commit) ∷
    marked 4 (Wrote (commit (stamp 4 0) (tx_in 0 2 2) (operation 0 0 (Some 0) ∷ operation 0 0 (Some 0) ∷ operation 0 0
    (Some 0) ∷ []))) ∷
    marked 4 (Told (replies.Committed (stamp 4 0))) ∷ marked 6 (Phase 4) ∷ marked 6 (Armed 1 arms.Stop 8) ∷
    marked 4 (Called (commands.Do 0 0)) ∷ marked 4 (Told replies.NoTransaction) ∷ marked 4 (Called commands.Commit) ∷
    marked 4 (Told replies.NoTransaction) ∷ []
