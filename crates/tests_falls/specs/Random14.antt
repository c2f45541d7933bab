-- Random: sites 3, clients 1, steps 78, messages 10, cuts 3, commits 2, falls 4, rises 1.
use Rattle.std.specs.Prelude.{List, [], ◌∷◌, Some, None, false}
use Rattle.qc_decl.specs.declared.declaration.Declaration.{Declaration}
use Rattle.qc_decl.specs.Vocabulary.{row}
use Rattle.qc_msg.specs.Vocabulary.{Entry, marked}
use Rattle.tests_histories.specs.Words.{tx, stamp, operation, read_lock, prepare, commit, declaration, kind, plan}
use Rattle.qc_msg.specs.declared.step.Step.TheVariants.{Phase, Cut, Heal, Called, Got, Wrote, Sent, Told, Armed, Fell}
use Rattle.qc_msg.specs.declared.step.Step.TheVariants.{Rose}
use Rattle.qc_msg.specs.declared.turn.Appended.TheVariants.{Done}
use Rattle.tests_falls.specs.Perform.{Move, Begins, Acts, Takes, Posts, Rises}
use Rattle.qc_msg.specs.declared.message.Answer.TheVariants as answers
use Rattle.qc_msg.specs.declared.step.Command.TheVariants as commands
use Rattle.qc_msg.specs.declared.message.Message.TheVariants as messages
use Rattle.qc_msg.specs.declared.message.Outcome.TheVariants as outcomes
use Rattle.qc_msg.specs.declared.record.Record.TheVariants as records
use Rattle.qc_msg.specs.declared.reply.Reply.TheVariants as replies
use Rattle.qc_msg.specs.declared.message.Want.TheVariants as wants
use Rattle.qc_msg.specs.declared.step.Fall.TheVariants as falls
use Rattle.qc_msg.specs.Vocabulary.{whole_grant, first_read}
use Rattle.qc_outside.specs.declared.disk.ArmKind.TheVariants as arms

abbrev pub decl : Declaration
decl =
    declaration 3 1 (kind 3 1 1 0 (row 0 0 0 0 ∷ row 1 0 0 1 ∷ row 2 0 0 2 ∷ []) [] ∷ []) (0 ∷ 0 ∷ []) (plan (0 ∷ 1 ∷ 1
    ∷ []) ((1 ∷ []) ∷ (0 ∷ []) ∷ []) ((0 ∷ []) ∷ (0 ∷ []) ∷ []) ∷ [])

abbrev pub moves : List Move
moves =
    Begins ∷ Acts ∷ Takes 3 ∷ Posts 3 Done ∷ Begins ∷ Acts ∷ Acts ∷ Rises false Done ∷ Takes 3 ∷ Posts 3 Done ∷
    Takes 1 ∷ Posts 1 Done ∷ Takes 3 ∷ Posts 3 Done ∷ Takes 3 ∷ Posts 3 Done ∷ Takes 1 ∷ Posts 1 Done ∷ Takes 3 ∷
    Posts 3 Done ∷ Takes 1 ∷ Posts 1 Done ∷ Begins ∷ Takes 3 ∷ Posts 3 Done ∷ Takes 3 ∷ Posts 3 Done ∷ Takes 3 ∷
    Posts 3 Done ∷ Takes 3 ∷ Posts 3 Done ∷ Takes 1 ∷ Posts 1 Done ∷ Takes 3 ∷ Posts 3 Done ∷ Takes 3 ∷ Posts 3 Done ∷
    Takes 3 ∷ Posts 3 Done ∷ Takes 1 ∷ Posts 1 Done ∷ Takes 3 ∷ Posts 3 Done ∷ Takes 1 ∷ Posts 1 Done ∷ Begins ∷ Acts ∷
    Acts ∷ Acts ∷ Takes 3 ∷ Posts 3 Done ∷ Takes 3 ∷ Posts 3 Done ∷ Begins ∷ Acts ∷ Acts ∷ Acts ∷ Acts ∷ Acts ∷
    Takes 3 ∷ Posts 3 Done ∷ Takes 3 ∷ Posts 3 Done ∷ Takes 3 ∷ Posts 3 Done ∷ Takes 3 ∷ Posts 3 Done ∷ Takes 3 ∷
    Posts 3 Done ∷ Takes 3 ∷ Posts 3 Done ∷ []

abbrev pub history : List Entry
history =
    marked 5 (Phase 1) ∷ marked 5 (Cut 3 2) ∷ marked 3 (Called commands.Begin) ∷
    marked 3 (Told (replies.Began (tx 0 1))) ∷ marked 5 (Phase 2) ∷ marked 5 (Heal 3 2) ∷
    marked 0 (Fell falls.Script None) ∷ marked 0 (Rose []) ∷ marked 0 (Wrote records.Life) ∷
    marked 3 (Called (commands.Do 0 0)) ∷
    marked 3 (Sent 0 1 (messages.Request (tx 0 1) 1 0 (wants.Read (first_read 0 0))))
    ∷
    marked 1 (Got 0) ∷ marked 1 (Sent 1 3 (messages.Answer 0 (answers.Granted (whole_grant 1 0 [])))) ∷ marked 3 (Got 1)
    ∷
    marked 3 (Told (replies.Response 0)) ∷ marked 3 (Called commands.Commit) ∷
    marked 3 (Sent 2 1 (messages.Request (tx 0 1) 1 1 wants.Prepare)) ∷ marked 1 (Got 2) ∷
    marked 1 (Wrote (prepare (tx 0 1) 1 (read_lock 0 0 ∷ []) [] [])) ∷
    marked 1 (Sent 3 3 (messages.Answer 2 (answers.Yes 0))) ∷ marked 3 (Got 3) ∷
    marked 3 (Wrote (commit (stamp 1 0) (tx 0 1) (operation 0 0 (Some 0) ∷ []))) ∷
    marked 3 (Sent 4 1 (messages.Decision (tx 0 1) (outcomes.Committed (stamp 1 0)))) ∷
    marked 3 (Told (replies.Committed (stamp 1 0))) ∷ marked 1 (Got 4) ∷ marked 1 (Wrote (records.Done (tx 0 1) 1)) ∷
    marked 5 (Phase 3) ∷ marked 3 (Called (commands.Do 0 0)) ∷ marked 3 (Told replies.NoTransaction) ∷
    marked 3 (Called commands.Commit) ∷ marked 3 (Told replies.NoTransaction) ∷ marked 3 (Called commands.Begin) ∷
    marked 3 (Told (replies.Began (tx 0 2))) ∷ marked 3 (Called (commands.Do 0 0)) ∷
    marked 3 (Sent 5 1 (messages.Request (tx 0 2) 1 0 (wants.Read (first_read 0 0)))) ∷ marked 1 (Got 5) ∷
    marked 1 (Sent 6 3 (messages.Answer 5 (answers.Granted (whole_grant 1 1 [])))) ∷ marked 3 (Got 6) ∷
    marked 3 (Told (replies.Response 0)) ∷ marked 3 (Called (commands.Do 1 0)) ∷ marked 3 (Told (replies.Response 0)) ∷
    marked 3 (Called commands.Commit) ∷ marked 3 (Sent 7 1 (messages.Request (tx 0 2) 1 1 wants.Prepare)) ∷
    marked 1 (Got 7) ∷ marked 1 (Wrote (prepare (tx 0 2) 1 (read_lock 0 0 ∷ []) [] [])) ∷
    marked 1 (Sent 8 3 (messages.Answer 7 (answers.Yes 1))) ∷ marked 3 (Got 8) ∷
    marked 3 (Wrote (commit (stamp 2 0) (tx 0 2) (operation 0 0 (Some 0) ∷ operation 1 0 (Some 0) ∷ []))) ∷
    marked 3 (Sent 9 1 (messages.Decision (tx 0 2) (outcomes.Committed (stamp 2 0)))) ∷
    marked 3 (Told (replies.Committed (stamp 2 0))) ∷ marked 1 (Got 9) ∷ marked 1 (Wrote (records.Done (tx 0 2) 2)) ∷
    marked 5 (Phase 4) ∷ marked 5 (Cut 3 1) ∷ marked 5 (Armed 0 arms.Stop 3) ∷ marked 2 (Fell falls.Script None) ∷
    marked 3 (Called (commands.Do 0 0)) ∷ marked 3 (Told replies.NoTransaction) ∷ marked 3 (Called commands.Commit) ∷
    marked 3 (Told replies.NoTransaction) ∷ marked 5 (Phase 5) ∷ marked 5 (Heal 3 1) ∷ marked 5 (Cut 3 1) ∷
    marked 5 (Armed 2 arms.Fail 3) ∷ marked 1 (Fell falls.Script None) ∷ marked 3 (Fell falls.Script None) ∷
    marked 3 (Called commands.Begin) ∷ marked 3 (Told replies.Down) ∷ marked 3 (Called commands.Commit) ∷
    marked 3 (Told replies.Down) ∷ marked 3 (Called commands.Begin) ∷ marked 3 (Told replies.Down) ∷
    marked 3 (Called (commands.Do 0 0)) ∷ marked 3 (Told replies.Down) ∷ marked 3 (Called (commands.Do 1 0)) ∷
    marked 3 (Told replies.Down) ∷ marked 3 (Called commands.Commit) ∷ marked 3 (Told replies.Down) ∷ []
