-- Random: sites 1, clients 3, steps 118, messages 15, lost 1, cuts 1, commits 3, aborts 1, short rounds 2, falls 3,
-- rises 3.
use Rattle.std.specs.Prelude.{List, [], ◌∷◌, Some, None, false}
use Rattle.qc_decl.specs.declared.declaration.Declaration.{Declaration}
use Rattle.qc_decl.specs.Vocabulary.{row}
use Rattle.qc_msg.specs.Vocabulary.{Entry, marked}
use Rattle.tests_histories.specs.Words.{tx, stamp, own_line, operation, commit, declaration, kind, plan}
use Rattle.qc_msg.specs.declared.step.Step.TheVariants.{Phase, Cut, Heal, Called, Got, Lost, Wrote, Sent, Told, Armed}
use Rattle.qc_msg.specs.declared.step.Step.TheVariants.{Fell, Rose}
use Rattle.qc_msg.specs.declared.turn.Appended.TheVariants.{Done}
use Rattle.tests_falls.specs.Words.{tx_in}
use Rattle.tests_falls.specs.Perform.{Move, Begins, Acts, Takes, Posts, Rises}
use Rattle.qc_msg.specs.declared.message.Answer.TheVariants as answers
use Rattle.qc_msg.specs.declared.reply.AbortCause.TheVariants as causes
use Rattle.qc_msg.specs.declared.step.Command.TheVariants as commands
use Rattle.qc_msg.specs.declared.reply.Half.TheVariants as halves
use Rattle.qc_msg.specs.declared.message.Message.TheVariants as messages
use Rattle.qc_msg.specs.declared.message.Outcome.TheVariants as outcomes
use Rattle.qc_msg.specs.declared.record.Record.TheVariants as records
use Rattle.qc_msg.specs.declared.reply.Reply.TheVariants as replies
use Rattle.qc_msg.specs.declared.message.Want.TheVariants as wants
use Rattle.qc_msg.specs.declared.step.Fall.TheVariants as falls
use Rattle.qc_msg.specs.Vocabulary.{whole_grant}
use Rattle.qc_outside.specs.declared.disk.ArmKind.TheVariants as arms

abbrev pub decl : Declaration
decl =
    declaration 1 3 (kind 3 1 1 0 (row 0 0 0 1 ∷ row 1 0 0 0 ∷ row 2 0 0 2 ∷ []) [] ∷ []) (0 ∷ 0 ∷ []) (plan (3 ∷ [])
    ((0 ∷ []) ∷ (0 ∷ []) ∷ []) ((1 ∷ []) ∷ (0 ∷ []) ∷ []) ∷ [])

abbrev pub moves : List Move
moves =
    Begins ∷ Acts ∷ Takes 1 ∷ Takes 2 ∷ Posts 2 Done ∷ Takes 3 ∷ Posts 3 Done ∷ Takes 3 ∷ Posts 1 Done ∷ Takes 1 ∷
    Takes 2 ∷ Posts 3 Done ∷ Posts 1 Done ∷ Takes 1 ∷ Takes 3 ∷ Posts 1 Done ∷ Takes 1 ∷ Posts 3 Done ∷ Posts 1 Done ∷
    Posts 2 Done ∷ Takes 2 ∷ Takes 3 ∷ Posts 3 Done ∷ Takes 3 ∷ Takes 1 ∷ Posts 2 Done ∷ Posts 3 Done ∷ Posts 1 Done ∷
    Takes 1 ∷ Posts 1 Done ∷ Takes 1 ∷ Posts 1 Done ∷ Takes 3 ∷ Posts 3 Done ∷ Takes 0 ∷ Posts 0 Done ∷ Takes 1 ∷
    Posts 1 Done ∷ Takes 0 ∷ Posts 0 Done ∷ Takes 3 ∷ Posts 3 Done ∷ Takes 3 ∷ Posts 3 Done ∷ Takes 3 ∷ Posts 3 Done ∷
    Takes 0 ∷ Posts 0 Done ∷ Takes 3 ∷ Posts 3 Done ∷ Begins ∷ Acts ∷ Rises false Done ∷ Begins ∷ Acts ∷ Acts ∷
    Rises false Done ∷ Acts ∷ Takes 3 ∷ Takes 2 ∷ Posts 3 Done ∷ Takes 1 ∷ Takes 0 ∷ Posts 1 Done ∷ Posts 0 Done ∷
    Takes 3 ∷ Takes 1 ∷ Posts 2 Done ∷ Posts 3 Done ∷ Posts 1 Done ∷ Takes 0 ∷ Posts 0 Done ∷ Takes 1 ∷ Posts 1 Done ∷
    Takes 1 ∷ Posts 1 Done ∷ Takes 0 ∷ Posts 0 Done ∷ Begins ∷ Begins ∷ Acts ∷ Rises false Done ∷ Takes 1 ∷
    Posts 1 Done ∷ Takes 1 ∷ Posts 1 Done ∷ Takes 1 ∷ Posts 1 Done ∷ Takes 1 ∷ Posts 1 Done ∷ Takes 3 ∷ Posts 3 Done ∷
    Takes 3 ∷ Posts 3 Done ∷ Takes 3 ∷ Posts 3 Done ∷ Takes 3 ∷ Posts 3 Done ∷ Takes 3 ∷ Posts 3 Done ∷ Takes 0 ∷
    Posts 0 Done ∷ Takes 3 ∷ Posts 3 Done ∷ Takes 3 ∷ Posts 3 Done ∷ Takes 3 ∷ Posts 3 Done ∷ Takes 3 ∷ Posts 3 Done ∷
    Takes 0 ∷ Posts 0 Done ∷ []

abbrev pub history : List Entry
history =
    marked 5 (Phase 1) ∷ marked 2 (Fell falls.Script None) ∷ marked 1 (Called commands.Begin) ∷
    marked 2 (Called commands.Begin) ∷ marked 2 (Told replies.Down) ∷ marked 3 (Called commands.Begin) ∷
    marked 3 (Told (replies.Began (tx 2 1))) ∷ marked 3 (Called (commands.Do 1 0)) ∷
    marked 1 (Told (replies.Began (tx 0 1))) ∷ marked 1 (Called (commands.Do 1 0)) ∷
    marked 2 (Called (commands.Do 1 0)) ∷ marked 3 (Told (replies.Response 0)) ∷ marked 1 (Told (replies.Response 0)) ∷
    marked 1 (Called (commands.Do 1 0)) ∷ marked 3 (Called (commands.Do 1 0)) ∷ marked 1 (Told (replies.Response 0)) ∷
    marked 1 (Called (commands.Do 1 0)) ∷ marked 3 (Told (replies.Response 0)) ∷ marked 1 (Told (replies.Response 0)) ∷
    marked 2 (Told replies.Down) ∷ marked 2 (Called commands.Commit) ∷ marked 3 (Called commands.Commit) ∷
    marked 3 (Wrote (commit (stamp 1 2) (tx 2 1) (operation 1 0 (Some 0) ∷ operation 1 0 (Some 0) ∷ []))) ∷
    marked 3 (Told (replies.Committed (stamp 1 2))) ∷ marked 3 (Called commands.Begin) ∷
    marked 1 (Called commands.Commit) ∷ marked 2 (Told replies.Down) ∷ marked 3 (Told (replies.Began (tx 2 2))) ∷
    marked 1 (Wrote (commit (stamp 1 0) (tx 0 1) (operation 1 0 (Some 0) ∷ operation 1 0 (Some 0) ∷ operation 1 0 (Some
    0) ∷ []))) ∷
    marked 1 (Told (replies.Committed (stamp 1 0))) ∷ marked 1 (Called commands.Begin) ∷
    marked 1 (Told (replies.Began (tx 0 2))) ∷ marked 1 (Called (commands.Do 0 0)) ∷
    marked 1 (Sent 0 0 (messages.Request (tx 0 2) 1 0 (wants.Append 0 [] (own_line 1 0 0 ∷ [])))) ∷
    marked 3 (Called (commands.Do 0 0)) ∷
    marked 3 (Sent 1 0 (messages.Request (tx 2 2) 1 0 (wants.Append 0 [] (own_line 1 0 0 ∷ [])))) ∷ marked 0 (Got 0) ∷
    marked 0 (Sent 2 1 (messages.Answer 0 (answers.Granted (whole_grant 1 0 [])))) ∷ marked 1 (Got 2) ∷
    marked 1 (Told (replies.Response 0)) ∷ marked 0 (Got 1) ∷
    marked 0 (Sent 3 3 (messages.Answer 1 (answers.Granted (whole_grant 1 0 [])))) ∷ marked 3 (Got 3) ∷
    marked 3 (Told (replies.Response 0)) ∷ marked 3 (Called (commands.Do 1 0)) ∷ marked 3 (Told (replies.Response 0)) ∷
    marked 3 (Called (commands.Do 0 0)) ∷
    marked 3 (Sent 4 0 (messages.Request (tx 2 2) 1 1 (wants.Append 0 [] (own_line 1 0 0 ∷ own_line 3 0 0 ∷ [])))) ∷
    marked 0 (Got 4) ∷ marked 0 (Sent 5 3 (messages.Answer 4 (answers.Granted (whole_grant 1 0 [])))) ∷ marked 3 (Got 5)
    ∷
    marked 3 (Told (replies.Response 0)) ∷ marked 5 (Phase 2) ∷ marked 5 (Cut 1 0) ∷ marked 2 (Rose []) ∷
    marked 2 (Wrote records.Life) ∷ marked 5 (Phase 3) ∷ marked 5 (Heal 1 0) ∷ marked 0 (Fell falls.Script None) ∷
    marked 0 (Rose []) ∷ marked 0 (Wrote records.Life) ∷ marked 5 (Armed 1 arms.Fail 1) ∷
    marked 3 (Called (commands.Do 0 0)) ∷ marked 2 (Called commands.Begin) ∷
    marked 3 (Sent 6 0 (messages.Request (tx 2 2) 1 1 (wants.Append 0 [] (own_line 1 0 0 ∷ own_line 3 0 0 ∷ own_line 4 0
    0 ∷ [])))) ∷
    marked 1 (Called (commands.Do 1 0)) ∷ marked 0 (Got 6) ∷ marked 1 (Told (replies.Response 0)) ∷
    marked 0 (Sent 7 3 (messages.Answer 6 (answers.Restarted 2))) ∷ marked 3 (Got 7) ∷
    marked 1 (Called (commands.Do 0 0)) ∷ marked 2 (Told (replies.Began (tx_in 1 2 1))) ∷
    marked 3 (Told (replies.Quorum halves.Append 0 1)) ∷
    marked 1 (Sent 8 0 (messages.Request (tx 0 2) 1 1 (wants.Append 0 [] (own_line 1 0 0 ∷ own_line 3 0 0 ∷ [])))) ∷
    marked 0 (Got 8) ∷ marked 0 (Sent 9 1 (messages.Answer 8 (answers.Restarted 2))) ∷ marked 1 (Got 9) ∷
    marked 1 (Told (replies.Quorum halves.Append 0 1)) ∷ marked 1 (Called commands.Abort) ∷
    marked 1 (Sent 10 0 (messages.Decision (tx 0 2) outcomes.Aborted)) ∷ marked 1 (Told replies.Dropped) ∷
    marked 0 (Got 10) ∷ marked 5 (Phase 4) ∷ marked 5 (Phase 5) ∷ marked 3 (Fell falls.Script None) ∷
    marked 3 (Rose ((commit (stamp 1 2) (tx 2 1) (operation 1 0 (Some 0) ∷ operation 1 0 (Some 0) ∷ [])) ∷ [])) ∷
    marked 3 (Wrote records.Life) ∷ marked 1 (Called commands.Begin) ∷ marked 1 (Told (replies.Began (tx 0 3))) ∷
    marked 1 (Called (commands.Do 1 0)) ∷ marked 1 (Told (replies.Response 0)) ∷ marked 1 (Called (commands.Do 1 0)) ∷
    marked 1 (Told (replies.Response 0)) ∷ marked 1 (Called commands.Commit) ∷
    marked 1 (Wrote (commit (stamp 2 0) (tx 0 3) (operation 1 0 (Some 0) ∷ operation 1 0 (Some 0) ∷ []))) ∷
    marked 1 (Told (replies.Committed (stamp 2 0))) ∷ marked 3 (Called (commands.Do 1 0)) ∷
    marked 3 (Told replies.NoTransaction) ∷ marked 3 (Called commands.Commit) ∷ marked 3 (Told replies.NoTransaction) ∷
    marked 3 (Called commands.Begin) ∷ marked 3 (Told (replies.Began (tx_in 2 2 1))) ∷
    marked 3 (Called (commands.Do 1 0)) ∷ marked 3 (Told (replies.Response 0)) ∷ marked 3 (Called (commands.Do 0 0)) ∷
    marked 3 (Sent 11 0 (messages.Request (tx_in 2 2 1) 1 0 (wants.Append 0 [] (own_line 2 0 0 ∷ [])))) ∷
    marked 0 (Got 11) ∷ marked 0 (Sent 12 3 (messages.Answer 11 (answers.Granted (whole_grant 2 0 []))))
    ∷ marked 3 (Got 12) ∷
    marked 3 (Told (replies.Response 0)) ∷ marked 3 (Called (commands.Do 1 0)) ∷ marked 3 (Told (replies.Response 0)) ∷
    marked 3 (Called commands.Commit) ∷ marked 3 (Sent 13 0 (messages.Request (tx_in 2 2 1) 1 2 wants.Prepare)) ∷
    marked 3 (Lost 13) ∷ marked 3 (Sent 14 0 (messages.Decision (tx_in 2 2 1) outcomes.Aborted)) ∷
    marked 3 (Told (replies.Aborted (causes.NoAnswer 0))) ∷ marked 0 (Got 14) ∷ []
