-- Random: sites 3, clients 2, steps 114, messages 19, lost 3, cuts 1, commits 3, aborts 1, short rounds 2, absent 9,
-- falls 4, rises 3, unwritten records 1.
use Rattle.std.specs.Prelude.{List, [], ◌∷◌, Some, None, true, false}
use Rattle.qc_decl.specs.declared.declaration.Declaration.{Declaration}
use Rattle.qc_decl.specs.Vocabulary.{row}
use Rattle.qc_msg.specs.Vocabulary.{Entry, marked}
use Rattle.tests_histories.specs.Words.{tx, stamp, own_line, operation, read_lock, prepare, commit, declaration, kind}
use Rattle.tests_histories.specs.Words.{pair, plan}
use Rattle.qc_msg.specs.declared.step.Step.TheVariants.{Phase, Cut, Heal, Called, Got, Lost, Wrote, Sent, Told, Armed}
use Rattle.qc_msg.specs.declared.step.Step.TheVariants.{Fell, Rose}
use Rattle.qc_msg.specs.declared.turn.Appended.TheVariants.{Done, Stopped}
use Rattle.tests_falls.specs.Words.{tx_in}
use Rattle.tests_falls.specs.Perform.{Move, Begins, Acts, Takes, Posts, Rises}
use Rattle.qc_msg.specs.declared.message.Answer.TheVariants as answers
use Rattle.qc_msg.specs.declared.reply.AbortCause.TheVariants as causes
use Rattle.qc_msg.specs.declared.step.Command.TheVariants as commands
use Rattle.qc_msg.specs.declared.reply.Half.TheVariants as halves
use Rattle.qc_msg.specs.declared.message.Message.TheVariants as messages
use Rattle.qc_msg.specs.declared.message.Outcome.TheVariants as outcomes
use Rattle.qc_msg.specs.declared.record.Record.TheVariants as records
use Rattle.qc_msg.specs.declared.reply.Reply.TheVariants as replies
use Rattle.qc_msg.specs.declared.message.Want.TheVariants as wants
use Rattle.qc_msg.specs.declared.step.Fall.TheVariants as falls
use Rattle.qc_msg.specs.Vocabulary.{whole_grant, first_read}
use Rattle.qc_outside.specs.declared.disk.ArmKind.TheVariants as arms

abbrev pub decl : Declaration
decl =
    declaration 3 2 (kind 2 2 3 0 (row 0 0 2 0 ∷ row 0 0 0 1 ∷ row 1 0 2 1 ∷ row 1 0 1 1 ∷ []) (pair 0 0 ∷ pair 0 1 ∷
    []) ∷ kind 3 2 2 0 (row 0 0 1 2 ∷ row 0 1 1 2 ∷ row 0 1 0 1 ∷ row 1 1 0 2 ∷ row 1 1 1 0 ∷ row 2 0 0 1 ∷ row 2 0 1 2
    ∷ row 2 1 1 1 ∷ row 2 1 0 2 ∷ []) (pair 0 0 ∷ pair 0 1 ∷ pair 0 2 ∷ pair 0 3 ∷ []) ∷ []) (0 ∷ []) (plan (1 ∷ 1 ∷ 0 ∷
    []) ((2 ∷ 0 ∷ []) ∷ []) ((1 ∷ 1 ∷ 0 ∷ []) ∷ []) ∷ [])

abbrev pub moves : List Move
moves =
    Begins ∷ Acts ∷ Acts ∷ Rises false Done ∷ Takes 3 ∷ Posts 3 Done ∷ Takes 4 ∷ Posts 4 Done ∷ Takes 4 ∷ Takes 3 ∷
    Posts 3 Done ∷ Takes 3 ∷ Posts 4 Done ∷ Posts 3 Done ∷ Takes 3 ∷ Takes 4 ∷ Posts 4 Done ∷ Takes 4 ∷ Posts 4 Done ∷
    Posts 3 Done ∷ Takes 3 ∷ Posts 3 Done ∷ Takes 3 ∷ Posts 3 Stopped ∷ Begins ∷ Acts ∷ Acts ∷ Rises true Done ∷
    Takes 3 ∷ Posts 3 Done ∷ Takes 3 ∷ Takes 4 ∷ Posts 4 Done ∷ Takes 4 ∷ Posts 4 Done ∷ Posts 3 Done ∷ Takes 3 ∷
    Posts 3 Done ∷ Takes 0 ∷ Posts 0 Done ∷ Takes 3 ∷ Posts 3 Done ∷ Takes 1 ∷ Posts 1 Done ∷ Takes 3 ∷ Posts 3 Done ∷
    Takes 0 ∷ Posts 0 Done ∷ Takes 3 ∷ Posts 3 Done ∷ Takes 3 ∷ Posts 3 Done ∷ Begins ∷ Acts ∷ Acts ∷ Takes 3 ∷
    Posts 3 Done ∷ Takes 3 ∷ Posts 3 Done ∷ Takes 1 ∷ Takes 4 ∷ Posts 1 Done ∷ Takes 3 ∷ Posts 3 Done ∷ Posts 4 Done ∷
    Takes 3 ∷ Posts 3 Done ∷ Takes 1 ∷ Takes 3 ∷ Posts 3 Done ∷ Posts 1 Done ∷ Takes 3 ∷ Posts 3 Done ∷ Takes 1 ∷
    Posts 1 Done ∷ Begins ∷ Acts ∷ Takes 3 ∷ Posts 3 Done ∷ Begins ∷ Rises false Done ∷ Begins ∷ Acts ∷ Takes 3 ∷
    Posts 3 Done ∷ Takes 3 ∷ Posts 3 Done ∷ Takes 1 ∷ Takes 3 ∷ Posts 3 Done ∷ Posts 1 Done ∷ Takes 3 ∷ Posts 3 Done ∷
    Takes 3 ∷ Posts 3 Done ∷ Takes 1 ∷ Posts 1 Done ∷ Begins ∷ Takes 3 ∷ Posts 3 Done ∷ Takes 3 ∷ Posts 3 Done ∷
    Takes 3 ∷ Posts 3 Done ∷ []

abbrev pub history : List Entry
history =
    marked 6 (Phase 1) ∷ marked 6 (Cut 0 2) ∷ marked 0 (Fell falls.Script None) ∷ marked 0 (Rose []) ∷
    marked 0 (Wrote records.Life) ∷ marked 3 (Called commands.Begin) ∷ marked 3 (Told (replies.Began (tx 0 1))) ∷
    marked 4 (Called commands.Begin) ∷ marked 4 (Told (replies.Began (tx 1 1))) ∷ marked 4 (Called (commands.Do 0 1)) ∷
    marked 3 (Called (commands.Do 0 1)) ∷ marked 3 (Told replies.Absent) ∷ marked 3 (Called commands.Commit) ∷
    marked 4 (Told replies.Absent) ∷ marked 3 (Wrote (commit (stamp 1 0) (tx 0 1) (operation 0 1 None ∷ []))) ∷
    marked 3 (Told (replies.Committed (stamp 1 0))) ∷ marked 3 (Called commands.Begin) ∷
    marked 4 (Called (commands.Do 0 1)) ∷ marked 4 (Told replies.Absent) ∷ marked 4 (Called commands.Commit) ∷
    marked 4 (Wrote (commit (stamp 1 1) (tx 1 1) (operation 0 1 None ∷ operation 0 1 None ∷ []))) ∷
    marked 4 (Told (replies.Committed (stamp 1 1))) ∷ marked 3 (Told (replies.Began (tx 0 2))) ∷
    marked 3 (Called (commands.Do 0 1)) ∷ marked 3 (Told replies.Absent) ∷ marked 3 (Called commands.Commit) ∷
    marked 3 (Told replies.Unknown) ∷
    marked 3 (Fell falls.Stop (Some (commit (stamp 2 0) (tx 0 2) (operation 0 1 None ∷ [])))) ∷ marked 6 (Phase 2) ∷
    marked 6 (Heal 0 2) ∷ marked 6 (Armed 2 arms.Stop 1) ∷
    marked 3 (Rose ((commit (stamp 1 0) (tx 0 1) (operation 0 1 None ∷ [])) ∷ (commit (stamp 2 0) (tx 0 2) (operation 0
    1 None ∷ [])) ∷ [])) ∷
    marked 3 (Wrote records.Life) ∷ marked 3 (Called commands.Begin) ∷ marked 3 (Told (replies.Began (tx_in 0 2 1))) ∷
    marked 3 (Called (commands.Do 0 1)) ∷ marked 4 (Called commands.Begin) ∷ marked 4 (Told (replies.Began (tx 1 2))) ∷
    marked 4 (Called (commands.Do 0 1)) ∷ marked 4 (Told replies.Absent) ∷ marked 3 (Told replies.Absent) ∷
    marked 3 (Called (commands.Do 0 0))
    ∷ marked 3 (Sent 0 0 (messages.Request (tx_in 0 2 1) 1 0 (wants.Read (first_read 0 0)))) ∷
    marked 3 (Sent 1 1 (messages.Request (tx_in 0 2 1) 1 0 (wants.Read (first_read 0 0)))) ∷ marked 0 (Got 0) ∷
    marked 0 (Sent 2 3 (messages.Answer 0 (answers.Granted (whole_grant 2 0 [])))) ∷ marked 3 (Got 2) ∷ marked 1 (Got 1)
    ∷
    marked 1 (Sent 3 3 (messages.Answer 1 (answers.Granted (whole_grant 1 0 [])))) ∷ marked 3 (Got 3) ∷
    marked 3 (Sent 4 0 (messages.Request (tx_in 0 2 1) 1 2 (wants.Append 0 [] (own_line 2 0 1 ∷ [])))) ∷
    marked 0 (Got 4) ∷ marked 0 (Sent 5 3 (messages.Answer 4 (answers.Granted (whole_grant 2 0 [])))) ∷ marked 3 (Got 5)
    ∷
    marked 3 (Told (replies.Response 0)) ∷ marked 3 (Called (commands.Do 0 1)) ∷ marked 3 (Told replies.Absent) ∷
    marked 6 (Phase 3) ∷ marked 6 (Armed 3 arms.Fail 5) ∷ marked 0 (Fell falls.Script None) ∷
    marked 3 (Called (commands.Do 0 0))
    ∷ marked 3 (Sent 6 0 (messages.Request (tx_in 0 2 1) 1 2 (wants.Read (first_read 0 0)))) ∷
    marked 3 (Sent 7 1 (messages.Request (tx_in 0 2 1) 1 1 (wants.Read (first_read 0 0)))) ∷ marked 3 (Lost 6)
    ∷ marked 1 (Got 7) ∷
    marked 4 (Called commands.Commit) ∷ marked 1 (Sent 8 3 (messages.Answer 7 (answers.Granted (whole_grant 1 0 [])))) ∷
    marked 3 (Got 8) ∷ marked 3 (Told (replies.Quorum halves.Read 1 2)) ∷
    marked 4 (Wrote (commit (stamp 2 1) (tx 1 2) (operation 0 1 None ∷ []))) ∷
    marked 4 (Told (replies.Committed (stamp 2 1))) ∷ marked 3 (Called commands.Commit) ∷
    marked 3 (Sent 9 0 (messages.Request (tx_in 0 2 1) 1 2 wants.Prepare)) ∷
    marked 3 (Sent 10 1 (messages.Request (tx_in 0 2 1) 1 1 wants.Prepare)) ∷ marked 1 (Got 10) ∷ marked 3 (Lost 9) ∷
    marked 1 (Wrote (prepare (tx_in 0 2 1) 1 (read_lock 0 0 ∷ []) [] [])) ∷
    marked 1 (Sent 11 3 (messages.Answer 10 (answers.Yes 0))) ∷ marked 3 (Got 11) ∷
    marked 3 (Sent 12 0 (messages.Decision (tx_in 0 2 1) outcomes.Aborted)) ∷
    marked 3 (Sent 13 1 (messages.Decision (tx_in 0 2 1) outcomes.Aborted)) ∷
    marked 3 (Told (replies.Aborted (causes.NoAnswer 0))) ∷ marked 1 (Got 13) ∷ marked 6 (Phase 4) ∷
    marked 6 (Armed 1 arms.Stop 3) ∷ marked 3 (Called commands.Begin) ∷ marked 3 (Told (replies.Began (tx_in 0 2 2))) ∷
    marked 6 (Phase 5) ∷ marked 0 (Rose (records.Life ∷ [])) ∷ marked 0 (Wrote records.Life) ∷ marked 6 (Phase 6) ∷
    marked 0 (Fell falls.Script None) ∷ marked 3 (Called (commands.Do 0 1)) ∷ marked 3 (Told replies.Absent) ∷
    marked 3 (Called (commands.Do 0 0))
    ∷ marked 3 (Sent 14 0 (messages.Request (tx_in 0 2 2) 1 0 (wants.Read (first_read 0 0)))) ∷
    marked 3 (Sent 15 1 (messages.Request (tx_in 0 2 2) 1 0 (wants.Read (first_read 0 0)))) ∷ marked 1 (Got 15) ∷
    marked 3 (Lost 14) ∷ marked 1 (Sent 16 3 (messages.Answer 15 (answers.Granted (whole_grant 1 0 []))))
    ∷ marked 3 (Got 16) ∷
    marked 3 (Told (replies.Quorum halves.Read 1 2)) ∷ marked 3 (Called commands.Abort) ∷
    marked 3 (Sent 17 0 (messages.Decision (tx_in 0 2 2) outcomes.Aborted)) ∷
    marked 3 (Sent 18 1 (messages.Decision (tx_in 0 2 2) outcomes.Aborted)) ∷ marked 3 (Told replies.Dropped) ∷
    marked 1 (Got 18) ∷ marked 6 (Phase 7) ∷ marked 3 (Called commands.Begin) ∷
    marked 3 (Told (replies.Began (tx_in 0 2 3))) ∷ marked 3 (Called (commands.Do 0 1)) ∷
    marked 3 (Told replies.Absent) ∷ marked 3 (Called commands.Abort) ∷ marked 3 (Told replies.Dropped) ∷ []
