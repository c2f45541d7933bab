-- Random: sites 5, clients 4, steps 184, messages 54, lost 11, cuts 1, commits 1, aborts 1, short rounds 5, absent 3,
-- falls 9, rises 8, unwritten records 2.
use Rattle.std.specs.Prelude.{List, [], ◌∷◌, Some, None, true, false}
use Rattle.qc_decl.specs.declared.declaration.Declaration.{Declaration}
use Rattle.qc_decl.specs.Vocabulary.{row}
use Rattle.qc_msg.specs.Vocabulary.{Entry, marked}
use Rattle.tests_histories.specs.Words.{tx, stamp, operation, read_lock, prepare, commit, declaration, kind, pair, plan}
use Rattle.qc_msg.specs.declared.step.Step.TheVariants.{Phase, Cut, Heal, Called, Got, Lost, Wrote, Sent, Told, Armed}
use Rattle.qc_msg.specs.declared.step.Step.TheVariants.{Fell, Rose}
use Rattle.qc_msg.specs.declared.turn.Appended.TheVariants.{Done, Stopped}
use Rattle.tests_falls.specs.Words.{tx_in}
use Rattle.tests_falls.specs.Perform.{Move, Begins, Acts, Takes, Posts, Rises, Unopened}
use Rattle.qc_msg.specs.declared.message.Answer.TheVariants as answers
use Rattle.qc_msg.specs.declared.reply.AbortCause.TheVariants as causes
use Rattle.qc_msg.specs.declared.step.Command.TheVariants as commands
use Rattle.qc_msg.specs.declared.reply.Half.TheVariants as halves
use Rattle.qc_msg.specs.declared.message.Message.TheVariants as messages
use Rattle.qc_msg.specs.declared.message.Outcome.TheVariants as outcomes
use Rattle.qc_msg.specs.declared.record.Record.TheVariants as records
use Rattle.qc_msg.specs.declared.reply.Reply.TheVariants as replies
use Rattle.qc_msg.specs.declared.message.Want.TheVariants as wants
use Rattle.qc_msg.specs.declared.step.Fall.TheVariants as falls
use Rattle.qc_msg.specs.Vocabulary.{whole_grant, first_read}
use Rattle.qc_outside.specs.declared.disk.ArmKind.TheVariants as arms

abbrev pub decl : Declaration
decl =
    declaration 5 4 (kind 4 3 3 0 (row 0 0 0 1 ∷ row 0 1 0 2 ∷ row 1 1 0 3 ∷ row 2 0 0 3 ∷ row 1 2 1 0 ∷ row 2 2 2 0 ∷
    row 3 2 1 2 ∷ row 3 2 2 1 ∷ []) (pair 0 0 ∷ pair 0 2 ∷ pair 0 3 ∷ pair 1 1 ∷ pair 1 2 ∷ pair 1 3 ∷ pair 2 0 ∷ pair 2
    1 ∷ pair 2 2 ∷ pair 2 3 ∷ []) ∷ kind 3 1 3 0 (row 1 0 2 1 ∷ row 2 0 0 1 ∷ []) [] ∷ []) (1 ∷ 0 ∷ []) (plan (2 ∷ 1 ∷ 1
    ∷ 1 ∷ 1 ∷ []) ((0 ∷ []) ∷ (4 ∷ 4 ∷ 4 ∷ []) ∷ []) ((0 ∷ 0 ∷ []) ∷ (3 ∷ 3 ∷ 3 ∷ 3 ∷ []) ∷ []) ∷ [])

abbrev pub moves : List Move
moves =
    Begins ∷ Acts ∷ Acts ∷ Rises false Stopped ∷ Acts ∷ Rises false Done ∷ Acts ∷ Unopened falls.Disk ∷ Acts ∷
    Rises false Done ∷ Takes 7 ∷ Posts 7 Done ∷ Takes 7 ∷ Takes 8 ∷ Takes 5 ∷ Posts 7 Done ∷ Posts 5 Done ∷ Takes 5 ∷
    Posts 5 Done ∷ Takes 2 ∷ Takes 1 ∷ Posts 2 Done ∷ Posts 1 Done ∷ Takes 5 ∷ Posts 5 Done ∷ Takes 5 ∷ Posts 5 Done ∷
    Takes 5 ∷ Posts 5 Done ∷ Takes 5 ∷ Posts 5 Done ∷ Takes 4 ∷ Posts 4 Done ∷ Takes 5 ∷ Posts 5 Done ∷ Takes 5 ∷
    Posts 5 Done ∷ Takes 1 ∷ Takes 2 ∷ Posts 2 Done ∷ Posts 1 Done ∷ Takes 5 ∷ Posts 5 Done ∷ Takes 5 ∷ Posts 5 Done ∷
    Takes 5 ∷ Posts 5 Done ∷ Takes 5 ∷ Posts 5 Done ∷ Takes 4 ∷ Posts 8 Done ∷ Posts 4 Done ∷ Takes 5 ∷ Posts 5 Done ∷
    Takes 8 ∷ Posts 8 Done ∷ Takes 4 ∷ Posts 4 Done ∷ Takes 8 ∷ Posts 8 Done ∷ Takes 8 ∷ Posts 8 Done ∷ Takes 8 ∷
    Posts 8 Done ∷ Takes 1 ∷ Posts 1 Done ∷ Takes 8 ∷ Posts 8 Done ∷ Takes 2 ∷ Posts 2 Done ∷ Takes 8 ∷ Posts 8 Done ∷
    Takes 8 ∷ Posts 8 Done ∷ Takes 4 ∷ Posts 4 Done ∷ Takes 8 ∷ Posts 8 Done ∷ Takes 8 ∷ Posts 8 Done ∷ Takes 8 ∷
    Posts 8 Done ∷ Takes 1 ∷ Posts 1 Done ∷ Takes 8 ∷ Posts 8 Done ∷ Takes 2 ∷ Posts 2 Done ∷ Takes 8 ∷ Posts 8 Done ∷
    Takes 8 ∷ Posts 8 Done ∷ Takes 4 ∷ Posts 4 Done ∷ Takes 8 ∷ Posts 8 Done ∷ Takes 8 ∷ Posts 8 Done ∷ Takes 8 ∷
    Posts 8 Done ∷ Takes 1 ∷ Posts 1 Done ∷ Takes 8 ∷ Posts 8 Done ∷ Takes 2 ∷ Posts 2 Done ∷ Takes 8 ∷ Posts 8 Done ∷
    Takes 8 ∷ Posts 8 Done ∷ Takes 2 ∷ Posts 2 Stopped ∷ Takes 1 ∷ Takes 4 ∷ Posts 4 Done ∷ Posts 1 Done ∷ Takes 8 ∷
    Posts 8 Done ∷ Takes 8 ∷ Posts 8 Done ∷ Takes 8 ∷ Posts 8 Done ∷ Takes 4 ∷ Posts 4 Done ∷ Takes 1 ∷ Posts 1 Done ∷
    Begins ∷ Acts ∷ Rises false Done ∷ Rises true Done ∷ Acts ∷ Acts ∷ Rises false Done ∷ Takes 8 ∷ Posts 8 Done ∷
    Takes 2 ∷ Posts 2 Done ∷ Begins ∷ Rises false Done ∷ Acts ∷ Takes 8 ∷ Takes 7 ∷ Posts 7 Done ∷ Takes 7 ∷
    Posts 8 Done ∷ Takes 8 ∷ Posts 7 Done ∷ Takes 7 ∷ Posts 8 Done ∷ Takes 8 ∷ Posts 7 Done ∷ Posts 8 Done ∷ Begins ∷
    Rises false Done ∷ Acts ∷ Acts ∷ Takes 8 ∷ Posts 8 Done ∷ Takes 4 ∷ Posts 4 Done ∷ Takes 8 ∷ Posts 8 Done ∷
    Takes 7 ∷ Takes 8 ∷ Posts 7 Done ∷ Posts 8 Done ∷ Takes 7 ∷ Posts 7 Done ∷ Takes 7 ∷ Posts 7 Done ∷ []

abbrev pub history : List Entry
history =
    marked 10 (Phase 1) ∷ marked 10 (Cut 3 8) ∷ marked 0 (Fell falls.Script None) ∷ marked 0 (Rose []) ∷
    marked 0 (Fell falls.Stop (Some records.Life)) ∷ marked 1 (Fell falls.Script None) ∷ marked 1 (Rose []) ∷
    marked 1 (Wrote records.Life) ∷ marked 3 (Fell falls.Script None) ∷ marked 3 (Fell falls.Disk None) ∷
    marked 5 (Fell falls.Script None) ∷ marked 5 (Rose []) ∷ marked 5 (Wrote records.Life) ∷
    marked 7 (Called commands.Begin) ∷ marked 7 (Told (replies.Began (tx 2 1))) ∷ marked 7 (Called (commands.Do 0 0)) ∷
    marked 8 (Called commands.Begin) ∷ marked 5 (Called commands.Begin) ∷ marked 7 (Told replies.Absent) ∷
    marked 5 (Told (replies.Began (tx_in 0 2 1))) ∷ marked 5 (Called (commands.Do 1 0)) ∷
    marked 5 (Sent 0 0 (messages.Request (tx_in 0 2 1) 1 0 (wants.Read (first_read 1 0)))) ∷
    marked 5 (Sent 1 1 (messages.Request (tx_in 0 2 1) 1 0 (wants.Read (first_read 1 0)))) ∷
    marked 5 (Sent 2 2 (messages.Request (tx_in 0 2 1) 1 0 (wants.Read (first_read 1 0)))) ∷ marked 2 (Got 2)
    ∷ marked 1 (Got 1) ∷
    marked 2 (Sent 3 5 (messages.Answer 2 (answers.Granted (whole_grant 1 0 [])))) ∷
    marked 1 (Sent 4 5 (messages.Answer 1 (answers.Granted (whole_grant 2 0 [])))) ∷ marked 5 (Got 3) ∷ marked 5 (Got 4)
    ∷
    marked 5 (Lost 0) ∷ marked 5 (Sent 5 3 (messages.Request (tx_in 0 2 1) 1 0 (wants.Read (first_read 1 0))))
    ∷ marked 5 (Lost 5) ∷
    marked 5 (Sent 6 4 (messages.Request (tx_in 0 2 1) 1 0 (wants.Read (first_read 1 0)))) ∷ marked 4 (Got 6) ∷
    marked 4 (Sent 7 5 (messages.Answer 6 (answers.Granted (whole_grant 1 0 [])))) ∷ marked 5 (Got 7) ∷
    marked 5 (Told (replies.Quorum halves.Read 3 4)) ∷ marked 5 (Called (commands.Do 1 2)) ∷
    marked 5 (Sent 8 0 (messages.Request (tx_in 0 2 1) 1 0 (wants.Read (first_read 1 2)))) ∷
    marked 5 (Sent 9 1 (messages.Request (tx_in 0 2 1) 1 2 (wants.Read (first_read 1 2)))) ∷
    marked 5 (Sent 10 2 (messages.Request (tx_in 0 2 1) 1 1 (wants.Read (first_read 1 2)))) ∷ marked 1 (Got 9)
    ∷ marked 2 (Got 10) ∷
    marked 2 (Sent 11 5 (messages.Answer 10 (answers.Granted (whole_grant 1 0 [])))) ∷
    marked 1 (Sent 12 5 (messages.Answer 9 (answers.Granted (whole_grant 2 0 [])))) ∷ marked 5 (Got 11)
    ∷ marked 5 (Got 12) ∷
    marked 5 (Lost 8) ∷ marked 5 (Sent 13 3 (messages.Request (tx_in 0 2 1) 1 0 (wants.Read (first_read 1 2)))) ∷
    marked 5 (Lost 13) ∷ marked 5 (Sent 14 4 (messages.Request (tx_in 0 2 1) 1 1 (wants.Read (first_read 1 2)))) ∷
    marked 4 (Got 14) ∷ marked 8 (Told (replies.Began (tx 3 1))) ∷
    marked 4 (Sent 15 5 (messages.Answer 14 (answers.Granted (whole_grant 1 0 [])))) ∷ marked 5 (Got 15) ∷
    marked 5 (Told (replies.Quorum halves.Read 3 4)) ∷ marked 8 (Called (commands.Do 1 0)) ∷
    marked 8 (Sent 16 3 (messages.Request (tx 3 1) 1 0 (wants.Read (first_read 1 0)))) ∷
    marked 8 (Sent 17 4 (messages.Request (tx 3 1) 1 0 (wants.Read (first_read 1 0)))) ∷
    marked 8 (Sent 18 0 (messages.Request (tx 3 1) 1 0 (wants.Read (first_read 1 0)))) ∷ marked 4 (Got 17) ∷
    marked 4 (Sent 19 8 (messages.Answer 17 (answers.Granted (whole_grant 1 0 [])))) ∷ marked 8 (Got 19)
    ∷ marked 8 (Lost 16) ∷
    marked 8 (Lost 18) ∷ marked 8 (Sent 20 1 (messages.Request (tx 3 1) 1 0 (wants.Read (first_read 1 0))))
    ∷ marked 1 (Got 20) ∷
    marked 1 (Sent 21 8 (messages.Answer 20 (answers.Granted (whole_grant 2 0 [])))) ∷ marked 8 (Got 21) ∷
    marked 8 (Sent 22 2 (messages.Request (tx 3 1) 1 0 (wants.Read (first_read 1 0)))) ∷ marked 2 (Got 22) ∷
    marked 2 (Sent 23 8 (messages.Answer 22 (answers.Granted (whole_grant 1 0 [])))) ∷ marked 8 (Got 23) ∷
    marked 8 (Told (replies.Quorum halves.Read 3 4)) ∷ marked 8 (Called (commands.Do 1 0)) ∷
    marked 8 (Sent 24 3 (messages.Request (tx 3 1) 1 0 (wants.Read (first_read 1 0)))) ∷
    marked 8 (Sent 25 4 (messages.Request (tx 3 1) 1 1 (wants.Read (first_read 1 0)))) ∷
    marked 8 (Sent 26 0 (messages.Request (tx 3 1) 1 0 (wants.Read (first_read 1 0)))) ∷ marked 4 (Got 25) ∷
    marked 4 (Sent 27 8 (messages.Answer 25 (answers.Granted (whole_grant 1 0 [])))) ∷ marked 8 (Got 27)
    ∷ marked 8 (Lost 24) ∷
    marked 8 (Lost 26) ∷ marked 8 (Sent 28 1 (messages.Request (tx 3 1) 1 2 (wants.Read (first_read 1 0))))
    ∷ marked 1 (Got 28) ∷
    marked 1 (Sent 29 8 (messages.Answer 28 (answers.Granted (whole_grant 2 0 [])))) ∷ marked 8 (Got 29) ∷
    marked 8 (Sent 30 2 (messages.Request (tx 3 1) 1 1 (wants.Read (first_read 1 0)))) ∷ marked 2 (Got 30) ∷
    marked 2 (Sent 31 8 (messages.Answer 30 (answers.Granted (whole_grant 1 0 [])))) ∷ marked 8 (Got 31) ∷
    marked 8 (Told (replies.Quorum halves.Read 3 4)) ∷ marked 8 (Called (commands.Do 1 0)) ∷
    marked 8 (Sent 32 3 (messages.Request (tx 3 1) 1 0 (wants.Read (first_read 1 0)))) ∷
    marked 8 (Sent 33 4 (messages.Request (tx 3 1) 1 1 (wants.Read (first_read 1 0)))) ∷
    marked 8 (Sent 34 0 (messages.Request (tx 3 1) 1 0 (wants.Read (first_read 1 0)))) ∷ marked 4 (Got 33) ∷
    marked 4 (Sent 35 8 (messages.Answer 33 (answers.Granted (whole_grant 1 0 [])))) ∷ marked 8 (Got 35)
    ∷ marked 8 (Lost 32) ∷
    marked 8 (Lost 34) ∷ marked 8 (Sent 36 1 (messages.Request (tx 3 1) 1 2 (wants.Read (first_read 1 0))))
    ∷ marked 1 (Got 36) ∷
    marked 1 (Sent 37 8 (messages.Answer 36 (answers.Granted (whole_grant 2 0 [])))) ∷ marked 8 (Got 37) ∷
    marked 8 (Sent 38 2 (messages.Request (tx 3 1) 1 1 (wants.Read (first_read 1 0)))) ∷ marked 2 (Got 38) ∷
    marked 2 (Sent 39 8 (messages.Answer 38 (answers.Granted (whole_grant 1 0 [])))) ∷ marked 8 (Got 39) ∷
    marked 8 (Told (replies.Quorum halves.Read 3 4)) ∷ marked 8 (Called commands.Commit) ∷
    marked 8 (Sent 40 4 (messages.Request (tx 3 1) 1 1 wants.Prepare)) ∷
    marked 8 (Sent 41 1 (messages.Request (tx 3 1) 1 2 wants.Prepare)) ∷
    marked 8 (Sent 42 2 (messages.Request (tx 3 1) 1 1 wants.Prepare)) ∷ marked 2 (Got 42) ∷
    marked 2 (Fell falls.Stop (Some (prepare (tx 3 1) 1 (read_lock 1 0 ∷ []) [] []))) ∷ marked 1 (Got 41) ∷
    marked 4 (Got 40) ∷ marked 4 (Wrote (prepare (tx 3 1) 1 (read_lock 1 0 ∷ []) [] [])) ∷
    marked 4 (Sent 43 8 (messages.Answer 40 (answers.Yes 0))) ∷
    marked 1 (Wrote (prepare (tx 3 1) 1 (read_lock 1 0 ∷ []) [] [])) ∷
    marked 1 (Sent 44 8 (messages.Answer 41 (answers.Yes 0))) ∷ marked 8 (Got 43) ∷ marked 8 (Got 44) ∷
    marked 8 (Lost 42) ∷ marked 8 (Sent 45 0 (messages.Decision (tx 3 1) outcomes.Aborted)) ∷
    marked 8 (Sent 46 1 (messages.Decision (tx 3 1) outcomes.Aborted)) ∷
    marked 8 (Sent 47 2 (messages.Decision (tx 3 1) outcomes.Aborted)) ∷
    marked 8 (Sent 48 3 (messages.Decision (tx 3 1) outcomes.Aborted)) ∷
    marked 8 (Sent 49 4 (messages.Decision (tx 3 1) outcomes.Aborted)) ∷
    marked 8 (Told (replies.Aborted (causes.NoAnswer 2))) ∷ marked 4 (Got 49) ∷ marked 1 (Got 46) ∷
    marked 10 (Phase 2) ∷ marked 10 (Heal 3 8) ∷ marked 0 (Rose []) ∷ marked 0 (Wrote records.Life) ∷
    marked 2 (Rose ((prepare (tx 3 1) 1 (read_lock 1 0 ∷ []) [] []) ∷ [])) ∷ marked 2 (Wrote records.Life) ∷
    marked 2 (Sent 50 8 (messages.Inquiry (tx 3 1))) ∷ marked 10 (Armed 5 arms.Stop 12) ∷
    marked 7 (Fell falls.Script None) ∷ marked 7 (Rose []) ∷ marked 7 (Wrote records.Life) ∷ marked 8 (Got 50) ∷
    marked 8 (Sent 51 2 (messages.Decision (tx 3 1) outcomes.Aborted)) ∷ marked 2 (Got 51) ∷ marked 10 (Phase 3) ∷
    marked 3 (Rose []) ∷ marked 3 (Wrote records.Life) ∷ marked 4 (Fell falls.Script None) ∷
    marked 8 (Called commands.Begin) ∷ marked 7 (Called (commands.Do 1 1)) ∷ marked 7 (Told replies.NoTransaction) ∷
    marked 7 (Called (commands.Do 1 0)) ∷ marked 8 (Told (replies.Began (tx 3 2))) ∷
    marked 8 (Called (commands.Do 0 0)) ∷ marked 7 (Told replies.NoTransaction) ∷ marked 7 (Called (commands.Do 1 0)) ∷
    marked 8 (Told replies.Absent) ∷ marked 8 (Called commands.Commit) ∷ marked 7 (Told replies.NoTransaction) ∷
    marked 8 (Wrote (commit (stamp 1 3) (tx 3 2) (operation 0 0 None ∷ []))) ∷
    marked 8 (Told (replies.Committed (stamp 1 3))) ∷ marked 10 (Phase 4) ∷
    marked 4 (Rose ((prepare (tx 3 1) 1 (read_lock 1 0 ∷ []) [] []) ∷ [])) ∷ marked 4 (Wrote records.Life) ∷
    marked 4 (Sent 52 8 (messages.Inquiry (tx 3 1))) ∷ marked 10 (Armed 5 arms.Fail 4) ∷
    marked 10 (Armed 7 arms.Stop 2) ∷ marked 8 (Got 52) ∷
    marked 8 (Sent 53 4 (messages.Decision (tx 3 1) outcomes.Aborted)) ∷ marked 4 (Got 53) ∷
    marked 8 (Called commands.Begin) ∷ marked 8 (Told (replies.Began (tx 3 3))) ∷ marked 7 (Called (commands.Do 0 0)) ∷
    marked 8 (Called (commands.Do 0 0)) ∷ marked 7 (Told replies.NoTransaction) ∷ marked 8 (Told replies.Absent) ∷
    marked 7 (Called (commands.Do 1 2)) ∷ marked 7 (Told replies.NoTransaction) ∷ marked 7 (Called commands.Commit) ∷
    marked 7 (Told replies.NoTransaction) ∷ []
