-- Random: sites 3, clients 1, steps 159, messages 52, commits 1, aborts 1, short rounds 1, absent 6, falls 1, rises 1.
use Rattle.std.specs.Prelude.{List, [], ◌∷◌, Some, None, false}
use Rattle.qc_decl.specs.declared.declaration.Declaration.{Declaration}
use Rattle.qc_decl.specs.Vocabulary.{row}
use Rattle.qc_msg.specs.Vocabulary.{Entry, marked}
use Rattle.tests_histories.specs.Words.{tx, stamp, line, own_line, operation, read_lock, prepare, commit, declaration}
use Rattle.tests_histories.specs.Words.{kind, pair, plan}
use Rattle.qc_msg.specs.declared.step.Step.TheVariants.{Phase, Called, Got, Wrote, Sent, Told, Armed, Fell, Rose}
use Rattle.qc_msg.specs.declared.turn.Appended.TheVariants.{Done}
use Rattle.tests_falls.specs.Perform.{Move, Begins, Acts, Takes, Posts, Rises}
use Rattle.qc_msg.specs.declared.message.Answer.TheVariants as answers
use Rattle.qc_msg.specs.declared.reply.AbortCause.TheVariants as causes
use Rattle.qc_msg.specs.declared.step.Command.TheVariants as commands
use Rattle.qc_msg.specs.declared.reply.Half.TheVariants as halves
use Rattle.qc_msg.specs.declared.message.Message.TheVariants as messages
use Rattle.qc_msg.specs.declared.message.Outcome.TheVariants as outcomes
use Rattle.qc_msg.specs.declared.record.Record.TheVariants as records
use Rattle.qc_msg.specs.declared.reply.Reply.TheVariants as replies
use Rattle.qc_msg.specs.declared.message.Want.TheVariants as wants
use Rattle.qc_msg.specs.declared.step.Fall.TheVariants as falls
use Rattle.qc_msg.specs.Vocabulary.{whole_grant, first_read}
use Rattle.qc_outside.specs.declared.disk.ArmKind.TheVariants as arms

abbrev pub decl : Declaration
decl =
    declaration 3 1 (kind 3 3 3 0 (row 0 0 0 1 ∷ row 0 0 1 2 ∷ row 1 1 0 1 ∷ row 2 1 1 2 ∷ row 1 2 2 0 ∷ row 2 2 2 0 ∷
    row 0 2 2 0 ∷ []) (pair 0 0 ∷ pair 0 1 ∷ pair 0 4 ∷ pair 1 0 ∷ pair 1 1 ∷ pair 1 4 ∷ []) ∷ kind 3 3 5 0 (row 0 0 0 1
    ∷ row 1 0 0 2 ∷ row 2 0 1 2 ∷ row 0 1 1 0 ∷ row 1 1 0 0 ∷ row 2 1 0 1 ∷ row 0 2 2 0 ∷ row 1 2 3 1 ∷ row 2 2 4 2 ∷
    []) (pair 0 0 ∷ pair 0 3 ∷ pair 1 0 ∷ pair 1 3 ∷ pair 2 0 ∷ pair 2 3 ∷ []) ∷ []) (0 ∷ 0 ∷ []) (plan (0 ∷ 1 ∷ 1 ∷ [])
    ((2 ∷ 1 ∷ 0 ∷ []) ∷ (2 ∷ 2 ∷ 0 ∷ []) ∷ []) ((2 ∷ 2 ∷ 1 ∷ 0 ∷ 2 ∷ []) ∷ (1 ∷ 1 ∷ 2 ∷ 0 ∷ 1 ∷ []) ∷ []) ∷ plan (1 ∷ 1
    ∷ 1 ∷ []) ((2 ∷ 2 ∷ 1 ∷ []) ∷ (2 ∷ 3 ∷ 0 ∷ []) ∷ []) ((2 ∷ 2 ∷ 0 ∷ 1 ∷ 2 ∷ []) ∷ (2 ∷ 2 ∷ 0 ∷ 0 ∷ 2 ∷ []) ∷ []) ∷
    [])

abbrev pub moves : List Move
moves =
    Begins ∷ Acts ∷ Acts ∷ Takes 3 ∷ Posts 3 Done ∷ Takes 3 ∷ Posts 3 Done ∷ Takes 1 ∷ Posts 1 Done ∷ Takes 3 ∷
    Posts 3 Done ∷ Takes 3 ∷ Posts 3 Done ∷ Takes 1 ∷ Posts 1 Done ∷ Takes 3 ∷ Posts 3 Done ∷ Takes 3 ∷ Posts 3 Done ∷
    Takes 2 ∷ Posts 2 Done ∷ Takes 3 ∷ Posts 3 Done ∷ Takes 1 ∷ Posts 1 Done ∷ Takes 3 ∷ Posts 3 Done ∷ Takes 3 ∷
    Posts 3 Done ∷ Takes 2 ∷ Takes 1 ∷ Posts 2 Done ∷ Takes 3 ∷ Posts 3 Done ∷ Posts 1 Done ∷ Takes 3 ∷ Posts 3 Done ∷
    Takes 2 ∷ Takes 1 ∷ Posts 2 Done ∷ Posts 1 Done ∷ Begins ∷ Takes 3 ∷ Posts 3 Done ∷ Takes 3 ∷ Posts 3 Done ∷
    Takes 2 ∷ Posts 2 Done ∷ Takes 1 ∷ Posts 1 Done ∷ Takes 3 ∷ Posts 3 Done ∷ Takes 3 ∷ Posts 3 Done ∷ Takes 2 ∷
    Posts 2 Done ∷ Takes 1 ∷ Posts 1 Done ∷ Takes 3 ∷ Posts 3 Done ∷ Takes 3 ∷ Posts 3 Done ∷ Takes 3 ∷ Posts 3 Done ∷
    Takes 1 ∷ Posts 1 Done ∷ Takes 2 ∷ Posts 2 Done ∷ Takes 3 ∷ Posts 3 Done ∷ Takes 3 ∷ Posts 3 Done ∷ Takes 1 ∷
    Posts 1 Done ∷ Takes 3 ∷ Posts 3 Done ∷ Takes 3 ∷ Posts 3 Done ∷ Takes 1 ∷ Posts 1 Done ∷ Takes 3 ∷ Posts 3 Done ∷
    Takes 2 ∷ Posts 2 Done ∷ Takes 3 ∷ Posts 3 Done ∷ Begins ∷ Acts ∷ Begins ∷ Acts ∷ Rises false Done ∷ Takes 3 ∷
    Posts 3 Done ∷ Takes 1 ∷ Posts 1 Done ∷ Takes 3 ∷ Posts 3 Done ∷ Takes 3 ∷ Posts 3 Done ∷ Takes 1 ∷ Posts 1 Done ∷
    Takes 3 ∷ Posts 3 Done ∷ Takes 3 ∷ Posts 3 Done ∷ Takes 1 ∷ Takes 2 ∷ Posts 2 Done ∷ Posts 1 Done ∷ Takes 3 ∷
    Posts 3 Done ∷ Takes 3 ∷ Posts 3 Done ∷ Takes 3 ∷ Posts 3 Done ∷ Takes 2 ∷ Takes 1 ∷ Posts 1 Done ∷ Takes 3 ∷
    Posts 3 Done ∷ Posts 2 Done ∷ Takes 3 ∷ Posts 3 Done ∷ Takes 1 ∷ Posts 1 Done ∷ Takes 2 ∷ Posts 2 Done ∷ Begins ∷
    Takes 3 ∷ Posts 3 Done ∷ Takes 3 ∷ Posts 3 Done ∷ Takes 1 ∷ Posts 1 Done ∷ Takes 3 ∷ Posts 3 Done ∷ Takes 3 ∷
    Posts 3 Done ∷ Takes 1 ∷ Posts 1 Done ∷ Takes 3 ∷ Posts 3 Done ∷ Takes 2 ∷ Posts 2 Done ∷ Takes 3 ∷ Posts 3 Done ∷
    Takes 3 ∷ Posts 3 Done ∷ Takes 1 ∷ Posts 1 Done ∷ Takes 3 ∷ Posts 3 Done ∷ []

abbrev pub history : List Entry
history =
    marked 5 (Phase 1) ∷ marked 5 (Armed 0 arms.Stop 2) ∷ marked 5 (Armed 2 arms.Fail 4) ∷
    marked 3 (Called commands.Begin) ∷ marked 3 (Told (replies.Began (tx 0 1))) ∷ marked 3 (Called (commands.Do 1 2)) ∷
    marked 3 (Sent 0 1 (messages.Request (tx 0 1) 1 0 (wants.Append 1 [] (own_line 1 1 4 ∷ [])))) ∷ marked 1 (Got 0) ∷
    marked 1 (Sent 1 3 (messages.Answer 0 (answers.Granted (whole_grant 1 0 [])))) ∷ marked 3 (Got 1) ∷
    marked 3 (Told (replies.Response 2)) ∷ marked 3 (Called (commands.Do 1 2)) ∷
    marked 3 (Sent 2 1 (messages.Request (tx 0 1) 1 1 (wants.Append 1 [] (own_line 1 1 4 ∷ own_line 2 1 4 ∷ [])))) ∷
    marked 1 (Got 2) ∷ marked 1 (Sent 3 3 (messages.Answer 2 (answers.Granted (whole_grant 1 0 [])))) ∷ marked 3 (Got 3)
    ∷
    marked 3 (Told (replies.Response 2)) ∷ marked 3 (Called (commands.Do 1 1)) ∷
    marked 3 (Sent 4 1 (messages.Request (tx 0 1) 1 1 (wants.Read (first_read 1 1)))) ∷
    marked 3 (Sent 5 2 (messages.Request (tx 0 1) 1 0 (wants.Read (first_read 1 1)))) ∷ marked 2 (Got 5) ∷
    marked 2 (Sent 6 3 (messages.Answer 5 (answers.Granted (whole_grant 1 0 [])))) ∷ marked 3 (Got 6) ∷ marked 1 (Got 4)
    ∷
    marked 1 (Sent 7 3 (messages.Answer 4 (answers.Granted (whole_grant 1 0 [])))) ∷ marked 3 (Got 7) ∷
    marked 3 (Told replies.Absent) ∷ marked 3 (Called commands.Commit) ∷
    marked 3 (Sent 8 1 (messages.Request (tx 0 1) 1 1 wants.Prepare)) ∷
    marked 3 (Sent 9 2 (messages.Request (tx 0 1) 1 1 wants.Prepare)) ∷ marked 2 (Got 9) ∷ marked 1 (Got 8) ∷
    marked 2 (Wrote (prepare (tx 0 1) 1 (read_lock 1 1 ∷ []) [] [])) ∷
    marked 2 (Sent 10 3 (messages.Answer 9 (answers.Yes 0))) ∷ marked 3 (Got 10) ∷
    marked 1 (Wrote (prepare (tx 0 1) 1 (read_lock 1 1 ∷ []) (own_line 1 1 4 ∷ own_line 2 1 4 ∷ []) [])) ∷
    marked 1 (Sent 11 3 (messages.Answer 8 (answers.Yes 0))) ∷ marked 3 (Got 11) ∷
    marked 3 (Wrote (commit (stamp 1 0) (tx 0 1) (operation 1 2 (Some 2) ∷ operation 1 2 (Some 2) ∷ operation 1 1 None ∷
    []))) ∷
    marked 3 (Sent 12 1 (messages.Decision (tx 0 1) (outcomes.Committed (stamp 1 0)))) ∷
    marked 3 (Sent 13 2 (messages.Decision (tx 0 1) (outcomes.Committed (stamp 1 0)))) ∷
    marked 3 (Told (replies.Committed (stamp 1 0))) ∷ marked 2 (Got 13) ∷ marked 1 (Got 12) ∷
    marked 2 (Wrote (records.Done (tx 0 1) 1)) ∷ marked 1 (Wrote (records.Done (tx 0 1) 1)) ∷ marked 5 (Phase 2) ∷
    marked 3 (Called commands.Begin) ∷ marked 3 (Told (replies.Began (tx 0 2))) ∷ marked 3 (Called (commands.Do 0 0)) ∷
    marked 3 (Sent 14 1 (messages.Request (tx 0 2) 1 0 (wants.Read (first_read 0 0)))) ∷
    marked 3 (Sent 15 2 (messages.Request (tx 0 2) 1 0 (wants.Read (first_read 0 0)))) ∷ marked 2 (Got 15) ∷
    marked 2 (Sent 16 3 (messages.Answer 15 (answers.Granted (whole_grant 1 1 [])))) ∷ marked 1 (Got 14) ∷
    marked 1 (Sent 17 3 (messages.Answer 14 (answers.Granted (whole_grant 1 1 [])))) ∷ marked 3 (Got 16)
    ∷ marked 3 (Got 17) ∷
    marked 3 (Sent 18 1 (messages.Request (tx 0 2) 1 1 (wants.Append 0 [] (own_line 1 0 0 ∷ [])))) ∷
    marked 3 (Sent 19 2 (messages.Request (tx 0 2) 1 1 (wants.Append 0 [] (own_line 1 0 0 ∷ [])))) ∷ marked 2 (Got 19) ∷
    marked 2 (Sent 20 3 (messages.Answer 19 (answers.Granted (whole_grant 1 1 [])))) ∷ marked 1 (Got 18) ∷
    marked 1 (Sent 21 3 (messages.Answer 18 (answers.Granted (whole_grant 1 1 [])))) ∷ marked 3 (Got 20)
    ∷ marked 3 (Got 21) ∷
    marked 3 (Told (replies.Response 0)) ∷ marked 3 (Called commands.Abort) ∷
    marked 3 (Sent 22 1 (messages.Decision (tx 0 2) outcomes.Aborted)) ∷
    marked 3 (Sent 23 2 (messages.Decision (tx 0 2) outcomes.Aborted)) ∷ marked 3 (Told replies.Dropped) ∷
    marked 1 (Got 22) ∷ marked 2 (Got 23) ∷ marked 3 (Called commands.Begin) ∷
    marked 3 (Told (replies.Began (tx 0 3))) ∷ marked 3 (Called (commands.Do 0 1)) ∷
    marked 3 (Sent 24 1 (messages.Request (tx 0 3) 1 0 (wants.Read (first_read 0 1)))) ∷ marked 1 (Got 24) ∷
    marked 1 (Sent 25 3 (messages.Answer 24 (answers.Granted (whole_grant 1 1 [])))) ∷ marked 3 (Got 25) ∷
    marked 3 (Told replies.Absent) ∷ marked 3 (Called (commands.Do 0 2)) ∷
    marked 3 (Sent 26 1 (messages.Request (tx 0 3) 1 1 (wants.Append 0 [] (own_line 2 0 4 ∷ [])))) ∷
    marked 3 (Sent 27 2 (messages.Request (tx 0 3) 1 0 (wants.Append 0 [] (own_line 2 0 4 ∷ [])))) ∷ marked 1 (Got 26) ∷
    marked 1 (Sent 28 3 (messages.Answer 26 (answers.Granted (whole_grant 1 1 [])))) ∷ marked 3 (Got 28)
    ∷ marked 2 (Got 27) ∷
    marked 2 (Sent 29 3 (messages.Answer 27 (answers.Granted (whole_grant 1 1 [])))) ∷ marked 3 (Got 29) ∷
    marked 3 (Told (replies.Response 2)) ∷ marked 5 (Phase 3) ∷ marked 5 (Armed 3 arms.Fail 1) ∷ marked 5 (Phase 4) ∷
    marked 2 (Fell falls.Script None) ∷
    marked 2 (Rose ((prepare (tx 0 1) 1 (read_lock 1 1 ∷ []) [] []) ∷ (records.Done (tx 0 1) 1) ∷ [])) ∷
    marked 2 (Wrote records.Life) ∷ marked 3 (Called (commands.Do 0 1)) ∷
    marked 3 (Sent 30 1 (messages.Request (tx 0 3) 1 1 (wants.Read (first_read 0 1)))) ∷ marked 1 (Got 30) ∷
    marked 1 (Sent 31 3 (messages.Answer 30 (answers.Granted (whole_grant 1 1 [])))) ∷ marked 3 (Got 31) ∷
    marked 3 (Told replies.Absent) ∷ marked 3 (Called (commands.Do 0 1)) ∷
    marked 3 (Sent 32 1 (messages.Request (tx 0 3) 1 1 (wants.Read (first_read 0 1)))) ∷ marked 1 (Got 32) ∷
    marked 1 (Sent 33 3 (messages.Answer 32 (answers.Granted (whole_grant 1 1 [])))) ∷ marked 3 (Got 33) ∷
    marked 3 (Told replies.Absent) ∷ marked 3 (Called (commands.Do 1 0)) ∷
    marked 3 (Sent 34 1 (messages.Request (tx 0 3) 1 1 (wants.Read (first_read 1 0)))) ∷
    marked 3 (Sent 35 2 (messages.Request (tx 0 3) 1 1 (wants.Read (first_read 1 0)))) ∷ marked 1 (Got 34)
    ∷ marked 2 (Got 35) ∷
    marked 2 (Sent 36 3 (messages.Answer 35 (answers.Restarted 2))) ∷
    marked 1
    (Sent 37 3 (messages.Answer 34 (answers.Granted (whole_grant 1 1 (line 1 0 1 1 1 4 ∷ line 1 0 1 2 1 4 ∷ []))))) ∷
    marked 3 (Got 36) ∷ marked 3 (Got 37) ∷ marked 3 (Told (replies.Quorum halves.Read 1 2)) ∷
    marked 3 (Called commands.Commit) ∷ marked 3 (Sent 38 1 (messages.Request (tx 0 3) 1 1 wants.Prepare)) ∷
    marked 3 (Sent 39 2 (messages.Request (tx 0 3) 1 1 wants.Prepare)) ∷ marked 2 (Got 39) ∷ marked 1 (Got 38) ∷
    marked 1 (Wrote (prepare (tx 0 3) 1 (read_lock 0 1 ∷ read_lock 1 0 ∷ []) (own_line 2 0 4 ∷ []) [])) ∷
    marked 1 (Sent 40 3 (messages.Answer 38 (answers.Yes 1))) ∷ marked 3 (Got 40) ∷
    marked 2 (Sent 41 3 (messages.Answer 39 (answers.Restarted 2))) ∷ marked 3 (Got 41) ∷
    marked 3 (Sent 42 1 (messages.Decision (tx 0 3) outcomes.Aborted)) ∷
    marked 3 (Sent 43 2 (messages.Decision (tx 0 3) outcomes.Aborted)) ∷
    marked 3 (Told (replies.Aborted (causes.Restarted 2 1 2))) ∷ marked 1 (Got 42) ∷ marked 2 (Got 43) ∷
    marked 5 (Phase 5) ∷ marked 3 (Called commands.Begin) ∷ marked 3 (Told (replies.Began (tx 0 4))) ∷
    marked 3 (Called (commands.Do 0 1))
    ∷ marked 3 (Sent 44 1 (messages.Request (tx 0 4) 1 0 (wants.Read (first_read 0 1)))) ∷
    marked 1 (Got 44) ∷ marked 1 (Sent 45 3 (messages.Answer 44 (answers.Granted (whole_grant 1 1 []))))
    ∷ marked 3 (Got 45) ∷
    marked 3 (Told replies.Absent) ∷ marked 3 (Called (commands.Do 1 1)) ∷
    marked 3 (Sent 46 1 (messages.Request (tx 0 4) 1 1 (wants.Read (first_read 1 1)))) ∷
    marked 3 (Sent 47 2 (messages.Request (tx 0 4) 1 0 (wants.Read (first_read 1 1)))) ∷ marked 1 (Got 46) ∷
    marked 1
    (Sent 48 3 (messages.Answer 46 (answers.Granted (whole_grant 1 1 (line 1 0 1 1 1 4 ∷ line 1 0 1 2 1 4 ∷ []))))) ∷
    marked 3 (Got 48) ∷ marked 2 (Got 47)
    ∷ marked 2 (Sent 49 3 (messages.Answer 47 (answers.Granted (whole_grant 2 1 [])))) ∷
    marked 3 (Got 49) ∷ marked 3 (Told replies.Absent) ∷ marked 3 (Called (commands.Do 1 2)) ∷
    marked 3 (Sent 50 1 (messages.Request (tx 0 4) 1 1 (wants.Append 1 (line 1 0 1 1 1 4 ∷ line 1 0 1 2 1 4 ∷ [])
    (own_line 3 1 4 ∷ [])))) ∷
    marked 1 (Got 50) ∷ marked 1 (Sent 51 3 (messages.Answer 50 (answers.Granted (whole_grant 1 1 []))))
    ∷ marked 3 (Got 51) ∷
    marked 3 (Told (replies.Response 2)) ∷ []
