-- Random: sites 5, clients 1, steps 175, messages 62, lost 4, commits 2, aborts 1, short rounds 1, absent 1, falls 1,
-- rises 1.
use Rattle.std.specs.Prelude.{List, [], ◌∷◌, Some, None, false}
use Rattle.qc_decl.specs.declared.declaration.Declaration.{Declaration}
use Rattle.qc_decl.specs.Vocabulary.{row}
use Rattle.qc_msg.specs.Vocabulary.{Entry, marked}
use Rattle.tests_histories.specs.Words.{tx, stamp, line, own_line, operation, read_lock, prepare, commit, declaration}
use Rattle.tests_histories.specs.Words.{kind, pair, plan}
use Rattle.qc_msg.specs.declared.step.Step.TheVariants.{Phase, Called, Got, Lost, Wrote, Sent, Told, Armed, Fell, Rose}
use Rattle.qc_msg.specs.declared.turn.Appended.TheVariants.{Done}
use Rattle.tests_falls.specs.Perform.{Move, Begins, Acts, Takes, Posts, Rises}
use Rattle.qc_msg.specs.declared.message.Answer.TheVariants as answers
use Rattle.qc_msg.specs.declared.reply.AbortCause.TheVariants as causes
use Rattle.qc_msg.specs.declared.step.Command.TheVariants as commands
use Rattle.qc_msg.specs.declared.reply.Half.TheVariants as halves
use Rattle.qc_msg.specs.declared.message.Message.TheVariants as messages
use Rattle.qc_msg.specs.declared.message.Outcome.TheVariants as outcomes
use Rattle.qc_msg.specs.declared.record.Record.TheVariants as records
use Rattle.qc_msg.specs.declared.reply.Reply.TheVariants as replies
use Rattle.qc_msg.specs.declared.message.Want.TheVariants as wants
use Rattle.qc_msg.specs.declared.step.Fall.TheVariants as falls
use Rattle.qc_msg.specs.Vocabulary.{whole_grant, first_read}
use Rattle.qc_outside.specs.declared.disk.ArmKind.TheVariants as arms

abbrev pub decl : Declaration
decl =
    declaration 5 1 (kind 2 3 3 0 (row 0 0 1 0 ∷ row 0 0 0 0 ∷ row 0 1 1 0 ∷ row 1 0 2 1 ∷ row 1 1 0 1 ∷ row 1 2 2 0 ∷
    []) (pair 2 1 ∷ []) ∷ kind 4 3 3 0 (row 0 0 0 0 ∷ row 0 0 2 1 ∷ row 0 1 2 1 ∷ row 0 2 1 3 ∷ row 1 0 0 1 ∷ row 1 1 2
    1 ∷ row 1 1 0 0 ∷ row 1 2 0 1 ∷ row 1 2 2 1 ∷ row 2 0 0 1 ∷ row 2 1 2 2 ∷ row 3 0 1 2 ∷ row 3 1 1 3 ∷ row 3 2 0 0 ∷
    []) (pair 0 1 ∷ pair 0 2 ∷ pair 0 3 ∷ pair 0 4 ∷ pair 0 5 ∷ pair 0 7 ∷ pair 1 0 ∷ pair 1 1 ∷ pair 1 2 ∷ pair 1 3 ∷
    pair 1 4 ∷ pair 1 5 ∷ pair 1 7 ∷ pair 2 0 ∷ pair 2 1 ∷ pair 2 2 ∷ pair 2 3 ∷ pair 2 4 ∷ pair 2 5 ∷ pair 2 7 ∷ []) ∷
    []) (0 ∷ 1 ∷ []) (plan (1 ∷ 3 ∷ 3 ∷ 1 ∷ 1 ∷ []) ((0 ∷ 0 ∷ 9 ∷ []) ∷ (5 ∷ 5 ∷ 5 ∷ []) ∷ []) ((0 ∷ 1 ∷ 0 ∷ 0 ∷ 0 ∷ 0 ∷
    []) ∷ (5 ∷ 5 ∷ 5 ∷ 5 ∷ 5 ∷ 5 ∷ 5 ∷ 5 ∷ 0 ∷ []) ∷ []) ∷ [])

abbrev pub moves : List Move
moves =
    Begins ∷ Takes 5 ∷ Posts 5 Done ∷ Takes 5 ∷ Posts 5 Done ∷ Takes 0 ∷ Posts 0 Done ∷ Takes 5 ∷ Posts 5 Done ∷
    Takes 5 ∷ Posts 5 Done ∷ Takes 0 ∷ Posts 0 Done ∷ Takes 5 ∷ Posts 5 Done ∷ Takes 0 ∷ Posts 0 Done ∷ Begins ∷ Acts ∷
    Rises false Done ∷ Takes 5 ∷ Posts 5 Done ∷ Takes 5 ∷ Posts 5 Done ∷ Begins ∷ Takes 5 ∷ Posts 5 Done ∷ Takes 5 ∷
    Posts 5 Done ∷ Takes 5 ∷ Posts 5 Done ∷ Begins ∷ Acts ∷ Takes 5 ∷ Posts 5 Done ∷ Takes 5 ∷ Posts 5 Done ∷ Takes 1 ∷
    Posts 1 Done ∷ Takes 3 ∷ Takes 0 ∷ Takes 2 ∷ Posts 0 Done ∷ Posts 3 Done ∷ Posts 2 Done ∷ Takes 5 ∷ Posts 5 Done ∷
    Takes 4 ∷ Posts 4 Done ∷ Takes 5 ∷ Posts 5 Done ∷ Takes 5 ∷ Posts 5 Done ∷ Takes 5 ∷ Posts 5 Done ∷ Takes 5 ∷
    Posts 5 Done ∷ Takes 5 ∷ Posts 5 Done ∷ Takes 0 ∷ Posts 0 Done ∷ Takes 2 ∷ Takes 1 ∷ Posts 1 Done ∷ Posts 2 Done ∷
    Takes 5 ∷ Posts 5 Done ∷ Takes 5 ∷ Posts 5 Done ∷ Takes 5 ∷ Posts 5 Done ∷ Takes 1 ∷ Takes 2 ∷ Posts 1 Done ∷
    Takes 5 ∷ Posts 5 Done ∷ Takes 5 ∷ Posts 5 Done ∷ Posts 2 Done ∷ Takes 5 ∷ Posts 5 Done ∷ Takes 5 ∷ Posts 5 Done ∷
    Takes 0 ∷ Posts 0 Done ∷ Takes 5 ∷ Posts 5 Done ∷ Takes 5 ∷ Posts 5 Done ∷ Takes 0 ∷ Takes 3 ∷ Takes 2 ∷ Takes 1 ∷
    Posts 1 Done ∷ Takes 5 ∷ Posts 5 Done ∷ Posts 0 Done ∷ Posts 3 Done ∷ Takes 4 ∷ Posts 2 Done ∷ Posts 4 Done ∷
    Takes 5 ∷ Posts 5 Done ∷ Takes 5 ∷ Posts 5 Done ∷ Takes 5 ∷ Posts 5 Done ∷ Takes 5 ∷ Posts 5 Done ∷ Takes 2 ∷
    Posts 2 Done ∷ Takes 3 ∷ Posts 3 Done ∷ Takes 0 ∷ Posts 0 Done ∷ Takes 1 ∷ Posts 1 Done ∷ Takes 4 ∷ Posts 4 Done ∷
    Takes 5 ∷ Posts 5 Done ∷ Takes 5 ∷ Posts 5 Done ∷ Takes 0 ∷ Posts 0 Done ∷ Takes 5 ∷ Posts 5 Done ∷ Takes 5 ∷
    Posts 5 Done ∷ Takes 5 ∷ Posts 5 Done ∷ Takes 3 ∷ Posts 3 Done ∷ Takes 5 ∷ Posts 5 Done ∷ Takes 4 ∷ Posts 4 Done ∷
    Takes 5 ∷ Posts 5 Done ∷ Takes 5 ∷ Posts 5 Done ∷ Takes 3 ∷ Posts 3 Done ∷ Takes 0 ∷ Posts 0 Done ∷ Takes 4 ∷
    Posts 4 Done ∷ Takes 5 ∷ Posts 5 Done ∷ Takes 5 ∷ Posts 5 Done ∷ Takes 5 ∷ Posts 5 Done ∷ Takes 2 ∷ Posts 2 Done ∷
    Takes 0 ∷ Posts 0 Done ∷ Takes 1 ∷ Posts 1 Done ∷ []

abbrev pub history : List Entry
history =
    marked 7 (Phase 1) ∷ marked 5 (Called commands.Begin) ∷ marked 5 (Told (replies.Began (tx 0 1))) ∷
    marked 5 (Called (commands.Do 0 0)) ∷
    marked 5 (Sent 0 0 (messages.Request (tx 0 1) 1 0 (wants.Append 0 [] (own_line 1 0 1 ∷ [])))) ∷ marked 0 (Got 0) ∷
    marked 0 (Sent 1 5 (messages.Answer 0 (answers.Granted (whole_grant 1 0 [])))) ∷ marked 5 (Got 1) ∷
    marked 5 (Told (replies.Response 0)) ∷ marked 5 (Called commands.Commit) ∷
    marked 5 (Sent 2 0 (messages.Request (tx 0 1) 1 1 wants.Prepare)) ∷ marked 0 (Got 2) ∷
    marked 0 (Wrote (prepare (tx 0 1) 1 [] (own_line 1 0 1 ∷ []) [])) ∷
    marked 0 (Sent 3 5 (messages.Answer 2 (answers.Yes 0))) ∷ marked 5 (Got 3) ∷
    marked 5 (Wrote (commit (stamp 1 0) (tx 0 1) (operation 0 0 (Some 0) ∷ []))) ∷
    marked 5 (Sent 4 0 (messages.Decision (tx 0 1) (outcomes.Committed (stamp 1 0)))) ∷
    marked 5 (Told (replies.Committed (stamp 1 0))) ∷ marked 0 (Got 4) ∷ marked 0 (Wrote (records.Done (tx 0 1) 1)) ∷
    marked 7 (Phase 2) ∷ marked 0 (Fell falls.Script None) ∷
    marked 0 (Rose ((prepare (tx 0 1) 1 [] (own_line 1 0 1 ∷ []) []) ∷ (records.Done (tx 0 1) 1) ∷ [])) ∷
    marked 0 (Wrote records.Life) ∷ marked 5 (Called (commands.Do 0 0)) ∷ marked 5 (Told replies.NoTransaction) ∷
    marked 5 (Called (commands.Do 1 0)) ∷ marked 5 (Told replies.NoTransaction) ∷ marked 7 (Phase 3) ∷
    marked 5 (Called (commands.Do 1 2)) ∷ marked 5 (Told replies.NoTransaction) ∷ marked 5 (Called (commands.Do 1 2)) ∷
    marked 5 (Told replies.NoTransaction) ∷ marked 5 (Called commands.Abort) ∷ marked 5 (Told replies.NoTransaction) ∷
    marked 7 (Phase 4) ∷ marked 7 (Armed 4 arms.Stop 9) ∷ marked 5 (Called commands.Begin) ∷
    marked 5 (Told (replies.Began (tx 0 2))) ∷ marked 5 (Called (commands.Do 0 2)) ∷
    marked 5 (Sent 5 0 (messages.Request (tx 0 2) 1 0 (wants.Read (first_read 0 2)))) ∷
    marked 5 (Sent 6 1 (messages.Request (tx 0 2) 1 0 (wants.Read (first_read 0 2)))) ∷
    marked 5 (Sent 7 2 (messages.Request (tx 0 2) 1 0 (wants.Read (first_read 0 2)))) ∷
    marked 5 (Sent 8 3 (messages.Request (tx 0 2) 1 0 (wants.Read (first_read 0 2)))) ∷
    marked 5 (Sent 9 4 (messages.Request (tx 0 2) 1 0 (wants.Read (first_read 0 2)))) ∷ marked 1 (Got 6) ∷
    marked 1 (Sent 10 5 (messages.Answer 6 (answers.Granted (whole_grant 1 0 [])))) ∷ marked 3 (Got 8) ∷
    marked 0 (Got 5)
    ∷
    marked 2 (Got 7)
    ∷ marked 0 (Sent 11 5 (messages.Answer 5 (answers.Granted (whole_grant 2 1 (line 1 0 1 1 0 1 ∷ []))))) ∷
    marked 3 (Sent 12 5 (messages.Answer 8 (answers.Granted (whole_grant 1 0 [])))) ∷
    marked 2 (Sent 13 5 (messages.Answer 7 (answers.Granted (whole_grant 1 0 [])))) ∷ marked 5 (Got 10)
    ∷ marked 4 (Got 9) ∷
    marked 4 (Sent 14 5 (messages.Answer 9 (answers.Granted (whole_grant 1 0 [])))) ∷ marked 5 (Got 11)
    ∷ marked 5 (Got 12) ∷
    marked 5 (Got 13) ∷ marked 5 (Got 14) ∷ marked 5 (Told replies.Absent) ∷ marked 5 (Called (commands.Do 1 1)) ∷
    marked 5 (Sent 15 0 (messages.Request (tx 0 2) 1 2 (wants.Read (first_read 1 1)))) ∷
    marked 5 (Sent 16 1 (messages.Request (tx 0 2) 1 1 (wants.Read (first_read 1 1)))) ∷
    marked 5 (Sent 17 2 (messages.Request (tx 0 2) 1 1 (wants.Read (first_read 1 1)))) ∷ marked 0 (Got 15) ∷
    marked 0 (Sent 18 5 (messages.Answer 15 (answers.Granted (whole_grant 2 1 [])))) ∷ marked 2 (Got 17)
    ∷ marked 1 (Got 16) ∷
    marked 1 (Sent 19 5 (messages.Answer 16 (answers.Granted (whole_grant 1 0 [])))) ∷
    marked 2 (Sent 20 5 (messages.Answer 17 (answers.Granted (whole_grant 1 0 [])))) ∷ marked 5 (Got 18)
    ∷ marked 5 (Got 19) ∷
    marked 5 (Got 20) ∷ marked 5 (Sent 21 0 (messages.Request (tx 0 2) 1 2 (wants.Append 1 [] (own_line 2 1 2 ∷ [])))) ∷
    marked 5 (Sent 22 1 (messages.Request (tx 0 2) 1 1 (wants.Append 1 [] (own_line 2 1 2 ∷ [])))) ∷
    marked 5 (Sent 23 2 (messages.Request (tx 0 2) 1 1 (wants.Append 1 [] (own_line 2 1 2 ∷ [])))) ∷ marked 1 (Got 22) ∷
    marked 2 (Got 23) ∷ marked 1 (Sent 24 5 (messages.Answer 22 (answers.Granted (whole_grant 1 0 []))))
    ∷ marked 5 (Got 24) ∷
    marked 5 (Lost 21) ∷ marked 2 (Sent 25 5 (messages.Answer 23 (answers.Granted (whole_grant 1 0 []))))
    ∷ marked 5 (Got 25) ∷
    marked 5 (Told (replies.Response 2)) ∷ marked 5 (Called (commands.Do 0 0)) ∷
    marked 5 (Sent 26 0 (messages.Request (tx 0 2) 1 2 (wants.Append 0 (line 1 0 1 1 0 1 ∷ []) (own_line 3 0 1 ∷ []))))
    ∷
    marked 0 (Got 26) ∷ marked 0 (Sent 27 5 (messages.Answer 26 (answers.Granted (whole_grant 2 1 []))))
    ∷ marked 5 (Got 27) ∷
    marked 5 (Told (replies.Response 0)) ∷ marked 5 (Called commands.Commit) ∷
    marked 5 (Sent 28 0 (messages.Request (tx 0 2) 1 2 wants.Prepare)) ∷
    marked 5 (Sent 29 1 (messages.Request (tx 0 2) 1 1 wants.Prepare)) ∷
    marked 5 (Sent 30 2 (messages.Request (tx 0 2) 1 1 wants.Prepare)) ∷
    marked 5 (Sent 31 3 (messages.Request (tx 0 2) 1 1 wants.Prepare)) ∷
    marked 5 (Sent 32 4 (messages.Request (tx 0 2) 1 1 wants.Prepare)) ∷ marked 0 (Got 28) ∷ marked 3 (Got 31) ∷
    marked 2 (Got 30) ∷ marked 1 (Got 29) ∷
    marked 1 (Wrote (prepare (tx 0 2) 1 (read_lock 0 2 ∷ read_lock 1 1 ∷ []) (own_line 2 1 2 ∷ []) [])) ∷
    marked 1 (Sent 33 5 (messages.Answer 29 (answers.Yes 0))) ∷ marked 5 (Got 33) ∷
    marked 0 (Wrote (prepare (tx 0 2) 1 (read_lock 0 2 ∷ read_lock 1 1 ∷ []) (own_line 3 0 1 ∷ []) [])) ∷
    marked 0 (Sent 34 5 (messages.Answer 28 (answers.Yes 1))) ∷
    marked 3 (Wrote (prepare (tx 0 2) 1 (read_lock 0 2 ∷ []) [] [])) ∷
    marked 3 (Sent 35 5 (messages.Answer 31 (answers.Yes 0))) ∷ marked 4 (Got 32) ∷
    marked 2 (Wrote (prepare (tx 0 2) 1 (read_lock 0 2 ∷ read_lock 1 1 ∷ []) (own_line 2 1 2 ∷ []) [])) ∷
    marked 2 (Sent 36 5 (messages.Answer 30 (answers.Yes 0))) ∷
    marked 4 (Wrote (prepare (tx 0 2) 1 (read_lock 0 2 ∷ []) [] [])) ∷
    marked 4 (Sent 37 5 (messages.Answer 32 (answers.Yes 0))) ∷ marked 5 (Got 35) ∷ marked 5 (Got 36) ∷
    marked 5 (Got 37) ∷ marked 5 (Lost 28) ∷ marked 5 (Sent 38 0 (messages.Decision (tx 0 2) outcomes.Aborted)) ∷
    marked 5 (Sent 39 1 (messages.Decision (tx 0 2) outcomes.Aborted)) ∷
    marked 5 (Sent 40 2 (messages.Decision (tx 0 2) outcomes.Aborted)) ∷
    marked 5 (Sent 41 3 (messages.Decision (tx 0 2) outcomes.Aborted)) ∷
    marked 5 (Sent 42 4 (messages.Decision (tx 0 2) outcomes.Aborted)) ∷
    marked 5 (Told (replies.Aborted (causes.NoAnswer 0))) ∷ marked 2 (Got 40) ∷ marked 3 (Got 41) ∷ marked 0 (Got 38) ∷
    marked 1 (Got 39) ∷ marked 4 (Got 42) ∷ marked 5 (Called commands.Begin) ∷
    marked 5 (Told (replies.Began (tx 0 3))) ∷ marked 5 (Called (commands.Do 1 2)) ∷
    marked 5 (Sent 43 0 (messages.Request (tx 0 3) 1 0 (wants.Read (first_read 1 2)))) ∷
    marked 5 (Sent 44 1 (messages.Request (tx 0 3) 1 0 (wants.Read (first_read 1 2)))) ∷
    marked 5 (Sent 45 2 (messages.Request (tx 0 3) 1 0 (wants.Read (first_read 1 2)))) ∷ marked 0 (Got 43) ∷
    marked 0 (Sent 46 5 (messages.Answer 43 (answers.Granted (whole_grant 2 1 [])))) ∷ marked 5 (Got 46)
    ∷ marked 5 (Lost 44) ∷
    marked 5 (Lost 45) ∷ marked 5 (Sent 47 3 (messages.Request (tx 0 3) 1 0 (wants.Read (first_read 1 2))))
    ∷ marked 3 (Got 47) ∷
    marked 3 (Sent 48 5 (messages.Answer 47 (answers.Granted (whole_grant 1 0 [])))) ∷ marked 5 (Got 48) ∷
    marked 5 (Sent 49 4 (messages.Request (tx 0 3) 1 0 (wants.Read (first_read 1 2)))) ∷ marked 4 (Got 49) ∷
    marked 4 (Sent 50 5 (messages.Answer 49 (answers.Granted (whole_grant 1 0 [])))) ∷ marked 5 (Got 50) ∷
    marked 5 (Told (replies.Quorum halves.Read 3 5)) ∷ marked 5 (Called commands.Commit) ∷
    marked 5 (Sent 51 0 (messages.Request (tx 0 3) 1 2 wants.Prepare)) ∷
    marked 5 (Sent 52 3 (messages.Request (tx 0 3) 1 1 wants.Prepare)) ∷
    marked 5 (Sent 53 4 (messages.Request (tx 0 3) 1 1 wants.Prepare)) ∷ marked 3 (Got 52) ∷
    marked 3 (Wrote (prepare (tx 0 3) 1 (read_lock 1 2 ∷ []) [] [])) ∷
    marked 3 (Sent 54 5 (messages.Answer 52 (answers.Yes 0))) ∷ marked 0 (Got 51) ∷
    marked 0 (Wrote (prepare (tx 0 3) 1 (read_lock 1 2 ∷ []) [] [])) ∷
    marked 0 (Sent 55 5 (messages.Answer 51 (answers.Yes 1))) ∷ marked 4 (Got 53) ∷
    marked 4 (Wrote (prepare (tx 0 3) 1 (read_lock 1 2 ∷ []) [] [])) ∷
    marked 4 (Sent 56 5 (messages.Answer 53 (answers.Yes 0))) ∷ marked 5 (Got 54) ∷ marked 5 (Got 55) ∷
    marked 5 (Got 56) ∷ marked 5 (Wrote (commit (stamp 2 0) (tx 0 3) [])) ∷
    marked 5 (Sent 57 0 (messages.Decision (tx 0 3) (outcomes.Committed (stamp 2 0)))) ∷
    marked 5 (Sent 58 1 (messages.Decision (tx 0 3) (outcomes.Committed (stamp 2 0)))) ∷
    marked 5 (Sent 59 2 (messages.Decision (tx 0 3) (outcomes.Committed (stamp 2 0)))) ∷
    marked 5 (Sent 60 3 (messages.Decision (tx 0 3) (outcomes.Committed (stamp 2 0)))) ∷
    marked 5 (Sent 61 4 (messages.Decision (tx 0 3) (outcomes.Committed (stamp 2 0)))) ∷
    marked 5 (Told (replies.Committed (stamp 2 0))) ∷ marked 2 (Got 59) ∷ marked 0 (Got 57) ∷
    marked 0 (Wrote (records.Done (tx 0 3) 2)) ∷ marked 1 (Got 58) ∷ []
