-- Random: sites 3, clients 1, steps 165, messages 48, lost 4, commits 3, aborts 1, short rounds 2, absent 2, falls 4,
-- rises 3, unwritten records 1.
use Rattle.std.specs.Prelude.{List, [], ◌∷◌, Some, None}
use Rattle.qc_decl.specs.declared.declaration.Declaration.{Declaration}
use Rattle.qc_decl.specs.Vocabulary.{row}
use Rattle.qc_msg.specs.Vocabulary.{Entry, marked}
use Rattle.tests_histories.specs.Words.{tx, stamp, line, own_line, operation, read_lock, prepare, commit, declaration}
use Rattle.tests_histories.specs.Words.{kind, pair, plan}
use Rattle.qc_msg.specs.declared.step.Step.TheVariants.{Phase, Called, Got, Lost, Wrote, Sent, Told, Armed, Fell, Rose}
use Rattle.qc_msg.specs.declared.message.Answer.TheVariants as answers
use Rattle.qc_msg.specs.declared.reply.AbortCause.TheVariants as causes
use Rattle.qc_msg.specs.declared.step.Command.TheVariants as commands
use Rattle.qc_msg.specs.declared.reply.Half.TheVariants as halves
use Rattle.qc_msg.specs.declared.message.Message.TheVariants as messages
use Rattle.qc_msg.specs.declared.message.Outcome.TheVariants as outcomes
use Rattle.qc_msg.specs.declared.record.Record.TheVariants as records
use Rattle.qc_msg.specs.declared.reply.Reply.TheVariants as replies
use Rattle.qc_msg.specs.declared.message.Want.TheVariants as wants
use Rattle.qc_msg.specs.declared.step.Fall.TheVariants as falls
use Rattle.qc_msg.specs.Vocabulary.{whole_grant, first_read}
use Rattle.qc_outside.specs.declared.disk.ArmKind.TheVariants as arms

abbrev pub decl : Declaration
decl =
    declaration 3 1 (kind 3 3 3 0 (row 0 0 0 1 ∷ row 0 0 1 2 ∷ row 1 1 0 1 ∷ row 2 1 1 2 ∷ row 1 2 2 0 ∷ row 2 2 2 0 ∷
    row 0 2 2 0 ∷ []) (pair 0 0 ∷ pair 0 1 ∷ pair 0 4 ∷ pair 1 0 ∷ pair 1 1 ∷ pair 1 4 ∷ pair 2 2 ∷ []) ∷ kind 2 3 3 0
    (row 0 0 0 0 ∷ row 1 0 1 1 ∷ row 0 1 2 0 ∷ row 1 1 2 0 ∷ row 0 2 2 1 ∷ row 1 2 2 1 ∷ []) (pair 0 2 ∷ pair 0 3 ∷ pair
    2 1 ∷ []) ∷ []) (0 ∷ []) (plan (1 ∷ 1 ∷ 1 ∷ []) ((2 ∷ 2 ∷ 2 ∷ []) ∷ []) ((2 ∷ 2 ∷ 2 ∷ 0 ∷ 3 ∷ []) ∷ []) ∷ plan (1 ∷
    1 ∷ 1 ∷ []) ((2 ∷ 2 ∷ 2 ∷ []) ∷ []) ((2 ∷ 2 ∷ 2 ∷ 0 ∷ 2 ∷ []) ∷ []) ∷ [])

abbrev pub history : List Entry
history =
    marked 5 (Phase 1) ∷ marked 3 (Called commands.Begin) ∷ marked 3 (Told (replies.Began (tx 0 1))) ∷
    marked 3 (Called commands.Commit) ∷ marked 3 (Wrote (commit (stamp 1 0) (tx 0 1) [])) ∷
    marked 3 (Told (replies.Committed (stamp 1 0))) ∷ marked 3 (Called commands.Begin) ∷
    marked 3 (Told (replies.Began (tx 0 2))) ∷ marked 3 (Called (commands.Do 0 1)) ∷
    marked 3 (Sent 0 0 (messages.Request (tx 0 2) 1 0 (wants.Read (first_read 0 1)))) ∷
    marked 3 (Sent 1 1 (messages.Request (tx 0 2) 1 0 (wants.Read (first_read 0 1)))) ∷ marked 0 (Got 0) ∷
    marked 0 (Sent 2 3 (messages.Answer 0 (answers.Granted (whole_grant 1 0 [])))) ∷ marked 3 (Got 2) ∷ marked 1 (Got 1)
    ∷
    marked 1 (Sent 3 3 (messages.Answer 1 (answers.Granted (whole_grant 1 0 [])))) ∷ marked 3 (Got 3) ∷
    marked 3 (Told replies.Absent) ∷ marked 3 (Called commands.Commit) ∷
    marked 3 (Sent 4 0 (messages.Request (tx 0 2) 1 1 wants.Prepare)) ∷
    marked 3 (Sent 5 1 (messages.Request (tx 0 2) 1 1 wants.Prepare)) ∷ marked 1 (Got 5) ∷ marked 0 (Got 4) ∷
    marked 1 (Wrote (prepare (tx 0 2) 1 (read_lock 0 1 ∷ []) [] [])) ∷
    marked 1 (Sent 6 3 (messages.Answer 5 (answers.Yes 0))) ∷ marked 3 (Got 6) ∷
    marked 0 (Wrote (prepare (tx 0 2) 1 (read_lock 0 1 ∷ []) [] [])) ∷
    marked 0 (Sent 7 3 (messages.Answer 4 (answers.Yes 0))) ∷ marked 3 (Got 7) ∷
    marked 3 (Wrote (commit (stamp 2 0) (tx 0 2) (operation 0 1 None ∷ []))) ∷
    marked 3 (Sent 8 0 (messages.Decision (tx 0 2) (outcomes.Committed (stamp 2 0)))) ∷
    marked 3 (Sent 9 1 (messages.Decision (tx 0 2) (outcomes.Committed (stamp 2 0)))) ∷
    marked 3 (Told (replies.Committed (stamp 2 0))) ∷ marked 1 (Got 9) ∷ marked 0 (Got 8) ∷
    marked 0 (Wrote (records.Done (tx 0 2) 2)) ∷ marked 1 (Wrote (records.Done (tx 0 2) 2)) ∷ marked 5 (Phase 2) ∷
    marked 3 (Called commands.Begin) ∷ marked 3 (Told (replies.Began (tx 0 3))) ∷ marked 3 (Called (commands.Do 0 1)) ∷
    marked 3 (Sent 10 0 (messages.Request (tx 0 3) 1 0 (wants.Read (first_read 0 1)))) ∷
    marked 3 (Sent 11 1 (messages.Request (tx 0 3) 1 0 (wants.Read (first_read 0 1)))) ∷ marked 0 (Got 10)
    ∷ marked 1 (Got 11) ∷
    marked 0 (Sent 12 3 (messages.Answer 10 (answers.Granted (whole_grant 1 2 [])))) ∷ marked 3 (Got 12) ∷
    marked 1 (Sent 13 3 (messages.Answer 11 (answers.Granted (whole_grant 1 2 [])))) ∷ marked 3 (Got 13) ∷
    marked 3 (Told replies.Absent) ∷ marked 3 (Called (commands.Do 0 0)) ∷
    marked 3 (Sent 14 0 (messages.Request (tx 0 3) 1 1 (wants.Read (first_read 0 0)))) ∷
    marked 3 (Sent 15 1 (messages.Request (tx 0 3) 1 1 (wants.Read (first_read 0 0)))) ∷ marked 1 (Got 15)
    ∷ marked 0 (Got 14) ∷
    marked 0 (Sent 16 3 (messages.Answer 14 (answers.Granted (whole_grant 1 2 [])))) ∷ marked 3 (Got 16) ∷
    marked 1 (Sent 17 3 (messages.Answer 15 (answers.Granted (whole_grant 1 2 [])))) ∷ marked 3 (Got 17) ∷
    marked 3 (Sent 18 0 (messages.Request (tx 0 3) 1 1 (wants.Append 0 [] (own_line 2 0 0 ∷ [])))) ∷
    marked 3 (Sent 19 1 (messages.Request (tx 0 3) 1 1 (wants.Append 0 [] (own_line 2 0 0 ∷ [])))) ∷ marked 0 (Got 18) ∷
    marked 0 (Sent 20 3 (messages.Answer 18 (answers.Granted (whole_grant 1 2 [])))) ∷ marked 3 (Got 20)
    ∷ marked 1 (Got 19) ∷
    marked 1 (Sent 21 3 (messages.Answer 19 (answers.Granted (whole_grant 1 2 [])))) ∷ marked 3 (Got 21) ∷
    marked 3 (Told (replies.Response 0)) ∷ marked 3 (Called (commands.Do 0 0)) ∷
    marked 3 (Sent 22 0 (messages.Request (tx 0 3) 1 1 (wants.Read (first_read 0 0)))) ∷
    marked 3 (Sent 23 1 (messages.Request (tx 0 3) 1 1 (wants.Read (first_read 0 0)))) ∷ marked 3 (Lost 22)
    ∷ marked 3 (Lost 23) ∷
    marked 3 (Sent 24 2 (messages.Request (tx 0 3) 1 0 (wants.Read (first_read 0 0)))) ∷ marked 2 (Got 24) ∷
    marked 2 (Sent 25 3 (messages.Answer 24 (answers.Granted (whole_grant 1 0 [])))) ∷ marked 3 (Got 25) ∷
    marked 3 (Told (replies.Quorum halves.Read 1 2)) ∷ marked 3 (Called commands.Commit) ∷
    marked 3 (Sent 26 0 (messages.Request (tx 0 3) 1 1 wants.Prepare)) ∷
    marked 3 (Sent 27 1 (messages.Request (tx 0 3) 1 1 wants.Prepare)) ∷
    marked 3 (Sent 28 2 (messages.Request (tx 0 3) 1 1 wants.Prepare)) ∷ marked 0 (Got 26) ∷
    marked 0 (Wrote (prepare (tx 0 3) 1 (read_lock 0 0 ∷ read_lock 0 1 ∷ []) (own_line 2 0 0 ∷ []) [])) ∷
    marked 0 (Sent 29 3 (messages.Answer 26 (answers.Yes 2))) ∷ marked 2 (Got 28) ∷ marked 3 (Got 29) ∷
    marked 1 (Got 27) ∷ marked 2 (Wrote (prepare (tx 0 3) 1 (read_lock 0 0 ∷ []) [] [])) ∷
    marked 2 (Sent 30 3 (messages.Answer 28 (answers.Yes 0))) ∷ marked 3 (Got 30) ∷
    marked 1 (Wrote (prepare (tx 0 3) 1 (read_lock 0 0 ∷ read_lock 0 1 ∷ []) (own_line 2 0 0 ∷ []) [])) ∷
    marked 1 (Sent 31 3 (messages.Answer 27 (answers.Yes 2))) ∷ marked 3 (Got 31) ∷
    marked 3 (Wrote (commit (stamp 3 0) (tx 0 3) (operation 0 1 None ∷ operation 0 0 (Some 0) ∷ []))) ∷
    marked 3 (Sent 32 0 (messages.Decision (tx 0 3) (outcomes.Committed (stamp 3 0)))) ∷
    marked 3 (Sent 33 1 (messages.Decision (tx 0 3) (outcomes.Committed (stamp 3 0)))) ∷
    marked 3 (Sent 34 2 (messages.Decision (tx 0 3) (outcomes.Committed (stamp 3 0)))) ∷
    marked 3 (Told (replies.Committed (stamp 3 0))) ∷ marked 2 (Got 34) ∷ marked 1 (Got 33) ∷ marked 0 (Got 32) ∷
    marked 2 (Wrote (records.Done (tx 0 3) 3)) ∷ marked 1 (Wrote (records.Done (tx 0 3) 3)) ∷
    marked 0 (Wrote (records.Done (tx 0 3) 3)) ∷ marked 5 (Phase 3) ∷ marked 4 (Fell falls.Script None) ∷
    marked 1 (Fell falls.Script None) ∷ marked 3 (Called commands.Begin) ∷ marked 3 (Told (replies.Began (tx 0 4))) ∷
    marked 3 (Called (commands.Do 0 2))
    ∷ marked 3 (Sent 35 0 (messages.Request (tx 0 4) 1 0 (wants.Read (first_read 0 2)))) ∷
    marked 3 (Sent 36 1 (messages.Request (tx 0 4) 1 0 (wants.Read (first_read 0 2)))) ∷ marked 0 (Got 35)
    ∷ marked 3 (Lost 36) ∷
    marked 0 (Sent 37 3 (messages.Answer 35 (answers.Granted (whole_grant 1 3 (line 3 0 3 2 0 0 ∷ [])))))
    ∷ marked 3 (Got 37) ∷
    marked 3 (Sent 38 2 (messages.Request (tx 0 4) 1 0 (wants.Read (first_read 0 2)))) ∷ marked 2 (Got 38) ∷
    marked 2 (Sent 39 3 (messages.Answer 38 (answers.Granted (whole_grant 1 3 [])))) ∷ marked 3 (Got 39) ∷
    marked 3 (Sent 40 0 (messages.Request (tx 0 4) 1 1 (wants.Append 0 (line 3 0 3 2 0 0 ∷ []) (own_line 1 0 4 ∷ []))))
    ∷
    marked 3 (Sent 41 1 (messages.Request (tx 0 4) 1 0 (wants.Append 0 (line 3 0 3 2 0 0 ∷ []) (own_line 1 0 4 ∷ []))))
    ∷
    marked 3 (Sent 42 2 (messages.Request (tx 0 4) 1 1 (wants.Append 0 (line 3 0 3 2 0 0 ∷ []) (own_line 1 0 4 ∷ []))))
    ∷
    marked 3 (Lost 41) ∷ marked 0 (Got 40) ∷ marked 2 (Got 42) ∷
    marked 2 (Sent 43 3 (messages.Answer 42 (answers.Granted (whole_grant 1 3 [])))) ∷ marked 3 (Got 43) ∷
    marked 0 (Sent 44 3 (messages.Answer 40 (answers.Granted (whole_grant 1 3 [])))) ∷ marked 3 (Got 44) ∷
    marked 3 (Told (replies.Quorum halves.Append 2 3)) ∷ marked 3 (Called commands.Commit) ∷
    marked 3 (Sent 45 0 (messages.Decision (tx 0 4) outcomes.Aborted)) ∷
    marked 3 (Sent 46 1 (messages.Decision (tx 0 4) outcomes.Aborted)) ∷
    marked 3 (Sent 47 2 (messages.Decision (tx 0 4) outcomes.Aborted)) ∷
    marked 3 (Told (replies.Aborted causes.Doomed)) ∷ marked 2 (Got 47) ∷ marked 0 (Got 45) ∷ marked 5 (Phase 4) ∷
    marked 3 (Fell falls.Script None) ∷
    marked 3 (Rose ((commit (stamp 1 0) (tx 0 1) []) ∷ (commit (stamp 2 0) (tx 0 2) (operation 0 1 None ∷ [])) ∷ (commit
    (stamp 3 0) (tx 0 3) (operation 0 1 None ∷ operation 0 0 (Some 0) ∷ [])) ∷ [])) ∷
    marked 3 (Fell falls.Stop (Some records.Life)) ∷ marked 3 (Called commands.Begin) ∷ marked 3 (Told replies.Down) ∷
    marked 3 (Called (commands.Do 0 1)) ∷ marked 3 (Told replies.Down) ∷ marked 3 (Called (commands.Do 0 2)) ∷
    marked 3 (Told replies.Down) ∷ marked 3 (Called (commands.Do 0 0)) ∷ marked 3 (Told replies.Down) ∷
    marked 5 (Phase 5) ∷
    marked 1 (Rose ((prepare (tx 0 2) 1 (read_lock 0 1 ∷ []) [] []) ∷ (records.Done (tx 0 2) 2) ∷ (prepare (tx 0 3) 1
    (read_lock 0 0 ∷ read_lock 0 1 ∷ []) (own_line 2 0 0 ∷ []) []) ∷ (records.Done (tx 0 3) 3) ∷ [])) ∷
    marked 1 (Wrote records.Life) ∷ marked 5 (Armed 1 arms.Fail 2) ∷
    marked 3 (Rose ((commit (stamp 1 0) (tx 0 1) []) ∷ (commit (stamp 2 0) (tx 0 2) (operation 0 1 None ∷ [])) ∷ (commit
    (stamp 3 0) (tx 0 3) (operation 0 1 None ∷ operation 0 0 (Some 0) ∷ [])) ∷ [])) ∷
    marked 3 (Wrote records.Life) ∷ marked 3 (Called (commands.Do 0 0)) ∷ marked 3 (Told replies.NoTransaction) ∷
    marked 3 (Called (commands.Do 0 0)) ∷ marked 3 (Told replies.NoTransaction) ∷ marked 3 (Called (commands.Do 0 1)) ∷
    marked 3 (Told replies.NoTransaction) ∷ marked 3 (Called commands.Abort) ∷ marked 3 (Told replies.NoTransaction) ∷
    []
