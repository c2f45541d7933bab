-- Random: sites 3, clients 4, steps 184, messages 54, lost 4, commits 2, aborts 1, short rounds 3, absent 1, falls 5,
-- rises 1, unwritten records 4, closes 2.
use Rattle.std.specs.Prelude.{List, [], ◌∷◌, Some, None}
use Rattle.qc_decl.specs.declared.declaration.Declaration.{Declaration}
use Rattle.qc_decl.specs.Vocabulary.{row}
use Rattle.qc_msg.specs.Vocabulary.{Entry, marked}
use Rattle.tests_histories.specs.Words.{tx, stamp, line, own_line, operation, read_lock, prepare, commit, declaration}
use Rattle.tests_histories.specs.Words.{kind, pair, plan}
use Rattle.qc_msg.specs.declared.step.Step.TheVariants.{Phase, Called, Got, Lost, Wrote, Sent, Told, Armed, Fell, Rose}
use Rattle.qc_msg.specs.declared.message.Answer.TheVariants as answers
use Rattle.qc_msg.specs.declared.reply.AbortCause.TheVariants as causes
use Rattle.qc_msg.specs.declared.step.Command.TheVariants as commands
use Rattle.qc_msg.specs.declared.reply.Half.TheVariants as halves
use Rattle.qc_msg.specs.declared.message.Message.TheVariants as messages
use Rattle.qc_msg.specs.declared.message.Outcome.TheVariants as outcomes
use Rattle.qc_msg.specs.declared.record.Record.TheVariants as records
use Rattle.qc_msg.specs.declared.reply.Reply.TheVariants as replies
use Rattle.qc_msg.specs.declared.message.Want.TheVariants as wants
use Rattle.qc_msg.specs.declared.step.Fall.TheVariants as falls
use Rattle.qc_msg.specs.Vocabulary.{whole_grant, first_read, snapshot_with, start_with}
use Rattle.qc_outside.specs.declared.disk.ArmKind.TheVariants as arms

abbrev pub decl : Declaration
decl =
    declaration 3 4 (kind 2 2 2 0 (row 0 0 0 1 ∷ row 1 1 1 0 ∷ []) (pair 0 0 ∷ pair 0 1 ∷ pair 1 0 ∷ pair 1 1 ∷ []) ∷
    kind 3 3 3 0 (row 0 0 0 1 ∷ row 0 0 1 2 ∷ row 1 1 0 1 ∷ row 2 1 1 2 ∷ row 1 2 2 0 ∷ row 2 2 2 0 ∷ row 0 2 2 0 ∷ [])
    (pair 0 0 ∷ pair 0 1 ∷ pair 0 4 ∷ pair 1 0 ∷ pair 1 1 ∷ pair 1 4 ∷ []) ∷ []) (1 ∷ 0 ∷ []) (plan (1 ∷ 1 ∷ 1 ∷ []) ((2
    ∷ 2 ∷ 0 ∷ []) ∷ (2 ∷ 2 ∷ []) ∷ []) ((2 ∷ 2 ∷ 0 ∷ 3 ∷ 2 ∷ []) ∷ (2 ∷ 2 ∷ []) ∷ []) ∷ plan (1 ∷ 1 ∷ 1 ∷ []) ((2 ∷ 2 ∷
    2 ∷ []) ∷ (1 ∷ 1 ∷ []) ∷ []) ((2 ∷ 2 ∷ 0 ∷ 3 ∷ 2 ∷ []) ∷ (3 ∷ 3 ∷ []) ∷ []) ∷ [])

abbrev pub history : List Entry
history =
    marked 8 (Phase 1) ∷ marked 8 (Armed 1 arms.Stop 4) ∷ marked 6 (Called commands.Begin) ∷
    marked 6 (Told (replies.Began (tx 3 1))) ∷ marked 6 (Called (commands.Do 0 0)) ∷
    marked 6 (Sent 0 0 (messages.Request (tx 3 1) 1 0 (wants.Read (first_read 0 0)))) ∷
    marked 6 (Sent 1 1 (messages.Request (tx 3 1) 1 0 (wants.Read (first_read 0 0)))) ∷ marked 1 (Got 1) ∷
    marked 0 (Got 0)
    ∷
    marked 0 (Sent 2 6 (messages.Answer 0 (answers.Granted (whole_grant 1 0 [])))) ∷
    marked 1 (Sent 3 6 (messages.Answer 1 (answers.Granted (whole_grant 1 0 [])))) ∷ marked 6 (Got 2) ∷ marked 6 (Got 3)
    ∷
    marked 6 (Sent 4 0 (messages.Request (tx 3 1) 1 1 (wants.Append 0 [] (own_line 1 0 0 ∷ [])))) ∷
    marked 6 (Sent 5 1 (messages.Request (tx 3 1) 1 1 (wants.Append 0 [] (own_line 1 0 0 ∷ [])))) ∷ marked 0 (Got 4) ∷
    marked 1 (Got 5) ∷ marked 1 (Sent 6 6 (messages.Answer 5 (answers.Granted (whole_grant 1 0 [])))) ∷ marked 6 (Got 6)
    ∷
    marked 0 (Sent 7 6 (messages.Answer 4 (answers.Granted (whole_grant 1 0 [])))) ∷ marked 6 (Got 7) ∷
    marked 6 (Told (replies.Response 0)) ∷ marked 6 (Called (commands.Do 1 1)) ∷
    marked 6 (Sent 8 0 (messages.Request (tx 3 1) 1 1 (wants.Read (first_read 1 1)))) ∷
    marked 6 (Sent 9 1 (messages.Request (tx 3 1) 1 1 (wants.Read (first_read 1 1)))) ∷ marked 0 (Got 8) ∷
    marked 1 (Got 9)
    ∷
    marked 0 (Sent 10 6 (messages.Answer 8 (answers.Granted (whole_grant 1 0 [])))) ∷
    marked 1 (Sent 11 6 (messages.Answer 9 (answers.Granted (whole_grant 1 0 [])))) ∷ marked 6 (Got 10)
    ∷ marked 6 (Got 11) ∷
    marked 6 (Told replies.Absent) ∷ marked 6 (Called commands.Commit) ∷
    marked 6 (Sent 12 0 (messages.Request (tx 3 1) 1 1 wants.Prepare)) ∷
    marked 6 (Sent 13 1 (messages.Request (tx 3 1) 1 1 wants.Prepare)) ∷ marked 1 (Got 13) ∷
    marked 1 (Wrote (prepare (tx 3 1) 1 (read_lock 0 0 ∷ read_lock 1 1 ∷ []) (own_line 1 0 0 ∷ []) [])) ∷
    marked 1 (Sent 14 6 (messages.Answer 13 (answers.Yes 0))) ∷ marked 6 (Got 14) ∷ marked 0 (Got 12) ∷
    marked 0 (Wrote (prepare (tx 3 1) 1 (read_lock 0 0 ∷ read_lock 1 1 ∷ []) (own_line 1 0 0 ∷ []) [])) ∷
    marked 0 (Sent 15 6 (messages.Answer 12 (answers.Yes 0))) ∷ marked 6 (Got 15) ∷
    marked 6 (Wrote (commit (stamp 1 3) (tx 3 1) (operation 0 0 (Some 0) ∷ operation 1 1 None ∷ []))) ∷
    marked 6 (Sent 16 0 (messages.Decision (tx 3 1) (outcomes.Committed (stamp 1 3)))) ∷
    marked 6 (Sent 17 1 (messages.Decision (tx 3 1) (outcomes.Committed (stamp 1 3)))) ∷
    marked 6 (Told (replies.Committed (stamp 1 3))) ∷ marked 6 (Called commands.Begin) ∷ marked 0 (Got 16) ∷
    marked 0 (Wrote (records.Done (tx 3 1) 1)) ∷ marked 1 (Got 17) ∷ marked 6 (Told (replies.Began (tx 3 2))) ∷
    marked 1 (Wrote (records.Done (tx 3 1) 1)) ∷ marked 6 (Called commands.Commit) ∷ marked 6 (Told replies.Unknown) ∷
    marked 6 (Fell falls.Stop (Some (commit (stamp 2 3) (tx 3 2) []))) ∷ marked 8 (Phase 2) ∷
    marked 4 (Called commands.Begin) ∷ marked 4 (Told (replies.Began (tx 1 1))) ∷ marked 7 (Called (commands.Epoch 2)) ∷
    marked 7 (Sent 18 0 (messages.Close 2)) ∷ marked 7 (Sent 19 1 (messages.Close 2)) ∷ marked 0 (Got 18) ∷
    marked 0 (Sent 20 7 (messages.Answer 18 answers.Fault)) ∷ marked 0 (Fell falls.Disk (Some (records.Close 2))) ∷
    marked 7 (Got 20) ∷ marked 1 (Got 19) ∷ marked 1 (Wrote (records.Close 2)) ∷
    marked 1 (Sent 21 7 (messages.Answer 19 (answers.Shut (snapshot_with 1 (line 1 3 1 1 0 0 ∷ []) []))))
    ∷ marked 7 (Got 21) ∷
    marked 7 (Sent 22 2 (messages.Close 2)) ∷ marked 2 (Got 22) ∷ marked 2 (Wrote (records.Close 2)) ∷
    marked 2 (Sent 23 7 (messages.Answer 22 (answers.Shut (snapshot_with 0 [] [])))) ∷ marked 7 (Got 23) ∷
    marked 7 (Told replies.Fault)
    ∷ marked 7 (Fell falls.Disk (Some (records.Decide (start_with 2 1 (line 1 3 1 1 0 0 ∷ []))))) ∷
    marked 7 (Called (commands.Epoch 2)) ∷ marked 7 (Told replies.Down) ∷ marked 8 (Phase 3) ∷
    marked 0 (Fell falls.Disk None) ∷ marked 8 (Armed 2 arms.Fail 4) ∷ marked 3 (Called commands.Begin) ∷
    marked 6 (Called commands.Begin) ∷ marked 4 (Called commands.Commit) ∷ marked 4 (Told replies.Unknown) ∷
    marked 4 (Fell falls.Stop (Some (commit (stamp 1 1) (tx 1 1) []))) ∷ marked 6 (Told replies.Down) ∷
    marked 6 (Called (commands.Do 0 1)) ∷ marked 3 (Told (replies.Began (tx 0 1))) ∷
    marked 3 (Called (commands.Do 0 1)) ∷ marked 6 (Told replies.Down) ∷
    marked 3 (Sent 24 0 (messages.Request (tx 0 1) 1 0 (wants.Read (first_read 0 1)))) ∷
    marked 3 (Sent 25 1 (messages.Request (tx 0 1) 1 0 (wants.Read (first_read 0 1)))) ∷ marked 3 (Lost 24) ∷
    marked 6 (Called (commands.Do 0 1)) ∷ marked 6 (Told replies.Down) ∷ marked 1 (Got 25) ∷
    marked 1 (Sent 26 3 (messages.Answer 25 (answers.Closed 2))) ∷ marked 3 (Got 26) ∷
    marked 3 (Told (replies.Closed 2 1)) ∷ marked 3 (Called (commands.Do 0 2)) ∷
    marked 3 (Sent 27 0 (messages.Request (tx 0 1) 1 0 (wants.Append 0 [] (own_line 1 0 4 ∷ [])))) ∷
    marked 3 (Sent 28 1 (messages.Request (tx 0 1) 1 0 (wants.Append 0 [] (own_line 1 0 4 ∷ [])))) ∷ marked 1 (Got 28) ∷
    marked 1 (Sent 29 3 (messages.Answer 28 (answers.Closed 2))) ∷ marked 3 (Got 29) ∷ marked 3 (Lost 27) ∷
    marked 3 (Told (replies.Closed 2 1)) ∷ marked 3 (Called commands.Commit) ∷
    marked 3 (Sent 30 0 (messages.Decision (tx 0 1) outcomes.Aborted)) ∷
    marked 3 (Sent 31 1 (messages.Decision (tx 0 1) outcomes.Aborted)) ∷
    marked 3 (Told (replies.Aborted causes.Doomed)) ∷ marked 1 (Got 31) ∷ marked 3 (Called commands.Begin) ∷
    marked 3 (Told (replies.Began (tx 0 2))) ∷ marked 3 (Called (commands.Do 1 0)) ∷
    marked 3 (Sent 32 0 (messages.Request (tx 0 2) 2 0 (wants.Read (first_read 1 0)))) ∷ marked 3 (Lost 32) ∷
    marked 3 (Sent 33 1 (messages.Request (tx 0 2) 2 0 (wants.Read (first_read 1 0)))) ∷ marked 1 (Got 33) ∷
    marked 1 (Sent 34 3 (messages.Answer 33 (answers.Behind 1))) ∷ marked 3 (Got 34) ∷
    marked 3 (Sent 35 2 (messages.Request (tx 0 2) 2 0 (wants.Read (first_read 1 0)))) ∷ marked 2 (Got 35) ∷
    marked 2 (Sent 36 3 (messages.Answer 35 (answers.Behind 1))) ∷ marked 3 (Got 36) ∷
    marked 3 (Told (replies.Quorum halves.Read 0 1)) ∷ marked 3 (Called (commands.Do 1 0)) ∷
    marked 3 (Sent 37 0 (messages.Request (tx 0 2) 2 0 (wants.Read (first_read 1 0)))) ∷ marked 3 (Lost 37) ∷
    marked 3 (Sent 38 1 (messages.Request (tx 0 2) 2 0 (wants.Read (first_read 1 0)))) ∷ marked 1 (Got 38) ∷
    marked 1 (Sent 39 3 (messages.Answer 38 (answers.Behind 1))) ∷ marked 3 (Got 39) ∷
    marked 3 (Sent 40 2 (messages.Request (tx 0 2) 2 0 (wants.Read (first_read 1 0)))) ∷ marked 2 (Got 40) ∷
    marked 2 (Sent 41 3 (messages.Answer 40 (answers.Behind 1))) ∷ marked 3 (Got 41) ∷
    marked 3 (Told (replies.Quorum halves.Read 0 1)) ∷ marked 3 (Called commands.Commit) ∷
    marked 3 (Wrote (commit (stamp 1 0) (tx 0 2) [])) ∷
    marked 3 (Sent 42 0 (messages.Decision (tx 0 2) (outcomes.Committed (stamp 1 0)))) ∷
    marked 3 (Sent 43 1 (messages.Decision (tx 0 2) (outcomes.Committed (stamp 1 0)))) ∷
    marked 3 (Sent 44 2 (messages.Decision (tx 0 2) (outcomes.Committed (stamp 1 0)))) ∷
    marked 3 (Told (replies.Committed (stamp 1 0))) ∷ marked 2 (Got 44) ∷ marked 1 (Got 43) ∷ marked 8 (Phase 4) ∷
    marked 0 (Rose ((prepare (tx 3 1) 1 (read_lock 0 0 ∷ read_lock 1 1 ∷ []) (own_line 1 0 0 ∷ []) []) ∷ (records.Done
    (tx 3 1) 1) ∷ (records.Close 2) ∷ [])) ∷
    marked 0 (Wrote records.Life) ∷ marked 8 (Armed 4 arms.Fail 7) ∷ marked 6 (Called (commands.Do 1 0)) ∷
    marked 4 (Called commands.Begin) ∷ marked 6 (Told replies.Down) ∷ marked 4 (Told replies.Down) ∷
    marked 4 (Called (commands.Do 1 0)) ∷ marked 4 (Told replies.Down) ∷ marked 3 (Called commands.Begin) ∷
    marked 6 (Called commands.Commit) ∷ marked 6 (Told replies.Down) ∷ marked 3 (Told (replies.Began (tx 0 3))) ∷
    marked 3 (Called (commands.Do 0 2))
    ∷ marked 3 (Sent 45 0 (messages.Request (tx 0 3) 2 0 (wants.Read (first_read 0 2)))) ∷
    marked 3 (Sent 46 1 (messages.Request (tx 0 3) 2 0 (wants.Read (first_read 0 2)))) ∷ marked 1 (Got 46)
    ∷ marked 0 (Got 45) ∷
    marked 1 (Sent 47 3 (messages.Answer 46 (answers.Behind 1))) ∷ marked 3 (Got 47) ∷
    marked 0 (Sent 48 3 (messages.Answer 45 (answers.Behind 1))) ∷ marked 3 (Got 48) ∷
    marked 3 (Sent 49 2 (messages.Request (tx 0 3) 2 0 (wants.Read (first_read 0 2)))) ∷ marked 2 (Got 49) ∷
    marked 2 (Sent 50 3 (messages.Answer 49 (answers.Behind 1))) ∷ marked 3 (Got 50) ∷
    marked 3 (Told (replies.Quorum halves.Read 0 2)) ∷ marked 3 (Called commands.Abort) ∷
    marked 3 (Sent 51 0 (messages.Decision (tx 0 3) outcomes.Aborted)) ∷
    marked 3 (Sent 52 1 (messages.Decision (tx 0 3) outcomes.Aborted)) ∷
    marked 3 (Sent 53 2 (messages.Decision (tx 0 3) outcomes.Aborted)) ∷ marked 3 (Told replies.Dropped) ∷
    marked 2 (Got 53) ∷ marked 1 (Got 52) ∷ marked 0 (Got 51) ∷ []
