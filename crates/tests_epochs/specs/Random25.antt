-- Random: sites 1, clients 4, steps 196, messages 44, lost 3, commits 5, short rounds 3, absent 2, falls 4, rises 3,
-- unwritten records 1, closes 1, decisions 1, installs 1.
use Rattle.std.specs.Prelude.{List, [], ◌∷◌, Some, None}
use Rattle.qc_decl.specs.declared.declaration.Declaration.{Declaration}
use Rattle.qc_decl.specs.Vocabulary.{row}
use Rattle.qc_msg.specs.Vocabulary.{Entry, marked}
use Rattle.tests_histories.specs.Words.{tx, stamp, line, own_line, operation, read_lock, prepare, commit, declaration}
use Rattle.tests_histories.specs.Words.{kind, pair, plan}
use Rattle.qc_msg.specs.declared.step.Step.TheVariants.{Phase, Called, Got, Lost, Wrote, Sent, Told, Armed, Fell, Rose}
use Rattle.tests_epochs.specs.Words.{tx_in}
use Rattle.qc_msg.specs.declared.message.Answer.TheVariants as answers
use Rattle.qc_msg.specs.declared.step.Command.TheVariants as commands
use Rattle.qc_msg.specs.declared.reply.Half.TheVariants as halves
use Rattle.qc_msg.specs.declared.message.Message.TheVariants as messages
use Rattle.qc_msg.specs.declared.message.Outcome.TheVariants as outcomes
use Rattle.qc_msg.specs.declared.record.Record.TheVariants as records
use Rattle.qc_msg.specs.declared.reply.Reply.TheVariants as replies
use Rattle.qc_msg.specs.declared.message.Want.TheVariants as wants
use Rattle.qc_msg.specs.declared.step.Fall.TheVariants as falls
use Rattle.qc_msg.specs.Vocabulary.{whole_grant, first_read, snapshot_with, start_with}
use Rattle.qc_outside.specs.declared.disk.ArmKind.TheVariants as arms

abbrev pub decl : Declaration
decl =
    declaration 1 4 (kind 4 3 3 0 (row 0 0 0 1 ∷ row 0 1 0 2 ∷ row 1 1 0 3 ∷ row 2 0 0 3 ∷ row 1 2 1 0 ∷ row 2 2 2 0 ∷
    row 3 2 1 2 ∷ row 3 2 2 1 ∷ []) (pair 0 0 ∷ pair 0 2 ∷ pair 1 1 ∷ pair 1 2 ∷ pair 1 3 ∷ pair 2 0 ∷ pair 2 1 ∷ pair 2
    2 ∷ pair 2 3 ∷ []) ∷ []) (0 ∷ 0 ∷ []) (plan (1 ∷ []) ((1 ∷ 1 ∷ 1 ∷ []) ∷ (1 ∷ 1 ∷ 1 ∷ []) ∷ []) ((1 ∷ 1 ∷ 1 ∷ 1 ∷
    []) ∷ (1 ∷ 1 ∷ 1 ∷ 1 ∷ []) ∷ []) ∷ plan (1 ∷ []) ((1 ∷ 1 ∷ 1 ∷ []) ∷ (1 ∷ 1 ∷ 1 ∷ []) ∷ []) ((1 ∷ 1 ∷ 1 ∷ 1 ∷ []) ∷
    (1 ∷ 1 ∷ 1 ∷ 1 ∷ []) ∷ []) ∷ [])

abbrev pub history : List Entry
history =
    marked 6 (Phase 1) ∷ marked 1 (Fell falls.Script None) ∷ marked 1 (Rose []) ∷ marked 1 (Wrote records.Life) ∷
    marked 2 (Called commands.Begin) ∷ marked 2 (Told (replies.Began (tx 1 1))) ∷ marked 3 (Called commands.Begin) ∷
    marked 3 (Told (replies.Began (tx 2 1))) ∷ marked 2 (Called (commands.Do 1 0)) ∷
    marked 2 (Sent 0 0 (messages.Request (tx 1 1) 1 0 (wants.Read (first_read 1 0)))) ∷ marked 0 (Got 0) ∷
    marked 0 (Sent 1 2 (messages.Answer 0 (answers.Granted (whole_grant 1 0 [])))) ∷ marked 2 (Got 1) ∷
    marked 2 (Sent 2 0 (messages.Request (tx 1 1) 1 1 (wants.Append 1 [] (own_line 1 1 0 ∷ [])))) ∷ marked 0 (Got 2) ∷
    marked 0 (Sent 3 2 (messages.Answer 2 (answers.Granted (whole_grant 1 0 [])))) ∷ marked 2 (Got 3) ∷
    marked 2 (Told (replies.Response 0)) ∷ marked 3 (Called (commands.Do 1 1)) ∷
    marked 3 (Sent 4 0 (messages.Request (tx 2 1) 1 0 (wants.Read (first_read 1 1)))) ∷ marked 0 (Got 4) ∷
    marked 0 (Sent 5 3 (messages.Answer 4 (answers.Granted (whole_grant 1 0 [])))) ∷ marked 3 (Got 5) ∷
    marked 3 (Sent 6 0 (messages.Request (tx 2 1) 1 1 (wants.Append 1 [] (own_line 1 1 1 ∷ [])))) ∷ marked 0 (Got 6) ∷
    marked 0 (Sent 7 3 (messages.Answer 6 (answers.Granted (whole_grant 1 0 [])))) ∷ marked 3 (Got 7) ∷
    marked 3 (Told (replies.Response 0)) ∷ marked 2 (Called commands.Commit) ∷
    marked 2 (Sent 8 0 (messages.Request (tx 1 1) 1 1 wants.Prepare)) ∷ marked 0 (Got 8) ∷
    marked 0 (Wrote (prepare (tx 1 1) 1 (read_lock 1 0 ∷ []) (own_line 1 1 0 ∷ []) [])) ∷
    marked 0 (Sent 9 2 (messages.Answer 8 (answers.Yes 0))) ∷ marked 2 (Got 9) ∷
    marked 2 (Wrote (commit (stamp 1 1) (tx 1 1) (operation 1 0 (Some 0) ∷ []))) ∷
    marked 2 (Sent 10 0 (messages.Decision (tx 1 1) (outcomes.Committed (stamp 1 1)))) ∷
    marked 2 (Told (replies.Committed (stamp 1 1))) ∷ marked 0 (Got 10) ∷ marked 0 (Wrote (records.Done (tx 1 1) 1)) ∷
    marked 3 (Called commands.Commit) ∷ marked 3 (Sent 11 0 (messages.Request (tx 2 1) 1 1 wants.Prepare)) ∷
    marked 0 (Got 11) ∷ marked 0 (Wrote (prepare (tx 2 1) 1 (read_lock 1 1 ∷ []) (own_line 1 1 1 ∷ []) [])) ∷
    marked 0 (Sent 12 3 (messages.Answer 11 (answers.Yes 1))) ∷ marked 3 (Got 12) ∷
    marked 3 (Wrote (commit (stamp 2 2) (tx 2 1) (operation 1 1 (Some 0) ∷ []))) ∷
    marked 3 (Sent 13 0 (messages.Decision (tx 2 1) (outcomes.Committed (stamp 2 2)))) ∷
    marked 3 (Told (replies.Committed (stamp 2 2))) ∷ marked 0 (Got 13) ∷ marked 0 (Wrote (records.Done (tx 2 1) 2)) ∷
    marked 2 (Called commands.Begin) ∷ marked 2 (Told (replies.Began (tx 1 2))) ∷ marked 2 (Called (commands.Do 0 0)) ∷
    marked 2 (Sent 14 0 (messages.Request (tx 1 2) 1 0 (wants.Read (first_read 0 0)))) ∷ marked 0 (Got 14) ∷
    marked 0 (Sent 15 2 (messages.Answer 14 (answers.Granted (whole_grant 1 2 [])))) ∷ marked 2 (Got 15) ∷
    marked 2 (Sent 16 0 (messages.Request (tx 1 2) 1 1 (wants.Append 0 [] (own_line 1 0 0 ∷ [])))) ∷ marked 0 (Got 16) ∷
    marked 0 (Sent 17 2 (messages.Answer 16 (answers.Granted (whole_grant 1 2 [])))) ∷ marked 2 (Got 17) ∷
    marked 2 (Told (replies.Response 0)) ∷ marked 2 (Called (commands.Do 0 0)) ∷
    marked 2 (Sent 18 0 (messages.Request (tx 1 2) 1 1 (wants.Read (first_read 0 0)))) ∷ marked 0 (Got 18) ∷
    marked 0 (Sent 19 2 (messages.Answer 18 (answers.Granted (whole_grant 1 2 [])))) ∷ marked 2 (Got 19) ∷
    marked 2 (Told replies.Absent) ∷ marked 2 (Called (commands.Do 1 0)) ∷
    marked 2 (Sent 20 0 (messages.Request (tx 1 2) 1 1 (wants.Read (first_read 1 0)))) ∷ marked 0 (Got 20) ∷
    marked 0
    (Sent 21 2 (messages.Answer 20 (answers.Granted (whole_grant 1 2 (line 1 1 1 1 1 0 ∷ line 2 2 1 1 1 1 ∷ []))))) ∷
    marked 2 (Got 21) ∷ marked 2 (Told replies.Absent) ∷ marked 2 (Called commands.Commit) ∷
    marked 2 (Sent 22 0 (messages.Request (tx 1 2) 1 1 wants.Prepare)) ∷ marked 0 (Got 22) ∷
    marked 0 (Wrote (prepare (tx 1 2) 1 (read_lock 0 0 ∷ read_lock 1 0 ∷ []) (own_line 1 0 0 ∷ []) [])) ∷
    marked 0 (Sent 23 2 (messages.Answer 22 (answers.Yes 2))) ∷ marked 2 (Got 23) ∷
    marked 2 (Wrote (commit (stamp 3 1) (tx 1 2) (operation 0 0 (Some 0) ∷ operation 0 0 None ∷ operation 1 0 None ∷
    []))) ∷
    marked 2 (Sent 24 0 (messages.Decision (tx 1 2) (outcomes.Committed (stamp 3 1)))) ∷
    marked 2 (Told (replies.Committed (stamp 3 1))) ∷ marked 0 (Got 24) ∷ marked 0 (Wrote (records.Done (tx 1 2) 3)) ∷
    marked 6 (Phase 2) ∷ marked 1 (Called commands.Begin) ∷ marked 1 (Told (replies.Began (tx_in 0 2 1))) ∷
    marked 2 (Called commands.Begin) ∷ marked 2 (Told (replies.Began (tx 1 3))) ∷ marked 5 (Called (commands.Epoch 2)) ∷
    marked 5 (Sent 25 0 (messages.Close 2)) ∷ marked 0 (Got 25) ∷ marked 0 (Wrote (records.Close 2)) ∷
    marked 0
    (Sent 26 5
    (messages.Answer 25
    (answers.Shut (snapshot_with 3 (line 1 1 1 1 1 0 ∷ line 2 2 1 1 1 1 ∷ line 3 1 2 1 0 0 ∷ []) [])))) ∷
    marked 5 (Got 26) ∷
    marked 5 (Wrote (records.Decide (start_with 2 3 (line 1 1 1 1 1 0 ∷ line 2 2 1 1 1 1 ∷ line 3 1 2 1 0 0 ∷ [])))) ∷
    marked 5
    (Sent 27 0 (messages.Install (start_with 2 3 (line 1 1 1 1 1 0 ∷ line 2 2 1 1 1 1 ∷ line 3 1 2 1 0 0 ∷ [])))) ∷
    marked 0 (Got 27) ∷
    marked 0 (Wrote (records.Install (start_with 2 3 (line 1 1 1 1 1 0 ∷ line 2 2 1 1 1 1 ∷ line 3 1 2 1 0 0 ∷ [])))) ∷
    marked 0 (Sent 28 5 (messages.Answer 27 answers.Installed)) ∷ marked 5 (Got 28) ∷
    marked 5 (Told (replies.Moved 1 1)) ∷ marked 1 (Called (commands.Do 0 0)) ∷
    marked 1 (Sent 29 0 (messages.Request (tx_in 0 2 1) 1 0 (wants.Read (first_read 0 0)))) ∷ marked 0 (Got 29) ∷
    marked 0 (Sent 30 1 (messages.Answer 29 (answers.Closed 2))) ∷ marked 1 (Got 30) ∷
    marked 1 (Told (replies.Closed 2 0)) ∷ marked 1 (Called (commands.Do 1 1)) ∷
    marked 1 (Sent 31 0 (messages.Request (tx_in 0 2 1) 1 0 (wants.Read (first_read 1 1)))) ∷ marked 0 (Got 31) ∷
    marked 0 (Sent 32 1 (messages.Answer 31 (answers.Closed 2))) ∷ marked 1 (Got 32) ∷
    marked 1 (Told (replies.Closed 2 0)) ∷ marked 6 (Phase 3) ∷ marked 1 (Fell falls.Script None) ∷
    marked 1 (Called commands.Commit) ∷ marked 1 (Told replies.Down) ∷ marked 4 (Called commands.Begin) ∷
    marked 4 (Told (replies.Began (tx 3 1))) ∷ marked 4 (Called (commands.Do 0 1)) ∷
    marked 4 (Sent 33 0 (messages.Request (tx 3 1) 1 0 (wants.Read (first_read 0 1)))) ∷ marked 0 (Got 33) ∷
    marked 0 (Sent 34 4 (messages.Answer 33 (answers.Closed 2))) ∷ marked 4 (Got 34) ∷
    marked 4 (Told (replies.Closed 2 0)) ∷ marked 4 (Called (commands.Do 0 1)) ∷
    marked 4 (Sent 35 0 (messages.Request (tx 3 1) 1 0 (wants.Read (first_read 0 1)))) ∷ marked 0 (Got 35) ∷
    marked 0 (Sent 36 4 (messages.Answer 35 (answers.Closed 2))) ∷ marked 4 (Got 36) ∷
    marked 4 (Told (replies.Closed 2 0)) ∷ marked 4 (Called (commands.Do 0 1)) ∷
    marked 4 (Sent 37 0 (messages.Request (tx 3 1) 1 0 (wants.Read (first_read 0 1)))) ∷ marked 0 (Got 37) ∷
    marked 0 (Sent 38 4 (messages.Answer 37 (answers.Closed 2))) ∷ marked 4 (Got 38) ∷
    marked 4 (Told (replies.Closed 2 0)) ∷ marked 4 (Called commands.Commit) ∷
    marked 4 (Wrote (commit (stamp 1 3) (tx 3 1) [])) ∷
    marked 4 (Sent 39 0 (messages.Decision (tx 3 1) (outcomes.Committed (stamp 1 3)))) ∷
    marked 4 (Told (replies.Committed (stamp 1 3))) ∷ marked 0 (Got 39) ∷ marked 4 (Called commands.Begin) ∷
    marked 4 (Told (replies.Began (tx 3 2))) ∷ marked 4 (Called commands.Abort) ∷ marked 4 (Told replies.Dropped) ∷
    marked 6 (Phase 4) ∷ marked 1 (Called commands.Begin) ∷ marked 1 (Told replies.Down) ∷
    marked 1 (Called (commands.Do 1 2)) ∷ marked 1 (Told replies.Down) ∷ marked 1 (Called commands.Commit) ∷
    marked 1 (Told replies.Down) ∷ marked 6 (Phase 5) ∷ marked 0 (Fell falls.Script None) ∷
    marked 0 (Rose ((prepare (tx 1 1) 1 (read_lock 1 0 ∷ []) (own_line 1 1 0 ∷ []) []) ∷ (records.Done (tx 1 1) 1) ∷
    (prepare (tx 2 1) 1 (read_lock 1 1 ∷ []) (own_line 1 1 1 ∷ []) []) ∷ (records.Done (tx 2 1) 2) ∷ (prepare (tx 1 2) 1
    (read_lock 0 0 ∷ read_lock 1 0 ∷ []) (own_line 1 0 0 ∷ []) []) ∷ (records.Done (tx 1 2) 3) ∷ (records.Close 2) ∷
    (records.Install (start_with 2 3 (line 1 1 1 1 1 0 ∷ line 2 2 1 1 1 1 ∷ line 3 1 2 1 0 0 ∷ []))) ∷ [])) ∷
    marked 0 (Fell falls.Disk (Some records.Life)) ∷ marked 1 (Called commands.Begin) ∷ marked 1 (Told replies.Down) ∷
    marked 3 (Called (commands.Do 0 1)) ∷ marked 3 (Told replies.NoTransaction) ∷ marked 1 (Called (commands.Do 1 1)) ∷
    marked 1 (Told replies.Down) ∷ marked 3 (Called commands.Commit) ∷ marked 3 (Told replies.NoTransaction) ∷
    marked 1 (Called (commands.Do 0 0)) ∷ marked 1 (Told replies.Down) ∷ marked 1 (Called (commands.Do 0 2)) ∷
    marked 1 (Told replies.Down) ∷ marked 1 (Called commands.Commit) ∷ marked 1 (Told replies.Down) ∷
    marked 6 (Phase 6) ∷ marked 6 (Armed 0 arms.Stop 8) ∷ marked 1 (Rose (records.Life ∷ [])) ∷
    marked 1 (Wrote records.Life) ∷ marked 6 (Armed 3 arms.Stop 4) ∷ marked 1 (Called commands.Begin) ∷
    marked 1 (Told (replies.Began (tx_in 0 3 1))) ∷ marked 2 (Called (commands.Do 0 2)) ∷
    marked 2 (Sent 40 0 (messages.Request (tx 1 3) 1 0 (wants.Read (first_read 0 2)))) ∷ marked 2 (Lost 40) ∷
    marked 2 (Told (replies.Quorum halves.Read 0 1)) ∷ marked 1 (Called (commands.Do 1 2)) ∷
    marked 1 (Sent 41 0 (messages.Request (tx_in 0 3 1) 1 0 (wants.Read (first_read 1 2)))) ∷ marked 1 (Lost 41) ∷
    marked 1 (Told (replies.Quorum halves.Read 0 1)) ∷ marked 2 (Called (commands.Do 0 1)) ∷
    marked 2 (Sent 42 0 (messages.Request (tx 1 3) 1 0 (wants.Read (first_read 0 1)))) ∷ marked 2 (Lost 42) ∷
    marked 2 (Told (replies.Quorum halves.Read 0 1)) ∷ marked 2 (Called commands.Commit) ∷
    marked 2 (Wrote (commit (stamp 4 1) (tx 1 3) [])) ∷
    marked 2 (Sent 43 0 (messages.Decision (tx 1 3) (outcomes.Committed (stamp 4 1)))) ∷
    marked 2 (Told (replies.Committed (stamp 4 1))) ∷ []
