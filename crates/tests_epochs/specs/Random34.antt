-- Random: sites 3, clients 2, steps 295, messages 88, lost 15, cuts 3, commits 9, aborts 2, conflicts 1, short rounds
-- 4, absent 2, falls 3, rises 2, unwritten records 3, closes 2, decisions 1, installs 2.
use Rattle.std.specs.Prelude.{List, [], ◌∷◌, Some, None}
use Rattle.qc_decl.specs.declared.declaration.Declaration.{Declaration}
use Rattle.qc_decl.specs.Vocabulary.{row}
use Rattle.qc_msg.specs.Vocabulary.{Entry, marked}
use Rattle.tests_histories.specs.Words.{tx, stamp, line, own_line, operation, read_lock, prepare, commit, declaration}
use Rattle.tests_histories.specs.Words.{kind, pair, plan}
use Rattle.qc_msg.specs.declared.step.Step.TheVariants.{Phase, Cut, Heal, Called, Got, Lost, Wrote, Sent, Told, Armed}
use Rattle.qc_msg.specs.declared.step.Step.TheVariants.{Fell, Rose}
use Rattle.tests_epochs.specs.Words.{prepared}
use Rattle.qc_msg.specs.declared.message.Answer.TheVariants as answers
use Rattle.qc_msg.specs.declared.reply.AbortCause.TheVariants as causes
use Rattle.qc_msg.specs.declared.step.Command.TheVariants as commands
use Rattle.qc_msg.specs.declared.reply.Half.TheVariants as halves
use Rattle.qc_msg.specs.declared.message.Message.TheVariants as messages
use Rattle.qc_msg.specs.declared.message.Outcome.TheVariants as outcomes
use Rattle.qc_msg.specs.declared.record.Record.TheVariants as records
use Rattle.qc_msg.specs.declared.reply.Reply.TheVariants as replies
use Rattle.qc_msg.specs.declared.message.Want.TheVariants as wants
use Rattle.qc_msg.specs.declared.step.Fall.TheVariants as falls
use Rattle.qc_msg.specs.Vocabulary.{whole_grant, first_read, snapshot_with, start_with}
use Rattle.qc_outside.specs.declared.disk.ArmKind.TheVariants as arms

abbrev pub decl : Declaration
decl =
    declaration 3 2 (kind 4 3 3 0 (row 0 0 0 1 ∷ row 0 1 0 2 ∷ row 1 1 0 3 ∷ row 2 0 0 3 ∷ row 1 2 1 0 ∷ row 2 2 2 0 ∷
    row 3 2 1 2 ∷ row 3 2 2 1 ∷ []) (pair 0 0 ∷ pair 0 1 ∷ pair 0 2 ∷ pair 0 3 ∷ pair 1 1 ∷ pair 1 2 ∷ pair 1 3 ∷ pair 2
    0 ∷ pair 2 1 ∷ pair 2 2 ∷ pair 2 3 ∷ []) ∷ []) (0 ∷ []) (plan (1 ∷ 0 ∷ 1 ∷ []) ((2 ∷ 2 ∷ 2 ∷ []) ∷ []) ((1 ∷ 1 ∷ 1 ∷
    1 ∷ []) ∷ []) ∷ plan (0 ∷ 0 ∷ 2 ∷ []) ((2 ∷ 2 ∷ 2 ∷ []) ∷ []) ((1 ∷ 1 ∷ 1 ∷ 1 ∷ []) ∷ []) ∷ [])

abbrev pub history : List Entry
history =
    marked 6 (Phase 1) ∷ marked 4 (Called commands.Begin) ∷ marked 4 (Told (replies.Began (tx 1 1))) ∷
    marked 4 (Called (commands.Do 0 0)) ∷
    marked 4 (Sent 0 2 (messages.Request (tx 1 1) 1 0 (wants.Read (first_read 0 0))))
    ∷
    marked 4 (Sent 1 0 (messages.Request (tx 1 1) 1 0 (wants.Read (first_read 0 0)))) ∷ marked 0 (Got 1) ∷
    marked 0 (Sent 2 4 (messages.Answer 1 (answers.Granted (whole_grant 1 0 [])))) ∷ marked 4 (Got 2) ∷ marked 2 (Got 0)
    ∷
    marked 2 (Sent 3 4 (messages.Answer 0 (answers.Granted (whole_grant 1 0 [])))) ∷ marked 4 (Got 3) ∷
    marked 4 (Sent 4 2 (messages.Request (tx 1 1) 1 1 (wants.Append 0 [] (own_line 1 0 0 ∷ [])))) ∷ marked 2 (Got 4) ∷
    marked 2 (Sent 5 4 (messages.Answer 4 (answers.Granted (whole_grant 1 0 [])))) ∷ marked 4 (Got 5) ∷
    marked 4 (Told (replies.Response 0)) ∷ marked 4 (Called commands.Commit) ∷
    marked 4 (Sent 6 2 (messages.Request (tx 1 1) 1 1 wants.Prepare)) ∷
    marked 4 (Sent 7 0 (messages.Request (tx 1 1) 1 1 wants.Prepare)) ∷ marked 0 (Got 7) ∷
    marked 0 (Wrote (prepare (tx 1 1) 1 (read_lock 0 0 ∷ []) [] [])) ∷
    marked 0 (Sent 8 4 (messages.Answer 7 (answers.Yes 0))) ∷ marked 4 (Got 8) ∷ marked 5 (Called (commands.Epoch 2)) ∷
    marked 2 (Got 6) ∷ marked 2 (Wrote (prepare (tx 1 1) 1 (read_lock 0 0 ∷ []) (own_line 1 0 0 ∷ []) [])) ∷
    marked 2 (Sent 9 4 (messages.Answer 6 (answers.Yes 0))) ∷ marked 4 (Got 9) ∷
    marked 5 (Sent 10 0 (messages.Close 2)) ∷ marked 5 (Sent 11 2 (messages.Close 2)) ∷
    marked 4 (Wrote (commit (stamp 1 1) (tx 1 1) (operation 0 0 (Some 0) ∷ []))) ∷
    marked 4 (Sent 12 0 (messages.Decision (tx 1 1) (outcomes.Committed (stamp 1 1)))) ∷
    marked 4 (Sent 13 2 (messages.Decision (tx 1 1) (outcomes.Committed (stamp 1 1)))) ∷
    marked 4 (Told (replies.Committed (stamp 1 1))) ∷ marked 0 (Got 10) ∷ marked 0 (Wrote (records.Close 2)) ∷
    marked 0 (Sent 14 5 (messages.Answer 10 (answers.Shut (snapshot_with 0 [] (prepared (tx 1 1) 1 (read_lock 0 0 ∷ []) [] [] ∷ [])))))
    ∷
    marked 0 (Got 12) ∷ marked 2 (Got 11) ∷ marked 2 (Wrote (records.Close 2)) ∷
    marked 2 (Sent 15 5 (messages.Answer 11 (answers.Shut (snapshot_with 0 [] (prepared (tx 1 1) 1 (read_lock 0 0 ∷ []) (own_line 1 0 0 ∷ []) [] ∷ []))))) ∷
    marked 0 (Wrote (records.Done (tx 1 1) 1)) ∷ marked 4 (Called commands.Begin) ∷
    marked 4 (Told (replies.Began (tx 1 2))) ∷ marked 2 (Got 13) ∷ marked 2 (Wrote (records.Done (tx 1 1) 1)) ∷
    marked 4 (Called (commands.Do 0 2))
    ∷ marked 4 (Sent 16 2 (messages.Request (tx 1 2) 1 0 (wants.Read (first_read 0 2)))) ∷
    marked 4 (Sent 17 0 (messages.Request (tx 1 2) 1 0 (wants.Read (first_read 0 2)))) ∷ marked 0 (Got 17) ∷
    marked 0 (Sent 18 4 (messages.Answer 17 (answers.Closed 2))) ∷ marked 4 (Got 18) ∷ marked 2 (Got 16) ∷
    marked 2 (Sent 19 4 (messages.Answer 16 (answers.Closed 2))) ∷ marked 4 (Got 19) ∷
    marked 4 (Told (replies.Closed 2 2)) ∷ marked 4 (Called commands.Commit) ∷
    marked 4 (Wrote (commit (stamp 2 1) (tx 1 2) [])) ∷
    marked 4 (Sent 20 0 (messages.Decision (tx 1 2) (outcomes.Committed (stamp 2 1)))) ∷
    marked 4 (Sent 21 2 (messages.Decision (tx 1 2) (outcomes.Committed (stamp 2 1)))) ∷
    marked 4 (Told (replies.Committed (stamp 2 1))) ∷ marked 0 (Got 20) ∷ marked 2 (Got 21) ∷ marked 5 (Got 14) ∷
    marked 5 (Got 15) ∷ marked 5 (Sent 22 4 (messages.Ask (tx 1 1))) ∷ marked 4 (Got 22) ∷
    marked 4 (Sent 23 5 (messages.Answer 22 (answers.Answered (outcomes.Committed (stamp 1 1))))) ∷ marked 5 (Got 23) ∷
    marked 5 (Wrote (records.Decide (start_with 2 1 (line 1 1 1 1 0 0 ∷ [])))) ∷
    marked 5 (Sent 24 0 (messages.Install (start_with 2 1 (line 1 1 1 1 0 0 ∷ [])))) ∷
    marked 5 (Sent 25 1 (messages.Install (start_with 2 1 (line 1 1 1 1 0 0 ∷ [])))) ∷
    marked 5 (Sent 26 2 (messages.Install (start_with 2 1 (line 1 1 1 1 0 0 ∷ [])))) ∷ marked 1 (Got 25)
    ∷ marked 0 (Got 24) ∷
    marked 0 (Fell falls.Stop (Some (records.Install (start_with 2 1 (line 1 1 1 1 0 0 ∷ []))))) ∷
    marked 1 (Wrote (records.Install (start_with 2 1 (line 1 1 1 1 0 0 ∷ [])))) ∷
    marked 1 (Sent 27 5 (messages.Answer 25 answers.Installed)) ∷ marked 2 (Got 26) ∷
    marked 2 (Wrote (records.Install (start_with 2 1 (line 1 1 1 1 0 0 ∷ [])))) ∷
    marked 2 (Sent 28 5 (messages.Answer 26 answers.Installed)) ∷ marked 5 (Got 27) ∷ marked 5 (Got 28) ∷
    marked 5 (Lost 24) ∷ marked 5 (Told (replies.Moved 5 6)) ∷ marked 5 (Called (commands.Epoch 2)) ∷
    marked 5 (Sent 29 0 (messages.Install (start_with 2 1 (line 1 1 1 1 0 0 ∷ [])))) ∷
    marked 5 (Sent 30 1 (messages.Install (start_with 2 1 (line 1 1 1 1 0 0 ∷ [])))) ∷
    marked 5 (Sent 31 2 (messages.Install (start_with 2 1 (line 1 1 1 1 0 0 ∷ [])))) ∷ marked 5 (Lost 29)
    ∷ marked 1 (Got 30) ∷
    marked 2 (Got 31) ∷ marked 2 (Sent 32 5 (messages.Answer 31 answers.Installed)) ∷
    marked 1 (Sent 33 5 (messages.Answer 30 answers.Installed)) ∷ marked 5 (Got 32) ∷ marked 5 (Got 33) ∷
    marked 5 (Told (replies.Moved 0 6)) ∷ marked 6 (Phase 2) ∷ marked 6 (Cut 5 2) ∷
    marked 0 (Rose ((prepare (tx 1 1) 1 (read_lock 0 0 ∷ []) [] []) ∷ (records.Close 2) ∷ (records.Done (tx 1 1) 1) ∷
    (records.Install (start_with 2 1 (line 1 1 1 1 0 0 ∷ []))) ∷ [])) ∷
    marked 0 (Fell falls.Stop (Some records.Life)) ∷ marked 3 (Called commands.Begin) ∷
    marked 4 (Called commands.Begin) ∷ marked 2 (Got 13) ∷ marked 3 (Told (replies.Began (tx 0 1))) ∷
    marked 3 (Called (commands.Do 0 0))
    ∷ marked 3 (Sent 34 0 (messages.Request (tx 0 1) 1 0 (wants.Read (first_read 0 0)))) ∷
    marked 3 (Sent 35 2 (messages.Request (tx 0 1) 1 0 (wants.Read (first_read 0 0)))) ∷ marked 3 (Lost 34)
    ∷ marked 2 (Got 35) ∷
    marked 2 (Sent 36 3 (messages.Answer 35 (answers.Closed 2))) ∷ marked 3 (Got 36) ∷
    marked 3 (Told (replies.Closed 2 2)) ∷ marked 3 (Called (commands.Do 0 2)) ∷
    marked 3 (Sent 37 0 (messages.Request (tx 0 1) 1 0 (wants.Read (first_read 0 2)))) ∷
    marked 3 (Sent 38 2 (messages.Request (tx 0 1) 1 0 (wants.Read (first_read 0 2)))) ∷ marked 2 (Got 38)
    ∷ marked 3 (Lost 37) ∷
    marked 2 (Sent 39 3 (messages.Answer 38 (answers.Closed 2))) ∷ marked 3 (Got 39) ∷
    marked 3 (Told (replies.Closed 2 2)) ∷ marked 4 (Told (replies.Began (tx 1 3))) ∷
    marked 4 (Called (commands.Do 0 2))
    ∷ marked 4 (Sent 40 2 (messages.Request (tx 1 3) 2 0 (wants.Read (first_read 0 2)))) ∷
    marked 2 (Got 40)
    ∷ marked 2 (Sent 41 4 (messages.Answer 40 (answers.Granted (whole_grant 2 2 (line 1 1 1 1 0 0 ∷ []))))) ∷
    marked 4 (Got 41) ∷ marked 5 (Called (commands.Epoch 2)) ∷
    marked 5 (Sent 42 0 (messages.Install (start_with 2 1 (line 1 1 1 1 0 0 ∷ [])))) ∷
    marked 5 (Sent 43 1 (messages.Install (start_with 2 1 (line 1 1 1 1 0 0 ∷ [])))) ∷
    marked 5 (Sent 44 2 (messages.Install (start_with 2 1 (line 1 1 1 1 0 0 ∷ [])))) ∷ marked 1 (Got 43) ∷
    marked 1 (Sent 45 5 (messages.Answer 43 answers.Installed)) ∷ marked 5 (Got 45) ∷ marked 5 (Lost 42) ∷
    marked 4 (Sent 46 2 (messages.Request (tx 1 3) 2 2 (wants.Append 0 (line 1 1 1 1 0 0 ∷ []) (own_line 1 0 2 ∷ []))))
    ∷
    marked 2 (Got 46) ∷ marked 2 (Sent 47 4 (messages.Answer 46 (answers.Granted (whole_grant 2 2 []))))
    ∷ marked 4 (Got 47) ∷
    marked 4 (Told (replies.Response 1)) ∷ marked 4 (Called (commands.Do 0 2)) ∷
    marked 4 (Sent 48 2 (messages.Request (tx 1 3) 2 2 (wants.Read (first_read 0 2)))) ∷ marked 2 (Got 48) ∷
    marked 2 (Sent 49 4 (messages.Answer 48 (answers.Granted (whole_grant 2 2 (line 1 1 1 1 0 0 ∷ [])))))
    ∷ marked 4 (Got 49) ∷
    marked 5 (Lost 44) ∷ marked 5 (Told (replies.Moved 0 2)) ∷ marked 4 (Told replies.Absent) ∷
    marked 4 (Called commands.Commit) ∷ marked 4 (Sent 50 2 (messages.Request (tx 1 3) 2 2 wants.Prepare)) ∷
    marked 2 (Got 50) ∷ marked 2 (Wrote (prepare (tx 1 3) 2 (read_lock 0 2 ∷ []) (own_line 1 0 2 ∷ []) [])) ∷
    marked 2 (Sent 51 4 (messages.Answer 50 (answers.Yes 2))) ∷ marked 4 (Got 51) ∷
    marked 4 (Wrote (commit (stamp 3 1) (tx 1 3) (operation 0 2 (Some 1) ∷ operation 0 2 None ∷ []))) ∷
    marked 4 (Sent 52 2 (messages.Decision (tx 1 3) (outcomes.Committed (stamp 3 1)))) ∷
    marked 4 (Told (replies.Committed (stamp 3 1))) ∷ marked 2 (Got 52) ∷ marked 2 (Wrote (records.Done (tx 1 3) 3)) ∷
    marked 6 (Phase 3) ∷ marked 6 (Heal 5 2) ∷ marked 6 (Cut 5 2) ∷ marked 6 (Cut 5 3) ∷
    marked 6 (Armed 1 arms.Fail 3) ∷ marked 4 (Called commands.Begin) ∷ marked 4 (Told (replies.Began (tx 1 4))) ∷
    marked 5 (Called (commands.Epoch 2)) ∷ marked 3 (Called (commands.Do 0 0)) ∷
    marked 3 (Sent 53 0 (messages.Request (tx 0 1) 1 0 (wants.Read (first_read 0 0)))) ∷
    marked 3 (Sent 54 2 (messages.Request (tx 0 1) 1 0 (wants.Read (first_read 0 0)))) ∷
    marked 5 (Sent 55 0 (messages.Install (start_with 2 1 (line 1 1 1 1 0 0 ∷ [])))) ∷
    marked 5 (Sent 56 1 (messages.Install (start_with 2 1 (line 1 1 1 1 0 0 ∷ [])))) ∷
    marked 5 (Sent 57 2 (messages.Install (start_with 2 1 (line 1 1 1 1 0 0 ∷ [])))) ∷ marked 5 (Lost 55)
    ∷ marked 3 (Lost 53) ∷
    marked 5 (Lost 57) ∷ marked 1 (Got 56) ∷ marked 4 (Called commands.Commit) ∷
    marked 4 (Wrote (commit (stamp 4 1) (tx 1 4) [])) ∷ marked 4 (Told (replies.Committed (stamp 4 1))) ∷
    marked 2 (Got 54) ∷ marked 2 (Sent 58 3 (messages.Answer 54 (answers.Closed 2))) ∷ marked 3 (Got 58) ∷
    marked 3 (Told (replies.Closed 2 2)) ∷ marked 1 (Sent 59 5 (messages.Answer 56 answers.Installed)) ∷
    marked 3 (Called commands.Commit) ∷ marked 3 (Wrote (commit (stamp 1 0) (tx 0 1) [])) ∷
    marked 3 (Sent 60 0 (messages.Decision (tx 0 1) (outcomes.Committed (stamp 1 0)))) ∷
    marked 3 (Sent 61 2 (messages.Decision (tx 0 1) (outcomes.Committed (stamp 1 0)))) ∷
    marked 3 (Told (replies.Committed (stamp 1 0))) ∷ marked 5 (Got 59) ∷ marked 5 (Told (replies.Moved 0 2)) ∷
    marked 5 (Called (commands.Epoch 2))
    ∷ marked 5 (Sent 62 0 (messages.Install (start_with 2 1 (line 1 1 1 1 0 0 ∷ [])))) ∷
    marked 5 (Sent 63 1 (messages.Install (start_with 2 1 (line 1 1 1 1 0 0 ∷ [])))) ∷
    marked 5 (Sent 64 2 (messages.Install (start_with 2 1 (line 1 1 1 1 0 0 ∷ [])))) ∷ marked 5 (Lost 62)
    ∷ marked 1 (Got 63) ∷
    marked 5 (Lost 64) ∷ marked 2 (Got 61) ∷ marked 1 (Sent 65 5 (messages.Answer 63 answers.Installed)) ∷
    marked 5 (Got 65) ∷ marked 5 (Told (replies.Moved 0 2)) ∷ marked 6 (Phase 4) ∷ marked 6 (Heal 5 2) ∷
    marked 6 (Heal 5 3) ∷
    marked 0 (Rose ((prepare (tx 1 1) 1 (read_lock 0 0 ∷ []) [] []) ∷ (records.Close 2) ∷ (records.Done (tx 1 1) 1) ∷
    (records.Install (start_with 2 1 (line 1 1 1 1 0 0 ∷ []))) ∷ records.Life ∷ [])) ∷
    marked 0 (Wrote records.Life) ∷ marked 4 (Called commands.Abort) ∷ marked 3 (Called commands.Abort) ∷
    marked 3 (Told replies.NoTransaction) ∷ marked 4 (Told replies.NoTransaction) ∷ marked 4 (Called commands.Begin) ∷
    marked 4 (Told (replies.Began (tx 1 5))) ∷ marked 4 (Called (commands.Do 0 1)) ∷
    marked 4 (Sent 66 2 (messages.Request (tx 1 5) 2 0 (wants.Read (first_read 0 1)))) ∷
    marked 3 (Called commands.Begin) ∷
    marked 3 (Told (replies.Began (tx 0 2))) ∷ marked 3 (Called (commands.Do 0 2)) ∷
    marked 3 (Sent 67 2 (messages.Request (tx 0 2) 2 0 (wants.Read (first_read 0 2)))) ∷ marked 2 (Got 66) ∷
    marked 2
    (Sent 68 4 (messages.Answer 66 (answers.Granted (whole_grant 2 3 (line 1 1 1 1 0 0 ∷ line 3 1 3 1 0 2 ∷ []))))) ∷
    marked 4 (Got 68) ∷
    marked 4 (Sent 69 2 (messages.Request (tx 1 5) 2 2 (wants.Append 0 (line 1 1 1 1 0 0 ∷ line 3 1 3 1 0 2 ∷ [])
    (own_line 1 0 1 ∷ [])))) ∷
    marked 2 (Got 67) ∷
    marked 2
    (Sent 70 3 (messages.Answer 67 (answers.Granted (whole_grant 2 3 (line 1 1 1 1 0 0 ∷ line 3 1 3 1 0 2 ∷ []))))) ∷
    marked 3 (Got 70) ∷ marked 3 (Told replies.Absent) ∷ marked 3 (Called commands.Commit) ∷
    marked 3 (Sent 71 2 (messages.Request (tx 0 2) 2 2 wants.Prepare)) ∷ marked 2 (Got 69) ∷
    marked 2 (Sent 72 4 (messages.Answer 69 (answers.Clash (tx 0 2) 2 1))) ∷
    marked 2 (Sent 73 3 (messages.Inquiry (tx 0 2))) ∷ marked 4 (Got 72) ∷
    marked 4 (Told (replies.Conflict (tx 0 2) 2)) ∷ marked 4 (Called commands.Commit) ∷ marked 3 (Got 73) ∷
    marked 4 (Sent 74 2 (messages.Decision (tx 1 5) outcomes.Aborted)) ∷
    marked 4 (Told (replies.Aborted causes.Doomed)) ∷ marked 4 (Called commands.Begin) ∷
    marked 3 (Sent 75 2 (messages.Decision (tx 0 2) outcomes.Active)) ∷ marked 4 (Told (replies.Began (tx 1 6))) ∷
    marked 4 (Called (commands.Do 0 1))
    ∷ marked 4 (Sent 76 2 (messages.Request (tx 1 6) 2 0 (wants.Read (first_read 0 1)))) ∷
    marked 2 (Got 71) ∷ marked 2 (Wrote (prepare (tx 0 2) 2 (read_lock 0 2 ∷ []) [] [])) ∷
    marked 2 (Sent 77 3 (messages.Answer 71 (answers.Yes 3))) ∷ marked 3 (Got 77) ∷
    marked 3 (Wrote (commit (stamp 4 0) (tx 0 2) (operation 0 2 None ∷ []))) ∷
    marked 3 (Sent 78 2 (messages.Decision (tx 0 2) (outcomes.Committed (stamp 4 0)))) ∷
    marked 3 (Told (replies.Committed (stamp 4 0))) ∷ marked 2 (Got 74) ∷ marked 3 (Called commands.Begin) ∷
    marked 3 (Told (replies.Began (tx 0 3))) ∷ marked 3 (Called (commands.Do 0 2)) ∷
    marked 3 (Sent 79 2 (messages.Request (tx 0 3) 2 0 (wants.Read (first_read 0 2)))) ∷ marked 2 (Got 75)
    ∷ marked 2 (Got 76) ∷
    marked 2
    (Sent 80 4 (messages.Answer 76 (answers.Granted (whole_grant 2 3 (line 1 1 1 1 0 0 ∷ line 3 1 3 1 0 2 ∷ []))))) ∷
    marked 4 (Got 80) ∷
    marked 4 (Sent 81 2 (messages.Request (tx 1 6) 2 2 (wants.Append 0 (line 1 1 1 1 0 0 ∷ line 3 1 3 1 0 2 ∷ [])
    (own_line 1 0 1 ∷ [])))) ∷
    marked 2 (Got 78) ∷ marked 2 (Fell falls.Stop (Some (records.Done (tx 0 2) 4))) ∷ marked 4 (Lost 81) ∷
    marked 4 (Told (replies.Quorum halves.Append 0 1)) ∷ marked 4 (Called commands.Commit) ∷
    marked 4 (Sent 82 2 (messages.Decision (tx 1 6) outcomes.Aborted)) ∷
    marked 4 (Told (replies.Aborted causes.Doomed)) ∷ marked 4 (Called commands.Begin) ∷ marked 3 (Lost 79) ∷
    marked 3 (Told (replies.Quorum halves.Read 0 2)) ∷ marked 3 (Called commands.Commit) ∷
    marked 4 (Told (replies.Began (tx 1 7))) ∷ marked 4 (Called (commands.Do 0 1)) ∷
    marked 3 (Wrote (commit (stamp 5 0) (tx 0 3) [])) ∷
    marked 3 (Sent 83 2 (messages.Decision (tx 0 3) (outcomes.Committed (stamp 5 0)))) ∷
    marked 3 (Told (replies.Committed (stamp 5 0))) ∷
    marked 4 (Sent 84 2 (messages.Request (tx 1 7) 2 0 (wants.Read (first_read 0 1)))) ∷ marked 4 (Lost 84) ∷
    marked 4 (Told (replies.Quorum halves.Read 0 2)) ∷ marked 4 (Called commands.Commit) ∷
    marked 4 (Wrote (commit (stamp 5 1) (tx 1 7) [])) ∷
    marked 4 (Sent 85 2 (messages.Decision (tx 1 7) (outcomes.Committed (stamp 5 1)))) ∷
    marked 4 (Told (replies.Committed (stamp 5 1))) ∷ marked 3 (Called commands.Begin) ∷
    marked 3 (Told (replies.Began (tx 0 4))) ∷ marked 3 (Called (commands.Do 0 2)) ∷
    marked 3 (Sent 86 2 (messages.Request (tx 0 4) 2 0 (wants.Read (first_read 0 2)))) ∷ marked 3 (Lost 86) ∷
    marked 3 (Told (replies.Quorum halves.Read 0 2)) ∷ marked 3 (Called commands.Commit) ∷
    marked 3 (Wrote (commit (stamp 6 0) (tx 0 4) [])) ∷
    marked 3 (Sent 87 2 (messages.Decision (tx 0 4) (outcomes.Committed (stamp 6 0)))) ∷
    marked 3 (Told (replies.Committed (stamp 6 0))) ∷ []
