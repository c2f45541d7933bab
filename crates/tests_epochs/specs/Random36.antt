-- Random: sites 3, clients 3, steps 321, messages 103, lost 5, cuts 2, commits 8, aborts 1, conflicts 1, short rounds
-- 5, absent 2, falls 2, rises 2, closes 2, decisions 1, installs 3.
use Rattle.std.specs.Prelude.{List, [], ◌∷◌, Some, None}
use Rattle.qc_decl.specs.declared.declaration.Declaration.{Declaration}
use Rattle.qc_decl.specs.Vocabulary.{row}
use Rattle.qc_msg.specs.Vocabulary.{Entry, marked}
use Rattle.tests_histories.specs.Words.{tx, stamp, line, own_line, operation, read_lock, prepare, commit, declaration}
use Rattle.tests_histories.specs.Words.{kind, pair, plan}
use Rattle.qc_msg.specs.declared.step.Step.TheVariants.{Phase, Cut, Heal, Called, Got, Lost, Wrote, Sent, Told, Armed}
use Rattle.qc_msg.specs.declared.step.Step.TheVariants.{Fell, Rose}
use Rattle.tests_epochs.specs.Words.{prepared}
use Rattle.qc_msg.specs.declared.message.Answer.TheVariants as answers
use Rattle.qc_msg.specs.declared.reply.AbortCause.TheVariants as causes
use Rattle.qc_msg.specs.declared.step.Command.TheVariants as commands
use Rattle.qc_msg.specs.declared.reply.Half.TheVariants as halves
use Rattle.qc_msg.specs.declared.message.Message.TheVariants as messages
use Rattle.qc_msg.specs.declared.message.Outcome.TheVariants as outcomes
use Rattle.qc_msg.specs.declared.record.Record.TheVariants as records
use Rattle.qc_msg.specs.declared.reply.Reply.TheVariants as replies
use Rattle.qc_msg.specs.declared.message.Want.TheVariants as wants
use Rattle.qc_msg.specs.declared.step.Fall.TheVariants as falls
use Rattle.qc_msg.specs.Vocabulary.{whole_grant, first_read, snapshot_with, start_with}
use Rattle.qc_outside.specs.declared.disk.ArmKind.TheVariants as arms

abbrev pub decl : Declaration
decl =
    declaration 3 3 (kind 4 3 3 0 (row 0 0 0 1 ∷ row 0 1 0 2 ∷ row 1 1 0 3 ∷ row 2 0 0 3 ∷ row 1 2 1 0 ∷ row 2 2 2 0 ∷
    row 3 2 1 2 ∷ row 3 2 2 1 ∷ []) (pair 0 0 ∷ pair 0 1 ∷ pair 0 2 ∷ pair 0 3 ∷ pair 1 1 ∷ pair 1 2 ∷ pair 1 3 ∷ pair 2
    0 ∷ pair 2 1 ∷ pair 2 2 ∷ pair 2 3 ∷ []) ∷ kind 2 2 3 0 (row 0 0 0 1 ∷ row 1 0 1 1 ∷ row 0 1 2 0 ∷ row 1 1 2 0 ∷ [])
    (pair 0 0 ∷ pair 0 2 ∷ []) ∷ []) (0 ∷ []) (plan (0 ∷ 1 ∷ 1 ∷ []) ((2 ∷ 2 ∷ 2 ∷ []) ∷ []) ((1 ∷ 1 ∷ 1 ∷ 1 ∷ []) ∷ [])
    ∷ plan (3 ∷ 1 ∷ 1 ∷ []) ((5 ∷ 3 ∷ 4 ∷ []) ∷ []) ((2 ∷ 3 ∷ 3 ∷ 3 ∷ []) ∷ []) ∷ [])

abbrev pub history : List Entry
history =
    marked 7 (Phase 1) ∷ marked 5 (Called commands.Begin) ∷ marked 5 (Told (replies.Began (tx 2 1))) ∷
    marked 5 (Called (commands.Do 0 0)) ∷
    marked 5 (Sent 0 2 (messages.Request (tx 2 1) 1 0 (wants.Read (first_read 0 0))))
    ∷
    marked 5 (Sent 1 1 (messages.Request (tx 2 1) 1 0 (wants.Read (first_read 0 0)))) ∷ marked 2 (Got 0) ∷
    marked 1 (Got 1)
    ∷
    marked 2 (Sent 2 5 (messages.Answer 0 (answers.Granted (whole_grant 1 0 [])))) ∷ marked 5 (Got 2) ∷
    marked 1 (Sent 3 5 (messages.Answer 1 (answers.Granted (whole_grant 1 0 [])))) ∷ marked 5 (Got 3) ∷
    marked 5 (Sent 4 2 (messages.Request (tx 2 1) 1 1 (wants.Append 0 [] (own_line 1 0 0 ∷ [])))) ∷ marked 2 (Got 4) ∷
    marked 2 (Sent 5 5 (messages.Answer 4 (answers.Granted (whole_grant 1 0 [])))) ∷ marked 5 (Got 5) ∷
    marked 5 (Told (replies.Response 0)) ∷ marked 5 (Called commands.Commit) ∷
    marked 5 (Sent 6 2 (messages.Request (tx 2 1) 1 1 wants.Prepare)) ∷
    marked 5 (Sent 7 1 (messages.Request (tx 2 1) 1 1 wants.Prepare)) ∷ marked 2 (Got 6) ∷
    marked 2 (Wrote (prepare (tx 2 1) 1 (read_lock 0 0 ∷ []) (own_line 1 0 0 ∷ []) [])) ∷
    marked 2 (Sent 8 5 (messages.Answer 6 (answers.Yes 0))) ∷ marked 5 (Got 8) ∷ marked 1 (Got 7) ∷
    marked 1 (Wrote (prepare (tx 2 1) 1 (read_lock 0 0 ∷ []) [] [])) ∷
    marked 1 (Sent 9 5 (messages.Answer 7 (answers.Yes 0))) ∷ marked 5 (Got 9) ∷
    marked 5 (Wrote (commit (stamp 1 2) (tx 2 1) (operation 0 0 (Some 0) ∷ []))) ∷
    marked 5 (Sent 10 1 (messages.Decision (tx 2 1) (outcomes.Committed (stamp 1 2)))) ∷
    marked 5 (Sent 11 2 (messages.Decision (tx 2 1) (outcomes.Committed (stamp 1 2)))) ∷
    marked 5 (Told (replies.Committed (stamp 1 2))) ∷ marked 1 (Got 10) ∷ marked 2 (Got 11) ∷
    marked 2 (Wrote (records.Done (tx 2 1) 1)) ∷ marked 1 (Wrote (records.Done (tx 2 1) 1)) ∷ marked 7 (Phase 2) ∷
    marked 7 (Cut 4 1) ∷ marked 5 (Called commands.Begin) ∷ marked 5 (Told (replies.Began (tx 2 2))) ∷
    marked 5 (Called (commands.Do 0 1))
    ∷ marked 5 (Sent 12 2 (messages.Request (tx 2 2) 1 0 (wants.Read (first_read 0 1)))) ∷
    marked 5 (Sent 13 1 (messages.Request (tx 2 2) 1 0 (wants.Read (first_read 0 1)))) ∷
    marked 4 (Called commands.Begin) ∷
    marked 2 (Got 12)
    ∷ marked 2 (Sent 14 5 (messages.Answer 12 (answers.Granted (whole_grant 1 1 (line 1 2 1 1 0 0 ∷ []))))) ∷
    marked 5 (Got 14) ∷ marked 1 (Got 13) ∷ marked 4 (Told (replies.Began (tx 1 1))) ∷
    marked 4 (Called (commands.Do 0 1))
    ∷ marked 4 (Sent 15 1 (messages.Request (tx 1 1) 1 0 (wants.Read (first_read 0 1)))) ∷
    marked 4 (Sent 16 2 (messages.Request (tx 1 1) 1 0 (wants.Read (first_read 0 1)))) ∷ marked 4 (Lost 15)
    ∷ marked 2 (Got 16) ∷
    marked 2 (Sent 17 4 (messages.Answer 16 (answers.Granted (whole_grant 1 1 (line 1 2 1 1 0 0 ∷ [])))))
    ∷ marked 4 (Got 17) ∷
    marked 4 (Told (replies.Quorum halves.Read 1 2)) ∷ marked 4 (Called (commands.Do 0 2)) ∷
    marked 4 (Sent 18 1 (messages.Request (tx 1 1) 1 0 (wants.Read (first_read 0 2)))) ∷
    marked 4 (Sent 19 2 (messages.Request (tx 1 1) 1 1 (wants.Read (first_read 0 2)))) ∷ marked 2 (Got 19) ∷
    marked 2 (Sent 20 4 (messages.Answer 19 (answers.Granted (whole_grant 1 1 (line 1 2 1 1 0 0 ∷ [])))))
    ∷ marked 4 (Got 20) ∷
    marked 1 (Sent 21 5 (messages.Answer 13 (answers.Granted (whole_grant 1 1 [])))) ∷ marked 5 (Got 21) ∷
    marked 5 (Sent 22 2 (messages.Request (tx 2 2) 1 1 (wants.Append 0 (line 1 2 1 1 0 0 ∷ []) (own_line 1 0 1 ∷ []))))
    ∷
    marked 2 (Got 22) ∷ marked 2 (Sent 23 5 (messages.Answer 22 (answers.Clash (tx 1 1) 1 1))) ∷
    marked 2 (Sent 24 4 (messages.Inquiry (tx 1 1))) ∷ marked 5 (Got 23) ∷
    marked 5 (Told (replies.Conflict (tx 1 1) 2)) ∷ marked 5 (Called commands.Commit) ∷
    marked 5 (Sent 25 1 (messages.Decision (tx 2 2) outcomes.Aborted)) ∷
    marked 5 (Sent 26 2 (messages.Decision (tx 2 2) outcomes.Aborted)) ∷
    marked 5 (Told (replies.Aborted causes.Doomed)) ∷ marked 2 (Got 26) ∷ marked 4 (Got 24) ∷
    marked 4 (Sent 27 2 (messages.Decision (tx 1 1) outcomes.Active)) ∷ marked 2 (Got 27) ∷ marked 4 (Lost 18) ∷
    marked 4 (Told (replies.Quorum halves.Read 1 2)) ∷ marked 4 (Called (commands.Do 0 2)) ∷
    marked 4 (Sent 28 1 (messages.Request (tx 1 1) 1 0 (wants.Read (first_read 0 2)))) ∷
    marked 4 (Sent 29 2 (messages.Request (tx 1 1) 1 1 (wants.Read (first_read 0 2)))) ∷ marked 2 (Got 29) ∷
    marked 2 (Sent 30 4 (messages.Answer 29 (answers.Granted (whole_grant 1 1 (line 1 2 1 1 0 0 ∷ [])))))
    ∷ marked 4 (Got 30) ∷
    marked 1 (Got 25) ∷ marked 4 (Lost 28) ∷ marked 4 (Told (replies.Quorum halves.Read 1 2)) ∷
    marked 4 (Called commands.Commit) ∷ marked 4 (Sent 31 2 (messages.Request (tx 1 1) 1 1 wants.Prepare)) ∷
    marked 2 (Got 31) ∷ marked 2 (Wrote (prepare (tx 1 1) 1 (read_lock 0 1 ∷ read_lock 0 2 ∷ []) [] [])) ∷
    marked 2 (Sent 32 4 (messages.Answer 31 (answers.Yes 1))) ∷ marked 4 (Got 32) ∷
    marked 4 (Wrote (commit (stamp 2 1) (tx 1 1) [])) ∷
    marked 4 (Sent 33 1 (messages.Decision (tx 1 1) (outcomes.Committed (stamp 2 1)))) ∷
    marked 4 (Sent 34 2 (messages.Decision (tx 1 1) (outcomes.Committed (stamp 2 1)))) ∷
    marked 4 (Told (replies.Committed (stamp 2 1))) ∷ marked 2 (Got 34) ∷ marked 2 (Wrote (records.Done (tx 1 1) 2)) ∷
    marked 7 (Phase 3) ∷ marked 7 (Armed 3 arms.Stop 2) ∷ marked 4 (Called commands.Begin) ∷
    marked 4 (Told (replies.Began (tx 1 2))) ∷ marked 4 (Called commands.Commit) ∷
    marked 4 (Wrote (commit (stamp 3 1) (tx 1 2) [])) ∷ marked 4 (Told (replies.Committed (stamp 3 1))) ∷
    marked 4 (Called commands.Begin) ∷ marked 4 (Told (replies.Began (tx 1 3))) ∷ marked 4 (Called (commands.Do 0 0)) ∷
    marked 4 (Sent 35 1 (messages.Request (tx 1 3) 1 0 (wants.Read (first_read 0 0)))) ∷
    marked 4 (Sent 36 2 (messages.Request (tx 1 3) 1 0 (wants.Read (first_read 0 0)))) ∷ marked 2 (Got 36) ∷
    marked 2 (Sent 37 4 (messages.Answer 36 (answers.Granted (whole_grant 1 2 (line 1 2 1 1 0 0 ∷ [])))))
    ∷ marked 4 (Got 37) ∷
    marked 4 (Lost 35) ∷ marked 4 (Told (replies.Quorum halves.Read 1 2)) ∷ marked 4 (Called (commands.Do 0 1)) ∷
    marked 4 (Sent 38 1 (messages.Request (tx 1 3) 1 0 (wants.Read (first_read 0 1)))) ∷
    marked 4 (Sent 39 2 (messages.Request (tx 1 3) 1 1 (wants.Read (first_read 0 1)))) ∷ marked 2 (Got 39) ∷
    marked 2 (Sent 40 4 (messages.Answer 39 (answers.Granted (whole_grant 1 2 (line 1 2 1 1 0 0 ∷ [])))))
    ∷ marked 4 (Got 40) ∷
    marked 4 (Lost 38) ∷ marked 4 (Told (replies.Quorum halves.Read 1 2)) ∷ marked 4 (Called commands.Commit) ∷
    marked 4 (Sent 41 2 (messages.Request (tx 1 3) 1 1 wants.Prepare)) ∷ marked 2 (Got 41) ∷
    marked 2 (Wrote (prepare (tx 1 3) 1 (read_lock 0 0 ∷ read_lock 0 1 ∷ []) [] [])) ∷
    marked 2 (Sent 42 4 (messages.Answer 41 (answers.Yes 2))) ∷ marked 4 (Got 42) ∷
    marked 4 (Wrote (commit (stamp 4 1) (tx 1 3) [])) ∷
    marked 4 (Sent 43 1 (messages.Decision (tx 1 3) (outcomes.Committed (stamp 4 1)))) ∷
    marked 4 (Sent 44 2 (messages.Decision (tx 1 3) (outcomes.Committed (stamp 4 1)))) ∷
    marked 4 (Told (replies.Committed (stamp 4 1))) ∷ marked 2 (Got 44) ∷ marked 2 (Wrote (records.Done (tx 1 3) 4)) ∷
    marked 7 (Phase 4) ∷ marked 7 (Armed 3 arms.Stop 4) ∷ marked 3 (Called commands.Begin) ∷
    marked 3 (Told (replies.Began (tx 0 1))) ∷ marked 3 (Called (commands.Do 0 0)) ∷
    marked 3 (Sent 45 1 (messages.Request (tx 0 1) 1 0 (wants.Read (first_read 0 0)))) ∷
    marked 3 (Sent 46 2 (messages.Request (tx 0 1) 1 0 (wants.Read (first_read 0 0)))) ∷ marked 2 (Got 46)
    ∷ marked 1 (Got 45) ∷
    marked 1 (Sent 47 3 (messages.Answer 45 (answers.Granted (whole_grant 1 1 []))))
    ∷ marked 6 (Called (commands.Epoch 2)) ∷
    marked 3 (Got 47)
    ∷ marked 2 (Sent 48 3 (messages.Answer 46 (answers.Granted (whole_grant 1 4 (line 1 2 1 1 0 0 ∷ []))))) ∷
    marked 3 (Got 48) ∷ marked 3 (Told replies.Absent) ∷ marked 3 (Called commands.Commit) ∷
    marked 3 (Sent 49 1 (messages.Request (tx 0 1) 1 1 wants.Prepare)) ∷
    marked 3 (Sent 50 2 (messages.Request (tx 0 1) 1 1 wants.Prepare)) ∷ marked 6 (Sent 51 1 (messages.Close 2)) ∷
    marked 6 (Sent 52 2 (messages.Close 2)) ∷ marked 2 (Got 50) ∷ marked 1 (Got 49) ∷
    marked 1 (Wrote (prepare (tx 0 1) 1 (read_lock 0 0 ∷ []) [] [])) ∷
    marked 1 (Sent 53 3 (messages.Answer 49 (answers.Yes 1))) ∷ marked 3 (Got 53) ∷ marked 1 (Got 51) ∷
    marked 1 (Wrote (records.Close 2)) ∷
    marked 1 (Sent 54 6 (messages.Answer 51 (answers.Shut (snapshot_with 1 [] (prepared (tx 0 1) 1 (read_lock 0 0 ∷ []) [] [] ∷ [])))))
    ∷
    marked 2 (Wrote (prepare (tx 0 1) 1 (read_lock 0 0 ∷ []) [] [])) ∷
    marked 2 (Sent 55 3 (messages.Answer 50 (answers.Yes 4))) ∷ marked 3 (Got 55) ∷
    marked 3 (Wrote (commit (stamp 5 0) (tx 0 1) (operation 0 0 None ∷ []))) ∷
    marked 3 (Sent 56 1 (messages.Decision (tx 0 1) (outcomes.Committed (stamp 5 0)))) ∷
    marked 3 (Sent 57 2 (messages.Decision (tx 0 1) (outcomes.Committed (stamp 5 0)))) ∷
    marked 3 (Told (replies.Committed (stamp 5 0))) ∷ marked 1 (Got 56) ∷ marked 2 (Got 52) ∷
    marked 2 (Wrote (records.Close 2)) ∷
    marked 2
    (Sent 58 6
    (messages.Answer 52
    (answers.Shut
    (snapshot_with 4 (line 1 2 1 1 0 0 ∷ []) (prepared (tx 0 1) 1 (read_lock 0 0 ∷ []) [] [] ∷ []))))) ∷
    marked 2 (Got 57) ∷ marked 1 (Wrote (records.Done (tx 0 1) 5)) ∷ marked 6 (Got 54) ∷
    marked 2 (Wrote (records.Done (tx 0 1) 5)) ∷ marked 6 (Got 58) ∷ marked 6 (Sent 59 3 (messages.Ask (tx 0 1))) ∷
    marked 3 (Got 59) ∷ marked 3 (Sent 60 6 (messages.Answer 59 (answers.Answered (outcomes.Committed (stamp 5 0))))) ∷
    marked 6 (Got 60) ∷ marked 6 (Wrote (records.Decide (start_with 2 5 (line 1 2 1 1 0 0 ∷ [])))) ∷
    marked 6 (Sent 61 0 (messages.Install (start_with 2 5 (line 1 2 1 1 0 0 ∷ [])))) ∷
    marked 6 (Sent 62 1 (messages.Install (start_with 2 5 (line 1 2 1 1 0 0 ∷ [])))) ∷
    marked 6 (Sent 63 2 (messages.Install (start_with 2 5 (line 1 2 1 1 0 0 ∷ [])))) ∷ marked 1 (Got 62)
    ∷ marked 2 (Got 63) ∷
    marked 0 (Got 61) ∷ marked 1 (Wrote (records.Install (start_with 2 5 (line 1 2 1 1 0 0 ∷ [])))) ∷
    marked 1 (Sent 64 6 (messages.Answer 62 answers.Installed)) ∷
    marked 2 (Wrote (records.Install (start_with 2 5 (line 1 2 1 1 0 0 ∷ [])))) ∷
    marked 2 (Sent 65 6 (messages.Answer 63 answers.Installed)) ∷ marked 6 (Got 64) ∷
    marked 0 (Wrote (records.Install (start_with 2 5 (line 1 2 1 1 0 0 ∷ [])))) ∷
    marked 0 (Sent 66 6 (messages.Answer 61 answers.Installed)) ∷ marked 6 (Got 65) ∷ marked 6 (Got 66) ∷
    marked 6 (Told (replies.Moved 6 7)) ∷ marked 7 (Phase 5) ∷ marked 7 (Cut 5 6) ∷ marked 2 (Fell falls.Script None) ∷
    marked 2 (Rose ((prepare (tx 2 1) 1 (read_lock 0 0 ∷ []) (own_line 1 0 0 ∷ []) []) ∷ (records.Done (tx 2 1) 1) ∷
    (prepare (tx 1 1) 1 (read_lock 0 1 ∷ read_lock 0 2 ∷ []) [] []) ∷ (records.Done (tx 1 1) 2) ∷ (prepare (tx 1 3) 1
    (read_lock 0 0 ∷ read_lock 0 1 ∷ []) [] []) ∷ (records.Done (tx 1 3) 4) ∷ (prepare (tx 0 1) 1 (read_lock 0 0 ∷ [])
    [] []) ∷ (records.Close 2) ∷ (records.Done (tx 0 1) 5) ∷ (records.Install (start_with 2 5 (line 1 2 1 1 0 0 ∷ []))) ∷ [])) ∷
    marked 2 (Wrote records.Life) ∷ marked 7 (Armed 5 arms.Stop 7) ∷ marked 6 (Fell falls.Script None) ∷
    marked 6 (Rose ((records.Decide (start_with 2 5 (line 1 2 1 1 0 0 ∷ []))) ∷ [])) ∷ marked 6 (Wrote records.Life) ∷
    marked 3 (Called commands.Begin) ∷ marked 3 (Told (replies.Began (tx 0 2))) ∷ marked 3 (Called (commands.Do 0 2)) ∷
    marked 3 (Sent 67 1 (messages.Request (tx 0 2) 1 0 (wants.Read (first_read 0 2)))) ∷
    marked 3 (Sent 68 2 (messages.Request (tx 0 2) 1 0 (wants.Read (first_read 0 2)))) ∷ marked 2 (Got 68) ∷
    marked 2 (Sent 69 3 (messages.Answer 68 (answers.Closed 2))) ∷ marked 3 (Got 69) ∷ marked 1 (Got 67) ∷
    marked 1 (Sent 70 3 (messages.Answer 67 (answers.Closed 2))) ∷ marked 3 (Got 70) ∷
    marked 3 (Told (replies.Closed 2 1)) ∷ marked 3 (Called (commands.Do 0 1)) ∷
    marked 3 (Sent 71 1 (messages.Request (tx 0 2) 1 0 (wants.Read (first_read 0 1)))) ∷
    marked 3 (Sent 72 2 (messages.Request (tx 0 2) 1 0 (wants.Read (first_read 0 1)))) ∷ marked 1 (Got 71) ∷
    marked 1 (Sent 73 3 (messages.Answer 71 (answers.Closed 2))) ∷ marked 3 (Got 73) ∷ marked 2 (Got 72) ∷
    marked 2 (Sent 74 3 (messages.Answer 72 (answers.Closed 2))) ∷ marked 3 (Got 74) ∷
    marked 3 (Told (replies.Closed 2 1)) ∷ marked 3 (Called (commands.Do 0 0)) ∷
    marked 3 (Sent 75 1 (messages.Request (tx 0 2) 1 0 (wants.Read (first_read 0 0)))) ∷
    marked 3 (Sent 76 2 (messages.Request (tx 0 2) 1 0 (wants.Read (first_read 0 0)))) ∷ marked 2 (Got 76) ∷
    marked 2 (Sent 77 3 (messages.Answer 76 (answers.Closed 2))) ∷ marked 3 (Got 77) ∷ marked 1 (Got 75) ∷
    marked 1 (Sent 78 3 (messages.Answer 75 (answers.Closed 2))) ∷ marked 3 (Got 78) ∷
    marked 3 (Told (replies.Closed 2 1)) ∷ marked 3 (Called commands.Commit) ∷
    marked 3 (Wrote (commit (stamp 6 0) (tx 0 2) [])) ∷
    marked 3 (Sent 79 1 (messages.Decision (tx 0 2) (outcomes.Committed (stamp 6 0)))) ∷
    marked 3 (Sent 80 2 (messages.Decision (tx 0 2) (outcomes.Committed (stamp 6 0)))) ∷
    marked 3 (Told (replies.Committed (stamp 6 0))) ∷ marked 3 (Called commands.Begin) ∷
    marked 3 (Told (replies.Began (tx 0 3))) ∷ marked 3 (Called (commands.Do 0 1)) ∷
    marked 3 (Sent 81 0 (messages.Request (tx 0 3) 2 0 (wants.Read (first_read 0 1)))) ∷ marked 0 (Got 81) ∷
    marked 0 (Sent 82 3 (messages.Answer 81 (answers.Granted (whole_grant 1 5 (line 1 2 1 1 0 0 ∷ [])))))
    ∷ marked 3 (Got 82) ∷
    marked 3 (Sent 83 0 (messages.Request (tx 0 3) 2 1 (wants.Append 0 (line 1 2 1 1 0 0 ∷ []) (own_line 1 0 1 ∷ []))))
    ∷
    marked 0 (Got 83) ∷ marked 0 (Sent 84 3 (messages.Answer 83 (answers.Granted (whole_grant 1 5 []))))
    ∷ marked 3 (Got 84) ∷
    marked 3 (Told (replies.Response 0)) ∷ marked 1 (Got 79) ∷ marked 2 (Got 80) ∷ marked 7 (Phase 6) ∷
    marked 7 (Heal 4 1) ∷ marked 7 (Armed 0 arms.Fail 4) ∷ marked 4 (Called commands.Begin) ∷
    marked 3 (Called (commands.Do 0 1))
    ∷ marked 3 (Sent 85 0 (messages.Request (tx 0 3) 2 1 (wants.Read (first_read 0 1)))) ∷
    marked 4 (Told (replies.Began (tx 1 4))) ∷ marked 0 (Got 85) ∷ marked 4 (Called (commands.Do 0 2)) ∷
    marked 4 (Sent 86 1 (messages.Request (tx 1 4) 1 0 (wants.Read (first_read 0 2)))) ∷
    marked 4 (Sent 87 2 (messages.Request (tx 1 4) 1 0 (wants.Read (first_read 0 2)))) ∷ marked 1 (Got 86) ∷
    marked 0 (Sent 88 3 (messages.Answer 85 (answers.Granted (whole_grant 1 5 (line 1 2 1 1 0 0 ∷ [])))))
    ∷ marked 3 (Got 88) ∷
    marked 3 (Told replies.Absent) ∷ marked 2 (Got 87) ∷ marked 2 (Sent 89 4 (messages.Answer 87 (answers.Closed 2))) ∷
    marked 1 (Sent 90 4 (messages.Answer 86 (answers.Closed 2))) ∷ marked 4 (Got 89) ∷ marked 4 (Got 90) ∷
    marked 4 (Told (replies.Closed 2 1)) ∷ marked 4 (Called commands.Commit) ∷
    marked 4 (Wrote (commit (stamp 5 1) (tx 1 4) [])) ∷
    marked 4 (Sent 91 1 (messages.Decision (tx 1 4) (outcomes.Committed (stamp 5 1)))) ∷
    marked 4 (Sent 92 2 (messages.Decision (tx 1 4) (outcomes.Committed (stamp 5 1)))) ∷
    marked 4 (Told (replies.Committed (stamp 5 1))) ∷ marked 5 (Called commands.Begin) ∷
    marked 5 (Told (replies.Began (tx 2 3))) ∷ marked 1 (Got 91) ∷ marked 2 (Got 92) ∷
    marked 5 (Called (commands.Do 0 2))
    ∷ marked 5 (Sent 93 2 (messages.Request (tx 2 3) 1 0 (wants.Read (first_read 0 2)))) ∷
    marked 5 (Sent 94 1 (messages.Request (tx 2 3) 1 0 (wants.Read (first_read 0 2)))) ∷ marked 1 (Got 94)
    ∷ marked 2 (Got 93) ∷
    marked 2 (Sent 95 5 (messages.Answer 93 (answers.Closed 2))) ∷
    marked 1 (Sent 96 5 (messages.Answer 94 (answers.Closed 2))) ∷ marked 5 (Got 95) ∷ marked 5 (Got 96) ∷
    marked 5 (Told (replies.Closed 2 2)) ∷ marked 5 (Called (commands.Do 0 1)) ∷
    marked 5 (Sent 97 2 (messages.Request (tx 2 3) 1 0 (wants.Read (first_read 0 1)))) ∷
    marked 5 (Sent 98 1 (messages.Request (tx 2 3) 1 0 (wants.Read (first_read 0 1)))) ∷ marked 2 (Got 97)
    ∷ marked 1 (Got 98) ∷
    marked 2 (Sent 99 5 (messages.Answer 97 (answers.Closed 2))) ∷
    marked 1 (Sent 100 5 (messages.Answer 98 (answers.Closed 2))) ∷ marked 5 (Got 99) ∷ marked 5 (Got 100) ∷
    marked 5 (Told (replies.Closed 2 2)) ∷ marked 5 (Called commands.Commit) ∷
    marked 5 (Wrote (commit (stamp 2 2) (tx 2 3) [])) ∷
    marked 5 (Sent 101 1 (messages.Decision (tx 2 3) (outcomes.Committed (stamp 2 2)))) ∷
    marked 5 (Sent 102 2 (messages.Decision (tx 2 3) (outcomes.Committed (stamp 2 2)))) ∷
    marked 5 (Told (replies.Committed (stamp 2 2))) ∷ marked 1 (Got 101) ∷ marked 2 (Got 102) ∷ []
