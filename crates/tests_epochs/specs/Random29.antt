-- Random: sites 4, clients 1, steps 206, messages 74, lost 1, commits 3, aborts 1, absent 2, falls 2, rises 2,
-- unwritten records 1, closes 3, decisions 1, installs 4.
use Rattle.std.specs.Prelude.{List, [], ◌∷◌, Some, None}
use Rattle.qc_decl.specs.declared.declaration.Declaration.{Declaration}
use Rattle.qc_decl.specs.Vocabulary.{row}
use Rattle.qc_msg.specs.Vocabulary.{Entry, marked}
use Rattle.tests_histories.specs.Words.{tx, stamp, own_line, operation, read_lock, prepare, commit, declaration, kind}
use Rattle.tests_histories.specs.Words.{pair, plan}
use Rattle.qc_msg.specs.declared.step.Step.TheVariants.{Phase, Called, Got, Lost, Wrote, Sent, Told, Armed, Fell, Rose}
use Rattle.qc_msg.specs.declared.message.Answer.TheVariants as answers
use Rattle.qc_msg.specs.declared.reply.AbortCause.TheVariants as causes
use Rattle.qc_msg.specs.declared.step.Command.TheVariants as commands
use Rattle.qc_msg.specs.declared.message.Message.TheVariants as messages
use Rattle.qc_msg.specs.declared.message.Outcome.TheVariants as outcomes
use Rattle.qc_msg.specs.declared.record.Record.TheVariants as records
use Rattle.qc_msg.specs.declared.reply.Reply.TheVariants as replies
use Rattle.qc_msg.specs.declared.message.Want.TheVariants as wants
use Rattle.qc_msg.specs.declared.step.Fall.TheVariants as falls
use Rattle.qc_msg.specs.Vocabulary.{whole_grant, first_read, snapshot_with, start_with}
use Rattle.qc_outside.specs.declared.disk.ArmKind.TheVariants as arms

abbrev pub decl : Declaration
decl =
    declaration 4 1 (kind 4 2 1 0 (row 0 0 0 2 ∷ row 0 1 0 2 ∷ row 1 0 0 3 ∷ row 1 1 0 2 ∷ row 2 1 0 3 ∷ row 3 0 0 3 ∷
    row 3 1 0 3 ∷ []) (pair 0 0 ∷ pair 0 1 ∷ []) ∷ kind 3 3 5 0 (row 0 0 0 1 ∷ row 1 0 0 2 ∷ row 2 0 1 2 ∷ row 0 1 1 0 ∷
    row 1 1 0 0 ∷ row 2 1 0 1 ∷ row 0 2 2 0 ∷ row 1 2 3 1 ∷ row 2 2 4 2 ∷ []) (pair 0 0 ∷ pair 0 1 ∷ pair 0 3 ∷ pair 1 0
    ∷ pair 1 3 ∷ pair 1 5 ∷ pair 2 0 ∷ pair 2 3 ∷ []) ∷ []) (0 ∷ []) (plan (1 ∷ 1 ∷ 1 ∷ 1 ∷ []) ((3 ∷ 0 ∷ []) ∷ []) ((2
    ∷ 2 ∷ []) ∷ []) ∷ plan (1 ∷ 1 ∷ 1 ∷ 0 ∷ []) ((2 ∷ 2 ∷ []) ∷ []) ((2 ∷ 2 ∷ []) ∷ []) ∷ plan (3 ∷ 1 ∷ 1 ∷ 1 ∷ []) ((4
    ∷ 0 ∷ []) ∷ []) ((3 ∷ 3 ∷ []) ∷ []) ∷ [])

abbrev pub history : List Entry
history =
    marked 6 (Phase 1) ∷ marked 4 (Called commands.Begin) ∷ marked 4 (Told (replies.Began (tx 0 1))) ∷
    marked 4 (Called commands.Commit) ∷ marked 4 (Wrote (commit (stamp 1 0) (tx 0 1) [])) ∷
    marked 4 (Told (replies.Committed (stamp 1 0))) ∷ marked 5 (Called (commands.Epoch 2)) ∷
    marked 5 (Sent 0 0 (messages.Close 2)) ∷ marked 5 (Sent 1 1 (messages.Close 2)) ∷
    marked 5 (Sent 2 2 (messages.Close 2)) ∷ marked 0 (Got 0) ∷ marked 2 (Got 2) ∷ marked 2 (Wrote (records.Close 2)) ∷
    marked 2 (Sent 3 5 (messages.Answer 2 (answers.Shut (snapshot_with 0 [] [])))) ∷ marked 1 (Got 1) ∷
    marked 0 (Wrote (records.Close 2)) ∷ marked 0 (Sent 4 5 (messages.Answer 0 (answers.Shut (snapshot_with 0 [] []))))
    ∷
    marked 1 (Wrote (records.Close 2)) ∷ marked 1 (Sent 5 5 (messages.Answer 1 (answers.Shut (snapshot_with 0 [] []))))
    ∷
    marked 5 (Got 3) ∷ marked 5 (Got 4) ∷ marked 5 (Got 5) ∷ marked 5 (Wrote (records.Decide (start_with 2 0 []))) ∷
    marked 5 (Sent 6 0 (messages.Install (start_with 2 0 [])))
    ∷ marked 5 (Sent 7 1 (messages.Install (start_with 2 0 []))) ∷
    marked 5 (Sent 8 2 (messages.Install (start_with 2 0 [])))
    ∷ marked 5 (Sent 9 3 (messages.Install (start_with 2 0 []))) ∷ marked 2 (Got 8) ∷
    marked 2 (Wrote (records.Install (start_with 2 0 []))) ∷ marked 2 (Sent 10 5 (messages.Answer 8 answers.Installed))
    ∷
    marked 0 (Got 6) ∷ marked 0 (Wrote (records.Install (start_with 2 0 []))) ∷
    marked 0 (Sent 11 5 (messages.Answer 6 answers.Installed)) ∷ marked 3 (Got 9) ∷
    marked 3 (Wrote (records.Install (start_with 2 0 []))) ∷ marked 3 (Sent 12 5 (messages.Answer 9 answers.Installed))
    ∷
    marked 1 (Got 7) ∷ marked 1 (Wrote (records.Install (start_with 2 0 []))) ∷
    marked 1 (Sent 13 5 (messages.Answer 7 answers.Installed)) ∷ marked 5 (Got 10) ∷ marked 5 (Got 11) ∷
    marked 5 (Got 12) ∷ marked 5 (Got 13) ∷ marked 5 (Told (replies.Moved 7 15)) ∷ marked 6 (Phase 2) ∷
    marked 2 (Fell falls.Script None) ∷ marked 2 (Rose ((records.Close 2) ∷ (records.Install (start_with 2 0 [])) ∷ []))
    ∷
    marked 2 (Wrote records.Life) ∷ marked 4 (Called commands.Begin) ∷ marked 4 (Told (replies.Began (tx 0 2))) ∷
    marked 4 (Called (commands.Do 0 0))
    ∷ marked 4 (Sent 14 0 (messages.Request (tx 0 2) 1 0 (wants.Read (first_read 0 0)))) ∷
    marked 4 (Sent 15 1 (messages.Request (tx 0 2) 1 0 (wants.Read (first_read 0 0)))) ∷
    marked 4 (Sent 16 2 (messages.Request (tx 0 2) 1 0 (wants.Read (first_read 0 0)))) ∷ marked 2 (Got 16) ∷
    marked 2 (Sent 17 4 (messages.Answer 16 (answers.Closed 2))) ∷ marked 1 (Got 15) ∷ marked 4 (Got 17) ∷
    marked 1 (Sent 18 4 (messages.Answer 15 (answers.Closed 2))) ∷ marked 4 (Got 18) ∷ marked 0 (Got 14) ∷
    marked 0 (Sent 19 4 (messages.Answer 14 (answers.Closed 2))) ∷ marked 4 (Got 19) ∷
    marked 4 (Told (replies.Closed 2 0)) ∷ marked 4 (Called commands.Commit) ∷
    marked 4 (Wrote (commit (stamp 2 0) (tx 0 2) [])) ∷
    marked 4 (Sent 20 0 (messages.Decision (tx 0 2) (outcomes.Committed (stamp 2 0)))) ∷
    marked 4 (Sent 21 1 (messages.Decision (tx 0 2) (outcomes.Committed (stamp 2 0)))) ∷
    marked 4 (Sent 22 2 (messages.Decision (tx 0 2) (outcomes.Committed (stamp 2 0)))) ∷
    marked 4 (Told (replies.Committed (stamp 2 0))) ∷ marked 4 (Called commands.Begin) ∷ marked 2 (Got 22) ∷
    marked 4 (Told (replies.Began (tx 0 3))) ∷ marked 4 (Called (commands.Do 0 1)) ∷ marked 1 (Got 21) ∷
    marked 4 (Sent 23 0 (messages.Request (tx 0 3) 2 0 (wants.Read (first_read 0 1)))) ∷
    marked 4 (Sent 24 1 (messages.Request (tx 0 3) 2 0 (wants.Read (first_read 0 1)))) ∷ marked 1 (Got 24) ∷
    marked 1 (Sent 25 4 (messages.Answer 24 (answers.Granted (whole_grant 2 2 [])))) ∷ marked 4 (Got 25)
    ∷ marked 0 (Got 20) ∷
    marked 0 (Got 23) ∷ marked 0 (Sent 26 4 (messages.Answer 23 (answers.Granted (whole_grant 2 2 []))))
    ∷ marked 4 (Got 26) ∷
    marked 4 (Sent 27 0 (messages.Request (tx 0 3) 2 2 (wants.Append 0 [] (own_line 1 0 1 ∷ [])))) ∷
    marked 4 (Sent 28 1 (messages.Request (tx 0 3) 2 2 (wants.Append 0 [] (own_line 1 0 1 ∷ [])))) ∷ marked 1 (Got 28) ∷
    marked 1 (Sent 29 4 (messages.Answer 28 (answers.Granted (whole_grant 2 2 [])))) ∷ marked 4 (Got 29)
    ∷ marked 0 (Got 27) ∷
    marked 0 (Sent 30 4 (messages.Answer 27 (answers.Granted (whole_grant 2 2 [])))) ∷ marked 4 (Got 30) ∷
    marked 4 (Told (replies.Response 0)) ∷ marked 4 (Called (commands.Do 0 0)) ∷
    marked 4 (Sent 31 0 (messages.Request (tx 0 3) 2 2 (wants.Read (first_read 0 0)))) ∷
    marked 4 (Sent 32 1 (messages.Request (tx 0 3) 2 2 (wants.Read (first_read 0 0)))) ∷ marked 1 (Got 32) ∷
    marked 1 (Sent 33 4 (messages.Answer 32 (answers.Granted (whole_grant 2 2 [])))) ∷ marked 4 (Got 33)
    ∷ marked 0 (Got 31) ∷
    marked 0 (Sent 34 4 (messages.Answer 31 (answers.Granted (whole_grant 2 2 [])))) ∷ marked 4 (Got 34) ∷
    marked 4 (Told replies.Absent) ∷ marked 4 (Called (commands.Do 0 0)) ∷
    marked 4 (Sent 35 0 (messages.Request (tx 0 3) 2 2 (wants.Read (first_read 0 0)))) ∷
    marked 4 (Sent 36 1 (messages.Request (tx 0 3) 2 2 (wants.Read (first_read 0 0)))) ∷ marked 1 (Got 36) ∷
    marked 1 (Sent 37 4 (messages.Answer 36 (answers.Granted (whole_grant 2 2 [])))) ∷ marked 0 (Got 35) ∷
    marked 0 (Sent 38 4 (messages.Answer 35 (answers.Granted (whole_grant 2 2 [])))) ∷ marked 4 (Got 37)
    ∷ marked 4 (Got 38) ∷
    marked 4 (Told replies.Absent) ∷ marked 4 (Called commands.Commit) ∷
    marked 4 (Sent 39 0 (messages.Request (tx 0 3) 2 2 wants.Prepare)) ∷
    marked 4 (Sent 40 1 (messages.Request (tx 0 3) 2 2 wants.Prepare)) ∷ marked 1 (Got 40) ∷
    marked 1 (Fell falls.Stop (Some (prepare (tx 0 3) 2 (read_lock 0 0 ∷ read_lock 0 1 ∷ []) (own_line 1 0 1 ∷ []) [])))
    ∷
    marked 4 (Lost 40) ∷ marked 0 (Got 39) ∷
    marked 0 (Wrote (prepare (tx 0 3) 2 (read_lock 0 0 ∷ read_lock 0 1 ∷ []) (own_line 1 0 1 ∷ []) [])) ∷
    marked 0 (Sent 41 4 (messages.Answer 39 (answers.Yes 2))) ∷ marked 4 (Got 41) ∷
    marked 4 (Sent 42 0 (messages.Decision (tx 0 3) outcomes.Aborted)) ∷
    marked 4 (Sent 43 1 (messages.Decision (tx 0 3) outcomes.Aborted)) ∷
    marked 4 (Told (replies.Aborted (causes.NoAnswer 1))) ∷ marked 0 (Got 42) ∷ marked 6 (Phase 3) ∷
    marked 1 (Rose ((records.Close 2) ∷ (records.Install (start_with 2 0 [])) ∷ [])) ∷ marked 1 (Wrote records.Life) ∷
    marked 6 (Armed 4 arms.Stop 7) ∷ marked 5 (Called (commands.Epoch 2)) ∷ marked 4 (Called commands.Begin) ∷
    marked 4 (Told (replies.Began (tx 0 4))) ∷ marked 4 (Called (commands.Do 0 1)) ∷
    marked 5 (Sent 44 0 (messages.Install (start_with 2 0 [])))
    ∷ marked 5 (Sent 45 1 (messages.Install (start_with 2 0 []))) ∷
    marked 5 (Sent 46 2 (messages.Install (start_with 2 0 [])))
    ∷ marked 5 (Sent 47 3 (messages.Install (start_with 2 0 []))) ∷
    marked 4 (Sent 48 0 (messages.Request (tx 0 4) 2 0 (wants.Read (first_read 0 1)))) ∷
    marked 4 (Sent 49 1 (messages.Request (tx 0 4) 2 0 (wants.Read (first_read 0 1)))) ∷ marked 3 (Got 47)
    ∷ marked 1 (Got 45) ∷
    marked 0 (Got 44) ∷ marked 0 (Sent 50 5 (messages.Answer 44 answers.Installed)) ∷
    marked 3 (Sent 51 5 (messages.Answer 47 answers.Installed)) ∷ marked 2 (Got 46) ∷ marked 5 (Got 50) ∷
    marked 2 (Sent 52 5 (messages.Answer 46 answers.Installed)) ∷
    marked 1 (Sent 53 5 (messages.Answer 45 answers.Installed)) ∷ marked 5 (Got 51) ∷ marked 1 (Got 49) ∷
    marked 0 (Got 48) ∷ marked 0 (Sent 54 4 (messages.Answer 48 (answers.Granted (whole_grant 2 2 []))))
    ∷ marked 4 (Got 54) ∷
    marked 1 (Sent 55 4 (messages.Answer 49 (answers.Granted (whole_grant 3 0 [])))) ∷ marked 5 (Got 52)
    ∷ marked 4 (Got 55) ∷
    marked 4 (Sent 56 0 (messages.Request (tx 0 4) 2 2 (wants.Append 0 [] (own_line 1 0 1 ∷ [])))) ∷
    marked 4 (Sent 57 1 (messages.Request (tx 0 4) 2 3 (wants.Append 0 [] (own_line 1 0 1 ∷ [])))) ∷ marked 0 (Got 56) ∷
    marked 0 (Sent 58 4 (messages.Answer 56 (answers.Granted (whole_grant 2 2 [])))) ∷ marked 1 (Got 57) ∷
    marked 1 (Sent 59 4 (messages.Answer 57 (answers.Granted (whole_grant 3 0 [])))) ∷ marked 4 (Got 58)
    ∷ marked 4 (Got 59) ∷
    marked 5 (Got 53) ∷ marked 5 (Told (replies.Moved 0 15)) ∷ marked 4 (Told (replies.Response 0)) ∷
    marked 4 (Called (commands.Do 0 1))
    ∷ marked 4 (Sent 60 0 (messages.Request (tx 0 4) 2 2 (wants.Read (first_read 0 1)))) ∷
    marked 4 (Sent 61 1 (messages.Request (tx 0 4) 2 3 (wants.Read (first_read 0 1)))) ∷ marked 0 (Got 60) ∷
    marked 0 (Sent 62 4 (messages.Answer 60 (answers.Granted (whole_grant 2 2 [])))) ∷ marked 1 (Got 61)
    ∷ marked 4 (Got 62) ∷
    marked 1 (Sent 63 4 (messages.Answer 61 (answers.Granted (whole_grant 3 0 [])))) ∷ marked 4 (Got 63) ∷
    marked 4 (Sent 64 0 (messages.Request (tx 0 4) 2 2 (wants.Append 0 [] (own_line 1 0 1 ∷ own_line 2 0 1 ∷ [])))) ∷
    marked 4 (Sent 65 1 (messages.Request (tx 0 4) 2 3 (wants.Append 0 [] (own_line 1 0 1 ∷ own_line 2 0 1 ∷ [])))) ∷
    marked 0 (Got 64) ∷ marked 0 (Sent 66 4 (messages.Answer 64 (answers.Granted (whole_grant 2 2 []))))
    ∷ marked 1 (Got 65) ∷
    marked 1 (Sent 67 4 (messages.Answer 65 (answers.Granted (whole_grant 3 0 [])))) ∷ marked 4 (Got 66)
    ∷ marked 4 (Got 67) ∷
    marked 4 (Told (replies.Response 0)) ∷ marked 4 (Called commands.Commit) ∷
    marked 4 (Sent 68 0 (messages.Request (tx 0 4) 2 2 wants.Prepare)) ∷
    marked 4 (Sent 69 1 (messages.Request (tx 0 4) 2 3 wants.Prepare)) ∷ marked 0 (Got 68) ∷ marked 1 (Got 69) ∷
    marked 0 (Wrote (prepare (tx 0 4) 2 (read_lock 0 1 ∷ []) (own_line 1 0 1 ∷ own_line 2 0 1 ∷ []) [])) ∷
    marked 0 (Sent 70 4 (messages.Answer 68 (answers.Yes 2))) ∷ marked 4 (Got 70) ∷
    marked 1 (Wrote (prepare (tx 0 4) 2 (read_lock 0 1 ∷ []) (own_line 1 0 1 ∷ own_line 2 0 1 ∷ []) [])) ∷
    marked 1 (Sent 71 4 (messages.Answer 69 (answers.Yes 0))) ∷ marked 4 (Got 71) ∷
    marked 4 (Wrote (commit (stamp 3 0) (tx 0 4) (operation 0 1 (Some 0) ∷ operation 0 1 (Some 0) ∷ []))) ∷
    marked 4 (Sent 72 0 (messages.Decision (tx 0 4) (outcomes.Committed (stamp 3 0)))) ∷
    marked 4 (Sent 73 1 (messages.Decision (tx 0 4) (outcomes.Committed (stamp 3 0)))) ∷
    marked 4 (Told (replies.Committed (stamp 3 0))) ∷ marked 0 (Got 72) ∷ marked 0 (Wrote (records.Done (tx 0 4) 3)) ∷
    marked 1 (Got 73) ∷ marked 1 (Wrote (records.Done (tx 0 4) 3)) ∷ []
