-- Random: sites 3, clients 3, steps 355, messages 96, lost 11, cuts 1, commits 7, aborts 8, short rounds 6, absent 2,
-- falls 4, rises 3, unwritten records 4, closes 3, decisions 1, installs 2.
use Rattle.std.specs.Prelude.{List, [], ◌∷◌, Some}
use Rattle.qc_decl.specs.declared.declaration.Declaration.{Declaration}
use Rattle.qc_decl.specs.Vocabulary.{row}
use Rattle.qc_msg.specs.Vocabulary.{Entry, marked}
use Rattle.tests_histories.specs.Words.{tx, stamp, own_line, operation, read_lock, prepare, commit, declaration, kind}
use Rattle.tests_histories.specs.Words.{pair, plan}
use Rattle.qc_msg.specs.declared.step.Step.TheVariants.{Phase, Cut, Heal, Called, Got, Lost, Wrote, Sent, Told, Fell}
use Rattle.qc_msg.specs.declared.step.Step.TheVariants.{Rose}
use Rattle.tests_epochs.specs.Words.{tx_in, prepared}
use Rattle.qc_msg.specs.declared.message.Answer.TheVariants as answers
use Rattle.qc_msg.specs.declared.reply.AbortCause.TheVariants as causes
use Rattle.qc_msg.specs.declared.step.Command.TheVariants as commands
use Rattle.qc_msg.specs.declared.reply.Half.TheVariants as halves
use Rattle.qc_msg.specs.declared.message.Message.TheVariants as messages
use Rattle.qc_msg.specs.declared.message.Outcome.TheVariants as outcomes
use Rattle.qc_msg.specs.declared.record.Record.TheVariants as records
use Rattle.qc_msg.specs.declared.reply.Reply.TheVariants as replies
use Rattle.qc_msg.specs.declared.message.Want.TheVariants as wants
use Rattle.qc_msg.specs.declared.step.Fall.TheVariants as falls
use Rattle.qc_msg.specs.Vocabulary.{whole_grant, first_read, snapshot_with, start_with}

abbrev pub decl : Declaration
decl =
    declaration 3 3 (kind 2 2 3 0 (row 0 1 2 0 ∷ row 1 1 0 0 ∷ []) (pair 0 0 ∷ []) ∷ []) (0 ∷ []) (plan (3 ∷ 1 ∷ 1 ∷ [])
    ((4 ∷ 2 ∷ []) ∷ []) ((2 ∷ 1 ∷ []) ∷ []) ∷ plan (0 ∷ 1 ∷ 0 ∷ []) ((1 ∷ 0 ∷ []) ∷ []) ((1 ∷ 0 ∷ []) ∷ []) ∷ [])

abbrev pub history : List Entry
history =
    marked 7 (Phase 1) ∷ marked 5 (Called commands.Begin) ∷ marked 4 (Called commands.Begin) ∷
    marked 5 (Told (replies.Began (tx 2 1))) ∷ marked 4 (Told (replies.Began (tx 1 1))) ∷
    marked 4 (Called commands.Commit) ∷ marked 5 (Called commands.Commit) ∷
    marked 4 (Wrote (commit (stamp 1 1) (tx 1 1) [])) ∷ marked 4 (Told (replies.Committed (stamp 1 1))) ∷
    marked 5 (Told replies.Unknown) ∷ marked 5 (Fell falls.Disk (Some (commit (stamp 1 2) (tx 2 1) []))) ∷
    marked 4 (Called commands.Begin) ∷ marked 5 (Called commands.Begin) ∷ marked 4 (Told (replies.Began (tx 1 2))) ∷
    marked 5 (Told replies.Down) ∷ marked 4 (Called commands.Commit) ∷
    marked 4 (Wrote (commit (stamp 2 1) (tx 1 2) [])) ∷ marked 4 (Told (replies.Committed (stamp 2 1))) ∷
    marked 4 (Called commands.Begin) ∷ marked 5 (Called commands.Commit) ∷ marked 4 (Told (replies.Began (tx 1 3))) ∷
    marked 4 (Called commands.Commit) ∷ marked 4 (Wrote (commit (stamp 3 1) (tx 1 3) [])) ∷
    marked 4 (Told (replies.Committed (stamp 3 1))) ∷ marked 4 (Called commands.Begin) ∷
    marked 4 (Told (replies.Began (tx 1 4))) ∷ marked 4 (Called commands.Commit) ∷
    marked 4 (Wrote (commit (stamp 4 1) (tx 1 4) [])) ∷ marked 4 (Told (replies.Committed (stamp 4 1))) ∷
    marked 4 (Called commands.Begin) ∷ marked 5 (Told replies.Down) ∷ marked 5 (Called commands.Begin) ∷
    marked 4 (Told (replies.Began (tx 1 5))) ∷ marked 5 (Told replies.Down) ∷ marked 4 (Called commands.Commit) ∷
    marked 5 (Called commands.Commit) ∷ marked 4 (Wrote (commit (stamp 5 1) (tx 1 5) [])) ∷
    marked 4 (Told (replies.Committed (stamp 5 1))) ∷ marked 5 (Told replies.Down) ∷ marked 5 (Called commands.Begin) ∷
    marked 5 (Told replies.Down) ∷ marked 5 (Called commands.Commit) ∷ marked 5 (Told replies.Down) ∷
    marked 5 (Called commands.Begin) ∷ marked 5 (Told replies.Down) ∷ marked 5 (Called commands.Commit) ∷
    marked 5 (Told replies.Down) ∷ marked 7 (Phase 2) ∷ marked 7 (Cut 3 0) ∷ marked 5 (Rose []) ∷
    marked 5 (Fell falls.Disk (Some records.Life)) ∷ marked 4 (Called commands.Begin) ∷
    marked 5 (Called commands.Begin) ∷ marked 5 (Told replies.Down) ∷ marked 6 (Called (commands.Epoch 2)) ∷
    marked 4 (Told (replies.Began (tx 1 6))) ∷ marked 4 (Called (commands.Do 0 0)) ∷
    marked 4 (Sent 0 1 (messages.Request (tx 1 6) 1 0 (wants.Read (first_read 0 0)))) ∷
    marked 4 (Sent 1 2 (messages.Request (tx 1 6) 1 0 (wants.Read (first_read 0 0)))) ∷
    marked 4 (Sent 2 0 (messages.Request (tx 1 6) 1 0 (wants.Read (first_read 0 0)))) ∷ marked 0 (Got 2) ∷
    marked 1 (Got 0)
    ∷
    marked 2 (Got 1) ∷ marked 1 (Sent 3 4 (messages.Answer 0 (answers.Granted (whole_grant 1 0 [])))) ∷ marked 4 (Got 3)
    ∷
    marked 0 (Sent 4 4 (messages.Answer 2 (answers.Granted (whole_grant 1 0 [])))) ∷ marked 4 (Got 4) ∷
    marked 2 (Sent 5 4 (messages.Answer 1 (answers.Granted (whole_grant 1 0 [])))) ∷ marked 4 (Got 5) ∷
    marked 4 (Told replies.Absent) ∷ marked 4 (Called (commands.Do 0 0)) ∷
    marked 4 (Sent 6 1 (messages.Request (tx 1 6) 1 1 (wants.Read (first_read 0 0)))) ∷
    marked 4 (Sent 7 2 (messages.Request (tx 1 6) 1 1 (wants.Read (first_read 0 0)))) ∷
    marked 4 (Sent 8 0 (messages.Request (tx 1 6) 1 1 (wants.Read (first_read 0 0)))) ∷ marked 2 (Got 7) ∷
    marked 0 (Got 8)
    ∷
    marked 0 (Sent 9 4 (messages.Answer 8 (answers.Granted (whole_grant 1 0 [])))) ∷ marked 1 (Got 6) ∷ marked 4 (Got 9)
    ∷
    marked 1 (Sent 10 4 (messages.Answer 6 (answers.Granted (whole_grant 1 0 [])))) ∷
    marked 2 (Sent 11 4 (messages.Answer 7 (answers.Granted (whole_grant 1 0 [])))) ∷ marked 4 (Got 11)
    ∷ marked 4 (Lost 6) ∷
    marked 4 (Told replies.Absent) ∷ marked 4 (Called commands.Commit) ∷
    marked 4 (Sent 12 1 (messages.Request (tx 1 6) 1 1 wants.Prepare)) ∷
    marked 4 (Sent 13 2 (messages.Request (tx 1 6) 1 1 wants.Prepare)) ∷
    marked 4 (Sent 14 0 (messages.Request (tx 1 6) 1 1 wants.Prepare)) ∷ marked 4 (Lost 14) ∷ marked 2 (Got 13) ∷
    marked 1 (Got 12) ∷ marked 2 (Wrote (prepare (tx 1 6) 1 (read_lock 0 0 ∷ []) [] [])) ∷
    marked 2 (Sent 15 4 (messages.Answer 13 (answers.Yes 0))) ∷ marked 4 (Got 15) ∷
    marked 1 (Wrote (prepare (tx 1 6) 1 (read_lock 0 0 ∷ []) [] [])) ∷
    marked 1 (Sent 16 4 (messages.Answer 12 (answers.Yes 0))) ∷ marked 4 (Got 16) ∷
    marked 6 (Sent 17 0 (messages.Close 2)) ∷ marked 6 (Sent 18 1 (messages.Close 2)) ∷
    marked 6 (Sent 19 2 (messages.Close 2)) ∷ marked 2 (Got 19) ∷ marked 1 (Got 18) ∷ marked 0 (Got 17) ∷
    marked 1 (Wrote (records.Close 2)) ∷
    marked 1 (Sent 20 6 (messages.Answer 18 (answers.Shut (snapshot_with 0 [] (prepared (tx 1 6) 1 (read_lock 0 0 ∷ []) [] [] ∷ [])))))
    ∷
    marked 6 (Got 20) ∷ marked 2 (Wrote (records.Close 2)) ∷
    marked 2 (Sent 21 6 (messages.Answer 19 (answers.Shut (snapshot_with 0 [] (prepared (tx 1 6) 1 (read_lock 0 0 ∷ []) [] [] ∷ [])))))
    ∷
    marked 6 (Got 21) ∷ marked 0 (Wrote (records.Close 2)) ∷
    marked 0 (Sent 22 6 (messages.Answer 17 (answers.Shut (snapshot_with 0 [] [])))) ∷
    marked 4 (Sent 23 0 (messages.Decision (tx 1 6) outcomes.Aborted)) ∷
    marked 4 (Sent 24 1 (messages.Decision (tx 1 6) outcomes.Aborted)) ∷
    marked 4 (Sent 25 2 (messages.Decision (tx 1 6) outcomes.Aborted)) ∷
    marked 4 (Told (replies.Aborted (causes.NoAnswer 0))) ∷ marked 2 (Got 25) ∷ marked 1 (Got 24) ∷ marked 0 (Got 23) ∷
    marked 6 (Got 22) ∷ marked 6 (Sent 26 4 (messages.Ask (tx 1 6))) ∷ marked 4 (Got 26) ∷
    marked 4 (Sent 27 6 (messages.Answer 26 (answers.Answered outcomes.Aborted))) ∷ marked 6 (Got 27) ∷
    marked 6 (Wrote (records.Decide (start_with 2 0 []))) ∷ marked 6 (Sent 28 0 (messages.Install (start_with 2 0 [])))
    ∷
    marked 6 (Sent 29 1 (messages.Install (start_with 2 0 [])))
    ∷ marked 6 (Sent 30 2 (messages.Install (start_with 2 0 []))) ∷
    marked 1 (Got 29) ∷ marked 2 (Got 30) ∷ marked 0 (Got 28) ∷ marked 0 (Wrote (records.Install (start_with 2 0 []))) ∷
    marked 0 (Sent 31 6 (messages.Answer 28 answers.Installed)) ∷ marked 1 (Wrote (records.Install (start_with 2 0 [])))
    ∷
    marked 1 (Sent 32 6 (messages.Answer 29 answers.Installed)) ∷ marked 6 (Got 31) ∷
    marked 2 (Sent 33 6 (messages.Answer 30 answers.Fault)) ∷
    marked 2 (Fell falls.Disk (Some (records.Install (start_with 2 0 [])))) ∷ marked 6 (Got 32) ∷ marked 6 (Got 33) ∷
    marked 6 (Told (replies.Moved 7 3)) ∷ marked 7 (Phase 3) ∷ marked 7 (Heal 3 0) ∷
    marked 2 (Rose ((prepare (tx 1 6) 1 (read_lock 0 0 ∷ []) [] []) ∷ (records.Close 2) ∷ (records.Install (start_with 2 0 [])) ∷
    [])) ∷
    marked 2 (Wrote records.Life) ∷ marked 5 (Called (commands.Do 0 1)) ∷ marked 4 (Got 10) ∷
    marked 5 (Told replies.Down) ∷ marked 5 (Called (commands.Do 0 0)) ∷ marked 5 (Told replies.Down) ∷
    marked 5 (Called (commands.Do 0 1)) ∷ marked 4 (Called commands.Begin) ∷ marked 4 (Told (replies.Began (tx 1 7))) ∷
    marked 4 (Called (commands.Do 0 1))
    ∷ marked 4 (Sent 34 1 (messages.Request (tx 1 7) 1 0 (wants.Read (first_read 0 1)))) ∷
    marked 4 (Sent 35 2 (messages.Request (tx 1 7) 1 0 (wants.Read (first_read 0 1)))) ∷
    marked 3 (Called commands.Begin) ∷
    marked 5 (Told replies.Down) ∷ marked 3 (Told (replies.Began (tx 0 1))) ∷ marked 5 (Called commands.Commit) ∷
    marked 5 (Told replies.Down) ∷ marked 3 (Called (commands.Do 0 1)) ∷
    marked 3 (Sent 36 0 (messages.Request (tx 0 1) 1 0 (wants.Read (first_read 0 1))))
    ∷ marked 6 (Called (commands.Epoch 2)) ∷
    marked 6 (Sent 37 0 (messages.Install (start_with 2 0 [])))
    ∷ marked 6 (Sent 38 1 (messages.Install (start_with 2 0 []))) ∷
    marked 6 (Sent 39 2 (messages.Install (start_with 2 0 []))) ∷ marked 2 (Got 35) ∷
    marked 2 (Sent 40 4 (messages.Answer 35 (answers.Closed 2))) ∷ marked 0 (Got 14) ∷
    marked 0 (Sent 41 4 (messages.Answer 14 (answers.Closed 2))) ∷ marked 2 (Got 39) ∷
    marked 2 (Sent 42 6 (messages.Answer 39 answers.Installed)) ∷ marked 4 (Got 40) ∷ marked 4 (Got 41) ∷
    marked 6 (Got 42) ∷ marked 1 (Got 34) ∷ marked 1 (Sent 43 4 (messages.Answer 34 (answers.Closed 2))) ∷
    marked 4 (Got 43) ∷ marked 4 (Told (replies.Closed 2 1)) ∷ marked 4 (Called (commands.Do 0 0)) ∷
    marked 4 (Sent 44 1 (messages.Request (tx 1 7) 1 0 (wants.Read (first_read 0 0)))) ∷
    marked 4 (Sent 45 2 (messages.Request (tx 1 7) 1 0 (wants.Read (first_read 0 0)))) ∷
    marked 4 (Sent 46 0 (messages.Request (tx 1 7) 1 0 (wants.Read (first_read 0 0)))) ∷ marked 0 (Got 36) ∷
    marked 0 (Sent 47 3 (messages.Answer 36 (answers.Closed 2))) ∷ marked 0 (Got 37) ∷
    marked 0 (Sent 48 6 (messages.Answer 37 answers.Installed)) ∷ marked 3 (Lost 36) ∷
    marked 3 (Sent 49 1 (messages.Request (tx 0 1) 1 0 (wants.Read (first_read 0 1)))) ∷ marked 2 (Got 45) ∷
    marked 2 (Sent 50 4 (messages.Answer 45 (answers.Closed 2))) ∷ marked 4 (Got 50) ∷ marked 6 (Got 48) ∷
    marked 1 (Got 38) ∷ marked 1 (Sent 51 6 (messages.Answer 38 answers.Installed)) ∷ marked 0 (Got 46) ∷
    marked 0 (Sent 52 4 (messages.Answer 46 (answers.Closed 2))) ∷ marked 4 (Got 52) ∷ marked 6 (Got 51) ∷
    marked 6 (Told (replies.Moved 0 7)) ∷ marked 1 (Got 44) ∷
    marked 1 (Sent 53 4 (messages.Answer 44 (answers.Closed 2))) ∷ marked 4 (Got 53) ∷
    marked 4 (Told (replies.Closed 2 1)) ∷ marked 1 (Got 49) ∷
    marked 1 (Sent 54 3 (messages.Answer 49 (answers.Closed 2))) ∷ marked 3 (Got 54) ∷
    marked 3 (Told (replies.Closed 2 1)) ∷ marked 3 (Called (commands.Do 0 0)) ∷
    marked 3 (Sent 55 0 (messages.Request (tx 0 1) 1 0 (wants.Read (first_read 0 0)))) ∷
    marked 3 (Sent 56 1 (messages.Request (tx 0 1) 1 0 (wants.Read (first_read 0 0)))) ∷ marked 0 (Got 55) ∷
    marked 0 (Sent 57 3 (messages.Answer 55 (answers.Closed 2))) ∷ marked 3 (Got 57) ∷ marked 3 (Lost 56) ∷
    marked 3 (Told (replies.Closed 2 0)) ∷ marked 6 (Called (commands.Epoch 2)) ∷
    marked 6 (Sent 58 0 (messages.Install (start_with 2 0 [])))
    ∷ marked 6 (Sent 59 1 (messages.Install (start_with 2 0 []))) ∷
    marked 6 (Sent 60 2 (messages.Install (start_with 2 0 []))) ∷ marked 1 (Got 59) ∷
    marked 1 (Sent 61 6 (messages.Answer 59 answers.Installed)) ∷ marked 6 (Got 61) ∷ marked 2 (Got 60) ∷
    marked 2 (Sent 62 6 (messages.Answer 60 answers.Installed)) ∷ marked 6 (Got 62) ∷ marked 0 (Got 58) ∷
    marked 0 (Sent 63 6 (messages.Answer 58 answers.Installed)) ∷ marked 6 (Got 63) ∷
    marked 6 (Told (replies.Moved 0 7)) ∷ marked 7 (Phase 4) ∷ marked 5 (Rose (records.Life ∷ [])) ∷
    marked 5 (Wrote records.Life) ∷ marked 3 (Called commands.Abort) ∷ marked 5 (Called commands.Abort) ∷
    marked 5 (Told replies.NoTransaction) ∷ marked 5 (Called commands.Begin) ∷
    marked 5 (Told (replies.Began (tx_in 2 3 1))) ∷ marked 5 (Called (commands.Do 0 1)) ∷
    marked 5 (Sent 64 2 (messages.Request (tx_in 2 3 1) 1 0 (wants.Read (first_read 0 1)))) ∷
    marked 5 (Sent 65 0 (messages.Request (tx_in 2 3 1) 1 0 (wants.Read (first_read 0 1))))
    ∷ marked 4 (Called commands.Abort) ∷
    marked 4 (Sent 66 0 (messages.Decision (tx 1 7) outcomes.Aborted)) ∷
    marked 4 (Sent 67 1 (messages.Decision (tx 1 7) outcomes.Aborted)) ∷
    marked 4 (Sent 68 2 (messages.Decision (tx 1 7) outcomes.Aborted)) ∷ marked 4 (Told replies.Dropped) ∷
    marked 3 (Sent 69 0 (messages.Decision (tx 0 1) outcomes.Aborted)) ∷
    marked 3 (Sent 70 1 (messages.Decision (tx 0 1) outcomes.Aborted)) ∷ marked 3 (Told replies.Dropped) ∷
    marked 3 (Called commands.Begin) ∷ marked 1 (Got 67) ∷ marked 4 (Called commands.Begin) ∷
    marked 4 (Told (replies.Began (tx 1 8))) ∷ marked 4 (Called (commands.Do 0 1)) ∷ marked 0 (Got 65) ∷
    marked 1 (Got 70) ∷ marked 4 (Sent 71 1 (messages.Request (tx 1 8) 2 0 (wants.Append 0 [] (own_line 1 0 0 ∷ [])))) ∷
    marked 1 (Got 71) ∷ marked 1 (Sent 72 4 (messages.Answer 71 (answers.Granted (whole_grant 2 0 []))))
    ∷ marked 4 (Got 72) ∷
    marked 0 (Sent 73 5 (messages.Answer 65 (answers.Closed 2))) ∷ marked 5 (Got 73) ∷
    marked 4 (Told (replies.Response 2)) ∷ marked 0 (Got 66) ∷ marked 2 (Got 64) ∷ marked 4 (Called commands.Commit) ∷
    marked 2 (Sent 74 5 (messages.Answer 64 (answers.Closed 2))) ∷
    marked 4 (Sent 75 1 (messages.Request (tx 1 8) 2 2 wants.Prepare)) ∷ marked 5 (Got 74) ∷ marked 1 (Got 75) ∷
    marked 5 (Told (replies.Closed 2 2)) ∷ marked 5 (Called commands.Commit) ∷
    marked 5 (Wrote (commit (stamp 1 2) (tx_in 2 3 1) [])) ∷
    marked 5 (Sent 76 0 (messages.Decision (tx_in 2 3 1) (outcomes.Committed (stamp 1 2)))) ∷
    marked 5 (Sent 77 2 (messages.Decision (tx_in 2 3 1) (outcomes.Committed (stamp 1 2)))) ∷
    marked 5 (Told (replies.Committed (stamp 1 2))) ∷
    marked 1 (Wrote (prepare (tx 1 8) 2 [] (own_line 1 0 0 ∷ []) [])) ∷
    marked 1 (Sent 78 4 (messages.Answer 75 (answers.Yes 0))) ∷ marked 4 (Got 78) ∷
    marked 4 (Wrote (commit (stamp 6 1) (tx 1 8) (operation 0 1 (Some 2) ∷ []))) ∷
    marked 4 (Sent 79 1 (messages.Decision (tx 1 8) (outcomes.Committed (stamp 6 1)))) ∷
    marked 4 (Told (replies.Committed (stamp 6 1))) ∷ marked 5 (Called commands.Begin) ∷
    marked 5 (Told (replies.Began (tx_in 2 3 2))) ∷ marked 1 (Got 79) ∷ marked 1 (Wrote (records.Done (tx 1 8) 6)) ∷
    marked 5 (Called (commands.Do 0 1)) ∷
    marked 5 (Sent 80 1 (messages.Request (tx_in 2 3 2) 2 0 (wants.Append 0 [] (own_line 1 0 0 ∷ [])))) ∷
    marked 1 (Got 80) ∷ marked 1 (Sent 81 5 (messages.Answer 80 (answers.Granted (whole_grant 2 6 []))))
    ∷ marked 5 (Got 81) ∷
    marked 5 (Told (replies.Response 2)) ∷ marked 0 (Got 69) ∷ marked 5 (Called commands.Commit) ∷
    marked 5 (Sent 82 1 (messages.Request (tx_in 2 3 2) 2 2 wants.Prepare)) ∷ marked 1 (Got 82) ∷
    marked 4 (Called commands.Begin) ∷ marked 4 (Told (replies.Began (tx 1 9))) ∷
    marked 1 (Fell falls.Stop (Some (prepare (tx_in 2 3 2) 2 [] (own_line 1 0 0 ∷ []) []))) ∷
    marked 4 (Called (commands.Do 0 1)) ∷
    marked 4 (Sent 83 1 (messages.Request (tx 1 9) 2 0 (wants.Append 0 [] (own_line 1 0 0 ∷ [])))) ∷
    marked 4 (Lost 83) ∷ marked 5 (Lost 82) ∷ marked 4 (Told (replies.Quorum halves.Append 0 1)) ∷
    marked 5 (Sent 84 1 (messages.Decision (tx_in 2 3 2) outcomes.Aborted)) ∷
    marked 5 (Told (replies.Aborted (causes.NoAnswer 1))) ∷ marked 5 (Called commands.Begin) ∷
    marked 5 (Told (replies.Began (tx_in 2 3 3))) ∷ marked 0 (Got 76) ∷ marked 5 (Called (commands.Do 0 1)) ∷
    marked 5 (Sent 85 1 (messages.Request (tx_in 2 3 3) 2 0 (wants.Append 0 [] (own_line 1 0 0 ∷ [])))) ∷
    marked 5 (Lost 85) ∷ marked 5 (Told (replies.Quorum halves.Append 0 1)) ∷ marked 5 (Called commands.Commit) ∷
    marked 5 (Sent 86 1 (messages.Decision (tx_in 2 3 3) outcomes.Aborted)) ∷
    marked 5 (Told (replies.Aborted causes.Doomed)) ∷ marked 2 (Got 68) ∷ marked 4 (Called commands.Commit) ∷
    marked 4 (Sent 87 1 (messages.Decision (tx 1 9) outcomes.Aborted)) ∷
    marked 4 (Told (replies.Aborted causes.Doomed)) ∷ marked 4 (Called commands.Begin) ∷
    marked 4 (Told (replies.Began (tx 1 10))) ∷ marked 4 (Called (commands.Do 0 1)) ∷
    marked 4 (Sent 88 1 (messages.Request (tx 1 10) 2 0 (wants.Append 0 [] (own_line 1 0 0 ∷ [])))) ∷
    marked 4 (Lost 88) ∷ marked 4 (Told (replies.Quorum halves.Append 0 1)) ∷ marked 3 (Told (replies.Began (tx 0 2))) ∷
    marked 3 (Called (commands.Do 0 1)) ∷ marked 4 (Called commands.Commit) ∷
    marked 4 (Sent 89 1 (messages.Decision (tx 1 10) outcomes.Aborted)) ∷
    marked 4 (Told (replies.Aborted causes.Doomed)) ∷
    marked 3 (Sent 90 1 (messages.Request (tx 0 2) 2 0 (wants.Append 0 [] (own_line 1 0 0 ∷ [])))) ∷
    marked 3 (Lost 90) ∷ marked 3 (Told (replies.Quorum halves.Append 0 1)) ∷ marked 3 (Called commands.Commit) ∷
    marked 3 (Sent 91 1 (messages.Decision (tx 0 2) outcomes.Aborted)) ∷
    marked 3 (Told (replies.Aborted causes.Doomed)) ∷ marked 3 (Called commands.Begin) ∷
    marked 3 (Told (replies.Began (tx 0 3))) ∷ marked 3 (Called (commands.Do 0 1)) ∷
    marked 3 (Sent 92 1 (messages.Request (tx 0 3) 2 0 (wants.Append 0 [] (own_line 1 0 0 ∷ [])))) ∷
    marked 3 (Lost 92) ∷ marked 3 (Told (replies.Quorum halves.Append 0 1)) ∷ marked 3 (Called commands.Commit) ∷
    marked 3 (Sent 93 1 (messages.Decision (tx 0 3) outcomes.Aborted)) ∷
    marked 3 (Told (replies.Aborted causes.Doomed)) ∷ marked 3 (Called commands.Begin) ∷
    marked 3 (Told (replies.Began (tx 0 4))) ∷ marked 3 (Called (commands.Do 0 1)) ∷
    marked 3 (Sent 94 1 (messages.Request (tx 0 4) 2 0 (wants.Append 0 [] (own_line 1 0 0 ∷ [])))) ∷
    marked 3 (Lost 94) ∷ marked 3 (Told (replies.Quorum halves.Append 0 1)) ∷ marked 3 (Called commands.Commit) ∷
    marked 3 (Sent 95 1 (messages.Decision (tx 0 4) outcomes.Aborted)) ∷
    marked 3 (Told (replies.Aborted causes.Doomed)) ∷ []
