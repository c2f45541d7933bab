-- Random: sites 2, clients 2, steps 266, messages 80, lost 7, cuts 2, commits 3, short rounds 3, falls 8, rises 7,
-- unwritten records 2, closes 2, decisions 1, installs 2.
use Rattle.std.specs.Prelude.{List, [], ◌∷◌, Some, None}
use Rattle.qc_decl.specs.declared.declaration.Declaration.{Declaration}
use Rattle.qc_decl.specs.Vocabulary.{row}
use Rattle.qc_msg.specs.Vocabulary.{Entry, marked}
use Rattle.tests_histories.specs.Words.{tx, stamp, own_line, operation, read_lock, prepare, commit, declaration, kind}
use Rattle.tests_histories.specs.Words.{pair, plan}
use Rattle.qc_msg.specs.declared.step.Step.TheVariants.{Phase, Cut, Heal, Called, Got, Lost, Wrote, Sent, Told, Armed}
use Rattle.qc_msg.specs.declared.step.Step.TheVariants.{Fell, Rose}
use Rattle.tests_epochs.specs.Words.{tx_in, prepared}
use Rattle.qc_msg.specs.declared.message.Answer.TheVariants as answers
use Rattle.qc_msg.specs.declared.step.Command.TheVariants as commands
use Rattle.qc_msg.specs.declared.reply.Half.TheVariants as halves
use Rattle.qc_msg.specs.declared.message.Message.TheVariants as messages
use Rattle.qc_msg.specs.declared.message.Outcome.TheVariants as outcomes
use Rattle.qc_msg.specs.declared.record.Record.TheVariants as records
use Rattle.qc_msg.specs.declared.reply.Reply.TheVariants as replies
use Rattle.qc_msg.specs.declared.message.Want.TheVariants as wants
use Rattle.qc_msg.specs.declared.step.Fall.TheVariants as falls
use Rattle.qc_msg.specs.Vocabulary.{whole_grant, first_read, snapshot_with, start_with}
use Rattle.qc_outside.specs.declared.disk.ArmKind.TheVariants as arms

abbrev pub decl : Declaration
decl =
    declaration 2 2 (kind 7 3 4 0 (row 0 0 0 1 ∷ row 0 1 0 2 ∷ row 1 0 0 3 ∷ row 1 1 0 4 ∷ row 2 0 0 5 ∷ row 2 1 0 6 ∷
    row 0 2 3 0 ∷ row 1 2 1 0 ∷ row 2 2 2 0 ∷ row 3 2 1 1 ∷ row 4 2 1 2 ∷ row 5 2 2 1 ∷ row 6 2 2 2 ∷ []) (pair 0 0 ∷
    pair 0 1 ∷ pair 0 3 ∷ pair 0 4 ∷ pair 1 0 ∷ pair 1 1 ∷ pair 1 3 ∷ pair 1 4 ∷ pair 2 0 ∷ pair 2 1 ∷ pair 2 3 ∷ pair 2
    4 ∷ []) ∷ []) (0 ∷ 0 ∷ []) (plan (1 ∷ 1 ∷ []) ((2 ∷ 2 ∷ 2 ∷ []) ∷ (2 ∷ 2 ∷ 2 ∷ []) ∷ []) ((1 ∷ 1 ∷ 0 ∷ 1 ∷ 1 ∷ []) ∷
    (1 ∷ 1 ∷ 0 ∷ 2 ∷ 1 ∷ []) ∷ []) ∷ plan (1 ∷ 1 ∷ []) ((2 ∷ 2 ∷ 2 ∷ []) ∷ (2 ∷ 2 ∷ 2 ∷ []) ∷ []) ((1 ∷ 1 ∷ 0 ∷ 1 ∷ 1 ∷
    []) ∷ (1 ∷ 1 ∷ 2 ∷ 1 ∷ 1 ∷ []) ∷ []) ∷ [])

abbrev pub history : List Entry
history =
    marked 5 (Phase 1) ∷ marked 5 (Armed 1 arms.Fail 2) ∷ marked 2 (Fell falls.Script None) ∷ marked 2 (Rose []) ∷
    marked 2 (Wrote records.Life) ∷ marked 2 (Called commands.Begin) ∷ marked 2 (Told (replies.Began (tx_in 0 2 1))) ∷
    marked 2 (Called (commands.Do 0 1)) ∷ marked 3 (Called commands.Begin) ∷ marked 3 (Told (replies.Began (tx 1 1))) ∷
    marked 2 (Sent 0 0 (messages.Request (tx_in 0 2 1) 1 0 (wants.Read (first_read 0 1)))) ∷
    marked 2 (Sent 1 1 (messages.Request (tx_in 0 2 1) 1 0 (wants.Read (first_read 0 1)))) ∷ marked 1 (Got 1)
    ∷ marked 0 (Got 0) ∷
    marked 0 (Sent 2 2 (messages.Answer 0 (answers.Granted (whole_grant 1 0 [])))) ∷
    marked 1 (Sent 3 2 (messages.Answer 1 (answers.Granted (whole_grant 1 0 [])))) ∷ marked 2 (Got 2) ∷ marked 2 (Got 3)
    ∷
    marked 2 (Sent 4 0 (messages.Request (tx_in 0 2 1) 1 1 (wants.Append 0 [] (own_line 1 0 1 ∷ [])))) ∷
    marked 0 (Got 4) ∷ marked 0 (Sent 5 2 (messages.Answer 4 (answers.Granted (whole_grant 1 0 [])))) ∷ marked 2 (Got 5)
    ∷
    marked 2 (Told (replies.Response 0)) ∷ marked 2 (Called commands.Commit) ∷
    marked 2 (Sent 6 0 (messages.Request (tx_in 0 2 1) 1 1 wants.Prepare)) ∷
    marked 2 (Sent 7 1 (messages.Request (tx_in 0 2 1) 1 1 wants.Prepare)) ∷ marked 1 (Got 7) ∷
    marked 1 (Wrote (prepare (tx_in 0 2 1) 1 (read_lock 0 1 ∷ []) [] [])) ∷
    marked 1 (Sent 8 2 (messages.Answer 7 (answers.Yes 0))) ∷ marked 2 (Got 8) ∷ marked 0 (Got 6) ∷
    marked 0 (Wrote (prepare (tx_in 0 2 1) 1 (read_lock 0 1 ∷ []) (own_line 1 0 1 ∷ []) [])) ∷
    marked 0 (Sent 9 2 (messages.Answer 6 (answers.Yes 0))) ∷ marked 2 (Got 9) ∷ marked 2 (Told replies.Unknown) ∷
    marked 2 (Fell falls.Stop (Some (commit (stamp 1 0) (tx_in 0 2 1) (operation 0 1 (Some 0) ∷ [])))) ∷
    marked 5 (Phase 2) ∷ marked 5 (Armed 0 arms.Stop 7) ∷ marked 1 (Fell falls.Script None) ∷
    marked 3 (Fell falls.Script None) ∷ marked 3 (Rose []) ∷ marked 3 (Wrote records.Life) ∷
    marked 3 (Called (commands.Do 0 0)) ∷ marked 3 (Told replies.NoTransaction) ∷ marked 5 (Phase 3) ∷
    marked 1 (Rose ((prepare (tx_in 0 2 1) 1 (read_lock 0 1 ∷ []) [] []) ∷ [])) ∷ marked 1 (Wrote records.Life) ∷
    marked 1 (Sent 10 2 (messages.Inquiry (tx_in 0 2 1))) ∷ marked 3 (Fell falls.Script None) ∷
    marked 3 (Rose (records.Life ∷ [])) ∷ marked 3 (Wrote records.Life) ∷ marked 4 (Fell falls.Script None) ∷
    marked 4 (Rose []) ∷ marked 4 (Wrote records.Life) ∷ marked 3 (Fell falls.Script None) ∷
    marked 2 (Rose (records.Life ∷ [])) ∷ marked 2 (Wrote records.Life) ∷ marked 4 (Called (commands.Epoch 2)) ∷
    marked 2 (Called commands.Begin) ∷ marked 3 (Called (commands.Do 0 2)) ∷
    marked 2 (Told (replies.Began (tx_in 0 3 1))) ∷ marked 4 (Sent 11 0 (messages.Close 2)) ∷
    marked 4 (Sent 12 1 (messages.Close 2)) ∷ marked 0 (Got 11) ∷ marked 3 (Told replies.Down) ∷
    marked 3 (Called commands.Commit) ∷ marked 2 (Called commands.Commit) ∷ marked 3 (Told replies.Down) ∷
    marked 0 (Wrote (records.Close 2)) ∷
    marked 0
    (Sent 13 4
    (messages.Answer 11
    (answers.Shut (snapshot_with 0 []
    (prepared (tx_in 0 2 1) 1 (read_lock 0 1 ∷ []) (own_line 1 0 1 ∷ []) [] ∷ []))))) ∷
    marked 1 (Got 12) ∷ marked 1 (Wrote (records.Close 2)) ∷
    marked 1
    (Sent 14 4
    (messages.Answer 12
    (answers.Shut (snapshot_with 0 [] (prepared (tx_in 0 2 1) 1 (read_lock 0 1 ∷ []) [] [] ∷ []))))) ∷
    marked 4 (Got 13) ∷ marked 2 (Wrote (commit (stamp 1 0) (tx_in 0 3 1) [])) ∷
    marked 2 (Told (replies.Committed (stamp 1 0))) ∷ marked 2 (Called commands.Begin) ∷
    marked 2 (Told (replies.Began (tx_in 0 3 2))) ∷ marked 4 (Got 14) ∷ marked 2 (Called (commands.Do 1 1)) ∷
    marked 2 (Sent 15 0 (messages.Request (tx_in 0 3 2) 1 0 (wants.Read (first_read 1 1)))) ∷
    marked 2 (Sent 16 1 (messages.Request (tx_in 0 3 2) 1 0 (wants.Read (first_read 1 1)))) ∷
    marked 4 (Sent 17 2 (messages.Ask (tx_in 0 2 1))) ∷ marked 0 (Got 15) ∷ marked 2 (Got 17) ∷
    marked 0 (Sent 18 2 (messages.Answer 15 (answers.Closed 2))) ∷ marked 1 (Got 16) ∷
    marked 1 (Sent 19 2 (messages.Answer 16 (answers.Closed 2))) ∷
    marked 2 (Sent 20 4 (messages.Answer 17 (answers.Answered outcomes.Aborted))) ∷ marked 2 (Got 18) ∷
    marked 2 (Got 19) ∷ marked 4 (Got 20) ∷ marked 4 (Wrote (records.Decide (start_with 2 0 []))) ∷
    marked 4 (Sent 21 0 (messages.Install (start_with 2 0 [])))
    ∷ marked 4 (Sent 22 1 (messages.Install (start_with 2 0 []))) ∷
    marked 1 (Got 22) ∷ marked 2 (Told (replies.Closed 2 0)) ∷ marked 0 (Got 21) ∷
    marked 1 (Wrote (records.Install (start_with 2 0 []))) ∷ marked 1 (Sent 23 4 (messages.Answer 22 answers.Installed))
    ∷
    marked 2 (Called (commands.Do 1 2)) ∷ marked 4 (Got 23) ∷ marked 0 (Wrote (records.Install (start_with 2 0 []))) ∷
    marked 0 (Sent 24 4 (messages.Answer 21 answers.Installed)) ∷
    marked 2 (Sent 25 0 (messages.Request (tx_in 0 3 2) 1 0 (wants.Read (first_read 1 2)))) ∷
    marked 2 (Sent 26 1 (messages.Request (tx_in 0 3 2) 1 0 (wants.Read (first_read 1 2)))) ∷ marked 4 (Got 24)
    ∷ marked 1 (Got 26) ∷
    marked 4 (Told (replies.Moved 3 3)) ∷ marked 1 (Sent 27 2 (messages.Answer 26 (answers.Closed 2))) ∷
    marked 4 (Called (commands.Epoch 2)) ∷ marked 2 (Got 27)
    ∷ marked 4 (Sent 28 0 (messages.Install (start_with 2 0 []))) ∷
    marked 4 (Sent 29 1 (messages.Install (start_with 2 0 []))) ∷ marked 1 (Got 29) ∷
    marked 1 (Sent 30 4 (messages.Answer 29 answers.Installed)) ∷ marked 0 (Got 25) ∷
    marked 0 (Sent 31 2 (messages.Answer 25 (answers.Closed 2))) ∷ marked 0 (Got 28) ∷ marked 2 (Got 31) ∷
    marked 4 (Got 30) ∷ marked 2 (Told (replies.Closed 2 0)) ∷
    marked 0 (Sent 32 4 (messages.Answer 28 answers.Installed)) ∷ marked 2 (Called (commands.Do 0 2)) ∷
    marked 2 (Sent 33 0 (messages.Request (tx_in 0 3 2) 1 0 (wants.Read (first_read 0 2)))) ∷
    marked 2 (Sent 34 1 (messages.Request (tx_in 0 3 2) 1 0 (wants.Read (first_read 0 2)))) ∷ marked 1 (Got 34) ∷
    marked 1 (Sent 35 2 (messages.Answer 34 (answers.Closed 2))) ∷ marked 0 (Got 33) ∷ marked 4 (Got 32) ∷
    marked 4 (Told (replies.Moved 0 3)) ∷ marked 0 (Sent 36 2 (messages.Answer 33 (answers.Closed 2))) ∷
    marked 2 (Got 35) ∷ marked 2 (Got 36) ∷ marked 2 (Told (replies.Closed 2 0)) ∷ marked 2 (Called commands.Commit) ∷
    marked 2 (Wrote (commit (stamp 2 0) (tx_in 0 3 2) [])) ∷
    marked 2 (Sent 37 0 (messages.Decision (tx_in 0 3 2) (outcomes.Committed (stamp 2 0)))) ∷
    marked 2 (Sent 38 1 (messages.Decision (tx_in 0 3 2) (outcomes.Committed (stamp 2 0)))) ∷
    marked 2 (Told (replies.Committed (stamp 2 0))) ∷ marked 1 (Got 38) ∷ marked 0 (Got 37) ∷ marked 5 (Phase 4) ∷
    marked 5 (Cut 3 2) ∷ marked 3 (Rose (records.Life ∷ records.Life ∷ [])) ∷ marked 3 (Wrote records.Life) ∷
    marked 2 (Called commands.Begin) ∷ marked 2 (Told (replies.Began (tx_in 0 3 3))) ∷
    marked 4 (Called (commands.Epoch 2)) ∷ marked 4 (Sent 39 0 (messages.Install (start_with 2 0 []))) ∷
    marked 4 (Sent 40 1 (messages.Install (start_with 2 0 []))) ∷ marked 2 (Called (commands.Do 0 0))
    ∷ marked 0 (Got 39) ∷
    marked 0 (Sent 41 4 (messages.Answer 39 answers.Installed)) ∷ marked 4 (Got 41) ∷
    marked 2 (Sent 42 0 (messages.Request (tx_in 0 3 3) 2 0 (wants.Read (first_read 0 0)))) ∷
    marked 2 (Sent 43 1 (messages.Request (tx_in 0 3 3) 2 0 (wants.Read (first_read 0 0)))) ∷ marked 0 (Got 42)
    ∷ marked 1 (Got 40) ∷
    marked 0 (Sent 44 2 (messages.Answer 42 (answers.Granted (whole_grant 2 2 [])))) ∷ marked 2 (Got 44) ∷
    marked 1 (Sent 45 4 (messages.Answer 40 answers.Installed)) ∷ marked 4 (Got 45) ∷ marked 1 (Got 43) ∷
    marked 4 (Told (replies.Moved 0 3)) ∷ marked 4 (Called (commands.Epoch 2)) ∷
    marked 1 (Sent 46 2 (messages.Answer 43 (answers.Granted (whole_grant 3 2 [])))) ∷
    marked 4 (Sent 47 0 (messages.Install (start_with 2 0 [])))
    ∷ marked 4 (Sent 48 1 (messages.Install (start_with 2 0 []))) ∷
    marked 2 (Got 46) ∷ marked 1 (Got 48) ∷ marked 0 (Got 47) ∷
    marked 2 (Sent 49 0 (messages.Request (tx_in 0 3 3) 2 2 (wants.Append 0 [] (own_line 1 0 0 ∷ [])))) ∷
    marked 0 (Sent 50 4 (messages.Answer 47 answers.Installed)) ∷ marked 0 (Got 49) ∷ marked 4 (Got 50) ∷
    marked 1 (Sent 51 4 (messages.Answer 48 answers.Installed)) ∷
    marked 0 (Sent 52 2 (messages.Answer 49 (answers.Granted (whole_grant 2 2 [])))) ∷ marked 4 (Got 51) ∷
    marked 4 (Told (replies.Moved 0 3)) ∷ marked 2 (Got 52) ∷ marked 2 (Told (replies.Response 0)) ∷
    marked 2 (Called commands.Commit) ∷ marked 2 (Sent 53 0 (messages.Request (tx_in 0 3 3) 2 2 wants.Prepare)) ∷
    marked 2 (Sent 54 1 (messages.Request (tx_in 0 3 3) 2 3 wants.Prepare)) ∷ marked 1 (Got 54) ∷ marked 0 (Got 53) ∷
    marked 0 (Wrote (prepare (tx_in 0 3 3) 2 (read_lock 0 0 ∷ []) (own_line 1 0 0 ∷ []) [])) ∷
    marked 0 (Sent 55 2 (messages.Answer 53 (answers.Yes 2))) ∷ marked 2 (Got 55) ∷
    marked 1 (Wrote (prepare (tx_in 0 3 3) 2 (read_lock 0 0 ∷ []) [] [])) ∷
    marked 1 (Sent 56 2 (messages.Answer 54 (answers.Yes 2))) ∷ marked 2 (Got 56) ∷
    marked 2 (Wrote (commit (stamp 3 0) (tx_in 0 3 3) (operation 0 0 (Some 0) ∷ []))) ∷
    marked 2 (Sent 57 0 (messages.Decision (tx_in 0 3 3) (outcomes.Committed (stamp 3 0)))) ∷
    marked 2 (Sent 58 1 (messages.Decision (tx_in 0 3 3) (outcomes.Committed (stamp 3 0)))) ∷
    marked 2 (Told (replies.Committed (stamp 3 0))) ∷ marked 1 (Got 58) ∷
    marked 1 (Wrote (records.Done (tx_in 0 3 3) 3)) ∷ marked 0 (Got 57) ∷ marked 2 (Called commands.Begin) ∷
    marked 0 (Fell falls.Stop (Some (records.Done (tx_in 0 3 3) 3))) ∷ marked 2 (Told (replies.Began (tx_in 0 3 4))) ∷
    marked 2 (Called (commands.Do 1 2))
    ∷ marked 2 (Sent 59 0 (messages.Request (tx_in 0 3 4) 2 0 (wants.Read (first_read 1 2)))) ∷
    marked 2 (Sent 60 1 (messages.Request (tx_in 0 3 4) 2 0 (wants.Read (first_read 1 2)))) ∷ marked 2 (Lost 59) ∷
    marked 1 (Got 60) ∷ marked 1 (Sent 61 2 (messages.Answer 60 (answers.Granted (whole_grant 3 3 []))))
    ∷ marked 2 (Got 61) ∷
    marked 2 (Told (replies.Quorum halves.Read 1 2)) ∷ marked 2 (Called (commands.Do 0 0)) ∷
    marked 2 (Sent 62 0 (messages.Request (tx_in 0 3 4) 2 0 (wants.Read (first_read 0 0)))) ∷
    marked 2 (Sent 63 1 (messages.Request (tx_in 0 3 4) 2 3 (wants.Read (first_read 0 0)))) ∷ marked 1 (Got 63) ∷
    marked 2 (Lost 62) ∷ marked 1 (Sent 64 2 (messages.Answer 63 (answers.Granted (whole_grant 3 3 []))))
    ∷ marked 2 (Got 64) ∷
    marked 2 (Told (replies.Quorum halves.Read 1 2)) ∷ marked 2 (Called (commands.Do 1 2)) ∷
    marked 2 (Sent 65 0 (messages.Request (tx_in 0 3 4) 2 0 (wants.Read (first_read 1 2)))) ∷
    marked 2 (Sent 66 1 (messages.Request (tx_in 0 3 4) 2 3 (wants.Read (first_read 1 2)))) ∷ marked 2 (Lost 65) ∷
    marked 1 (Got 66) ∷ marked 1 (Sent 67 2 (messages.Answer 66 (answers.Granted (whole_grant 3 3 []))))
    ∷ marked 2 (Got 67) ∷
    marked 2 (Told (replies.Quorum halves.Read 1 2)) ∷ marked 5 (Phase 5) ∷ marked 5 (Heal 3 2) ∷ marked 5 (Cut 2 4) ∷
    marked 5 (Armed 2 arms.Fail 3) ∷ marked 3 (Called commands.Begin) ∷ marked 3 (Told (replies.Began (tx_in 1 4 1))) ∷
    marked 3 (Called (commands.Do 0 1))
    ∷ marked 3 (Sent 68 1 (messages.Request (tx_in 1 4 1) 1 0 (wants.Read (first_read 0 1)))) ∷
    marked 3 (Sent 69 0 (messages.Request (tx_in 1 4 1) 1 0 (wants.Read (first_read 0 1)))) ∷ marked 3 (Lost 69) ∷
    marked 1 (Got 68) ∷ marked 1 (Sent 70 3 (messages.Answer 68 (answers.Closed 2))) ∷ marked 3 (Got 70) ∷
    marked 3 (Told (replies.Closed 2 1)) ∷ marked 3 (Called (commands.Do 1 1)) ∷
    marked 3 (Sent 71 1 (messages.Request (tx_in 1 4 1) 1 0 (wants.Read (first_read 1 1)))) ∷
    marked 3 (Sent 72 0 (messages.Request (tx_in 1 4 1) 1 0 (wants.Read (first_read 1 1)))) ∷ marked 1 (Got 71) ∷
    marked 1 (Sent 73 3 (messages.Answer 71 (answers.Closed 2))) ∷ marked 3 (Got 73) ∷ marked 3 (Lost 72) ∷
    marked 3 (Told (replies.Closed 2 1)) ∷ marked 3 (Called (commands.Do 0 2)) ∷
    marked 3 (Sent 74 1 (messages.Request (tx_in 1 4 1) 1 0 (wants.Read (first_read 0 2)))) ∷
    marked 3 (Sent 75 0 (messages.Request (tx_in 1 4 1) 1 0 (wants.Read (first_read 0 2)))) ∷ marked 3 (Lost 75) ∷
    marked 1 (Got 74) ∷ marked 1 (Sent 76 3 (messages.Answer 74 (answers.Closed 2))) ∷ marked 3 (Got 76) ∷
    marked 3 (Told (replies.Closed 2 1)) ∷ marked 5 (Phase 6) ∷ marked 4 (Called (commands.Epoch 2)) ∷
    marked 4 (Sent 77 0 (messages.Install (start_with 2 0 [])))
    ∷ marked 4 (Sent 78 1 (messages.Install (start_with 2 0 []))) ∷
    marked 1 (Got 78) ∷ marked 4 (Lost 77) ∷ marked 1 (Sent 79 4 (messages.Answer 78 answers.Installed)) ∷
    marked 4 (Got 79) ∷ marked 4 (Told (replies.Moved 0 2)) ∷ []
