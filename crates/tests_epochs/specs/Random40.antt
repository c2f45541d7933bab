-- Random: sites 3, clients 3, steps 361, messages 117, cuts 2, commits 4, conflicts 3, short rounds 7, falls 6, rises
-- 4, unwritten records 3, closes 3.
use Rattle.std.specs.Prelude.{List, [], ◌∷◌, Some, None}
use Rattle.qc_decl.specs.declared.declaration.Declaration.{Declaration}
use Rattle.qc_decl.specs.Vocabulary.{row}
use Rattle.qc_msg.specs.Vocabulary.{Entry, marked}
use Rattle.tests_histories.specs.Words.{tx, stamp, own_line, operation, read_lock, prepare, commit, declaration, kind}
use Rattle.tests_histories.specs.Words.{pair, plan}
use Rattle.qc_msg.specs.declared.step.Step.TheVariants.{Phase, Cut, Heal, Called, Got, Wrote, Sent, Told, Armed, Fell}
use Rattle.qc_msg.specs.declared.step.Step.TheVariants.{Rose}
use Rattle.tests_epochs.specs.Words.{tx_in, prepared}
use Rattle.qc_msg.specs.declared.message.Answer.TheVariants as answers
use Rattle.qc_msg.specs.declared.step.Command.TheVariants as commands
use Rattle.qc_msg.specs.declared.reply.Half.TheVariants as halves
use Rattle.qc_msg.specs.declared.message.Message.TheVariants as messages
use Rattle.qc_msg.specs.declared.message.Outcome.TheVariants as outcomes
use Rattle.qc_msg.specs.declared.record.Record.TheVariants as records
use Rattle.qc_msg.specs.declared.reply.Reply.TheVariants as replies
use Rattle.qc_msg.specs.declared.message.Want.TheVariants as wants
use Rattle.qc_msg.specs.declared.step.Fall.TheVariants as falls
use Rattle.qc_msg.specs.Vocabulary.{whole_grant, first_read, snapshot_with, start_with}
use Rattle.qc_outside.specs.declared.disk.ArmKind.TheVariants as arms

abbrev pub decl : Declaration
decl =
    declaration 3 3 (kind 2 3 2 0 (row 0 0 1 1 ∷ row 0 0 0 1 ∷ row 0 1 0 0 ∷ row 0 2 1 0 ∷ row 0 2 0 0 ∷ row 1 0 0 1 ∷
    row 1 2 0 1 ∷ []) (pair 0 0 ∷ pair 0 1 ∷ pair 1 0 ∷ pair 1 1 ∷ pair 2 0 ∷ pair 2 1 ∷ []) ∷ kind 4 3 1 0 (row 0 1 0 2
    ∷ row 0 2 0 0 ∷ row 1 0 0 1 ∷ row 1 1 0 0 ∷ row 1 2 0 1 ∷ row 2 0 0 0 ∷ row 2 1 0 0 ∷ row 2 2 0 3 ∷ row 3 0 0 3 ∷
    row 3 2 0 2 ∷ []) (pair 0 0 ∷ pair 0 1 ∷ pair 0 2 ∷ pair 1 0 ∷ pair 1 1 ∷ pair 1 2 ∷ []) ∷ []) (0 ∷ 0 ∷ []) (plan (1
    ∷ 1 ∷ 1 ∷ []) ((2 ∷ 2 ∷ 1 ∷ []) ∷ (1 ∷ 2 ∷ 3 ∷ []) ∷ []) ((3 ∷ 3 ∷ 0 ∷ 0 ∷ 1 ∷ []) ∷ (3 ∷ 3 ∷ 0 ∷ 0 ∷ 0 ∷ []) ∷ [])
    ∷ plan (1 ∷ 1 ∷ 0 ∷ []) ((1 ∷ 1 ∷ 2 ∷ []) ∷ (1 ∷ 2 ∷ 1 ∷ []) ∷ []) ((2 ∷ 2 ∷ 0 ∷ 0 ∷ 0 ∷ []) ∷ (2 ∷ 2 ∷ 0 ∷ 0 ∷ 0 ∷
    []) ∷ []) ∷ [])

abbrev pub history : List Entry
history =
    marked 7 (Phase 1) ∷ marked 3 (Called commands.Begin) ∷ marked 4 (Called commands.Begin) ∷
    marked 3 (Told (replies.Began (tx 0 1))) ∷ marked 3 (Called (commands.Do 1 1)) ∷
    marked 4 (Told (replies.Began (tx 1 1))) ∷ marked 4 (Called (commands.Do 0 0)) ∷
    marked 3 (Sent 0 0 (messages.Request (tx 0 1) 1 0 (wants.Read (first_read 1 1)))) ∷
    marked 3 (Sent 1 1 (messages.Request (tx 0 1) 1 0 (wants.Read (first_read 1 1)))) ∷
    marked 4 (Sent 2 1 (messages.Request (tx 1 1) 1 0 (wants.Read (first_read 0 0)))) ∷
    marked 4 (Sent 3 2 (messages.Request (tx 1 1) 1 0 (wants.Read (first_read 0 0)))) ∷ marked 2 (Got 3) ∷
    marked 0 (Got 0)
    ∷
    marked 2 (Sent 4 4 (messages.Answer 3 (answers.Granted (whole_grant 1 0 [])))) ∷
    marked 0 (Sent 5 3 (messages.Answer 0 (answers.Granted (whole_grant 1 0 [])))) ∷ marked 4 (Got 4) ∷ marked 3 (Got 5)
    ∷
    marked 1 (Got 1) ∷ marked 1 (Sent 6 3 (messages.Answer 1 (answers.Granted (whole_grant 1 0 [])))) ∷ marked 3 (Got 6)
    ∷
    marked 1 (Got 2) ∷ marked 1 (Sent 7 4 (messages.Answer 2 (answers.Granted (whole_grant 1 0 [])))) ∷ marked 4 (Got 7)
    ∷
    marked 4 (Sent 8 1 (messages.Request (tx 1 1) 1 1 (wants.Append 0 [] (own_line 1 0 1 ∷ [])))) ∷
    marked 4 (Sent 9 2 (messages.Request (tx 1 1) 1 1 (wants.Append 0 [] (own_line 1 0 1 ∷ [])))) ∷
    marked 4 (Sent 10 0 (messages.Request (tx 1 1) 1 0 (wants.Append 0 [] (own_line 1 0 1 ∷ [])))) ∷ marked 2 (Got 9) ∷
    marked 0 (Got 10) ∷ marked 1 (Got 8) ∷ marked 3 (Told (replies.Response 0)) ∷ marked 3 (Called commands.Commit) ∷
    marked 2 (Sent 11 4 (messages.Answer 9 (answers.Granted (whole_grant 1 0 [])))) ∷ marked 4 (Got 11) ∷
    marked 0 (Sent 12 4 (messages.Answer 10 (answers.Granted (whole_grant 1 0 [])))) ∷
    marked 1 (Sent 13 4 (messages.Answer 8 (answers.Granted (whole_grant 1 0 [])))) ∷ marked 4 (Got 12) ∷
    marked 3 (Sent 14 0 (messages.Request (tx 0 1) 1 1 wants.Prepare)) ∷
    marked 3 (Sent 15 1 (messages.Request (tx 0 1) 1 1 wants.Prepare)) ∷ marked 0 (Got 14) ∷ marked 1 (Got 15) ∷
    marked 4 (Got 13) ∷ marked 1 (Wrote (prepare (tx 0 1) 1 (read_lock 1 1 ∷ []) [] [])) ∷
    marked 1 (Sent 16 3 (messages.Answer 15 (answers.Yes 0))) ∷ marked 3 (Got 16) ∷
    marked 0 (Wrote (prepare (tx 0 1) 1 (read_lock 1 1 ∷ []) [] [])) ∷
    marked 0 (Sent 17 3 (messages.Answer 14 (answers.Yes 0))) ∷ marked 3 (Got 17) ∷
    marked 4 (Told (replies.Response 0)) ∷ marked 4 (Called (commands.Do 1 1)) ∷
    marked 4 (Sent 18 1 (messages.Request (tx 1 1) 1 1 (wants.Read (first_read 1 1)))) ∷
    marked 4 (Sent 19 2 (messages.Request (tx 1 1) 1 1 (wants.Read (first_read 1 1)))) ∷ marked 1 (Got 18)
    ∷ marked 2 (Got 19) ∷
    marked 2 (Sent 20 4 (messages.Answer 19 (answers.Granted (whole_grant 1 0 [])))) ∷ marked 4 (Got 20) ∷
    marked 1 (Sent 21 4 (messages.Answer 18 (answers.Granted (whole_grant 1 0 [])))) ∷ marked 4 (Got 21) ∷
    marked 3 (Told replies.Unknown) ∷
    marked 3 (Fell falls.Stop (Some (commit (stamp 1 0) (tx 0 1) (operation 1 1 (Some 0) ∷ [])))) ∷
    marked 4 (Told (replies.Response 0)) ∷ marked 7 (Phase 2) ∷ marked 7 (Cut 1 2) ∷ marked 1 (Fell falls.Script None) ∷
    marked 1 (Rose ((prepare (tx 0 1) 1 (read_lock 1 1 ∷ []) [] []) ∷ [])) ∷ marked 1 (Wrote records.Life) ∷
    marked 1 (Sent 22 3 (messages.Inquiry (tx 0 1))) ∷
    marked 3 (Rose ((commit (stamp 1 0) (tx 0 1) (operation 1 1 (Some 0) ∷ [])) ∷ [])) ∷ marked 3 (Wrote records.Life) ∷
    marked 7 (Armed 3 arms.Stop 3) ∷ marked 3 (Called commands.Begin) ∷ marked 5 (Called commands.Begin) ∷
    marked 5 (Told (replies.Began (tx 2 1))) ∷ marked 3 (Told (replies.Began (tx_in 0 2 1))) ∷
    marked 3 (Called (commands.Do 0 0))
    ∷ marked 3 (Sent 23 0 (messages.Request (tx_in 0 2 1) 1 0 (wants.Read (first_read 0 0)))) ∷
    marked 3 (Sent 24 1 (messages.Request (tx_in 0 2 1) 1 0 (wants.Read (first_read 0 0)))) ∷ marked 1 (Got 24)
    ∷ marked 0 (Got 23) ∷
    marked 0 (Sent 25 3 (messages.Answer 23 (answers.Clash (tx 1 1) 0 1))) ∷
    marked 0 (Sent 26 4 (messages.Inquiry (tx 1 1))) ∷ marked 4 (Got 26) ∷ marked 3 (Got 25) ∷
    marked 4 (Sent 27 0 (messages.Decision (tx 1 1) outcomes.Active)) ∷ marked 0 (Got 27) ∷
    marked 1 (Sent 28 3 (messages.Answer 24 (answers.Granted (whole_grant 2 0 [])))) ∷ marked 3 (Got 28) ∷
    marked 3 (Told (replies.Conflict (tx 1 1) 0)) ∷ marked 3 (Called (commands.Do 0 0)) ∷
    marked 3 (Sent 29 0 (messages.Request (tx_in 0 2 1) 1 0 (wants.Read (first_read 0 0)))) ∷
    marked 3 (Sent 30 1 (messages.Request (tx_in 0 2 1) 1 2 (wants.Read (first_read 0 0)))) ∷ marked 1 (Got 30)
    ∷ marked 0 (Got 29) ∷
    marked 0 (Sent 31 3 (messages.Answer 29 (answers.Clash (tx 1 1) 0 1))) ∷
    marked 0 (Sent 32 4 (messages.Inquiry (tx 1 1))) ∷ marked 4 (Got 32) ∷
    marked 4 (Sent 33 0 (messages.Decision (tx 1 1) outcomes.Active)) ∷
    marked 1 (Sent 34 3 (messages.Answer 30 (answers.Granted (whole_grant 2 0 [])))) ∷ marked 0 (Got 33)
    ∷ marked 3 (Got 31) ∷
    marked 3 (Got 34) ∷ marked 3 (Told (replies.Conflict (tx 1 1) 0)) ∷ marked 3 (Called (commands.Do 0 1)) ∷
    marked 3 (Sent 35 0 (messages.Request (tx_in 0 2 1) 1 0 (wants.Read (first_read 0 1)))) ∷
    marked 3 (Sent 36 1 (messages.Request (tx_in 0 2 1) 1 2 (wants.Read (first_read 0 1)))) ∷ marked 1 (Got 36) ∷
    marked 1 (Sent 37 3 (messages.Answer 36 (answers.Granted (whole_grant 2 0 [])))) ∷ marked 3 (Got 37)
    ∷ marked 0 (Got 35) ∷
    marked 0 (Sent 38 3 (messages.Answer 35 (answers.Clash (tx 1 1) 1 1))) ∷
    marked 0 (Sent 39 4 (messages.Inquiry (tx 1 1))) ∷ marked 3 (Got 38) ∷ marked 4 (Got 39) ∷
    marked 4 (Sent 40 0 (messages.Decision (tx 1 1) outcomes.Active)) ∷ marked 0 (Got 40) ∷
    marked 3 (Told (replies.Conflict (tx 1 1) 0)) ∷ marked 3 (Called commands.Commit) ∷
    marked 3 (Sent 41 1 (messages.Request (tx_in 0 2 1) 1 2 wants.Prepare)) ∷ marked 1 (Got 41) ∷
    marked 1 (Wrote (prepare (tx_in 0 2 1) 1 (read_lock 0 0 ∷ read_lock 0 1 ∷ []) [] [])) ∷
    marked 1 (Sent 42 3 (messages.Answer 41 (answers.Yes 0))) ∷ marked 3 (Got 42) ∷
    marked 3 (Wrote (commit (stamp 2 0) (tx_in 0 2 1) [])) ∷
    marked 3 (Sent 43 0 (messages.Decision (tx_in 0 2 1) (outcomes.Committed (stamp 2 0)))) ∷
    marked 3 (Sent 44 1 (messages.Decision (tx_in 0 2 1) (outcomes.Committed (stamp 2 0)))) ∷
    marked 3 (Told (replies.Committed (stamp 2 0))) ∷ marked 1 (Got 44) ∷ marked 0 (Got 43) ∷
    marked 1 (Wrote (records.Done (tx_in 0 2 1) 2)) ∷ marked 7 (Phase 3) ∷ marked 7 (Cut 4 6) ∷
    marked 7 (Armed 4 arms.Stop 5) ∷ marked 5 (Called (commands.Do 0 0)) ∷ marked 6 (Called (commands.Epoch 2)) ∷
    marked 3 (Called commands.Begin) ∷ marked 6 (Sent 45 0 (messages.Close 2)) ∷
    marked 6 (Sent 46 1 (messages.Close 2)) ∷ marked 6 (Sent 47 2 (messages.Close 2)) ∷ marked 0 (Got 45) ∷
    marked 2 (Got 47) ∷ marked 1 (Got 46) ∷ marked 1 (Wrote (records.Close 2)) ∷
    marked 1 (Sent 48 6 (messages.Answer 46 (answers.Shut (snapshot_with 2 [] (prepared (tx 0 1) 1 (read_lock 1 1 ∷ []) [] [] ∷ [])))))
    ∷
    marked 6 (Got 48) ∷ marked 0 (Wrote (records.Close 2)) ∷
    marked 0 (Sent 49 6 (messages.Answer 45 (answers.Shut (snapshot_with 2 [] (prepared (tx 0 1) 1 (read_lock 1 1 ∷ []) [] [] ∷ [])))))
    ∷
    marked 6 (Got 49) ∷ marked 3 (Told (replies.Began (tx_in 0 2 2))) ∷ marked 3 (Called (commands.Do 1 2)) ∷
    marked 5 (Sent 50 2 (messages.Request (tx 2 1) 1 0 (wants.Read (first_read 0 0)))) ∷
    marked 5 (Sent 51 0 (messages.Request (tx 2 1) 1 0 (wants.Read (first_read 0 0)))) ∷ marked 0 (Got 51) ∷
    marked 2 (Wrote (records.Close 2))
    ∷ marked 2 (Sent 52 6 (messages.Answer 47 (answers.Shut (snapshot_with 0 [] [])))) ∷
    marked 2 (Got 50) ∷ marked 6 (Got 52) ∷ marked 6 (Sent 53 3 (messages.Ask (tx 0 1))) ∷
    marked 3 (Sent 54 0 (messages.Request (tx_in 0 2 2) 1 0 (wants.Read (first_read 1 2)))) ∷
    marked 3 (Sent 55 1 (messages.Request (tx_in 0 2 2) 1 0 (wants.Read (first_read 1 2)))) ∷
    marked 3 (Sent 56 2 (messages.Request (tx_in 0 2 2) 1 0 (wants.Read (first_read 1 2)))) ∷ marked 1 (Got 55)
    ∷ marked 3 (Got 53) ∷
    marked 0 (Sent 57 5 (messages.Answer 51 (answers.Closed 2))) ∷
    marked 1 (Sent 58 3 (messages.Answer 55 (answers.Closed 2))) ∷ marked 0 (Got 54) ∷ marked 5 (Got 57) ∷
    marked 0 (Sent 59 3 (messages.Answer 54 (answers.Closed 2))) ∷
    marked 3 (Sent 60 6 (messages.Answer 53 (answers.Answered (outcomes.Committed (stamp 1 0))))) ∷ marked 3 (Got 58) ∷
    marked 6 (Got 60) ∷ marked 3 (Got 59) ∷ marked 6 (Told replies.Fault) ∷
    marked 6 (Fell falls.Stop (Some (records.Decide (start_with 2 2 [])))) ∷ marked 6 (Called (commands.Epoch 2)) ∷
    marked 2 (Sent 61 5 (messages.Answer 50 (answers.Closed 2))) ∷ marked 5 (Got 61) ∷ marked 2 (Got 56) ∷
    marked 2 (Sent 62 3 (messages.Answer 56 (answers.Closed 2))) ∷ marked 3 (Got 62) ∷ marked 6 (Told replies.Down) ∷
    marked 3 (Told (replies.Closed 2 0)) ∷ marked 3 (Called (commands.Do 0 1)) ∷
    marked 3 (Sent 63 0 (messages.Request (tx_in 0 2 2) 1 0 (wants.Read (first_read 0 1)))) ∷
    marked 3 (Sent 64 1 (messages.Request (tx_in 0 2 2) 1 0 (wants.Read (first_read 0 1)))) ∷ marked 0 (Got 63)
    ∷ marked 1 (Got 64) ∷
    marked 5 (Told (replies.Closed 2 2)) ∷ marked 1 (Sent 65 3 (messages.Answer 64 (answers.Closed 2))) ∷
    marked 3 (Got 65) ∷ marked 5 (Called commands.Commit) ∷ marked 5 (Told replies.Unknown) ∷
    marked 5 (Fell falls.Disk (Some (commit (stamp 1 2) (tx 2 1) []))) ∷
    marked 0 (Sent 66 3 (messages.Answer 63 (answers.Closed 2))) ∷ marked 3 (Got 66) ∷
    marked 3 (Told (replies.Closed 2 0)) ∷ marked 3 (Called (commands.Do 1 0)) ∷
    marked 3 (Sent 67 0 (messages.Request (tx_in 0 2 2) 1 0 (wants.Read (first_read 1 0)))) ∷ marked 0 (Got 67) ∷
    marked 0 (Sent 68 3 (messages.Answer 67 (answers.Closed 2))) ∷ marked 3 (Got 68) ∷
    marked 3 (Told (replies.Closed 2 0)) ∷ marked 7 (Phase 4) ∷ marked 7 (Heal 4 6) ∷
    marked 1 (Fell falls.Script None) ∷
    marked 1 (Rose ((prepare (tx 0 1) 1 (read_lock 1 1 ∷ []) [] []) ∷ records.Life ∷ (prepare (tx_in 0 2 1) 1 (read_lock
    0 0 ∷ read_lock 0 1 ∷ []) [] []) ∷ (records.Done (tx_in 0 2 1) 2) ∷ (records.Close 2) ∷ [])) ∷
    marked 1 (Wrote records.Life) ∷ marked 1 (Sent 69 3 (messages.Inquiry (tx 0 1))) ∷
    marked 4 (Fell falls.Script None) ∷ marked 4 (Rose []) ∷ marked 4 (Wrote records.Life) ∷ marked 3 (Got 69) ∷
    marked 5 (Called commands.Begin) ∷ marked 4 (Called (commands.Do 0 0)) ∷ marked 5 (Told replies.Down) ∷
    marked 5 (Called (commands.Do 0 2)) ∷
    marked 3 (Sent 70 1 (messages.Decision (tx 0 1) (outcomes.Committed (stamp 1 0)))) ∷ marked 1 (Got 70) ∷
    marked 3 (Called (commands.Do 0 0)) ∷ marked 1 (Wrote (records.Done (tx 0 1) 1)) ∷
    marked 4 (Told replies.NoTransaction) ∷ marked 5 (Told replies.Down) ∷ marked 5 (Called commands.Commit) ∷
    marked 4 (Called (commands.Do 1 2)) ∷ marked 4 (Told replies.NoTransaction) ∷ marked 4 (Called commands.Commit) ∷
    marked 5 (Told replies.Down) ∷
    marked 3 (Sent 71 0 (messages.Request (tx_in 0 2 2) 1 0 (wants.Read (first_read 0 0))))
    ∷
    marked 3 (Sent 72 1 (messages.Request (tx_in 0 2 2) 1 0 (wants.Read (first_read 0 0)))) ∷ marked 0 (Got 71)
    ∷ marked 1 (Got 72) ∷
    marked 0 (Sent 73 3 (messages.Answer 71 (answers.Closed 2))) ∷ marked 3 (Got 73) ∷
    marked 1 (Sent 74 3 (messages.Answer 72 (answers.Closed 2))) ∷ marked 3 (Got 74) ∷
    marked 3 (Told (replies.Closed 2 0)) ∷ marked 3 (Called (commands.Do 1 0)) ∷
    marked 3 (Sent 75 0 (messages.Request (tx_in 0 2 2) 1 0 (wants.Read (first_read 1 0)))) ∷ marked 0 (Got 75) ∷
    marked 4 (Told replies.NoTransaction) ∷ marked 0 (Sent 76 3 (messages.Answer 75 (answers.Closed 2))) ∷
    marked 3 (Got 76) ∷ marked 3 (Told (replies.Closed 2 0)) ∷ marked 3 (Called (commands.Do 1 1)) ∷
    marked 3 (Sent 77 0 (messages.Request (tx_in 0 2 2) 1 0 (wants.Read (first_read 1 1)))) ∷
    marked 3 (Sent 78 1 (messages.Request (tx_in 0 2 2) 1 0 (wants.Read (first_read 1 1)))) ∷ marked 0 (Got 77)
    ∷ marked 1 (Got 78) ∷
    marked 1 (Sent 79 3 (messages.Answer 78 (answers.Closed 2))) ∷ marked 3 (Got 79) ∷
    marked 0 (Sent 80 3 (messages.Answer 77 (answers.Closed 2))) ∷ marked 3 (Got 80) ∷
    marked 3 (Told (replies.Closed 2 0)) ∷ marked 3 (Called commands.Commit) ∷
    marked 3 (Wrote (commit (stamp 3 0) (tx_in 0 2 2) [])) ∷
    marked 3 (Sent 81 0 (messages.Decision (tx_in 0 2 2) (outcomes.Committed (stamp 3 0)))) ∷
    marked 3 (Sent 82 1 (messages.Decision (tx_in 0 2 2) (outcomes.Committed (stamp 3 0)))) ∷
    marked 3 (Sent 83 2 (messages.Decision (tx_in 0 2 2) (outcomes.Committed (stamp 3 0)))) ∷
    marked 3 (Told (replies.Committed (stamp 3 0))) ∷ marked 0 (Got 81) ∷ marked 2 (Got 83) ∷ marked 1 (Got 82) ∷
    marked 3 (Called commands.Begin) ∷ marked 3 (Told (replies.Began (tx_in 0 2 3))) ∷
    marked 3 (Called (commands.Do 1 2))
    ∷ marked 3 (Sent 84 0 (messages.Request (tx_in 0 2 3) 2 0 (wants.Read (first_read 1 2)))) ∷
    marked 0 (Got 84) ∷ marked 0 (Sent 85 3 (messages.Answer 84 (answers.Behind 1))) ∷ marked 3 (Got 85) ∷
    marked 3 (Sent 86 1 (messages.Request (tx_in 0 2 3) 2 0 (wants.Read (first_read 1 2)))) ∷ marked 1 (Got 86) ∷
    marked 1 (Sent 87 3 (messages.Answer 86 (answers.Behind 1))) ∷ marked 3 (Got 87) ∷
    marked 3 (Told (replies.Quorum halves.Read 0 1)) ∷ marked 3 (Called (commands.Do 0 1)) ∷
    marked 3 (Sent 88 0 (messages.Request (tx_in 0 2 3) 2 0 (wants.Read (first_read 0 1)))) ∷ marked 0 (Got 88) ∷
    marked 0 (Sent 89 3 (messages.Answer 88 (answers.Behind 1))) ∷ marked 3 (Got 89) ∷
    marked 3 (Sent 90 1 (messages.Request (tx_in 0 2 3) 2 0 (wants.Read (first_read 0 1)))) ∷ marked 1 (Got 90) ∷
    marked 1 (Sent 91 3 (messages.Answer 90 (answers.Behind 1))) ∷ marked 3 (Got 91) ∷
    marked 3 (Told (replies.Quorum halves.Read 0 1)) ∷ marked 3 (Called commands.Commit) ∷
    marked 3 (Wrote (commit (stamp 4 0) (tx_in 0 2 3) [])) ∷
    marked 3 (Sent 92 0 (messages.Decision (tx_in 0 2 3) (outcomes.Committed (stamp 4 0)))) ∷
    marked 3 (Sent 93 1 (messages.Decision (tx_in 0 2 3) (outcomes.Committed (stamp 4 0)))) ∷
    marked 3 (Told (replies.Committed (stamp 4 0))) ∷ marked 0 (Got 92) ∷ marked 1 (Got 93) ∷ marked 7 (Phase 5) ∷
    marked 3 (Called commands.Begin) ∷ marked 3 (Told (replies.Began (tx_in 0 2 4))) ∷
    marked 3 (Called (commands.Do 1 0)) ∷ marked 5 (Called commands.Begin) ∷ marked 4 (Called commands.Begin) ∷
    marked 5 (Told replies.Down) ∷ marked 5 (Called commands.Commit) ∷ marked 5 (Told replies.Down) ∷
    marked 3 (Sent 94 0 (messages.Request (tx_in 0 2 4) 2 0 (wants.Read (first_read 1 0)))) ∷ marked 0 (Got 94) ∷
    marked 0 (Sent 95 3 (messages.Answer 94 (answers.Behind 1))) ∷ marked 3 (Got 95) ∷
    marked 4 (Told (replies.Began (tx_in 1 2 1))) ∷ marked 4 (Called (commands.Do 0 2)) ∷
    marked 3 (Sent 96 1 (messages.Request (tx_in 0 2 4) 2 0 (wants.Read (first_read 1 0)))) ∷ marked 1 (Got 96) ∷
    marked 4 (Sent 97 1 (messages.Request (tx_in 1 2 1) 1 0 (wants.Read (first_read 0 2)))) ∷
    marked 1 (Sent 98 3 (messages.Answer 96 (answers.Behind 1))) ∷ marked 1 (Got 97) ∷ marked 3 (Got 98) ∷
    marked 1 (Sent 99 4 (messages.Answer 97 (answers.Closed 2))) ∷ marked 4 (Got 99) ∷
    marked 4 (Told (replies.Closed 2 1)) ∷ marked 4 (Called commands.Commit) ∷
    marked 3 (Told (replies.Quorum halves.Read 0 1)) ∷ marked 3 (Called (commands.Do 0 1)) ∷
    marked 3 (Sent 100 0 (messages.Request (tx_in 0 2 4) 2 0 (wants.Read (first_read 0 1)))) ∷ marked 0 (Got 100) ∷
    marked 4 (Wrote (commit (stamp 1 1) (tx_in 1 2 1) [])) ∷
    marked 4 (Sent 101 1 (messages.Decision (tx_in 1 2 1) (outcomes.Committed (stamp 1 1)))) ∷
    marked 4 (Told (replies.Committed (stamp 1 1))) ∷ marked 4 (Called commands.Begin) ∷
    marked 4 (Told (replies.Began (tx_in 1 2 2))) ∷ marked 4 (Called (commands.Do 0 1)) ∷ marked 1 (Got 101) ∷
    marked 0 (Sent 102 3 (messages.Answer 100 (answers.Behind 1))) ∷ marked 3 (Got 102) ∷
    marked 4 (Sent 103 1 (messages.Request (tx_in 1 2 2) 2 0 (wants.Read (first_read 0 1)))) ∷
    marked 3 (Sent 104 1 (messages.Request (tx_in 0 2 4) 2 0 (wants.Read (first_read 0 1)))) ∷ marked 1 (Got 103) ∷
    marked 1 (Sent 105 4 (messages.Answer 103 (answers.Behind 1))) ∷ marked 1 (Got 104) ∷ marked 4 (Got 105) ∷
    marked 4 (Sent 106 0 (messages.Request (tx_in 1 2 2) 2 0 (wants.Read (first_read 0 1)))) ∷ marked 0 (Got 106) ∷
    marked 1 (Sent 107 3 (messages.Answer 104 (answers.Behind 1))) ∷ marked 3 (Got 107) ∷
    marked 3 (Told (replies.Quorum halves.Read 0 1)) ∷ marked 3 (Called (commands.Do 0 2)) ∷
    marked 0 (Sent 108 4 (messages.Answer 106 (answers.Behind 1))) ∷ marked 4 (Got 108) ∷
    marked 4 (Told (replies.Quorum halves.Read 0 1)) ∷ marked 4 (Called (commands.Do 1 1)) ∷
    marked 4 (Sent 109 1 (messages.Request (tx_in 1 2 2) 2 0 (wants.Read (first_read 1 1)))) ∷
    marked 4 (Sent 110 0 (messages.Request (tx_in 1 2 2) 2 0 (wants.Read (first_read 1 1)))) ∷ marked 1 (Got 109) ∷
    marked 0 (Got 110) ∷ marked 0 (Sent 111 4 (messages.Answer 110 (answers.Behind 1))) ∷ marked 4 (Got 111) ∷
    marked 3 (Sent 112 0 (messages.Request (tx_in 0 2 4) 2 0 (wants.Read (first_read 0 2)))) ∷
    marked 3 (Sent 113 1 (messages.Request (tx_in 0 2 4) 2 0 (wants.Read (first_read 0 2)))) ∷ marked 0 (Got 112) ∷
    marked 1 (Sent 114 4 (messages.Answer 109 (answers.Behind 1))) ∷ marked 1 (Got 113) ∷ marked 4 (Got 114) ∷
    marked 0 (Sent 115 3 (messages.Answer 112 (answers.Behind 1))) ∷ marked 3 (Got 115) ∷
    marked 4 (Told (replies.Quorum halves.Read 0 2)) ∷ marked 1 (Sent 116 3 (messages.Answer 113 (answers.Behind 1))) ∷
    marked 3 (Got 116) ∷ marked 3 (Told (replies.Quorum halves.Read 0 2)) ∷ []
