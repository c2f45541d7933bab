-- Random: sites 3, clients 3, steps 318, messages 110, lost 10, cuts 1, commits 4, conflicts 4, short rounds 2, absent
-- 2, falls 4, rises 4, unwritten records 3, closes 2.
use Rattle.std.specs.Prelude.{List, [], ◌∷◌, Some, None}
use Rattle.qc_decl.specs.declared.declaration.Declaration.{Declaration}
use Rattle.qc_decl.specs.Vocabulary.{row}
use Rattle.qc_msg.specs.Vocabulary.{Entry, marked}
use Rattle.tests_histories.specs.Words.{tx, stamp, line, own_line, operation, read_lock, prepare, commit, declaration}
use Rattle.tests_histories.specs.Words.{kind, pair, plan}
use Rattle.qc_msg.specs.declared.step.Step.TheVariants.{Phase, Cut, Heal, Called, Got, Lost, Wrote, Sent, Told, Armed}
use Rattle.qc_msg.specs.declared.step.Step.TheVariants.{Fell, Rose}
use Rattle.tests_epochs.specs.Words.{tx_in, prepared}
use Rattle.qc_msg.specs.declared.message.Answer.TheVariants as answers
use Rattle.qc_msg.specs.declared.step.Command.TheVariants as commands
use Rattle.qc_msg.specs.declared.reply.Half.TheVariants as halves
use Rattle.qc_msg.specs.declared.message.Message.TheVariants as messages
use Rattle.qc_msg.specs.declared.message.Outcome.TheVariants as outcomes
use Rattle.qc_msg.specs.declared.record.Record.TheVariants as records
use Rattle.qc_msg.specs.declared.reply.Reply.TheVariants as replies
use Rattle.qc_msg.specs.declared.message.Want.TheVariants as wants
use Rattle.qc_msg.specs.declared.step.Fall.TheVariants as falls
use Rattle.qc_msg.specs.Vocabulary.{whole_grant, first_read, snapshot_with}
use Rattle.qc_outside.specs.declared.disk.ArmKind.TheVariants as arms

abbrev pub decl : Declaration
decl =
    declaration 3 3 (kind 4 3 3 0 (row 0 0 0 1 ∷ row 0 1 0 2 ∷ row 1 1 0 3 ∷ row 2 0 0 3 ∷ row 1 2 1 0 ∷ row 2 2 2 0 ∷
    row 3 2 1 2 ∷ row 3 2 2 1 ∷ []) (pair 0 0 ∷ pair 0 2 ∷ pair 0 3 ∷ pair 1 1 ∷ pair 1 2 ∷ pair 1 3 ∷ pair 2 0 ∷ pair 2
    1 ∷ pair 2 2 ∷ pair 2 3 ∷ []) ∷ kind 2 2 2 0 (row 0 0 0 1 ∷ row 1 1 1 0 ∷ []) (pair 0 0 ∷ pair 0 1 ∷ pair 1 0 ∷ pair
    1 1 ∷ []) ∷ []) (0 ∷ []) (plan (1 ∷ 1 ∷ 1 ∷ []) ((2 ∷ 2 ∷ 2 ∷ []) ∷ []) ((2 ∷ 2 ∷ 2 ∷ 2 ∷ []) ∷ []) ∷ plan (1 ∷ 2 ∷
    1 ∷ []) ((3 ∷ 3 ∷ 3 ∷ []) ∷ []) ((2 ∷ 3 ∷ 2 ∷ 2 ∷ []) ∷ []) ∷ plan (1 ∷ 1 ∷ 3 ∷ []) ((3 ∷ 3 ∷ 3 ∷ []) ∷ []) ((3 ∷ 5
    ∷ 3 ∷ 3 ∷ []) ∷ []) ∷ [])

abbrev pub history : List Entry
history =
    marked 7 (Phase 1) ∷ marked 7 (Armed 3 arms.Stop 1) ∷ marked 5 (Called commands.Begin) ∷
    marked 5 (Told (replies.Began (tx 2 1))) ∷ marked 5 (Called (commands.Do 0 0)) ∷
    marked 5 (Sent 0 2 (messages.Request (tx 2 1) 1 0 (wants.Read (first_read 0 0)))) ∷
    marked 5 (Sent 1 0 (messages.Request (tx 2 1) 1 0 (wants.Read (first_read 0 0)))) ∷ marked 0 (Got 1) ∷
    marked 0 (Sent 2 5 (messages.Answer 1 (answers.Granted (whole_grant 1 0 [])))) ∷ marked 5 (Got 2) ∷ marked 2 (Got 0)
    ∷
    marked 2 (Sent 3 5 (messages.Answer 0 (answers.Granted (whole_grant 1 0 [])))) ∷ marked 5 (Got 3) ∷
    marked 5 (Sent 4 2 (messages.Request (tx 2 1) 1 1 (wants.Append 0 [] (own_line 1 0 0 ∷ [])))) ∷
    marked 5 (Sent 5 0 (messages.Request (tx 2 1) 1 1 (wants.Append 0 [] (own_line 1 0 0 ∷ [])))) ∷ marked 0 (Got 5) ∷
    marked 0 (Sent 6 5 (messages.Answer 5 (answers.Granted (whole_grant 1 0 [])))) ∷ marked 5 (Got 6) ∷ marked 2 (Got 4)
    ∷
    marked 2 (Sent 7 5 (messages.Answer 4 (answers.Granted (whole_grant 1 0 [])))) ∷ marked 5 (Got 7) ∷
    marked 5 (Told (replies.Response 0)) ∷ marked 4 (Called commands.Begin) ∷ marked 4 (Told (replies.Began (tx 1 1))) ∷
    marked 4 (Called (commands.Do 0 1)) ∷
    marked 4 (Sent 8 1 (messages.Request (tx 1 1) 1 0 (wants.Read (first_read 0 1))))
    ∷
    marked 4 (Sent 9 2 (messages.Request (tx 1 1) 1 0 (wants.Read (first_read 0 1)))) ∷ marked 1 (Got 8) ∷
    marked 1 (Sent 10 4 (messages.Answer 8 (answers.Granted (whole_grant 1 0 [])))) ∷ marked 4 (Got 10)
    ∷ marked 2 (Got 9) ∷
    marked 2 (Sent 11 4 (messages.Answer 9 (answers.Granted (whole_grant 1 0 [])))) ∷ marked 4 (Got 11) ∷
    marked 4 (Sent 12 1 (messages.Request (tx 1 1) 1 1 (wants.Append 0 [] (own_line 1 0 1 ∷ [])))) ∷
    marked 4 (Sent 13 2 (messages.Request (tx 1 1) 1 1 (wants.Append 0 [] (own_line 1 0 1 ∷ [])))) ∷ marked 1 (Got 12) ∷
    marked 1 (Sent 14 4 (messages.Answer 12 (answers.Granted (whole_grant 1 0 [])))) ∷ marked 2 (Got 13) ∷
    marked 2 (Sent 15 4 (messages.Answer 13 (answers.Granted (whole_grant 1 0 [])))) ∷ marked 4 (Got 14)
    ∷ marked 4 (Got 15) ∷
    marked 4 (Told (replies.Response 0)) ∷ marked 4 (Called (commands.Do 0 2)) ∷
    marked 4 (Sent 16 1 (messages.Request (tx 1 1) 1 1 (wants.Read (first_read 0 2)))) ∷
    marked 4 (Sent 17 2 (messages.Request (tx 1 1) 1 1 (wants.Read (first_read 0 2)))) ∷ marked 1 (Got 16) ∷
    marked 1 (Sent 18 4 (messages.Answer 16 (answers.Granted (whole_grant 1 0 [])))) ∷ marked 2 (Got 17) ∷
    marked 2 (Sent 19 4 (messages.Answer 17 (answers.Clash (tx 2 1) 2 0))) ∷
    marked 2 (Sent 20 5 (messages.Inquiry (tx 2 1))) ∷ marked 5 (Got 20) ∷
    marked 5 (Sent 21 2 (messages.Decision (tx 2 1) outcomes.Active)) ∷ marked 4 (Got 18) ∷ marked 2 (Got 21) ∷
    marked 4 (Got 19) ∷ marked 4 (Told (replies.Conflict (tx 2 1) 2)) ∷ marked 4 (Called commands.Commit) ∷
    marked 4 (Sent 22 1 (messages.Request (tx 1 1) 1 1 wants.Prepare)) ∷
    marked 4 (Sent 23 2 (messages.Request (tx 1 1) 1 1 wants.Prepare)) ∷ marked 1 (Got 22) ∷
    marked 1 (Wrote (prepare (tx 1 1) 1 (read_lock 0 1 ∷ read_lock 0 2 ∷ []) (own_line 1 0 1 ∷ []) [])) ∷
    marked 1 (Sent 24 4 (messages.Answer 22 (answers.Yes 0))) ∷ marked 4 (Got 24) ∷ marked 2 (Got 23) ∷
    marked 2 (Wrote (prepare (tx 1 1) 1 (read_lock 0 1 ∷ []) (own_line 1 0 1 ∷ []) [])) ∷
    marked 2 (Sent 25 4 (messages.Answer 23 (answers.Yes 0))) ∷ marked 4 (Got 25) ∷
    marked 4 (Wrote (commit (stamp 1 1) (tx 1 1) (operation 0 1 (Some 0) ∷ []))) ∷
    marked 4 (Sent 26 1 (messages.Decision (tx 1 1) (outcomes.Committed (stamp 1 1)))) ∷
    marked 4 (Sent 27 2 (messages.Decision (tx 1 1) (outcomes.Committed (stamp 1 1)))) ∷
    marked 4 (Told (replies.Committed (stamp 1 1))) ∷ marked 1 (Got 26) ∷ marked 1 (Wrote (records.Done (tx 1 1) 1)) ∷
    marked 2 (Got 27) ∷ marked 2 (Wrote (records.Done (tx 1 1) 1)) ∷ marked 4 (Called commands.Begin) ∷
    marked 4 (Told (replies.Began (tx 1 2))) ∷ marked 4 (Called (commands.Do 0 1)) ∷
    marked 4 (Sent 28 1 (messages.Request (tx 1 2) 1 0 (wants.Read (first_read 0 1)))) ∷
    marked 4 (Sent 29 2 (messages.Request (tx 1 2) 1 0 (wants.Read (first_read 0 1)))) ∷ marked 1 (Got 28) ∷
    marked 1 (Sent 30 4 (messages.Answer 28 (answers.Granted (whole_grant 1 1 (line 1 1 1 1 0 1 ∷ [])))))
    ∷ marked 2 (Got 29) ∷
    marked 2 (Sent 31 4 (messages.Answer 29 (answers.Granted (whole_grant 1 1 (line 1 1 1 1 0 1 ∷ [])))))
    ∷ marked 4 (Got 30) ∷
    marked 4 (Got 31) ∷ marked 4 (Told replies.Absent) ∷ marked 4 (Called (commands.Do 0 0)) ∷
    marked 4 (Sent 32 1 (messages.Request (tx 1 2) 1 1 (wants.Read (first_read 0 0)))) ∷
    marked 4 (Sent 33 2 (messages.Request (tx 1 2) 1 1 (wants.Read (first_read 0 0)))) ∷ marked 1 (Got 32) ∷
    marked 1 (Sent 34 4 (messages.Answer 32 (answers.Granted (whole_grant 1 1 (line 1 1 1 1 0 1 ∷ [])))))
    ∷ marked 4 (Got 34) ∷
    marked 2 (Got 33) ∷ marked 2 (Sent 35 4 (messages.Answer 33 (answers.Clash (tx 2 1) 0 0))) ∷
    marked 2 (Sent 36 5 (messages.Inquiry (tx 2 1))) ∷ marked 5 (Got 36) ∷
    marked 5 (Sent 37 2 (messages.Decision (tx 2 1) outcomes.Active)) ∷ marked 4 (Got 35) ∷ marked 2 (Got 37) ∷
    marked 4 (Told (replies.Conflict (tx 2 1) 2)) ∷ marked 4 (Called (commands.Do 0 1)) ∷
    marked 4 (Sent 38 1 (messages.Request (tx 1 2) 1 1 (wants.Read (first_read 0 1)))) ∷
    marked 4 (Sent 39 2 (messages.Request (tx 1 2) 1 1 (wants.Read (first_read 0 1)))) ∷ marked 1 (Got 38) ∷
    marked 1 (Sent 40 4 (messages.Answer 38 (answers.Granted (whole_grant 1 1 (line 1 1 1 1 0 1 ∷ [])))))
    ∷ marked 4 (Got 40) ∷
    marked 2 (Got 39)
    ∷ marked 2 (Sent 41 4 (messages.Answer 39 (answers.Granted (whole_grant 1 1 (line 1 1 1 1 0 1 ∷ []))))) ∷
    marked 4 (Got 41) ∷ marked 4 (Told replies.Absent) ∷ marked 4 (Called commands.Commit) ∷
    marked 4 (Sent 42 1 (messages.Request (tx 1 2) 1 1 wants.Prepare)) ∷
    marked 4 (Sent 43 2 (messages.Request (tx 1 2) 1 1 wants.Prepare)) ∷ marked 2 (Got 43) ∷
    marked 2 (Wrote (prepare (tx 1 2) 1 (read_lock 0 1 ∷ []) [] [])) ∷
    marked 2 (Sent 44 4 (messages.Answer 43 (answers.Yes 1))) ∷ marked 1 (Got 42) ∷
    marked 1 (Wrote (prepare (tx 1 2) 1 (read_lock 0 0 ∷ read_lock 0 1 ∷ []) [] [])) ∷
    marked 1 (Sent 45 4 (messages.Answer 42 (answers.Yes 1))) ∷ marked 4 (Got 44) ∷ marked 4 (Got 45) ∷
    marked 4 (Told replies.Unknown) ∷
    marked 4 (Fell falls.Stop (Some (commit (stamp 2 1) (tx 1 2) (operation 0 1 None ∷ operation 0 1 None ∷ [])))) ∷
    marked 7 (Phase 2) ∷ marked 7 (Cut 2 4) ∷ marked 7 (Armed 2 arms.Fail 1) ∷
    marked 4 (Rose ((commit (stamp 1 1) (tx 1 1) (operation 0 1 (Some 0) ∷ [])) ∷ [])) ∷ marked 4 (Wrote records.Life) ∷
    marked 5 (Called commands.Commit) ∷ marked 4 (Called commands.Begin) ∷
    marked 4 (Told (replies.Began (tx_in 1 2 1))) ∷ marked 4 (Called (commands.Do 0 0)) ∷
    marked 4 (Sent 46 1 (messages.Request (tx_in 1 2 1) 1 0 (wants.Read (first_read 0 0)))) ∷
    marked 4 (Sent 47 2 (messages.Request (tx_in 1 2 1) 1 0 (wants.Read (first_read 0 0)))) ∷ marked 1 (Got 46) ∷
    marked 1 (Sent 48 4 (messages.Answer 46 (answers.Granted (whole_grant 1 1 (line 1 1 1 1 0 1 ∷ [])))))
    ∷ marked 4 (Got 48) ∷
    marked 4 (Lost 47) ∷ marked 4 (Sent 49 0 (messages.Request (tx_in 1 2 1) 1 0 (wants.Read (first_read 0 0)))) ∷
    marked 0 (Got 49) ∷ marked 5 (Sent 50 2 (messages.Request (tx 2 1) 1 1 wants.Prepare)) ∷
    marked 5 (Sent 51 0 (messages.Request (tx 2 1) 1 1 wants.Prepare)) ∷ marked 2 (Got 50) ∷
    marked 2 (Wrote (prepare (tx 2 1) 1 (read_lock 0 0 ∷ []) (own_line 1 0 0 ∷ []) [])) ∷
    marked 2 (Sent 52 5 (messages.Answer 50 (answers.Yes 1))) ∷ marked 5 (Got 52) ∷
    marked 0 (Sent 53 4 (messages.Answer 49 (answers.Clash (tx 2 1) 0 0))) ∷
    marked 0 (Sent 54 5 (messages.Inquiry (tx 2 1))) ∷ marked 4 (Got 53) ∷
    marked 4 (Told (replies.Conflict (tx 2 1) 0)) ∷ marked 0 (Got 51) ∷ marked 4 (Called (commands.Do 0 2)) ∷
    marked 4 (Sent 55 1 (messages.Request (tx_in 1 2 1) 1 1 (wants.Read (first_read 0 2)))) ∷
    marked 4 (Sent 56 2 (messages.Request (tx_in 1 2 1) 1 0 (wants.Read (first_read 0 2)))) ∷ marked 1 (Got 55) ∷
    marked 1 (Sent 57 4 (messages.Answer 55 (answers.Granted (whole_grant 1 1 (line 1 1 1 1 0 1 ∷ [])))))
    ∷ marked 4 (Got 57) ∷
    marked 4 (Lost 56) ∷ marked 4 (Sent 58 0 (messages.Request (tx_in 1 2 1) 1 0 (wants.Read (first_read 0 2)))) ∷
    marked 0 (Wrote (prepare (tx 2 1) 1 (read_lock 0 0 ∷ []) (own_line 1 0 0 ∷ []) [])) ∷
    marked 0 (Sent 59 5 (messages.Answer 51 (answers.Yes 0))) ∷ marked 0 (Got 58) ∷ marked 5 (Got 54) ∷
    marked 5 (Sent 60 0 (messages.Decision (tx 2 1) outcomes.Active)) ∷ marked 5 (Got 59) ∷
    marked 0 (Sent 61 4 (messages.Answer 58 (answers.Clash (tx 2 1) 2 0))) ∷
    marked 0 (Sent 62 5 (messages.Inquiry (tx 2 1))) ∷ marked 4 (Got 61) ∷
    marked 4 (Told (replies.Conflict (tx 2 1) 0)) ∷ marked 4 (Called commands.Commit) ∷
    marked 4 (Sent 63 1 (messages.Request (tx_in 1 2 1) 1 1 wants.Prepare)) ∷ marked 1 (Got 63) ∷
    marked 1 (Wrote (prepare (tx_in 1 2 1) 1 (read_lock 0 0 ∷ read_lock 0 2 ∷ []) [] [])) ∷
    marked 1 (Sent 64 4 (messages.Answer 63 (answers.Yes 1))) ∷ marked 5 (Told replies.Unknown) ∷
    marked 5 (Fell falls.Disk (Some (commit (stamp 2 2) (tx 2 1) (operation 0 0 (Some 0) ∷ [])))) ∷
    marked 5 (Called commands.Begin) ∷ marked 4 (Got 64) ∷ marked 4 (Wrote (commit (stamp 2 1) (tx_in 1 2 1) [])) ∷
    marked 4 (Sent 65 0 (messages.Decision (tx_in 1 2 1) (outcomes.Committed (stamp 2 1)))) ∷
    marked 4 (Sent 66 1 (messages.Decision (tx_in 1 2 1) (outcomes.Committed (stamp 2 1)))) ∷
    marked 4 (Sent 67 2 (messages.Decision (tx_in 1 2 1) (outcomes.Committed (stamp 2 1)))) ∷
    marked 4 (Told (replies.Committed (stamp 2 1))) ∷ marked 1 (Got 66) ∷
    marked 1 (Wrote (records.Done (tx_in 1 2 1) 2)) ∷ marked 0 (Got 60) ∷ marked 0 (Got 65) ∷
    marked 5 (Told replies.Down) ∷ marked 5 (Called (commands.Do 0 0)) ∷ marked 5 (Told replies.Down) ∷
    marked 5 (Called commands.Commit) ∷ marked 5 (Told replies.Down) ∷ marked 7 (Phase 3) ∷
    marked 6 (Called (commands.Epoch 2)) ∷ marked 4 (Called commands.Begin) ∷ marked 6 (Sent 68 0 (messages.Close 2)) ∷
    marked 6 (Sent 69 1 (messages.Close 2)) ∷ marked 1 (Got 69) ∷ marked 1 (Wrote (records.Close 2)) ∷
    marked 1
    (Sent 70 6
    (messages.Answer 69
    (answers.Shut (snapshot_with 2 (line 1 1 1 1 0 1 ∷ [])
    (prepared (tx 1 2) 1 (read_lock 0 0 ∷ read_lock 0 1 ∷ []) [] [] ∷ []))))) ∷
    marked 6 (Got 70) ∷ marked 0 (Got 68) ∷ marked 0 (Fell falls.Stop (Some (records.Close 2))) ∷ marked 6 (Lost 68) ∷
    marked 4 (Told (replies.Began (tx_in 1 2 2))) ∷ marked 4 (Called (commands.Do 0 2)) ∷
    marked 6 (Sent 71 2 (messages.Close 2)) ∷ marked 2 (Got 71) ∷ marked 2 (Wrote (records.Close 2)) ∷
    marked 2
    (Sent 72 6
    (messages.Answer 71
    (answers.Shut (snapshot_with 1 (line 1 1 1 1 0 1 ∷ [])
    (prepared (tx 1 2) 1 (read_lock 0 1 ∷ []) [] []
    ∷ prepared (tx 2 1) 1 (read_lock 0 0 ∷ []) (own_line 1 0 0 ∷ []) [] ∷ []))))) ∷
    marked 6 (Got 72) ∷ marked 6 (Sent 73 4 (messages.Ask (tx 1 2))) ∷ marked 6 (Sent 74 5 (messages.Ask (tx 2 1))) ∷
    marked 6 (Lost 74) ∷ marked 3 (Called commands.Begin) ∷ marked 3 (Told (replies.Began (tx 0 1))) ∷
    marked 4 (Sent 75 1 (messages.Request (tx_in 1 2 2) 1 0 (wants.Read (first_read 0 2)))) ∷
    marked 4 (Sent 76 2 (messages.Request (tx_in 1 2 2) 1 0 (wants.Read (first_read 0 2)))) ∷ marked 1 (Got 75) ∷
    marked 1 (Sent 77 4 (messages.Answer 75 (answers.Closed 2))) ∷ marked 4 (Got 73) ∷
    marked 4 (Sent 78 6 (messages.Answer 73 (answers.Answered outcomes.Aborted))) ∷ marked 4 (Got 77) ∷
    marked 6 (Got 78) ∷ marked 6 (Told (replies.InDoubt (tx 2 1) 2)) ∷ marked 4 (Lost 76) ∷
    marked 3 (Called (commands.Do 0 1))
    ∷ marked 3 (Sent 79 0 (messages.Request (tx 0 1) 1 0 (wants.Read (first_read 0 1)))) ∷
    marked 3 (Sent 80 1 (messages.Request (tx 0 1) 1 0 (wants.Read (first_read 0 1)))) ∷ marked 3 (Lost 79)
    ∷ marked 1 (Got 80) ∷
    marked 1 (Sent 81 3 (messages.Answer 80 (answers.Closed 2))) ∷ marked 4 (Told (replies.Closed 2 1)) ∷
    marked 4 (Called commands.Abort) ∷ marked 4 (Sent 82 1 (messages.Decision (tx_in 1 2 2) outcomes.Aborted)) ∷
    marked 4 (Sent 83 2 (messages.Decision (tx_in 1 2 2) outcomes.Aborted)) ∷ marked 4 (Told replies.Dropped) ∷
    marked 1 (Got 82) ∷ marked 3 (Got 81) ∷ marked 3 (Told (replies.Closed 2 1)) ∷ marked 3 (Called (commands.Do 0 0)) ∷
    marked 3 (Sent 84 0 (messages.Request (tx 0 1) 1 0 (wants.Read (first_read 0 0)))) ∷
    marked 3 (Sent 85 1 (messages.Request (tx 0 1) 1 0 (wants.Read (first_read 0 0)))) ∷ marked 1 (Got 85) ∷
    marked 1 (Sent 86 3 (messages.Answer 85 (answers.Closed 2))) ∷ marked 3 (Got 86) ∷ marked 3 (Lost 84) ∷
    marked 3 (Told (replies.Closed 2 1)) ∷ marked 3 (Called (commands.Do 0 2)) ∷
    marked 3 (Sent 87 0 (messages.Request (tx 0 1) 1 0 (wants.Read (first_read 0 2)))) ∷
    marked 3 (Sent 88 1 (messages.Request (tx 0 1) 1 0 (wants.Read (first_read 0 2)))) ∷ marked 1 (Got 88) ∷
    marked 1 (Sent 89 3 (messages.Answer 88 (answers.Closed 2))) ∷ marked 3 (Got 89) ∷ marked 3 (Lost 87) ∷
    marked 3 (Told (replies.Closed 2 1)) ∷ marked 3 (Called commands.Commit) ∷
    marked 3 (Wrote (commit (stamp 1 0) (tx 0 1) [])) ∷
    marked 3 (Sent 90 0 (messages.Decision (tx 0 1) (outcomes.Committed (stamp 1 0)))) ∷
    marked 3 (Sent 91 1 (messages.Decision (tx 0 1) (outcomes.Committed (stamp 1 0)))) ∷
    marked 3 (Told (replies.Committed (stamp 1 0))) ∷ marked 1 (Got 91) ∷ marked 7 (Phase 4) ∷
    marked 0 (Rose ((prepare (tx 2 1) 1 (read_lock 0 0 ∷ []) (own_line 1 0 0 ∷ []) []) ∷ (records.Close 2) ∷ [])) ∷
    marked 0 (Wrote records.Life) ∷ marked 0 (Sent 92 5 (messages.Inquiry (tx 2 1))) ∷
    marked 2 (Fell falls.Script None) ∷
    marked 5 (Rose ((commit (stamp 2 2) (tx 2 1) (operation 0 0 (Some 0) ∷ [])) ∷ [])) ∷ marked 5 (Wrote records.Life) ∷
    marked 3 (Called commands.Begin) ∷ marked 3 (Told (replies.Began (tx 0 2))) ∷ marked 3 (Called (commands.Do 0 1)) ∷
    marked 3 (Sent 93 0 (messages.Request (tx 0 2) 2 0 (wants.Read (first_read 0 1)))) ∷
    marked 3 (Sent 94 1 (messages.Request (tx 0 2) 2 0 (wants.Read (first_read 0 1)))) ∷ marked 0 (Got 93) ∷
    marked 0 (Sent 95 3 (messages.Answer 93 (answers.Behind 1))) ∷ marked 3 (Got 95) ∷ marked 1 (Got 94) ∷
    marked 1 (Sent 96 3 (messages.Answer 94 (answers.Behind 1))) ∷ marked 3 (Got 96) ∷
    marked 3 (Sent 97 2 (messages.Request (tx 0 2) 2 0 (wants.Read (first_read 0 1)))) ∷ marked 3 (Got 96)
    ∷ marked 3 (Lost 97) ∷
    marked 3 (Told (replies.Quorum halves.Read 0 3)) ∷ marked 3 (Called (commands.Do 0 1)) ∷
    marked 3 (Sent 98 0 (messages.Request (tx 0 2) 2 0 (wants.Read (first_read 0 1)))) ∷
    marked 3 (Sent 99 1 (messages.Request (tx 0 2) 2 0 (wants.Read (first_read 0 1)))) ∷ marked 0 (Got 98) ∷
    marked 0 (Sent 100 3 (messages.Answer 98 (answers.Behind 1))) ∷ marked 3 (Got 100) ∷ marked 1 (Got 99) ∷
    marked 1 (Sent 101 3 (messages.Answer 99 (answers.Behind 1))) ∷ marked 3 (Got 101) ∷
    marked 3 (Sent 102 2 (messages.Request (tx 0 2) 2 0 (wants.Read (first_read 0 1)))) ∷ marked 3 (Lost 102) ∷
    marked 3 (Told (replies.Quorum halves.Read 0 3)) ∷ marked 3 (Called commands.Commit) ∷
    marked 3 (Wrote (commit (stamp 2 0) (tx 0 2) [])) ∷
    marked 3 (Sent 103 0 (messages.Decision (tx 0 2) (outcomes.Committed (stamp 2 0)))) ∷
    marked 3 (Sent 104 1 (messages.Decision (tx 0 2) (outcomes.Committed (stamp 2 0)))) ∷
    marked 3 (Sent 105 2 (messages.Decision (tx 0 2) (outcomes.Committed (stamp 2 0)))) ∷
    marked 3 (Told (replies.Committed (stamp 2 0))) ∷ marked 0 (Got 103) ∷ marked 1 (Got 104) ∷ marked 7 (Phase 5) ∷
    marked 7 (Heal 2 4) ∷
    marked 2 (Rose ((prepare (tx 1 1) 1 (read_lock 0 1 ∷ []) (own_line 1 0 1 ∷ []) []) ∷ (records.Done (tx 1 1) 1) ∷
    (prepare (tx 1 2) 1 (read_lock 0 1 ∷ []) [] []) ∷ (prepare (tx 2 1) 1 (read_lock 0 0 ∷ []) (own_line 1 0 0 ∷ []) [])
    ∷ (records.Close 2) ∷ [])) ∷
    marked 2 (Wrote records.Life) ∷ marked 2 (Sent 106 4 (messages.Inquiry (tx 1 2))) ∷
    marked 2 (Sent 107 5 (messages.Inquiry (tx 2 1))) ∷ marked 4 (Got 106) ∷
    marked 4 (Sent 108 2 (messages.Decision (tx 1 2) outcomes.Aborted)) ∷ marked 2 (Got 108) ∷ marked 5 (Got 107) ∷
    marked 5 (Sent 109 2 (messages.Decision (tx 2 1) (outcomes.Committed (stamp 2 2)))) ∷ marked 2 (Got 109) ∷
    marked 2 (Wrote (records.Done (tx 2 1) 2)) ∷ []
