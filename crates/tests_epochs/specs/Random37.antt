-- Random: sites 3, clients 3, steps 332, messages 95, lost 10, commits 5, aborts 2, conflicts 1, short rounds 3, falls
-- 8, rises 7, unwritten records 3, closes 5, decisions 1, installs 2.
use Rattle.std.specs.Prelude.{List, [], ◌∷◌, Some, None}
use Rattle.qc_decl.specs.declared.declaration.Declaration.{Declaration}
use Rattle.qc_decl.specs.Vocabulary.{row}
use Rattle.qc_msg.specs.Vocabulary.{Entry, marked}
use Rattle.tests_histories.specs.Words.{tx, stamp, own_line, read_lock, prepare, commit, declaration, kind, pair, plan}
use Rattle.qc_msg.specs.declared.step.Step.TheVariants.{Phase, Called, Got, Lost, Wrote, Sent, Told, Armed, Fell, Rose}
use Rattle.tests_epochs.specs.Words.{tx_in, prepared}
use Rattle.qc_msg.specs.declared.message.Answer.TheVariants as answers
use Rattle.qc_msg.specs.declared.reply.AbortCause.TheVariants as causes
use Rattle.qc_msg.specs.declared.step.Command.TheVariants as commands
use Rattle.qc_msg.specs.declared.reply.Half.TheVariants as halves
use Rattle.qc_msg.specs.declared.message.Message.TheVariants as messages
use Rattle.qc_msg.specs.declared.message.Outcome.TheVariants as outcomes
use Rattle.qc_msg.specs.declared.record.Record.TheVariants as records
use Rattle.qc_msg.specs.declared.reply.Reply.TheVariants as replies
use Rattle.qc_msg.specs.declared.message.Want.TheVariants as wants
use Rattle.qc_msg.specs.declared.step.Fall.TheVariants as falls
use Rattle.qc_msg.specs.Vocabulary.{whole_grant, first_read, snapshot_with, start_with}
use Rattle.qc_outside.specs.declared.disk.ArmKind.TheVariants as arms

abbrev pub decl : Declaration
decl =
    declaration 3 3 (kind 2 2 3 0 (row 0 0 0 1 ∷ row 1 0 1 1 ∷ row 0 1 2 0 ∷ row 1 1 2 0 ∷ []) (pair 0 0 ∷ pair 0 1 ∷
    pair 0 2 ∷ []) ∷ []) (0 ∷ []) (plan (1 ∷ 1 ∷ 2 ∷ []) ((3 ∷ 1 ∷ []) ∷ []) ((4 ∷ 2 ∷ 2 ∷ []) ∷ []) ∷ plan (1 ∷ 0 ∷ 3 ∷
    []) ((3 ∷ 0 ∷ []) ∷ []) ((2 ∷ 2 ∷ 2 ∷ []) ∷ []) ∷ plan (1 ∷ 1 ∷ 1 ∷ []) ((2 ∷ 1 ∷ []) ∷ []) ((2 ∷ 2 ∷ 2 ∷ []) ∷ [])
    ∷ [])

abbrev pub history : List Entry
history =
    marked 7 (Phase 1) ∷ marked 2 (Fell falls.Script None) ∷ marked 2 (Rose []) ∷ marked 2 (Wrote records.Life) ∷
    marked 4 (Fell falls.Script None) ∷ marked 6 (Called (commands.Epoch 2)) ∷ marked 4 (Called commands.Begin) ∷
    marked 4 (Told replies.Down) ∷ marked 4 (Called (commands.Do 0 0)) ∷ marked 6 (Sent 0 0 (messages.Close 2)) ∷
    marked 6 (Sent 1 1 (messages.Close 2)) ∷ marked 6 (Sent 2 2 (messages.Close 2)) ∷ marked 0 (Got 0) ∷
    marked 0 (Wrote (records.Close 2)) ∷ marked 0 (Sent 3 6 (messages.Answer 0 (answers.Shut (snapshot_with 0 [] []))))
    ∷
    marked 6 (Got 3) ∷ marked 5 (Called commands.Begin) ∷ marked 2 (Got 2) ∷ marked 5 (Told (replies.Began (tx 2 1))) ∷
    marked 5 (Called (commands.Do 0 0)) ∷ marked 4 (Told replies.Down) ∷ marked 2 (Wrote (records.Close 2)) ∷
    marked 2 (Sent 4 6 (messages.Answer 2 (answers.Shut (snapshot_with 0 [] [])))) ∷ marked 6 (Got 4) ∷ marked 1 (Got 1)
    ∷
    marked 4 (Called (commands.Do 0 1)) ∷ marked 4 (Told replies.Down) ∷ marked 1 (Wrote (records.Close 2)) ∷
    marked 1 (Sent 5 6 (messages.Answer 1 (answers.Shut (snapshot_with 0 [] [])))) ∷ marked 4 (Called commands.Commit) ∷
    marked 4 (Told replies.Down) ∷ marked 6 (Got 5) ∷ marked 6 (Wrote (records.Decide (start_with 2 0 []))) ∷
    marked 6 (Sent 6 0 (messages.Install (start_with 2 0 [])))
    ∷ marked 6 (Sent 7 1 (messages.Install (start_with 2 0 []))) ∷
    marked 6 (Sent 8 2 (messages.Install (start_with 2 0 []))) ∷ marked 0 (Got 6) ∷ marked 1 (Got 7) ∷ marked 2 (Got 8)
    ∷
    marked 2 (Fell falls.Stop (Some (records.Install (start_with 2 0 []))))
    ∷ marked 1 (Wrote (records.Install (start_with 2 0 []))) ∷
    marked 1 (Sent 9 6 (messages.Answer 7 answers.Installed)) ∷ marked 6 (Got 9) ∷
    marked 0 (Wrote (records.Install (start_with 2 0 []))) ∷ marked 0 (Sent 10 6 (messages.Answer 6 answers.Installed))
    ∷
    marked 6 (Got 10) ∷ marked 5 (Sent 11 2 (messages.Request (tx 2 1) 1 0 (wants.Read (first_read 0 0)))) ∷
    marked 5 (Sent 12 0 (messages.Request (tx 2 1) 1 0 (wants.Read (first_read 0 0)))) ∷ marked 6 (Lost 8) ∷
    marked 6 (Told (replies.Moved 7 3)) ∷ marked 0 (Got 12) ∷ marked 5 (Lost 11) ∷
    marked 0 (Sent 13 5 (messages.Answer 12 (answers.Closed 2))) ∷ marked 5 (Got 13) ∷
    marked 5 (Told (replies.Closed 2 0)) ∷ marked 5 (Called (commands.Do 0 0)) ∷
    marked 5 (Sent 14 2 (messages.Request (tx 2 1) 1 0 (wants.Read (first_read 0 0)))) ∷
    marked 5 (Sent 15 0 (messages.Request (tx 2 1) 1 0 (wants.Read (first_read 0 0)))) ∷ marked 5 (Lost 14)
    ∷ marked 0 (Got 15) ∷
    marked 0 (Sent 16 5 (messages.Answer 15 (answers.Closed 2))) ∷ marked 5 (Got 16) ∷
    marked 5 (Told (replies.Closed 2 0)) ∷ marked 5 (Called commands.Commit) ∷
    marked 5 (Wrote (commit (stamp 1 2) (tx 2 1) [])) ∷
    marked 5 (Sent 17 0 (messages.Decision (tx 2 1) (outcomes.Committed (stamp 1 2)))) ∷
    marked 5 (Sent 18 2 (messages.Decision (tx 2 1) (outcomes.Committed (stamp 1 2)))) ∷
    marked 5 (Told (replies.Committed (stamp 1 2))) ∷ marked 0 (Got 17) ∷ marked 7 (Phase 2) ∷ marked 4 (Rose []) ∷
    marked 4 (Wrote records.Life) ∷ marked 5 (Got 13) ∷ marked 1 (Got 1) ∷ marked 0 (Got 0) ∷ marked 6 (Got 3) ∷
    marked 1 (Sent 19 6 (messages.Answer 1 (answers.Closed 2))) ∷ marked 5 (Called commands.Begin) ∷
    marked 0 (Sent 20 6 (messages.Answer 0 (answers.Closed 2))) ∷ marked 5 (Told (replies.Began (tx 2 2))) ∷
    marked 0 (Got 12) ∷ marked 6 (Got 4) ∷ marked 5 (Called (commands.Do 0 0)) ∷
    marked 5 (Sent 21 2 (messages.Request (tx 2 2) 2 0 (wants.Read (first_read 0 0)))) ∷ marked 6 (Got 5)
    ∷ marked 5 (Lost 21) ∷
    marked 0 (Sent 22 5 (messages.Answer 12 (answers.Closed 2))) ∷
    marked 5 (Sent 23 0 (messages.Request (tx 2 2) 2 0 (wants.Read (first_read 0 0)))) ∷ marked 0 (Got 23)
    ∷ marked 5 (Got 22) ∷
    marked 0 (Sent 24 5 (messages.Answer 23 (answers.Granted (whole_grant 2 1 [])))) ∷ marked 6 (Got 19)
    ∷ marked 6 (Got 20) ∷
    marked 5 (Got 24) ∷ marked 5 (Told (replies.Quorum halves.Read 1 3)) ∷ marked 5 (Called (commands.Do 0 0)) ∷
    marked 5 (Sent 25 2 (messages.Request (tx 2 2) 2 0 (wants.Read (first_read 0 0)))) ∷ marked 5 (Lost 25) ∷
    marked 5 (Sent 26 0 (messages.Request (tx 2 2) 2 2 (wants.Read (first_read 0 0)))) ∷ marked 0 (Got 26) ∷
    marked 0 (Sent 27 5 (messages.Answer 26 (answers.Granted (whole_grant 2 1 [])))) ∷ marked 5 (Got 27) ∷
    marked 5 (Told (replies.Quorum halves.Read 1 3)) ∷ marked 5 (Called (commands.Do 0 0)) ∷
    marked 5 (Sent 28 2 (messages.Request (tx 2 2) 2 0 (wants.Read (first_read 0 0)))) ∷ marked 5 (Lost 28) ∷
    marked 5 (Sent 29 0 (messages.Request (tx 2 2) 2 2 (wants.Read (first_read 0 0)))) ∷ marked 0 (Got 29) ∷
    marked 0 (Sent 30 5 (messages.Answer 29 (answers.Granted (whole_grant 2 1 [])))) ∷ marked 5 (Got 30) ∷
    marked 5 (Told (replies.Quorum halves.Read 1 3)) ∷ marked 5 (Called commands.Commit) ∷
    marked 5 (Sent 31 0 (messages.Request (tx 2 2) 2 2 wants.Prepare)) ∷ marked 0 (Got 31) ∷
    marked 0 (Wrote (prepare (tx 2 2) 2 (read_lock 0 0 ∷ []) [] [])) ∷
    marked 0 (Sent 32 5 (messages.Answer 31 (answers.Yes 1))) ∷ marked 5 (Got 32) ∷ marked 5 (Told replies.Unknown) ∷
    marked 5 (Fell falls.Stop (Some (commit (stamp 2 2) (tx 2 2) []))) ∷ marked 7 (Phase 3) ∷
    marked 5 (Rose ((commit (stamp 1 2) (tx 2 1) []) ∷ [])) ∷ marked 5 (Wrote records.Life) ∷
    marked 7 (Armed 6 arms.Stop 4) ∷ marked 7 (Phase 4) ∷ marked 7 (Armed 3 arms.Stop 7) ∷
    marked 4 (Called commands.Begin) ∷ marked 4 (Told (replies.Began (tx_in 1 2 1))) ∷
    marked 3 (Called commands.Begin) ∷ marked 3 (Told (replies.Began (tx 0 1))) ∷ marked 4 (Called (commands.Do 0 0)) ∷
    marked 3 (Called (commands.Do 0 0))
    ∷ marked 4 (Sent 33 1 (messages.Request (tx_in 1 2 1) 1 0 (wants.Read (first_read 0 0)))) ∷
    marked 4 (Sent 34 2 (messages.Request (tx_in 1 2 1) 1 0 (wants.Read (first_read 0 0)))) ∷ marked 4 (Lost 34) ∷
    marked 3 (Sent 35 0 (messages.Request (tx 0 1) 1 0 (wants.Read (first_read 0 0)))) ∷
    marked 3 (Sent 36 1 (messages.Request (tx 0 1) 1 0 (wants.Read (first_read 0 0)))) ∷
    marked 3 (Sent 37 2 (messages.Request (tx 0 1) 1 0 (wants.Read (first_read 0 0)))) ∷ marked 3 (Lost 37)
    ∷ marked 1 (Got 33) ∷
    marked 0 (Got 35) ∷ marked 1 (Sent 38 4 (messages.Answer 33 (answers.Closed 2))) ∷ marked 1 (Got 36) ∷
    marked 1 (Sent 39 3 (messages.Answer 36 (answers.Closed 2))) ∷ marked 3 (Got 39) ∷ marked 4 (Got 38) ∷
    marked 4 (Told (replies.Closed 2 1)) ∷ marked 4 (Called commands.Commit) ∷
    marked 4 (Wrote (commit (stamp 1 1) (tx_in 1 2 1) [])) ∷
    marked 4 (Sent 40 1 (messages.Decision (tx_in 1 2 1) (outcomes.Committed (stamp 1 1)))) ∷
    marked 4 (Sent 41 2 (messages.Decision (tx_in 1 2 1) (outcomes.Committed (stamp 1 1)))) ∷
    marked 4 (Told (replies.Committed (stamp 1 1))) ∷ marked 0 (Sent 42 3 (messages.Answer 35 (answers.Closed 2))) ∷
    marked 1 (Got 40) ∷ marked 3 (Got 42) ∷ marked 3 (Told (replies.Closed 2 0)) ∷ marked 3 (Called (commands.Do 0 1)) ∷
    marked 3 (Sent 43 0 (messages.Request (tx 0 1) 1 0 (wants.Read (first_read 0 1)))) ∷ marked 0 (Got 43) ∷
    marked 0 (Sent 44 3 (messages.Answer 43 (answers.Closed 2))) ∷ marked 3 (Got 44) ∷
    marked 3 (Told (replies.Closed 2 0)) ∷ marked 3 (Called (commands.Do 0 0)) ∷
    marked 3 (Sent 45 0 (messages.Request (tx 0 1) 1 0 (wants.Read (first_read 0 0)))) ∷
    marked 3 (Sent 46 1 (messages.Request (tx 0 1) 1 0 (wants.Read (first_read 0 0)))) ∷
    marked 3 (Sent 47 2 (messages.Request (tx 0 1) 1 0 (wants.Read (first_read 0 0)))) ∷ marked 3 (Lost 47)
    ∷ marked 1 (Got 46) ∷
    marked 1 (Sent 48 3 (messages.Answer 46 (answers.Closed 2))) ∷ marked 3 (Got 48) ∷ marked 0 (Got 45) ∷
    marked 0 (Sent 49 3 (messages.Answer 45 (answers.Closed 2))) ∷ marked 3 (Got 49) ∷
    marked 3 (Told (replies.Closed 2 0)) ∷ marked 3 (Called commands.Commit) ∷
    marked 3 (Wrote (commit (stamp 1 0) (tx 0 1) [])) ∷
    marked 3 (Sent 50 0 (messages.Decision (tx 0 1) (outcomes.Committed (stamp 1 0)))) ∷
    marked 3 (Sent 51 1 (messages.Decision (tx 0 1) (outcomes.Committed (stamp 1 0)))) ∷
    marked 3 (Sent 52 2 (messages.Decision (tx 0 1) (outcomes.Committed (stamp 1 0)))) ∷
    marked 3 (Told (replies.Committed (stamp 1 0))) ∷ marked 1 (Got 51) ∷ marked 0 (Got 50) ∷ marked 7 (Phase 5) ∷
    marked 2 (Rose (records.Life ∷ (records.Close 2) ∷ (records.Install (start_with 2 0 [])) ∷ []))
    ∷ marked 2 (Wrote records.Life) ∷
    marked 3 (Fell falls.Script None) ∷ marked 3 (Rose ((commit (stamp 1 0) (tx 0 1) []) ∷ [])) ∷
    marked 3 (Wrote records.Life) ∷ marked 4 (Fell falls.Script None) ∷
    marked 4 (Rose (records.Life ∷ (commit (stamp 1 1) (tx_in 1 2 1) []) ∷ [])) ∷ marked 4 (Wrote records.Life) ∷
    marked 0 (Got 35) ∷ marked 4 (Got 38) ∷ marked 0 (Sent 53 3 (messages.Answer 35 (answers.Closed 2))) ∷
    marked 2 (Got 34) ∷ marked 2 (Sent 54 4 (messages.Answer 34 (answers.Closed 2))) ∷ marked 2 (Got 37) ∷
    marked 1 (Got 33) ∷ marked 1 (Sent 55 4 (messages.Answer 33 (answers.Closed 2))) ∷ marked 1 (Got 36) ∷
    marked 5 (Called commands.Begin) ∷ marked 4 (Got 54) ∷
    marked 2 (Sent 56 3 (messages.Answer 37 (answers.Closed 2))) ∷ marked 5 (Told (replies.Began (tx_in 2 2 1))) ∷
    marked 5 (Called (commands.Do 0 0))
    ∷ marked 5 (Sent 57 2 (messages.Request (tx_in 2 2 1) 1 0 (wants.Read (first_read 0 0)))) ∷
    marked 5 (Sent 58 0 (messages.Request (tx_in 2 2 1) 1 0 (wants.Read (first_read 0 0)))) ∷ marked 4 (Got 55)
    ∷ marked 2 (Got 57) ∷
    marked 0 (Got 58) ∷ marked 2 (Sent 59 5 (messages.Answer 57 (answers.Closed 2))) ∷ marked 5 (Got 59) ∷
    marked 0 (Sent 60 5 (messages.Answer 58 (answers.Closed 2))) ∷
    marked 1 (Sent 61 3 (messages.Answer 36 (answers.Closed 2))) ∷ marked 5 (Got 60) ∷
    marked 5 (Told (replies.Closed 2 2)) ∷ marked 5 (Called commands.Commit) ∷
    marked 5 (Wrote (commit (stamp 2 2) (tx_in 2 2 1) [])) ∷
    marked 5 (Sent 62 0 (messages.Decision (tx_in 2 2 1) (outcomes.Committed (stamp 2 2)))) ∷
    marked 5 (Sent 63 2 (messages.Decision (tx_in 2 2 1) (outcomes.Committed (stamp 2 2)))) ∷
    marked 5 (Told (replies.Committed (stamp 2 2))) ∷ marked 2 (Got 63) ∷ marked 0 (Got 62) ∷ marked 3 (Got 39) ∷
    marked 3 (Got 42) ∷ marked 3 (Got 53) ∷ marked 3 (Got 56) ∷ marked 3 (Got 61) ∷ marked 3 (Called commands.Begin) ∷
    marked 3 (Told (replies.Began (tx_in 0 2 1))) ∷ marked 3 (Called (commands.Do 0 0)) ∷
    marked 3 (Sent 64 0 (messages.Request (tx_in 0 2 1) 1 0 (wants.Read (first_read 0 0)))) ∷
    marked 3 (Sent 65 1 (messages.Request (tx_in 0 2 1) 1 0 (wants.Read (first_read 0 0)))) ∷
    marked 3 (Sent 66 2 (messages.Request (tx_in 0 2 1) 1 0 (wants.Read (first_read 0 0)))) ∷ marked 0 (Got 64)
    ∷ marked 2 (Got 66) ∷
    marked 1 (Got 65) ∷ marked 1 (Sent 67 3 (messages.Answer 65 (answers.Closed 2))) ∷
    marked 0 (Sent 68 3 (messages.Answer 64 (answers.Closed 2))) ∷
    marked 2 (Sent 69 3 (messages.Answer 66 (answers.Closed 2))) ∷ marked 3 (Got 67) ∷ marked 3 (Got 68) ∷
    marked 3 (Got 69) ∷ marked 3 (Told (replies.Closed 2 0)) ∷ marked 3 (Called commands.Commit) ∷
    marked 3 (Wrote (commit (stamp 2 0) (tx_in 0 2 1) [])) ∷
    marked 3 (Sent 70 0 (messages.Decision (tx_in 0 2 1) (outcomes.Committed (stamp 2 0)))) ∷
    marked 3 (Sent 71 1 (messages.Decision (tx_in 0 2 1) (outcomes.Committed (stamp 2 0)))) ∷
    marked 3 (Sent 72 2 (messages.Decision (tx_in 0 2 1) (outcomes.Committed (stamp 2 0)))) ∷
    marked 3 (Told (replies.Committed (stamp 2 0))) ∷ marked 0 (Got 70) ∷ marked 1 (Got 71) ∷ marked 2 (Got 72) ∷
    marked 7 (Phase 6) ∷ marked 4 (Got 54) ∷ marked 3 (Got 56) ∷ marked 5 (Got 59) ∷ marked 5 (Called commands.Begin) ∷
    marked 3 (Called commands.Begin) ∷ marked 3 (Told (replies.Began (tx_in 0 2 2))) ∷
    marked 5 (Told (replies.Began (tx_in 2 2 2))) ∷ marked 3 (Called (commands.Do 0 1)) ∷
    marked 3 (Sent 73 0 (messages.Request (tx_in 0 2 2) 2 0 (wants.Append 0 [] (own_line 1 0 2 ∷ [])))) ∷
    marked 3 (Sent 74 2 (messages.Request (tx_in 0 2 2) 2 0 (wants.Append 0 [] (own_line 1 0 2 ∷ [])))) ∷
    marked 5 (Called (commands.Do 0 0)) ∷ marked 3 (Lost 74) ∷
    marked 5 (Sent 75 2 (messages.Request (tx_in 2 2 2) 2 0 (wants.Read (first_read 0 0)))) ∷ marked 2 (Got 75) ∷
    marked 6 (Called (commands.Epoch 3))
    ∷ marked 2 (Sent 76 5 (messages.Answer 75 (answers.Granted (whole_grant 4 2 [])))) ∷
    marked 5 (Got 76) ∷
    marked 5 (Sent 77 2 (messages.Request (tx_in 2 2 2) 2 4 (wants.Append 0 [] (own_line 1 0 0 ∷ [])))) ∷
    marked 6 (Sent 78 0 (messages.Close 3)) ∷ marked 6 (Sent 79 2 (messages.Close 3)) ∷ marked 2 (Got 77) ∷
    marked 2 (Sent 80 5 (messages.Answer 77 (answers.Granted (whole_grant 4 2 [])))) ∷ marked 2 (Got 79) ∷
    marked 2 (Wrote (records.Close 3))
    ∷ marked 2 (Sent 81 6 (messages.Answer 79 (answers.Shut (snapshot_with 2 [] [])))) ∷
    marked 5 (Got 80) ∷ marked 5 (Told (replies.Response 0)) ∷ marked 5 (Called commands.Commit) ∷
    marked 5 (Sent 82 2 (messages.Request (tx_in 2 2 2) 2 4 wants.Prepare)) ∷ marked 2 (Got 82) ∷
    marked 2 (Sent 83 5 (messages.Answer 82 (answers.Closed 3))) ∷ marked 5 (Got 83) ∷
    marked 5 (Sent 84 2 (messages.Decision (tx_in 2 2 2) outcomes.Aborted)) ∷
    marked 5 (Told (replies.Aborted (causes.Closed 3 2))) ∷ marked 2 (Got 84) ∷ marked 6 (Got 81) ∷ marked 0 (Got 73) ∷
    marked 0 (Sent 85 3 (messages.Answer 73 (answers.Clash (tx 2 2) 0 2))) ∷
    marked 0 (Sent 86 5 (messages.Inquiry (tx 2 2))) ∷ marked 5 (Got 86) ∷ marked 3 (Got 85) ∷
    marked 5 (Sent 87 0 (messages.Decision (tx 2 2) outcomes.Aborted)) ∷ marked 3 (Told (replies.Conflict (tx 2 2) 0)) ∷
    marked 3 (Called (commands.Do 0 1)) ∷ marked 3 (Told replies.Doomed) ∷ marked 3 (Called commands.Commit) ∷
    marked 3 (Sent 88 0 (messages.Decision (tx_in 0 2 2) outcomes.Aborted)) ∷
    marked 3 (Sent 89 2 (messages.Decision (tx_in 0 2 2) outcomes.Aborted)) ∷
    marked 3 (Told (replies.Aborted causes.Doomed)) ∷ marked 0 (Got 78) ∷ marked 0 (Wrote (records.Close 3)) ∷
    marked 0 (Sent 90 6 (messages.Answer 78 (answers.Shut (snapshot_with 2 [] (prepared (tx 2 2) 2 (read_lock 0 0 ∷ []) [] [] ∷ [])))))
    ∷
    marked 2 (Got 89) ∷ marked 6 (Got 90) ∷ marked 6 (Sent 91 5 (messages.Ask (tx 2 2))) ∷ marked 5 (Got 91) ∷
    marked 5 (Sent 92 6 (messages.Answer 91 (answers.Answered outcomes.Aborted))) ∷ marked 6 (Got 92) ∷
    marked 6 (Told replies.Fault) ∷ marked 6 (Fell falls.Disk (Some (records.Decide (start_with 3 2 [])))) ∷
    marked 6 (Called (commands.Epoch 3)) ∷ marked 6 (Told replies.Down) ∷ marked 0 (Got 87) ∷ marked 0 (Got 88) ∷
    marked 7 (Phase 7) ∷ marked 7 (Armed 0 arms.Stop 8) ∷ marked 7 (Armed 3 arms.Fail 4) ∷
    marked 5 (Fell falls.Script None) ∷
    marked 5 (Rose ((commit (stamp 1 2) (tx 2 1) []) ∷ records.Life ∷ (commit (stamp 2 2) (tx_in 2 2 1) []) ∷ [])) ∷
    marked 5 (Wrote records.Life) ∷ marked 5 (Got 91) ∷
    marked 5 (Sent 93 6 (messages.Answer 91 (answers.Answered outcomes.Aborted))) ∷ marked 4 (Called commands.Begin) ∷
    marked 6 (Called (commands.Epoch 3)) ∷ marked 4 (Told (replies.Began (tx_in 1 3 1))) ∷
    marked 6 (Told replies.Down) ∷ marked 2 (Got 74) ∷ marked 2 (Sent 94 3 (messages.Answer 74 (answers.Closed 3))) ∷
    marked 3 (Got 94) ∷ []
