-- Random: sites 4, clients 1, steps 203, messages 77, lost 1, commits 2, aborts 1, short rounds 1, falls 1, rises 1,
-- unwritten records 1, closes 4, decisions 1, installs 4.
use Rattle.std.specs.Prelude.{List, [], ◌∷◌, Some}
use Rattle.qc_decl.specs.declared.declaration.Declaration.{Declaration}
use Rattle.qc_decl.specs.Vocabulary.{row}
use Rattle.qc_msg.specs.Vocabulary.{Entry, marked}
use Rattle.tests_histories.specs.Words.{tx, stamp, line, own_line, operation, read_lock, prepare, commit, declaration}
use Rattle.tests_histories.specs.Words.{kind, pair, plan}
use Rattle.qc_msg.specs.declared.step.Step.TheVariants.{Phase, Called, Got, Lost, Wrote, Sent, Told, Fell, Rose}
use Rattle.tests_epochs.specs.Words.{prepared}
use Rattle.qc_msg.specs.declared.message.Answer.TheVariants as answers
use Rattle.qc_msg.specs.declared.reply.AbortCause.TheVariants as causes
use Rattle.qc_msg.specs.declared.step.Command.TheVariants as commands
use Rattle.qc_msg.specs.declared.reply.Half.TheVariants as halves
use Rattle.qc_msg.specs.declared.message.Message.TheVariants as messages
use Rattle.qc_msg.specs.declared.message.Outcome.TheVariants as outcomes
use Rattle.qc_msg.specs.declared.record.Record.TheVariants as records
use Rattle.qc_msg.specs.declared.reply.Reply.TheVariants as replies
use Rattle.qc_msg.specs.declared.message.Want.TheVariants as wants
use Rattle.qc_msg.specs.declared.step.Fall.TheVariants as falls
use Rattle.qc_msg.specs.Vocabulary.{whole_grant, first_read, snapshot_with, start_with}

abbrev pub decl : Declaration
decl =
    declaration 4 1 (kind 3 3 5 0 (row 0 0 0 1 ∷ row 1 0 0 2 ∷ row 2 0 1 2 ∷ row 0 1 1 0 ∷ row 1 1 0 0 ∷ row 2 1 0 1 ∷
    row 0 2 2 0 ∷ row 1 2 3 1 ∷ row 2 2 4 2 ∷ []) (pair 0 0 ∷ pair 0 3 ∷ pair 1 0 ∷ pair 1 3 ∷ pair 2 0 ∷ pair 2 2 ∷
    pair 2 3 ∷ []) ∷ []) (0 ∷ 0 ∷ []) (plan (1 ∷ 1 ∷ 3 ∷ 1 ∷ []) ((3 ∷ 5 ∷ 4 ∷ []) ∷ (4 ∷ 4 ∷ 4 ∷ []) ∷ []) ((4 ∷ 0 ∷ 3
    ∷ 6 ∷ 1 ∷ 5 ∷ 3 ∷ []) ∷ (4 ∷ 0 ∷ 3 ∷ 3 ∷ 0 ∷ 0 ∷ 0 ∷ []) ∷ []) ∷ plan (1 ∷ 1 ∷ 1 ∷ 1 ∷ []) ((3 ∷ 3 ∷ 3 ∷ []) ∷ (3 ∷
    3 ∷ 3 ∷ []) ∷ []) ((2 ∷ 3 ∷ 2 ∷ 2 ∷ 0 ∷ 1 ∷ 0 ∷ []) ∷ (2 ∷ 0 ∷ 2 ∷ 4 ∷ 0 ∷ 0 ∷ 0 ∷ []) ∷ []) ∷ plan (3 ∷ 1 ∷ 1 ∷ 1 ∷
    []) ((4 ∷ 4 ∷ 4 ∷ []) ∷ (4 ∷ 4 ∷ 4 ∷ []) ∷ []) ((3 ∷ 2 ∷ 3 ∷ 6 ∷ 0 ∷ 0 ∷ 0 ∷ []) ∷ (3 ∷ 0 ∷ 3 ∷ 3 ∷ 0 ∷ 5 ∷ 0 ∷ [])
    ∷ []) ∷ [])

abbrev pub history : List Entry
history =
    marked 6 (Phase 1) ∷ marked 4 (Called commands.Begin) ∷ marked 4 (Told (replies.Began (tx 0 1))) ∷
    marked 4 (Called (commands.Do 1 0)) ∷
    marked 4 (Sent 0 0 (messages.Request (tx 0 1) 1 0 (wants.Read (first_read 1 0))))
    ∷
    marked 4 (Sent 1 1 (messages.Request (tx 0 1) 1 0 (wants.Read (first_read 1 0)))) ∷
    marked 4 (Sent 2 2 (messages.Request (tx 0 1) 1 0 (wants.Read (first_read 1 0)))) ∷ marked 2 (Got 2) ∷
    marked 0 (Got 0)
    ∷
    marked 2 (Sent 3 4 (messages.Answer 2 (answers.Granted (whole_grant 1 0 [])))) ∷
    marked 0 (Sent 4 4 (messages.Answer 0 (answers.Granted (whole_grant 1 0 [])))) ∷ marked 1 (Got 1) ∷
    marked 1 (Sent 5 4 (messages.Answer 1 (answers.Granted (whole_grant 1 0 [])))) ∷ marked 4 (Got 3) ∷ marked 4 (Got 4)
    ∷
    marked 4 (Got 5) ∷ marked 4 (Sent 6 0 (messages.Request (tx 0 1) 1 1 (wants.Append 1 [] (own_line 1 1 0 ∷ [])))) ∷
    marked 4 (Sent 7 1 (messages.Request (tx 0 1) 1 1 (wants.Append 1 [] (own_line 1 1 0 ∷ [])))) ∷
    marked 4 (Sent 8 2 (messages.Request (tx 0 1) 1 1 (wants.Append 1 [] (own_line 1 1 0 ∷ [])))) ∷ marked 1 (Got 7) ∷
    marked 0 (Got 6) ∷ marked 1 (Sent 9 4 (messages.Answer 7 (answers.Granted (whole_grant 1 0 [])))) ∷ marked 2 (Got 8)
    ∷
    marked 2 (Sent 10 4 (messages.Answer 8 (answers.Granted (whole_grant 1 0 [])))) ∷ marked 4 (Got 9) ∷
    marked 0 (Sent 11 4 (messages.Answer 6 (answers.Granted (whole_grant 1 0 [])))) ∷ marked 4 (Got 10)
    ∷ marked 4 (Got 11) ∷
    marked 4 (Told (replies.Response 0)) ∷ marked 4 (Called commands.Commit) ∷
    marked 4 (Sent 12 0 (messages.Request (tx 0 1) 1 1 wants.Prepare)) ∷
    marked 4 (Sent 13 1 (messages.Request (tx 0 1) 1 1 wants.Prepare)) ∷
    marked 4 (Sent 14 2 (messages.Request (tx 0 1) 1 1 wants.Prepare)) ∷ marked 0 (Got 12) ∷
    marked 0 (Wrote (prepare (tx 0 1) 1 (read_lock 1 0 ∷ []) (own_line 1 1 0 ∷ []) [])) ∷
    marked 0 (Sent 15 4 (messages.Answer 12 (answers.Yes 0))) ∷ marked 2 (Got 14) ∷ marked 4 (Got 15) ∷
    marked 1 (Got 13) ∷ marked 1 (Wrote (prepare (tx 0 1) 1 (read_lock 1 0 ∷ []) (own_line 1 1 0 ∷ []) [])) ∷
    marked 1 (Sent 16 4 (messages.Answer 13 (answers.Yes 0))) ∷
    marked 2 (Wrote (prepare (tx 0 1) 1 (read_lock 1 0 ∷ []) (own_line 1 1 0 ∷ []) [])) ∷
    marked 2 (Sent 17 4 (messages.Answer 14 (answers.Yes 0))) ∷ marked 4 (Got 16) ∷ marked 4 (Got 17) ∷
    marked 4 (Wrote (commit (stamp 1 0) (tx 0 1) (operation 1 0 (Some 0) ∷ []))) ∷
    marked 4 (Sent 18 0 (messages.Decision (tx 0 1) (outcomes.Committed (stamp 1 0)))) ∷
    marked 4 (Sent 19 1 (messages.Decision (tx 0 1) (outcomes.Committed (stamp 1 0)))) ∷
    marked 4 (Sent 20 2 (messages.Decision (tx 0 1) (outcomes.Committed (stamp 1 0)))) ∷
    marked 4 (Told (replies.Committed (stamp 1 0))) ∷ marked 4 (Called commands.Begin) ∷
    marked 4 (Told (replies.Began (tx 0 2))) ∷ marked 0 (Got 18) ∷ marked 1 (Got 19) ∷ marked 2 (Got 20) ∷
    marked 0 (Wrote (records.Done (tx 0 1) 1)) ∷ marked 4 (Called (commands.Do 0 0)) ∷
    marked 4 (Sent 21 0 (messages.Request (tx 0 2) 1 0 (wants.Read (first_read 0 0)))) ∷
    marked 4 (Sent 22 1 (messages.Request (tx 0 2) 1 0 (wants.Read (first_read 0 0)))) ∷
    marked 4 (Sent 23 2 (messages.Request (tx 0 2) 1 0 (wants.Read (first_read 0 0))))
    ∷ marked 1 (Wrote (records.Done (tx 0 1) 1)) ∷
    marked 0 (Got 21) ∷ marked 2 (Wrote (records.Done (tx 0 1) 1)) ∷
    marked 0 (Sent 24 4 (messages.Answer 21 (answers.Granted (whole_grant 1 1 [])))) ∷ marked 2 (Got 23)
    ∷ marked 4 (Got 24) ∷
    marked 1 (Got 22) ∷ marked 2 (Sent 25 4 (messages.Answer 23 (answers.Granted (whole_grant 1 1 []))))
    ∷ marked 4 (Got 25) ∷
    marked 1 (Sent 26 4 (messages.Answer 22 (answers.Granted (whole_grant 1 1 [])))) ∷ marked 2 (Got 23) ∷
    marked 2 (Sent 27 4 (messages.Answer 23 (answers.Granted (whole_grant 1 1 [])))) ∷ marked 4 (Got 26) ∷
    marked 4 (Sent 28 0 (messages.Request (tx 0 2) 1 1 (wants.Append 0 [] (own_line 1 0 0 ∷ [])))) ∷
    marked 4 (Sent 29 1 (messages.Request (tx 0 2) 1 1 (wants.Append 0 [] (own_line 1 0 0 ∷ [])))) ∷
    marked 4 (Sent 30 2 (messages.Request (tx 0 2) 1 1 (wants.Append 0 [] (own_line 1 0 0 ∷ [])))) ∷ marked 0 (Got 28) ∷
    marked 4 (Got 27) ∷ marked 2 (Got 30)
    ∷ marked 2 (Sent 31 4 (messages.Answer 30 (answers.Granted (whole_grant 1 1 [])))) ∷
    marked 1 (Got 29) ∷ marked 4 (Got 31)
    ∷ marked 0 (Sent 32 4 (messages.Answer 28 (answers.Granted (whole_grant 1 1 [])))) ∷
    marked 4 (Got 32) ∷ marked 1 (Sent 33 4 (messages.Answer 29 (answers.Granted (whole_grant 1 1 []))))
    ∷ marked 4 (Got 33) ∷
    marked 4 (Told (replies.Response 0)) ∷ marked 4 (Called (commands.Do 1 2)) ∷
    marked 4 (Sent 34 0 (messages.Request (tx 0 2) 1 1 (wants.Read (first_read 1 2)))) ∷
    marked 4 (Sent 35 1 (messages.Request (tx 0 2) 1 1 (wants.Read (first_read 1 2)))) ∷
    marked 4 (Sent 36 2 (messages.Request (tx 0 2) 1 1 (wants.Read (first_read 1 2)))) ∷ marked 1 (Got 35)
    ∷ marked 2 (Got 36) ∷
    marked 2 (Sent 37 4 (messages.Answer 36 (answers.Granted (whole_grant 1 1 (line 1 0 1 1 1 0 ∷ [])))))
    ∷ marked 0 (Got 34) ∷
    marked 0 (Sent 38 4 (messages.Answer 34 (answers.Granted (whole_grant 1 1 (line 1 0 1 1 1 0 ∷ []))))) ∷
    marked 1 (Sent 39 4 (messages.Answer 35 (answers.Granted (whole_grant 1 1 (line 1 0 1 1 1 0 ∷ [])))))
    ∷ marked 4 (Got 38) ∷
    marked 4 (Got 39) ∷ marked 4 (Lost 36)
    ∷ marked 4 (Sent 40 3 (messages.Request (tx 0 2) 1 0 (wants.Read (first_read 1 2)))) ∷
    marked 3 (Got 40) ∷ marked 3 (Sent 41 4 (messages.Answer 40 (answers.Granted (whole_grant 1 0 []))))
    ∷ marked 4 (Got 41) ∷
    marked 4 (Told (replies.Quorum halves.Read 3 4)) ∷ marked 4 (Called commands.Commit) ∷
    marked 4 (Sent 42 0 (messages.Request (tx 0 2) 1 1 wants.Prepare)) ∷
    marked 4 (Sent 43 1 (messages.Request (tx 0 2) 1 1 wants.Prepare)) ∷
    marked 4 (Sent 44 2 (messages.Request (tx 0 2) 1 1 wants.Prepare)) ∷
    marked 4 (Sent 45 3 (messages.Request (tx 0 2) 1 1 wants.Prepare)) ∷ marked 2 (Got 44) ∷ marked 0 (Got 42) ∷
    marked 2 (Wrote (prepare (tx 0 2) 1 (read_lock 0 0 ∷ read_lock 1 2 ∷ []) (own_line 1 0 0 ∷ []) [])) ∷
    marked 2 (Sent 46 4 (messages.Answer 44 (answers.Yes 1))) ∷
    marked 0 (Wrote (prepare (tx 0 2) 1 (read_lock 0 0 ∷ read_lock 1 2 ∷ []) (own_line 1 0 0 ∷ []) [])) ∷
    marked 0 (Sent 47 4 (messages.Answer 42 (answers.Yes 1))) ∷ marked 1 (Got 43) ∷
    marked 1 (Wrote (prepare (tx 0 2) 1 (read_lock 0 0 ∷ read_lock 1 2 ∷ []) (own_line 1 0 0 ∷ []) [])) ∷
    marked 1 (Sent 48 4 (messages.Answer 43 (answers.Yes 1))) ∷ marked 3 (Got 45) ∷ marked 4 (Got 46) ∷
    marked 3 (Sent 49 4 (messages.Answer 45 answers.Fault)) ∷
    marked 3 (Fell falls.Disk (Some (prepare (tx 0 2) 1 (read_lock 1 2 ∷ []) [] []))) ∷ marked 4 (Got 47) ∷
    marked 4 (Got 48) ∷ marked 4 (Got 49) ∷ marked 4 (Sent 50 0 (messages.Decision (tx 0 2) outcomes.Aborted)) ∷
    marked 4 (Sent 51 1 (messages.Decision (tx 0 2) outcomes.Aborted)) ∷
    marked 4 (Sent 52 2 (messages.Decision (tx 0 2) outcomes.Aborted)) ∷
    marked 4 (Sent 53 3 (messages.Decision (tx 0 2) outcomes.Aborted)) ∷
    marked 4 (Told (replies.Aborted (causes.Fault 3))) ∷ marked 1 (Got 51) ∷ marked 2 (Got 52) ∷ marked 0 (Got 50) ∷
    marked 6 (Phase 2) ∷ marked 3 (Rose ((prepare (tx 0 2) 1 (read_lock 1 2 ∷ []) [] []) ∷ [])) ∷
    marked 3 (Wrote records.Life) ∷ marked 3 (Sent 54 4 (messages.Inquiry (tx 0 2))) ∷ marked 1 (Got 43) ∷
    marked 5 (Called (commands.Epoch 2)) ∷ marked 0 (Got 42) ∷ marked 5 (Sent 55 0 (messages.Close 2)) ∷
    marked 5 (Sent 56 1 (messages.Close 2)) ∷ marked 5 (Sent 57 2 (messages.Close 2)) ∷
    marked 5 (Sent 58 3 (messages.Close 2)) ∷ marked 2 (Got 44) ∷
    marked 0 (Sent 59 4 (messages.Answer 42 answers.Stale)) ∷ marked 2 (Sent 60 4 (messages.Answer 44 answers.Stale)) ∷
    marked 0 (Got 55) ∷ marked 2 (Got 57) ∷ marked 2 (Wrote (records.Close 2)) ∷
    marked 2 (Sent 61 5 (messages.Answer 57 (answers.Shut (snapshot_with 1 (line 1 0 1 1 1 0 ∷ []) []))))
    ∷ marked 4 (Got 46) ∷
    marked 3 (Got 58) ∷ marked 0 (Wrote (records.Close 2)) ∷
    marked 0 (Sent 62 5 (messages.Answer 55 (answers.Shut (snapshot_with 1 (line 1 0 1 1 1 0 ∷ []) [])))) ∷
    marked 1 (Sent 63 4 (messages.Answer 43 answers.Stale)) ∷ marked 5 (Got 61) ∷ marked 1 (Got 56) ∷
    marked 1 (Wrote (records.Close 2)) ∷
    marked 1 (Sent 64 5 (messages.Answer 56 (answers.Shut (snapshot_with 1 (line 1 0 1 1 1 0 ∷ []) [])))) ∷
    marked 3 (Wrote (records.Close 2)) ∷
    marked 3 (Sent 65 5 (messages.Answer 58 (answers.Shut (snapshot_with 0 [] (prepared (tx 0 2) 1 (read_lock 1 2 ∷ []) [] [] ∷ [])))))
    ∷
    marked 5 (Got 62) ∷ marked 5 (Got 64) ∷ marked 4 (Got 54) ∷
    marked 4 (Sent 66 3 (messages.Decision (tx 0 2) outcomes.Aborted)) ∷ marked 4 (Got 59) ∷ marked 3 (Got 66) ∷
    marked 5 (Got 65) ∷ marked 4 (Got 60) ∷ marked 4 (Got 63) ∷ marked 5 (Sent 67 4 (messages.Ask (tx 0 2))) ∷
    marked 4 (Got 67) ∷ marked 4 (Sent 68 5 (messages.Answer 67 (answers.Answered outcomes.Aborted))) ∷
    marked 5 (Got 68) ∷ marked 5 (Wrote (records.Decide (start_with 2 1 (line 1 0 1 1 1 0 ∷ [])))) ∷
    marked 5 (Sent 69 0 (messages.Install (start_with 2 1 (line 1 0 1 1 1 0 ∷ [])))) ∷
    marked 5 (Sent 70 1 (messages.Install (start_with 2 1 (line 1 0 1 1 1 0 ∷ [])))) ∷
    marked 5 (Sent 71 2 (messages.Install (start_with 2 1 (line 1 0 1 1 1 0 ∷ [])))) ∷
    marked 5 (Sent 72 3 (messages.Install (start_with 2 1 (line 1 0 1 1 1 0 ∷ [])))) ∷ marked 4 (Called commands.Begin)
    ∷
    marked 4 (Told (replies.Began (tx 0 3))) ∷ marked 1 (Got 70) ∷ marked 0 (Got 69) ∷
    marked 0 (Wrote (records.Install (start_with 2 1 (line 1 0 1 1 1 0 ∷ [])))) ∷
    marked 0 (Sent 73 5 (messages.Answer 69 answers.Installed)) ∷
    marked 1 (Wrote (records.Install (start_with 2 1 (line 1 0 1 1 1 0 ∷ [])))) ∷
    marked 1 (Sent 74 5 (messages.Answer 70 answers.Installed)) ∷ marked 5 (Got 73) ∷
    marked 4 (Called commands.Commit) ∷ marked 3 (Got 72) ∷
    marked 3 (Wrote (records.Install (start_with 2 1 (line 1 0 1 1 1 0 ∷ [])))) ∷
    marked 3 (Sent 75 5 (messages.Answer 72 answers.Installed)) ∷ marked 4 (Wrote (commit (stamp 2 0) (tx 0 3) [])) ∷
    marked 4 (Told (replies.Committed (stamp 2 0))) ∷ marked 5 (Got 74) ∷ marked 5 (Got 75) ∷ marked 2 (Got 71) ∷
    marked 2 (Wrote (records.Install (start_with 2 1 (line 1 0 1 1 1 0 ∷ [])))) ∷
    marked 2 (Sent 76 5 (messages.Answer 71 answers.Installed)) ∷ marked 5 (Got 76) ∷
    marked 5 (Told (replies.Moved 15 15)) ∷ []
