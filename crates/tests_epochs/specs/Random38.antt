-- Random: sites 4, clients 2, steps 354, messages 103, lost 5, cuts 4, commits 10, absent 4, falls 1, rises 1,
-- unwritten records 1, closes 3, decisions 1, installs 4.
use Rattle.std.specs.Prelude.{List, [], ◌∷◌, Some, None}
use Rattle.qc_decl.specs.declared.declaration.Declaration.{Declaration}
use Rattle.qc_decl.specs.Vocabulary.{row}
use Rattle.qc_msg.specs.Vocabulary.{Entry, marked}
use Rattle.tests_histories.specs.Words.{tx, stamp, line, own_line, operation, read_lock, prepare, commit, declaration}
use Rattle.tests_histories.specs.Words.{kind, pair, plan}
use Rattle.qc_msg.specs.declared.step.Step.TheVariants.{Phase, Cut, Heal, Called, Got, Lost, Wrote, Sent, Told, Fell}
use Rattle.qc_msg.specs.declared.step.Step.TheVariants.{Rose}
use Rattle.tests_epochs.specs.Words.{tx_in, prepared}
use Rattle.qc_msg.specs.declared.message.Answer.TheVariants as answers
use Rattle.qc_msg.specs.declared.step.Command.TheVariants as commands
use Rattle.qc_msg.specs.declared.message.Message.TheVariants as messages
use Rattle.qc_msg.specs.declared.message.Outcome.TheVariants as outcomes
use Rattle.qc_msg.specs.declared.record.Record.TheVariants as records
use Rattle.qc_msg.specs.declared.reply.Reply.TheVariants as replies
use Rattle.qc_msg.specs.declared.message.Want.TheVariants as wants
use Rattle.qc_msg.specs.declared.step.Fall.TheVariants as falls
use Rattle.qc_msg.specs.Vocabulary.{whole_grant, first_read, snapshot_with, start_with}

abbrev pub decl : Declaration
decl =
    declaration 4 2 (kind 4 1 3 0 (row 0 0 1 1 ∷ row 1 0 2 0 ∷ row 1 0 1 2 ∷ row 3 0 1 0 ∷ []) (pair 0 0 ∷ pair 0 1 ∷
    []) ∷ []) (0 ∷ []) (plan (1 ∷ 1 ∷ 2 ∷ 1 ∷ []) ((3 ∷ []) ∷ []) ((3 ∷ 3 ∷ []) ∷ []) ∷ plan (1 ∷ 1 ∷ 1 ∷ 1 ∷ []) ((1 ∷
    []) ∷ []) ((4 ∷ 4 ∷ []) ∷ []) ∷ plan (1 ∷ 0 ∷ 1 ∷ 1 ∷ []) ((2 ∷ []) ∷ []) ((2 ∷ 2 ∷ []) ∷ []) ∷ [])

abbrev pub history : List Entry
history =
    marked 7 (Phase 1) ∷ marked 5 (Called commands.Begin) ∷ marked 5 (Told (replies.Began (tx 1 1))) ∷
    marked 5 (Called commands.Commit) ∷ marked 4 (Called commands.Begin) ∷
    marked 5 (Wrote (commit (stamp 1 1) (tx 1 1) [])) ∷ marked 5 (Told (replies.Committed (stamp 1 1))) ∷
    marked 5 (Called commands.Begin) ∷ marked 4 (Told (replies.Began (tx 0 1))) ∷ marked 4 (Called commands.Commit) ∷
    marked 4 (Wrote (commit (stamp 1 0) (tx 0 1) [])) ∷ marked 4 (Told (replies.Committed (stamp 1 0))) ∷
    marked 5 (Told (replies.Began (tx 1 2))) ∷ marked 5 (Called commands.Commit) ∷ marked 5 (Told replies.Unknown) ∷
    marked 5 (Fell falls.Stop (Some (commit (stamp 2 1) (tx 1 2) []))) ∷ marked 5 (Called commands.Begin) ∷
    marked 5 (Told replies.Down) ∷ marked 5 (Called commands.Commit) ∷ marked 5 (Told replies.Down) ∷
    marked 7 (Phase 2) ∷ marked 5 (Called commands.Begin) ∷ marked 4 (Called commands.Begin) ∷
    marked 5 (Told replies.Down) ∷ marked 6 (Called (commands.Epoch 3)) ∷ marked 4 (Told (replies.Began (tx 0 2))) ∷
    marked 4 (Called (commands.Do 0 0)) ∷ marked 5 (Called (commands.Do 0 0)) ∷
    marked 4 (Sent 0 0 (messages.Request (tx 0 2) 1 0 (wants.Read (first_read 0 0)))) ∷
    marked 4 (Sent 1 1 (messages.Request (tx 0 2) 1 0 (wants.Read (first_read 0 0)))) ∷
    marked 4 (Sent 2 2 (messages.Request (tx 0 2) 1 0 (wants.Read (first_read 0 0)))) ∷ marked 2 (Got 2) ∷
    marked 2 (Sent 3 4 (messages.Answer 2 (answers.Granted (whole_grant 1 0 [])))) ∷ marked 6 (Told (replies.Order 1)) ∷
    marked 4 (Got 3) ∷ marked 5 (Told replies.Down) ∷ marked 1 (Got 1) ∷
    marked 1 (Sent 4 4 (messages.Answer 1 (answers.Granted (whole_grant 1 0 [])))) ∷ marked 0 (Got 0) ∷
    marked 0 (Sent 5 4 (messages.Answer 0 (answers.Granted (whole_grant 1 0 [])))) ∷ marked 4 (Got 4) ∷ marked 4 (Got 5)
    ∷
    marked 4 (Sent 6 0 (messages.Request (tx 0 2) 1 1 (wants.Append 0 [] (own_line 1 0 0 ∷ [])))) ∷
    marked 4 (Sent 7 1 (messages.Request (tx 0 2) 1 1 (wants.Append 0 [] (own_line 1 0 0 ∷ [])))) ∷
    marked 4 (Sent 8 2 (messages.Request (tx 0 2) 1 1 (wants.Append 0 [] (own_line 1 0 0 ∷ [])))) ∷ marked 0 (Got 6) ∷
    marked 0 (Sent 9 4 (messages.Answer 6 (answers.Granted (whole_grant 1 0 [])))) ∷ marked 2 (Got 8) ∷ marked 1 (Got 7)
    ∷
    marked 2 (Sent 10 4 (messages.Answer 8 (answers.Granted (whole_grant 1 0 [])))) ∷
    marked 1 (Sent 11 4 (messages.Answer 7 (answers.Granted (whole_grant 1 0 [])))) ∷ marked 4 (Got 9)
    ∷ marked 4 (Got 10) ∷
    marked 4 (Got 11) ∷ marked 4 (Told (replies.Response 1)) ∷ marked 4 (Called (commands.Do 0 0)) ∷
    marked 4 (Sent 12 0 (messages.Request (tx 0 2) 1 1 (wants.Read (first_read 0 0)))) ∷
    marked 4 (Sent 13 1 (messages.Request (tx 0 2) 1 1 (wants.Read (first_read 0 0)))) ∷
    marked 4 (Sent 14 2 (messages.Request (tx 0 2) 1 1 (wants.Read (first_read 0 0)))) ∷ marked 0 (Got 12)
    ∷ marked 4 (Lost 14) ∷
    marked 0 (Sent 15 4 (messages.Answer 12 (answers.Granted (whole_grant 1 0 [])))) ∷ marked 4 (Got 15)
    ∷ marked 1 (Got 13) ∷
    marked 1 (Sent 16 4 (messages.Answer 13 (answers.Granted (whole_grant 1 0 [])))) ∷ marked 4 (Got 16) ∷
    marked 4 (Sent 17 3 (messages.Request (tx 0 2) 1 0 (wants.Read (first_read 0 0)))) ∷ marked 3 (Got 17) ∷
    marked 3 (Sent 18 4 (messages.Answer 17 (answers.Granted (whole_grant 1 0 [])))) ∷ marked 4 (Got 18) ∷
    marked 4 (Sent 19 0 (messages.Request (tx 0 2) 1 1 (wants.Append 0 [] (own_line 1 0 0 ∷ own_line 2 0 0 ∷ [])))) ∷
    marked 4 (Sent 20 1 (messages.Request (tx 0 2) 1 1 (wants.Append 0 [] (own_line 1 0 0 ∷ own_line 2 0 0 ∷ [])))) ∷
    marked 4 (Sent 21 2 (messages.Request (tx 0 2) 1 1 (wants.Append 0 [] (own_line 1 0 0 ∷ own_line 2 0 0 ∷ [])))) ∷
    marked 4 (Lost 19) ∷ marked 2 (Got 21)
    ∷ marked 2 (Sent 22 4 (messages.Answer 21 (answers.Granted (whole_grant 1 0 [])))) ∷
    marked 1 (Got 20) ∷ marked 1 (Sent 23 4 (messages.Answer 20 (answers.Granted (whole_grant 1 0 []))))
    ∷ marked 4 (Got 22) ∷
    marked 4 (Got 23) ∷ marked 4 (Told (replies.Response 1)) ∷ marked 7 (Phase 3) ∷ marked 7 (Cut 6 5) ∷
    marked 7 (Cut 6 2) ∷ marked 4 (Called commands.Commit) ∷ marked 5 (Called (commands.Do 0 0)) ∷ marked 0 (Got 19) ∷
    marked 4 (Sent 24 0 (messages.Request (tx 0 2) 1 1 wants.Prepare)) ∷
    marked 4 (Sent 25 1 (messages.Request (tx 0 2) 1 1 wants.Prepare)) ∷
    marked 4 (Sent 26 2 (messages.Request (tx 0 2) 1 1 wants.Prepare)) ∷
    marked 4 (Sent 27 3 (messages.Request (tx 0 2) 1 1 wants.Prepare)) ∷ marked 3 (Got 27) ∷
    marked 6 (Called (commands.Epoch 2)) ∷ marked 3 (Wrote (prepare (tx 0 2) 1 (read_lock 0 0 ∷ []) [] [])) ∷
    marked 3 (Sent 28 4 (messages.Answer 27 (answers.Yes 0))) ∷
    marked 0 (Sent 29 4 (messages.Answer 19 (answers.Granted (whole_grant 1 0 [])))) ∷ marked 2 (Got 26)
    ∷ marked 1 (Got 25) ∷
    marked 5 (Told replies.Down) ∷
    marked 1 (Wrote (prepare (tx 0 2) 1 (read_lock 0 0 ∷ []) (own_line 1 0 0 ∷ own_line 2 0 0 ∷ []) [])) ∷
    marked 1 (Sent 30 4 (messages.Answer 25 (answers.Yes 0))) ∷ marked 5 (Called commands.Commit) ∷ marked 4 (Got 28) ∷
    marked 2 (Wrote (prepare (tx 0 2) 1 (read_lock 0 0 ∷ []) (own_line 1 0 0 ∷ own_line 2 0 0 ∷ []) [])) ∷
    marked 2 (Sent 31 4 (messages.Answer 26 (answers.Yes 0))) ∷ marked 6 (Sent 32 0 (messages.Close 2)) ∷
    marked 6 (Sent 33 1 (messages.Close 2)) ∷ marked 6 (Sent 34 2 (messages.Close 2)) ∷ marked 6 (Lost 34) ∷
    marked 5 (Told replies.Down) ∷ marked 0 (Got 24) ∷ marked 1 (Got 33) ∷
    marked 0 (Wrote (prepare (tx 0 2) 1 (read_lock 0 0 ∷ []) (own_line 1 0 0 ∷ own_line 2 0 0 ∷ []) [])) ∷
    marked 0 (Sent 35 4 (messages.Answer 24 (answers.Yes 0))) ∷ marked 1 (Wrote (records.Close 2)) ∷
    marked 1
    (Sent 36 6
    (messages.Answer 33
    (answers.Shut (snapshot_with 0 []
    (prepared (tx 0 2) 1 (read_lock 0 0 ∷ []) (own_line 1 0 0 ∷ own_line 2 0 0 ∷ []) [] ∷ []))))) ∷
    marked 4 (Got 29) ∷ marked 4 (Got 30) ∷ marked 6 (Got 36) ∷ marked 4 (Got 31) ∷ marked 4 (Got 35) ∷
    marked 4 (Wrote (commit (stamp 2 0) (tx 0 2) (operation 0 0 (Some 1) ∷ operation 0 0 (Some 1) ∷ []))) ∷
    marked 4 (Sent 37 0 (messages.Decision (tx 0 2) (outcomes.Committed (stamp 2 0)))) ∷
    marked 4 (Sent 38 1 (messages.Decision (tx 0 2) (outcomes.Committed (stamp 2 0)))) ∷
    marked 4 (Sent 39 2 (messages.Decision (tx 0 2) (outcomes.Committed (stamp 2 0)))) ∷
    marked 4 (Sent 40 3 (messages.Decision (tx 0 2) (outcomes.Committed (stamp 2 0)))) ∷
    marked 4 (Told (replies.Committed (stamp 2 0))) ∷ marked 0 (Got 32) ∷ marked 4 (Called commands.Begin) ∷
    marked 2 (Got 39) ∷ marked 1 (Got 38) ∷ marked 3 (Got 40) ∷ marked 1 (Wrote (records.Done (tx 0 2) 2)) ∷
    marked 4 (Told (replies.Began (tx 0 3))) ∷ marked 0 (Wrote (records.Close 2)) ∷
    marked 0
    (Sent 41 6
    (messages.Answer 32
    (answers.Shut (snapshot_with 0 []
    (prepared (tx 0 2) 1 (read_lock 0 0 ∷ []) (own_line 1 0 0 ∷ own_line 2 0 0 ∷ []) [] ∷ []))))) ∷
    marked 6 (Got 41) ∷ marked 6 (Sent 42 3 (messages.Close 2)) ∷ marked 2 (Wrote (records.Done (tx 0 2) 2)) ∷
    marked 3 (Wrote (records.Done (tx 0 2) 2)) ∷ marked 4 (Called commands.Commit) ∷
    marked 4 (Wrote (commit (stamp 3 0) (tx 0 3) [])) ∷ marked 4 (Told (replies.Committed (stamp 3 0))) ∷
    marked 3 (Got 42) ∷ marked 0 (Got 37) ∷ marked 0 (Wrote (records.Done (tx 0 2) 2)) ∷
    marked 3 (Wrote (records.Close 2))
    ∷ marked 3 (Sent 43 6 (messages.Answer 42 (answers.Shut (snapshot_with 2 [] [])))) ∷
    marked 6 (Got 43) ∷ marked 6 (Sent 44 4 (messages.Ask (tx 0 2))) ∷ marked 4 (Got 44) ∷
    marked 4 (Sent 45 6 (messages.Answer 44 (answers.Answered (outcomes.Committed (stamp 2 0))))) ∷ marked 6 (Got 45) ∷
    marked 6 (Wrote (records.Decide (start_with 2 2 (line 2 0 2 1 0 0 ∷ line 2 0 2 2 0 0 ∷ [])))) ∷
    marked 6 (Sent 46 0 (messages.Install (start_with 2 2 (line 2 0 2 1 0 0 ∷ line 2 0 2 2 0 0 ∷ [])))) ∷
    marked 6 (Sent 47 1 (messages.Install (start_with 2 2 (line 2 0 2 1 0 0 ∷ line 2 0 2 2 0 0 ∷ [])))) ∷
    marked 6 (Sent 48 2 (messages.Install (start_with 2 2 (line 2 0 2 1 0 0 ∷ line 2 0 2 2 0 0 ∷ [])))) ∷
    marked 6 (Sent 49 3 (messages.Install (start_with 2 2 (line 2 0 2 1 0 0 ∷ line 2 0 2 2 0 0 ∷ []))))
    ∷ marked 3 (Got 49) ∷
    marked 6 (Lost 48) ∷ marked 1 (Got 47) ∷ marked 0 (Got 46) ∷
    marked 0 (Wrote (records.Install (start_with 2 2 (line 2 0 2 1 0 0 ∷ line 2 0 2 2 0 0 ∷ [])))) ∷
    marked 0 (Sent 50 6 (messages.Answer 46 answers.Installed)) ∷
    marked 1 (Wrote (records.Install (start_with 2 2 (line 2 0 2 1 0 0 ∷ line 2 0 2 2 0 0 ∷ [])))) ∷
    marked 1 (Sent 51 6 (messages.Answer 47 answers.Installed)) ∷
    marked 3 (Wrote (records.Install (start_with 2 2 (line 2 0 2 1 0 0 ∷ line 2 0 2 2 0 0 ∷ [])))) ∷
    marked 3 (Sent 52 6 (messages.Answer 49 answers.Installed)) ∷ marked 6 (Got 50) ∷ marked 6 (Got 51) ∷
    marked 6 (Got 52) ∷ marked 6 (Told (replies.Moved 11 11)) ∷ marked 6 (Called (commands.Epoch 2)) ∷
    marked 6 (Sent 53 0 (messages.Install (start_with 2 2 (line 2 0 2 1 0 0 ∷ line 2 0 2 2 0 0 ∷ [])))) ∷
    marked 6 (Sent 54 1 (messages.Install (start_with 2 2 (line 2 0 2 1 0 0 ∷ line 2 0 2 2 0 0 ∷ [])))) ∷
    marked 6 (Sent 55 2 (messages.Install (start_with 2 2 (line 2 0 2 1 0 0 ∷ line 2 0 2 2 0 0 ∷ [])))) ∷
    marked 6 (Sent 56 3 (messages.Install (start_with 2 2 (line 2 0 2 1 0 0 ∷ line 2 0 2 2 0 0 ∷ []))))
    ∷ marked 0 (Got 53) ∷
    marked 0 (Sent 57 6 (messages.Answer 53 answers.Installed)) ∷ marked 3 (Got 56) ∷ marked 6 (Got 57) ∷
    marked 1 (Got 54) ∷ marked 3 (Sent 58 6 (messages.Answer 56 answers.Installed)) ∷ marked 6 (Got 58) ∷
    marked 1 (Sent 59 6 (messages.Answer 54 answers.Installed)) ∷ marked 6 (Got 59) ∷ marked 6 (Lost 55) ∷
    marked 6 (Told (replies.Moved 0 11)) ∷ marked 7 (Phase 4) ∷ marked 7 (Heal 6 5) ∷ marked 7 (Heal 6 2) ∷
    marked 7 (Cut 4 2) ∷ marked 7 (Cut 6 3) ∷ marked 5 (Called commands.Begin) ∷ marked 5 (Told replies.Down) ∷
    marked 5 (Called (commands.Do 0 0)) ∷ marked 5 (Told replies.Down) ∷ marked 5 (Called (commands.Do 0 0)) ∷
    marked 5 (Told replies.Down) ∷ marked 5 (Called (commands.Do 0 0)) ∷ marked 5 (Told replies.Down) ∷
    marked 7 (Phase 5) ∷ marked 7 (Heal 4 2) ∷ marked 7 (Heal 6 3) ∷ marked 4 (Called commands.Begin) ∷
    marked 6 (Called (commands.Epoch 2)) ∷ marked 5 (Called commands.Commit) ∷
    marked 6 (Sent 60 0 (messages.Install (start_with 2 2 (line 2 0 2 1 0 0 ∷ line 2 0 2 2 0 0 ∷ [])))) ∷
    marked 6 (Sent 61 1 (messages.Install (start_with 2 2 (line 2 0 2 1 0 0 ∷ line 2 0 2 2 0 0 ∷ [])))) ∷
    marked 6 (Sent 62 2 (messages.Install (start_with 2 2 (line 2 0 2 1 0 0 ∷ line 2 0 2 2 0 0 ∷ [])))) ∷
    marked 6 (Sent 63 3 (messages.Install (start_with 2 2 (line 2 0 2 1 0 0 ∷ line 2 0 2 2 0 0 ∷ [])))) ∷
    marked 4 (Told (replies.Began (tx 0 4))) ∷ marked 3 (Got 63) ∷ marked 0 (Got 60) ∷ marked 2 (Got 62) ∷
    marked 3 (Sent 64 6 (messages.Answer 63 answers.Installed)) ∷ marked 6 (Got 64) ∷ marked 1 (Got 61) ∷
    marked 0 (Sent 65 6 (messages.Answer 60 answers.Installed)) ∷
    marked 1 (Sent 66 6 (messages.Answer 61 answers.Installed)) ∷ marked 5 (Told replies.Down) ∷
    marked 2 (Wrote (records.Install (start_with 2 2 (line 2 0 2 1 0 0 ∷ line 2 0 2 2 0 0 ∷ [])))) ∷
    marked 2 (Sent 67 6 (messages.Answer 62 answers.Installed)) ∷ marked 6 (Got 65) ∷ marked 6 (Got 66) ∷
    marked 6 (Got 67) ∷ marked 6 (Told (replies.Moved 0 15)) ∷ marked 7 (Phase 6) ∷
    marked 5 (Rose ((commit (stamp 1 1) (tx 1 1) []) ∷ [])) ∷ marked 5 (Wrote records.Life) ∷
    marked 5 (Called commands.Abort) ∷ marked 5 (Told replies.NoTransaction) ∷ marked 4 (Called commands.Abort) ∷
    marked 4 (Told replies.Dropped) ∷ marked 4 (Called commands.Begin) ∷ marked 4 (Told (replies.Began (tx 0 5))) ∷
    marked 4 (Called (commands.Do 0 0)) ∷ marked 5 (Called commands.Begin) ∷
    marked 5 (Told (replies.Began (tx_in 1 2 1))) ∷
    marked 4 (Sent 68 0 (messages.Request (tx 0 5) 1 0 (wants.Read (first_read 0 0)))) ∷
    marked 4 (Sent 69 1 (messages.Request (tx 0 5) 1 0 (wants.Read (first_read 0 0)))) ∷
    marked 4 (Sent 70 2 (messages.Request (tx 0 5) 1 0 (wants.Read (first_read 0 0)))) ∷ marked 1 (Got 69) ∷
    marked 1 (Sent 71 4 (messages.Answer 69 (answers.Closed 2))) ∷ marked 4 (Got 71) ∷ marked 0 (Got 68) ∷
    marked 0 (Sent 72 4 (messages.Answer 68 (answers.Closed 2))) ∷ marked 4 (Got 72) ∷
    marked 5 (Called (commands.Do 0 0))
    ∷ marked 5 (Sent 73 1 (messages.Request (tx_in 1 2 1) 1 0 (wants.Read (first_read 0 0)))) ∷
    marked 5 (Sent 74 2 (messages.Request (tx_in 1 2 1) 1 0 (wants.Read (first_read 0 0)))) ∷ marked 2 (Got 70)
    ∷ marked 1 (Got 73) ∷
    marked 2 (Sent 75 4 (messages.Answer 70 (answers.Closed 2))) ∷
    marked 1 (Sent 76 5 (messages.Answer 73 (answers.Closed 2))) ∷ marked 2 (Got 74) ∷
    marked 2 (Sent 77 5 (messages.Answer 74 (answers.Closed 2))) ∷ marked 4 (Got 75) ∷
    marked 4 (Told (replies.Closed 2 0)) ∷ marked 5 (Got 76) ∷ marked 4 (Called commands.Commit) ∷
    marked 4 (Wrote (commit (stamp 4 0) (tx 0 5) [])) ∷
    marked 4 (Sent 78 0 (messages.Decision (tx 0 5) (outcomes.Committed (stamp 4 0)))) ∷
    marked 4 (Sent 79 1 (messages.Decision (tx 0 5) (outcomes.Committed (stamp 4 0)))) ∷
    marked 4 (Sent 80 2 (messages.Decision (tx 0 5) (outcomes.Committed (stamp 4 0)))) ∷
    marked 4 (Told (replies.Committed (stamp 4 0))) ∷ marked 1 (Got 79) ∷ marked 0 (Got 78) ∷ marked 5 (Got 77) ∷
    marked 5 (Told (replies.Closed 2 1)) ∷ marked 2 (Got 80) ∷ marked 5 (Called commands.Commit) ∷
    marked 5 (Wrote (commit (stamp 2 1) (tx_in 1 2 1) [])) ∷
    marked 5 (Sent 81 1 (messages.Decision (tx_in 1 2 1) (outcomes.Committed (stamp 2 1)))) ∷
    marked 5 (Sent 82 2 (messages.Decision (tx_in 1 2 1) (outcomes.Committed (stamp 2 1)))) ∷
    marked 5 (Told (replies.Committed (stamp 2 1))) ∷ marked 1 (Got 81) ∷ marked 2 (Got 82) ∷
    marked 4 (Called commands.Begin) ∷ marked 5 (Called commands.Begin) ∷ marked 4 (Told (replies.Began (tx 0 6))) ∷
    marked 4 (Called (commands.Do 0 0)) ∷ marked 5 (Told (replies.Began (tx_in 1 2 2))) ∷
    marked 4 (Sent 83 0 (messages.Request (tx 0 6) 2 0 (wants.Read (first_read 0 0))))
    ∷ marked 5 (Called (commands.Do 0 0)) ∷
    marked 0 (Got 83) ∷ marked 5 (Sent 84 1 (messages.Request (tx_in 1 2 2) 2 0 (wants.Read (first_read 0 0)))) ∷
    marked 0
    (Sent 85 4 (messages.Answer 83 (answers.Granted (whole_grant 2 4 (line 2 0 2 1 0 0 ∷ line 2 0 2 2 0 0 ∷ []))))) ∷
    marked 4 (Got 85) ∷ marked 1 (Got 84) ∷ marked 4 (Told replies.Absent) ∷ marked 4 (Called commands.Commit) ∷
    marked 4 (Sent 86 0 (messages.Request (tx 0 6) 2 2 wants.Prepare)) ∷
    marked 1
    (Sent 87 5 (messages.Answer 84 (answers.Granted (whole_grant 2 4 (line 2 0 2 1 0 0 ∷ line 2 0 2 2 0 0 ∷ []))))) ∷
    marked 5 (Got 87) ∷ marked 0 (Got 86) ∷ marked 0 (Wrote (prepare (tx 0 6) 2 (read_lock 0 0 ∷ []) [] [])) ∷
    marked 0 (Sent 88 4 (messages.Answer 86 (answers.Yes 4))) ∷ marked 4 (Got 88) ∷
    marked 4 (Wrote (commit (stamp 5 0) (tx 0 6) (operation 0 0 None ∷ []))) ∷
    marked 4 (Sent 89 0 (messages.Decision (tx 0 6) (outcomes.Committed (stamp 5 0)))) ∷
    marked 4 (Told (replies.Committed (stamp 5 0))) ∷ marked 0 (Got 89) ∷ marked 4 (Called commands.Begin) ∷
    marked 5 (Told replies.Absent) ∷ marked 5 (Called commands.Commit) ∷ marked 4 (Told (replies.Began (tx 0 7))) ∷
    marked 4 (Called (commands.Do 0 0)) ∷ marked 5 (Sent 90 1 (messages.Request (tx_in 1 2 2) 2 2 wants.Prepare)) ∷
    marked 1 (Got 90) ∷ marked 0 (Wrote (records.Done (tx 0 6) 5)) ∷
    marked 4 (Sent 91 0 (messages.Request (tx 0 7) 2 0 (wants.Read (first_read 0 0)))) ∷ marked 0 (Got 91) ∷
    marked 1 (Wrote (prepare (tx_in 1 2 2) 2 (read_lock 0 0 ∷ []) [] [])) ∷
    marked 1 (Sent 92 5 (messages.Answer 90 (answers.Yes 4))) ∷
    marked 0
    (Sent 93 4 (messages.Answer 91 (answers.Granted (whole_grant 2 5 (line 2 0 2 1 0 0 ∷ line 2 0 2 2 0 0 ∷ []))))) ∷
    marked 5 (Got 92) ∷ marked 4 (Got 93) ∷
    marked 5 (Wrote (commit (stamp 5 1) (tx_in 1 2 2) (operation 0 0 None ∷ []))) ∷
    marked 5 (Sent 94 1 (messages.Decision (tx_in 1 2 2) (outcomes.Committed (stamp 5 1)))) ∷
    marked 5 (Told (replies.Committed (stamp 5 1))) ∷ marked 5 (Called commands.Begin) ∷
    marked 5 (Told (replies.Began (tx_in 1 2 3))) ∷ marked 4 (Told replies.Absent) ∷
    marked 5 (Called (commands.Do 0 0)) ∷ marked 1 (Got 94) ∷ marked 1 (Wrote (records.Done (tx_in 1 2 2) 5)) ∷
    marked 5 (Sent 95 1 (messages.Request (tx_in 1 2 3) 2 0 (wants.Read (first_read 0 0)))) ∷ marked 1 (Got 95) ∷
    marked 1
    (Sent 96 5 (messages.Answer 95 (answers.Granted (whole_grant 2 5 (line 2 0 2 1 0 0 ∷ line 2 0 2 2 0 0 ∷ []))))) ∷
    marked 4 (Called commands.Commit) ∷ marked 5 (Got 96) ∷ marked 5 (Told replies.Absent) ∷
    marked 4 (Sent 97 0 (messages.Request (tx 0 7) 2 2 wants.Prepare)) ∷ marked 0 (Got 97) ∷
    marked 5 (Called commands.Commit) ∷ marked 0 (Wrote (prepare (tx 0 7) 2 (read_lock 0 0 ∷ []) [] [])) ∷
    marked 0 (Sent 98 4 (messages.Answer 97 (answers.Yes 5))) ∷
    marked 5 (Sent 99 1 (messages.Request (tx_in 1 2 3) 2 2 wants.Prepare)) ∷ marked 1 (Got 99) ∷
    marked 1 (Wrote (prepare (tx_in 1 2 3) 2 (read_lock 0 0 ∷ []) [] [])) ∷
    marked 1 (Sent 100 5 (messages.Answer 99 (answers.Yes 5))) ∷ marked 4 (Got 98) ∷ marked 5 (Got 100) ∷
    marked 5 (Wrote (commit (stamp 6 1) (tx_in 1 2 3) (operation 0 0 None ∷ []))) ∷
    marked 5 (Sent 101 1 (messages.Decision (tx_in 1 2 3) (outcomes.Committed (stamp 6 1)))) ∷
    marked 5 (Told (replies.Committed (stamp 6 1))) ∷
    marked 4 (Wrote (commit (stamp 6 0) (tx 0 7) (operation 0 0 None ∷ []))) ∷
    marked 4 (Sent 102 0 (messages.Decision (tx 0 7) (outcomes.Committed (stamp 6 0)))) ∷
    marked 4 (Told (replies.Committed (stamp 6 0))) ∷ marked 1 (Got 101) ∷ marked 0 (Got 102) ∷
    marked 1 (Wrote (records.Done (tx_in 1 2 3) 6)) ∷ marked 0 (Wrote (records.Done (tx 0 7) 6)) ∷ []
