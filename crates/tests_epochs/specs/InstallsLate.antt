-- An Install comes late, after that of a later epoch; a decided epoch is installed again; other epochs are refused.
use Rattle.std.specs.Prelude.{List, [], ◌∷◌, Some}
use Rattle.qc_msg.specs.Vocabulary.{Entry, marked}
use Rattle.tests_histories.specs.Words.{tx, stamp, line, own_line, operation, read_lock, prepare, commit}
use Rattle.qc_msg.specs.declared.step.Step.TheVariants.{Phase, Called, Got, Lost, Wrote, Sent, Told}
use Rattle.qc_msg.specs.declared.message.Answer.TheVariants as answers
use Rattle.qc_msg.specs.declared.step.Command.TheVariants as commands
use Rattle.qc_msg.specs.declared.message.Message.TheVariants as messages
use Rattle.qc_msg.specs.declared.message.Outcome.TheVariants as outcomes
use Rattle.qc_msg.specs.declared.record.Record.TheVariants as records
use Rattle.qc_msg.specs.declared.reply.Reply.TheVariants as replies
use Rattle.qc_msg.specs.declared.message.Want.TheVariants as wants
use Rattle.qc_msg.specs.Vocabulary.{whole_grant, first_read, snapshot_with, start_with}

abbrev pub history : List Entry
history =
    marked 7 (Phase 1) ∷ marked 3 (Called commands.Begin) ∷ marked 3 (Told (replies.Began (tx 0 1))) ∷
    marked 3 (Called (commands.Do 0 2)) ∷
    marked 3 (Sent 0 0 (messages.Request (tx 0 1) 1 0 (wants.Append 0 [] (own_line 1 0 3 ∷ [])))) ∷
    marked 3 (Sent 1 1 (messages.Request (tx 0 1) 1 0 (wants.Append 0 [] (own_line 1 0 3 ∷ [])))) ∷ marked 0 (Got 0) ∷
    marked 0 (Sent 2 3 (messages.Answer 0 (answers.Granted (whole_grant 1 0 [])))) ∷ marked 1 (Got 1) ∷
    marked 1 (Sent 3 3 (messages.Answer 1 (answers.Granted (whole_grant 1 0 [])))) ∷ marked 3 (Got 2) ∷ marked 3 (Got 3)
    ∷
    marked 3 (Told (replies.Response 2)) ∷ marked 3 (Called commands.Commit) ∷
    marked 3 (Sent 4 0 (messages.Request (tx 0 1) 1 1 wants.Prepare)) ∷
    marked 3 (Sent 5 1 (messages.Request (tx 0 1) 1 1 wants.Prepare)) ∷ marked 0 (Got 4) ∷
    marked 0 (Wrote (prepare (tx 0 1) 1 [] (own_line 1 0 3 ∷ []) [])) ∷
    marked 0 (Sent 6 3 (messages.Answer 4 (answers.Yes 0))) ∷ marked 1 (Got 5) ∷
    marked 1 (Wrote (prepare (tx 0 1) 1 [] (own_line 1 0 3 ∷ []) [])) ∷
    marked 1 (Sent 7 3 (messages.Answer 5 (answers.Yes 0))) ∷ marked 3 (Got 6) ∷ marked 3 (Got 7) ∷
    marked 3 (Wrote (commit (stamp 1 0) (tx 0 1) (operation 0 2 (Some 2) ∷ []))) ∷
    marked 3 (Sent 8 0 (messages.Decision (tx 0 1) (outcomes.Committed (stamp 1 0)))) ∷
    marked 3 (Sent 9 1 (messages.Decision (tx 0 1) (outcomes.Committed (stamp 1 0)))) ∷
    marked 3 (Told (replies.Committed (stamp 1 0))) ∷ marked 0 (Got 8) ∷ marked 0 (Wrote (records.Done (tx 0 1) 1)) ∷
    marked 1 (Got 9) ∷ marked 1 (Wrote (records.Done (tx 0 1) 1)) ∷ marked 7 (Phase 2) ∷
    marked 6 (Called (commands.Epoch 3)) ∷ marked 6 (Told (replies.Order 1)) ∷ marked 6 (Called (commands.Epoch 2)) ∷
    marked 6 (Sent 10 0 (messages.Close 2)) ∷ marked 6 (Sent 11 1 (messages.Close 2)) ∷ marked 0 (Got 10) ∷
    marked 0 (Wrote (records.Close 2)) ∷
    marked 0 (Sent 12 6 (messages.Answer 10 (answers.Shut (snapshot_with 1 (line 1 0 1 1 0 3 ∷ []) []))))
    ∷ marked 1 (Got 11) ∷
    marked 1 (Wrote (records.Close 2)) ∷
    marked 1 (Sent 13 6 (messages.Answer 11 (answers.Shut (snapshot_with 1 (line 1 0 1 1 0 3 ∷ []) []))))
    ∷ marked 6 (Got 12) ∷
    marked 6 (Got 13) ∷ marked 6 (Wrote (records.Decide (start_with 2 1 (line 1 0 1 1 0 3 ∷ [])))) ∷
    marked 6 (Sent 14 0 (messages.Install (start_with 2 1 (line 1 0 1 1 0 3 ∷ [])))) ∷
    marked 6 (Sent 15 1 (messages.Install (start_with 2 1 (line 1 0 1 1 0 3 ∷ [])))) ∷
    marked 6 (Sent 16 2 (messages.Install (start_with 2 1 (line 1 0 1 1 0 3 ∷ [])))) ∷ marked 0 (Got 14) ∷
    marked 0 (Wrote (records.Install (start_with 2 1 (line 1 0 1 1 0 3 ∷ [])))) ∷
    marked 0 (Sent 17 6 (messages.Answer 14 answers.Installed)) ∷ marked 6 (Got 17) ∷ marked 6 (Lost 15) ∷
    marked 6 (Lost 16) ∷ marked 6 (Told (replies.Moved 3 1)) ∷ marked 6 (Called (commands.Epoch 2)) ∷
    marked 6 (Sent 18 0 (messages.Install (start_with 2 1 (line 1 0 1 1 0 3 ∷ [])))) ∷
    marked 6 (Sent 19 1 (messages.Install (start_with 2 1 (line 1 0 1 1 0 3 ∷ [])))) ∷
    marked 6 (Sent 20 2 (messages.Install (start_with 2 1 (line 1 0 1 1 0 3 ∷ [])))) ∷ marked 0 (Got 18) ∷
    marked 0 (Sent 21 6 (messages.Answer 18 answers.Installed)) ∷ marked 1 (Got 19) ∷
    marked 1 (Wrote (records.Install (start_with 2 1 (line 1 0 1 1 0 3 ∷ [])))) ∷
    marked 1 (Sent 22 6 (messages.Answer 19 answers.Installed)) ∷ marked 2 (Got 20) ∷
    marked 2 (Wrote (records.Install (start_with 2 1 (line 1 0 1 1 0 3 ∷ [])))) ∷
    marked 2 (Sent 23 6 (messages.Answer 20 answers.Installed)) ∷ marked 6 (Got 21) ∷ marked 6 (Got 22) ∷
    marked 6 (Got 23) ∷ marked 6 (Told (replies.Moved 0 7)) ∷ marked 7 (Phase 3) ∷ marked 2 (Got 16) ∷
    marked 2 (Sent 24 6 (messages.Answer 16 answers.Installed)) ∷ marked 6 (Got 24) ∷
    marked 6 (Called (commands.Epoch 3)) ∷ marked 6 (Sent 25 0 (messages.Close 3)) ∷
    marked 6 (Sent 26 1 (messages.Close 3)) ∷ marked 6 (Sent 27 2 (messages.Close 3)) ∷ marked 0 (Got 25) ∷
    marked 0 (Wrote (records.Close 3)) ∷
    marked 0 (Sent 28 6 (messages.Answer 25 (answers.Shut (snapshot_with 1 (line 1 0 1 1 0 3 ∷ []) []))))
    ∷ marked 1 (Got 26) ∷
    marked 1 (Wrote (records.Close 3)) ∷
    marked 1 (Sent 29 6 (messages.Answer 26 (answers.Shut (snapshot_with 1 (line 1 0 1 1 0 3 ∷ []) []))))
    ∷ marked 2 (Got 27) ∷
    marked 2 (Wrote (records.Close 3)) ∷
    marked 2 (Sent 30 6 (messages.Answer 27 (answers.Shut (snapshot_with 1 (line 1 0 1 1 0 3 ∷ []) []))))
    ∷ marked 6 (Got 28) ∷
    marked 6 (Got 29) ∷ marked 6 (Got 30) ∷ marked 6 (Wrote (records.Decide (start_with 3 1 (line 1 0 1 1 0 3 ∷ [])))) ∷
    marked 6 (Sent 31 0 (messages.Install (start_with 3 1 (line 1 0 1 1 0 3 ∷ [])))) ∷
    marked 6 (Sent 32 1 (messages.Install (start_with 3 1 (line 1 0 1 1 0 3 ∷ [])))) ∷
    marked 6 (Sent 33 2 (messages.Install (start_with 3 1 (line 1 0 1 1 0 3 ∷ [])))) ∷ marked 0 (Got 31) ∷
    marked 0 (Wrote (records.Install (start_with 3 1 (line 1 0 1 1 0 3 ∷ [])))) ∷
    marked 0 (Sent 34 6 (messages.Answer 31 answers.Installed)) ∷ marked 1 (Got 32) ∷
    marked 1 (Wrote (records.Install (start_with 3 1 (line 1 0 1 1 0 3 ∷ [])))) ∷
    marked 1 (Sent 35 6 (messages.Answer 32 answers.Installed)) ∷ marked 2 (Got 33) ∷
    marked 2 (Wrote (records.Install (start_with 3 1 (line 1 0 1 1 0 3 ∷ [])))) ∷
    marked 2 (Sent 36 6 (messages.Answer 33 answers.Installed)) ∷ marked 6 (Got 34) ∷ marked 6 (Got 35) ∷
    marked 6 (Got 36) ∷ marked 6 (Told (replies.Moved 7 7)) ∷ marked 6 (Called (commands.Epoch 2)) ∷
    marked 6 (Told (replies.Order 3)) ∷ marked 6 (Called (commands.Epoch 3)) ∷
    marked 6 (Sent 37 0 (messages.Install (start_with 3 1 (line 1 0 1 1 0 3 ∷ [])))) ∷
    marked 6 (Sent 38 1 (messages.Install (start_with 3 1 (line 1 0 1 1 0 3 ∷ [])))) ∷
    marked 6 (Sent 39 2 (messages.Install (start_with 3 1 (line 1 0 1 1 0 3 ∷ [])))) ∷ marked 0 (Got 37) ∷
    marked 0 (Sent 40 6 (messages.Answer 37 answers.Installed)) ∷ marked 1 (Got 38) ∷
    marked 1 (Sent 41 6 (messages.Answer 38 answers.Installed)) ∷ marked 2 (Got 39) ∷
    marked 2 (Sent 42 6 (messages.Answer 39 answers.Installed)) ∷ marked 6 (Got 40) ∷ marked 6 (Got 41) ∷
    marked 6 (Got 42) ∷ marked 6 (Told (replies.Moved 0 7)) ∷ marked 7 (Phase 4) ∷ marked 4 (Called commands.Begin) ∷
    marked 4 (Told (replies.Began (tx 1 1))) ∷ marked 4 (Called (commands.Do 0 0)) ∷
    marked 4 (Sent 43 1 (messages.Request (tx 1 1) 1 0 (wants.Read (first_read 0 0)))) ∷
    marked 4 (Sent 44 2 (messages.Request (tx 1 1) 1 0 (wants.Read (first_read 0 0)))) ∷ marked 1 (Got 43) ∷
    marked 1 (Sent 45 4 (messages.Answer 43 (answers.Closed 3))) ∷ marked 2 (Got 44) ∷
    marked 2 (Sent 46 4 (messages.Answer 44 (answers.Closed 3))) ∷ marked 4 (Got 45) ∷ marked 4 (Got 46) ∷
    marked 4 (Told (replies.Closed 3 1)) ∷ marked 4 (Called commands.Abort) ∷
    marked 4 (Sent 47 1 (messages.Decision (tx 1 1) outcomes.Aborted)) ∷
    marked 4 (Sent 48 2 (messages.Decision (tx 1 1) outcomes.Aborted)) ∷ marked 4 (Told replies.Dropped) ∷
    marked 1 (Got 47) ∷ marked 2 (Got 48) ∷ marked 4 (Called commands.Begin) ∷
    marked 4 (Told (replies.Began (tx 1 2))) ∷ marked 4 (Called (commands.Do 0 0)) ∷
    marked 4 (Sent 49 1 (messages.Request (tx 1 2) 3 0 (wants.Read (first_read 0 0)))) ∷
    marked 4 (Sent 50 2 (messages.Request (tx 1 2) 3 0 (wants.Read (first_read 0 0)))) ∷ marked 1 (Got 49) ∷
    marked 1 (Sent 51 4 (messages.Answer 49 (answers.Granted (whole_grant 3 1 (line 1 0 1 1 0 3 ∷ [])))))
    ∷ marked 2 (Got 50) ∷
    marked 2 (Sent 52 4 (messages.Answer 50 (answers.Granted (whole_grant 2 1 (line 1 0 1 1 0 3 ∷ [])))))
    ∷ marked 4 (Got 51) ∷
    marked 4 (Got 52) ∷ marked 4 (Told (replies.Response 1)) ∷ marked 4 (Called commands.Commit) ∷
    marked 4 (Sent 53 1 (messages.Request (tx 1 2) 3 3 wants.Prepare)) ∷
    marked 4 (Sent 54 2 (messages.Request (tx 1 2) 3 2 wants.Prepare)) ∷ marked 1 (Got 53) ∷
    marked 1 (Wrote (prepare (tx 1 2) 3 (read_lock 0 0 ∷ []) [] [])) ∷
    marked 1 (Sent 55 4 (messages.Answer 53 (answers.Yes 1))) ∷ marked 2 (Got 54) ∷
    marked 2 (Wrote (prepare (tx 1 2) 3 (read_lock 0 0 ∷ []) [] [])) ∷
    marked 2 (Sent 56 4 (messages.Answer 54 (answers.Yes 1))) ∷ marked 4 (Got 55) ∷ marked 4 (Got 56) ∷
    marked 4 (Wrote (commit (stamp 2 1) (tx 1 2) (operation 0 0 (Some 1) ∷ []))) ∷
    marked 4 (Sent 57 1 (messages.Decision (tx 1 2) (outcomes.Committed (stamp 2 1)))) ∷
    marked 4 (Sent 58 2 (messages.Decision (tx 1 2) (outcomes.Committed (stamp 2 1)))) ∷
    marked 4 (Told (replies.Committed (stamp 2 1))) ∷ marked 1 (Got 57) ∷ marked 1 (Wrote (records.Done (tx 1 2) 2)) ∷
    marked 2 (Got 58) ∷ marked 2 (Wrote (records.Done (tx 1 2) 2)) ∷ []
