-- Two closed sites have promised other lines of one transaction: all of them are merged.
use Rattle.std.specs.Prelude.{List, [], ◌∷◌, Some}
use Rattle.qc_msg.specs.Vocabulary.{Entry, marked}
use Rattle.tests_histories.specs.Words.{tx, stamp, line, own_line, operation, read_lock, prepare, commit}
use Rattle.qc_msg.specs.declared.step.Step.TheVariants.{Phase, Cut, Called, Got, Lost, Wrote, Sent, Told}
use Rattle.tests_epochs.specs.Words.{prepared}
use Rattle.qc_msg.specs.declared.message.Answer.TheVariants as answers
use Rattle.qc_msg.specs.declared.step.Command.TheVariants as commands
use Rattle.qc_msg.specs.declared.message.Message.TheVariants as messages
use Rattle.qc_msg.specs.declared.message.Outcome.TheVariants as outcomes
use Rattle.qc_msg.specs.declared.record.Record.TheVariants as records
use Rattle.qc_msg.specs.declared.reply.Reply.TheVariants as replies
use Rattle.qc_msg.specs.declared.message.Want.TheVariants as wants
use Rattle.qc_msg.specs.Vocabulary.{whole_grant, first_read, snapshot_with, start_with}

abbrev pub history : List Entry
history =
    marked 7 (Phase 1) ∷ marked 3 (Called commands.Begin) ∷ marked 3 (Told (replies.Began (tx 0 1))) ∷
    marked 3 (Called (commands.Do 0 2)) ∷
    marked 3 (Sent 0 0 (messages.Request (tx 0 1) 1 0 (wants.Append 0 [] (own_line 1 0 3 ∷ [])))) ∷
    marked 3 (Sent 1 1 (messages.Request (tx 0 1) 1 0 (wants.Append 0 [] (own_line 1 0 3 ∷ [])))) ∷ marked 0 (Got 0) ∷
    marked 0 (Sent 2 3 (messages.Answer 0 (answers.Granted (whole_grant 1 0 [])))) ∷ marked 1 (Got 1) ∷
    marked 1 (Sent 3 3 (messages.Answer 1 (answers.Granted (whole_grant 1 0 [])))) ∷ marked 3 (Got 2) ∷ marked 3 (Got 3)
    ∷
    marked 3 (Told (replies.Response 2)) ∷ marked 3 (Called (commands.Do 1 2)) ∷
    marked 3 (Sent 4 0 (messages.Request (tx 0 1) 1 1 (wants.Append 1 [] (own_line 2 1 3 ∷ [])))) ∷
    marked 3 (Sent 5 1 (messages.Request (tx 0 1) 1 1 (wants.Append 1 [] (own_line 2 1 3 ∷ [])))) ∷ marked 0 (Got 4) ∷
    marked 0 (Sent 6 3 (messages.Answer 4 (answers.Granted (whole_grant 1 0 [])))) ∷ marked 3 (Got 6) ∷
    marked 3 (Lost 5)
    ∷
    marked 3 (Sent 7 2 (messages.Request (tx 0 1) 1 0 (wants.Append 1 [] (own_line 2 1 3 ∷ [])))) ∷ marked 2 (Got 7) ∷
    marked 2 (Sent 8 3 (messages.Answer 7 (answers.Granted (whole_grant 1 0 [])))) ∷ marked 3 (Got 8) ∷
    marked 3 (Told (replies.Response 2)) ∷ marked 3 (Called commands.Commit) ∷
    marked 3 (Sent 9 0 (messages.Request (tx 0 1) 1 1 wants.Prepare)) ∷
    marked 3 (Sent 10 1 (messages.Request (tx 0 1) 1 1 wants.Prepare)) ∷
    marked 3 (Sent 11 2 (messages.Request (tx 0 1) 1 1 wants.Prepare)) ∷ marked 0 (Got 9) ∷
    marked 0 (Wrote (prepare (tx 0 1) 1 [] (own_line 1 0 3 ∷ own_line 2 1 3 ∷ []) [])) ∷
    marked 0 (Sent 12 3 (messages.Answer 9 (answers.Yes 0))) ∷ marked 1 (Got 10) ∷
    marked 1 (Wrote (prepare (tx 0 1) 1 [] (own_line 1 0 3 ∷ []) [])) ∷
    marked 1 (Sent 13 3 (messages.Answer 10 (answers.Yes 0))) ∷ marked 2 (Got 11) ∷
    marked 2 (Wrote (prepare (tx 0 1) 1 [] (own_line 2 1 3 ∷ []) [])) ∷
    marked 2 (Sent 14 3 (messages.Answer 11 (answers.Yes 0))) ∷ marked 3 (Got 12) ∷ marked 3 (Got 13) ∷
    marked 3 (Got 14) ∷
    marked 3 (Wrote (commit (stamp 1 0) (tx 0 1) (operation 0 2 (Some 2) ∷ operation 1 2 (Some 2) ∷ []))) ∷
    marked 3 (Sent 15 0 (messages.Decision (tx 0 1) (outcomes.Committed (stamp 1 0)))) ∷
    marked 3 (Sent 16 1 (messages.Decision (tx 0 1) (outcomes.Committed (stamp 1 0)))) ∷
    marked 3 (Sent 17 2 (messages.Decision (tx 0 1) (outcomes.Committed (stamp 1 0)))) ∷
    marked 3 (Told (replies.Committed (stamp 1 0))) ∷ marked 7 (Phase 2) ∷ marked 7 (Cut 6 0) ∷
    marked 6 (Called (commands.Epoch 2)) ∷ marked 6 (Sent 18 0 (messages.Close 2)) ∷
    marked 6 (Sent 19 1 (messages.Close 2)) ∷ marked 1 (Got 19) ∷ marked 1 (Wrote (records.Close 2)) ∷
    marked 1 (Sent 20 6 (messages.Answer 19 (answers.Shut (snapshot_with 0 [] (prepared (tx 0 1) 1 [] (own_line 1 0 3 ∷ []) [] ∷ [])))))
    ∷
    marked 6 (Got 20) ∷ marked 6 (Lost 18) ∷ marked 6 (Sent 21 2 (messages.Close 2)) ∷ marked 2 (Got 21) ∷
    marked 2 (Wrote (records.Close 2)) ∷
    marked 2 (Sent 22 6 (messages.Answer 21 (answers.Shut (snapshot_with 0 [] (prepared (tx 0 1) 1 [] (own_line 2 1 3 ∷ []) [] ∷ [])))))
    ∷
    marked 6 (Got 22) ∷ marked 6 (Sent 23 3 (messages.Ask (tx 0 1))) ∷ marked 3 (Got 23) ∷
    marked 3 (Sent 24 6 (messages.Answer 23 (answers.Answered (outcomes.Committed (stamp 1 0))))) ∷ marked 6 (Got 24) ∷
    marked 6 (Wrote (records.Decide (start_with 2 1 (line 1 0 1 1 0 3 ∷ line 1 0 1 2 1 3 ∷ [])))) ∷
    marked 6 (Sent 25 0 (messages.Install (start_with 2 1 (line 1 0 1 1 0 3 ∷ line 1 0 1 2 1 3 ∷ [])))) ∷
    marked 6 (Sent 26 1 (messages.Install (start_with 2 1 (line 1 0 1 1 0 3 ∷ line 1 0 1 2 1 3 ∷ [])))) ∷
    marked 6 (Sent 27 2 (messages.Install (start_with 2 1 (line 1 0 1 1 0 3 ∷ line 1 0 1 2 1 3 ∷ []))))
    ∷ marked 1 (Got 26) ∷
    marked 1 (Wrote (records.Install (start_with 2 1 (line 1 0 1 1 0 3 ∷ line 1 0 1 2 1 3 ∷ [])))) ∷
    marked 1 (Sent 28 6 (messages.Answer 26 answers.Installed)) ∷ marked 2 (Got 27) ∷
    marked 2 (Wrote (records.Install (start_with 2 1 (line 1 0 1 1 0 3 ∷ line 1 0 1 2 1 3 ∷ [])))) ∷
    marked 2 (Sent 29 6 (messages.Answer 27 answers.Installed)) ∷ marked 6 (Got 28) ∷ marked 6 (Got 29) ∷
    marked 6 (Lost 25) ∷ marked 6 (Told (replies.Moved 6 6)) ∷ marked 7 (Phase 3) ∷ marked 4 (Called commands.Begin) ∷
    marked 4 (Told (replies.Began (tx 1 1))) ∷ marked 4 (Called (commands.Do 1 0)) ∷
    marked 4 (Sent 30 1 (messages.Request (tx 1 1) 1 0 (wants.Read (first_read 1 0)))) ∷
    marked 4 (Sent 31 2 (messages.Request (tx 1 1) 1 0 (wants.Read (first_read 1 0)))) ∷ marked 1 (Got 30) ∷
    marked 1 (Sent 32 4 (messages.Answer 30 (answers.Closed 2))) ∷ marked 2 (Got 31) ∷
    marked 2 (Sent 33 4 (messages.Answer 31 (answers.Closed 2))) ∷ marked 4 (Got 32) ∷ marked 4 (Got 33) ∷
    marked 4 (Told (replies.Closed 2 1)) ∷ marked 4 (Called commands.Abort) ∷
    marked 4 (Sent 34 1 (messages.Decision (tx 1 1) outcomes.Aborted)) ∷
    marked 4 (Sent 35 2 (messages.Decision (tx 1 1) outcomes.Aborted)) ∷ marked 4 (Told replies.Dropped) ∷
    marked 1 (Got 34) ∷ marked 2 (Got 35) ∷ marked 4 (Called commands.Begin) ∷
    marked 4 (Told (replies.Began (tx 1 2))) ∷ marked 4 (Called (commands.Do 1 0)) ∷
    marked 4 (Sent 36 1 (messages.Request (tx 1 2) 2 0 (wants.Read (first_read 1 0)))) ∷ marked 1 (Got 36) ∷
    marked 1 (Sent 37 4 (messages.Answer 36 (answers.Granted (whole_grant 2 1 (line 1 0 1 2 1 3 ∷ [])))))
    ∷ marked 4 (Got 37) ∷
    marked 4 (Told (replies.Response 1)) ∷ marked 4 (Called (commands.Do 0 0)) ∷
    marked 4 (Sent 38 1 (messages.Request (tx 1 2) 2 2 (wants.Read (first_read 0 0)))) ∷ marked 1 (Got 38) ∷
    marked 1 (Sent 39 4 (messages.Answer 38 (answers.Granted (whole_grant 2 1 (line 1 0 1 1 0 3 ∷ [])))))
    ∷ marked 4 (Got 39) ∷
    marked 4 (Told (replies.Response 1)) ∷ marked 4 (Called commands.Commit) ∷
    marked 4 (Sent 40 1 (messages.Request (tx 1 2) 2 2 wants.Prepare)) ∷ marked 1 (Got 40) ∷
    marked 1 (Wrote (prepare (tx 1 2) 2 (read_lock 0 0 ∷ read_lock 1 0 ∷ []) [] [])) ∷
    marked 1 (Sent 41 4 (messages.Answer 40 (answers.Yes 1))) ∷ marked 4 (Got 41) ∷
    marked 4 (Wrote (commit (stamp 2 1) (tx 1 2) (operation 1 0 (Some 1) ∷ operation 0 0 (Some 1) ∷ []))) ∷
    marked 4 (Sent 42 1 (messages.Decision (tx 1 2) (outcomes.Committed (stamp 2 1)))) ∷
    marked 4 (Told (replies.Committed (stamp 2 1))) ∷ marked 1 (Got 42) ∷ marked 1 (Wrote (records.Done (tx 1 2) 2)) ∷
    []
