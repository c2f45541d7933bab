-- Closed sites fall and rise, and are sent the next epoch again; a site rises in that epoch.
use Rattle.std.specs.Prelude.{List, [], ◌∷◌, Some, None}
use Rattle.qc_msg.specs.Vocabulary.{Entry, marked}
use Rattle.tests_histories.specs.Words.{tx, stamp, line, own_line, operation, read_lock, prepare, commit}
use Rattle.qc_msg.specs.declared.step.Step.TheVariants.{Phase, Cut, Heal, Called, Got, Lost, Wrote, Sent, Told, Fell}
use Rattle.qc_msg.specs.declared.step.Step.TheVariants.{Rose}
use Rattle.qc_msg.specs.declared.message.Answer.TheVariants as answers
use Rattle.qc_msg.specs.declared.step.Command.TheVariants as commands
use Rattle.qc_msg.specs.declared.message.Message.TheVariants as messages
use Rattle.qc_msg.specs.declared.message.Outcome.TheVariants as outcomes
use Rattle.qc_msg.specs.declared.record.Record.TheVariants as records
use Rattle.qc_msg.specs.declared.reply.Reply.TheVariants as replies
use Rattle.qc_msg.specs.declared.message.Want.TheVariants as wants
use Rattle.qc_msg.specs.declared.step.Fall.TheVariants as falls
use Rattle.qc_msg.specs.Vocabulary.{whole_grant, first_read, snapshot_with, start_with}

abbrev pub history : List Entry
history =
    marked 7 (Phase 1) ∷ marked 3 (Called commands.Begin) ∷ marked 3 (Told (replies.Began (tx 0 1))) ∷
    marked 3 (Called (commands.Do 0 2)) ∷
    marked 3 (Sent 0 0 (messages.Request (tx 0 1) 1 0 (wants.Append 0 [] (own_line 1 0 3 ∷ [])))) ∷
    marked 3 (Sent 1 1 (messages.Request (tx 0 1) 1 0 (wants.Append 0 [] (own_line 1 0 3 ∷ [])))) ∷ marked 0 (Got 0) ∷
    marked 0 (Sent 2 3 (messages.Answer 0 (answers.Granted (whole_grant 1 0 [])))) ∷ marked 1 (Got 1) ∷
    marked 1 (Sent 3 3 (messages.Answer 1 (answers.Granted (whole_grant 1 0 [])))) ∷ marked 3 (Got 2) ∷ marked 3 (Got 3)
    ∷
    marked 3 (Told (replies.Response 2)) ∷ marked 3 (Called commands.Commit) ∷
    marked 3 (Sent 4 0 (messages.Request (tx 0 1) 1 1 wants.Prepare)) ∷
    marked 3 (Sent 5 1 (messages.Request (tx 0 1) 1 1 wants.Prepare)) ∷ marked 0 (Got 4) ∷
    marked 0 (Wrote (prepare (tx 0 1) 1 [] (own_line 1 0 3 ∷ []) [])) ∷
    marked 0 (Sent 6 3 (messages.Answer 4 (answers.Yes 0))) ∷ marked 1 (Got 5) ∷
    marked 1 (Wrote (prepare (tx 0 1) 1 [] (own_line 1 0 3 ∷ []) [])) ∷
    marked 1 (Sent 7 3 (messages.Answer 5 (answers.Yes 0))) ∷ marked 3 (Got 6) ∷ marked 3 (Got 7) ∷
    marked 3 (Wrote (commit (stamp 1 0) (tx 0 1) (operation 0 2 (Some 2) ∷ []))) ∷
    marked 3 (Sent 8 0 (messages.Decision (tx 0 1) (outcomes.Committed (stamp 1 0)))) ∷
    marked 3 (Sent 9 1 (messages.Decision (tx 0 1) (outcomes.Committed (stamp 1 0)))) ∷
    marked 3 (Told (replies.Committed (stamp 1 0))) ∷ marked 0 (Got 8) ∷ marked 0 (Wrote (records.Done (tx 0 1) 1)) ∷
    marked 1 (Got 9) ∷ marked 1 (Wrote (records.Done (tx 0 1) 1)) ∷ marked 7 (Phase 2) ∷ marked 7 (Cut 1 6) ∷
    marked 6 (Called (commands.Epoch 2)) ∷ marked 6 (Sent 10 0 (messages.Close 2)) ∷
    marked 6 (Sent 11 1 (messages.Close 2)) ∷ marked 0 (Got 10) ∷ marked 0 (Wrote (records.Close 2)) ∷
    marked 0 (Sent 12 6 (messages.Answer 10 (answers.Shut (snapshot_with 1 (line 1 0 1 1 0 3 ∷ []) []))))
    ∷ marked 6 (Got 12) ∷
    marked 6 (Lost 11) ∷ marked 6 (Sent 13 2 (messages.Close 2)) ∷ marked 2 (Got 13) ∷
    marked 2 (Wrote (records.Close 2))
    ∷ marked 2 (Sent 14 6 (messages.Answer 13 (answers.Shut (snapshot_with 0 [] [])))) ∷
    marked 6 (Got 14) ∷ marked 6 (Wrote (records.Decide (start_with 2 1 (line 1 0 1 1 0 3 ∷ [])))) ∷
    marked 6 (Sent 15 0 (messages.Install (start_with 2 1 (line 1 0 1 1 0 3 ∷ [])))) ∷
    marked 6 (Sent 16 1 (messages.Install (start_with 2 1 (line 1 0 1 1 0 3 ∷ [])))) ∷
    marked 6 (Sent 17 2 (messages.Install (start_with 2 1 (line 1 0 1 1 0 3 ∷ [])))) ∷ marked 0 (Got 15) ∷
    marked 0 (Wrote (records.Install (start_with 2 1 (line 1 0 1 1 0 3 ∷ [])))) ∷
    marked 0 (Sent 18 6 (messages.Answer 15 answers.Installed)) ∷ marked 2 (Got 17) ∷
    marked 2 (Wrote (records.Install (start_with 2 1 (line 1 0 1 1 0 3 ∷ [])))) ∷
    marked 2 (Sent 19 6 (messages.Answer 17 answers.Installed)) ∷ marked 6 (Got 18) ∷ marked 6 (Got 19) ∷
    marked 6 (Lost 16) ∷ marked 6 (Told (replies.Moved 5 5)) ∷ marked 7 (Phase 3) ∷ marked 0 (Fell falls.Script None) ∷
    marked 2 (Fell falls.Script None) ∷
    marked 0 (Rose ((prepare (tx 0 1) 1 [] (own_line 1 0 3 ∷ []) []) ∷ (records.Done (tx 0 1) 1) ∷ (records.Close 2) ∷
    (records.Install (start_with 2 1 (line 1 0 1 1 0 3 ∷ []))) ∷ [])) ∷
    marked 0 (Wrote records.Life) ∷
    marked 2 (Rose ((records.Close 2) ∷ (records.Install (start_with 2 1 (line 1 0 1 1 0 3 ∷ []))) ∷ [])) ∷
    marked 2 (Wrote records.Life) ∷ marked 7 (Heal 1 6) ∷ marked 6 (Called (commands.Epoch 2)) ∷
    marked 6 (Sent 20 0 (messages.Install (start_with 2 1 (line 1 0 1 1 0 3 ∷ [])))) ∷
    marked 6 (Sent 21 1 (messages.Install (start_with 2 1 (line 1 0 1 1 0 3 ∷ [])))) ∷
    marked 6 (Sent 22 2 (messages.Install (start_with 2 1 (line 1 0 1 1 0 3 ∷ [])))) ∷ marked 0 (Got 20) ∷
    marked 0 (Sent 23 6 (messages.Answer 20 answers.Installed)) ∷ marked 1 (Got 21) ∷
    marked 1 (Wrote (records.Install (start_with 2 1 (line 1 0 1 1 0 3 ∷ [])))) ∷
    marked 1 (Sent 24 6 (messages.Answer 21 answers.Installed)) ∷ marked 2 (Got 22) ∷
    marked 2 (Sent 25 6 (messages.Answer 22 answers.Installed)) ∷ marked 6 (Got 23) ∷ marked 6 (Got 24) ∷
    marked 6 (Got 25) ∷ marked 6 (Told (replies.Moved 0 7)) ∷ marked 7 (Phase 4) ∷ marked 1 (Fell falls.Script None) ∷
    marked 1
    (Rose ((prepare (tx 0 1) 1 [] (own_line 1 0 3 ∷ []) []) ∷ (records.Done (tx 0 1) 1)
    ∷ (records.Install (start_with 2 1 (line 1 0 1 1 0 3 ∷ []))) ∷ [])) ∷
    marked 1 (Wrote records.Life) ∷ marked 4 (Called commands.Begin) ∷ marked 4 (Told (replies.Began (tx 1 1))) ∷
    marked 4 (Called (commands.Do 0 0))
    ∷ marked 4 (Sent 26 1 (messages.Request (tx 1 1) 1 0 (wants.Read (first_read 0 0)))) ∷
    marked 4 (Sent 27 2 (messages.Request (tx 1 1) 1 0 (wants.Read (first_read 0 0)))) ∷ marked 1 (Got 26) ∷
    marked 1 (Sent 28 4 (messages.Answer 26 (answers.Closed 2))) ∷ marked 2 (Got 27) ∷
    marked 2 (Sent 29 4 (messages.Answer 27 (answers.Closed 2))) ∷ marked 4 (Got 28) ∷ marked 4 (Got 29) ∷
    marked 4 (Told (replies.Closed 2 1)) ∷ marked 4 (Called commands.Abort) ∷
    marked 4 (Sent 30 1 (messages.Decision (tx 1 1) outcomes.Aborted)) ∷
    marked 4 (Sent 31 2 (messages.Decision (tx 1 1) outcomes.Aborted)) ∷ marked 4 (Told replies.Dropped) ∷
    marked 1 (Got 30) ∷ marked 2 (Got 31) ∷ marked 4 (Called commands.Begin) ∷
    marked 4 (Told (replies.Began (tx 1 2))) ∷ marked 4 (Called (commands.Do 0 0)) ∷
    marked 4 (Sent 32 1 (messages.Request (tx 1 2) 2 0 (wants.Read (first_read 0 0)))) ∷ marked 1 (Got 32) ∷
    marked 1 (Sent 33 4 (messages.Answer 32 (answers.Granted (whole_grant 2 1 (line 1 0 1 1 0 3 ∷ [])))))
    ∷ marked 4 (Got 33) ∷
    marked 4 (Told (replies.Response 1)) ∷ marked 4 (Called commands.Commit) ∷
    marked 4 (Sent 34 1 (messages.Request (tx 1 2) 2 2 wants.Prepare)) ∷ marked 1 (Got 34) ∷
    marked 1 (Wrote (prepare (tx 1 2) 2 (read_lock 0 0 ∷ []) [] [])) ∷
    marked 1 (Sent 35 4 (messages.Answer 34 (answers.Yes 1))) ∷ marked 4 (Got 35) ∷
    marked 4 (Wrote (commit (stamp 2 1) (tx 1 2) (operation 0 0 (Some 1) ∷ []))) ∷
    marked 4 (Sent 36 1 (messages.Decision (tx 1 2) (outcomes.Committed (stamp 2 1)))) ∷
    marked 4 (Told (replies.Committed (stamp 2 1))) ∷ marked 1 (Got 36) ∷ marked 1 (Wrote (records.Done (tx 1 2) 2)) ∷
    []
