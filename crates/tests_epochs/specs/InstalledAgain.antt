-- An administrator rises with his decision, and installs it again on command: no site has closed.
use Rattle.std.specs.Prelude.{List, [], ◌∷◌, Some, None}
use Rattle.qc_msg.specs.Vocabulary.{Entry, marked}
use Rattle.tests_histories.specs.Words.{tx, stamp, line, own_line, operation, prepare, commit}
use Rattle.qc_msg.specs.declared.step.Step.TheVariants.{Phase, Called, Got, Wrote, Sent, Told, Fell, Rose}
use Rattle.qc_msg.specs.declared.message.Answer.TheVariants as answers
use Rattle.qc_msg.specs.declared.step.Command.TheVariants as commands
use Rattle.qc_msg.specs.declared.message.Message.TheVariants as messages
use Rattle.qc_msg.specs.declared.message.Outcome.TheVariants as outcomes
use Rattle.qc_msg.specs.declared.record.Record.TheVariants as records
use Rattle.qc_msg.specs.declared.reply.Reply.TheVariants as replies
use Rattle.qc_msg.specs.declared.message.Want.TheVariants as wants
use Rattle.qc_msg.specs.declared.step.Fall.TheVariants as falls
use Rattle.qc_msg.specs.Vocabulary.{whole_grant, snapshot_with, start_with}

abbrev pub history : List Entry
history =
    marked 7 (Phase 1) ∷ marked 3 (Called commands.Begin) ∷ marked 3 (Told (replies.Began (tx 0 1))) ∷
    marked 3 (Called (commands.Do 0 2)) ∷
    marked 3 (Sent 0 0 (messages.Request (tx 0 1) 1 0 (wants.Append 0 [] (own_line 1 0 3 ∷ [])))) ∷
    marked 3 (Sent 1 1 (messages.Request (tx 0 1) 1 0 (wants.Append 0 [] (own_line 1 0 3 ∷ [])))) ∷ marked 0 (Got 0) ∷
    marked 0 (Sent 2 3 (messages.Answer 0 (answers.Granted (whole_grant 1 0 [])))) ∷ marked 1 (Got 1) ∷
    marked 1 (Sent 3 3 (messages.Answer 1 (answers.Granted (whole_grant 1 0 [])))) ∷ marked 3 (Got 2) ∷ marked 3 (Got 3)
    ∷
    marked 3 (Told (replies.Response 2)) ∷ marked 3 (Called commands.Commit) ∷
    marked 3 (Sent 4 0 (messages.Request (tx 0 1) 1 1 wants.Prepare)) ∷
    marked 3 (Sent 5 1 (messages.Request (tx 0 1) 1 1 wants.Prepare)) ∷ marked 0 (Got 4) ∷
    marked 0 (Wrote (prepare (tx 0 1) 1 [] (own_line 1 0 3 ∷ []) [])) ∷
    marked 0 (Sent 6 3 (messages.Answer 4 (answers.Yes 0))) ∷ marked 1 (Got 5) ∷
    marked 1 (Wrote (prepare (tx 0 1) 1 [] (own_line 1 0 3 ∷ []) [])) ∷
    marked 1 (Sent 7 3 (messages.Answer 5 (answers.Yes 0))) ∷ marked 3 (Got 6) ∷ marked 3 (Got 7) ∷
    marked 3 (Wrote (commit (stamp 1 0) (tx 0 1) (operation 0 2 (Some 2) ∷ []))) ∷
    marked 3 (Sent 8 0 (messages.Decision (tx 0 1) (outcomes.Committed (stamp 1 0)))) ∷
    marked 3 (Sent 9 1 (messages.Decision (tx 0 1) (outcomes.Committed (stamp 1 0)))) ∷
    marked 3 (Told (replies.Committed (stamp 1 0))) ∷ marked 0 (Got 8) ∷ marked 0 (Wrote (records.Done (tx 0 1) 1)) ∷
    marked 1 (Got 9) ∷ marked 1 (Wrote (records.Done (tx 0 1) 1)) ∷ marked 7 (Phase 2) ∷
    marked 6 (Called (commands.Epoch 2)) ∷ marked 6 (Sent 10 0 (messages.Close 2)) ∷
    marked 6 (Sent 11 1 (messages.Close 2)) ∷ marked 0 (Got 10) ∷ marked 0 (Wrote (records.Close 2)) ∷
    marked 0 (Sent 12 6 (messages.Answer 10 (answers.Shut (snapshot_with 1 (line 1 0 1 1 0 3 ∷ []) []))))
    ∷ marked 1 (Got 11) ∷
    marked 1 (Wrote (records.Close 2)) ∷
    marked 1 (Sent 13 6 (messages.Answer 11 (answers.Shut (snapshot_with 1 (line 1 0 1 1 0 3 ∷ []) []))))
    ∷ marked 6 (Got 12) ∷
    marked 6 (Got 13) ∷ marked 6 (Wrote (records.Decide (start_with 2 1 (line 1 0 1 1 0 3 ∷ [])))) ∷
    marked 6 (Sent 14 0 (messages.Install (start_with 2 1 (line 1 0 1 1 0 3 ∷ [])))) ∷
    marked 6 (Sent 15 1 (messages.Install (start_with 2 1 (line 1 0 1 1 0 3 ∷ [])))) ∷
    marked 6 (Sent 16 2 (messages.Install (start_with 2 1 (line 1 0 1 1 0 3 ∷ [])))) ∷ marked 0 (Got 14) ∷
    marked 0 (Wrote (records.Install (start_with 2 1 (line 1 0 1 1 0 3 ∷ [])))) ∷
    marked 0 (Sent 17 6 (messages.Answer 14 answers.Installed)) ∷ marked 1 (Got 15) ∷
    marked 1 (Wrote (records.Install (start_with 2 1 (line 1 0 1 1 0 3 ∷ [])))) ∷
    marked 1 (Sent 18 6 (messages.Answer 15 answers.Installed)) ∷ marked 2 (Got 16) ∷
    marked 2 (Wrote (records.Install (start_with 2 1 (line 1 0 1 1 0 3 ∷ [])))) ∷
    marked 2 (Sent 19 6 (messages.Answer 16 answers.Installed)) ∷ marked 6 (Got 17) ∷ marked 6 (Got 18) ∷
    marked 6 (Got 19) ∷ marked 6 (Told (replies.Moved 3 7)) ∷ marked 7 (Phase 3) ∷ marked 6 (Fell falls.Script None) ∷
    marked 6 (Rose ((records.Decide (start_with 2 1 (line 1 0 1 1 0 3 ∷ []))) ∷ [])) ∷ marked 6 (Wrote records.Life) ∷
    marked 6 (Called (commands.Epoch 2))
    ∷ marked 6 (Sent 20 0 (messages.Install (start_with 2 1 (line 1 0 1 1 0 3 ∷ [])))) ∷
    marked 6 (Sent 21 1 (messages.Install (start_with 2 1 (line 1 0 1 1 0 3 ∷ [])))) ∷
    marked 6 (Sent 22 2 (messages.Install (start_with 2 1 (line 1 0 1 1 0 3 ∷ [])))) ∷ marked 0 (Got 20) ∷
    marked 0 (Sent 23 6 (messages.Answer 20 answers.Installed)) ∷ marked 1 (Got 21) ∷
    marked 1 (Sent 24 6 (messages.Answer 21 answers.Installed)) ∷ marked 2 (Got 22) ∷
    marked 2 (Sent 25 6 (messages.Answer 22 answers.Installed)) ∷ marked 6 (Got 23) ∷ marked 6 (Got 24) ∷
    marked 6 (Got 25) ∷ marked 6 (Told (replies.Moved 0 7)) ∷ marked 7 (Phase 4) ∷
    marked 6 (Called (commands.Epoch 3)) ∷ marked 6 (Sent 26 0 (messages.Close 3)) ∷
    marked 6 (Sent 27 1 (messages.Close 3)) ∷ marked 6 (Sent 28 2 (messages.Close 3)) ∷ marked 0 (Got 26) ∷
    marked 0 (Wrote (records.Close 3)) ∷
    marked 0 (Sent 29 6 (messages.Answer 26 (answers.Shut (snapshot_with 1 (line 1 0 1 1 0 3 ∷ []) []))))
    ∷ marked 1 (Got 27) ∷
    marked 1 (Wrote (records.Close 3)) ∷
    marked 1 (Sent 30 6 (messages.Answer 27 (answers.Shut (snapshot_with 1 (line 1 0 1 1 0 3 ∷ []) []))))
    ∷ marked 2 (Got 28) ∷
    marked 2 (Wrote (records.Close 3)) ∷
    marked 2 (Sent 31 6 (messages.Answer 28 (answers.Shut (snapshot_with 1 (line 1 0 1 1 0 3 ∷ []) []))))
    ∷ marked 6 (Got 29) ∷
    marked 6 (Got 30) ∷ marked 6 (Got 31) ∷ marked 6 (Wrote (records.Decide (start_with 3 1 (line 1 0 1 1 0 3 ∷ [])))) ∷
    marked 6 (Sent 32 0 (messages.Install (start_with 3 1 (line 1 0 1 1 0 3 ∷ [])))) ∷
    marked 6 (Sent 33 1 (messages.Install (start_with 3 1 (line 1 0 1 1 0 3 ∷ [])))) ∷
    marked 6 (Sent 34 2 (messages.Install (start_with 3 1 (line 1 0 1 1 0 3 ∷ [])))) ∷ marked 0 (Got 32) ∷
    marked 0 (Wrote (records.Install (start_with 3 1 (line 1 0 1 1 0 3 ∷ [])))) ∷
    marked 0 (Sent 35 6 (messages.Answer 32 answers.Installed)) ∷ marked 1 (Got 33) ∷
    marked 1 (Wrote (records.Install (start_with 3 1 (line 1 0 1 1 0 3 ∷ [])))) ∷
    marked 1 (Sent 36 6 (messages.Answer 33 answers.Installed)) ∷ marked 2 (Got 34) ∷
    marked 2 (Wrote (records.Install (start_with 3 1 (line 1 0 1 1 0 3 ∷ [])))) ∷
    marked 2 (Sent 37 6 (messages.Answer 34 answers.Installed)) ∷ marked 6 (Got 35) ∷ marked 6 (Got 36) ∷
    marked 6 (Got 37) ∷ marked 6 (Told (replies.Moved 7 7)) ∷ marked 6 (Called (commands.Epoch 2)) ∷
    marked 6 (Told (replies.Order 3)) ∷ []
