-- Too few sites close, and then enough.
use Rattle.std.specs.Prelude.{List, [], ◌∷◌, Some}
use Rattle.qc_msg.specs.Vocabulary.{Entry, marked}
use Rattle.tests_histories.specs.Words.{tx, stamp, line, own_line, operation, prepare, commit}
use Rattle.qc_msg.specs.declared.step.Step.TheVariants.{Phase, Cut, Heal, Called, Got, Lost, Wrote, Sent, Told}
use Rattle.qc_msg.specs.declared.message.Answer.TheVariants as answers
use Rattle.qc_msg.specs.declared.step.Command.TheVariants as commands
use Rattle.qc_msg.specs.declared.reply.Half.TheVariants as halves
use Rattle.qc_msg.specs.declared.message.Message.TheVariants as messages
use Rattle.qc_msg.specs.declared.message.Outcome.TheVariants as outcomes
use Rattle.qc_msg.specs.declared.record.Record.TheVariants as records
use Rattle.qc_msg.specs.declared.reply.Reply.TheVariants as replies
use Rattle.qc_msg.specs.declared.message.Want.TheVariants as wants
use Rattle.qc_msg.specs.Vocabulary.{whole_grant, first_read, snapshot_with, start_with}

abbrev pub history : List Entry
history =
    marked 7 (Phase 1) ∷ marked 7 (Cut 6 0) ∷ marked 7 (Cut 6 1) ∷ marked 3 (Called commands.Begin) ∷
    marked 3 (Told (replies.Began (tx 0 1))) ∷ marked 6 (Called (commands.Epoch 2)) ∷
    marked 6 (Sent 0 0 (messages.Close 2)) ∷ marked 6 (Sent 1 1 (messages.Close 2)) ∷ marked 6 (Lost 0) ∷
    marked 6 (Lost 1) ∷ marked 6 (Sent 2 2 (messages.Close 2)) ∷ marked 2 (Got 2) ∷ marked 2 (Wrote (records.Close 2)) ∷
    marked 2 (Sent 3 6 (messages.Answer 2 (answers.Shut (snapshot_with 0 [] [])))) ∷ marked 6 (Got 3) ∷
    marked 6 (Told (replies.Quorum halves.Close 1 2)) ∷ marked 3 (Called (commands.Do 0 2)) ∷
    marked 3 (Sent 4 0 (messages.Request (tx 0 1) 1 0 (wants.Append 0 [] (own_line 1 0 3 ∷ [])))) ∷
    marked 3 (Sent 5 1 (messages.Request (tx 0 1) 1 0 (wants.Append 0 [] (own_line 1 0 3 ∷ [])))) ∷ marked 0 (Got 4) ∷
    marked 0 (Sent 6 3 (messages.Answer 4 (answers.Granted (whole_grant 1 0 [])))) ∷ marked 1 (Got 5) ∷
    marked 1 (Sent 7 3 (messages.Answer 5 (answers.Granted (whole_grant 1 0 [])))) ∷ marked 3 (Got 6) ∷ marked 3 (Got 7)
    ∷
    marked 3 (Told (replies.Response 2)) ∷ marked 3 (Called commands.Commit) ∷
    marked 3 (Sent 8 0 (messages.Request (tx 0 1) 1 1 wants.Prepare)) ∷
    marked 3 (Sent 9 1 (messages.Request (tx 0 1) 1 1 wants.Prepare)) ∷ marked 0 (Got 8) ∷
    marked 0 (Wrote (prepare (tx 0 1) 1 [] (own_line 1 0 3 ∷ []) [])) ∷
    marked 0 (Sent 10 3 (messages.Answer 8 (answers.Yes 0))) ∷ marked 1 (Got 9) ∷
    marked 1 (Wrote (prepare (tx 0 1) 1 [] (own_line 1 0 3 ∷ []) [])) ∷
    marked 1 (Sent 11 3 (messages.Answer 9 (answers.Yes 0))) ∷ marked 3 (Got 10) ∷ marked 3 (Got 11) ∷
    marked 3 (Wrote (commit (stamp 1 0) (tx 0 1) (operation 0 2 (Some 2) ∷ []))) ∷
    marked 3 (Sent 12 0 (messages.Decision (tx 0 1) (outcomes.Committed (stamp 1 0)))) ∷
    marked 3 (Sent 13 1 (messages.Decision (tx 0 1) (outcomes.Committed (stamp 1 0)))) ∷
    marked 3 (Told (replies.Committed (stamp 1 0))) ∷ marked 0 (Got 12) ∷ marked 0 (Wrote (records.Done (tx 0 1) 1)) ∷
    marked 1 (Got 13) ∷ marked 1 (Wrote (records.Done (tx 0 1) 1)) ∷ marked 7 (Phase 2) ∷ marked 7 (Heal 6 0) ∷
    marked 6 (Called (commands.Epoch 2)) ∷ marked 6 (Sent 14 0 (messages.Close 2)) ∷
    marked 6 (Sent 15 1 (messages.Close 2)) ∷ marked 0 (Got 14) ∷ marked 0 (Wrote (records.Close 2)) ∷
    marked 0 (Sent 16 6 (messages.Answer 14 (answers.Shut (snapshot_with 1 (line 1 0 1 1 0 3 ∷ []) []))))
    ∷ marked 6 (Got 16) ∷
    marked 6 (Lost 15) ∷ marked 6 (Sent 17 2 (messages.Close 2)) ∷ marked 2 (Got 17) ∷
    marked 2 (Sent 18 6 (messages.Answer 17 (answers.Shut (snapshot_with 0 [] [])))) ∷ marked 6 (Got 18) ∷
    marked 6 (Wrote (records.Decide (start_with 2 1 (line 1 0 1 1 0 3 ∷ [])))) ∷
    marked 6 (Sent 19 0 (messages.Install (start_with 2 1 (line 1 0 1 1 0 3 ∷ [])))) ∷
    marked 6 (Sent 20 1 (messages.Install (start_with 2 1 (line 1 0 1 1 0 3 ∷ [])))) ∷
    marked 6 (Sent 21 2 (messages.Install (start_with 2 1 (line 1 0 1 1 0 3 ∷ [])))) ∷ marked 0 (Got 19) ∷
    marked 0 (Wrote (records.Install (start_with 2 1 (line 1 0 1 1 0 3 ∷ [])))) ∷
    marked 0 (Sent 22 6 (messages.Answer 19 answers.Installed)) ∷ marked 2 (Got 21) ∷
    marked 2 (Wrote (records.Install (start_with 2 1 (line 1 0 1 1 0 3 ∷ [])))) ∷
    marked 2 (Sent 23 6 (messages.Answer 21 answers.Installed)) ∷ marked 6 (Got 22) ∷ marked 6 (Got 23) ∷
    marked 6 (Lost 20) ∷ marked 6 (Told (replies.Moved 5 5)) ∷ marked 7 (Phase 3) ∷ marked 4 (Called commands.Begin) ∷
    marked 4 (Told (replies.Began (tx 1 1))) ∷ marked 4 (Called (commands.Do 0 0)) ∷
    marked 4 (Sent 24 1 (messages.Request (tx 1 1) 1 0 (wants.Read (first_read 0 0)))) ∷
    marked 4 (Sent 25 2 (messages.Request (tx 1 1) 1 0 (wants.Read (first_read 0 0)))) ∷ marked 1 (Got 24) ∷
    marked 1 (Sent 26 4 (messages.Answer 24 (answers.Granted (whole_grant 1 1 (line 1 0 1 1 0 3 ∷ [])))))
    ∷ marked 2 (Got 25) ∷
    marked 2 (Sent 27 4 (messages.Answer 25 (answers.Closed 2))) ∷ marked 4 (Got 26) ∷ marked 4 (Got 27) ∷
    marked 4 (Told (replies.Closed 2 2)) ∷ marked 7 (Phase 4) ∷ marked 7 (Heal 6 1) ∷
    marked 6 (Called (commands.Epoch 2))
    ∷ marked 6 (Sent 28 0 (messages.Install (start_with 2 1 (line 1 0 1 1 0 3 ∷ [])))) ∷
    marked 6 (Sent 29 1 (messages.Install (start_with 2 1 (line 1 0 1 1 0 3 ∷ [])))) ∷
    marked 6 (Sent 30 2 (messages.Install (start_with 2 1 (line 1 0 1 1 0 3 ∷ [])))) ∷ marked 0 (Got 28) ∷
    marked 0 (Sent 31 6 (messages.Answer 28 answers.Installed)) ∷ marked 1 (Got 29) ∷
    marked 1 (Wrote (records.Install (start_with 2 1 (line 1 0 1 1 0 3 ∷ [])))) ∷
    marked 1 (Sent 32 6 (messages.Answer 29 answers.Installed)) ∷ marked 2 (Got 30) ∷
    marked 2 (Sent 33 6 (messages.Answer 30 answers.Installed)) ∷ marked 6 (Got 31) ∷ marked 6 (Got 32) ∷
    marked 6 (Got 33) ∷ marked 6 (Told (replies.Moved 0 7)) ∷ []
