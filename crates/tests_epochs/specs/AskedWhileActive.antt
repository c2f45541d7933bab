-- The administrator asks about a transaction that waits for votes, and it is in doubt; then it aborted, and he moves.
use Rattle.std.specs.Prelude.{List, [], ◌∷◌, Some}
use Rattle.qc_msg.specs.Vocabulary.{Entry, marked}
use Rattle.tests_histories.specs.Words.{tx, own_line, prepare}
use Rattle.qc_msg.specs.declared.step.Step.TheVariants.{Phase, Called, Got, Lost, Wrote, Sent, Told, Fell}
use Rattle.tests_epochs.specs.Words.{prepared}
use Rattle.qc_msg.specs.declared.message.Answer.TheVariants as answers
use Rattle.qc_msg.specs.declared.reply.AbortCause.TheVariants as causes
use Rattle.qc_msg.specs.declared.step.Command.TheVariants as commands
use Rattle.qc_msg.specs.declared.message.Message.TheVariants as messages
use Rattle.qc_msg.specs.declared.message.Outcome.TheVariants as outcomes
use Rattle.qc_msg.specs.declared.record.Record.TheVariants as records
use Rattle.qc_msg.specs.declared.reply.Reply.TheVariants as replies
use Rattle.qc_msg.specs.declared.message.Want.TheVariants as wants
use Rattle.qc_msg.specs.declared.step.Fall.TheVariants as falls
use Rattle.qc_msg.specs.Vocabulary.{whole_grant, snapshot_with, start_with}

abbrev pub history : List Entry
history =
    marked 7 (Phase 1) ∷ marked 3 (Called commands.Begin) ∷ marked 3 (Told (replies.Began (tx 0 1))) ∷
    marked 3 (Called (commands.Do 0 2)) ∷
    marked 3 (Sent 0 0 (messages.Request (tx 0 1) 1 0 (wants.Append 0 [] (own_line 1 0 3 ∷ [])))) ∷
    marked 3 (Sent 1 1 (messages.Request (tx 0 1) 1 0 (wants.Append 0 [] (own_line 1 0 3 ∷ [])))) ∷ marked 1 (Got 1) ∷
    marked 0 (Got 0) ∷ marked 0 (Sent 2 3 (messages.Answer 0 (answers.Granted (whole_grant 1 0 [])))) ∷ marked 3 (Got 2)
    ∷
    marked 1 (Sent 3 3 (messages.Answer 1 (answers.Granted (whole_grant 1 0 [])))) ∷ marked 3 (Got 3) ∷
    marked 3 (Told (replies.Response 2)) ∷ marked 7 (Phase 2) ∷ marked 3 (Called commands.Commit) ∷
    marked 3 (Sent 4 0 (messages.Request (tx 0 1) 1 1 wants.Prepare)) ∷
    marked 3 (Sent 5 1 (messages.Request (tx 0 1) 1 1 wants.Prepare)) ∷ marked 1 (Got 5) ∷
    marked 6 (Called (commands.Epoch 2)) ∷ marked 6 (Sent 6 0 (messages.Close 2)) ∷
    marked 6 (Sent 7 1 (messages.Close 2)) ∷ marked 1 (Wrote (prepare (tx 0 1) 1 [] (own_line 1 0 3 ∷ []) [])) ∷
    marked 1 (Sent 8 3 (messages.Answer 5 (answers.Yes 0))) ∷ marked 1 (Got 7) ∷ marked 1 (Wrote (records.Close 2)) ∷
    marked 1 (Sent 9 6 (messages.Answer 7 (answers.Shut (snapshot_with 0 [] (prepared (tx 0 1) 1 [] (own_line 1 0 3 ∷ []) [] ∷ []))))) ∷
    marked 6 (Got 9) ∷ marked 0 (Got 4) ∷
    marked 0 (Fell falls.Stop (Some (prepare (tx 0 1) 1 [] (own_line 1 0 3 ∷ []) []))) ∷ marked 6 (Lost 6) ∷
    marked 6 (Sent 10 2 (messages.Close 2)) ∷ marked 2 (Got 10) ∷ marked 3 (Got 8) ∷
    marked 2 (Wrote (records.Close 2))
    ∷ marked 2 (Sent 11 6 (messages.Answer 10 (answers.Shut (snapshot_with 0 [] [])))) ∷
    marked 6 (Got 11) ∷ marked 6 (Sent 12 3 (messages.Ask (tx 0 1))) ∷ marked 3 (Got 12) ∷
    marked 3 (Sent 13 6 (messages.Answer 12 (answers.Answered outcomes.Active))) ∷ marked 6 (Got 13) ∷
    marked 6 (Told (replies.InDoubt (tx 0 1) 1)) ∷ marked 3 (Lost 4) ∷
    marked 3 (Sent 14 0 (messages.Decision (tx 0 1) outcomes.Aborted)) ∷
    marked 3 (Sent 15 1 (messages.Decision (tx 0 1) outcomes.Aborted)) ∷
    marked 3 (Told (replies.Aborted (causes.NoAnswer 0))) ∷ marked 1 (Got 15) ∷ marked 7 (Phase 3) ∷
    marked 6 (Called (commands.Epoch 2)) ∷ marked 6 (Sent 16 0 (messages.Close 2)) ∷
    marked 6 (Sent 17 1 (messages.Close 2)) ∷ marked 6 (Lost 16) ∷ marked 1 (Got 17) ∷
    marked 1 (Sent 18 6 (messages.Answer 17 (answers.Shut (snapshot_with 0 [] [])))) ∷ marked 6 (Got 18) ∷
    marked 6 (Sent 19 2 (messages.Close 2)) ∷ marked 2 (Got 19) ∷
    marked 2 (Sent 20 6 (messages.Answer 19 (answers.Shut (snapshot_with 0 [] [])))) ∷ marked 6 (Got 20) ∷
    marked 6 (Wrote (records.Decide (start_with 2 0 []))) ∷ marked 6 (Sent 21 0 (messages.Install (start_with 2 0 [])))
    ∷
    marked 6 (Sent 22 1 (messages.Install (start_with 2 0 [])))
    ∷ marked 6 (Sent 23 2 (messages.Install (start_with 2 0 []))) ∷
    marked 2 (Got 23) ∷ marked 2 (Wrote (records.Install (start_with 2 0 []))) ∷
    marked 2 (Sent 24 6 (messages.Answer 23 answers.Installed)) ∷ marked 1 (Got 22) ∷ marked 6 (Got 24) ∷
    marked 1 (Wrote (records.Install (start_with 2 0 []))) ∷ marked 1 (Sent 25 6 (messages.Answer 22 answers.Installed))
    ∷
    marked 6 (Got 25) ∷ marked 6 (Lost 21) ∷ marked 6 (Told (replies.Moved 6 6)) ∷ []
