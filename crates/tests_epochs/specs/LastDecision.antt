-- An administrator rises with two decisions, and installs the last one again.
use Rattle.std.specs.Prelude.{List, [], ◌∷◌, None}
use Rattle.qc_msg.specs.Vocabulary.{Entry, marked}
use Rattle.tests_histories.specs.Words.{tx, own_line}
use Rattle.qc_msg.specs.declared.step.Step.TheVariants.{Phase, Called, Got, Wrote, Sent, Told, Fell, Rose}
use Rattle.qc_msg.specs.declared.message.Answer.TheVariants as answers
use Rattle.qc_msg.specs.declared.reply.AbortCause.TheVariants as causes
use Rattle.qc_msg.specs.declared.step.Command.TheVariants as commands
use Rattle.qc_msg.specs.declared.message.Message.TheVariants as messages
use Rattle.qc_msg.specs.declared.message.Outcome.TheVariants as outcomes
use Rattle.qc_msg.specs.declared.record.Record.TheVariants as records
use Rattle.qc_msg.specs.declared.reply.Reply.TheVariants as replies
use Rattle.qc_msg.specs.declared.message.Want.TheVariants as wants
use Rattle.qc_msg.specs.declared.step.Fall.TheVariants as falls
use Rattle.qc_msg.specs.Vocabulary.{snapshot_with, start_with}

abbrev pub history : List Entry
history =
    marked 7 (Phase 1) ∷ marked 6 (Called (commands.Epoch 2)) ∷ marked 6 (Sent 0 0 (messages.Close 2)) ∷
    marked 6 (Sent 1 1 (messages.Close 2)) ∷ marked 0 (Got 0) ∷ marked 0 (Wrote (records.Close 2)) ∷
    marked 0 (Sent 2 6 (messages.Answer 0 (answers.Shut (snapshot_with 0 [] [])))) ∷ marked 1 (Got 1) ∷
    marked 1 (Wrote (records.Close 2)) ∷ marked 1 (Sent 3 6 (messages.Answer 1 (answers.Shut (snapshot_with 0 [] []))))
    ∷
    marked 6 (Got 2) ∷ marked 6 (Got 3) ∷ marked 6 (Wrote (records.Decide (start_with 2 0 []))) ∷
    marked 6 (Sent 4 0 (messages.Install (start_with 2 0 [])))
    ∷ marked 6 (Sent 5 1 (messages.Install (start_with 2 0 []))) ∷
    marked 6 (Sent 6 2 (messages.Install (start_with 2 0 []))) ∷ marked 0 (Got 4)
    ∷ marked 0 (Wrote (records.Install (start_with 2 0 []))) ∷
    marked 0 (Sent 7 6 (messages.Answer 4 answers.Installed)) ∷ marked 1 (Got 5) ∷
    marked 1 (Wrote (records.Install (start_with 2 0 []))) ∷ marked 1 (Sent 8 6 (messages.Answer 5 answers.Installed)) ∷
    marked 2 (Got 6) ∷ marked 2 (Wrote (records.Install (start_with 2 0 []))) ∷
    marked 2 (Sent 9 6 (messages.Answer 6 answers.Installed)) ∷ marked 6 (Got 7) ∷ marked 6 (Got 8) ∷ marked 6 (Got 9) ∷
    marked 6 (Told (replies.Moved 3 7)) ∷ marked 7 (Phase 2) ∷ marked 3 (Called commands.Begin) ∷
    marked 3 (Told (replies.Began (tx 0 1))) ∷ marked 3 (Called (commands.Do 0 2)) ∷
    marked 3 (Sent 10 0 (messages.Request (tx 0 1) 1 0 (wants.Append 0 [] (own_line 1 0 3 ∷ [])))) ∷
    marked 3 (Sent 11 1 (messages.Request (tx 0 1) 1 0 (wants.Append 0 [] (own_line 1 0 3 ∷ [])))) ∷ marked 0 (Got 10) ∷
    marked 0 (Sent 12 3 (messages.Answer 10 (answers.Closed 2))) ∷ marked 1 (Got 11) ∷
    marked 1 (Sent 13 3 (messages.Answer 11 (answers.Closed 2))) ∷ marked 3 (Got 12) ∷ marked 3 (Got 13) ∷
    marked 3 (Told (replies.Closed 2 0)) ∷ marked 3 (Called commands.Commit) ∷
    marked 3 (Sent 14 0 (messages.Decision (tx 0 1) outcomes.Aborted)) ∷
    marked 3 (Sent 15 1 (messages.Decision (tx 0 1) outcomes.Aborted)) ∷
    marked 3 (Told (replies.Aborted causes.Doomed)) ∷ marked 0 (Got 14) ∷ marked 1 (Got 15) ∷ marked 7 (Phase 3) ∷
    marked 6 (Called (commands.Epoch 3)) ∷ marked 6 (Sent 16 0 (messages.Close 3)) ∷
    marked 6 (Sent 17 1 (messages.Close 3)) ∷ marked 6 (Sent 18 2 (messages.Close 3)) ∷ marked 0 (Got 16) ∷
    marked 0 (Wrote (records.Close 3))
    ∷ marked 0 (Sent 19 6 (messages.Answer 16 (answers.Shut (snapshot_with 0 [] [])))) ∷
    marked 1 (Got 17) ∷ marked 1 (Wrote (records.Close 3)) ∷
    marked 1 (Sent 20 6 (messages.Answer 17 (answers.Shut (snapshot_with 0 [] [])))) ∷ marked 2 (Got 18) ∷
    marked 2 (Wrote (records.Close 3))
    ∷ marked 2 (Sent 21 6 (messages.Answer 18 (answers.Shut (snapshot_with 0 [] [])))) ∷
    marked 6 (Got 19) ∷ marked 6 (Got 20) ∷ marked 6 (Got 21) ∷ marked 6 (Wrote (records.Decide (start_with 3 0 []))) ∷
    marked 6 (Sent 22 0 (messages.Install (start_with 3 0 [])))
    ∷ marked 6 (Sent 23 1 (messages.Install (start_with 3 0 []))) ∷
    marked 6 (Sent 24 2 (messages.Install (start_with 3 0 []))) ∷ marked 0 (Got 22)
    ∷ marked 0 (Wrote (records.Install (start_with 3 0 []))) ∷
    marked 0 (Sent 25 6 (messages.Answer 22 answers.Installed)) ∷ marked 1 (Got 23) ∷
    marked 1 (Wrote (records.Install (start_with 3 0 []))) ∷ marked 1 (Sent 26 6 (messages.Answer 23 answers.Installed))
    ∷
    marked 2 (Got 24) ∷ marked 2 (Wrote (records.Install (start_with 3 0 []))) ∷
    marked 2 (Sent 27 6 (messages.Answer 24 answers.Installed)) ∷ marked 6 (Got 25) ∷ marked 6 (Got 26) ∷
    marked 6 (Got 27) ∷ marked 6 (Told (replies.Moved 7 7)) ∷ marked 7 (Phase 4) ∷ marked 6 (Fell falls.Script None) ∷
    marked 6 (Rose ((records.Decide (start_with 2 0 [])) ∷ (records.Decide (start_with 3 0 [])) ∷ []))
    ∷ marked 6 (Wrote records.Life) ∷
    marked 6 (Called (commands.Epoch 3)) ∷ marked 6 (Sent 28 0 (messages.Install (start_with 3 0 []))) ∷
    marked 6 (Sent 29 1 (messages.Install (start_with 3 0 [])))
    ∷ marked 6 (Sent 30 2 (messages.Install (start_with 3 0 []))) ∷
    marked 0 (Got 28) ∷ marked 0 (Sent 31 6 (messages.Answer 28 answers.Installed)) ∷ marked 1 (Got 29) ∷
    marked 1 (Sent 32 6 (messages.Answer 29 answers.Installed)) ∷ marked 2 (Got 30) ∷
    marked 2 (Sent 33 6 (messages.Answer 30 answers.Installed)) ∷ marked 6 (Got 31) ∷ marked 6 (Got 32) ∷
    marked 6 (Got 33) ∷ marked 6 (Told (replies.Moved 0 7)) ∷ marked 6 (Called (commands.Epoch 2)) ∷
    marked 6 (Told (replies.Order 3)) ∷ []
