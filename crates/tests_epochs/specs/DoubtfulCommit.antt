-- A client's disk stops as it writes its commit record, so the epoch is in doubt; it rises, and the epoch is decided.
use Rattle.std.specs.Prelude.{List, [], ◌∷◌, Some}
use Rattle.qc_msg.specs.Vocabulary.{Entry, marked}
use Rattle.tests_histories.specs.Words.{tx, stamp, own_line, operation, prepare, commit}
use Rattle.qc_msg.specs.declared.step.Step.TheVariants.{Phase, Called, Got, Lost, Wrote, Sent, Told, Armed, Fell, Rose}
use Rattle.tests_epochs.specs.Words.{prepared}
use Rattle.qc_msg.specs.declared.message.Answer.TheVariants as answers
use Rattle.qc_msg.specs.declared.step.Command.TheVariants as commands
use Rattle.qc_msg.specs.declared.message.Message.TheVariants as messages
use Rattle.qc_msg.specs.declared.message.Outcome.TheVariants as outcomes
use Rattle.qc_msg.specs.declared.record.Record.TheVariants as records
use Rattle.qc_msg.specs.declared.reply.Reply.TheVariants as replies
use Rattle.qc_msg.specs.declared.message.Want.TheVariants as wants
use Rattle.qc_msg.specs.declared.step.Fall.TheVariants as falls
use Rattle.qc_msg.specs.Vocabulary.{whole_grant, snapshot_with, start_with}
use Rattle.qc_outside.specs.declared.disk.ArmKind.TheVariants as arms

abbrev pub history : List Entry
history =
    marked 7 (Phase 1) ∷ marked 7 (Armed 3 arms.Stop 3) ∷ marked 3 (Called commands.Begin) ∷
    marked 3 (Told (replies.Began (tx 0 1))) ∷ marked 3 (Called (commands.Do 0 2)) ∷
    marked 3 (Sent 0 0 (messages.Request (tx 0 1) 1 0 (wants.Append 0 [] (own_line 1 0 3 ∷ [])))) ∷
    marked 3 (Sent 1 1 (messages.Request (tx 0 1) 1 0 (wants.Append 0 [] (own_line 1 0 3 ∷ [])))) ∷ marked 0 (Got 0) ∷
    marked 0 (Sent 2 3 (messages.Answer 0 (answers.Granted (whole_grant 1 0 [])))) ∷ marked 1 (Got 1) ∷
    marked 1 (Sent 3 3 (messages.Answer 1 (answers.Granted (whole_grant 1 0 [])))) ∷ marked 3 (Got 2) ∷ marked 3 (Got 3)
    ∷
    marked 3 (Told (replies.Response 2)) ∷ marked 3 (Called commands.Commit) ∷
    marked 3 (Sent 4 0 (messages.Request (tx 0 1) 1 1 wants.Prepare)) ∷
    marked 3 (Sent 5 1 (messages.Request (tx 0 1) 1 1 wants.Prepare)) ∷ marked 0 (Got 4) ∷
    marked 0 (Wrote (prepare (tx 0 1) 1 [] (own_line 1 0 3 ∷ []) [])) ∷
    marked 0 (Sent 6 3 (messages.Answer 4 (answers.Yes 0))) ∷ marked 1 (Got 5) ∷
    marked 1 (Wrote (prepare (tx 0 1) 1 [] (own_line 1 0 3 ∷ []) [])) ∷
    marked 1 (Sent 7 3 (messages.Answer 5 (answers.Yes 0))) ∷ marked 3 (Got 6) ∷ marked 3 (Got 7) ∷
    marked 3 (Told replies.Unknown) ∷
    marked 3 (Fell falls.Stop (Some (commit (stamp 1 0) (tx 0 1) (operation 0 2 (Some 2) ∷ [])))) ∷ marked 7 (Phase 2) ∷
    marked 6 (Called (commands.Epoch 2)) ∷ marked 6 (Sent 8 0 (messages.Close 2)) ∷
    marked 6 (Sent 9 1 (messages.Close 2)) ∷ marked 0 (Got 8) ∷ marked 0 (Wrote (records.Close 2)) ∷
    marked 0 (Sent 10 6 (messages.Answer 8 (answers.Shut (snapshot_with 0 [] (prepared (tx 0 1) 1 [] (own_line 1 0 3 ∷ []) [] ∷ [])))))
    ∷
    marked 1 (Got 9) ∷ marked 1 (Wrote (records.Close 2)) ∷
    marked 1 (Sent 11 6 (messages.Answer 9 (answers.Shut (snapshot_with 0 [] (prepared (tx 0 1) 1 [] (own_line 1 0 3 ∷ []) [] ∷ [])))))
    ∷
    marked 6 (Got 10) ∷ marked 6 (Got 11) ∷ marked 6 (Sent 12 3 (messages.Ask (tx 0 1))) ∷ marked 6 (Lost 12) ∷
    marked 6 (Told (replies.InDoubt (tx 0 1) 0)) ∷ marked 7 (Phase 3) ∷ marked 3 (Rose []) ∷
    marked 3 (Wrote records.Life) ∷ marked 6 (Called (commands.Epoch 2)) ∷ marked 6 (Sent 13 0 (messages.Close 2)) ∷
    marked 6 (Sent 14 1 (messages.Close 2)) ∷ marked 0 (Got 13) ∷
    marked 0 (Sent 15 6 (messages.Answer 13 (answers.Shut (snapshot_with 0 [] (prepared (tx 0 1) 1 [] (own_line 1 0 3 ∷ []) [] ∷ [])))))
    ∷
    marked 1 (Got 14) ∷
    marked 1 (Sent 16 6 (messages.Answer 14 (answers.Shut (snapshot_with 0 [] (prepared (tx 0 1) 1 [] (own_line 1 0 3 ∷ []) [] ∷ [])))))
    ∷
    marked 6 (Got 15) ∷ marked 6 (Got 16) ∷ marked 6 (Sent 17 3 (messages.Ask (tx 0 1))) ∷ marked 3 (Got 17) ∷
    marked 3 (Sent 18 6 (messages.Answer 17 (answers.Answered outcomes.Aborted))) ∷ marked 6 (Got 18) ∷
    marked 6 (Wrote (records.Decide (start_with 2 0 []))) ∷ marked 6 (Sent 19 0 (messages.Install (start_with 2 0 [])))
    ∷
    marked 6 (Sent 20 1 (messages.Install (start_with 2 0 [])))
    ∷ marked 6 (Sent 21 2 (messages.Install (start_with 2 0 []))) ∷
    marked 0 (Got 19) ∷ marked 0 (Wrote (records.Install (start_with 2 0 []))) ∷
    marked 0 (Sent 22 6 (messages.Answer 19 answers.Installed)) ∷ marked 1 (Got 20) ∷
    marked 1 (Wrote (records.Install (start_with 2 0 []))) ∷ marked 1 (Sent 23 6 (messages.Answer 20 answers.Installed))
    ∷
    marked 2 (Got 21) ∷ marked 2 (Wrote (records.Install (start_with 2 0 []))) ∷
    marked 2 (Sent 24 6 (messages.Answer 21 answers.Installed)) ∷ marked 6 (Got 22) ∷ marked 6 (Got 23) ∷
    marked 6 (Got 24) ∷ marked 6 (Told (replies.Moved 3 7)) ∷ []
