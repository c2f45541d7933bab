-- An administrator is called while he is down; he rises with the epoch that he decided.
use Rattle.std.specs.Prelude.{List, [], ◌∷◌, None}
use Rattle.qc_msg.specs.Vocabulary.{Entry, marked}
use Rattle.qc_msg.specs.declared.step.Step.TheVariants.{Phase, Called, Got, Wrote, Sent, Told, Fell, Rose}
use Rattle.qc_msg.specs.declared.message.Answer.TheVariants as answers
use Rattle.qc_msg.specs.declared.step.Command.TheVariants as commands
use Rattle.qc_msg.specs.declared.message.Message.TheVariants as messages
use Rattle.qc_msg.specs.declared.record.Record.TheVariants as records
use Rattle.qc_msg.specs.declared.reply.Reply.TheVariants as replies
use Rattle.qc_msg.specs.declared.step.Fall.TheVariants as falls
use Rattle.qc_msg.specs.Vocabulary.{snapshot_with, start_with}

abbrev pub history : List Entry
history =
    marked 7 (Phase 1) ∷ marked 6 (Called (commands.Epoch 2)) ∷ marked 6 (Sent 0 0 (messages.Close 2)) ∷
    marked 6 (Sent 1 1 (messages.Close 2)) ∷ marked 0 (Got 0) ∷ marked 0 (Wrote (records.Close 2)) ∷
    marked 0 (Sent 2 6 (messages.Answer 0 (answers.Shut (snapshot_with 0 [] [])))) ∷ marked 1 (Got 1) ∷
    marked 1 (Wrote (records.Close 2)) ∷ marked 1 (Sent 3 6 (messages.Answer 1 (answers.Shut (snapshot_with 0 [] []))))
    ∷
    marked 6 (Got 2) ∷ marked 6 (Got 3) ∷ marked 6 (Wrote (records.Decide (start_with 2 0 []))) ∷
    marked 6 (Sent 4 0 (messages.Install (start_with 2 0 [])))
    ∷ marked 6 (Sent 5 1 (messages.Install (start_with 2 0 []))) ∷
    marked 6 (Sent 6 2 (messages.Install (start_with 2 0 []))) ∷ marked 0 (Got 4)
    ∷ marked 0 (Wrote (records.Install (start_with 2 0 []))) ∷
    marked 0 (Sent 7 6 (messages.Answer 4 answers.Installed)) ∷ marked 1 (Got 5) ∷
    marked 1 (Wrote (records.Install (start_with 2 0 []))) ∷ marked 1 (Sent 8 6 (messages.Answer 5 answers.Installed)) ∷
    marked 2 (Got 6) ∷ marked 2 (Wrote (records.Install (start_with 2 0 []))) ∷
    marked 2 (Sent 9 6 (messages.Answer 6 answers.Installed)) ∷ marked 6 (Got 7) ∷ marked 6 (Got 8) ∷ marked 6 (Got 9) ∷
    marked 6 (Told (replies.Moved 3 7)) ∷ marked 7 (Phase 2) ∷ marked 6 (Fell falls.Script None) ∷
    marked 6 (Called (commands.Epoch 3)) ∷ marked 6 (Told replies.Down) ∷ marked 7 (Phase 3) ∷
    marked 6 (Rose ((records.Decide (start_with 2 0 [])) ∷ [])) ∷ marked 6 (Wrote records.Life) ∷
    marked 6 (Called (commands.Epoch 3)) ∷ marked 6 (Sent 10 0 (messages.Close 3)) ∷
    marked 6 (Sent 11 1 (messages.Close 3)) ∷ marked 6 (Sent 12 2 (messages.Close 3)) ∷ marked 0 (Got 10) ∷
    marked 0 (Wrote (records.Close 3))
    ∷ marked 0 (Sent 13 6 (messages.Answer 10 (answers.Shut (snapshot_with 0 [] [])))) ∷
    marked 1 (Got 11) ∷ marked 1 (Wrote (records.Close 3)) ∷
    marked 1 (Sent 14 6 (messages.Answer 11 (answers.Shut (snapshot_with 0 [] [])))) ∷ marked 2 (Got 12) ∷
    marked 2 (Wrote (records.Close 3))
    ∷ marked 2 (Sent 15 6 (messages.Answer 12 (answers.Shut (snapshot_with 0 [] [])))) ∷
    marked 6 (Got 13) ∷ marked 6 (Got 14) ∷ marked 6 (Got 15) ∷ marked 6 (Wrote (records.Decide (start_with 3 0 []))) ∷
    marked 6 (Sent 16 0 (messages.Install (start_with 3 0 [])))
    ∷ marked 6 (Sent 17 1 (messages.Install (start_with 3 0 []))) ∷
    marked 6 (Sent 18 2 (messages.Install (start_with 3 0 []))) ∷ marked 0 (Got 16)
    ∷ marked 0 (Wrote (records.Install (start_with 3 0 []))) ∷
    marked 0 (Sent 19 6 (messages.Answer 16 answers.Installed)) ∷ marked 1 (Got 17) ∷
    marked 1 (Wrote (records.Install (start_with 3 0 []))) ∷ marked 1 (Sent 20 6 (messages.Answer 17 answers.Installed))
    ∷
    marked 2 (Got 18) ∷ marked 2 (Wrote (records.Install (start_with 3 0 []))) ∷
    marked 2 (Sent 21 6 (messages.Answer 18 answers.Installed)) ∷ marked 6 (Got 19) ∷ marked 6 (Got 20) ∷
    marked 6 (Got 21) ∷ marked 6 (Told (replies.Moved 7 7)) ∷ []
