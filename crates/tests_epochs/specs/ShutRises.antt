-- A closed site rises: it grants nothing of the closed epoch, and another command closes enough.
use Rattle.std.specs.Prelude.{List, [], ◌∷◌, None}
use Rattle.qc_msg.specs.Vocabulary.{Entry, marked}
use Rattle.tests_histories.specs.Words.{tx}
use Rattle.qc_msg.specs.declared.step.Step.TheVariants.{Phase, Cut, Heal, Called, Got, Lost, Wrote, Sent, Told, Fell}
use Rattle.qc_msg.specs.declared.step.Step.TheVariants.{Rose}
use Rattle.qc_msg.specs.declared.message.Answer.TheVariants as answers
use Rattle.qc_msg.specs.declared.step.Command.TheVariants as commands
use Rattle.qc_msg.specs.declared.reply.Half.TheVariants as halves
use Rattle.qc_msg.specs.declared.message.Message.TheVariants as messages
use Rattle.qc_msg.specs.declared.record.Record.TheVariants as records
use Rattle.qc_msg.specs.declared.reply.Reply.TheVariants as replies
use Rattle.qc_msg.specs.declared.message.Want.TheVariants as wants
use Rattle.qc_msg.specs.declared.step.Fall.TheVariants as falls
use Rattle.qc_msg.specs.Vocabulary.{whole_grant, first_read, snapshot_with, start_with}

abbrev pub history : List Entry
history =
    marked 7 (Phase 1) ∷ marked 7 (Cut 1 6) ∷ marked 7 (Cut 2 6) ∷ marked 6 (Called (commands.Epoch 2)) ∷
    marked 6 (Sent 0 0 (messages.Close 2)) ∷ marked 6 (Sent 1 1 (messages.Close 2)) ∷ marked 0 (Got 0) ∷
    marked 0 (Wrote (records.Close 2)) ∷ marked 0 (Sent 2 6 (messages.Answer 0 (answers.Shut (snapshot_with 0 [] []))))
    ∷
    marked 6 (Got 2) ∷ marked 6 (Lost 1) ∷ marked 6 (Sent 3 2 (messages.Close 2)) ∷ marked 6 (Lost 3) ∷
    marked 6 (Told (replies.Quorum halves.Close 1 2)) ∷ marked 7 (Phase 2) ∷ marked 0 (Fell falls.Script None) ∷
    marked 0 (Rose ((records.Close 2) ∷ [])) ∷ marked 0 (Wrote records.Life) ∷ marked 3 (Called commands.Begin) ∷
    marked 3 (Told (replies.Began (tx 0 1))) ∷ marked 3 (Called (commands.Do 0 0)) ∷
    marked 3 (Sent 4 0 (messages.Request (tx 0 1) 1 0 (wants.Read (first_read 0 0)))) ∷
    marked 3 (Sent 5 1 (messages.Request (tx 0 1) 1 0 (wants.Read (first_read 0 0)))) ∷ marked 0 (Got 4) ∷
    marked 0 (Sent 6 3 (messages.Answer 4 (answers.Closed 2))) ∷ marked 1 (Got 5) ∷
    marked 1 (Sent 7 3 (messages.Answer 5 (answers.Granted (whole_grant 1 0 [])))) ∷ marked 3 (Got 6) ∷ marked 3 (Got 7)
    ∷
    marked 3 (Told (replies.Closed 2 0)) ∷ marked 7 (Phase 3) ∷ marked 7 (Heal 1 6) ∷
    marked 6 (Called (commands.Epoch 2)) ∷ marked 6 (Sent 8 0 (messages.Close 2)) ∷
    marked 6 (Sent 9 1 (messages.Close 2)) ∷ marked 0 (Got 8) ∷
    marked 0 (Sent 10 6 (messages.Answer 8 (answers.Shut (snapshot_with 0 [] [])))) ∷ marked 1 (Got 9) ∷
    marked 1 (Wrote (records.Close 2)) ∷ marked 1 (Sent 11 6 (messages.Answer 9 (answers.Shut (snapshot_with 0 [] []))))
    ∷
    marked 6 (Got 10) ∷ marked 6 (Got 11) ∷ marked 6 (Wrote (records.Decide (start_with 2 0 []))) ∷
    marked 6 (Sent 12 0 (messages.Install (start_with 2 0 [])))
    ∷ marked 6 (Sent 13 1 (messages.Install (start_with 2 0 []))) ∷
    marked 6 (Sent 14 2 (messages.Install (start_with 2 0 []))) ∷ marked 0 (Got 12)
    ∷ marked 0 (Wrote (records.Install (start_with 2 0 []))) ∷
    marked 0 (Sent 15 6 (messages.Answer 12 answers.Installed)) ∷ marked 1 (Got 13) ∷
    marked 1 (Wrote (records.Install (start_with 2 0 []))) ∷ marked 1 (Sent 16 6 (messages.Answer 13 answers.Installed))
    ∷
    marked 6 (Got 15) ∷ marked 6 (Got 16) ∷ marked 6 (Lost 14) ∷ marked 6 (Told (replies.Moved 3 3)) ∷ []
