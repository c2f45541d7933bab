-- A client rises twice and commits in each life; each stamp is above those of its records.
use Rattle.std.specs.Prelude.{List, [], ◌∷◌, Some, None, false}
use Rattle.qc_msg.specs.Vocabulary.{Entry, marked}
use Rattle.tests_histories.specs.Words.{tx, stamp, line, own_line, operation, read_lock, prepare, commit}
use Rattle.qc_msg.specs.declared.step.Step.TheVariants.{Phase, Called, Got, Wrote, Sent, Told, Fell, Rose}
use Rattle.qc_msg.specs.declared.turn.Appended.TheVariants.{Done}
use Rattle.tests_falls.specs.Words.{tx_in, line_in}
use Rattle.tests_falls.specs.Perform.{Move, Begins, Acts, Takes, Posts, Rises}
use Rattle.qc_msg.specs.declared.message.Answer.TheVariants as answers
use Rattle.qc_msg.specs.declared.step.Command.TheVariants as commands
use Rattle.qc_msg.specs.declared.message.Message.TheVariants as messages
use Rattle.qc_msg.specs.declared.message.Outcome.TheVariants as outcomes
use Rattle.qc_msg.specs.declared.record.Record.TheVariants as records
use Rattle.qc_msg.specs.declared.reply.Reply.TheVariants as replies
use Rattle.qc_msg.specs.declared.message.Want.TheVariants as wants
use Rattle.qc_msg.specs.declared.step.Fall.TheVariants as falls
use Rattle.qc_msg.specs.Vocabulary.{whole_grant, first_read}

abbrev pub moves : List Move
moves =
    Begins ∷ Takes 3 ∷ Posts 3 Done ∷ Takes 3 ∷ Posts 3 Done ∷ Takes 0 ∷ Posts 0 Done ∷ Takes 1 ∷ Posts 1 Done ∷
    Takes 3 ∷ Posts 3 Done ∷ Takes 3 ∷ Posts 3 Done ∷ Takes 3 ∷ Posts 3 Done ∷ Takes 0 ∷ Posts 0 Done ∷ Takes 1 ∷
    Posts 1 Done ∷ Takes 3 ∷ Posts 3 Done ∷ Takes 3 ∷ Posts 3 Done ∷ Takes 0 ∷ Posts 0 Done ∷ Takes 1 ∷ Posts 1 Done ∷
    Begins ∷ Acts ∷ Rises false Done ∷ Takes 3 ∷ Posts 3 Done ∷ Takes 3 ∷ Posts 3 Done ∷ Takes 0 ∷ Posts 0 Done ∷
    Takes 1 ∷ Posts 1 Done ∷ Takes 3 ∷ Posts 3 Done ∷ Takes 3 ∷ Posts 3 Done ∷ Takes 3 ∷ Posts 3 Done ∷ Takes 0 ∷
    Posts 0 Done ∷ Takes 1 ∷ Posts 1 Done ∷ Takes 3 ∷ Posts 3 Done ∷ Takes 3 ∷ Posts 3 Done ∷ Takes 0 ∷ Posts 0 Done ∷
    Takes 1 ∷ Posts 1 Done ∷ Begins ∷ Acts ∷ Rises false Done ∷ Takes 3 ∷ Posts 3 Done ∷ Takes 3 ∷ Posts 3 Done ∷
    Takes 0 ∷ Posts 0 Done ∷ Takes 1 ∷ Posts 1 Done ∷ Takes 3 ∷ Posts 3 Done ∷ Takes 3 ∷ Posts 3 Done ∷ Takes 3 ∷
    Posts 3 Done ∷ Takes 0 ∷ Posts 0 Done ∷ Takes 1 ∷ Posts 1 Done ∷ Takes 3 ∷ Posts 3 Done ∷ Takes 3 ∷ Posts 3 Done ∷
    Takes 0 ∷ Posts 0 Done ∷ Takes 1 ∷ Posts 1 Done ∷ []

abbrev pub history : List Entry
history =
    marked 7 (Phase 1) ∷ marked 3 (Called commands.Begin) ∷ marked 3 (Told (replies.Began (tx 0 1))) ∷
    marked 3 (Called (commands.Do 0 2)) ∷
    marked 3 (Sent 0 0 (messages.Request (tx 0 1) 1 0 (wants.Append 0 [] (own_line 1 0 3 ∷ [])))) ∷
    marked 3 (Sent 1 1 (messages.Request (tx 0 1) 1 0 (wants.Append 0 [] (own_line 1 0 3 ∷ [])))) ∷ marked 0 (Got 0) ∷
    marked 0 (Sent 2 3 (messages.Answer 0 (answers.Granted (whole_grant 1 0 [])))) ∷ marked 1 (Got 1) ∷
    marked 1 (Sent 3 3 (messages.Answer 1 (answers.Granted (whole_grant 1 0 [])))) ∷ marked 3 (Got 2) ∷ marked 3 (Got 3)
    ∷
    marked 3 (Told (replies.Response 2)) ∷ marked 3 (Called commands.Commit) ∷
    marked 3 (Sent 4 0 (messages.Request (tx 0 1) 1 1 wants.Prepare)) ∷
    marked 3 (Sent 5 1 (messages.Request (tx 0 1) 1 1 wants.Prepare)) ∷ marked 0 (Got 4) ∷
    marked 0 (Wrote (prepare (tx 0 1) 1 [] (own_line 1 0 3 ∷ []) [])) ∷
    marked 0 (Sent 6 3 (messages.Answer 4 (answers.Yes 0))) ∷ marked 1 (Got 5) ∷
    marked 1 (Wrote (prepare (tx 0 1) 1 [] (own_line 1 0 3 ∷ []) [])) ∷
    marked 1 (Sent 7 3 (messages.Answer 5 (answers.Yes 0))) ∷ marked 3 (Got 6) ∷ marked 3 (Got 7) ∷
    marked 3 (Wrote (commit (stamp 1 0) (tx 0 1) (operation 0 2 (Some 2) ∷ []))) ∷
    marked 3 (Sent 8 0 (messages.Decision (tx 0 1) (outcomes.Committed (stamp 1 0)))) ∷
    marked 3 (Sent 9 1 (messages.Decision (tx 0 1) (outcomes.Committed (stamp 1 0)))) ∷
    marked 3 (Told (replies.Committed (stamp 1 0))) ∷ marked 0 (Got 8) ∷ marked 0 (Wrote (records.Done (tx 0 1) 1)) ∷
    marked 1 (Got 9) ∷ marked 1 (Wrote (records.Done (tx 0 1) 1)) ∷ marked 7 (Phase 2) ∷
    marked 3 (Fell falls.Script None) ∷
    marked 3 (Rose ((commit (stamp 1 0) (tx 0 1) (operation 0 2 (Some 2) ∷ [])) ∷ [])) ∷ marked 3 (Wrote records.Life) ∷
    marked 3 (Called commands.Begin) ∷ marked 3 (Told (replies.Began (tx_in 0 2 1))) ∷
    marked 3 (Called (commands.Do 0 1)) ∷
    marked 3 (Sent 10 0 (messages.Request (tx_in 0 2 1) 1 0 (wants.Append 0 [] (own_line 1 0 2 ∷ [])))) ∷
    marked 3 (Sent 11 1 (messages.Request (tx_in 0 2 1) 1 0 (wants.Append 0 [] (own_line 1 0 2 ∷ [])))) ∷
    marked 0 (Got 10) ∷ marked 0 (Sent 12 3 (messages.Answer 10 (answers.Granted (whole_grant 1 1 []))))
    ∷ marked 1 (Got 11) ∷
    marked 1 (Sent 13 3 (messages.Answer 11 (answers.Granted (whole_grant 1 1 [])))) ∷ marked 3 (Got 12)
    ∷ marked 3 (Got 13) ∷
    marked 3 (Told (replies.Response 2)) ∷ marked 3 (Called commands.Commit) ∷
    marked 3 (Sent 14 0 (messages.Request (tx_in 0 2 1) 1 1 wants.Prepare)) ∷
    marked 3 (Sent 15 1 (messages.Request (tx_in 0 2 1) 1 1 wants.Prepare)) ∷ marked 0 (Got 14) ∷
    marked 0 (Wrote (prepare (tx_in 0 2 1) 1 [] (own_line 1 0 2 ∷ []) [])) ∷
    marked 0 (Sent 16 3 (messages.Answer 14 (answers.Yes 1))) ∷ marked 1 (Got 15) ∷
    marked 1 (Wrote (prepare (tx_in 0 2 1) 1 [] (own_line 1 0 2 ∷ []) [])) ∷
    marked 1 (Sent 17 3 (messages.Answer 15 (answers.Yes 1))) ∷ marked 3 (Got 16) ∷ marked 3 (Got 17) ∷
    marked 3 (Wrote (commit (stamp 2 0) (tx_in 0 2 1) (operation 0 1 (Some 2) ∷ []))) ∷
    marked 3 (Sent 18 0 (messages.Decision (tx_in 0 2 1) (outcomes.Committed (stamp 2 0)))) ∷
    marked 3 (Sent 19 1 (messages.Decision (tx_in 0 2 1) (outcomes.Committed (stamp 2 0)))) ∷
    marked 3 (Told (replies.Committed (stamp 2 0))) ∷ marked 0 (Got 18) ∷
    marked 0 (Wrote (records.Done (tx_in 0 2 1) 2)) ∷ marked 1 (Got 19) ∷
    marked 1 (Wrote (records.Done (tx_in 0 2 1) 2)) ∷ marked 7 (Phase 3) ∷ marked 3 (Fell falls.Script None) ∷
    marked 3 (Rose ((commit (stamp 1 0) (tx 0 1) (operation 0 2 (Some 2) ∷ [])) ∷ records.Life ∷ (commit (stamp 2 0)
    (tx_in 0 2 1) (operation 0 1 (Some 2) ∷ [])) ∷ [])) ∷
    marked 3 (Wrote records.Life) ∷ marked 3 (Called commands.Begin) ∷ marked 3 (Told (replies.Began (tx_in 0 3 1))) ∷
    marked 3 (Called (commands.Do 0 0))
    ∷ marked 3 (Sent 20 0 (messages.Request (tx_in 0 3 1) 1 0 (wants.Read (first_read 0 0)))) ∷
    marked 3 (Sent 21 1 (messages.Request (tx_in 0 3 1) 1 0 (wants.Read (first_read 0 0)))) ∷ marked 0 (Got 20) ∷
    marked 0
    (Sent 22 3
    (messages.Answer 20 (answers.Granted (whole_grant 1 2 (line 1 0 1 1 0 3 ∷ line_in 2 0 2 1 1 0 2 ∷ []))))) ∷
    marked 1 (Got 21) ∷
    marked 1
    (Sent 23 3
    (messages.Answer 21 (answers.Granted (whole_grant 1 2 (line 1 0 1 1 0 3 ∷ line_in 2 0 2 1 1 0 2 ∷ []))))) ∷
    marked 3 (Got 22) ∷ marked 3 (Got 23) ∷ marked 3 (Told (replies.Response 0)) ∷ marked 3 (Called commands.Commit) ∷
    marked 3 (Sent 24 0 (messages.Request (tx_in 0 3 1) 1 1 wants.Prepare)) ∷
    marked 3 (Sent 25 1 (messages.Request (tx_in 0 3 1) 1 1 wants.Prepare)) ∷ marked 0 (Got 24) ∷
    marked 0 (Wrote (prepare (tx_in 0 3 1) 1 (read_lock 0 0 ∷ []) [] [])) ∷
    marked 0 (Sent 26 3 (messages.Answer 24 (answers.Yes 2))) ∷ marked 1 (Got 25) ∷
    marked 1 (Wrote (prepare (tx_in 0 3 1) 1 (read_lock 0 0 ∷ []) [] [])) ∷
    marked 1 (Sent 27 3 (messages.Answer 25 (answers.Yes 2))) ∷ marked 3 (Got 26) ∷ marked 3 (Got 27) ∷
    marked 3 (Wrote (commit (stamp 3 0) (tx_in 0 3 1) (operation 0 0 (Some 0) ∷ []))) ∷
    marked 3 (Sent 28 0 (messages.Decision (tx_in 0 3 1) (outcomes.Committed (stamp 3 0)))) ∷
    marked 3 (Sent 29 1 (messages.Decision (tx_in 0 3 1) (outcomes.Committed (stamp 3 0)))) ∷
    marked 3 (Told (replies.Committed (stamp 3 0))) ∷ marked 0 (Got 28) ∷
    marked 0 (Wrote (records.Done (tx_in 0 3 1) 3)) ∷ marked 1 (Got 29) ∷
    marked 1 (Wrote (records.Done (tx_in 0 3 1) 3)) ∷ []
