-- A client falls after it committed, and rises: sites that weren't told ask it.
use Rattle.std.specs.Prelude.{List, [], ◌∷◌, Some, None, false}
use Rattle.qc_msg.specs.Vocabulary.{Entry, marked}
use Rattle.tests_histories.specs.Words.{tx, stamp, line, own_line, operation, read_lock, prepare, commit}
use Rattle.qc_msg.specs.declared.step.Step.TheVariants.{Phase, Called, Got, Wrote, Sent, Told, Fell, Rose}
use Rattle.qc_msg.specs.declared.turn.Appended.TheVariants.{Done}
use Rattle.tests_falls.specs.Perform.{Move, Begins, Acts, Takes, Posts, Rises}
use Rattle.qc_msg.specs.declared.message.Answer.TheVariants as answers
use Rattle.qc_msg.specs.declared.step.Command.TheVariants as commands
use Rattle.qc_msg.specs.declared.message.Message.TheVariants as messages
use Rattle.qc_msg.specs.declared.message.Outcome.TheVariants as outcomes
use Rattle.qc_msg.specs.declared.record.Record.TheVariants as records
use Rattle.qc_msg.specs.declared.reply.Reply.TheVariants as replies
use Rattle.qc_msg.specs.declared.message.Want.TheVariants as wants
use Rattle.qc_msg.specs.declared.step.Fall.TheVariants as falls
use Rattle.qc_msg.specs.Vocabulary.{whole_grant, first_read}

abbrev pub moves : List Move
moves =
    Begins ∷ Takes 3 ∷ Posts 3 Done ∷ Takes 3 ∷ Posts 3 Done ∷ Takes 0 ∷ Posts 0 Done ∷ Takes 1 ∷ Posts 1 Done ∷
    Takes 3 ∷ Posts 3 Done ∷ Takes 3 ∷ Posts 3 Done ∷ Takes 3 ∷ Posts 3 Done ∷ Takes 0 ∷ Posts 0 Done ∷ Takes 1 ∷
    Posts 1 Done ∷ Takes 3 ∷ Posts 3 Done ∷ Takes 3 ∷ Posts 3 Done ∷ Begins ∷ Acts ∷ Rises false Done ∷ Takes 4 ∷
    Posts 4 Done ∷ Takes 4 ∷ Posts 4 Done ∷ Takes 1 ∷ Posts 1 Done ∷ Takes 2 ∷ Posts 2 Done ∷ Takes 4 ∷ Posts 4 Done ∷
    Takes 3 ∷ Posts 3 Done ∷ Takes 4 ∷ Posts 4 Done ∷ Takes 1 ∷ Posts 1 Done ∷ Begins ∷ Takes 4 ∷ Posts 4 Done ∷
    Takes 1 ∷ Posts 1 Done ∷ Takes 2 ∷ Posts 2 Done ∷ Takes 4 ∷ Posts 4 Done ∷ Takes 4 ∷ Posts 4 Done ∷ Takes 4 ∷
    Posts 4 Done ∷ Takes 1 ∷ Posts 1 Done ∷ Takes 2 ∷ Posts 2 Done ∷ Takes 4 ∷ Posts 4 Done ∷ Takes 4 ∷ Posts 4 Done ∷
    Takes 1 ∷ Posts 1 Done ∷ Takes 2 ∷ Posts 2 Done ∷ []

abbrev pub history : List Entry
history =
    marked 7 (Phase 1) ∷ marked 3 (Called commands.Begin) ∷ marked 3 (Told (replies.Began (tx 0 1))) ∷
    marked 3 (Called (commands.Do 0 2)) ∷
    marked 3 (Sent 0 0 (messages.Request (tx 0 1) 1 0 (wants.Append 0 [] (own_line 1 0 3 ∷ [])))) ∷
    marked 3 (Sent 1 1 (messages.Request (tx 0 1) 1 0 (wants.Append 0 [] (own_line 1 0 3 ∷ [])))) ∷ marked 0 (Got 0) ∷
    marked 0 (Sent 2 3 (messages.Answer 0 (answers.Granted (whole_grant 1 0 [])))) ∷ marked 1 (Got 1) ∷
    marked 1 (Sent 3 3 (messages.Answer 1 (answers.Granted (whole_grant 1 0 [])))) ∷ marked 3 (Got 2) ∷ marked 3 (Got 3)
    ∷
    marked 3 (Told (replies.Response 2)) ∷ marked 3 (Called commands.Commit) ∷
    marked 3 (Sent 4 0 (messages.Request (tx 0 1) 1 1 wants.Prepare)) ∷
    marked 3 (Sent 5 1 (messages.Request (tx 0 1) 1 1 wants.Prepare)) ∷ marked 0 (Got 4) ∷
    marked 0 (Wrote (prepare (tx 0 1) 1 [] (own_line 1 0 3 ∷ []) [])) ∷
    marked 0 (Sent 6 3 (messages.Answer 4 (answers.Yes 0))) ∷ marked 1 (Got 5) ∷
    marked 1 (Wrote (prepare (tx 0 1) 1 [] (own_line 1 0 3 ∷ []) [])) ∷
    marked 1 (Sent 7 3 (messages.Answer 5 (answers.Yes 0))) ∷ marked 3 (Got 6) ∷ marked 3 (Got 7) ∷
    marked 3 (Wrote (commit (stamp 1 0) (tx 0 1) (operation 0 2 (Some 2) ∷ []))) ∷
    marked 3 (Sent 8 0 (messages.Decision (tx 0 1) (outcomes.Committed (stamp 1 0)))) ∷
    marked 3 (Sent 9 1 (messages.Decision (tx 0 1) (outcomes.Committed (stamp 1 0)))) ∷
    marked 3 (Told (replies.Committed (stamp 1 0))) ∷ marked 7 (Phase 2) ∷ marked 3 (Fell falls.Script None) ∷
    marked 3 (Rose ((commit (stamp 1 0) (tx 0 1) (operation 0 2 (Some 2) ∷ [])) ∷ [])) ∷ marked 3 (Wrote records.Life) ∷
    marked 4 (Called commands.Begin) ∷ marked 4 (Told (replies.Began (tx 1 1))) ∷ marked 4 (Called (commands.Do 0 0)) ∷
    marked 4 (Sent 10 1 (messages.Request (tx 1 1) 1 0 (wants.Read (first_read 0 0)))) ∷
    marked 4 (Sent 11 2 (messages.Request (tx 1 1) 1 0 (wants.Read (first_read 0 0)))) ∷ marked 1 (Got 10) ∷
    marked 1 (Sent 12 4 (messages.Answer 10 (answers.Clash (tx 0 1) 0 3))) ∷
    marked 1 (Sent 13 3 (messages.Inquiry (tx 0 1))) ∷ marked 2 (Got 11) ∷
    marked 2 (Sent 14 4 (messages.Answer 11 (answers.Granted (whole_grant 1 0 [])))) ∷ marked 4 (Got 12)
    ∷ marked 3 (Got 13) ∷
    marked 3 (Sent 15 1 (messages.Decision (tx 0 1) (outcomes.Committed (stamp 1 0)))) ∷ marked 4 (Got 14) ∷
    marked 4 (Told (replies.Conflict (tx 0 1) 1)) ∷ marked 1 (Got 15) ∷ marked 1 (Wrote (records.Done (tx 0 1) 1)) ∷
    marked 7 (Phase 3) ∷ marked 4 (Called (commands.Do 0 0)) ∷
    marked 4 (Sent 16 1 (messages.Request (tx 1 1) 1 0 (wants.Read (first_read 0 0)))) ∷
    marked 4 (Sent 17 2 (messages.Request (tx 1 1) 1 1 (wants.Read (first_read 0 0)))) ∷ marked 1 (Got 16) ∷
    marked 1 (Sent 18 4 (messages.Answer 16 (answers.Granted (whole_grant 1 1 (line 1 0 1 1 0 3 ∷ [])))))
    ∷ marked 2 (Got 17) ∷
    marked 2 (Sent 19 4 (messages.Answer 17 (answers.Granted (whole_grant 1 0 [])))) ∷ marked 4 (Got 18)
    ∷ marked 4 (Got 19) ∷
    marked 4 (Told (replies.Response 1)) ∷ marked 4 (Called commands.Commit) ∷
    marked 4 (Sent 20 1 (messages.Request (tx 1 1) 1 1 wants.Prepare)) ∷
    marked 4 (Sent 21 2 (messages.Request (tx 1 1) 1 1 wants.Prepare)) ∷ marked 1 (Got 20) ∷
    marked 1 (Wrote (prepare (tx 1 1) 1 (read_lock 0 0 ∷ []) [] [])) ∷
    marked 1 (Sent 22 4 (messages.Answer 20 (answers.Yes 1))) ∷ marked 2 (Got 21) ∷
    marked 2 (Wrote (prepare (tx 1 1) 1 (read_lock 0 0 ∷ []) [] [])) ∷
    marked 2 (Sent 23 4 (messages.Answer 21 (answers.Yes 0))) ∷ marked 4 (Got 22) ∷ marked 4 (Got 23) ∷
    marked 4 (Wrote (commit (stamp 2 1) (tx 1 1) (operation 0 0 (Some 1) ∷ []))) ∷
    marked 4 (Sent 24 1 (messages.Decision (tx 1 1) (outcomes.Committed (stamp 2 1)))) ∷
    marked 4 (Sent 25 2 (messages.Decision (tx 1 1) (outcomes.Committed (stamp 2 1)))) ∷
    marked 4 (Told (replies.Committed (stamp 2 1))) ∷ marked 1 (Got 24) ∷ marked 1 (Wrote (records.Done (tx 1 1) 2)) ∷
    marked 2 (Got 25) ∷ marked 2 (Wrote (records.Done (tx 1 1) 2)) ∷ []
