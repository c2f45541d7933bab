-- A client's disk stops as it writes its commit record: it is told Unknown, and rises without the record.
use Rattle.std.specs.Prelude.{List, [], ◌∷◌, Some, false}
use Rattle.qc_msg.specs.Vocabulary.{Entry, marked}
use Rattle.tests_histories.specs.Words.{tx, stamp, own_line, operation, read_lock, prepare, commit}
use Rattle.qc_msg.specs.declared.step.Step.TheVariants.{Phase, Called, Got, Wrote, Sent, Told, Armed, Fell, Rose}
use Rattle.qc_msg.specs.declared.turn.Appended.TheVariants.{Done, Stopped}
use Rattle.tests_falls.specs.Perform.{Move, Begins, Acts, Takes, Posts, Rises}
use Rattle.qc_msg.specs.declared.message.Answer.TheVariants as answers
use Rattle.qc_msg.specs.declared.step.Command.TheVariants as commands
use Rattle.qc_msg.specs.declared.message.Message.TheVariants as messages
use Rattle.qc_msg.specs.declared.message.Outcome.TheVariants as outcomes
use Rattle.qc_msg.specs.declared.record.Record.TheVariants as records
use Rattle.qc_msg.specs.declared.reply.Reply.TheVariants as replies
use Rattle.qc_msg.specs.declared.message.Want.TheVariants as wants
use Rattle.qc_msg.specs.declared.step.Fall.TheVariants as falls
use Rattle.qc_msg.specs.Vocabulary.{whole_grant, first_read}
use Rattle.qc_outside.specs.declared.disk.ArmKind.TheVariants as arms

abbrev pub moves : List Move
moves =
    Begins ∷ Acts ∷ Takes 3 ∷ Posts 3 Done ∷ Takes 3 ∷ Posts 3 Done ∷ Takes 0 ∷ Posts 0 Done ∷ Takes 1 ∷ Posts 1 Done ∷
    Takes 3 ∷ Posts 3 Done ∷ Takes 3 ∷ Posts 3 Done ∷ Takes 3 ∷ Posts 3 Done ∷ Takes 0 ∷ Posts 0 Done ∷ Takes 1 ∷
    Posts 1 Done ∷ Takes 3 ∷ Posts 3 Done ∷ Takes 3 ∷ Posts 3 Stopped ∷ Begins ∷ Rises false Done ∷ Takes 4 ∷
    Posts 4 Done ∷ Takes 4 ∷ Posts 4 Done ∷ Takes 1 ∷ Posts 1 Done ∷ Takes 2 ∷ Posts 2 Done ∷ Takes 4 ∷ Posts 4 Done ∷
    Takes 3 ∷ Posts 3 Done ∷ Takes 4 ∷ Posts 4 Done ∷ Takes 1 ∷ Posts 1 Done ∷ Begins ∷ Takes 4 ∷ Posts 4 Done ∷
    Takes 1 ∷ Posts 1 Done ∷ Takes 2 ∷ Posts 2 Done ∷ Takes 4 ∷ Posts 4 Done ∷ Takes 4 ∷ Posts 4 Done ∷ Takes 4 ∷
    Posts 4 Done ∷ Takes 1 ∷ Posts 1 Done ∷ Takes 2 ∷ Posts 2 Done ∷ Takes 4 ∷ Posts 4 Done ∷ Takes 4 ∷ Posts 4 Done ∷
    Takes 1 ∷ Posts 1 Done ∷ Takes 2 ∷ Posts 2 Done ∷ []

abbrev pub history : List Entry
history =
    marked 7 (Phase 1) ∷ marked 7 (Armed 3 arms.Stop 3) ∷ marked 3 (Called commands.Begin) ∷
    marked 3 (Told (replies.Began (tx 0 1))) ∷ marked 3 (Called (commands.Do 0 2)) ∷
    marked 3 (Sent 0 0 (messages.Request (tx 0 1) 1 0 (wants.Append 0 [] (own_line 1 0 3 ∷ [])))) ∷
    marked 3 (Sent 1 1 (messages.Request (tx 0 1) 1 0 (wants.Append 0 [] (own_line 1 0 3 ∷ [])))) ∷ marked 0 (Got 0) ∷
    marked 0 (Sent 2 3 (messages.Answer 0 (answers.Granted (whole_grant 1 0 [])))) ∷ marked 1 (Got 1) ∷
    marked 1 (Sent 3 3 (messages.Answer 1 (answers.Granted (whole_grant 1 0 [])))) ∷ marked 3 (Got 2) ∷ marked 3 (Got 3)
    ∷
    marked 3 (Told (replies.Response 2)) ∷ marked 3 (Called commands.Commit) ∷
    marked 3 (Sent 4 0 (messages.Request (tx 0 1) 1 1 wants.Prepare)) ∷
    marked 3 (Sent 5 1 (messages.Request (tx 0 1) 1 1 wants.Prepare)) ∷ marked 0 (Got 4) ∷
    marked 0 (Wrote (prepare (tx 0 1) 1 [] (own_line 1 0 3 ∷ []) [])) ∷
    marked 0 (Sent 6 3 (messages.Answer 4 (answers.Yes 0))) ∷ marked 1 (Got 5) ∷
    marked 1 (Wrote (prepare (tx 0 1) 1 [] (own_line 1 0 3 ∷ []) [])) ∷
    marked 1 (Sent 7 3 (messages.Answer 5 (answers.Yes 0))) ∷ marked 3 (Got 6) ∷ marked 3 (Got 7) ∷
    marked 3 (Told replies.Unknown) ∷
    marked 3 (Fell falls.Stop (Some (commit (stamp 1 0) (tx 0 1) (operation 0 2 (Some 2) ∷ [])))) ∷ marked 7 (Phase 2) ∷
    marked 3 (Rose []) ∷ marked 3 (Wrote records.Life) ∷ marked 4 (Called commands.Begin) ∷
    marked 4 (Told (replies.Began (tx 1 1))) ∷ marked 4 (Called (commands.Do 0 0)) ∷
    marked 4 (Sent 8 1 (messages.Request (tx 1 1) 1 0 (wants.Read (first_read 0 0)))) ∷
    marked 4 (Sent 9 2 (messages.Request (tx 1 1) 1 0 (wants.Read (first_read 0 0)))) ∷ marked 1 (Got 8) ∷
    marked 1 (Sent 10 4 (messages.Answer 8 (answers.Clash (tx 0 1) 0 3))) ∷
    marked 1 (Sent 11 3 (messages.Inquiry (tx 0 1))) ∷ marked 2 (Got 9) ∷
    marked 2 (Sent 12 4 (messages.Answer 9 (answers.Granted (whole_grant 1 0 [])))) ∷ marked 4 (Got 10)
    ∷ marked 3 (Got 11) ∷
    marked 3 (Sent 13 1 (messages.Decision (tx 0 1) outcomes.Aborted)) ∷ marked 4 (Got 12) ∷
    marked 4 (Told (replies.Conflict (tx 0 1) 1)) ∷ marked 1 (Got 13) ∷ marked 7 (Phase 3) ∷
    marked 4 (Called (commands.Do 0 0))
    ∷ marked 4 (Sent 14 1 (messages.Request (tx 1 1) 1 0 (wants.Read (first_read 0 0)))) ∷
    marked 4 (Sent 15 2 (messages.Request (tx 1 1) 1 1 (wants.Read (first_read 0 0)))) ∷ marked 1 (Got 14) ∷
    marked 1 (Sent 16 4 (messages.Answer 14 (answers.Granted (whole_grant 1 0 [])))) ∷ marked 2 (Got 15) ∷
    marked 2 (Sent 17 4 (messages.Answer 15 (answers.Granted (whole_grant 1 0 [])))) ∷ marked 4 (Got 16)
    ∷ marked 4 (Got 17) ∷
    marked 4 (Told (replies.Response 0)) ∷ marked 4 (Called commands.Commit) ∷
    marked 4 (Sent 18 1 (messages.Request (tx 1 1) 1 1 wants.Prepare)) ∷
    marked 4 (Sent 19 2 (messages.Request (tx 1 1) 1 1 wants.Prepare)) ∷ marked 1 (Got 18) ∷
    marked 1 (Wrote (prepare (tx 1 1) 1 (read_lock 0 0 ∷ []) [] [])) ∷
    marked 1 (Sent 20 4 (messages.Answer 18 (answers.Yes 0))) ∷ marked 2 (Got 19) ∷
    marked 2 (Wrote (prepare (tx 1 1) 1 (read_lock 0 0 ∷ []) [] [])) ∷
    marked 2 (Sent 21 4 (messages.Answer 19 (answers.Yes 0))) ∷ marked 4 (Got 20) ∷ marked 4 (Got 21) ∷
    marked 4 (Wrote (commit (stamp 1 1) (tx 1 1) (operation 0 0 (Some 0) ∷ []))) ∷
    marked 4 (Sent 22 1 (messages.Decision (tx 1 1) (outcomes.Committed (stamp 1 1)))) ∷
    marked 4 (Sent 23 2 (messages.Decision (tx 1 1) (outcomes.Committed (stamp 1 1)))) ∷
    marked 4 (Told (replies.Committed (stamp 1 1))) ∷ marked 1 (Got 22) ∷ marked 1 (Wrote (records.Done (tx 1 1) 1)) ∷
    marked 2 (Got 23) ∷ marked 2 (Wrote (records.Done (tx 1 1) 1)) ∷ []
