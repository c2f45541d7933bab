-- A write that conflicts with another's read dooms its transaction.
use Rattle.std.specs.Prelude.{List, [], ◌∷◌, Some}
use Rattle.qc_msg.specs.Vocabulary.{Entry, marked}
use Rattle.tests_histories.specs.Play.{Move, Takes, Posts, Acts}
use Rattle.tests_histories.specs.Words.{tx, stamp, own_line, operation, read_lock, prepare, commit}
use Rattle.qc_msg.specs.declared.step.Step.TheVariants.{Phase, Called, Got, Wrote, Sent, Told}
use Rattle.qc_msg.specs.declared.message.Answer.TheVariants as answers
use Rattle.qc_msg.specs.declared.reply.AbortCause.TheVariants as causes
use Rattle.qc_msg.specs.declared.step.Command.TheVariants as commands
use Rattle.qc_msg.specs.declared.message.Message.TheVariants as messages
use Rattle.qc_msg.specs.declared.message.Outcome.TheVariants as outcomes
use Rattle.qc_msg.specs.declared.record.Record.TheVariants as records
use Rattle.qc_msg.specs.declared.reply.Reply.TheVariants as replies
use Rattle.qc_msg.specs.declared.message.Want.TheVariants as wants
use Rattle.qc_msg.specs.Vocabulary.{whole_grant, first_read}

abbrev pub moves : List Move
moves =
    Acts (Phase 1) ∷ Takes 3 (Called commands.Begin) ∷ Posts 3 ∷ Takes 3 (Called (commands.Do 0 0)) ∷ Posts 3 ∷
    Takes 0 (Got 0) ∷ Posts 0 ∷ Takes 1 (Got 1) ∷ Posts 1 ∷ Takes 3 (Got 2) ∷ Posts 3 ∷ Takes 3 (Got 3) ∷ Posts 3 ∷
    Acts (Phase 2) ∷ Takes 4 (Called commands.Begin) ∷ Posts 4 ∷ Takes 4 (Called (commands.Do 0 2)) ∷ Posts 4 ∷
    Takes 1 (Got 4) ∷ Posts 1 ∷ Takes 2 (Got 5) ∷ Posts 2 ∷ Takes 4 (Got 6) ∷ Posts 4 ∷ Takes 3 (Got 7) ∷ Posts 3 ∷
    Takes 4 (Got 8) ∷ Posts 4 ∷ Takes 1 (Got 9) ∷ Posts 1 ∷ Takes 4 (Called commands.Commit) ∷ Posts 4 ∷
    Takes 1 (Got 10) ∷ Posts 1 ∷ Takes 2 (Got 11) ∷ Posts 2 ∷ Acts (Phase 3) ∷ Takes 3 (Called commands.Commit) ∷
    Posts 3 ∷ Takes 0 (Got 12) ∷ Posts 0 ∷ Takes 1 (Got 13) ∷ Posts 1 ∷ Takes 3 (Got 14) ∷ Posts 3 ∷ Takes 3 (Got 15) ∷
    Posts 3 ∷ Takes 0 (Got 16) ∷ Posts 0 ∷ Takes 1 (Got 17) ∷ Posts 1 ∷ []

abbrev pub history : List Entry
history =
    marked 7 (Phase 1) ∷ marked 3 (Called commands.Begin) ∷ marked 3 (Told (replies.Began (tx 0 1))) ∷
    marked 3 (Called (commands.Do 0 0)) ∷
    marked 3 (Sent 0 0 (messages.Request (tx 0 1) 1 0 (wants.Read (first_read 0 0))))
    ∷
    marked 3 (Sent 1 1 (messages.Request (tx 0 1) 1 0 (wants.Read (first_read 0 0)))) ∷ marked 0 (Got 0) ∷
    marked 0 (Sent 2 3 (messages.Answer 0 (answers.Granted (whole_grant 1 0 [])))) ∷ marked 1 (Got 1) ∷
    marked 1 (Sent 3 3 (messages.Answer 1 (answers.Granted (whole_grant 1 0 [])))) ∷ marked 3 (Got 2) ∷ marked 3 (Got 3)
    ∷
    marked 3 (Told (replies.Response 0)) ∷ marked 7 (Phase 2) ∷ marked 4 (Called commands.Begin) ∷
    marked 4 (Told (replies.Began (tx 1 1))) ∷ marked 4 (Called (commands.Do 0 2)) ∷
    marked 4 (Sent 4 1 (messages.Request (tx 1 1) 1 0 (wants.Append 0 [] (own_line 1 0 3 ∷ [])))) ∷
    marked 4 (Sent 5 2 (messages.Request (tx 1 1) 1 0 (wants.Append 0 [] (own_line 1 0 3 ∷ [])))) ∷ marked 1 (Got 4) ∷
    marked 1 (Sent 6 4 (messages.Answer 4 (answers.Clash (tx 0 1) 0 3))) ∷
    marked 1 (Sent 7 3 (messages.Inquiry (tx 0 1))) ∷ marked 2 (Got 5) ∷
    marked 2 (Sent 8 4 (messages.Answer 5 (answers.Granted (whole_grant 1 0 [])))) ∷ marked 4 (Got 6) ∷ marked 3 (Got 7)
    ∷
    marked 3 (Sent 9 1 (messages.Decision (tx 0 1) outcomes.Active)) ∷ marked 4 (Got 8) ∷
    marked 4 (Told (replies.Conflict (tx 0 1) 1)) ∷ marked 1 (Got 9) ∷ marked 4 (Called commands.Commit) ∷
    marked 4 (Sent 10 1 (messages.Decision (tx 1 1) outcomes.Aborted)) ∷
    marked 4 (Sent 11 2 (messages.Decision (tx 1 1) outcomes.Aborted)) ∷
    marked 4 (Told (replies.Aborted causes.Doomed)) ∷ marked 1 (Got 10) ∷ marked 2 (Got 11) ∷ marked 7 (Phase 3) ∷
    marked 3 (Called commands.Commit) ∷ marked 3 (Sent 12 0 (messages.Request (tx 0 1) 1 1 wants.Prepare)) ∷
    marked 3 (Sent 13 1 (messages.Request (tx 0 1) 1 1 wants.Prepare)) ∷ marked 0 (Got 12) ∷
    marked 0 (Wrote (prepare (tx 0 1) 1 (read_lock 0 0 ∷ []) [] [])) ∷
    marked 0 (Sent 14 3 (messages.Answer 12 (answers.Yes 0))) ∷ marked 1 (Got 13) ∷
    marked 1 (Wrote (prepare (tx 0 1) 1 (read_lock 0 0 ∷ []) [] [])) ∷
    marked 1 (Sent 15 3 (messages.Answer 13 (answers.Yes 0))) ∷ marked 3 (Got 14) ∷ marked 3 (Got 15) ∷
    marked 3 (Wrote (commit (stamp 1 0) (tx 0 1) (operation 0 0 (Some 0) ∷ []))) ∷
    marked 3 (Sent 16 0 (messages.Decision (tx 0 1) (outcomes.Committed (stamp 1 0)))) ∷
    marked 3 (Sent 17 1 (messages.Decision (tx 0 1) (outcomes.Committed (stamp 1 0)))) ∷
    marked 3 (Told (replies.Committed (stamp 1 0))) ∷ marked 0 (Got 16) ∷ marked 0 (Wrote (records.Done (tx 0 1) 1)) ∷
    marked 1 (Got 17) ∷ marked 1 (Wrote (records.Done (tx 0 1) 1)) ∷ []
