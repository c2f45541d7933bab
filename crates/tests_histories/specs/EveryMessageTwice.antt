-- Each message comes twice.
use Rattle.std.specs.Prelude.{List, [], ◌∷◌, Some}
use Rattle.qc_msg.specs.Vocabulary.{Entry, marked}
use Rattle.tests_histories.specs.Play.{Move, Takes, Posts, Acts}
use Rattle.tests_histories.specs.Words.{tx, stamp, own_line, operation, read_lock, prepare, commit}
use Rattle.qc_msg.specs.declared.step.Step.TheVariants.{Phase, Called, Got, Wrote, Sent, Told}
use Rattle.qc_msg.specs.declared.message.Answer.TheVariants as answers
use Rattle.qc_msg.specs.declared.step.Command.TheVariants as commands
use Rattle.qc_msg.specs.declared.message.Message.TheVariants as messages
use Rattle.qc_msg.specs.declared.message.Outcome.TheVariants as outcomes
use Rattle.qc_msg.specs.declared.record.Record.TheVariants as records
use Rattle.qc_msg.specs.declared.reply.Reply.TheVariants as replies
use Rattle.qc_msg.specs.declared.message.Want.TheVariants as wants
use Rattle.qc_msg.specs.Vocabulary.{whole_grant, first_read}

abbrev pub moves : List Move
moves =
    Acts (Phase 1) ∷ Takes 3 (Called commands.Begin) ∷ Posts 3 ∷ Takes 3 (Called (commands.Do 0 2)) ∷ Posts 3 ∷
    Takes 0 (Got 0) ∷ Posts 0 ∷ Takes 0 (Got 0) ∷ Posts 0 ∷ Takes 1 (Got 1) ∷ Posts 1 ∷ Takes 1 (Got 1) ∷ Posts 1 ∷
    Takes 3 (Got 2) ∷ Posts 3 ∷ Takes 3 (Got 2) ∷ Posts 3 ∷ Takes 3 (Got 3) ∷ Posts 3 ∷ Takes 3 (Got 3) ∷ Posts 3 ∷
    Takes 3 (Got 4) ∷ Posts 3 ∷ Takes 3 (Got 4) ∷ Posts 3 ∷ Takes 3 (Got 5) ∷ Posts 3 ∷ Takes 3 (Got 5) ∷ Posts 3 ∷
    Takes 3 (Called (commands.Do 0 0)) ∷ Posts 3 ∷ Takes 0 (Got 6) ∷ Posts 0 ∷ Takes 0 (Got 6) ∷ Posts 0 ∷
    Takes 1 (Got 7) ∷ Posts 1 ∷ Takes 1 (Got 7) ∷ Posts 1 ∷ Takes 3 (Got 8) ∷ Posts 3 ∷ Takes 3 (Got 8) ∷ Posts 3 ∷
    Takes 3 (Got 9) ∷ Posts 3 ∷ Takes 3 (Got 9) ∷ Posts 3 ∷ Takes 3 (Got 10) ∷ Posts 3 ∷ Takes 3 (Got 10) ∷ Posts 3 ∷
    Takes 3 (Got 11) ∷ Posts 3 ∷ Takes 3 (Got 11) ∷ Posts 3 ∷ Takes 3 (Called commands.Commit) ∷ Posts 3 ∷
    Takes 0 (Got 12) ∷ Posts 0 ∷ Takes 0 (Got 12) ∷ Posts 0 ∷ Takes 1 (Got 13) ∷ Posts 1 ∷ Takes 1 (Got 13) ∷ Posts 1 ∷
    Takes 3 (Got 14) ∷ Posts 3 ∷ Takes 3 (Got 14) ∷ Posts 3 ∷ Takes 3 (Got 15) ∷ Posts 3 ∷ Takes 3 (Got 15) ∷ Posts 3 ∷
    Takes 3 (Got 16) ∷ Posts 3 ∷ Takes 3 (Got 16) ∷ Posts 3 ∷ Takes 3 (Got 17) ∷ Posts 3 ∷ Takes 3 (Got 17) ∷ Posts 3 ∷
    Takes 0 (Got 18) ∷ Posts 0 ∷ Takes 0 (Got 18) ∷ Posts 0 ∷ Takes 1 (Got 19) ∷ Posts 1 ∷ Takes 1 (Got 19) ∷ Posts 1 ∷
    []

abbrev pub history : List Entry
history =
    marked 7 (Phase 1) ∷ marked 3 (Called commands.Begin) ∷ marked 3 (Told (replies.Began (tx 0 1))) ∷
    marked 3 (Called (commands.Do 0 2)) ∷
    marked 3 (Sent 0 0 (messages.Request (tx 0 1) 1 0 (wants.Append 0 [] (own_line 1 0 3 ∷ [])))) ∷
    marked 3 (Sent 1 1 (messages.Request (tx 0 1) 1 0 (wants.Append 0 [] (own_line 1 0 3 ∷ [])))) ∷ marked 0 (Got 0) ∷
    marked 0 (Sent 2 3 (messages.Answer 0 (answers.Granted (whole_grant 1 0 [])))) ∷ marked 0 (Got 0) ∷
    marked 0 (Sent 3 3 (messages.Answer 0 (answers.Granted (whole_grant 1 0 [])))) ∷ marked 1 (Got 1) ∷
    marked 1 (Sent 4 3 (messages.Answer 1 (answers.Granted (whole_grant 1 0 [])))) ∷ marked 1 (Got 1) ∷
    marked 1 (Sent 5 3 (messages.Answer 1 (answers.Granted (whole_grant 1 0 [])))) ∷ marked 3 (Got 2) ∷ marked 3 (Got 2)
    ∷
    marked 3 (Got 3) ∷ marked 3 (Got 3) ∷ marked 3 (Got 4) ∷ marked 3 (Told (replies.Response 2)) ∷ marked 3 (Got 4) ∷
    marked 3 (Got 5) ∷ marked 3 (Got 5) ∷ marked 3 (Called (commands.Do 0 0)) ∷
    marked 3 (Sent 6 0 (messages.Request (tx 0 1) 1 1 (wants.Read (first_read 0 0)))) ∷
    marked 3 (Sent 7 1 (messages.Request (tx 0 1) 1 1 (wants.Read (first_read 0 0)))) ∷ marked 0 (Got 6) ∷
    marked 0 (Sent 8 3 (messages.Answer 6 (answers.Granted (whole_grant 1 0 [])))) ∷ marked 0 (Got 6) ∷
    marked 0 (Sent 9 3 (messages.Answer 6 (answers.Granted (whole_grant 1 0 [])))) ∷ marked 1 (Got 7) ∷
    marked 1 (Sent 10 3 (messages.Answer 7 (answers.Granted (whole_grant 1 0 [])))) ∷ marked 1 (Got 7) ∷
    marked 1 (Sent 11 3 (messages.Answer 7 (answers.Granted (whole_grant 1 0 [])))) ∷ marked 3 (Got 8) ∷
    marked 3 (Got 8)
    ∷
    marked 3 (Got 9) ∷ marked 3 (Got 9) ∷ marked 3 (Got 10) ∷ marked 3 (Told (replies.Response 1)) ∷ marked 3 (Got 10) ∷
    marked 3 (Got 11) ∷ marked 3 (Got 11) ∷ marked 3 (Called commands.Commit) ∷
    marked 3 (Sent 12 0 (messages.Request (tx 0 1) 1 1 wants.Prepare)) ∷
    marked 3 (Sent 13 1 (messages.Request (tx 0 1) 1 1 wants.Prepare)) ∷ marked 0 (Got 12) ∷
    marked 0 (Wrote (prepare (tx 0 1) 1 (read_lock 0 0 ∷ []) (own_line 1 0 3 ∷ []) [])) ∷
    marked 0 (Sent 14 3 (messages.Answer 12 (answers.Yes 0))) ∷ marked 0 (Got 12) ∷
    marked 0 (Sent 15 3 (messages.Answer 12 (answers.Yes 0))) ∷ marked 1 (Got 13) ∷
    marked 1 (Wrote (prepare (tx 0 1) 1 (read_lock 0 0 ∷ []) (own_line 1 0 3 ∷ []) [])) ∷
    marked 1 (Sent 16 3 (messages.Answer 13 (answers.Yes 0))) ∷ marked 1 (Got 13) ∷
    marked 1 (Sent 17 3 (messages.Answer 13 (answers.Yes 0))) ∷ marked 3 (Got 14) ∷ marked 3 (Got 14) ∷
    marked 3 (Got 15) ∷ marked 3 (Got 15) ∷ marked 3 (Got 16) ∷
    marked 3 (Wrote (commit (stamp 1 0) (tx 0 1) (operation 0 2 (Some 2) ∷ operation 0 0 (Some 1) ∷ []))) ∷
    marked 3 (Sent 18 0 (messages.Decision (tx 0 1) (outcomes.Committed (stamp 1 0)))) ∷
    marked 3 (Sent 19 1 (messages.Decision (tx 0 1) (outcomes.Committed (stamp 1 0)))) ∷
    marked 3 (Told (replies.Committed (stamp 1 0))) ∷ marked 3 (Got 16) ∷ marked 3 (Got 17) ∷ marked 3 (Got 17) ∷
    marked 0 (Got 18) ∷ marked 0 (Wrote (records.Done (tx 0 1) 1)) ∷ marked 0 (Got 18) ∷ marked 1 (Got 19) ∷
    marked 1 (Wrote (records.Done (tx 0 1) 1)) ∷ marked 1 (Got 19) ∷ []
