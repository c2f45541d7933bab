-- A site that promised falls and rises: it asks how that stands, and holds what it promised.
use Rattle.std.specs.Prelude.{List, [], ◌∷◌, Some, None, false}
use Rattle.qc_msg.specs.Vocabulary.{Entry, marked}
use Rattle.tests_histories.specs.Words.{tx, stamp, own_line, operation, prepare, commit}
use Rattle.qc_msg.specs.declared.step.Step.TheVariants.{Phase, Called, Got, Wrote, Sent, Told, Armed, Fell, Rose}
use Rattle.qc_msg.specs.declared.turn.Appended.TheVariants.{Done, Stopped}
use Rattle.tests_falls.specs.Perform.{Move, Begins, Acts, Takes, Posts, Rises}
use Rattle.qc_msg.specs.declared.message.Answer.TheVariants as answers
use Rattle.qc_msg.specs.declared.step.Command.TheVariants as commands
use Rattle.qc_msg.specs.declared.message.Message.TheVariants as messages
use Rattle.qc_msg.specs.declared.record.Record.TheVariants as records
use Rattle.qc_msg.specs.declared.reply.Reply.TheVariants as replies
use Rattle.qc_msg.specs.declared.message.Want.TheVariants as wants
use Rattle.qc_msg.specs.declared.step.Fall.TheVariants as falls
use Rattle.qc_msg.specs.Vocabulary.{whole_grant, first_read}
use Rattle.qc_outside.specs.declared.disk.ArmKind.TheVariants as arms

abbrev pub moves : List Move
moves =
    Begins ∷ Acts ∷ Takes 3 ∷ Posts 3 Done ∷ Takes 3 ∷ Posts 3 Done ∷ Takes 0 ∷ Posts 0 Done ∷ Takes 1 ∷ Posts 1 Done ∷
    Takes 3 ∷ Posts 3 Done ∷ Takes 3 ∷ Posts 3 Done ∷ Takes 3 ∷ Posts 3 Done ∷ Takes 0 ∷ Posts 0 Done ∷ Takes 1 ∷
    Posts 1 Done ∷ Takes 3 ∷ Posts 3 Done ∷ Takes 3 ∷ Posts 3 Stopped ∷ Begins ∷ Acts ∷ Rises false Done ∷ Takes 5 ∷
    Posts 5 Done ∷ Takes 5 ∷ Posts 5 Done ∷ Takes 2 ∷ Posts 2 Done ∷ Takes 0 ∷ Posts 0 Done ∷ Takes 5 ∷ Posts 5 Done ∷
    Takes 5 ∷ Posts 5 Done ∷ []

abbrev pub history : List Entry
history =
    marked 7 (Phase 1) ∷ marked 7 (Armed 3 arms.Stop 3) ∷ marked 3 (Called commands.Begin) ∷
    marked 3 (Told (replies.Began (tx 0 1))) ∷ marked 3 (Called (commands.Do 0 2)) ∷
    marked 3 (Sent 0 0 (messages.Request (tx 0 1) 1 0 (wants.Append 0 [] (own_line 1 0 3 ∷ [])))) ∷
    marked 3 (Sent 1 1 (messages.Request (tx 0 1) 1 0 (wants.Append 0 [] (own_line 1 0 3 ∷ [])))) ∷ marked 0 (Got 0) ∷
    marked 0 (Sent 2 3 (messages.Answer 0 (answers.Granted (whole_grant 1 0 [])))) ∷ marked 1 (Got 1) ∷
    marked 1 (Sent 3 3 (messages.Answer 1 (answers.Granted (whole_grant 1 0 [])))) ∷ marked 3 (Got 2) ∷ marked 3 (Got 3)
    ∷
    marked 3 (Told (replies.Response 2)) ∷ marked 3 (Called commands.Commit) ∷
    marked 3 (Sent 4 0 (messages.Request (tx 0 1) 1 1 wants.Prepare)) ∷
    marked 3 (Sent 5 1 (messages.Request (tx 0 1) 1 1 wants.Prepare)) ∷ marked 0 (Got 4) ∷
    marked 0 (Wrote (prepare (tx 0 1) 1 [] (own_line 1 0 3 ∷ []) [])) ∷
    marked 0 (Sent 6 3 (messages.Answer 4 (answers.Yes 0))) ∷ marked 1 (Got 5) ∷
    marked 1 (Wrote (prepare (tx 0 1) 1 [] (own_line 1 0 3 ∷ []) [])) ∷
    marked 1 (Sent 7 3 (messages.Answer 5 (answers.Yes 0))) ∷ marked 3 (Got 6) ∷ marked 3 (Got 7) ∷
    marked 3 (Told replies.Unknown) ∷
    marked 3 (Fell falls.Stop (Some (commit (stamp 1 0) (tx 0 1) (operation 0 2 (Some 2) ∷ [])))) ∷ marked 7 (Phase 2) ∷
    marked 0 (Fell falls.Script None) ∷ marked 0 (Rose ((prepare (tx 0 1) 1 [] (own_line 1 0 3 ∷ []) []) ∷ [])) ∷
    marked 0 (Wrote records.Life) ∷ marked 0 (Sent 8 3 (messages.Inquiry (tx 0 1))) ∷ marked 5 (Called commands.Begin) ∷
    marked 5 (Told (replies.Began (tx 2 1))) ∷ marked 5 (Called (commands.Do 0 0)) ∷
    marked 5 (Sent 9 2 (messages.Request (tx 2 1) 1 0 (wants.Read (first_read 0 0)))) ∷
    marked 5 (Sent 10 0 (messages.Request (tx 2 1) 1 0 (wants.Read (first_read 0 0)))) ∷ marked 2 (Got 9) ∷
    marked 2 (Sent 11 5 (messages.Answer 9 (answers.Granted (whole_grant 1 0 [])))) ∷ marked 0 (Got 10) ∷
    marked 0 (Sent 12 5 (messages.Answer 10 (answers.Clash (tx 0 1) 0 3))) ∷
    marked 0 (Sent 13 3 (messages.Inquiry (tx 0 1))) ∷ marked 5 (Got 11) ∷ marked 5 (Got 12) ∷
    marked 5 (Told (replies.Conflict (tx 0 1) 0)) ∷ []
