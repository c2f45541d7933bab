-- Random: sites 1, clients 4, steps 73, messages 16, commits 1, aborts 1, absent 2, falls 5, rises 2, unwritten records
-- 2.
use Rattle.std.specs.Prelude.{List, [], ◌∷◌, Some, None, false}
use Rattle.qc_decl.specs.declared.declaration.Declaration.{Declaration}
use Rattle.qc_decl.specs.Vocabulary.{row}
use Rattle.qc_msg.specs.Vocabulary.{Entry, marked}
use Rattle.tests_histories.specs.Words.{tx, stamp, own_line, read_lock, prepare, commit, declaration, kind, pair, plan}
use Rattle.qc_msg.specs.declared.step.Step.TheVariants.{Phase, Called, Got, Wrote, Sent, Told, Fell, Rose}
use Rattle.qc_msg.specs.declared.turn.Appended.TheVariants.{Done, Failed, Stopped}
use Rattle.tests_falls.specs.Perform.{Move, Begins, Acts, Takes, Posts, Rises}
use Rattle.qc_msg.specs.declared.message.Answer.TheVariants as answers
use Rattle.qc_msg.specs.declared.reply.AbortCause.TheVariants as causes
use Rattle.qc_msg.specs.declared.step.Command.TheVariants as commands
use Rattle.qc_msg.specs.declared.message.Message.TheVariants as messages
use Rattle.qc_msg.specs.declared.message.Outcome.TheVariants as outcomes
use Rattle.qc_msg.specs.declared.record.Record.TheVariants as records
use Rattle.qc_msg.specs.declared.reply.Reply.TheVariants as replies
use Rattle.qc_msg.specs.declared.message.Want.TheVariants as wants
use Rattle.qc_msg.specs.declared.step.Fall.TheVariants as falls
use Rattle.qc_msg.specs.Vocabulary.{whole_grant, first_read}

abbrev pub decl : Declaration
decl =
    declaration 1 4 (kind 2 1 1 0 (row 0 0 0 1 ∷ []) (pair 0 0 ∷ []) ∷ kind 2 3 3 0 (row 0 0 0 0 ∷ row 1 0 1 1 ∷ row 0 1
    2 0 ∷ row 1 1 2 0 ∷ row 0 2 2 1 ∷ row 1 2 2 1 ∷ []) (pair 0 1 ∷ pair 0 2 ∷ pair 0 3 ∷ pair 2 2 ∷ []) ∷ []) (0 ∷ 0 ∷
    []) (plan (1 ∷ []) ((1 ∷ []) ∷ (1 ∷ []) ∷ []) ((1 ∷ []) ∷ (1 ∷ []) ∷ []) ∷ plan (1 ∷ []) ((1 ∷ []) ∷ (1 ∷ []) ∷ [])
    ((1 ∷ []) ∷ (1 ∷ []) ∷ []) ∷ [])

abbrev pub moves : List Move
moves =
    Begins ∷ Takes 1 ∷ Takes 4 ∷ Posts 4 Done ∷ Takes 4 ∷ Posts 1 Done ∷ Takes 1 ∷ Posts 1 Done ∷ Posts 4 Done ∷
    Takes 0 ∷ Posts 0 Done ∷ Takes 1 ∷ Posts 1 Done ∷ Takes 0 ∷ Posts 0 Done ∷ Takes 1 ∷ Posts 1 Done ∷ Takes 1 ∷
    Posts 1 Done ∷ Takes 0 ∷ Posts 0 Done ∷ Takes 1 ∷ Posts 1 Done ∷ Takes 1 ∷ Posts 1 Done ∷ Takes 0 ∷ Posts 0 Done ∷
    Takes 1 ∷ Posts 1 Done ∷ Takes 1 ∷ Posts 1 Done ∷ Takes 0 ∷ Posts 0 Done ∷ Takes 1 ∷ Posts 1 Done ∷ Takes 1 ∷
    Posts 1 Done ∷ Begins ∷ Acts ∷ Acts ∷ Acts ∷ Begins ∷ Rises false Done ∷ Rises false Stopped ∷ Takes 2 ∷ Takes 1 ∷
    Posts 2 Done ∷ Takes 2 ∷ Posts 1 Done ∷ Takes 1 ∷ Posts 1 Done ∷ Takes 0 ∷ Posts 2 Done ∷ Takes 2 ∷ Posts 2 Done ∷
    Posts 0 Done ∷ Takes 1 ∷ Posts 1 Done ∷ Takes 0 ∷ Posts 0 Done ∷ Takes 1 ∷ Posts 1 Done ∷ Takes 1 ∷ Posts 1 Done ∷
    Takes 0 ∷ Posts 0 Failed ∷ Takes 1 ∷ Posts 1 Done ∷ []

abbrev pub history : List Entry
history =
    marked 6 (Phase 1) ∷ marked 1 (Called commands.Begin) ∷ marked 4 (Called commands.Begin) ∷
    marked 4 (Told (replies.Began (tx 3 1))) ∷ marked 4 (Called commands.Abort) ∷
    marked 1 (Told (replies.Began (tx 0 1))) ∷ marked 1 (Called (commands.Do 1 0)) ∷
    marked 1 (Sent 0 0 (messages.Request (tx 0 1) 1 0 (wants.Read (first_read 1 0)))) ∷
    marked 4 (Told replies.Dropped) ∷
    marked 0 (Got 0) ∷ marked 0 (Sent 1 1 (messages.Answer 0 (answers.Granted (whole_grant 1 0 [])))) ∷ marked 1 (Got 1)
    ∷
    marked 1 (Sent 2 0 (messages.Request (tx 0 1) 1 1 (wants.Append 1 [] (own_line 1 1 0 ∷ [])))) ∷ marked 0 (Got 2) ∷
    marked 0 (Sent 3 1 (messages.Answer 2 (answers.Granted (whole_grant 1 0 [])))) ∷ marked 1 (Got 3) ∷
    marked 1 (Told (replies.Response 0)) ∷ marked 1 (Called (commands.Do 1 0)) ∷
    marked 1 (Sent 4 0 (messages.Request (tx 0 1) 1 1 (wants.Read (first_read 1 0)))) ∷ marked 0 (Got 4) ∷
    marked 0 (Sent 5 1 (messages.Answer 4 (answers.Granted (whole_grant 1 0 [])))) ∷ marked 1 (Got 5) ∷
    marked 1 (Told replies.Absent) ∷ marked 1 (Called (commands.Do 1 0)) ∷
    marked 1 (Sent 6 0 (messages.Request (tx 0 1) 1 1 (wants.Read (first_read 1 0)))) ∷ marked 0 (Got 6) ∷
    marked 0 (Sent 7 1 (messages.Answer 6 (answers.Granted (whole_grant 1 0 [])))) ∷ marked 1 (Got 7) ∷
    marked 1 (Told replies.Absent) ∷ marked 1 (Called commands.Abort) ∷
    marked 1 (Sent 8 0 (messages.Decision (tx 0 1) outcomes.Aborted)) ∷ marked 1 (Told replies.Dropped) ∷
    marked 0 (Got 8) ∷ marked 1 (Called commands.Begin) ∷ marked 1 (Told (replies.Began (tx 0 2))) ∷
    marked 1 (Called commands.Commit) ∷ marked 1 (Wrote (commit (stamp 1 0) (tx 0 2) [])) ∷
    marked 1 (Told (replies.Committed (stamp 1 0))) ∷ marked 6 (Phase 2) ∷ marked 4 (Fell falls.Script None) ∷
    marked 0 (Fell falls.Script None) ∷ marked 2 (Fell falls.Script None) ∷ marked 6 (Phase 3) ∷ marked 0 (Rose []) ∷
    marked 0 (Wrote records.Life) ∷ marked 2 (Rose []) ∷ marked 2 (Fell falls.Stop (Some records.Life)) ∷
    marked 2 (Called commands.Begin) ∷ marked 1 (Called commands.Begin) ∷ marked 2 (Told replies.Down) ∷
    marked 2 (Called (commands.Do 1 0)) ∷ marked 1 (Told (replies.Began (tx 0 3))) ∷
    marked 1 (Called (commands.Do 1 0)) ∷
    marked 1 (Sent 9 0 (messages.Request (tx 0 3) 1 0 (wants.Read (first_read 1 0))))
    ∷
    marked 0 (Got 9) ∷ marked 2 (Told replies.Down) ∷ marked 2 (Called (commands.Do 0 0)) ∷
    marked 2 (Told replies.Down) ∷ marked 0 (Sent 10 1 (messages.Answer 9 (answers.Granted (whole_grant 2 0 [])))) ∷
    marked 1 (Got 10) ∷ marked 1 (Sent 11 0 (messages.Request (tx 0 3) 1 2 (wants.Append 1 [] (own_line 1 1 0 ∷ [])))) ∷
    marked 0 (Got 11) ∷ marked 0 (Sent 12 1 (messages.Answer 11 (answers.Granted (whole_grant 2 0 []))))
    ∷ marked 1 (Got 12) ∷
    marked 1 (Told (replies.Response 0)) ∷ marked 1 (Called commands.Commit) ∷
    marked 1 (Sent 13 0 (messages.Request (tx 0 3) 1 2 wants.Prepare)) ∷ marked 0 (Got 13) ∷
    marked 0 (Sent 14 1 (messages.Answer 13 answers.Fault)) ∷
    marked 0 (Fell falls.Disk (Some (prepare (tx 0 3) 1 (read_lock 1 0 ∷ []) (own_line 1 1 0 ∷ []) []))) ∷
    marked 1 (Got 14) ∷ marked 1 (Sent 15 0 (messages.Decision (tx 0 3) outcomes.Aborted)) ∷
    marked 1 (Told (replies.Aborted (causes.Fault 0))) ∷ []
