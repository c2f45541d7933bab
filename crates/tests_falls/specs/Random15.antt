-- Random: sites 3, clients 2, steps 80, messages 20, lost 3, cuts 1, commits 1, aborts 2, short rounds 3, absent 1,
-- falls 2, rises 1, unwritten records 1.
use Rattle.std.specs.Prelude.{List, [], ◌∷◌, Some, None, false}
use Rattle.qc_decl.specs.declared.declaration.Declaration.{Declaration}
use Rattle.qc_decl.specs.Vocabulary.{row}
use Rattle.qc_msg.specs.Vocabulary.{Entry, marked}
use Rattle.tests_histories.specs.Words.{tx, stamp, own_line, read_lock, prepare, commit, declaration, kind, pair, plan}
use Rattle.qc_msg.specs.declared.step.Step.TheVariants.{Phase, Cut, Called, Got, Lost, Wrote, Sent, Told, Armed, Fell}
use Rattle.qc_msg.specs.declared.step.Step.TheVariants.{Rose}
use Rattle.qc_msg.specs.declared.turn.Appended.TheVariants.{Done, Stopped}
use Rattle.tests_falls.specs.Perform.{Move, Begins, Acts, Takes, Posts, Rises}
use Rattle.qc_msg.specs.declared.message.Answer.TheVariants as answers
use Rattle.qc_msg.specs.declared.reply.AbortCause.TheVariants as causes
use Rattle.qc_msg.specs.declared.step.Command.TheVariants as commands
use Rattle.qc_msg.specs.declared.reply.Half.TheVariants as halves
use Rattle.qc_msg.specs.declared.message.Message.TheVariants as messages
use Rattle.qc_msg.specs.declared.message.Outcome.TheVariants as outcomes
use Rattle.qc_msg.specs.declared.record.Record.TheVariants as records
use Rattle.qc_msg.specs.declared.reply.Reply.TheVariants as replies
use Rattle.qc_msg.specs.declared.message.Want.TheVariants as wants
use Rattle.qc_msg.specs.declared.step.Fall.TheVariants as falls
use Rattle.qc_msg.specs.Vocabulary.{whole_grant, first_read}
use Rattle.qc_outside.specs.declared.disk.ArmKind.TheVariants as arms

abbrev pub decl : Declaration
decl =
    declaration 3 2 (kind 3 3 3 0 (row 0 2 2 0 ∷ row 1 1 0 0 ∷ row 1 2 1 1 ∷ row 2 0 1 1 ∷ row 2 2 2 2 ∷ []) (pair 1 2 ∷
    pair 1 3 ∷ []) ∷ []) (0 ∷ 0 ∷ []) (plan (0 ∷ 1 ∷ 1 ∷ []) ((1 ∷ 2 ∷ 0 ∷ []) ∷ (0 ∷ 2 ∷ 0 ∷ []) ∷ []) ((2 ∷ 0 ∷ 1 ∷ 1
    ∷ []) ∷ (1 ∷ 0 ∷ 1 ∷ 1 ∷ []) ∷ []) ∷ [])

abbrev pub moves : List Move
moves =
    Begins ∷ Acts ∷ Rises false Stopped ∷ Takes 3 ∷ Takes 4 ∷ Posts 4 Done ∷ Takes 4 ∷ Posts 4 Done ∷ Takes 2 ∷
    Takes 1 ∷ Posts 3 Done ∷ Takes 3 ∷ Posts 3 Done ∷ Posts 2 Done ∷ Takes 2 ∷ Takes 4 ∷ Posts 4 Done ∷ Posts 1 Done ∷
    Takes 1 ∷ Posts 2 Done ∷ Takes 3 ∷ Posts 3 Done ∷ Takes 4 ∷ Posts 1 Done ∷ Takes 3 ∷ Posts 3 Done ∷ Takes 3 ∷
    Posts 3 Done ∷ Takes 2 ∷ Posts 2 Done ∷ Takes 3 ∷ Posts 3 Done ∷ Takes 1 ∷ Posts 1 Done ∷ Takes 2 ∷ Posts 4 Done ∷
    Takes 4 ∷ Posts 2 Done ∷ Posts 4 Done ∷ Takes 4 ∷ Posts 4 Done ∷ Takes 1 ∷ Posts 1 Done ∷ Takes 2 ∷ Posts 2 Done ∷
    Begins ∷ Acts ∷ Acts ∷ Takes 3 ∷ Posts 3 Done ∷ Takes 3 ∷ Posts 3 Done ∷ Takes 3 ∷ Posts 3 Done ∷ Takes 3 ∷
    Posts 3 Done ∷ Takes 3 ∷ Posts 3 Done ∷ Takes 1 ∷ Takes 2 ∷ Posts 2 Done ∷ Takes 3 ∷ Posts 3 Done ∷ Posts 1 Done ∷
    Takes 3 ∷ Posts 3 Done ∷ Takes 3 ∷ Posts 3 Done ∷ Takes 3 ∷ Posts 3 Done ∷ Takes 3 ∷ Posts 3 Done ∷ Takes 1 ∷
    Posts 1 Done ∷ Takes 2 ∷ Posts 2 Done ∷ []

abbrev pub history : List Entry
history =
    marked 6 (Phase 1) ∷ marked 0 (Fell falls.Script None) ∷ marked 0 (Rose []) ∷
    marked 0 (Fell falls.Stop (Some records.Life)) ∷ marked 3 (Called commands.Begin) ∷
    marked 4 (Called commands.Begin) ∷ marked 4 (Told (replies.Began (tx 1 1))) ∷ marked 4 (Called (commands.Do 0 2)) ∷
    marked 4 (Sent 0 1 (messages.Request (tx 1 1) 1 0 (wants.Append 0 [] (own_line 1 0 0 ∷ [])))) ∷
    marked 4 (Sent 1 2 (messages.Request (tx 1 1) 1 0 (wants.Append 0 [] (own_line 1 0 0 ∷ [])))) ∷ marked 2 (Got 1) ∷
    marked 1 (Got 0) ∷ marked 3 (Told (replies.Began (tx 0 1))) ∷ marked 3 (Called (commands.Do 0 1)) ∷
    marked 3 (Sent 2 1 (messages.Request (tx 0 1) 1 0 (wants.Read (first_read 0 1)))) ∷
    marked 3 (Sent 3 2 (messages.Request (tx 0 1) 1 0 (wants.Read (first_read 0 1)))) ∷
    marked 2 (Sent 4 4 (messages.Answer 1 (answers.Granted (whole_grant 1 0 [])))) ∷ marked 2 (Got 3) ∷ marked 4 (Got 4)
    ∷
    marked 1 (Sent 5 4 (messages.Answer 0 (answers.Granted (whole_grant 1 0 [])))) ∷ marked 1 (Got 2) ∷
    marked 2 (Sent 6 3 (messages.Answer 3 (answers.Granted (whole_grant 1 0 [])))) ∷ marked 3 (Got 6) ∷
    marked 4 (Lost 0)
    ∷
    marked 1 (Sent 7 3 (messages.Answer 2 (answers.Granted (whole_grant 1 0 [])))) ∷ marked 3 (Lost 2) ∷
    marked 3 (Told (replies.Quorum halves.Read 1 2)) ∷ marked 3 (Called commands.Commit) ∷
    marked 3 (Sent 8 2 (messages.Request (tx 0 1) 1 1 wants.Prepare)) ∷ marked 2 (Got 8) ∷
    marked 2 (Wrote (prepare (tx 0 1) 1 (read_lock 0 1 ∷ []) [] [])) ∷
    marked 2 (Sent 9 3 (messages.Answer 8 (answers.Yes 0))) ∷ marked 3 (Got 9) ∷
    marked 3 (Wrote (commit (stamp 1 0) (tx 0 1) [])) ∷
    marked 3 (Sent 10 1 (messages.Decision (tx 0 1) (outcomes.Committed (stamp 1 0)))) ∷
    marked 3 (Sent 11 2 (messages.Decision (tx 0 1) (outcomes.Committed (stamp 1 0)))) ∷
    marked 3 (Told (replies.Committed (stamp 1 0))) ∷ marked 1 (Got 10) ∷ marked 2 (Got 11) ∷
    marked 4 (Told (replies.Quorum halves.Append 1 2)) ∷ marked 4 (Called (commands.Do 1 2)) ∷
    marked 2 (Wrote (records.Done (tx 0 1) 1)) ∷ marked 4 (Told replies.Doomed) ∷ marked 4 (Called commands.Commit) ∷
    marked 4 (Sent 12 1 (messages.Decision (tx 1 1) outcomes.Aborted)) ∷
    marked 4 (Sent 13 2 (messages.Decision (tx 1 1) outcomes.Aborted)) ∷
    marked 4 (Told (replies.Aborted causes.Doomed)) ∷ marked 1 (Got 12) ∷ marked 2 (Got 13) ∷ marked 6 (Phase 2) ∷
    marked 6 (Cut 4 3) ∷ marked 6 (Armed 0 arms.Stop 4) ∷ marked 3 (Called commands.Begin) ∷
    marked 3 (Told (replies.Began (tx 0 2))) ∷ marked 3 (Called (commands.Do 1 0)) ∷ marked 3 (Told replies.Absent) ∷
    marked 3 (Called commands.Abort) ∷ marked 3 (Told replies.Dropped) ∷ marked 3 (Called commands.Begin) ∷
    marked 3 (Told (replies.Began (tx 0 3))) ∷ marked 3 (Called (commands.Do 0 2)) ∷
    marked 3 (Sent 14 1 (messages.Request (tx 0 3) 1 0 (wants.Append 0 [] (own_line 1 0 0 ∷ [])))) ∷
    marked 3 (Sent 15 2 (messages.Request (tx 0 3) 1 0 (wants.Append 0 [] (own_line 1 0 0 ∷ [])))) ∷ marked 1 (Got 14) ∷
    marked 2 (Got 15) ∷ marked 2 (Sent 16 3 (messages.Answer 15 (answers.Granted (whole_grant 1 1 []))))
    ∷ marked 3 (Got 16) ∷
    marked 1 (Sent 17 3 (messages.Answer 14 (answers.Granted (whole_grant 1 1 [])))) ∷ marked 3 (Lost 14) ∷
    marked 3 (Told (replies.Quorum halves.Append 1 2)) ∷ marked 3 (Called (commands.Do 0 1)) ∷
    marked 3 (Told replies.Doomed) ∷ marked 3 (Called (commands.Do 1 1)) ∷ marked 3 (Told replies.Doomed) ∷
    marked 3 (Called commands.Commit) ∷ marked 3 (Sent 18 1 (messages.Decision (tx 0 3) outcomes.Aborted)) ∷
    marked 3 (Sent 19 2 (messages.Decision (tx 0 3) outcomes.Aborted)) ∷
    marked 3 (Told (replies.Aborted causes.Doomed)) ∷ marked 1 (Got 18) ∷ marked 2 (Got 19) ∷ []
