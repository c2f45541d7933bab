-- Random: sites 3, clients 1, steps 86, messages 24, commits 1, falls 2, rises 1.
use Rattle.std.specs.Prelude.{List, [], ◌∷◌, Some, None, false}
use Rattle.qc_decl.specs.declared.declaration.Declaration.{Declaration}
use Rattle.qc_decl.specs.Vocabulary.{row}
use Rattle.qc_msg.specs.Vocabulary.{Entry, marked}
use Rattle.tests_histories.specs.Words.{tx, stamp, line, own_line, operation, read_lock, prepare, commit, declaration}
use Rattle.tests_histories.specs.Words.{kind, pair, plan}
use Rattle.qc_msg.specs.declared.step.Step.TheVariants.{Phase, Called, Got, Wrote, Sent, Told, Armed, Fell, Rose}
use Rattle.qc_msg.specs.declared.turn.Appended.TheVariants.{Done}
use Rattle.tests_falls.specs.Perform.{Move, Begins, Acts, Takes, Posts, Rises}
use Rattle.qc_msg.specs.declared.message.Answer.TheVariants as answers
use Rattle.qc_msg.specs.declared.step.Command.TheVariants as commands
use Rattle.qc_msg.specs.declared.message.Message.TheVariants as messages
use Rattle.qc_msg.specs.declared.message.Outcome.TheVariants as outcomes
use Rattle.qc_msg.specs.declared.record.Record.TheVariants as records
use Rattle.qc_msg.specs.declared.reply.Reply.TheVariants as replies
use Rattle.qc_msg.specs.declared.message.Want.TheVariants as wants
use Rattle.qc_msg.specs.declared.step.Fall.TheVariants as falls
use Rattle.qc_msg.specs.Vocabulary.{whole_grant, first_read}
use Rattle.qc_outside.specs.declared.disk.ArmKind.TheVariants as arms

abbrev pub decl : Declaration
decl =
    declaration 3 1 (kind 2 2 3 0 (row 0 0 0 1 ∷ row 1 0 1 1 ∷ row 0 1 2 0 ∷ row 1 1 2 0 ∷ []) (pair 0 0 ∷ pair 0 2 ∷
    pair 1 1 ∷ []) ∷ []) (0 ∷ []) (plan (1 ∷ 1 ∷ 1 ∷ []) ((2 ∷ 2 ∷ []) ∷ []) ((2 ∷ 2 ∷ 3 ∷ []) ∷ []) ∷ [])

abbrev pub moves : List Move
moves =
    Begins ∷ Takes 3 ∷ Posts 3 Done ∷ Takes 3 ∷ Posts 3 Done ∷ Takes 0 ∷ Posts 0 Done ∷ Takes 1 ∷ Posts 1 Done ∷
    Takes 3 ∷ Posts 3 Done ∷ Takes 3 ∷ Posts 3 Done ∷ Takes 0 ∷ Posts 0 Done ∷ Takes 1 ∷ Posts 1 Done ∷ Takes 3 ∷
    Posts 3 Done ∷ Takes 3 ∷ Posts 3 Done ∷ Takes 3 ∷ Posts 3 Done ∷ Takes 0 ∷ Posts 0 Done ∷ Takes 1 ∷ Posts 1 Done ∷
    Takes 3 ∷ Posts 3 Done ∷ Takes 3 ∷ Posts 3 Done ∷ Takes 0 ∷ Posts 0 Done ∷ Takes 1 ∷ Posts 1 Done ∷ Begins ∷ Acts ∷
    Takes 3 ∷ Posts 3 Done ∷ Takes 3 ∷ Posts 3 Done ∷ Takes 0 ∷ Posts 0 Done ∷ Takes 1 ∷ Posts 1 Done ∷ Takes 3 ∷
    Posts 3 Done ∷ Takes 3 ∷ Posts 3 Done ∷ Takes 0 ∷ Posts 0 Done ∷ Takes 1 ∷ Posts 1 Done ∷ Takes 3 ∷ Posts 3 Done ∷
    Takes 3 ∷ Posts 3 Done ∷ Takes 3 ∷ Posts 3 Done ∷ Takes 0 ∷ Posts 0 Done ∷ Takes 1 ∷ Posts 1 Done ∷ Begins ∷ Acts ∷
    Rises false Done ∷ Acts ∷ Acts ∷ Takes 3 ∷ Posts 3 Done ∷ Takes 3 ∷ Posts 3 Done ∷ Takes 3 ∷ Posts 3 Done ∷
    Takes 3 ∷ Posts 3 Done ∷ Takes 3 ∷ Posts 3 Done ∷ Takes 3 ∷ Posts 3 Done ∷ []

abbrev pub history : List Entry
history =
    marked 5 (Phase 1) ∷ marked 3 (Called commands.Begin) ∷ marked 3 (Told (replies.Began (tx 0 1))) ∷
    marked 3 (Called (commands.Do 0 0)) ∷
    marked 3 (Sent 0 0 (messages.Request (tx 0 1) 1 0 (wants.Read (first_read 0 0))))
    ∷
    marked 3 (Sent 1 1 (messages.Request (tx 0 1) 1 0 (wants.Read (first_read 0 0)))) ∷ marked 0 (Got 0) ∷
    marked 0 (Sent 2 3 (messages.Answer 0 (answers.Granted (whole_grant 1 0 [])))) ∷ marked 1 (Got 1) ∷
    marked 1 (Sent 3 3 (messages.Answer 1 (answers.Granted (whole_grant 1 0 [])))) ∷ marked 3 (Got 2) ∷ marked 3 (Got 3)
    ∷
    marked 3 (Sent 4 0 (messages.Request (tx 0 1) 1 1 (wants.Append 0 [] (own_line 1 0 0 ∷ [])))) ∷
    marked 3 (Sent 5 1 (messages.Request (tx 0 1) 1 1 (wants.Append 0 [] (own_line 1 0 0 ∷ [])))) ∷ marked 0 (Got 4) ∷
    marked 0 (Sent 6 3 (messages.Answer 4 (answers.Granted (whole_grant 1 0 [])))) ∷ marked 1 (Got 5) ∷
    marked 1 (Sent 7 3 (messages.Answer 5 (answers.Granted (whole_grant 1 0 [])))) ∷ marked 3 (Got 6) ∷ marked 3 (Got 7)
    ∷
    marked 3 (Told (replies.Response 0)) ∷ marked 3 (Called commands.Commit) ∷
    marked 3 (Sent 8 0 (messages.Request (tx 0 1) 1 1 wants.Prepare)) ∷
    marked 3 (Sent 9 1 (messages.Request (tx 0 1) 1 1 wants.Prepare)) ∷ marked 0 (Got 8) ∷
    marked 0 (Wrote (prepare (tx 0 1) 1 (read_lock 0 0 ∷ []) (own_line 1 0 0 ∷ []) [])) ∷
    marked 0 (Sent 10 3 (messages.Answer 8 (answers.Yes 0))) ∷ marked 1 (Got 9) ∷
    marked 1 (Wrote (prepare (tx 0 1) 1 (read_lock 0 0 ∷ []) (own_line 1 0 0 ∷ []) [])) ∷
    marked 1 (Sent 11 3 (messages.Answer 9 (answers.Yes 0))) ∷ marked 3 (Got 10) ∷ marked 3 (Got 11) ∷
    marked 3 (Wrote (commit (stamp 1 0) (tx 0 1) (operation 0 0 (Some 0) ∷ []))) ∷
    marked 3 (Sent 12 0 (messages.Decision (tx 0 1) (outcomes.Committed (stamp 1 0)))) ∷
    marked 3 (Sent 13 1 (messages.Decision (tx 0 1) (outcomes.Committed (stamp 1 0)))) ∷
    marked 3 (Told (replies.Committed (stamp 1 0))) ∷ marked 0 (Got 12) ∷ marked 0 (Wrote (records.Done (tx 0 1) 1)) ∷
    marked 1 (Got 13) ∷ marked 1 (Wrote (records.Done (tx 0 1) 1)) ∷ marked 5 (Phase 2) ∷
    marked 5 (Armed 0 arms.Fail 1) ∷ marked 3 (Called commands.Begin) ∷ marked 3 (Told (replies.Began (tx 0 2))) ∷
    marked 3 (Called (commands.Do 0 0))
    ∷ marked 3 (Sent 14 0 (messages.Request (tx 0 2) 1 0 (wants.Read (first_read 0 0)))) ∷
    marked 3 (Sent 15 1 (messages.Request (tx 0 2) 1 0 (wants.Read (first_read 0 0)))) ∷ marked 0 (Got 14) ∷
    marked 0 (Sent 16 3 (messages.Answer 14 (answers.Granted (whole_grant 1 1 (line 1 0 1 1 0 0 ∷ [])))))
    ∷ marked 1 (Got 15) ∷
    marked 1 (Sent 17 3 (messages.Answer 15 (answers.Granted (whole_grant 1 1 (line 1 0 1 1 0 0 ∷ [])))))
    ∷ marked 3 (Got 16) ∷
    marked 3 (Got 17) ∷
    marked 3 (Sent 18 0 (messages.Request (tx 0 2) 1 1 (wants.Append 0 (line 1 0 1 1 0 0 ∷ []) (own_line 1 0 1 ∷ []))))
    ∷
    marked 3 (Sent 19 1 (messages.Request (tx 0 2) 1 1 (wants.Append 0 (line 1 0 1 1 0 0 ∷ []) (own_line 1 0 1 ∷ []))))
    ∷
    marked 0 (Got 18) ∷ marked 0 (Sent 20 3 (messages.Answer 18 (answers.Granted (whole_grant 1 1 []))))
    ∷ marked 1 (Got 19) ∷
    marked 1 (Sent 21 3 (messages.Answer 19 (answers.Granted (whole_grant 1 1 [])))) ∷ marked 3 (Got 20)
    ∷ marked 3 (Got 21) ∷
    marked 3 (Told (replies.Response 1)) ∷ marked 3 (Called commands.Abort) ∷
    marked 3 (Sent 22 0 (messages.Decision (tx 0 2) outcomes.Aborted)) ∷
    marked 3 (Sent 23 1 (messages.Decision (tx 0 2) outcomes.Aborted)) ∷ marked 3 (Told replies.Dropped) ∷
    marked 0 (Got 22) ∷ marked 1 (Got 23) ∷ marked 5 (Phase 3) ∷ marked 0 (Fell falls.Script None) ∷
    marked 0 (Rose ((prepare (tx 0 1) 1 (read_lock 0 0 ∷ []) (own_line 1 0 0 ∷ []) []) ∷ (records.Done (tx 0 1) 1) ∷
    [])) ∷
    marked 0 (Wrote records.Life) ∷ marked 5 (Armed 1 arms.Stop 1) ∷ marked 3 (Fell falls.Script None) ∷
    marked 3 (Called commands.Begin) ∷ marked 3 (Told replies.Down) ∷ marked 3 (Called (commands.Do 0 0)) ∷
    marked 3 (Told replies.Down) ∷ marked 3 (Called commands.Abort) ∷ marked 3 (Told replies.Down) ∷
    marked 3 (Called commands.Begin) ∷ marked 3 (Told replies.Down) ∷ marked 3 (Called (commands.Do 0 1)) ∷
    marked 3 (Told replies.Down) ∷ marked 3 (Called commands.Commit) ∷ marked 3 (Told replies.Down) ∷ []
