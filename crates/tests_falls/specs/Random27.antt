-- Random: sites 3, clients 1, steps 126, messages 24, lost 1, cuts 1, commits 3, absent 2, falls 3, rises 2, unwritten
-- records 1.
use Rattle.std.specs.Prelude.{List, [], ◌∷◌, Some, None, false}
use Rattle.qc_decl.specs.declared.declaration.Declaration.{Declaration}
use Rattle.qc_decl.specs.Vocabulary.{row}
use Rattle.qc_msg.specs.Vocabulary.{Entry, marked}
use Rattle.tests_histories.specs.Words.{tx, stamp, line, own_line, operation, read_lock, prepare, commit, declaration}
use Rattle.tests_histories.specs.Words.{kind, pair, plan}
use Rattle.qc_msg.specs.declared.step.Step.TheVariants.{Phase, Cut, Called, Got, Lost, Wrote, Sent, Told, Armed, Fell}
use Rattle.qc_msg.specs.declared.step.Step.TheVariants.{Rose}
use Rattle.qc_msg.specs.declared.turn.Appended.TheVariants.{Done, Stopped}
use Rattle.tests_falls.specs.Words.{tx_in}
use Rattle.tests_falls.specs.Perform.{Move, Begins, Acts, Takes, Posts, Rises}
use Rattle.qc_msg.specs.declared.message.Answer.TheVariants as answers
use Rattle.qc_msg.specs.declared.step.Command.TheVariants as commands
use Rattle.qc_msg.specs.declared.message.Message.TheVariants as messages
use Rattle.qc_msg.specs.declared.message.Outcome.TheVariants as outcomes
use Rattle.qc_msg.specs.declared.record.Record.TheVariants as records
use Rattle.qc_msg.specs.declared.reply.Reply.TheVariants as replies
use Rattle.qc_msg.specs.declared.message.Want.TheVariants as wants
use Rattle.qc_msg.specs.declared.step.Fall.TheVariants as falls
use Rattle.qc_msg.specs.Vocabulary.{whole_grant, first_read}
use Rattle.qc_outside.specs.declared.disk.ArmKind.TheVariants as arms

abbrev pub decl : Declaration
decl =
    declaration 3 1 (kind 2 1 1 0 (row 1 0 0 0 ∷ []) [] ∷ kind 3 3 3 0 (row 0 0 0 1 ∷ row 0 0 1 2 ∷ row 1 1 0 1 ∷ row 2
    1 1 2 ∷ row 1 2 2 0 ∷ row 2 2 2 0 ∷ row 0 2 2 0 ∷ []) (pair 0 0 ∷ pair 0 1 ∷ pair 0 4 ∷ pair 1 0 ∷ pair 1 1 ∷ pair 1
    2 ∷ pair 1 4 ∷ []) ∷ []) (0 ∷ 1 ∷ []) (plan (2 ∷ 1 ∷ 1 ∷ []) ((0 ∷ []) ∷ (3 ∷ 3 ∷ 0 ∷ []) ∷ []) ((0 ∷ []) ∷ (2 ∷ 2 ∷
    2 ∷ 0 ∷ 2 ∷ []) ∷ []) ∷ plan (1 ∷ 1 ∷ 1 ∷ []) ((0 ∷ []) ∷ (2 ∷ 2 ∷ 2 ∷ []) ∷ []) ((0 ∷ []) ∷ (2 ∷ 2 ∷ 2 ∷ 0 ∷ 2 ∷
    []) ∷ []) ∷ plan (1 ∷ 0 ∷ 1 ∷ []) ((0 ∷ []) ∷ (2 ∷ 2 ∷ 1 ∷ []) ∷ []) ((1 ∷ []) ∷ (1 ∷ 1 ∷ 1 ∷ 0 ∷ 1 ∷ []) ∷ []) ∷
    [])

abbrev pub moves : List Move
moves =
    Begins ∷ Acts ∷ Takes 3 ∷ Posts 3 Done ∷ Takes 3 ∷ Posts 3 Done ∷ Begins ∷ Acts ∷ Acts ∷ Takes 3 ∷ Posts 3 Done ∷
    Takes 1 ∷ Takes 0 ∷ Posts 0 Done ∷ Takes 3 ∷ Posts 3 Done ∷ Posts 1 Done ∷ Takes 3 ∷ Posts 3 Done ∷ Takes 0 ∷
    Posts 0 Done ∷ Takes 3 ∷ Posts 3 Done ∷ Takes 3 ∷ Posts 3 Done ∷ Takes 1 ∷ Posts 1 Done ∷ Takes 0 ∷ Posts 0 Done ∷
    Takes 3 ∷ Posts 3 Done ∷ Takes 3 ∷ Posts 3 Done ∷ Takes 0 ∷ Posts 0 Done ∷ Takes 1 ∷ Posts 1 Done ∷ Begins ∷ Acts ∷
    Acts ∷ Takes 3 ∷ Posts 3 Done ∷ Takes 3 ∷ Posts 3 Done ∷ Takes 3 ∷ Posts 3 Done ∷ Takes 3 ∷ Posts 3 Done ∷ Begins ∷
    Rises false Done ∷ Takes 3 ∷ Posts 3 Done ∷ Takes 3 ∷ Posts 3 Done ∷ Takes 3 ∷ Posts 3 Done ∷ Begins ∷ Acts ∷
    Takes 3 ∷ Posts 3 Done ∷ Takes 3 ∷ Posts 3 Done ∷ Takes 3 ∷ Posts 3 Done ∷ Begins ∷ Acts ∷ Takes 3 ∷ Posts 3 Done ∷
    Takes 3 ∷ Posts 3 Done ∷ Takes 3 ∷ Posts 3 Done ∷ Takes 3 ∷ Posts 3 Done ∷ Takes 3 ∷ Posts 3 Done ∷ Begins ∷ Acts ∷
    Rises false Done ∷ Takes 3 ∷ Posts 3 Done ∷ Takes 3 ∷ Posts 3 Done ∷ Takes 3 ∷ Posts 3 Done ∷ Takes 0 ∷
    Posts 0 Done ∷ Takes 3 ∷ Posts 3 Done ∷ Takes 2 ∷ Posts 2 Done ∷ Takes 3 ∷ Posts 3 Done ∷ Takes 3 ∷ Posts 3 Done ∷
    Takes 0 ∷ Takes 2 ∷ Posts 2 Done ∷ Takes 3 ∷ Posts 3 Done ∷ Takes 3 ∷ Posts 3 Done ∷ Posts 0 Done ∷ Takes 3 ∷
    Posts 3 Done ∷ Takes 2 ∷ Posts 2 Done ∷ Takes 3 ∷ Takes 0 ∷ Posts 3 Done ∷ Takes 3 ∷ Posts 0 Stopped ∷
    Posts 3 Done ∷ []

abbrev pub history : List Entry
history =
    marked 5 (Phase 1) ∷ marked 5 (Armed 1 arms.Stop 5) ∷ marked 3 (Called commands.Begin) ∷
    marked 3 (Told (replies.Began (tx 0 1))) ∷ marked 3 (Called (commands.Do 0 0)) ∷ marked 3 (Told replies.Absent) ∷
    marked 5 (Phase 2) ∷ marked 5 (Armed 0 arms.Fail 3) ∷ marked 2 (Fell falls.Script None) ∷
    marked 3 (Called (commands.Do 1 0)) ∷
    marked 3 (Sent 0 0 (messages.Request (tx 0 1) 1 0 (wants.Read (first_read 1 0))))
    ∷
    marked 3 (Sent 1 1 (messages.Request (tx 0 1) 1 0 (wants.Read (first_read 1 0)))) ∷ marked 1 (Got 1) ∷
    marked 0 (Got 0)
    ∷
    marked 0 (Sent 2 3 (messages.Answer 0 (answers.Granted (whole_grant 1 0 [])))) ∷ marked 3 (Got 2) ∷
    marked 1 (Sent 3 3 (messages.Answer 1 (answers.Granted (whole_grant 1 0 [])))) ∷ marked 3 (Got 3) ∷
    marked 3 (Sent 4 0 (messages.Request (tx 0 1) 1 1 (wants.Append 1 [] (own_line 2 1 0 ∷ [])))) ∷ marked 0 (Got 4) ∷
    marked 0 (Sent 5 3 (messages.Answer 4 (answers.Granted (whole_grant 1 0 [])))) ∷ marked 3 (Got 5) ∷
    marked 3 (Told (replies.Response 0)) ∷ marked 3 (Called commands.Commit) ∷
    marked 3 (Sent 6 0 (messages.Request (tx 0 1) 1 1 wants.Prepare)) ∷
    marked 3 (Sent 7 1 (messages.Request (tx 0 1) 1 1 wants.Prepare)) ∷ marked 1 (Got 7) ∷
    marked 1 (Wrote (prepare (tx 0 1) 1 (read_lock 1 0 ∷ []) [] [])) ∷
    marked 1 (Sent 8 3 (messages.Answer 7 (answers.Yes 0))) ∷ marked 0 (Got 6) ∷
    marked 0 (Wrote (prepare (tx 0 1) 1 (read_lock 1 0 ∷ []) (own_line 2 1 0 ∷ []) [])) ∷
    marked 0 (Sent 9 3 (messages.Answer 6 (answers.Yes 0))) ∷ marked 3 (Got 8) ∷ marked 3 (Got 9) ∷
    marked 3 (Wrote (commit (stamp 1 0) (tx 0 1) (operation 0 0 None ∷ operation 1 0 (Some 0) ∷ []))) ∷
    marked 3 (Sent 10 0 (messages.Decision (tx 0 1) (outcomes.Committed (stamp 1 0)))) ∷
    marked 3 (Sent 11 1 (messages.Decision (tx 0 1) (outcomes.Committed (stamp 1 0)))) ∷
    marked 3 (Told (replies.Committed (stamp 1 0))) ∷ marked 0 (Got 10) ∷ marked 0 (Wrote (records.Done (tx 0 1) 1)) ∷
    marked 1 (Got 11) ∷ marked 1 (Wrote (records.Done (tx 0 1) 1)) ∷ marked 5 (Phase 3) ∷
    marked 5 (Armed 1 arms.Stop 12) ∷ marked 3 (Fell falls.Script None) ∷ marked 3 (Called commands.Begin) ∷
    marked 3 (Told replies.Down) ∷ marked 3 (Called (commands.Do 0 0)) ∷ marked 3 (Told replies.Down) ∷
    marked 3 (Called (commands.Do 0 0)) ∷ marked 3 (Told replies.Down) ∷ marked 3 (Called commands.Commit) ∷
    marked 3 (Told replies.Down) ∷ marked 5 (Phase 4) ∷ marked 2 (Rose []) ∷ marked 2 (Wrote records.Life) ∷
    marked 3 (Called commands.Begin) ∷ marked 3 (Told replies.Down) ∷ marked 3 (Called (commands.Do 1 0)) ∷
    marked 3 (Told replies.Down) ∷ marked 3 (Called commands.Commit) ∷ marked 3 (Told replies.Down) ∷
    marked 5 (Phase 5) ∷ marked 5 (Armed 3 arms.Stop 8) ∷ marked 3 (Called commands.Begin) ∷
    marked 3 (Told replies.Down) ∷ marked 3 (Called (commands.Do 0 0)) ∷ marked 3 (Told replies.Down) ∷
    marked 3 (Called commands.Abort) ∷ marked 3 (Told replies.Down) ∷ marked 5 (Phase 6) ∷
    marked 5 (Armed 3 arms.Fail 4) ∷ marked 3 (Called commands.Begin) ∷ marked 3 (Told replies.Down) ∷
    marked 3 (Called (commands.Do 1 1)) ∷ marked 3 (Told replies.Down) ∷ marked 3 (Called (commands.Do 0 0)) ∷
    marked 3 (Told replies.Down) ∷ marked 3 (Called (commands.Do 0 0)) ∷ marked 3 (Told replies.Down) ∷
    marked 3 (Called commands.Abort) ∷ marked 3 (Told replies.Down) ∷ marked 5 (Phase 7) ∷ marked 5 (Cut 1 3) ∷
    marked 3 (Rose ((commit (stamp 1 0) (tx 0 1) (operation 0 0 None ∷ operation 1 0 (Some 0) ∷ [])) ∷ [])) ∷
    marked 3 (Wrote records.Life) ∷ marked 3 (Called commands.Begin) ∷ marked 3 (Told (replies.Began (tx_in 0 2 1))) ∷
    marked 3 (Called (commands.Do 1 0))
    ∷ marked 3 (Sent 12 0 (messages.Request (tx_in 0 2 1) 1 0 (wants.Read (first_read 1 0)))) ∷
    marked 3 (Sent 13 1 (messages.Request (tx_in 0 2 1) 1 0 (wants.Read (first_read 1 0)))) ∷ marked 3 (Lost 13) ∷
    marked 0 (Got 12)
    ∷ marked 0 (Sent 14 3 (messages.Answer 12 (answers.Granted (whole_grant 1 1 (line 1 0 1 2 1 0 ∷ []))))) ∷
    marked 3 (Got 14) ∷ marked 3 (Sent 15 2 (messages.Request (tx_in 0 2 1) 1 0 (wants.Read (first_read 1 0))))
    ∷ marked 2 (Got 15) ∷
    marked 2 (Sent 16 3 (messages.Answer 15 (answers.Granted (whole_grant 2 0 [])))) ∷ marked 3 (Got 16) ∷
    marked 3 (Told replies.Absent) ∷ marked 3 (Called commands.Commit) ∷
    marked 3 (Sent 17 0 (messages.Request (tx_in 0 2 1) 1 1 wants.Prepare)) ∷
    marked 3 (Sent 18 2 (messages.Request (tx_in 0 2 1) 1 2 wants.Prepare)) ∷ marked 0 (Got 17) ∷ marked 2 (Got 18) ∷
    marked 2 (Wrote (prepare (tx_in 0 2 1) 1 (read_lock 1 0 ∷ []) [] [])) ∷
    marked 2 (Sent 19 3 (messages.Answer 18 (answers.Yes 0))) ∷ marked 3 (Got 19) ∷ marked 3 (Got 19) ∷
    marked 0 (Wrote (prepare (tx_in 0 2 1) 1 (read_lock 1 0 ∷ []) [] [])) ∷
    marked 0 (Sent 20 3 (messages.Answer 17 (answers.Yes 1))) ∷ marked 3 (Got 20) ∷
    marked 3 (Wrote (commit (stamp 2 0) (tx_in 0 2 1) (operation 1 0 None ∷ []))) ∷
    marked 3 (Sent 21 0 (messages.Decision (tx_in 0 2 1) (outcomes.Committed (stamp 2 0)))) ∷
    marked 3 (Sent 22 1 (messages.Decision (tx_in 0 2 1) (outcomes.Committed (stamp 2 0)))) ∷
    marked 3 (Sent 23 2 (messages.Decision (tx_in 0 2 1) (outcomes.Committed (stamp 2 0)))) ∷
    marked 3 (Told (replies.Committed (stamp 2 0))) ∷ marked 2 (Got 23) ∷
    marked 2 (Wrote (records.Done (tx_in 0 2 1) 2)) ∷ marked 3 (Called commands.Begin) ∷ marked 0 (Got 21) ∷
    marked 3 (Told (replies.Began (tx_in 0 2 2))) ∷ marked 3 (Called commands.Commit) ∷
    marked 0 (Fell falls.Stop (Some (records.Done (tx_in 0 2 1) 2))) ∷
    marked 3 (Wrote (commit (stamp 3 0) (tx_in 0 2 2) [])) ∷ marked 3 (Told (replies.Committed (stamp 3 0))) ∷ []
