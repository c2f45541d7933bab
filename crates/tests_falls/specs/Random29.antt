-- Random: sites 4, clients 2, steps 138, messages 32, lost 2, commits 4, short rounds 2, absent 5, falls 6, rises 4.
use Rattle.std.specs.Prelude.{List, [], ◌∷◌, Some, None, false}
use Rattle.qc_decl.specs.declared.declaration.Declaration.{Declaration}
use Rattle.qc_decl.specs.Vocabulary.{row}
use Rattle.qc_msg.specs.Vocabulary.{Entry, marked}
use Rattle.tests_histories.specs.Words.{tx, stamp, own_line, operation, read_lock, prepare, commit, declaration, kind}
use Rattle.tests_histories.specs.Words.{plan}
use Rattle.qc_msg.specs.declared.step.Step.TheVariants.{Phase, Called, Got, Lost, Wrote, Sent, Told, Armed, Fell, Rose}
use Rattle.qc_msg.specs.declared.turn.Appended.TheVariants.{Done}
use Rattle.tests_falls.specs.Perform.{Move, Begins, Acts, Takes, Posts, Rises, Unopened}
use Rattle.qc_msg.specs.declared.message.Answer.TheVariants as answers
use Rattle.qc_msg.specs.declared.step.Command.TheVariants as commands
use Rattle.qc_msg.specs.declared.reply.Half.TheVariants as halves
use Rattle.qc_msg.specs.declared.message.Message.TheVariants as messages
use Rattle.qc_msg.specs.declared.message.Outcome.TheVariants as outcomes
use Rattle.qc_msg.specs.declared.record.Record.TheVariants as records
use Rattle.qc_msg.specs.declared.reply.Reply.TheVariants as replies
use Rattle.qc_msg.specs.declared.message.Want.TheVariants as wants
use Rattle.qc_msg.specs.declared.step.Fall.TheVariants as falls
use Rattle.qc_msg.specs.Vocabulary.{whole_grant, first_read}
use Rattle.qc_outside.specs.declared.disk.ArmKind.TheVariants as arms

abbrev pub decl : Declaration
decl =
    declaration 4 2 (kind 3 3 1 0 (row 0 2 0 0 ∷ row 1 0 0 2 ∷ row 1 1 0 2 ∷ row 1 2 0 1 ∷ row 2 0 0 1 ∷ row 2 1 0 2 ∷
    row 2 2 0 0 ∷ []) [] ∷ []) (0 ∷ 0 ∷ []) (plan (1 ∷ 3 ∷ 3 ∷ 0 ∷ []) ((0 ∷ 4 ∷ 0 ∷ []) ∷ (0 ∷ 7 ∷ 0 ∷ []) ∷ []) ((7 ∷
    0 ∷ 5 ∷ []) ∷ (0 ∷ 0 ∷ 2 ∷ []) ∷ []) ∷ [])

abbrev pub moves : List Move
moves =
    Begins ∷ Acts ∷ Unopened falls.Stop ∷ Takes 4 ∷ Posts 4 Done ∷ Takes 5 ∷ Posts 5 Done ∷ Takes 5 ∷ Takes 4 ∷
    Posts 5 Done ∷ Takes 5 ∷ Posts 4 Done ∷ Posts 5 Done ∷ Takes 5 ∷ Posts 5 Done ∷ Takes 2 ∷ Takes 0 ∷ Takes 5 ∷
    Posts 5 Done ∷ Posts 2 Done ∷ Posts 0 Done ∷ Takes 5 ∷ Posts 5 Done ∷ Takes 5 ∷ Posts 5 Done ∷ Takes 5 ∷
    Posts 5 Done ∷ Takes 0 ∷ Posts 0 Done ∷ Takes 5 ∷ Posts 5 Done ∷ Takes 2 ∷ Posts 2 Done ∷ Takes 5 ∷ Posts 5 Done ∷
    Takes 2 ∷ Takes 0 ∷ Posts 0 Done ∷ Posts 2 Done ∷ Begins ∷ Rises false Done ∷ Acts ∷ Rises false Done ∷ Takes 5 ∷
    Posts 5 Done ∷ Takes 5 ∷ Posts 5 Done ∷ Takes 1 ∷ Posts 1 Done ∷ Takes 0 ∷ Posts 0 Done ∷ Takes 5 ∷ Posts 5 Done ∷
    Takes 2 ∷ Posts 2 Done ∷ Takes 5 ∷ Posts 5 Done ∷ Takes 5 ∷ Posts 5 Done ∷ Takes 5 ∷ Posts 5 Done ∷ Takes 5 ∷
    Posts 5 Done ∷ Takes 5 ∷ Posts 5 Done ∷ Takes 1 ∷ Posts 1 Done ∷ Takes 0 ∷ Posts 0 Done ∷ Takes 5 ∷ Posts 5 Done ∷
    Takes 5 ∷ Posts 5 Done ∷ Takes 2 ∷ Posts 2 Done ∷ Takes 5 ∷ Posts 5 Done ∷ Takes 1 ∷ Posts 1 Done ∷ Takes 2 ∷
    Posts 2 Done ∷ Takes 0 ∷ Posts 0 Done ∷ Begins ∷ Begins ∷ Acts ∷ Begins ∷ Acts ∷ Acts ∷ Rises false Done ∷ Takes 5 ∷
    Posts 5 Done ∷ Takes 5 ∷ Posts 5 Done ∷ Takes 5 ∷ Posts 5 Done ∷ Takes 4 ∷ Posts 4 Done ∷ Takes 4 ∷ Posts 4 Done ∷
    Takes 4 ∷ Posts 4 Done ∷ Takes 4 ∷ Posts 4 Done ∷ Takes 2 ∷ Posts 2 Done ∷ Takes 4 ∷ Posts 4 Done ∷ Takes 0 ∷
    Posts 0 Done ∷ Takes 4 ∷ Posts 4 Done ∷ Takes 4 ∷ Posts 4 Done ∷ Begins ∷ Acts ∷ Rises false Done ∷ Takes 5 ∷
    Posts 5 Done ∷ []

abbrev pub history : List Entry
history =
    marked 7 (Phase 1) ∷ marked 1 (Fell falls.Script None) ∷ marked 1 (Fell falls.Stop None) ∷
    marked 4 (Called commands.Begin) ∷ marked 4 (Told (replies.Began (tx 0 1))) ∷ marked 5 (Called commands.Begin) ∷
    marked 5 (Told (replies.Began (tx 1 1))) ∷ marked 5 (Called (commands.Do 1 0)) ∷ marked 4 (Called commands.Commit) ∷
    marked 5 (Told replies.Absent) ∷ marked 5 (Called (commands.Do 1 2)) ∷
    marked 4 (Wrote (commit (stamp 1 0) (tx 0 1) [])) ∷ marked 4 (Told (replies.Committed (stamp 1 0))) ∷
    marked 5 (Told (replies.Response 0)) ∷ marked 5 (Called (commands.Do 1 1)) ∷
    marked 5 (Sent 0 1 (messages.Request (tx 1 1) 1 0 (wants.Read (first_read 1 1)))) ∷
    marked 5 (Sent 1 2 (messages.Request (tx 1 1) 1 0 (wants.Read (first_read 1 1)))) ∷
    marked 5 (Sent 2 0 (messages.Request (tx 1 1) 1 0 (wants.Read (first_read 1 1)))) ∷ marked 2 (Got 1) ∷
    marked 0 (Got 2)
    ∷
    marked 5 (Lost 0) ∷ marked 2 (Sent 3 5 (messages.Answer 1 (answers.Granted (whole_grant 1 0 [])))) ∷
    marked 0 (Sent 4 5 (messages.Answer 2 (answers.Granted (whole_grant 1 0 [])))) ∷ marked 5 (Got 3) ∷ marked 5 (Got 4)
    ∷
    marked 5 (Told (replies.Quorum halves.Read 4 7)) ∷ marked 5 (Called commands.Commit) ∷
    marked 5 (Sent 5 2 (messages.Request (tx 1 1) 1 1 wants.Prepare)) ∷
    marked 5 (Sent 6 0 (messages.Request (tx 1 1) 1 1 wants.Prepare)) ∷ marked 0 (Got 6) ∷
    marked 0 (Wrote (prepare (tx 1 1) 1 (read_lock 1 1 ∷ []) [] [])) ∷
    marked 0 (Sent 7 5 (messages.Answer 6 (answers.Yes 0))) ∷ marked 5 (Got 7) ∷ marked 2 (Got 5) ∷
    marked 2 (Wrote (prepare (tx 1 1) 1 (read_lock 1 1 ∷ []) [] [])) ∷
    marked 2 (Sent 8 5 (messages.Answer 5 (answers.Yes 0))) ∷ marked 5 (Got 8) ∷
    marked 5 (Wrote (commit (stamp 1 1) (tx 1 1) (operation 1 0 None ∷ operation 1 2 (Some 0) ∷ []))) ∷
    marked 5 (Sent 9 0 (messages.Decision (tx 1 1) (outcomes.Committed (stamp 1 1)))) ∷
    marked 5 (Sent 10 1 (messages.Decision (tx 1 1) (outcomes.Committed (stamp 1 1)))) ∷
    marked 5 (Sent 11 2 (messages.Decision (tx 1 1) (outcomes.Committed (stamp 1 1)))) ∷
    marked 5 (Told (replies.Committed (stamp 1 1))) ∷ marked 2 (Got 11) ∷ marked 0 (Got 9) ∷
    marked 0 (Wrote (records.Done (tx 1 1) 1)) ∷ marked 2 (Wrote (records.Done (tx 1 1) 1)) ∷ marked 7 (Phase 2) ∷
    marked 1 (Rose []) ∷ marked 1 (Wrote records.Life) ∷ marked 3 (Fell falls.Script None) ∷ marked 3 (Rose []) ∷
    marked 3 (Wrote records.Life) ∷ marked 5 (Called commands.Begin) ∷ marked 5 (Told (replies.Began (tx 1 2))) ∷
    marked 5 (Called (commands.Do 0 2)) ∷
    marked 5 (Sent 12 1 (messages.Request (tx 1 2) 1 0 (wants.Append 0 [] (own_line 1 0 0 ∷ [])))) ∷
    marked 5 (Sent 13 2 (messages.Request (tx 1 2) 1 0 (wants.Append 0 [] (own_line 1 0 0 ∷ [])))) ∷
    marked 5 (Sent 14 0 (messages.Request (tx 1 2) 1 0 (wants.Append 0 [] (own_line 1 0 0 ∷ [])))) ∷ marked 1 (Got 12) ∷
    marked 1 (Sent 15 5 (messages.Answer 12 (answers.Granted (whole_grant 2 0 [])))) ∷ marked 0 (Got 14) ∷
    marked 0 (Sent 16 5 (messages.Answer 14 (answers.Granted (whole_grant 1 1 [])))) ∷ marked 5 (Got 15)
    ∷ marked 2 (Got 13) ∷
    marked 2 (Sent 17 5 (messages.Answer 13 (answers.Granted (whole_grant 1 1 [])))) ∷ marked 5 (Got 16)
    ∷ marked 5 (Got 17) ∷
    marked 5 (Told (replies.Response 0)) ∷ marked 5 (Called (commands.Do 1 0)) ∷ marked 5 (Told replies.Absent) ∷
    marked 5 (Called (commands.Do 1 0)) ∷ marked 5 (Told replies.Absent) ∷ marked 5 (Called commands.Commit) ∷
    marked 5 (Sent 18 1 (messages.Request (tx 1 2) 1 2 wants.Prepare)) ∷
    marked 5 (Sent 19 2 (messages.Request (tx 1 2) 1 1 wants.Prepare)) ∷
    marked 5 (Sent 20 0 (messages.Request (tx 1 2) 1 1 wants.Prepare)) ∷ marked 1 (Got 18) ∷
    marked 1 (Wrote (prepare (tx 1 2) 1 [] (own_line 1 0 0 ∷ []) [])) ∷
    marked 1 (Sent 21 5 (messages.Answer 18 (answers.Yes 0))) ∷ marked 0 (Got 20) ∷
    marked 0 (Wrote (prepare (tx 1 2) 1 [] (own_line 1 0 0 ∷ []) [])) ∷
    marked 0 (Sent 22 5 (messages.Answer 20 (answers.Yes 1))) ∷ marked 5 (Got 21) ∷ marked 5 (Got 22) ∷
    marked 2 (Got 19) ∷ marked 2 (Wrote (prepare (tx 1 2) 1 [] (own_line 1 0 0 ∷ []) [])) ∷
    marked 2 (Sent 23 5 (messages.Answer 19 (answers.Yes 1))) ∷ marked 5 (Got 23) ∷
    marked 5 (Wrote (commit (stamp 2 1) (tx 1 2) (operation 0 2 (Some 0) ∷ operation 1 0 None ∷ operation 1 0 None ∷
    []))) ∷
    marked 5 (Sent 24 0 (messages.Decision (tx 1 2) (outcomes.Committed (stamp 2 1)))) ∷
    marked 5 (Sent 25 1 (messages.Decision (tx 1 2) (outcomes.Committed (stamp 2 1)))) ∷
    marked 5 (Sent 26 2 (messages.Decision (tx 1 2) (outcomes.Committed (stamp 2 1)))) ∷
    marked 5 (Told (replies.Committed (stamp 2 1))) ∷ marked 1 (Got 25) ∷ marked 1 (Wrote (records.Done (tx 1 2) 2)) ∷
    marked 2 (Got 26) ∷ marked 2 (Wrote (records.Done (tx 1 2) 2)) ∷ marked 0 (Got 24) ∷
    marked 0 (Wrote (records.Done (tx 1 2) 2)) ∷ marked 7 (Phase 3) ∷ marked 7 (Phase 4) ∷
    marked 7 (Armed 2 arms.Fail 9) ∷ marked 7 (Phase 5) ∷ marked 1 (Fell falls.Script None) ∷
    marked 2 (Fell falls.Script None) ∷
    marked 2 (Rose ((prepare (tx 1 1) 1 (read_lock 1 1 ∷ []) [] []) ∷ (records.Done (tx 1 1) 1) ∷ (prepare (tx 1 2) 1 []
    (own_line 1 0 0 ∷ []) []) ∷ (records.Done (tx 1 2) 2) ∷ [])) ∷
    marked 2 (Wrote records.Life) ∷ marked 5 (Called commands.Begin) ∷ marked 5 (Told (replies.Began (tx 1 3))) ∷
    marked 5 (Called (commands.Do 0 0)) ∷ marked 5 (Told replies.Absent) ∷ marked 5 (Called commands.Commit) ∷
    marked 5 (Wrote (commit (stamp 3 1) (tx 1 3) (operation 0 0 None ∷ []))) ∷
    marked 5 (Told (replies.Committed (stamp 3 1))) ∷ marked 4 (Called commands.Begin) ∷
    marked 4 (Told (replies.Began (tx 0 2))) ∷ marked 4 (Called (commands.Do 1 0)) ∷ marked 4 (Told replies.Absent) ∷
    marked 4 (Called commands.Begin) ∷ marked 4 (Told (replies.Already (tx 0 2))) ∷
    marked 4 (Called (commands.Do 1 1))
    ∷ marked 4 (Sent 27 0 (messages.Request (tx 0 2) 1 0 (wants.Read (first_read 1 1)))) ∷
    marked 4 (Sent 28 1 (messages.Request (tx 0 2) 1 0 (wants.Read (first_read 1 1)))) ∷
    marked 4 (Sent 29 2 (messages.Request (tx 0 2) 1 0 (wants.Read (first_read 1 1)))) ∷ marked 2 (Got 29) ∷
    marked 2 (Sent 30 4 (messages.Answer 29 (answers.Granted (whole_grant 2 2 [])))) ∷ marked 4 (Got 30)
    ∷ marked 0 (Got 27) ∷
    marked 0 (Sent 31 4 (messages.Answer 27 (answers.Granted (whole_grant 1 2 [])))) ∷ marked 4 (Got 31)
    ∷ marked 4 (Lost 28) ∷
    marked 4 (Told (replies.Quorum halves.Read 4 7)) ∷ marked 7 (Phase 6) ∷ marked 4 (Fell falls.Script None) ∷
    marked 4 (Rose ((commit (stamp 1 0) (tx 0 1) []) ∷ [])) ∷ marked 4 (Wrote records.Life) ∷
    marked 5 (Called commands.Begin) ∷ marked 5 (Told (replies.Began (tx 1 4))) ∷ []
