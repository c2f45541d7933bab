-- Random: sites 4, clients 1, steps 199, messages 62, lost 4, cuts 1, commits 3, aborts 2, short rounds 1, falls 3,
-- rises 2, unwritten records 2.
use Rattle.std.specs.Prelude.{List, [], ◌∷◌, Some, None, false}
use Rattle.qc_decl.specs.declared.declaration.Declaration.{Declaration}
use Rattle.qc_decl.specs.Vocabulary.{row}
use Rattle.qc_msg.specs.Vocabulary.{Entry, marked}
use Rattle.tests_histories.specs.Words.{tx, stamp, own_line, operation, read_lock, prepare, commit, declaration, kind}
use Rattle.tests_histories.specs.Words.{pair, plan}
use Rattle.qc_msg.specs.declared.step.Step.TheVariants.{Phase, Cut, Called, Got, Lost, Wrote, Sent, Told, Armed, Fell}
use Rattle.qc_msg.specs.declared.step.Step.TheVariants.{Rose}
use Rattle.qc_msg.specs.declared.turn.Appended.TheVariants.{Done, Stopped}
use Rattle.tests_falls.specs.Perform.{Move, Begins, Acts, Takes, Posts, Rises}
use Rattle.qc_msg.specs.declared.message.Answer.TheVariants as answers
use Rattle.qc_msg.specs.declared.reply.AbortCause.TheVariants as causes
use Rattle.qc_msg.specs.declared.step.Command.TheVariants as commands
use Rattle.qc_msg.specs.declared.reply.Half.TheVariants as halves
use Rattle.qc_msg.specs.declared.message.Message.TheVariants as messages
use Rattle.qc_msg.specs.declared.message.Outcome.TheVariants as outcomes
use Rattle.qc_msg.specs.declared.record.Record.TheVariants as records
use Rattle.qc_msg.specs.declared.reply.Reply.TheVariants as replies
use Rattle.qc_msg.specs.declared.message.Want.TheVariants as wants
use Rattle.qc_msg.specs.declared.step.Fall.TheVariants as falls
use Rattle.qc_msg.specs.Vocabulary.{whole_grant, first_read}
use Rattle.qc_outside.specs.declared.disk.ArmKind.TheVariants as arms

abbrev pub decl : Declaration
decl =
    declaration 4 1 (kind 3 3 5 0 (row 0 0 0 1 ∷ row 1 0 0 2 ∷ row 2 0 1 2 ∷ row 0 1 1 0 ∷ row 1 1 0 0 ∷ row 2 1 0 1 ∷
    row 0 2 2 0 ∷ row 1 2 3 1 ∷ row 2 2 4 2 ∷ []) (pair 0 0 ∷ pair 0 3 ∷ pair 1 0 ∷ pair 1 3 ∷ pair 2 0 ∷ pair 2 1 ∷
    pair 2 3 ∷ []) ∷ kind 3 2 1 0 (row 0 0 0 0 ∷ row 0 1 0 0 ∷ row 1 0 0 1 ∷ row 2 1 0 2 ∷ []) (pair 1 0 ∷ []) ∷ []) (0
    ∷ 0 ∷ []) (plan (1 ∷ 0 ∷ 1 ∷ 1 ∷ []) ((2 ∷ 2 ∷ 2 ∷ []) ∷ (2 ∷ 2 ∷ 2 ∷ []) ∷ []) ((2 ∷ 2 ∷ 0 ∷ 2 ∷ 1 ∷ 0 ∷ 0 ∷ []) ∷
    (2 ∷ 2 ∷ 0 ∷ 2 ∷ 0 ∷ 0 ∷ 0 ∷ []) ∷ []) ∷ [])

abbrev pub moves : List Move
moves =
    Begins ∷ Takes 4 ∷ Posts 4 Done ∷ Takes 4 ∷ Posts 4 Done ∷ Takes 2 ∷ Posts 2 Done ∷ Takes 4 ∷ Posts 4 Done ∷
    Takes 0 ∷ Posts 0 Done ∷ Takes 4 ∷ Posts 4 Done ∷ Takes 4 ∷ Posts 4 Done ∷ Takes 0 ∷ Posts 0 Done ∷ Takes 4 ∷
    Posts 4 Done ∷ Takes 2 ∷ Posts 2 Done ∷ Takes 4 ∷ Posts 4 Done ∷ Takes 4 ∷ Posts 4 Done ∷ Takes 0 ∷ Posts 0 Done ∷
    Takes 4 ∷ Posts 4 Done ∷ Takes 2 ∷ Posts 2 Done ∷ Takes 4 ∷ Posts 4 Done ∷ Takes 4 ∷ Takes 2 ∷ Posts 2 Done ∷
    Posts 4 Done ∷ Takes 4 ∷ Posts 4 Done ∷ Takes 2 ∷ Posts 2 Done ∷ Takes 4 ∷ Posts 4 Done ∷ Takes 0 ∷ Posts 0 Done ∷
    Takes 0 ∷ Posts 0 Done ∷ Takes 4 ∷ Posts 4 Done ∷ Takes 4 ∷ Posts 4 Done ∷ Takes 2 ∷ Posts 2 Done ∷ Takes 4 ∷
    Posts 4 Done ∷ Takes 0 ∷ Posts 0 Done ∷ Takes 4 ∷ Posts 4 Done ∷ Takes 4 ∷ Posts 4 Done ∷ Takes 2 ∷ Posts 2 Done ∷
    Takes 4 ∷ Posts 4 Done ∷ Takes 0 ∷ Posts 0 Done ∷ Takes 4 ∷ Posts 4 Done ∷ Takes 2 ∷ Posts 2 Done ∷ Takes 0 ∷
    Posts 0 Done ∷ Begins ∷ Takes 4 ∷ Posts 4 Done ∷ Takes 4 ∷ Posts 4 Done ∷ Takes 0 ∷ Takes 2 ∷ Posts 0 Done ∷
    Posts 2 Done ∷ Takes 4 ∷ Posts 4 Done ∷ Takes 4 ∷ Posts 4 Done ∷ Takes 4 ∷ Posts 4 Done ∷ Takes 2 ∷ Takes 0 ∷
    Posts 2 Done ∷ Posts 0 Done ∷ Takes 4 ∷ Posts 4 Done ∷ Takes 4 ∷ Posts 4 Done ∷ Takes 0 ∷ Takes 2 ∷ Posts 2 Done ∷
    Posts 0 Stopped ∷ Begins ∷ Acts ∷ Rises false Done ∷ Acts ∷ Acts ∷ Takes 4 ∷ Posts 4 Done ∷ Takes 4 ∷ Posts 4 Done ∷
    Takes 4 ∷ Posts 4 Done ∷ Takes 2 ∷ Posts 2 Done ∷ Takes 4 ∷ Posts 4 Done ∷ Takes 3 ∷ Posts 3 Done ∷ Takes 4 ∷
    Posts 4 Done ∷ Takes 2 ∷ Posts 2 Done ∷ Takes 4 ∷ Posts 4 Done ∷ Takes 4 ∷ Posts 4 Done ∷ Takes 3 ∷ Posts 3 Done ∷
    Takes 4 ∷ Posts 4 Done ∷ Begins ∷ Acts ∷ Takes 4 ∷ Posts 4 Done ∷ Takes 4 ∷ Posts 4 Done ∷ Takes 4 ∷ Posts 4 Done ∷
    Begins ∷ Acts ∷ Rises false Done ∷ Takes 4 ∷ Posts 4 Done ∷ Takes 0 ∷ Takes 4 ∷ Posts 0 Done ∷ Posts 4 Done ∷
    Takes 4 ∷ Posts 4 Done ∷ Takes 3 ∷ Posts 3 Done ∷ Takes 2 ∷ Posts 2 Done ∷ Takes 0 ∷ Posts 0 Done ∷ Begins ∷
    Takes 4 ∷ Posts 4 Done ∷ Takes 4 ∷ Posts 4 Done ∷ Takes 0 ∷ Posts 0 Done ∷ Takes 4 ∷ Posts 4 Done ∷ Takes 2 ∷
    Posts 2 Done ∷ Takes 4 ∷ Posts 4 Done ∷ Takes 4 ∷ Posts 4 Done ∷ Takes 0 ∷ Posts 0 Stopped ∷ Takes 4 ∷
    Posts 4 Done ∷ Takes 2 ∷ Posts 2 Done ∷ Takes 4 ∷ Posts 4 Done ∷ Takes 2 ∷ Posts 2 Done ∷ []

abbrev pub history : List Entry
history =
    marked 6 (Phase 1) ∷ marked 4 (Called commands.Begin) ∷ marked 4 (Told (replies.Began (tx 0 1))) ∷
    marked 4 (Called (commands.Do 1 2)) ∷
    marked 4 (Sent 0 0 (messages.Request (tx 0 1) 1 0 (wants.Read (first_read 1 2))))
    ∷
    marked 4 (Sent 1 2 (messages.Request (tx 0 1) 1 0 (wants.Read (first_read 1 2)))) ∷ marked 2 (Got 1) ∷
    marked 2 (Sent 2 4 (messages.Answer 1 (answers.Granted (whole_grant 1 0 [])))) ∷ marked 4 (Got 2) ∷ marked 0 (Got 0)
    ∷
    marked 0 (Sent 3 4 (messages.Answer 0 (answers.Granted (whole_grant 1 0 [])))) ∷ marked 4 (Got 3) ∷
    marked 4 (Told (replies.Response 2)) ∷ marked 4 (Called (commands.Do 0 1)) ∷
    marked 4 (Sent 4 0 (messages.Request (tx 0 1) 1 1 (wants.Read (first_read 0 1)))) ∷
    marked 4 (Sent 5 2 (messages.Request (tx 0 1) 1 1 (wants.Read (first_read 0 1)))) ∷ marked 0 (Got 4) ∷
    marked 0 (Sent 6 4 (messages.Answer 4 (answers.Granted (whole_grant 1 0 [])))) ∷ marked 4 (Got 6) ∷ marked 2 (Got 5)
    ∷
    marked 2 (Sent 7 4 (messages.Answer 5 (answers.Granted (whole_grant 1 0 [])))) ∷ marked 4 (Got 7) ∷
    marked 4 (Told (replies.Response 1)) ∷ marked 4 (Called commands.Commit) ∷
    marked 4 (Sent 8 0 (messages.Request (tx 0 1) 1 1 wants.Prepare)) ∷
    marked 4 (Sent 9 2 (messages.Request (tx 0 1) 1 1 wants.Prepare)) ∷ marked 0 (Got 8) ∷
    marked 0 (Wrote (prepare (tx 0 1) 1 (read_lock 0 1 ∷ read_lock 1 2 ∷ []) [] [])) ∷
    marked 0 (Sent 10 4 (messages.Answer 8 (answers.Yes 0))) ∷ marked 4 (Got 10) ∷ marked 2 (Got 9) ∷
    marked 2 (Wrote (prepare (tx 0 1) 1 (read_lock 0 1 ∷ read_lock 1 2 ∷ []) [] [])) ∷
    marked 2 (Sent 11 4 (messages.Answer 9 (answers.Yes 0))) ∷ marked 4 (Got 11) ∷
    marked 4 (Wrote (commit (stamp 1 0) (tx 0 1) (operation 1 2 (Some 2) ∷ operation 0 1 (Some 1) ∷ []))) ∷
    marked 4 (Sent 12 0 (messages.Decision (tx 0 1) (outcomes.Committed (stamp 1 0)))) ∷
    marked 4 (Sent 13 2 (messages.Decision (tx 0 1) (outcomes.Committed (stamp 1 0)))) ∷
    marked 4 (Told (replies.Committed (stamp 1 0))) ∷ marked 4 (Called commands.Begin) ∷ marked 2 (Got 13) ∷
    marked 2 (Wrote (records.Done (tx 0 1) 1)) ∷ marked 4 (Told (replies.Began (tx 0 2))) ∷
    marked 4 (Called (commands.Do 0 1))
    ∷ marked 4 (Sent 14 0 (messages.Request (tx 0 2) 1 0 (wants.Read (first_read 0 1)))) ∷
    marked 4 (Sent 15 2 (messages.Request (tx 0 2) 1 0 (wants.Read (first_read 0 1)))) ∷ marked 2 (Got 15) ∷
    marked 2 (Sent 16 4 (messages.Answer 15 (answers.Granted (whole_grant 1 1 [])))) ∷ marked 4 (Got 16)
    ∷ marked 0 (Got 12) ∷
    marked 0 (Wrote (records.Done (tx 0 1) 1)) ∷ marked 0 (Got 14) ∷
    marked 0 (Sent 17 4 (messages.Answer 14 (answers.Granted (whole_grant 1 1 [])))) ∷ marked 4 (Got 17) ∷
    marked 4 (Told (replies.Response 1)) ∷ marked 4 (Called (commands.Do 1 2)) ∷
    marked 4 (Sent 18 0 (messages.Request (tx 0 2) 1 1 (wants.Read (first_read 1 2)))) ∷
    marked 4 (Sent 19 2 (messages.Request (tx 0 2) 1 1 (wants.Read (first_read 1 2)))) ∷ marked 2 (Got 19) ∷
    marked 2 (Sent 20 4 (messages.Answer 19 (answers.Granted (whole_grant 1 1 [])))) ∷ marked 4 (Got 20)
    ∷ marked 0 (Got 18) ∷
    marked 0 (Sent 21 4 (messages.Answer 18 (answers.Granted (whole_grant 1 1 [])))) ∷ marked 4 (Got 21) ∷
    marked 4 (Told (replies.Response 2)) ∷ marked 4 (Called commands.Commit) ∷
    marked 4 (Sent 22 0 (messages.Request (tx 0 2) 1 1 wants.Prepare)) ∷
    marked 4 (Sent 23 2 (messages.Request (tx 0 2) 1 1 wants.Prepare)) ∷ marked 2 (Got 23) ∷
    marked 2 (Wrote (prepare (tx 0 2) 1 (read_lock 0 1 ∷ read_lock 1 2 ∷ []) [] [])) ∷
    marked 2 (Sent 24 4 (messages.Answer 23 (answers.Yes 1))) ∷ marked 4 (Got 24) ∷ marked 0 (Got 22) ∷
    marked 0 (Wrote (prepare (tx 0 2) 1 (read_lock 0 1 ∷ read_lock 1 2 ∷ []) [] [])) ∷
    marked 0 (Sent 25 4 (messages.Answer 22 (answers.Yes 1))) ∷ marked 4 (Got 25) ∷
    marked 4 (Wrote (commit (stamp 2 0) (tx 0 2) (operation 0 1 (Some 1) ∷ operation 1 2 (Some 2) ∷ []))) ∷
    marked 4 (Sent 26 0 (messages.Decision (tx 0 2) (outcomes.Committed (stamp 2 0)))) ∷
    marked 4 (Sent 27 2 (messages.Decision (tx 0 2) (outcomes.Committed (stamp 2 0)))) ∷
    marked 4 (Told (replies.Committed (stamp 2 0))) ∷ marked 2 (Got 27) ∷ marked 2 (Wrote (records.Done (tx 0 2) 2)) ∷
    marked 0 (Got 26) ∷ marked 0 (Wrote (records.Done (tx 0 2) 2)) ∷ marked 6 (Phase 2) ∷
    marked 4 (Called commands.Begin) ∷ marked 4 (Told (replies.Began (tx 0 3))) ∷ marked 4 (Called (commands.Do 1 1)) ∷
    marked 4 (Sent 28 0 (messages.Request (tx 0 3) 1 0 (wants.Read (first_read 1 1)))) ∷
    marked 4 (Sent 29 2 (messages.Request (tx 0 3) 1 0 (wants.Read (first_read 1 1)))) ∷ marked 0 (Got 28)
    ∷ marked 2 (Got 29) ∷
    marked 0 (Sent 30 4 (messages.Answer 28 (answers.Granted (whole_grant 1 2 [])))) ∷
    marked 2 (Sent 31 4 (messages.Answer 29 (answers.Granted (whole_grant 1 2 [])))) ∷ marked 4 (Got 30)
    ∷ marked 4 (Got 31) ∷
    marked 4 (Told (replies.Response 1)) ∷ marked 4 (Called commands.Commit) ∷
    marked 4 (Sent 32 0 (messages.Request (tx 0 3) 1 1 wants.Prepare)) ∷
    marked 4 (Sent 33 2 (messages.Request (tx 0 3) 1 1 wants.Prepare)) ∷ marked 2 (Got 33) ∷ marked 0 (Got 32) ∷
    marked 2 (Wrote (prepare (tx 0 3) 1 (read_lock 1 1 ∷ []) [] [])) ∷
    marked 2 (Sent 34 4 (messages.Answer 33 (answers.Yes 2))) ∷
    marked 0 (Wrote (prepare (tx 0 3) 1 (read_lock 1 1 ∷ []) [] [])) ∷
    marked 0 (Sent 35 4 (messages.Answer 32 (answers.Yes 2))) ∷ marked 4 (Got 34) ∷ marked 4 (Got 35) ∷
    marked 4 (Wrote (commit (stamp 3 0) (tx 0 3) (operation 1 1 (Some 1) ∷ []))) ∷
    marked 4 (Sent 36 0 (messages.Decision (tx 0 3) (outcomes.Committed (stamp 3 0)))) ∷
    marked 4 (Sent 37 2 (messages.Decision (tx 0 3) (outcomes.Committed (stamp 3 0)))) ∷
    marked 4 (Told (replies.Committed (stamp 3 0))) ∷ marked 0 (Got 36) ∷ marked 2 (Got 37) ∷
    marked 2 (Wrote (records.Done (tx 0 3) 3)) ∷ marked 0 (Fell falls.Stop (Some (records.Done (tx 0 3) 3))) ∷
    marked 6 (Phase 3) ∷ marked 2 (Fell falls.Script None) ∷
    marked 2 (Rose ((prepare (tx 0 1) 1 (read_lock 0 1 ∷ read_lock 1 2 ∷ []) [] []) ∷ (records.Done (tx 0 1) 1) ∷
    (prepare (tx 0 2) 1 (read_lock 0 1 ∷ read_lock 1 2 ∷ []) [] []) ∷ (records.Done (tx 0 2) 2) ∷ (prepare (tx 0 3) 1
    (read_lock 1 1 ∷ []) [] []) ∷ (records.Done (tx 0 3) 3) ∷ [])) ∷
    marked 2 (Wrote records.Life) ∷ marked 6 (Armed 3 arms.Stop 2) ∷ marked 6 (Armed 4 arms.Fail 9) ∷
    marked 4 (Called commands.Begin) ∷ marked 4 (Told (replies.Began (tx 0 4))) ∷ marked 4 (Called (commands.Do 0 0)) ∷
    marked 4 (Sent 38 0 (messages.Request (tx 0 4) 1 0 (wants.Read (first_read 0 0)))) ∷
    marked 4 (Sent 39 2 (messages.Request (tx 0 4) 1 0 (wants.Read (first_read 0 0)))) ∷ marked 4 (Lost 38)
    ∷ marked 2 (Got 39) ∷
    marked 2 (Sent 40 4 (messages.Answer 39 (answers.Granted (whole_grant 2 3 [])))) ∷ marked 4 (Got 40) ∷
    marked 4 (Sent 41 3 (messages.Request (tx 0 4) 1 0 (wants.Read (first_read 0 0)))) ∷ marked 3 (Got 41) ∷
    marked 3 (Sent 42 4 (messages.Answer 41 (answers.Granted (whole_grant 1 0 [])))) ∷ marked 4 (Got 42) ∷
    marked 4 (Sent 43 0 (messages.Request (tx 0 4) 1 0 (wants.Append 0 [] (own_line 1 0 0 ∷ [])))) ∷
    marked 4 (Sent 44 2 (messages.Request (tx 0 4) 1 2 (wants.Append 0 [] (own_line 1 0 0 ∷ [])))) ∷ marked 2 (Got 44) ∷
    marked 2 (Sent 45 4 (messages.Answer 44 (answers.Granted (whole_grant 2 3 [])))) ∷ marked 4 (Got 45)
    ∷ marked 4 (Lost 43) ∷
    marked 4 (Sent 46 3 (messages.Request (tx 0 4) 1 1 (wants.Append 0 [] (own_line 1 0 0 ∷ [])))) ∷ marked 3 (Got 46) ∷
    marked 3 (Sent 47 4 (messages.Answer 46 (answers.Granted (whole_grant 1 0 [])))) ∷ marked 4 (Lost 46) ∷
    marked 4 (Told (replies.Quorum halves.Append 1 2)) ∷ marked 6 (Phase 4) ∷ marked 6 (Armed 2 arms.Fail 1) ∷
    marked 4 (Called (commands.Do 0 2)) ∷ marked 4 (Told replies.Doomed) ∷ marked 4 (Called (commands.Do 0 2)) ∷
    marked 4 (Told replies.Doomed) ∷ marked 4 (Called (commands.Do 1 0)) ∷ marked 4 (Told replies.Doomed) ∷
    marked 6 (Phase 5) ∷ marked 6 (Cut 3 0) ∷
    marked 0 (Rose ((prepare (tx 0 1) 1 (read_lock 0 1 ∷ read_lock 1 2 ∷ []) [] []) ∷ (records.Done (tx 0 1) 1) ∷
    (prepare (tx 0 2) 1 (read_lock 0 1 ∷ read_lock 1 2 ∷ []) [] []) ∷ (records.Done (tx 0 2) 2) ∷ (prepare (tx 0 3) 1
    (read_lock 1 1 ∷ []) [] []) ∷ [])) ∷
    marked 0 (Wrote records.Life) ∷ marked 0 (Sent 48 4 (messages.Inquiry (tx 0 3))) ∷ marked 4 (Got 48) ∷
    marked 4 (Sent 49 0 (messages.Decision (tx 0 3) (outcomes.Committed (stamp 3 0)))) ∷ marked 0 (Got 49) ∷
    marked 4 (Called (commands.Do 0 1)) ∷ marked 0 (Wrote (records.Done (tx 0 3) 3)) ∷ marked 4 (Told replies.Doomed) ∷
    marked 4 (Called commands.Commit) ∷ marked 4 (Sent 50 0 (messages.Decision (tx 0 4) outcomes.Aborted)) ∷
    marked 4 (Sent 51 2 (messages.Decision (tx 0 4) outcomes.Aborted)) ∷
    marked 4 (Sent 52 3 (messages.Decision (tx 0 4) outcomes.Aborted)) ∷
    marked 4 (Told (replies.Aborted causes.Doomed)) ∷ marked 3 (Got 52) ∷ marked 2 (Got 51) ∷ marked 0 (Got 50) ∷
    marked 6 (Phase 6) ∷ marked 4 (Called commands.Begin) ∷ marked 4 (Told (replies.Began (tx 0 5))) ∷
    marked 4 (Called (commands.Do 1 2))
    ∷ marked 4 (Sent 53 0 (messages.Request (tx 0 5) 1 0 (wants.Read (first_read 1 2)))) ∷
    marked 4 (Sent 54 2 (messages.Request (tx 0 5) 1 0 (wants.Read (first_read 1 2)))) ∷ marked 0 (Got 53) ∷
    marked 0 (Sent 55 4 (messages.Answer 53 (answers.Granted (whole_grant 2 3 [])))) ∷ marked 4 (Got 55)
    ∷ marked 2 (Got 54) ∷
    marked 2 (Sent 56 4 (messages.Answer 54 (answers.Granted (whole_grant 2 3 [])))) ∷ marked 4 (Got 56) ∷
    marked 4 (Told (replies.Response 2)) ∷ marked 4 (Called commands.Commit) ∷
    marked 4 (Sent 57 0 (messages.Request (tx 0 5) 1 2 wants.Prepare)) ∷
    marked 4 (Sent 58 2 (messages.Request (tx 0 5) 1 2 wants.Prepare)) ∷ marked 0 (Got 57) ∷
    marked 0 (Fell falls.Stop (Some (prepare (tx 0 5) 1 (read_lock 1 2 ∷ []) [] []))) ∷ marked 4 (Lost 57) ∷
    marked 2 (Got 58) ∷ marked 2 (Wrote (prepare (tx 0 5) 1 (read_lock 1 2 ∷ []) [] [])) ∷
    marked 2 (Sent 59 4 (messages.Answer 58 (answers.Yes 3))) ∷ marked 4 (Got 59) ∷
    marked 4 (Sent 60 0 (messages.Decision (tx 0 5) outcomes.Aborted)) ∷
    marked 4 (Sent 61 2 (messages.Decision (tx 0 5) outcomes.Aborted)) ∷
    marked 4 (Told (replies.Aborted (causes.NoAnswer 0))) ∷ marked 2 (Got 61) ∷ []
