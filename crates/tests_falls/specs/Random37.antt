-- Random: sites 2, clients 2, steps 194, messages 58, cuts 1, commits 3, aborts 2, conflicts 5, absent 3, falls 1,
-- rises 1.
use Rattle.std.specs.Prelude.{List, [], ◌∷◌, Some, None, false}
use Rattle.qc_decl.specs.declared.declaration.Declaration.{Declaration}
use Rattle.qc_decl.specs.Vocabulary.{row}
use Rattle.qc_msg.specs.Vocabulary.{Entry, marked}
use Rattle.tests_histories.specs.Words.{tx, stamp, line, own_line, operation, read_lock, prepare, commit, declaration}
use Rattle.tests_histories.specs.Words.{kind, pair, plan}
use Rattle.qc_msg.specs.declared.step.Step.TheVariants.{Phase, Cut, Heal, Called, Got, Wrote, Sent, Told, Armed, Fell}
use Rattle.qc_msg.specs.declared.step.Step.TheVariants.{Rose}
use Rattle.qc_msg.specs.declared.turn.Appended.TheVariants.{Done}
use Rattle.tests_falls.specs.Words.{tx_in}
use Rattle.tests_falls.specs.Perform.{Move, Begins, Acts, Takes, Posts, Rises}
use Rattle.qc_msg.specs.declared.message.Answer.TheVariants as answers
use Rattle.qc_msg.specs.declared.reply.AbortCause.TheVariants as causes
use Rattle.qc_msg.specs.declared.step.Command.TheVariants as commands
use Rattle.qc_msg.specs.declared.message.Message.TheVariants as messages
use Rattle.qc_msg.specs.declared.message.Outcome.TheVariants as outcomes
use Rattle.qc_msg.specs.declared.record.Record.TheVariants as records
use Rattle.qc_msg.specs.declared.reply.Reply.TheVariants as replies
use Rattle.qc_msg.specs.declared.message.Want.TheVariants as wants
use Rattle.qc_msg.specs.declared.step.Fall.TheVariants as falls
use Rattle.qc_msg.specs.Vocabulary.{whole_grant, first_read}
use Rattle.qc_outside.specs.declared.disk.ArmKind.TheVariants as arms

abbrev pub decl : Declaration
decl =
    declaration 2 2 (kind 3 1 2 0 (row 0 0 0 1 ∷ row 0 0 1 0 ∷ row 1 0 1 1 ∷ row 1 0 0 1 ∷ []) [] ∷ kind 3 3 3 0 (row 0
    0 0 1 ∷ row 0 0 1 2 ∷ row 1 1 0 1 ∷ row 2 1 1 2 ∷ row 1 2 2 0 ∷ row 2 2 2 0 ∷ row 0 2 2 0 ∷ []) (pair 0 0 ∷ pair 0 1
    ∷ pair 0 4 ∷ pair 1 0 ∷ pair 1 1 ∷ pair 1 4 ∷ []) ∷ []) (1 ∷ []) (plan (1 ∷ 2 ∷ []) ((2 ∷ 2 ∷ 0 ∷ []) ∷ []) ((2 ∷ 2
    ∷ 0 ∷ 0 ∷ 2 ∷ []) ∷ []) ∷ [])

abbrev pub moves : List Move
moves =
    Begins ∷ Acts ∷ Takes 2 ∷ Posts 2 Done ∷ Takes 2 ∷ Posts 2 Done ∷ Takes 0 ∷ Posts 0 Done ∷ Takes 2 ∷ Posts 2 Done ∷
    Takes 1 ∷ Posts 1 Done ∷ Takes 2 ∷ Posts 2 Done ∷ Takes 2 ∷ Posts 2 Done ∷ Takes 0 ∷ Takes 1 ∷ Posts 0 Done ∷
    Posts 1 Done ∷ Takes 1 ∷ Posts 1 Done ∷ Takes 2 ∷ Posts 2 Done ∷ Takes 2 ∷ Posts 2 Done ∷ Takes 2 ∷ Posts 2 Done ∷
    Takes 2 ∷ Posts 2 Done ∷ Takes 1 ∷ Posts 1 Done ∷ Takes 0 ∷ Posts 0 Done ∷ Takes 2 ∷ Posts 2 Done ∷ Takes 2 ∷
    Posts 2 Done ∷ Takes 0 ∷ Posts 0 Done ∷ Takes 1 ∷ Posts 1 Done ∷ Begins ∷ Acts ∷ Acts ∷ Acts ∷ Acts ∷ Takes 3 ∷
    Posts 3 Done ∷ Takes 3 ∷ Posts 3 Done ∷ Takes 1 ∷ Posts 1 Done ∷ Takes 3 ∷ Posts 3 Done ∷ Takes 3 ∷ Posts 3 Done ∷
    Takes 1 ∷ Posts 1 Done ∷ Takes 3 ∷ Posts 3 Done ∷ Takes 3 ∷ Posts 3 Done ∷ Takes 1 ∷ Posts 1 Done ∷ Takes 3 ∷
    Posts 3 Done ∷ Begins ∷ Acts ∷ Acts ∷ Takes 2 ∷ Posts 2 Done ∷ Takes 2 ∷ Posts 2 Done ∷ Takes 2 ∷ Posts 2 Done ∷
    Takes 2 ∷ Posts 2 Done ∷ Takes 2 ∷ Posts 2 Done ∷ Begins ∷ Rises false Done ∷ Acts ∷ Takes 2 ∷ Posts 2 Done ∷
    Takes 2 ∷ Posts 2 Done ∷ Takes 0 ∷ Posts 0 Done ∷ Takes 2 ∷ Posts 2 Done ∷ Takes 1 ∷ Posts 1 Done ∷ Takes 2 ∷
    Posts 2 Done ∷ Takes 2 ∷ Takes 3 ∷ Posts 3 Done ∷ Posts 2 Done ∷ Takes 0 ∷ Posts 0 Done ∷ Takes 2 ∷ Posts 2 Done ∷
    Takes 1 ∷ Posts 1 Done ∷ Takes 1 ∷ Posts 1 Done ∷ Takes 2 ∷ Takes 3 ∷ Posts 3 Done ∷ Posts 2 Done ∷ Takes 2 ∷
    Takes 1 ∷ Posts 1 Done ∷ Posts 2 Done ∷ Takes 0 ∷ Posts 0 Done ∷ Takes 1 ∷ Posts 1 Done ∷ Begins ∷ Acts ∷ Takes 3 ∷
    Takes 2 ∷ Posts 2 Done ∷ Takes 2 ∷ Posts 2 Done ∷ Takes 1 ∷ Posts 1 Done ∷ Takes 2 ∷ Posts 2 Done ∷ Takes 0 ∷
    Posts 0 Done ∷ Takes 2 ∷ Posts 2 Done ∷ Takes 2 ∷ Posts 2 Done ∷ Takes 1 ∷ Posts 1 Done ∷ Takes 2 ∷ Posts 2 Done ∷
    Posts 3 Done ∷ Takes 1 ∷ Posts 1 Done ∷ Takes 3 ∷ Posts 3 Done ∷ Takes 1 ∷ Posts 1 Done ∷ Takes 3 ∷ Posts 3 Done ∷
    Takes 1 ∷ Posts 1 Done ∷ Takes 0 ∷ Posts 0 Done ∷ Takes 2 ∷ Takes 3 ∷ Posts 2 Done ∷ Takes 2 ∷ Posts 2 Done ∷
    Takes 1 ∷ Posts 1 Done ∷ Takes 2 ∷ Posts 2 Done ∷ Posts 3 Done ∷ Takes 1 ∷ Posts 1 Done ∷ Takes 0 ∷ Posts 0 Done ∷
    Takes 2 ∷ Takes 3 ∷ Posts 2 Done ∷ Takes 2 ∷ Posts 2 Done ∷ Takes 2 ∷ Posts 2 Done ∷ Takes 1 ∷ Posts 1 Done ∷
    Posts 3 Done ∷ Takes 1 ∷ Posts 1 Done ∷ Takes 3 ∷ Takes 0 ∷ Posts 0 Done ∷ Posts 3 Done ∷ Takes 3 ∷ Posts 3 Done ∷
    []

abbrev pub history : List Entry
history =
    marked 5 (Phase 1) ∷ marked 5 (Armed 3 arms.Fail 3) ∷ marked 2 (Called commands.Begin) ∷
    marked 2 (Told (replies.Began (tx 0 1))) ∷ marked 2 (Called (commands.Do 0 1)) ∷
    marked 2 (Sent 0 0 (messages.Request (tx 0 1) 1 0 (wants.Read (first_read 0 1)))) ∷
    marked 2 (Sent 1 1 (messages.Request (tx 0 1) 1 0 (wants.Read (first_read 0 1)))) ∷ marked 0 (Got 0) ∷
    marked 0 (Sent 2 2 (messages.Answer 0 (answers.Granted (whole_grant 1 0 [])))) ∷ marked 2 (Got 2) ∷ marked 1 (Got 1)
    ∷
    marked 1 (Sent 3 2 (messages.Answer 1 (answers.Granted (whole_grant 1 0 [])))) ∷ marked 2 (Got 3) ∷
    marked 2 (Told replies.Absent) ∷ marked 2 (Called (commands.Do 0 2)) ∷
    marked 2 (Sent 4 0 (messages.Request (tx 0 1) 1 1 (wants.Append 0 [] (own_line 2 0 4 ∷ [])))) ∷
    marked 2 (Sent 5 1 (messages.Request (tx 0 1) 1 1 (wants.Append 0 [] (own_line 2 0 4 ∷ [])))) ∷ marked 0 (Got 4) ∷
    marked 1 (Got 5) ∷ marked 0 (Sent 6 2 (messages.Answer 4 (answers.Granted (whole_grant 1 0 [])))) ∷
    marked 1 (Sent 7 2 (messages.Answer 5 (answers.Granted (whole_grant 1 0 [])))) ∷ marked 1 (Got 5) ∷
    marked 1 (Sent 8 2 (messages.Answer 5 (answers.Granted (whole_grant 1 0 [])))) ∷ marked 2 (Got 6) ∷ marked 2 (Got 7)
    ∷
    marked 2 (Told (replies.Response 2)) ∷ marked 2 (Got 8) ∷ marked 2 (Called commands.Commit) ∷
    marked 2 (Sent 9 0 (messages.Request (tx 0 1) 1 1 wants.Prepare)) ∷
    marked 2 (Sent 10 1 (messages.Request (tx 0 1) 1 1 wants.Prepare)) ∷ marked 1 (Got 10) ∷
    marked 1 (Wrote (prepare (tx 0 1) 1 (read_lock 0 1 ∷ []) (own_line 2 0 4 ∷ []) [])) ∷
    marked 1 (Sent 11 2 (messages.Answer 10 (answers.Yes 0))) ∷ marked 0 (Got 9) ∷
    marked 0 (Wrote (prepare (tx 0 1) 1 (read_lock 0 1 ∷ []) (own_line 2 0 4 ∷ []) [])) ∷
    marked 0 (Sent 12 2 (messages.Answer 9 (answers.Yes 0))) ∷ marked 2 (Got 11) ∷ marked 2 (Got 12) ∷
    marked 2 (Wrote (commit (stamp 1 0) (tx 0 1) (operation 0 1 None ∷ operation 0 2 (Some 2) ∷ []))) ∷
    marked 2 (Sent 13 0 (messages.Decision (tx 0 1) (outcomes.Committed (stamp 1 0)))) ∷
    marked 2 (Sent 14 1 (messages.Decision (tx 0 1) (outcomes.Committed (stamp 1 0)))) ∷
    marked 2 (Told (replies.Committed (stamp 1 0))) ∷ marked 0 (Got 13) ∷ marked 0 (Wrote (records.Done (tx 0 1) 1)) ∷
    marked 1 (Got 14) ∷ marked 1 (Wrote (records.Done (tx 0 1) 1)) ∷ marked 5 (Phase 2) ∷ marked 5 (Cut 3 0) ∷
    marked 5 (Armed 1 arms.Fail 4) ∷ marked 5 (Armed 2 arms.Stop 4) ∷ marked 2 (Fell falls.Script None) ∷
    marked 3 (Called commands.Begin) ∷ marked 3 (Told (replies.Began (tx 1 1))) ∷ marked 3 (Called (commands.Do 0 2)) ∷
    marked 3 (Sent 15 1 (messages.Request (tx 1 1) 1 0 (wants.Append 0 [] (own_line 1 0 4 ∷ [])))) ∷ marked 1 (Got 15) ∷
    marked 1 (Sent 16 3 (messages.Answer 15 (answers.Granted (whole_grant 1 1 [])))) ∷ marked 3 (Got 16) ∷
    marked 3 (Told (replies.Response 2)) ∷ marked 3 (Called (commands.Do 0 1)) ∷
    marked 3 (Sent 17 1 (messages.Request (tx 1 1) 1 1 (wants.Read (first_read 0 1)))) ∷ marked 1 (Got 17) ∷
    marked 1 (Sent 18 3 (messages.Answer 17 (answers.Granted (whole_grant 1 1 (line 1 0 1 2 0 4 ∷ [])))))
    ∷ marked 3 (Got 18) ∷
    marked 3 (Told replies.Absent) ∷ marked 3 (Called (commands.Do 0 1)) ∷
    marked 3 (Sent 19 1 (messages.Request (tx 1 1) 1 1 (wants.Read (first_read 0 1)))) ∷ marked 1 (Got 19) ∷
    marked 1 (Sent 20 3 (messages.Answer 19 (answers.Granted (whole_grant 1 1 (line 1 0 1 2 0 4 ∷ [])))))
    ∷ marked 3 (Got 20) ∷
    marked 3 (Told replies.Absent) ∷ marked 5 (Phase 3) ∷ marked 5 (Heal 3 0) ∷ marked 5 (Armed 3 arms.Fail 5) ∷
    marked 2 (Called commands.Begin) ∷ marked 2 (Told replies.Down) ∷ marked 2 (Called (commands.Do 0 1)) ∷
    marked 2 (Told replies.Down) ∷ marked 2 (Called (commands.Do 0 1)) ∷ marked 2 (Told replies.Down) ∷
    marked 2 (Called (commands.Do 0 0)) ∷ marked 2 (Told replies.Down) ∷ marked 2 (Called commands.Commit) ∷
    marked 2 (Told replies.Down) ∷ marked 5 (Phase 4) ∷
    marked 2 (Rose ((commit (stamp 1 0) (tx 0 1) (operation 0 1 None ∷ operation 0 2 (Some 2) ∷ [])) ∷ [])) ∷
    marked 2 (Wrote records.Life) ∷ marked 5 (Armed 3 arms.Stop 1) ∷ marked 2 (Called commands.Begin) ∷
    marked 2 (Told (replies.Began (tx_in 0 2 1))) ∷ marked 2 (Called (commands.Do 0 0)) ∷
    marked 2 (Sent 21 0 (messages.Request (tx_in 0 2 1) 1 0 (wants.Read (first_read 0 0)))) ∷
    marked 2 (Sent 22 1 (messages.Request (tx_in 0 2 1) 1 0 (wants.Read (first_read 0 0)))) ∷ marked 0 (Got 21) ∷
    marked 0 (Sent 23 2 (messages.Answer 21 (answers.Granted (whole_grant 1 1 (line 1 0 1 2 0 4 ∷ [])))))
    ∷ marked 2 (Got 23) ∷
    marked 1 (Got 22) ∷ marked 1 (Sent 24 2 (messages.Answer 22 (answers.Clash (tx 1 1) 0 4))) ∷
    marked 1 (Sent 25 3 (messages.Inquiry (tx 1 1))) ∷ marked 2 (Got 24) ∷
    marked 2 (Told (replies.Conflict (tx 1 1) 1)) ∷ marked 2 (Called (commands.Do 0 2)) ∷ marked 3 (Got 25) ∷
    marked 3 (Sent 26 1 (messages.Decision (tx 1 1) outcomes.Active)) ∷
    marked 2 (Sent 27 0 (messages.Request (tx_in 0 2 1) 1 1 (wants.Append 0 (line 1 0 1 2 0 4 ∷ []) (own_line 1 0 4 ∷
    [])))) ∷
    marked 2 (Sent 28 1 (messages.Request (tx_in 0 2 1) 1 0 (wants.Append 0 (line 1 0 1 2 0 4 ∷ []) (own_line 1 0 4 ∷
    [])))) ∷
    marked 0 (Got 27) ∷ marked 0 (Sent 29 2 (messages.Answer 27 (answers.Granted (whole_grant 1 1 []))))
    ∷ marked 2 (Got 29) ∷
    marked 1 (Got 26) ∷ marked 1 (Got 28) ∷ marked 1 (Sent 30 2 (messages.Answer 28 (answers.Clash (tx 1 1) 1 4))) ∷
    marked 1 (Sent 31 3 (messages.Inquiry (tx 1 1))) ∷ marked 2 (Got 30) ∷ marked 3 (Got 31) ∷
    marked 3 (Sent 32 1 (messages.Decision (tx 1 1) outcomes.Active)) ∷ marked 2 (Told (replies.Conflict (tx 1 1) 1)) ∷
    marked 2 (Called commands.Commit) ∷ marked 1 (Got 32) ∷
    marked 2 (Sent 33 0 (messages.Decision (tx_in 0 2 1) outcomes.Aborted)) ∷
    marked 2 (Sent 34 1 (messages.Decision (tx_in 0 2 1) outcomes.Aborted)) ∷
    marked 2 (Told (replies.Aborted causes.Doomed)) ∷ marked 0 (Got 33) ∷ marked 1 (Got 34) ∷ marked 5 (Phase 5) ∷
    marked 5 (Armed 3 arms.Fail 8) ∷ marked 3 (Called commands.Commit) ∷ marked 2 (Called commands.Begin) ∷
    marked 2 (Told (replies.Began (tx_in 0 2 2))) ∷ marked 2 (Called (commands.Do 0 0)) ∷
    marked 2 (Sent 35 0 (messages.Request (tx_in 0 2 2) 1 0 (wants.Read (first_read 0 0)))) ∷
    marked 2 (Sent 36 1 (messages.Request (tx_in 0 2 2) 1 0 (wants.Read (first_read 0 0)))) ∷ marked 1 (Got 36) ∷
    marked 1 (Sent 37 2 (messages.Answer 36 (answers.Clash (tx 1 1) 0 4))) ∷
    marked 1 (Sent 38 3 (messages.Inquiry (tx 1 1))) ∷ marked 2 (Got 37) ∷ marked 0 (Got 35) ∷
    marked 0 (Sent 39 2 (messages.Answer 35 (answers.Granted (whole_grant 1 1 (line 1 0 1 2 0 4 ∷ [])))))
    ∷ marked 2 (Got 39) ∷
    marked 2 (Told (replies.Conflict (tx 1 1) 1)) ∷ marked 2 (Called (commands.Do 0 1)) ∷
    marked 2 (Sent 40 0 (messages.Request (tx_in 0 2 2) 1 1 (wants.Read (first_read 0 1)))) ∷
    marked 2 (Sent 41 1 (messages.Request (tx_in 0 2 2) 1 0 (wants.Read (first_read 0 1)))) ∷ marked 1 (Got 41) ∷
    marked 1 (Sent 42 2 (messages.Answer 41 (answers.Clash (tx 1 1) 1 4))) ∷
    marked 1 (Sent 43 3 (messages.Inquiry (tx 1 1))) ∷ marked 2 (Got 42) ∷
    marked 3 (Sent 44 1 (messages.Request (tx 1 1) 1 1 wants.Prepare)) ∷ marked 1 (Got 44) ∷
    marked 1 (Wrote (prepare (tx 1 1) 1 (read_lock 0 1 ∷ []) (own_line 1 0 4 ∷ []) [])) ∷
    marked 1 (Sent 45 3 (messages.Answer 44 (answers.Yes 1))) ∷ marked 3 (Got 38) ∷
    marked 3 (Sent 46 1 (messages.Decision (tx 1 1) outcomes.Active)) ∷ marked 1 (Got 46) ∷ marked 3 (Got 43) ∷
    marked 3 (Sent 47 1 (messages.Decision (tx 1 1) outcomes.Active)) ∷ marked 1 (Got 47) ∷ marked 0 (Got 40) ∷
    marked 0 (Sent 48 2 (messages.Answer 40 (answers.Granted (whole_grant 1 1 (line 1 0 1 2 0 4 ∷ [])))))
    ∷ marked 2 (Got 48) ∷
    marked 3 (Got 45) ∷ marked 2 (Told (replies.Conflict (tx 1 1) 1)) ∷ marked 2 (Called (commands.Do 0 2)) ∷
    marked 2 (Sent 49 0 (messages.Request (tx_in 0 2 2) 1 1 (wants.Append 0 (line 1 0 1 2 0 4 ∷ []) (own_line 1 0 4 ∷
    [])))) ∷
    marked 2 (Sent 50 1 (messages.Request (tx_in 0 2 2) 1 0 (wants.Append 0 (line 1 0 1 2 0 4 ∷ []) (own_line 1 0 4 ∷
    [])))) ∷
    marked 1 (Got 50) ∷ marked 1 (Sent 51 2 (messages.Answer 50 (answers.Clash (tx 1 1) 1 4))) ∷
    marked 1 (Sent 52 3 (messages.Inquiry (tx 1 1))) ∷ marked 2 (Got 51) ∷
    marked 3 (Wrote (commit (stamp 2 1) (tx 1 1) (operation 0 2 (Some 2) ∷ operation 0 1 None ∷ operation 0 1 None ∷
    []))) ∷
    marked 3 (Sent 53 1 (messages.Decision (tx 1 1) (outcomes.Committed (stamp 2 1)))) ∷
    marked 3 (Told (replies.Committed (stamp 2 1))) ∷ marked 1 (Got 53) ∷ marked 1 (Wrote (records.Done (tx 1 1) 2)) ∷
    marked 0 (Got 49) ∷ marked 0 (Sent 54 2 (messages.Answer 49 (answers.Granted (whole_grant 1 1 []))))
    ∷ marked 2 (Got 54) ∷
    marked 3 (Got 52) ∷ marked 2 (Told (replies.Conflict (tx 1 1) 1)) ∷ marked 2 (Called (commands.Do 0 0)) ∷
    marked 2 (Told replies.Doomed) ∷ marked 2 (Called commands.Commit) ∷
    marked 2 (Sent 55 0 (messages.Decision (tx_in 0 2 2) outcomes.Aborted)) ∷
    marked 2 (Sent 56 1 (messages.Decision (tx_in 0 2 2) outcomes.Aborted)) ∷
    marked 2 (Told (replies.Aborted causes.Doomed)) ∷ marked 1 (Got 56) ∷
    marked 3 (Sent 57 1 (messages.Decision (tx 1 1) (outcomes.Committed (stamp 2 1)))) ∷ marked 1 (Got 57) ∷
    marked 3 (Called commands.Begin) ∷ marked 0 (Got 55) ∷ marked 3 (Told (replies.Began (tx 1 2))) ∷
    marked 3 (Called commands.Commit) ∷ marked 3 (Wrote (commit (stamp 3 1) (tx 1 2) [])) ∷
    marked 3 (Told (replies.Committed (stamp 3 1))) ∷ []
