-- Random: sites 4, clients 2, steps 194, messages 72, lost 2, commits 2, aborts 1, conflicts 1, short rounds 1, falls
-- 1, rises 1.
use Rattle.std.specs.Prelude.{List, [], ◌∷◌, Some, None, false}
use Rattle.qc_decl.specs.declared.declaration.Declaration.{Declaration}
use Rattle.qc_decl.specs.Vocabulary.{row}
use Rattle.qc_msg.specs.Vocabulary.{Entry, marked}
use Rattle.tests_histories.specs.Words.{tx, stamp, own_line, operation, read_lock, prepare, commit, declaration, kind}
use Rattle.tests_histories.specs.Words.{pair, plan}
use Rattle.qc_msg.specs.declared.step.Step.TheVariants.{Phase, Called, Got, Lost, Wrote, Sent, Told, Armed, Fell, Rose}
use Rattle.qc_msg.specs.declared.turn.Appended.TheVariants.{Done}
use Rattle.tests_falls.specs.Perform.{Move, Begins, Acts, Takes, Posts, Rises}
use Rattle.qc_msg.specs.declared.message.Answer.TheVariants as answers
use Rattle.qc_msg.specs.declared.reply.AbortCause.TheVariants as causes
use Rattle.qc_msg.specs.declared.step.Command.TheVariants as commands
use Rattle.qc_msg.specs.declared.reply.Half.TheVariants as halves
use Rattle.qc_msg.specs.declared.message.Message.TheVariants as messages
use Rattle.qc_msg.specs.declared.message.Outcome.TheVariants as outcomes
use Rattle.qc_msg.specs.declared.record.Record.TheVariants as records
use Rattle.qc_msg.specs.declared.reply.Reply.TheVariants as replies
use Rattle.qc_msg.specs.declared.message.Want.TheVariants as wants
use Rattle.qc_msg.specs.declared.step.Fall.TheVariants as falls
use Rattle.qc_msg.specs.Vocabulary.{whole_grant, first_read}
use Rattle.qc_outside.specs.declared.disk.ArmKind.TheVariants as arms

abbrev pub decl : Declaration
decl =
    declaration 4 2 (kind 3 3 5 0 (row 0 0 0 1 ∷ row 1 0 0 2 ∷ row 2 0 1 2 ∷ row 0 1 1 0 ∷ row 1 1 0 0 ∷ row 2 1 0 1 ∷
    row 0 2 2 0 ∷ row 1 2 3 1 ∷ row 2 2 4 2 ∷ []) (pair 0 0 ∷ pair 0 3 ∷ pair 1 0 ∷ pair 1 3 ∷ pair 2 0 ∷ pair 2 3 ∷ [])
    ∷ kind 7 3 4 0 (row 0 0 0 1 ∷ row 0 1 0 2 ∷ row 1 0 0 3 ∷ row 1 1 0 4 ∷ row 2 0 0 5 ∷ row 2 1 0 6 ∷ row 0 2 3 0 ∷
    row 1 2 1 0 ∷ row 2 2 2 0 ∷ row 3 2 1 1 ∷ row 4 2 1 2 ∷ row 5 2 2 1 ∷ row 6 2 2 2 ∷ []) (pair 0 0 ∷ pair 0 1 ∷ pair
    0 3 ∷ pair 0 4 ∷ pair 1 0 ∷ pair 1 1 ∷ pair 1 2 ∷ pair 1 3 ∷ pair 1 4 ∷ pair 2 0 ∷ pair 2 1 ∷ pair 2 3 ∷ pair 2 4 ∷
    []) ∷ []) (1 ∷ 0 ∷ []) (plan (1 ∷ 1 ∷ 1 ∷ 1 ∷ []) ((4 ∷ 1 ∷ 2 ∷ []) ∷ (4 ∷ 2 ∷ 1 ∷ []) ∷ []) ((4 ∷ 4 ∷ 4 ∷ 4 ∷ 4 ∷
    []) ∷ (4 ∷ 2 ∷ 2 ∷ 4 ∷ 2 ∷ 1 ∷ 0 ∷ []) ∷ []) ∷ [])

abbrev pub moves : List Move
moves =
    Begins ∷ Acts ∷ Rises false Done ∷ Begins ∷ Acts ∷ Takes 4 ∷ Posts 4 Done ∷ Takes 5 ∷ Posts 5 Done ∷ Takes 4 ∷
    Posts 4 Done ∷ Takes 0 ∷ Posts 0 Done ∷ Takes 1 ∷ Posts 1 Done ∷ Takes 2 ∷ Posts 2 Done ∷ Takes 3 ∷ Posts 3 Done ∷
    Takes 4 ∷ Posts 4 Done ∷ Takes 4 ∷ Posts 4 Done ∷ Takes 4 ∷ Posts 4 Done ∷ Takes 4 ∷ Posts 4 Done ∷ Takes 0 ∷
    Posts 0 Done ∷ Takes 2 ∷ Posts 2 Done ∷ Takes 3 ∷ Posts 3 Done ∷ Takes 4 ∷ Posts 4 Done ∷ Takes 4 ∷ Posts 4 Done ∷
    Takes 4 ∷ Posts 4 Done ∷ Takes 4 ∷ Posts 4 Done ∷ Takes 5 ∷ Posts 5 Done ∷ Takes 1 ∷ Posts 1 Done ∷ Takes 2 ∷
    Posts 2 Done ∷ Takes 5 ∷ Posts 5 Done ∷ Takes 5 ∷ Posts 5 Done ∷ Takes 2 ∷ Posts 2 Done ∷ Takes 5 ∷ Posts 5 Done ∷
    Takes 5 ∷ Posts 5 Done ∷ Takes 3 ∷ Posts 3 Done ∷ Takes 5 ∷ Posts 5 Done ∷ Takes 4 ∷ Posts 4 Done ∷ Takes 5 ∷
    Posts 5 Done ∷ Takes 1 ∷ Posts 1 Done ∷ Takes 5 ∷ Posts 5 Done ∷ Takes 1 ∷ Posts 1 Done ∷ Takes 2 ∷ Posts 2 Done ∷
    Takes 3 ∷ Posts 3 Done ∷ Takes 0 ∷ Posts 0 Done ∷ Takes 5 ∷ Posts 5 Done ∷ Takes 4 ∷ Posts 4 Done ∷ Takes 5 ∷
    Posts 5 Done ∷ Takes 4 ∷ Posts 4 Done ∷ Takes 5 ∷ Posts 5 Done ∷ Takes 4 ∷ Posts 4 Done ∷ Takes 5 ∷ Posts 5 Done ∷
    Takes 4 ∷ Posts 4 Done ∷ Takes 1 ∷ Posts 1 Done ∷ Takes 2 ∷ Posts 2 Done ∷ Takes 3 ∷ Posts 3 Done ∷ Takes 0 ∷
    Posts 0 Done ∷ Takes 4 ∷ Posts 4 Done ∷ Takes 5 ∷ Posts 5 Done ∷ Takes 4 ∷ Posts 4 Done ∷ Takes 0 ∷ Posts 0 Done ∷
    Takes 1 ∷ Posts 1 Done ∷ Takes 2 ∷ Posts 2 Done ∷ Takes 3 ∷ Posts 3 Done ∷ Takes 5 ∷ Posts 5 Done ∷ Takes 5 ∷
    Posts 5 Done ∷ Takes 0 ∷ Posts 0 Done ∷ Takes 1 ∷ Posts 1 Done ∷ Takes 2 ∷ Posts 2 Done ∷ Takes 3 ∷ Posts 3 Done ∷
    Begins ∷ Acts ∷ Takes 4 ∷ Posts 4 Done ∷ Takes 5 ∷ Posts 5 Done ∷ Takes 4 ∷ Posts 4 Done ∷ Takes 5 ∷ Posts 5 Done ∷
    Takes 1 ∷ Posts 1 Done ∷ Takes 5 ∷ Posts 5 Done ∷ Takes 1 ∷ Posts 1 Done ∷ Takes 2 ∷ Posts 2 Done ∷ Takes 3 ∷
    Posts 3 Done ∷ Takes 0 ∷ Posts 0 Done ∷ Takes 5 ∷ Posts 5 Done ∷ Takes 5 ∷ Posts 5 Done ∷ Takes 5 ∷ Posts 5 Done ∷
    Takes 5 ∷ Posts 5 Done ∷ Takes 5 ∷ Posts 5 Done ∷ Takes 1 ∷ Posts 1 Done ∷ Takes 2 ∷ Posts 2 Done ∷ Takes 3 ∷
    Posts 3 Done ∷ Takes 0 ∷ Posts 0 Done ∷ Takes 5 ∷ Posts 5 Done ∷ Takes 5 ∷ Posts 5 Done ∷ Takes 5 ∷ Posts 5 Done ∷
    Takes 5 ∷ Posts 5 Done ∷ Takes 0 ∷ Posts 0 Done ∷ Takes 1 ∷ Posts 1 Done ∷ Takes 2 ∷ Posts 2 Done ∷ Takes 3 ∷
    Posts 3 Done ∷ []

abbrev pub history : List Entry
history =
    marked 7 (Phase 1) ∷ marked 2 (Fell falls.Script None) ∷ marked 2 (Rose []) ∷ marked 2 (Wrote records.Life) ∷
    marked 7 (Phase 2) ∷ marked 7 (Armed 0 arms.Stop 2) ∷ marked 4 (Called commands.Begin) ∷
    marked 4 (Told (replies.Began (tx 0 1))) ∷ marked 5 (Called commands.Begin) ∷
    marked 5 (Told (replies.Began (tx 1 1))) ∷ marked 4 (Called (commands.Do 0 0)) ∷
    marked 4 (Sent 0 0 (messages.Request (tx 0 1) 1 0 (wants.Read (first_read 0 0)))) ∷
    marked 4 (Sent 1 1 (messages.Request (tx 0 1) 1 0 (wants.Read (first_read 0 0)))) ∷
    marked 4 (Sent 2 2 (messages.Request (tx 0 1) 1 0 (wants.Read (first_read 0 0)))) ∷
    marked 4 (Sent 3 3 (messages.Request (tx 0 1) 1 0 (wants.Read (first_read 0 0)))) ∷ marked 0 (Got 0) ∷
    marked 0 (Sent 4 4 (messages.Answer 0 (answers.Granted (whole_grant 1 0 [])))) ∷ marked 1 (Got 1) ∷
    marked 1 (Sent 5 4 (messages.Answer 1 (answers.Granted (whole_grant 1 0 [])))) ∷ marked 2 (Got 2) ∷
    marked 2 (Sent 6 4 (messages.Answer 2 (answers.Granted (whole_grant 2 0 [])))) ∷ marked 3 (Got 3) ∷
    marked 3 (Sent 7 4 (messages.Answer 3 (answers.Granted (whole_grant 1 0 [])))) ∷ marked 4 (Got 4) ∷ marked 4 (Got 5)
    ∷
    marked 4 (Got 6) ∷ marked 4 (Got 7) ∷
    marked 4 (Sent 8 0 (messages.Request (tx 0 1) 1 1 (wants.Append 0 [] (own_line 1 0 0 ∷ [])))) ∷
    marked 4 (Sent 9 1 (messages.Request (tx 0 1) 1 1 (wants.Append 0 [] (own_line 1 0 0 ∷ [])))) ∷
    marked 4 (Sent 10 2 (messages.Request (tx 0 1) 1 2 (wants.Append 0 [] (own_line 1 0 0 ∷ [])))) ∷
    marked 4 (Sent 11 3 (messages.Request (tx 0 1) 1 1 (wants.Append 0 [] (own_line 1 0 0 ∷ [])))) ∷ marked 0 (Got 8) ∷
    marked 0 (Sent 12 4 (messages.Answer 8 (answers.Granted (whole_grant 1 0 [])))) ∷ marked 2 (Got 10) ∷
    marked 2 (Sent 13 4 (messages.Answer 10 (answers.Granted (whole_grant 2 0 [])))) ∷ marked 3 (Got 11) ∷
    marked 3 (Sent 14 4 (messages.Answer 11 (answers.Granted (whole_grant 1 0 [])))) ∷ marked 4 (Got 12)
    ∷ marked 4 (Got 13) ∷
    marked 4 (Got 14) ∷ marked 4 (Lost 9) ∷ marked 4 (Told (replies.Quorum halves.Append 3 4)) ∷
    marked 5 (Called (commands.Do 1 1))
    ∷ marked 5 (Sent 15 1 (messages.Request (tx 1 1) 1 0 (wants.Read (first_read 1 1)))) ∷
    marked 5 (Sent 16 2 (messages.Request (tx 1 1) 1 0 (wants.Read (first_read 1 1)))) ∷ marked 1 (Got 15) ∷
    marked 1 (Sent 17 5 (messages.Answer 15 (answers.Granted (whole_grant 1 0 [])))) ∷ marked 2 (Got 16) ∷
    marked 2 (Sent 18 5 (messages.Answer 16 (answers.Granted (whole_grant 2 0 [])))) ∷ marked 5 (Got 17)
    ∷ marked 5 (Got 18) ∷
    marked 5 (Sent 19 1 (messages.Request (tx 1 1) 1 1 (wants.Append 1 [] (own_line 1 1 2 ∷ [])))) ∷
    marked 5 (Sent 20 2 (messages.Request (tx 1 1) 1 2 (wants.Append 1 [] (own_line 1 1 2 ∷ [])))) ∷ marked 2 (Got 20) ∷
    marked 2 (Sent 21 5 (messages.Answer 20 (answers.Granted (whole_grant 2 0 [])))) ∷ marked 5 (Got 21)
    ∷ marked 5 (Lost 19) ∷
    marked 5 (Sent 22 3 (messages.Request (tx 1 1) 1 0 (wants.Append 1 [] (own_line 1 1 2 ∷ [])))) ∷ marked 3 (Got 22) ∷
    marked 3 (Sent 23 5 (messages.Answer 22 (answers.Granted (whole_grant 1 0 [])))) ∷ marked 5 (Got 23) ∷
    marked 5 (Told (replies.Response 1)) ∷ marked 4 (Called (commands.Do 0 1)) ∷ marked 4 (Told replies.Doomed) ∷
    marked 5 (Called (commands.Do 0 1))
    ∷ marked 5 (Sent 24 1 (messages.Request (tx 1 1) 1 1 (wants.Read (first_read 0 1)))) ∷
    marked 1 (Got 24) ∷ marked 1 (Sent 25 5 (messages.Answer 24 (answers.Granted (whole_grant 1 0 []))))
    ∷ marked 5 (Got 25) ∷
    marked 5 (Sent 26 1 (messages.Request (tx 1 1) 1 1 (wants.Append 0 [] (own_line 2 0 1 ∷ [])))) ∷
    marked 5 (Sent 27 2 (messages.Request (tx 1 1) 1 2 (wants.Append 0 [] (own_line 2 0 1 ∷ [])))) ∷
    marked 5 (Sent 28 3 (messages.Request (tx 1 1) 1 1 (wants.Append 0 [] (own_line 2 0 1 ∷ [])))) ∷
    marked 5 (Sent 29 0 (messages.Request (tx 1 1) 1 0 (wants.Append 0 [] (own_line 2 0 1 ∷ [])))) ∷ marked 1 (Got 26) ∷
    marked 1 (Sent 30 5 (messages.Answer 26 (answers.Clash (tx 0 1) 0 1))) ∷
    marked 1 (Sent 31 4 (messages.Inquiry (tx 0 1))) ∷ marked 2 (Got 27) ∷
    marked 2 (Sent 32 5 (messages.Answer 27 (answers.Clash (tx 0 1) 0 1))) ∷
    marked 2 (Sent 33 4 (messages.Inquiry (tx 0 1))) ∷ marked 3 (Got 28) ∷
    marked 3 (Sent 34 5 (messages.Answer 28 (answers.Clash (tx 0 1) 0 1))) ∷
    marked 3 (Sent 35 4 (messages.Inquiry (tx 0 1))) ∷ marked 0 (Got 29) ∷
    marked 0 (Sent 36 5 (messages.Answer 29 (answers.Clash (tx 0 1) 0 1))) ∷
    marked 0 (Sent 37 4 (messages.Inquiry (tx 0 1))) ∷ marked 5 (Got 30) ∷ marked 4 (Got 31) ∷
    marked 4 (Sent 38 1 (messages.Decision (tx 0 1) outcomes.Active)) ∷ marked 5 (Got 32) ∷ marked 4 (Got 33) ∷
    marked 4 (Sent 39 2 (messages.Decision (tx 0 1) outcomes.Active)) ∷ marked 5 (Got 34) ∷ marked 4 (Got 35) ∷
    marked 4 (Sent 40 3 (messages.Decision (tx 0 1) outcomes.Active)) ∷ marked 5 (Got 36) ∷
    marked 5 (Told (replies.Conflict (tx 0 1) 1)) ∷ marked 4 (Got 37) ∷
    marked 4 (Sent 41 0 (messages.Decision (tx 0 1) outcomes.Active)) ∷ marked 1 (Got 38) ∷ marked 2 (Got 39) ∷
    marked 3 (Got 40) ∷ marked 0 (Got 41) ∷ marked 4 (Called (commands.Do 1 2)) ∷ marked 4 (Told replies.Doomed) ∷
    marked 5 (Called (commands.Do 0 0)) ∷ marked 5 (Told replies.Doomed) ∷ marked 4 (Called commands.Commit) ∷
    marked 4 (Sent 42 0 (messages.Decision (tx 0 1) outcomes.Aborted)) ∷
    marked 4 (Sent 43 1 (messages.Decision (tx 0 1) outcomes.Aborted)) ∷
    marked 4 (Sent 44 2 (messages.Decision (tx 0 1) outcomes.Aborted)) ∷
    marked 4 (Sent 45 3 (messages.Decision (tx 0 1) outcomes.Aborted)) ∷
    marked 4 (Told (replies.Aborted causes.Doomed)) ∷ marked 0 (Got 42) ∷ marked 1 (Got 43) ∷ marked 2 (Got 44) ∷
    marked 3 (Got 45) ∷ marked 5 (Called (commands.Do 0 2)) ∷ marked 5 (Told replies.Doomed) ∷
    marked 5 (Called commands.Abort) ∷ marked 5 (Sent 46 0 (messages.Decision (tx 1 1) outcomes.Aborted)) ∷
    marked 5 (Sent 47 1 (messages.Decision (tx 1 1) outcomes.Aborted)) ∷
    marked 5 (Sent 48 2 (messages.Decision (tx 1 1) outcomes.Aborted)) ∷
    marked 5 (Sent 49 3 (messages.Decision (tx 1 1) outcomes.Aborted)) ∷ marked 5 (Told replies.Dropped) ∷
    marked 0 (Got 46) ∷ marked 1 (Got 47) ∷ marked 2 (Got 48) ∷ marked 3 (Got 49) ∷ marked 7 (Phase 3) ∷
    marked 7 (Armed 5 arms.Stop 4) ∷ marked 4 (Called commands.Begin) ∷ marked 4 (Told (replies.Began (tx 0 2))) ∷
    marked 5 (Called commands.Begin) ∷ marked 5 (Told (replies.Began (tx 1 2))) ∷ marked 4 (Called commands.Commit) ∷
    marked 4 (Wrote (commit (stamp 1 0) (tx 0 2) [])) ∷ marked 4 (Told (replies.Committed (stamp 1 0))) ∷
    marked 5 (Called (commands.Do 0 1))
    ∷ marked 5 (Sent 50 1 (messages.Request (tx 1 2) 1 0 (wants.Read (first_read 0 1)))) ∷
    marked 1 (Got 50) ∷ marked 1 (Sent 51 5 (messages.Answer 50 (answers.Granted (whole_grant 1 0 []))))
    ∷ marked 5 (Got 51) ∷
    marked 5 (Sent 52 1 (messages.Request (tx 1 2) 1 1 (wants.Append 0 [] (own_line 1 0 1 ∷ [])))) ∷
    marked 5 (Sent 53 2 (messages.Request (tx 1 2) 1 0 (wants.Append 0 [] (own_line 1 0 1 ∷ [])))) ∷
    marked 5 (Sent 54 3 (messages.Request (tx 1 2) 1 0 (wants.Append 0 [] (own_line 1 0 1 ∷ [])))) ∷
    marked 5 (Sent 55 0 (messages.Request (tx 1 2) 1 0 (wants.Append 0 [] (own_line 1 0 1 ∷ [])))) ∷ marked 1 (Got 52) ∷
    marked 1 (Sent 56 5 (messages.Answer 52 (answers.Granted (whole_grant 1 0 [])))) ∷ marked 2 (Got 53) ∷
    marked 2 (Sent 57 5 (messages.Answer 53 (answers.Granted (whole_grant 2 0 [])))) ∷ marked 3 (Got 54) ∷
    marked 3 (Sent 58 5 (messages.Answer 54 (answers.Granted (whole_grant 1 0 [])))) ∷ marked 0 (Got 55) ∷
    marked 0 (Sent 59 5 (messages.Answer 55 (answers.Granted (whole_grant 1 0 [])))) ∷ marked 5 (Got 56)
    ∷ marked 5 (Got 57) ∷
    marked 5 (Got 58) ∷ marked 5 (Got 59) ∷ marked 5 (Told (replies.Response 0)) ∷ marked 5 (Called commands.Commit) ∷
    marked 5 (Sent 60 1 (messages.Request (tx 1 2) 1 1 wants.Prepare)) ∷
    marked 5 (Sent 61 2 (messages.Request (tx 1 2) 1 2 wants.Prepare)) ∷
    marked 5 (Sent 62 3 (messages.Request (tx 1 2) 1 1 wants.Prepare)) ∷
    marked 5 (Sent 63 0 (messages.Request (tx 1 2) 1 1 wants.Prepare)) ∷ marked 1 (Got 60) ∷
    marked 1 (Wrote (prepare (tx 1 2) 1 (read_lock 0 1 ∷ []) (own_line 1 0 1 ∷ []) [])) ∷
    marked 1 (Sent 64 5 (messages.Answer 60 (answers.Yes 0))) ∷ marked 2 (Got 61) ∷
    marked 2 (Wrote (prepare (tx 1 2) 1 [] (own_line 1 0 1 ∷ []) [])) ∷
    marked 2 (Sent 65 5 (messages.Answer 61 (answers.Yes 0))) ∷ marked 3 (Got 62) ∷
    marked 3 (Wrote (prepare (tx 1 2) 1 [] (own_line 1 0 1 ∷ []) [])) ∷
    marked 3 (Sent 66 5 (messages.Answer 62 (answers.Yes 0))) ∷ marked 0 (Got 63) ∷
    marked 0 (Wrote (prepare (tx 1 2) 1 [] (own_line 1 0 1 ∷ []) [])) ∷
    marked 0 (Sent 67 5 (messages.Answer 63 (answers.Yes 0))) ∷ marked 5 (Got 64) ∷ marked 5 (Got 65) ∷
    marked 5 (Got 66) ∷ marked 5 (Got 67) ∷
    marked 5 (Wrote (commit (stamp 1 1) (tx 1 2) (operation 0 1 (Some 0) ∷ []))) ∷
    marked 5 (Sent 68 0 (messages.Decision (tx 1 2) (outcomes.Committed (stamp 1 1)))) ∷
    marked 5 (Sent 69 1 (messages.Decision (tx 1 2) (outcomes.Committed (stamp 1 1)))) ∷
    marked 5 (Sent 70 2 (messages.Decision (tx 1 2) (outcomes.Committed (stamp 1 1)))) ∷
    marked 5 (Sent 71 3 (messages.Decision (tx 1 2) (outcomes.Committed (stamp 1 1)))) ∷
    marked 5 (Told (replies.Committed (stamp 1 1))) ∷ marked 0 (Got 68) ∷ marked 0 (Wrote (records.Done (tx 1 2) 1)) ∷
    marked 1 (Got 69) ∷ marked 1 (Wrote (records.Done (tx 1 2) 1)) ∷ marked 2 (Got 70) ∷
    marked 2 (Wrote (records.Done (tx 1 2) 1)) ∷ marked 3 (Got 71) ∷ marked 3 (Wrote (records.Done (tx 1 2) 1)) ∷ []
