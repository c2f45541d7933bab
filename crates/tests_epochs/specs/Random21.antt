-- Random: sites 2, clients 4, steps 176, messages 47, lost 8, commits 3, aborts 4, conflicts 2, short rounds 3, falls
-- 7, rises 4, unwritten records 3.
use Rattle.std.specs.Prelude.{List, [], ◌∷◌, Some, None}
use Rattle.qc_decl.specs.declared.declaration.Declaration.{Declaration}
use Rattle.qc_decl.specs.Vocabulary.{row}
use Rattle.qc_msg.specs.Vocabulary.{Entry, marked}
use Rattle.tests_histories.specs.Words.{tx, stamp, own_line, operation, read_lock, prepare, commit, declaration, kind}
use Rattle.tests_histories.specs.Words.{pair, plan}
use Rattle.qc_msg.specs.declared.step.Step.TheVariants.{Phase, Called, Got, Lost, Wrote, Sent, Told, Armed, Fell, Rose}
use Rattle.tests_epochs.specs.Words.{tx_in}
use Rattle.qc_msg.specs.declared.message.Answer.TheVariants as answers
use Rattle.qc_msg.specs.declared.reply.AbortCause.TheVariants as causes
use Rattle.qc_msg.specs.declared.step.Command.TheVariants as commands
use Rattle.qc_msg.specs.declared.reply.Half.TheVariants as halves
use Rattle.qc_msg.specs.declared.message.Message.TheVariants as messages
use Rattle.qc_msg.specs.declared.message.Outcome.TheVariants as outcomes
use Rattle.qc_msg.specs.declared.record.Record.TheVariants as records
use Rattle.qc_msg.specs.declared.reply.Reply.TheVariants as replies
use Rattle.qc_msg.specs.declared.message.Want.TheVariants as wants
use Rattle.qc_msg.specs.declared.step.Fall.TheVariants as falls
use Rattle.qc_msg.specs.Vocabulary.{whole_grant, first_read}
use Rattle.qc_outside.specs.declared.disk.ArmKind.TheVariants as arms

abbrev pub decl : Declaration
decl =
    declaration 2 4 (kind 2 2 3 0 (row 0 0 0 1 ∷ row 1 0 1 1 ∷ row 0 1 2 0 ∷ row 1 1 2 0 ∷ []) (pair 0 0 ∷ pair 0 2 ∷
    []) ∷ []) (0 ∷ []) (plan (1 ∷ 3 ∷ []) ((3 ∷ 0 ∷ []) ∷ []) ((2 ∷ 0 ∷ 2 ∷ []) ∷ []) ∷ [])

abbrev pub history : List Entry
history =
    marked 7 (Phase 1) ∷ marked 0 (Fell falls.Script None) ∷ marked 0 (Rose []) ∷
    marked 0 (Fell falls.Disk (Some records.Life)) ∷ marked 5 (Fell falls.Script None) ∷
    marked 5 (Called commands.Begin) ∷ marked 4 (Called commands.Begin) ∷ marked 3 (Called commands.Begin) ∷
    marked 3 (Told (replies.Began (tx 1 1))) ∷ marked 3 (Called (commands.Do 0 1)) ∷
    marked 4 (Told (replies.Began (tx 2 1))) ∷ marked 4 (Called (commands.Do 0 1)) ∷
    marked 4 (Sent 0 0 (messages.Request (tx 2 1) 1 0 (wants.Append 0 [] (own_line 1 0 2 ∷ [])))) ∷
    marked 4 (Sent 1 1 (messages.Request (tx 2 1) 1 0 (wants.Append 0 [] (own_line 1 0 2 ∷ [])))) ∷ marked 1 (Got 1) ∷
    marked 4 (Lost 0) ∷ marked 1 (Sent 2 4 (messages.Answer 1 (answers.Granted (whole_grant 1 0 [])))) ∷
    marked 4 (Got 2)
    ∷
    marked 3 (Sent 3 1 (messages.Request (tx 1 1) 1 0 (wants.Append 0 [] (own_line 1 0 2 ∷ [])))) ∷
    marked 5 (Told replies.Down) ∷ marked 1 (Got 3) ∷ marked 5 (Called (commands.Do 0 0)) ∷
    marked 1 (Sent 4 3 (messages.Answer 3 (answers.Granted (whole_grant 1 0 [])))) ∷ marked 5 (Told replies.Down) ∷
    marked 5 (Called (commands.Do 0 0)) ∷ marked 3 (Got 4) ∷ marked 3 (Told (replies.Response 2)) ∷
    marked 3 (Called (commands.Do 0 0)) ∷ marked 4 (Told (replies.Response 2)) ∷ marked 4 (Called (commands.Do 0 0)) ∷
    marked 4 (Sent 5 0 (messages.Request (tx 2 1) 1 0 (wants.Read (first_read 0 0)))) ∷
    marked 4 (Sent 6 1 (messages.Request (tx 2 1) 1 1 (wants.Read (first_read 0 0)))) ∷ marked 4 (Lost 5)
    ∷ marked 1 (Got 6) ∷
    marked 5 (Told replies.Down) ∷ marked 5 (Called (commands.Do 0 1)) ∷
    marked 1 (Sent 7 4 (messages.Answer 6 (answers.Clash (tx 1 1) 0 2))) ∷
    marked 1 (Sent 8 3 (messages.Inquiry (tx 1 1))) ∷ marked 4 (Got 7) ∷ marked 4 (Told (replies.Conflict (tx 1 1) 1)) ∷
    marked 5 (Told replies.Down) ∷ marked 5 (Called commands.Commit) ∷ marked 4 (Called commands.Commit) ∷
    marked 4 (Sent 9 1 (messages.Request (tx 2 1) 1 1 wants.Prepare)) ∷ marked 1 (Got 9) ∷
    marked 5 (Told replies.Down) ∷ marked 3 (Sent 10 1 (messages.Request (tx 1 1) 1 1 (wants.Read (first_read 0 0)))) ∷
    marked 1 (Fell falls.Stop (Some (prepare (tx 2 1) 1 [] (own_line 1 0 2 ∷ []) []))) ∷ marked 4 (Lost 9) ∷
    marked 3 (Got 8) ∷ marked 4 (Sent 11 0 (messages.Decision (tx 2 1) outcomes.Aborted)) ∷
    marked 4 (Sent 12 1 (messages.Decision (tx 2 1) outcomes.Aborted)) ∷
    marked 4 (Told (replies.Aborted (causes.NoAnswer 1))) ∷
    marked 3 (Sent 13 1 (messages.Decision (tx 1 1) outcomes.Active)) ∷ marked 3 (Lost 10) ∷
    marked 3 (Sent 14 0 (messages.Request (tx 1 1) 1 0 (wants.Read (first_read 0 0)))) ∷ marked 3 (Lost 14) ∷
    marked 3 (Told (replies.Quorum halves.Read 0 3)) ∷ marked 3 (Called (commands.Do 0 1)) ∷
    marked 3 (Sent 15 1 (messages.Request (tx 1 1) 1 1 (wants.Append 0 [] (own_line 1 0 2 ∷ own_line 2 0 2 ∷ [])))) ∷
    marked 3 (Lost 15) ∷
    marked 3 (Sent 16 0 (messages.Request (tx 1 1) 1 0 (wants.Append 0 [] (own_line 1 0 2 ∷ own_line 2 0 2 ∷ [])))) ∷
    marked 3 (Lost 16) ∷ marked 3 (Told (replies.Quorum halves.Append 0 2)) ∷ marked 3 (Called commands.Commit) ∷
    marked 3 (Sent 17 0 (messages.Decision (tx 1 1) outcomes.Aborted)) ∷
    marked 3 (Sent 18 1 (messages.Decision (tx 1 1) outcomes.Aborted)) ∷
    marked 3 (Told (replies.Aborted causes.Doomed)) ∷ marked 7 (Phase 2) ∷ marked 0 (Rose []) ∷
    marked 0 (Wrote records.Life) ∷ marked 1 (Rose []) ∷ marked 1 (Wrote records.Life) ∷ marked 5 (Rose []) ∷
    marked 5 (Wrote records.Life) ∷ marked 7 (Armed 5 arms.Fail 12) ∷ marked 5 (Called commands.Begin) ∷
    marked 2 (Called commands.Begin) ∷ marked 5 (Told (replies.Began (tx_in 3 2 1))) ∷
    marked 5 (Called (commands.Do 0 0)) ∷ marked 2 (Told (replies.Began (tx 0 1))) ∷
    marked 2 (Called (commands.Do 0 1))
    ∷ marked 5 (Sent 19 1 (messages.Request (tx_in 3 2 1) 1 0 (wants.Read (first_read 0 0)))) ∷
    marked 1 (Got 19) ∷ marked 2 (Sent 20 0 (messages.Request (tx 0 1) 1 0 (wants.Append 0 [] (own_line 1 0 2 ∷ [])))) ∷
    marked 2 (Sent 21 1 (messages.Request (tx 0 1) 1 0 (wants.Append 0 [] (own_line 1 0 2 ∷ [])))) ∷ marked 0 (Got 20) ∷
    marked 1 (Sent 22 5 (messages.Answer 19 (answers.Granted (whole_grant 2 0 [])))) ∷ marked 1 (Got 21)
    ∷ marked 5 (Got 22) ∷
    marked 0 (Sent 23 2 (messages.Answer 20 (answers.Granted (whole_grant 2 0 [])))) ∷ marked 2 (Got 23) ∷
    marked 1 (Sent 24 2 (messages.Answer 21 (answers.Clash (tx_in 3 2 1) 0 2))) ∷
    marked 1 (Sent 25 5 (messages.Inquiry (tx_in 3 2 1))) ∷ marked 2 (Got 24) ∷
    marked 2 (Told (replies.Conflict (tx_in 3 2 1) 1)) ∷ marked 2 (Called (commands.Do 0 1)) ∷
    marked 5 (Sent 26 1 (messages.Request (tx_in 3 2 1) 1 2 (wants.Append 0 [] (own_line 1 0 0 ∷ [])))) ∷
    marked 5 (Got 25) ∷ marked 1 (Got 26) ∷ marked 5 (Sent 27 1 (messages.Decision (tx_in 3 2 1) outcomes.Active)) ∷
    marked 1 (Sent 28 5 (messages.Answer 26 (answers.Granted (whole_grant 2 0 [])))) ∷ marked 1 (Got 27)
    ∷ marked 5 (Got 28) ∷
    marked 5 (Told (replies.Response 0)) ∷ marked 5 (Called (commands.Do 0 0)) ∷ marked 2 (Told replies.Doomed) ∷
    marked 5 (Sent 29 1 (messages.Request (tx_in 3 2 1) 1 2 (wants.Read (first_read 0 0))))
    ∷ marked 2 (Called (commands.Do 0 1)) ∷
    marked 1 (Got 29) ∷ marked 2 (Told replies.Doomed) ∷ marked 2 (Called commands.Commit) ∷
    marked 2 (Sent 30 0 (messages.Decision (tx 0 1) outcomes.Aborted)) ∷
    marked 2 (Sent 31 1 (messages.Decision (tx 0 1) outcomes.Aborted)) ∷
    marked 2 (Told (replies.Aborted causes.Doomed)) ∷ marked 0 (Got 30) ∷
    marked 1 (Sent 32 5 (messages.Answer 29 (answers.Granted (whole_grant 2 0 [])))) ∷ marked 1 (Got 31)
    ∷ marked 5 (Got 32) ∷
    marked 5 (Told (replies.Response 1)) ∷ marked 5 (Called (commands.Do 0 1)) ∷
    marked 5 (Sent 33 1 (messages.Request (tx_in 3 2 1) 1 2 (wants.Append 0 [] (own_line 1 0 0 ∷ own_line 3 0 2 ∷ []))))
    ∷
    marked 1 (Got 33) ∷ marked 1 (Sent 34 5 (messages.Answer 33 (answers.Granted (whole_grant 2 0 []))))
    ∷ marked 5 (Got 34) ∷
    marked 5 (Told (replies.Response 2)) ∷ marked 5 (Called (commands.Do 0 0)) ∷
    marked 5 (Sent 35 1 (messages.Request (tx_in 3 2 1) 1 2 (wants.Read (first_read 0 0)))) ∷ marked 1 (Got 35) ∷
    marked 1 (Sent 36 5 (messages.Answer 35 (answers.Granted (whole_grant 2 0 [])))) ∷ marked 5 (Got 36) ∷
    marked 5 (Sent 37 1 (messages.Request (tx_in 3 2 1) 1 2 (wants.Append 0 [] (own_line 1 0 0 ∷ own_line 3 0 2 ∷
    own_line 4 0 0 ∷ [])))) ∷
    marked 1 (Got 37) ∷ marked 1 (Sent 38 5 (messages.Answer 37 (answers.Granted (whole_grant 2 0 []))))
    ∷ marked 5 (Got 38) ∷
    marked 5 (Told (replies.Response 0)) ∷ marked 5 (Called commands.Commit) ∷
    marked 5 (Sent 39 1 (messages.Request (tx_in 3 2 1) 1 2 wants.Prepare)) ∷ marked 1 (Got 39) ∷
    marked 1 (Wrote (prepare (tx_in 3 2 1) 1 (read_lock 0 0 ∷ []) (own_line 1 0 0 ∷ own_line 3 0 2 ∷ own_line 4 0 0 ∷
    []) [])) ∷
    marked 1 (Sent 40 5 (messages.Answer 39 (answers.Yes 0))) ∷ marked 5 (Got 40) ∷
    marked 5 (Wrote (commit (stamp 1 3) (tx_in 3 2 1) (operation 0 0 (Some 0) ∷ operation 0 0 (Some 1) ∷ operation 0 1
    (Some 2) ∷ operation 0 0 (Some 0) ∷ []))) ∷
    marked 5 (Sent 41 1 (messages.Decision (tx_in 3 2 1) (outcomes.Committed (stamp 1 3)))) ∷
    marked 5 (Told (replies.Committed (stamp 1 3))) ∷ marked 1 (Got 41) ∷
    marked 1 (Fell falls.Stop (Some (records.Done (tx_in 3 2 1) 1))) ∷ marked 7 (Phase 3) ∷
    marked 7 (Armed 3 arms.Fail 7) ∷ marked 6 (Fell falls.Script None) ∷ marked 3 (Fell falls.Script None) ∷
    marked 4 (Called commands.Begin) ∷ marked 2 (Called commands.Begin) ∷ marked 4 (Told (replies.Began (tx 2 2))) ∷
    marked 4 (Called commands.Commit) ∷ marked 4 (Wrote (commit (stamp 1 2) (tx 2 2) [])) ∷
    marked 4 (Told (replies.Committed (stamp 1 2))) ∷ marked 4 (Called commands.Begin) ∷
    marked 4 (Told (replies.Began (tx 2 3))) ∷ marked 4 (Called (commands.Do 0 1)) ∷
    marked 2 (Told (replies.Began (tx 0 2))) ∷ marked 2 (Called commands.Commit) ∷
    marked 4 (Sent 42 0 (messages.Request (tx 2 3) 1 0 (wants.Append 0 [] (own_line 1 0 2 ∷ [])))) ∷
    marked 4 (Sent 43 1 (messages.Request (tx 2 3) 1 0 (wants.Append 0 [] (own_line 1 0 2 ∷ [])))) ∷ marked 0 (Got 42) ∷
    marked 4 (Lost 43) ∷ marked 0 (Sent 44 4 (messages.Answer 42 (answers.Granted (whole_grant 2 0 []))))
    ∷ marked 4 (Got 44) ∷
    marked 4 (Told (replies.Quorum halves.Append 1 2)) ∷ marked 2 (Wrote (commit (stamp 1 0) (tx 0 2) [])) ∷
    marked 2 (Told (replies.Committed (stamp 1 0))) ∷ marked 4 (Called commands.Commit) ∷
    marked 4 (Sent 45 0 (messages.Decision (tx 2 3) outcomes.Aborted)) ∷
    marked 4 (Sent 46 1 (messages.Decision (tx 2 3) outcomes.Aborted)) ∷
    marked 4 (Told (replies.Aborted causes.Doomed)) ∷ marked 0 (Got 45) ∷ []
