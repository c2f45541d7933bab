-- Random: sites 5, clients 3, steps 111, messages 33, lost 9, commits 2, aborts 1, falls 6, rises 2, unwritten records
-- 2, closes 3, decisions 1, installs 2.
use Rattle.std.specs.Prelude.{List, [], ◌∷◌, Some, None}
use Rattle.qc_decl.specs.declared.declaration.Declaration.{Declaration}
use Rattle.qc_decl.specs.Vocabulary.{row}
use Rattle.qc_msg.specs.Vocabulary.{Entry, marked}
use Rattle.tests_histories.specs.Words.{tx, stamp, own_line, commit, declaration, kind, pair, plan}
use Rattle.qc_msg.specs.declared.step.Step.TheVariants.{Phase, Called, Got, Lost, Wrote, Sent, Told, Armed, Fell, Rose}
use Rattle.qc_msg.specs.declared.message.Answer.TheVariants as answers
use Rattle.qc_msg.specs.declared.reply.AbortCause.TheVariants as causes
use Rattle.qc_msg.specs.declared.step.Command.TheVariants as commands
use Rattle.qc_msg.specs.declared.message.Message.TheVariants as messages
use Rattle.qc_msg.specs.declared.message.Outcome.TheVariants as outcomes
use Rattle.qc_msg.specs.declared.record.Record.TheVariants as records
use Rattle.qc_msg.specs.declared.reply.Reply.TheVariants as replies
use Rattle.qc_msg.specs.declared.message.Want.TheVariants as wants
use Rattle.qc_msg.specs.declared.step.Fall.TheVariants as falls
use Rattle.qc_msg.specs.Vocabulary.{whole_grant, first_read, snapshot_with, start_with}
use Rattle.qc_outside.specs.declared.disk.ArmKind.TheVariants as arms

abbrev pub decl : Declaration
decl =
    declaration 5 3 (kind 3 3 3 0 (row 0 0 0 1 ∷ row 0 0 1 2 ∷ row 1 1 0 1 ∷ row 2 1 1 2 ∷ row 1 2 2 0 ∷ row 2 2 2 0 ∷
    row 0 2 2 0 ∷ []) (pair 0 0 ∷ pair 0 1 ∷ pair 0 4 ∷ pair 1 0 ∷ pair 1 1 ∷ pair 1 3 ∷ pair 1 4 ∷ []) ∷ []) (0 ∷ [])
    (plan (1 ∷ 1 ∷ 1 ∷ 1 ∷ 1 ∷ []) ((3 ∷ 3 ∷ 0 ∷ []) ∷ []) ((3 ∷ 3 ∷ 5 ∷ 3 ∷ 3 ∷ []) ∷ []) ∷ plan (1 ∷ 1 ∷ 1 ∷ 1 ∷ 1 ∷
    []) ((1 ∷ 4 ∷ 0 ∷ []) ∷ []) ((5 ∷ 5 ∷ 0 ∷ 2 ∷ 5 ∷ []) ∷ []) ∷ [])

abbrev pub history : List Entry
history =
    marked 9 (Phase 1) ∷ marked 4 (Fell falls.Script None) ∷ marked 6 (Called commands.Begin) ∷
    marked 6 (Told (replies.Began (tx 1 1))) ∷ marked 8 (Called (commands.Epoch 2)) ∷
    marked 6 (Called commands.Commit) ∷ marked 8 (Sent 0 0 (messages.Close 2)) ∷
    marked 8 (Sent 1 1 (messages.Close 2)) ∷ marked 8 (Sent 2 2 (messages.Close 2)) ∷
    marked 6 (Wrote (commit (stamp 1 1) (tx 1 1) [])) ∷ marked 6 (Told (replies.Committed (stamp 1 1))) ∷
    marked 6 (Called commands.Begin) ∷ marked 1 (Got 1) ∷ marked 2 (Got 2) ∷
    marked 1 (Fell falls.Stop (Some (records.Close 2))) ∷ marked 0 (Got 0) ∷ marked 2 (Wrote (records.Close 2)) ∷
    marked 2 (Sent 3 8 (messages.Answer 2 (answers.Shut (snapshot_with 0 [] [])))) ∷ marked 0 (Wrote (records.Close 2))
    ∷
    marked 0 (Sent 4 8 (messages.Answer 0 (answers.Shut (snapshot_with 0 [] []))))
    ∷ marked 6 (Told (replies.Began (tx 1 2))) ∷
    marked 6 (Called (commands.Do 0 2)) ∷
    marked 6 (Sent 5 1 (messages.Request (tx 1 2) 1 0 (wants.Append 0 [] (own_line 1 0 4 ∷ [])))) ∷
    marked 6 (Sent 6 2 (messages.Request (tx 1 2) 1 0 (wants.Append 0 [] (own_line 1 0 4 ∷ [])))) ∷
    marked 6 (Sent 7 3 (messages.Request (tx 1 2) 1 0 (wants.Append 0 [] (own_line 1 0 4 ∷ [])))) ∷ marked 3 (Got 7) ∷
    marked 8 (Got 3) ∷ marked 3 (Sent 8 6 (messages.Answer 7 (answers.Granted (whole_grant 1 0 [])))) ∷ marked 2 (Got 6)
    ∷
    marked 2 (Sent 9 6 (messages.Answer 6 (answers.Closed 2))) ∷ marked 6 (Got 8) ∷ marked 8 (Got 4) ∷
    marked 8 (Lost 1) ∷ marked 8 (Sent 10 3 (messages.Close 2)) ∷ marked 3 (Got 10) ∷ marked 6 (Got 9) ∷
    marked 3 (Wrote (records.Close 2))
    ∷ marked 3 (Sent 11 8 (messages.Answer 10 (answers.Shut (snapshot_with 0 [] [])))) ∷
    marked 8 (Got 11) ∷ marked 8 (Wrote (records.Decide (start_with 2 0 [])))
    ∷ marked 8 (Sent 12 0 (messages.Install (start_with 2 0 []))) ∷
    marked 8 (Sent 13 1 (messages.Install (start_with 2 0 [])))
    ∷ marked 8 (Sent 14 2 (messages.Install (start_with 2 0 []))) ∷
    marked 8 (Sent 15 3 (messages.Install (start_with 2 0 [])))
    ∷ marked 8 (Sent 16 4 (messages.Install (start_with 2 0 []))) ∷
    marked 3 (Got 15) ∷ marked 8 (Lost 13) ∷ marked 0 (Got 12) ∷ marked 3 (Wrote (records.Install (start_with 2 0 [])))
    ∷
    marked 3 (Sent 17 8 (messages.Answer 15 answers.Installed)) ∷ marked 6 (Lost 5) ∷
    marked 0 (Wrote (records.Install (start_with 2 0 []))) ∷ marked 0 (Sent 18 8 (messages.Answer 12 answers.Installed))
    ∷
    marked 6 (Told (replies.Closed 2 2)) ∷ marked 2 (Got 14) ∷
    marked 2 (Fell falls.Stop (Some (records.Install (start_with 2 0 [])))) ∷ marked 8 (Got 17) ∷ marked 8 (Got 18) ∷
    marked 8 (Lost 14) ∷ marked 8 (Lost 16) ∷ marked 8 (Told (replies.Moved 13 9)) ∷ marked 9 (Phase 2) ∷
    marked 7 (Called commands.Begin) ∷ marked 5 (Called commands.Begin) ∷ marked 5 (Told (replies.Began (tx 0 1))) ∷
    marked 6 (Called (commands.Do 0 2)) ∷ marked 7 (Told (replies.Began (tx 2 1))) ∷
    marked 5 (Called (commands.Do 0 2)) ∷ marked 7 (Called (commands.Do 0 0)) ∷ marked 6 (Told replies.Doomed) ∷
    marked 5 (Sent 19 0 (messages.Request (tx 0 1) 1 0 (wants.Append 0 [] (own_line 1 0 4 ∷ [])))) ∷
    marked 5 (Sent 20 1 (messages.Request (tx 0 1) 1 0 (wants.Append 0 [] (own_line 1 0 4 ∷ [])))) ∷
    marked 5 (Sent 21 2 (messages.Request (tx 0 1) 1 0 (wants.Append 0 [] (own_line 1 0 4 ∷ [])))) ∷ marked 0 (Got 19) ∷
    marked 0 (Sent 22 5 (messages.Answer 19 (answers.Closed 2))) ∷
    marked 7 (Sent 23 2 (messages.Request (tx 2 1) 1 0 (wants.Read (first_read 0 0)))) ∷
    marked 7 (Sent 24 3 (messages.Request (tx 2 1) 1 0 (wants.Read (first_read 0 0)))) ∷
    marked 7 (Sent 25 4 (messages.Request (tx 2 1) 1 0 (wants.Read (first_read 0 0)))) ∷ marked 5 (Got 22)
    ∷ marked 7 (Lost 23) ∷
    marked 3 (Got 24) ∷ marked 3 (Sent 26 7 (messages.Answer 24 (answers.Closed 2))) ∷ marked 5 (Lost 20) ∷
    marked 7 (Got 26) ∷ marked 5 (Lost 21) ∷ marked 5 (Told (replies.Closed 2 0)) ∷ marked 7 (Lost 25) ∷
    marked 7 (Told (replies.Closed 2 3)) ∷ marked 7 (Called commands.Commit) ∷
    marked 7 (Wrote (commit (stamp 1 2) (tx 2 1) [])) ∷
    marked 7 (Sent 27 2 (messages.Decision (tx 2 1) (outcomes.Committed (stamp 1 2)))) ∷
    marked 7 (Sent 28 3 (messages.Decision (tx 2 1) (outcomes.Committed (stamp 1 2)))) ∷
    marked 7 (Sent 29 4 (messages.Decision (tx 2 1) (outcomes.Committed (stamp 1 2)))) ∷
    marked 7 (Told (replies.Committed (stamp 1 2))) ∷ marked 3 (Got 28) ∷ marked 9 (Phase 3) ∷
    marked 9 (Armed 0 arms.Stop 4) ∷ marked 1 (Rose ((records.Close 2) ∷ [])) ∷ marked 1 (Wrote records.Life) ∷
    marked 4 (Rose []) ∷ marked 4 (Wrote records.Life) ∷ marked 7 (Fell falls.Script None) ∷
    marked 0 (Fell falls.Script None) ∷ marked 1 (Fell falls.Script None) ∷ marked 5 (Called (commands.Do 0 0)) ∷
    marked 5 (Told replies.Doomed) ∷ marked 5 (Called commands.Commit) ∷
    marked 5 (Sent 30 0 (messages.Decision (tx 0 1) outcomes.Aborted)) ∷
    marked 5 (Sent 31 1 (messages.Decision (tx 0 1) outcomes.Aborted)) ∷
    marked 5 (Sent 32 2 (messages.Decision (tx 0 1) outcomes.Aborted)) ∷
    marked 5 (Told (replies.Aborted causes.Doomed)) ∷ []
