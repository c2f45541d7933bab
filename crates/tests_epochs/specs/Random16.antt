-- Random: sites 3, clients 1, steps 160, messages 43, lost 2, aborts 3, short rounds 2, falls 4, rises 4, unwritten
-- records 2, closes 3, decisions 1, installs 2.
use Rattle.std.specs.Prelude.{List, [], ◌∷◌, Some, None}
use Rattle.qc_decl.specs.declared.declaration.Declaration.{Declaration}
use Rattle.qc_decl.specs.Vocabulary.{row}
use Rattle.qc_msg.specs.Vocabulary.{Entry, marked}
use Rattle.tests_histories.specs.Words.{own_line, declaration, kind, pair, plan}
use Rattle.qc_msg.specs.declared.step.Step.TheVariants.{Phase, Called, Got, Lost, Wrote, Sent, Told, Armed, Fell, Rose}
use Rattle.tests_epochs.specs.Words.{tx_in}
use Rattle.qc_msg.specs.declared.message.Answer.TheVariants as answers
use Rattle.qc_msg.specs.declared.reply.AbortCause.TheVariants as causes
use Rattle.qc_msg.specs.declared.step.Command.TheVariants as commands
use Rattle.qc_msg.specs.declared.reply.Half.TheVariants as halves
use Rattle.qc_msg.specs.declared.message.Message.TheVariants as messages
use Rattle.qc_msg.specs.declared.message.Outcome.TheVariants as outcomes
use Rattle.qc_msg.specs.declared.record.Record.TheVariants as records
use Rattle.qc_msg.specs.declared.reply.Reply.TheVariants as replies
use Rattle.qc_msg.specs.declared.message.Want.TheVariants as wants
use Rattle.qc_msg.specs.declared.step.Fall.TheVariants as falls
use Rattle.qc_msg.specs.Vocabulary.{whole_grant, first_read, snapshot_with, start_with}
use Rattle.qc_outside.specs.declared.disk.ArmKind.TheVariants as arms

abbrev pub decl : Declaration
decl =
    declaration 3 1 (kind 7 3 4 0 (row 0 0 0 1 ∷ row 0 1 0 2 ∷ row 1 0 0 3 ∷ row 1 1 0 4 ∷ row 2 0 0 5 ∷ row 2 1 0 6 ∷
    row 0 2 3 0 ∷ row 1 2 1 0 ∷ row 2 2 2 0 ∷ row 3 2 1 1 ∷ row 4 2 1 2 ∷ row 5 2 2 1 ∷ row 6 2 2 2 ∷ []) (pair 0 0 ∷
    pair 0 1 ∷ pair 0 3 ∷ pair 0 4 ∷ pair 1 0 ∷ pair 1 1 ∷ pair 1 3 ∷ pair 1 4 ∷ pair 2 0 ∷ pair 2 1 ∷ pair 2 3 ∷ pair 2
    4 ∷ []) ∷ kind 2 2 3 0 (row 0 0 0 1 ∷ row 1 0 1 1 ∷ row 0 1 2 0 ∷ row 1 1 2 0 ∷ []) (pair 0 0 ∷ pair 0 1 ∷ pair 0 2
    ∷ []) ∷ []) (1 ∷ 0 ∷ []) (plan (1 ∷ 1 ∷ 2 ∷ []) ((3 ∷ 0 ∷ []) ∷ (2 ∷ 4 ∷ 1 ∷ []) ∷ []) ((2 ∷ 2 ∷ 2 ∷ []) ∷ (4 ∷ 4 ∷
    0 ∷ 4 ∷ 4 ∷ []) ∷ []) ∷ plan (3 ∷ 1 ∷ 1 ∷ []) ((1 ∷ 0 ∷ []) ∷ (3 ∷ 3 ∷ 3 ∷ []) ∷ []) ((5 ∷ 5 ∷ 5 ∷ []) ∷ (3 ∷ 3 ∷ 0
    ∷ 3 ∷ 3 ∷ []) ∷ []) ∷ plan (1 ∷ 3 ∷ 1 ∷ []) ((3 ∷ 2 ∷ []) ∷ (4 ∷ 2 ∷ 4 ∷ []) ∷ []) ((3 ∷ 3 ∷ 3 ∷ []) ∷ (4 ∷ 4 ∷ 0 ∷
    4 ∷ 4 ∷ []) ∷ []) ∷ [])

abbrev pub history : List Entry
history =
    marked 5 (Phase 1) ∷ marked 5 (Armed 2 arms.Fail 9) ∷ marked 3 (Fell falls.Script None) ∷
    marked 4 (Fell falls.Script None) ∷ marked 4 (Rose []) ∷ marked 4 (Fell falls.Stop (Some records.Life)) ∷
    marked 3 (Called commands.Begin) ∷ marked 3 (Told replies.Down) ∷ marked 3 (Called (commands.Do 1 1)) ∷
    marked 3 (Told replies.Down) ∷ marked 5 (Phase 2) ∷ marked 5 (Armed 1 arms.Stop 4) ∷
    marked 5 (Armed 3 arms.Stop 1) ∷ marked 4 (Rose []) ∷ marked 4 (Wrote records.Life) ∷
    marked 3 (Called commands.Commit) ∷ marked 3 (Told replies.Down) ∷ marked 3 (Called commands.Begin) ∷
    marked 3 (Told replies.Down) ∷ marked 3 (Called commands.Commit) ∷ marked 3 (Told replies.Down) ∷
    marked 5 (Phase 3) ∷ marked 3 (Rose []) ∷ marked 3 (Wrote records.Life) ∷ marked 3 (Called commands.Begin) ∷
    marked 3 (Told (replies.Began (tx_in 0 2 1))) ∷ marked 3 (Called (commands.Do 1 1)) ∷
    marked 4 (Called (commands.Epoch 2))
    ∷ marked 3 (Sent 0 0 (messages.Request (tx_in 0 2 1) 1 0 (wants.Read (first_read 1 1)))) ∷
    marked 3 (Sent 1 1 (messages.Request (tx_in 0 2 1) 1 0 (wants.Read (first_read 1 1)))) ∷
    marked 3 (Sent 2 2 (messages.Request (tx_in 0 2 1) 1 0 (wants.Read (first_read 1 1))))
    ∷ marked 4 (Sent 3 0 (messages.Close 2)) ∷
    marked 4 (Sent 4 1 (messages.Close 2)) ∷ marked 4 (Sent 5 2 (messages.Close 2)) ∷ marked 0 (Got 0) ∷
    marked 0 (Sent 6 3 (messages.Answer 0 (answers.Granted (whole_grant 1 0 [])))) ∷ marked 1 (Got 1) ∷
    marked 1 (Sent 7 3 (messages.Answer 1 (answers.Granted (whole_grant 1 0 [])))) ∷ marked 2 (Got 2) ∷
    marked 2 (Sent 8 3 (messages.Answer 2 (answers.Granted (whole_grant 1 0 [])))) ∷ marked 2 (Got 5) ∷
    marked 2 (Wrote (records.Close 2)) ∷ marked 2 (Sent 9 4 (messages.Answer 5 (answers.Shut (snapshot_with 0 [] []))))
    ∷
    marked 1 (Got 4) ∷ marked 1 (Wrote (records.Close 2)) ∷
    marked 1 (Sent 10 4 (messages.Answer 4 (answers.Shut (snapshot_with 0 [] [])))) ∷ marked 4 (Got 9)
    ∷ marked 4 (Got 10) ∷
    marked 0 (Got 3) ∷ marked 0 (Wrote (records.Close 2)) ∷
    marked 0 (Sent 11 4 (messages.Answer 3 (answers.Shut (snapshot_with 0 [] [])))) ∷ marked 3 (Got 6)
    ∷ marked 4 (Got 11) ∷
    marked 4 (Wrote (records.Decide (start_with 2 0 []))) ∷ marked 4 (Sent 12 0 (messages.Install (start_with 2 0 [])))
    ∷
    marked 4 (Sent 13 1 (messages.Install (start_with 2 0 [])))
    ∷ marked 4 (Sent 14 2 (messages.Install (start_with 2 0 []))) ∷
    marked 0 (Got 12) ∷ marked 3 (Got 7) ∷ marked 0 (Wrote (records.Install (start_with 2 0 []))) ∷
    marked 0 (Sent 15 4 (messages.Answer 12 answers.Installed)) ∷ marked 1 (Got 13) ∷ marked 3 (Got 8) ∷
    marked 3 (Sent 16 0 (messages.Request (tx_in 0 2 1) 1 1 (wants.Append 1 [] (own_line 1 1 1 ∷ [])))) ∷
    marked 3 (Sent 17 1 (messages.Request (tx_in 0 2 1) 1 1 (wants.Append 1 [] (own_line 1 1 1 ∷ [])))) ∷
    marked 3 (Sent 18 2 (messages.Request (tx_in 0 2 1) 1 1 (wants.Append 1 [] (own_line 1 1 1 ∷ [])))) ∷
    marked 4 (Got 15) ∷ marked 1 (Wrote (records.Install (start_with 2 0 []))) ∷
    marked 1 (Sent 19 4 (messages.Answer 13 answers.Installed)) ∷ marked 0 (Got 16) ∷
    marked 0 (Sent 20 3 (messages.Answer 16 (answers.Closed 2))) ∷ marked 4 (Got 19) ∷ marked 3 (Got 20) ∷
    marked 1 (Got 17) ∷ marked 1 (Sent 21 3 (messages.Answer 17 (answers.Closed 2))) ∷ marked 2 (Got 14) ∷
    marked 2 (Sent 22 4 (messages.Answer 14 answers.Fault)) ∷
    marked 2 (Fell falls.Disk (Some (records.Install (start_with 2 0 [])))) ∷ marked 3 (Got 21) ∷ marked 4 (Got 22) ∷
    marked 4 (Told (replies.Moved 7 3)) ∷ marked 3 (Lost 18) ∷ marked 3 (Told (replies.Closed 2 0)) ∷
    marked 3 (Called (commands.Do 1 2)) ∷ marked 3 (Told replies.Doomed) ∷ marked 3 (Called (commands.Do 0 1)) ∷
    marked 3 (Told replies.Doomed) ∷ marked 5 (Phase 4) ∷ marked 4 (Got 9) ∷ marked 4 (Got 22) ∷
    marked 3 (Called (commands.Do 0 1)) ∷ marked 3 (Told replies.Doomed) ∷ marked 3 (Called (commands.Do 0 0)) ∷
    marked 3 (Told replies.Doomed) ∷ marked 3 (Called (commands.Do 0 0)) ∷ marked 3 (Told replies.Doomed) ∷
    marked 3 (Called commands.Commit) ∷ marked 3 (Sent 23 0 (messages.Decision (tx_in 0 2 1) outcomes.Aborted)) ∷
    marked 3 (Sent 24 1 (messages.Decision (tx_in 0 2 1) outcomes.Aborted)) ∷
    marked 3 (Sent 25 2 (messages.Decision (tx_in 0 2 1) outcomes.Aborted)) ∷
    marked 3 (Told (replies.Aborted causes.Doomed)) ∷ marked 1 (Got 24) ∷ marked 0 (Got 23) ∷ marked 5 (Phase 5) ∷
    marked 3 (Called commands.Begin) ∷ marked 3 (Told (replies.Began (tx_in 0 2 2))) ∷
    marked 3 (Called (commands.Do 0 1)) ∷
    marked 3 (Sent 26 0 (messages.Request (tx_in 0 2 2) 2 0 (wants.Append 0 [] (own_line 1 0 2 ∷ [])))) ∷
    marked 3 (Sent 27 1 (messages.Request (tx_in 0 2 2) 2 0 (wants.Append 0 [] (own_line 1 0 2 ∷ [])))) ∷
    marked 3 (Sent 28 2 (messages.Request (tx_in 0 2 2) 2 0 (wants.Append 0 [] (own_line 1 0 2 ∷ [])))) ∷
    marked 0 (Got 26) ∷ marked 0 (Sent 29 3 (messages.Answer 26 (answers.Granted (whole_grant 2 0 []))))
    ∷ marked 1 (Got 27) ∷
    marked 3 (Got 29) ∷ marked 1 (Sent 30 3 (messages.Answer 27 (answers.Granted (whole_grant 2 0 []))))
    ∷ marked 3 (Got 30) ∷
    marked 3 (Lost 28) ∷ marked 3 (Told (replies.Quorum halves.Append 4 5)) ∷ marked 3 (Called commands.Begin) ∷
    marked 3 (Told (replies.Already (tx_in 0 2 2))) ∷ marked 3 (Called (commands.Do 0 0)) ∷
    marked 3 (Told replies.Doomed) ∷ marked 3 (Called commands.Commit) ∷
    marked 3 (Sent 31 0 (messages.Decision (tx_in 0 2 2) outcomes.Aborted)) ∷
    marked 3 (Sent 32 1 (messages.Decision (tx_in 0 2 2) outcomes.Aborted)) ∷
    marked 3 (Sent 33 2 (messages.Decision (tx_in 0 2 2) outcomes.Aborted)) ∷
    marked 3 (Told (replies.Aborted causes.Doomed)) ∷ marked 0 (Got 31) ∷ marked 5 (Phase 6) ∷
    marked 2 (Rose ((records.Close 2) ∷ [])) ∷ marked 2 (Wrote records.Life) ∷ marked 3 (Called commands.Begin) ∷
    marked 3 (Told (replies.Began (tx_in 0 2 3))) ∷ marked 3 (Called (commands.Do 0 1)) ∷
    marked 3 (Sent 34 0 (messages.Request (tx_in 0 2 3) 2 0 (wants.Append 0 [] (own_line 1 0 2 ∷ [])))) ∷
    marked 3 (Sent 35 1 (messages.Request (tx_in 0 2 3) 2 0 (wants.Append 0 [] (own_line 1 0 2 ∷ [])))) ∷
    marked 3 (Sent 36 2 (messages.Request (tx_in 0 2 3) 2 0 (wants.Append 0 [] (own_line 1 0 2 ∷ [])))) ∷
    marked 1 (Got 32) ∷ marked 0 (Got 34)
    ∷ marked 0 (Sent 37 3 (messages.Answer 34 (answers.Granted (whole_grant 2 0 [])))) ∷
    marked 3 (Got 37) ∷ marked 1 (Got 35)
    ∷ marked 1 (Sent 38 3 (messages.Answer 35 (answers.Granted (whole_grant 2 0 [])))) ∷
    marked 3 (Got 38) ∷ marked 2 (Got 36) ∷ marked 2 (Sent 39 3 (messages.Answer 36 (answers.Behind 1))) ∷
    marked 3 (Got 39) ∷ marked 3 (Told (replies.Quorum halves.Append 4 5)) ∷ marked 3 (Called (commands.Do 1 1)) ∷
    marked 3 (Told replies.Doomed) ∷ marked 3 (Called commands.Commit) ∷
    marked 3 (Sent 40 0 (messages.Decision (tx_in 0 2 3) outcomes.Aborted)) ∷
    marked 3 (Sent 41 1 (messages.Decision (tx_in 0 2 3) outcomes.Aborted)) ∷
    marked 3 (Sent 42 2 (messages.Decision (tx_in 0 2 3) outcomes.Aborted)) ∷
    marked 3 (Told (replies.Aborted causes.Doomed)) ∷ marked 0 (Got 40) ∷ marked 3 (Called commands.Begin) ∷
    marked 3 (Told (replies.Began (tx_in 0 2 4))) ∷ marked 2 (Got 42) ∷ marked 1 (Got 41) ∷ []
