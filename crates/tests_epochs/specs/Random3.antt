-- Random: sites 3, clients 2, steps 95, messages 27, cuts 2, commits 1, aborts 1, absent 1, falls 2, rises 1, unwritten
-- records 1, closes 3, installs 3.
use Rattle.std.specs.Prelude.{List, [], ◌∷◌, Some, None}
use Rattle.qc_decl.specs.declared.declaration.Declaration.{Declaration}
use Rattle.qc_decl.specs.Vocabulary.{row}
use Rattle.qc_msg.specs.Vocabulary.{Entry, marked}
use Rattle.tests_histories.specs.Words.{tx, stamp, commit, declaration, kind, pair, plan}
use Rattle.qc_msg.specs.declared.step.Step.TheVariants.{Phase, Cut, Called, Got, Wrote, Sent, Told, Armed, Fell, Rose}
use Rattle.qc_msg.specs.declared.message.Answer.TheVariants as answers
use Rattle.qc_msg.specs.declared.reply.AbortCause.TheVariants as causes
use Rattle.qc_msg.specs.declared.step.Command.TheVariants as commands
use Rattle.qc_msg.specs.declared.message.Message.TheVariants as messages
use Rattle.qc_msg.specs.declared.message.Outcome.TheVariants as outcomes
use Rattle.qc_msg.specs.declared.record.Record.TheVariants as records
use Rattle.qc_msg.specs.declared.reply.Reply.TheVariants as replies
use Rattle.qc_msg.specs.declared.message.Want.TheVariants as wants
use Rattle.qc_msg.specs.declared.step.Fall.TheVariants as falls
use Rattle.qc_msg.specs.Vocabulary.{whole_grant, first_read, snapshot_with, start_with}
use Rattle.qc_outside.specs.declared.disk.ArmKind.TheVariants as arms

abbrev pub decl : Declaration
decl =
    declaration 3 2 (kind 2 3 3 0 (row 0 0 0 0 ∷ row 1 0 1 1 ∷ row 0 1 2 0 ∷ row 1 1 2 0 ∷ row 0 2 2 1 ∷ row 1 2 2 1 ∷
    []) (pair 0 2 ∷ pair 0 3 ∷ []) ∷ kind 3 3 3 0 (row 0 0 0 1 ∷ row 0 0 1 2 ∷ row 1 1 0 1 ∷ row 2 1 1 2 ∷ row 1 2 2 0 ∷
    row 2 2 2 0 ∷ row 0 2 2 0 ∷ []) (pair 0 0 ∷ pair 0 1 ∷ pair 0 4 ∷ pair 1 0 ∷ pair 1 1 ∷ pair 1 4 ∷ pair 2 1 ∷ []) ∷
    []) (1 ∷ 0 ∷ []) (plan (1 ∷ 3 ∷ 1 ∷ []) ((3 ∷ 3 ∷ 3 ∷ []) ∷ (3 ∷ 1 ∷ 0 ∷ []) ∷ []) ((3 ∷ 3 ∷ 0 ∷ 1 ∷ 3 ∷ []) ∷ (0 ∷
    0 ∷ 3 ∷ 3 ∷ []) ∷ []) ∷ plan (1 ∷ 1 ∷ 0 ∷ []) ((2 ∷ 2 ∷ 2 ∷ []) ∷ (1 ∷ 0 ∷ 0 ∷ []) ∷ []) ((1 ∷ 2 ∷ 0 ∷ 0 ∷ 1 ∷ []) ∷
    (0 ∷ 1 ∷ 2 ∷ 2 ∷ []) ∷ []) ∷ [])

abbrev pub history : List Entry
history =
    marked 6 (Phase 1) ∷ marked 4 (Called commands.Begin) ∷ marked 4 (Told (replies.Began (tx 1 1))) ∷
    marked 5 (Called (commands.Epoch 2)) ∷ marked 3 (Called commands.Begin) ∷ marked 4 (Called (commands.Do 0 1)) ∷
    marked 4 (Sent 0 1 (messages.Request (tx 1 1) 1 0 (wants.Read (first_read 0 1))))
    ∷ marked 3 (Told (replies.Began (tx 0 1))) ∷
    marked 5 (Sent 1 0 (messages.Close 2)) ∷ marked 5 (Sent 2 1 (messages.Close 2)) ∷
    marked 5 (Sent 3 2 (messages.Close 2)) ∷ marked 1 (Got 0) ∷
    marked 1 (Sent 4 4 (messages.Answer 0 (answers.Granted (whole_grant 1 0 [])))) ∷ marked 4 (Got 4) ∷
    marked 4 (Told replies.Absent) ∷ marked 4 (Called (commands.Do 0 1)) ∷
    marked 4 (Sent 5 1 (messages.Request (tx 1 1) 1 1 (wants.Read (first_read 0 1)))) ∷ marked 1 (Got 2) ∷
    marked 0 (Got 1)
    ∷
    marked 1 (Wrote (records.Close 2)) ∷ marked 1 (Sent 6 5 (messages.Answer 2 (answers.Shut (snapshot_with 0 [] []))))
    ∷
    marked 0 (Wrote (records.Close 2)) ∷ marked 0 (Sent 7 5 (messages.Answer 1 (answers.Shut (snapshot_with 0 [] []))))
    ∷
    marked 3 (Called commands.Commit) ∷ marked 5 (Got 6) ∷ marked 3 (Wrote (commit (stamp 1 0) (tx 0 1) [])) ∷
    marked 3 (Told (replies.Committed (stamp 1 0))) ∷ marked 1 (Got 5) ∷
    marked 1 (Sent 8 4 (messages.Answer 5 (answers.Closed 2))) ∷ marked 4 (Got 8) ∷
    marked 4 (Told (replies.Closed 2 1)) ∷ marked 5 (Got 7) ∷ marked 2 (Got 3) ∷ marked 2 (Wrote (records.Close 2)) ∷
    marked 2 (Sent 9 5 (messages.Answer 3 (answers.Shut (snapshot_with 0 [] [])))) ∷ marked 4 (Called commands.Commit) ∷
    marked 5 (Got 9) ∷ marked 4 (Sent 10 1 (messages.Request (tx 1 1) 1 1 wants.Prepare)) ∷
    marked 5 (Told replies.Fault) ∷ marked 5 (Fell falls.Stop (Some (records.Decide (start_with 2 0 []))))
    ∷ marked 1 (Got 10) ∷
    marked 1 (Sent 11 4 (messages.Answer 10 (answers.Closed 2))) ∷ marked 4 (Got 11) ∷
    marked 4 (Sent 12 1 (messages.Decision (tx 1 1) outcomes.Aborted)) ∷
    marked 4 (Told (replies.Aborted (causes.Closed 2 1))) ∷ marked 1 (Got 12) ∷ marked 6 (Phase 2) ∷
    marked 6 (Cut 3 2) ∷ marked 3 (Fell falls.Script None) ∷ marked 5 (Rose ((records.Decide (start_with 2 0 [])) ∷ []))
    ∷
    marked 5 (Wrote records.Life) ∷ marked 1 (Got 5) ∷ marked 3 (Called commands.Begin) ∷
    marked 1 (Sent 13 4 (messages.Answer 5 (answers.Closed 2))) ∷ marked 3 (Told replies.Down) ∷ marked 4 (Got 13) ∷
    marked 5 (Called (commands.Epoch 2)) ∷ marked 5 (Sent 14 0 (messages.Install (start_with 2 0 []))) ∷
    marked 5 (Sent 15 1 (messages.Install (start_with 2 0 [])))
    ∷ marked 5 (Sent 16 2 (messages.Install (start_with 2 0 []))) ∷
    marked 3 (Called commands.Begin) ∷ marked 3 (Told replies.Down) ∷ marked 0 (Got 14) ∷
    marked 0 (Wrote (records.Install (start_with 2 0 []))) ∷ marked 0 (Sent 17 5 (messages.Answer 14 answers.Installed))
    ∷
    marked 5 (Got 17) ∷ marked 1 (Got 15) ∷ marked 1 (Wrote (records.Install (start_with 2 0 []))) ∷
    marked 1 (Sent 18 5 (messages.Answer 15 answers.Installed)) ∷ marked 2 (Got 16) ∷
    marked 2 (Wrote (records.Install (start_with 2 0 []))) ∷ marked 2 (Sent 19 5 (messages.Answer 16 answers.Installed))
    ∷
    marked 5 (Got 18) ∷ marked 5 (Got 19) ∷ marked 5 (Told (replies.Moved 0 7)) ∷ marked 6 (Phase 3) ∷
    marked 6 (Cut 5 3) ∷ marked 6 (Armed 5 arms.Stop 9) ∷ marked 5 (Called (commands.Epoch 2)) ∷
    marked 5 (Sent 20 0 (messages.Install (start_with 2 0 [])))
    ∷ marked 5 (Sent 21 1 (messages.Install (start_with 2 0 []))) ∷
    marked 5 (Sent 22 2 (messages.Install (start_with 2 0 []))) ∷ marked 1 (Got 15) ∷
    marked 1 (Sent 23 5 (messages.Answer 15 answers.Installed)) ∷ marked 1 (Got 21) ∷
    marked 1 (Sent 24 5 (messages.Answer 21 answers.Installed)) ∷ marked 0 (Got 20) ∷
    marked 0 (Sent 25 5 (messages.Answer 20 answers.Installed)) ∷ marked 5 (Got 23) ∷ marked 2 (Got 22) ∷
    marked 2 (Sent 26 5 (messages.Answer 22 answers.Installed)) ∷ marked 5 (Got 24) ∷ marked 5 (Got 25) ∷
    marked 5 (Got 26) ∷ marked 5 (Told (replies.Moved 0 7)) ∷ []
