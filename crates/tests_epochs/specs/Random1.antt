-- Random: sites 2, clients 1, steps 73, messages 19, lost 1, cuts 1, aborts 1, falls 3, rises 2, closes 2, decisions 1,
-- installs 2.
use Rattle.std.specs.Prelude.{List, [], ◌∷◌, None}
use Rattle.qc_decl.specs.declared.declaration.Declaration.{Declaration}
use Rattle.qc_decl.specs.Vocabulary.{row}
use Rattle.qc_msg.specs.Vocabulary.{Entry, marked}
use Rattle.tests_histories.specs.Words.{tx, declaration, kind, pair, plan}
use Rattle.qc_msg.specs.declared.step.Step.TheVariants.{Phase, Cut, Heal, Called, Got, Lost, Wrote, Sent, Told, Armed}
use Rattle.qc_msg.specs.declared.step.Step.TheVariants.{Fell, Rose}
use Rattle.qc_msg.specs.declared.message.Answer.TheVariants as answers
use Rattle.qc_msg.specs.declared.reply.AbortCause.TheVariants as causes
use Rattle.qc_msg.specs.declared.step.Command.TheVariants as commands
use Rattle.qc_msg.specs.declared.message.Message.TheVariants as messages
use Rattle.qc_msg.specs.declared.message.Outcome.TheVariants as outcomes
use Rattle.qc_msg.specs.declared.record.Record.TheVariants as records
use Rattle.qc_msg.specs.declared.reply.Reply.TheVariants as replies
use Rattle.qc_msg.specs.declared.message.Want.TheVariants as wants
use Rattle.qc_msg.specs.declared.step.Fall.TheVariants as falls
use Rattle.qc_msg.specs.Vocabulary.{whole_grant, first_read, snapshot_with, start_with}
use Rattle.qc_outside.specs.declared.disk.ArmKind.TheVariants as arms

abbrev pub decl : Declaration
decl =
    declaration 2 1 (kind 2 2 3 0 (row 0 0 0 1 ∷ row 1 0 1 1 ∷ row 0 1 2 0 ∷ row 1 1 2 0 ∷ []) (pair 0 0 ∷ pair 0 2 ∷
    []) ∷ kind 2 2 3 0 (row 0 0 1 0 ∷ row 0 1 0 1 ∷ row 1 1 1 0 ∷ []) (pair 0 1 ∷ pair 0 2 ∷ pair 1 1 ∷ pair 1 2 ∷ []) ∷
    []) (1 ∷ []) (plan (1 ∷ 1 ∷ []) ((1 ∷ 2 ∷ []) ∷ []) ((0 ∷ 2 ∷ 2 ∷ []) ∷ []) ∷ plan (1 ∷ 1 ∷ []) ((1 ∷ 1 ∷ []) ∷ [])
    ((0 ∷ 2 ∷ 2 ∷ []) ∷ []) ∷ plan (1 ∷ 1 ∷ []) ((2 ∷ 2 ∷ []) ∷ []) ((0 ∷ 1 ∷ 1 ∷ []) ∷ []) ∷ [])

abbrev pub history : List Entry
history =
    marked 4 (Phase 1) ∷ marked 4 (Cut 2 0) ∷ marked 1 (Fell falls.Script None) ∷ marked 3 (Fell falls.Script None) ∷
    marked 3 (Rose []) ∷ marked 3 (Wrote records.Life) ∷ marked 2 (Called commands.Begin) ∷
    marked 2 (Told (replies.Began (tx 0 1))) ∷ marked 3 (Called (commands.Epoch 3)) ∷
    marked 3 (Told (replies.Order 1)) ∷ marked 3 (Called (commands.Epoch 3)) ∷ marked 3 (Told (replies.Order 1)) ∷
    marked 4 (Phase 2) ∷ marked 1 (Rose []) ∷ marked 1 (Wrote records.Life) ∷ marked 2 (Called (commands.Do 0 0)) ∷
    marked 2 (Sent 0 0 (messages.Request (tx 0 1) 1 0 (wants.Read (first_read 0 0)))) ∷ marked 2 (Lost 0) ∷
    marked 2 (Sent 1 1 (messages.Request (tx 0 1) 1 0 (wants.Read (first_read 0 0))))
    ∷ marked 3 (Called (commands.Epoch 2)) ∷
    marked 3 (Sent 2 0 (messages.Close 2)) ∷ marked 3 (Sent 3 1 (messages.Close 2)) ∷ marked 0 (Got 2) ∷
    marked 0 (Wrote (records.Close 2)) ∷ marked 0 (Sent 4 3 (messages.Answer 2 (answers.Shut (snapshot_with 0 [] []))))
    ∷
    marked 1 (Got 1) ∷ marked 3 (Got 4) ∷ marked 1 (Sent 5 2 (messages.Answer 1 (answers.Granted (whole_grant 2 0 []))))
    ∷
    marked 2 (Got 5) ∷ marked 2 (Told (replies.Response 1)) ∷ marked 1 (Got 3) ∷ marked 2 (Called commands.Commit) ∷
    marked 1 (Wrote (records.Close 2)) ∷ marked 1 (Sent 6 3 (messages.Answer 3 (answers.Shut (snapshot_with 0 [] []))))
    ∷
    marked 2 (Sent 7 1 (messages.Request (tx 0 1) 1 2 wants.Prepare)) ∷ marked 3 (Got 6) ∷
    marked 3 (Wrote (records.Decide (start_with 2 0 []))) ∷ marked 3 (Sent 8 0 (messages.Install (start_with 2 0 []))) ∷
    marked 3 (Sent 9 1 (messages.Install (start_with 2 0 []))) ∷ marked 0 (Got 8) ∷ marked 1 (Got 7) ∷
    marked 1 (Sent 10 2 (messages.Answer 7 (answers.Closed 2))) ∷ marked 2 (Got 10) ∷ marked 1 (Got 9) ∷
    marked 1 (Wrote (records.Install (start_with 2 0 []))) ∷ marked 1 (Sent 11 3 (messages.Answer 9 answers.Installed))
    ∷
    marked 2 (Sent 12 0 (messages.Decision (tx 0 1) outcomes.Aborted)) ∷
    marked 2 (Sent 13 1 (messages.Decision (tx 0 1) outcomes.Aborted)) ∷
    marked 2 (Told (replies.Aborted (causes.Closed 2 1))) ∷ marked 0 (Wrote (records.Install (start_with 2 0 []))) ∷
    marked 0 (Sent 14 3 (messages.Answer 8 answers.Installed)) ∷ marked 1 (Got 13) ∷ marked 3 (Got 11) ∷
    marked 3 (Got 14) ∷ marked 3 (Told (replies.Moved 3 3)) ∷ marked 3 (Called (commands.Epoch 2)) ∷
    marked 3 (Sent 15 0 (messages.Install (start_with 2 0 [])))
    ∷ marked 3 (Sent 16 1 (messages.Install (start_with 2 0 []))) ∷
    marked 1 (Got 16) ∷ marked 0 (Got 15) ∷ marked 1 (Sent 17 3 (messages.Answer 16 answers.Installed)) ∷
    marked 0 (Sent 18 3 (messages.Answer 15 answers.Installed)) ∷ marked 3 (Got 17) ∷ marked 3 (Got 18) ∷
    marked 3 (Told (replies.Moved 0 3)) ∷ marked 4 (Phase 3) ∷ marked 4 (Heal 2 0) ∷ marked 4 (Armed 3 arms.Stop 12) ∷
    marked 2 (Fell falls.Script None) ∷ marked 2 (Called commands.Begin) ∷ marked 2 (Told replies.Down) ∷
    marked 2 (Called (commands.Do 0 1)) ∷ marked 2 (Told replies.Down) ∷ []
