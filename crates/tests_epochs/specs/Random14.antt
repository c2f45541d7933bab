-- Random: sites 2, clients 4, steps 149, messages 8, cuts 1, commits 8, absent 19, falls 7, rises 6, unwritten records
-- 2, installs 2.
use Rattle.std.specs.Prelude.{List, [], ◌∷◌, Some, None}
use Rattle.qc_decl.specs.declared.declaration.Declaration.{Declaration}
use Rattle.qc_decl.specs.Vocabulary.{row}
use Rattle.qc_msg.specs.Vocabulary.{Entry, marked}
use Rattle.tests_histories.specs.Words.{tx, stamp, operation, commit, declaration, kind, plan}
use Rattle.qc_msg.specs.declared.step.Step.TheVariants.{Phase, Cut, Called, Got, Wrote, Sent, Told, Armed, Fell, Rose}
use Rattle.tests_epochs.specs.Words.{tx_in}
use Rattle.qc_msg.specs.declared.message.Answer.TheVariants as answers
use Rattle.qc_msg.specs.declared.step.Command.TheVariants as commands
use Rattle.qc_msg.specs.declared.message.Message.TheVariants as messages
use Rattle.qc_msg.specs.declared.record.Record.TheVariants as records
use Rattle.qc_msg.specs.declared.reply.Reply.TheVariants as replies
use Rattle.qc_msg.specs.declared.step.Fall.TheVariants as falls
use Rattle.qc_msg.specs.Vocabulary.{start_with}
use Rattle.qc_outside.specs.declared.disk.ArmKind.TheVariants as arms

abbrev pub decl : Declaration
decl =
    declaration 2 4 (kind 4 1 3 0 (row 1 0 2 0 ∷ row 2 0 2 3 ∷ row 3 0 2 1 ∷ []) [] ∷ kind 2 1 1 0 (row 1 0 0 0 ∷ []) []
    ∷ []) (1 ∷ []) (plan (1 ∷ 1 ∷ []) ((0 ∷ []) ∷ []) ((0 ∷ []) ∷ []) ∷ plan (1 ∷ 1 ∷ []) ((1 ∷ []) ∷ []) ((0 ∷ []) ∷
    []) ∷ [])

abbrev pub history : List Entry
history =
    marked 7 (Phase 1) ∷ marked 7 (Armed 2 arms.Stop 12) ∷ marked 6 (Fell falls.Script None) ∷
    marked 4 (Fell falls.Script None) ∷ marked 4 (Rose []) ∷ marked 4 (Wrote records.Life) ∷
    marked 2 (Fell falls.Script None) ∷ marked 3 (Called commands.Begin) ∷ marked 5 (Called commands.Begin) ∷
    marked 3 (Told (replies.Began (tx 1 1))) ∷ marked 4 (Called commands.Begin) ∷
    marked 4 (Told (replies.Began (tx_in 2 2 1))) ∷ marked 4 (Called (commands.Do 0 0)) ∷
    marked 5 (Told (replies.Began (tx 3 1))) ∷ marked 3 (Called (commands.Do 0 0)) ∷ marked 3 (Told replies.Absent) ∷
    marked 4 (Told replies.Absent) ∷ marked 4 (Called (commands.Do 0 0)) ∷ marked 3 (Called commands.Commit) ∷
    marked 3 (Wrote (commit (stamp 1 1) (tx 1 1) (operation 0 0 None ∷ []))) ∷
    marked 3 (Told (replies.Committed (stamp 1 1))) ∷ marked 4 (Told replies.Absent) ∷
    marked 4 (Called (commands.Do 0 0)) ∷ marked 5 (Called (commands.Do 0 0)) ∷ marked 5 (Told replies.Absent) ∷
    marked 4 (Told replies.Absent) ∷ marked 5 (Called (commands.Do 0 0)) ∷ marked 4 (Called (commands.Do 0 0)) ∷
    marked 5 (Told replies.Absent) ∷ marked 5 (Called commands.Commit) ∷ marked 4 (Told replies.Absent) ∷
    marked 5 (Wrote (commit (stamp 1 3) (tx 3 1) (operation 0 0 None ∷ operation 0 0 None ∷ []))) ∷
    marked 5 (Told (replies.Committed (stamp 1 3))) ∷ marked 4 (Called (commands.Do 0 0)) ∷
    marked 4 (Told replies.Absent) ∷ marked 4 (Called commands.Begin) ∷
    marked 4 (Told (replies.Already (tx_in 2 2 1))) ∷ marked 7 (Phase 2) ∷ marked 7 (Armed 0 arms.Stop 8) ∷
    marked 7 (Armed 4 arms.Fail 2) ∷ marked 6 (Rose []) ∷ marked 6 (Wrote records.Life) ∷
    marked 4 (Called (commands.Do 0 0)) ∷ marked 4 (Told replies.Absent) ∷ marked 4 (Called commands.Commit) ∷
    marked 5 (Called commands.Begin) ∷
    marked 4 (Wrote (commit (stamp 1 2) (tx_in 2 2 1) (operation 0 0 None ∷ operation 0 0 None ∷ operation 0 0 None ∷
    operation 0 0 None ∷ operation 0 0 None ∷ operation 0 0 None ∷ []))) ∷
    marked 4 (Told (replies.Committed (stamp 1 2))) ∷ marked 6 (Called (commands.Epoch 2)) ∷
    marked 5 (Told (replies.Began (tx 3 2))) ∷ marked 6 (Told replies.Fault) ∷
    marked 6 (Fell falls.Stop (Some (records.Decide (start_with 2 0 [])))) ∷ marked 5 (Called (commands.Do 0 0)) ∷
    marked 5 (Told replies.Absent) ∷ marked 5 (Called (commands.Do 0 0)) ∷ marked 5 (Told replies.Absent) ∷
    marked 5 (Called (commands.Do 0 0)) ∷ marked 5 (Told replies.Absent) ∷ marked 2 (Called commands.Begin) ∷
    marked 2 (Told replies.Down) ∷ marked 2 (Called commands.Commit) ∷ marked 2 (Told replies.Down) ∷
    marked 7 (Phase 3) ∷ marked 1 (Fell falls.Script None) ∷ marked 1 (Rose []) ∷ marked 1 (Wrote records.Life) ∷
    marked 7 (Armed 2 arms.Stop 2) ∷ marked 4 (Fell falls.Script None) ∷
    marked 6 (Rose (records.Life ∷ (records.Decide (start_with 2 0 [])) ∷ [])) ∷ marked 6 (Wrote records.Life) ∷
    marked 4 (Rose (records.Life ∷ (commit (stamp 1 2) (tx_in 2 2 1) (operation 0 0 None ∷ operation 0 0 None ∷
    operation 0 0 None ∷ operation 0 0 None ∷ operation 0 0 None ∷ operation 0 0 None ∷ [])) ∷ [])) ∷
    marked 4 (Wrote records.Life) ∷ marked 2 (Called commands.Begin) ∷ marked 5 (Called (commands.Do 0 0)) ∷
    marked 5 (Told replies.Absent) ∷ marked 5 (Called (commands.Do 0 0)) ∷ marked 4 (Called commands.Begin) ∷
    marked 2 (Told replies.Down) ∷ marked 2 (Called (commands.Do 0 0)) ∷ marked 2 (Told replies.Down) ∷
    marked 4 (Told (replies.Began (tx_in 2 3 1))) ∷ marked 5 (Told replies.Absent) ∷
    marked 4 (Called (commands.Do 0 0)) ∷ marked 4 (Told replies.Absent) ∷ marked 4 (Called (commands.Do 0 0)) ∷
    marked 4 (Told replies.Absent) ∷ marked 5 (Called commands.Commit) ∷ marked 4 (Called commands.Commit) ∷
    marked 5 (Wrote (commit (stamp 2 3) (tx 3 2) (operation 0 0 None ∷ operation 0 0 None ∷ operation 0 0 None ∷
    operation 0 0 None ∷ operation 0 0 None ∷ []))) ∷
    marked 5 (Told (replies.Committed (stamp 2 3))) ∷
    marked 4 (Wrote (commit (stamp 2 2) (tx_in 2 3 1) (operation 0 0 None ∷ operation 0 0 None ∷ []))) ∷
    marked 4 (Told (replies.Committed (stamp 2 2))) ∷ marked 4 (Called commands.Begin) ∷
    marked 4 (Told (replies.Began (tx_in 2 3 2))) ∷ marked 4 (Called commands.Commit) ∷
    marked 4 (Wrote (commit (stamp 3 2) (tx_in 2 3 2) [])) ∷ marked 4 (Told (replies.Committed (stamp 3 2))) ∷
    marked 6 (Called (commands.Epoch 2)) ∷ marked 6 (Sent 0 0 (messages.Install (start_with 2 0 []))) ∷
    marked 6 (Sent 1 1 (messages.Install (start_with 2 0 []))) ∷ marked 1 (Got 1)
    ∷ marked 1 (Wrote (records.Install (start_with 2 0 []))) ∷
    marked 1 (Sent 2 6 (messages.Answer 1 answers.Installed)) ∷ marked 0 (Got 0) ∷
    marked 0 (Sent 3 6 (messages.Answer 0 answers.Fault))
    ∷ marked 0 (Fell falls.Disk (Some (records.Install (start_with 2 0 [])))) ∷
    marked 6 (Got 2) ∷ marked 6 (Got 3) ∷ marked 6 (Told (replies.Moved 0 2)) ∷ marked 7 (Phase 4) ∷
    marked 7 (Cut 0 1) ∷ marked 0 (Rose []) ∷ marked 0 (Wrote records.Life) ∷ marked 7 (Armed 3 arms.Stop 4) ∷
    marked 6 (Called (commands.Epoch 2)) ∷ marked 2 (Called (commands.Do 0 0)) ∷
    marked 6 (Sent 4 0 (messages.Install (start_with 2 0 [])))
    ∷ marked 6 (Sent 5 1 (messages.Install (start_with 2 0 []))) ∷ marked 1 (Got 5) ∷
    marked 5 (Called commands.Begin) ∷ marked 2 (Told replies.Down) ∷
    marked 1 (Sent 6 6 (messages.Answer 5 answers.Installed)) ∷ marked 5 (Told (replies.Began (tx 3 3))) ∷
    marked 6 (Got 6) ∷ marked 5 (Called (commands.Do 0 0)) ∷ marked 5 (Told replies.Absent) ∷
    marked 2 (Called (commands.Do 0 0)) ∷ marked 5 (Called (commands.Do 0 0)) ∷ marked 5 (Told replies.Absent) ∷
    marked 5 (Called commands.Commit) ∷
    marked 5 (Wrote (commit (stamp 3 3) (tx 3 3) (operation 0 0 None ∷ operation 0 0 None ∷ []))) ∷
    marked 5 (Told (replies.Committed (stamp 3 3))) ∷ marked 2 (Told replies.Down) ∷
    marked 2 (Called (commands.Do 0 0)) ∷ marked 2 (Told replies.Down) ∷ marked 2 (Called commands.Commit) ∷
    marked 2 (Told replies.Down) ∷ marked 0 (Got 4) ∷ marked 0 (Wrote (records.Install (start_with 2 0 []))) ∷
    marked 0 (Sent 7 6 (messages.Answer 4 answers.Installed)) ∷ marked 6 (Got 7) ∷ marked 6 (Told (replies.Moved 0 3)) ∷
    marked 4 (Called commands.Begin) ∷ marked 4 (Told (replies.Began (tx_in 2 3 3))) ∷
    marked 4 (Called (commands.Do 0 0)) ∷ marked 4 (Told replies.Absent) ∷ marked 4 (Called commands.Commit) ∷
    marked 4 (Wrote (commit (stamp 4 2) (tx_in 2 3 3) (operation 0 0 None ∷ []))) ∷
    marked 4 (Told (replies.Committed (stamp 4 2))) ∷ []
