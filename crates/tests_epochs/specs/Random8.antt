-- Random: sites 3, clients 2, steps 112, messages 14, commits 4, absent 14, falls 5, rises 3, unwritten records 1,
-- closes 1, decisions 1, installs 3.
use Rattle.std.specs.Prelude.{List, [], ◌∷◌, Some, None}
use Rattle.qc_decl.specs.declared.declaration.Declaration.{Declaration}
use Rattle.qc_decl.specs.Vocabulary.{row}
use Rattle.qc_msg.specs.Vocabulary.{Entry, marked}
use Rattle.tests_histories.specs.Words.{tx, stamp, operation, commit, declaration, kind, pair, plan}
use Rattle.qc_msg.specs.declared.step.Step.TheVariants.{Phase, Called, Got, Wrote, Sent, Told, Armed, Fell, Rose}
use Rattle.qc_msg.specs.declared.message.Answer.TheVariants as answers
use Rattle.qc_msg.specs.declared.step.Command.TheVariants as commands
use Rattle.qc_msg.specs.declared.message.Message.TheVariants as messages
use Rattle.qc_msg.specs.declared.record.Record.TheVariants as records
use Rattle.qc_msg.specs.declared.reply.Reply.TheVariants as replies
use Rattle.qc_msg.specs.declared.step.Fall.TheVariants as falls
use Rattle.qc_msg.specs.Vocabulary.{snapshot_with, start_with}
use Rattle.qc_outside.specs.declared.disk.ArmKind.TheVariants as arms

abbrev pub decl : Declaration
decl =
    declaration 3 2 (kind 2 3 3 0 (row 0 0 0 0 ∷ row 1 0 1 1 ∷ row 0 1 2 0 ∷ row 1 1 2 0 ∷ row 0 2 2 1 ∷ row 1 2 2 1 ∷
    []) (pair 0 2 ∷ pair 0 3 ∷ pair 1 1 ∷ []) ∷ kind 4 2 2 0 (row 1 1 1 1 ∷ row 3 0 0 2 ∷ row 3 0 1 3 ∷ row 3 1 1 0 ∷
    row 3 1 0 1 ∷ []) [] ∷ []) (1 ∷ 1 ∷ []) (plan (1 ∷ 0 ∷ 1 ∷ []) ((0 ∷ 0 ∷ []) ∷ (0 ∷ 0 ∷ []) ∷ []) ((2 ∷ 0 ∷ 0 ∷ 0 ∷
    []) ∷ (0 ∷ 0 ∷ 0 ∷ 0 ∷ []) ∷ []) ∷ plan (1 ∷ 1 ∷ 1 ∷ []) ((0 ∷ 1 ∷ []) ∷ (0 ∷ 0 ∷ []) ∷ []) ((3 ∷ 1 ∷ 0 ∷ 0 ∷ []) ∷
    (0 ∷ 0 ∷ 0 ∷ 0 ∷ []) ∷ []) ∷ [])

abbrev pub history : List Entry
history =
    marked 6 (Phase 1) ∷ marked 6 (Armed 4 arms.Fail 8) ∷ marked 3 (Called commands.Begin) ∷
    marked 4 (Called commands.Begin) ∷ marked 3 (Told (replies.Began (tx 0 1))) ∷ marked 5 (Called (commands.Epoch 2)) ∷
    marked 3 (Called (commands.Do 1 0)) ∷ marked 3 (Told replies.Absent) ∷ marked 5 (Sent 0 0 (messages.Close 2)) ∷
    marked 0 (Got 0) ∷ marked 3 (Called (commands.Do 1 1)) ∷ marked 3 (Told replies.Absent) ∷
    marked 3 (Called (commands.Do 1 0)) ∷ marked 3 (Told replies.Absent) ∷ marked 3 (Called commands.Commit) ∷
    marked 3 (Wrote (commit (stamp 1 0) (tx 0 1) (operation 1 0 None ∷ operation 1 1 None ∷ operation 1 0 None ∷ []))) ∷
    marked 3 (Told (replies.Committed (stamp 1 0))) ∷ marked 0 (Wrote (records.Close 2)) ∷
    marked 0 (Sent 1 5 (messages.Answer 0 (answers.Shut (snapshot_with 0 [] [])))) ∷ marked 5 (Got 1) ∷
    marked 5 (Wrote (records.Decide (start_with 2 0 []))) ∷ marked 5 (Sent 2 0 (messages.Install (start_with 2 0 []))) ∷
    marked 5 (Sent 3 1 (messages.Install (start_with 2 0 [])))
    ∷ marked 5 (Sent 4 2 (messages.Install (start_with 2 0 []))) ∷ marked 0 (Got 2) ∷
    marked 0 (Wrote (records.Install (start_with 2 0 []))) ∷ marked 0 (Sent 5 5 (messages.Answer 2 answers.Installed)) ∷
    marked 1 (Got 3) ∷ marked 1 (Wrote (records.Install (start_with 2 0 []))) ∷
    marked 1 (Sent 6 5 (messages.Answer 3 answers.Installed)) ∷ marked 5 (Got 5) ∷ marked 5 (Got 6) ∷
    marked 4 (Told (replies.Began (tx 1 1))) ∷ marked 4 (Called (commands.Do 1 0)) ∷ marked 4 (Told replies.Absent) ∷
    marked 4 (Called (commands.Do 0 0)) ∷ marked 4 (Told replies.Absent) ∷ marked 4 (Called commands.Commit) ∷
    marked 2 (Got 4) ∷ marked 2 (Wrote (records.Install (start_with 2 0 []))) ∷
    marked 2 (Sent 7 5 (messages.Answer 4 answers.Installed)) ∷ marked 5 (Got 7) ∷ marked 5 (Told (replies.Moved 1 7)) ∷
    marked 4 (Wrote (commit (stamp 1 1) (tx 1 1) (operation 1 0 None ∷ operation 0 0 None ∷ []))) ∷
    marked 4 (Told (replies.Committed (stamp 1 1))) ∷ marked 6 (Phase 2) ∷ marked 5 (Fell falls.Script None) ∷
    marked 5 (Fell falls.Disk None) ∷ marked 5 (Called (commands.Epoch 2)) ∷ marked 3 (Called commands.Begin) ∷
    marked 5 (Told replies.Down) ∷ marked 3 (Told (replies.Began (tx 0 2))) ∷ marked 5 (Called (commands.Epoch 2)) ∷
    marked 4 (Called commands.Begin) ∷ marked 4 (Told (replies.Began (tx 1 2))) ∷ marked 3 (Called (commands.Do 0 1)) ∷
    marked 4 (Called (commands.Do 0 1)) ∷ marked 5 (Told replies.Down) ∷ marked 4 (Told replies.Absent) ∷
    marked 3 (Told replies.Absent) ∷ marked 4 (Called commands.Abort) ∷ marked 4 (Told replies.Dropped) ∷
    marked 4 (Called commands.Begin) ∷ marked 4 (Told (replies.Began (tx 1 3))) ∷ marked 4 (Called commands.Commit) ∷
    marked 4 (Wrote (commit (stamp 2 1) (tx 1 3) [])) ∷ marked 4 (Told (replies.Committed (stamp 2 1))) ∷
    marked 6 (Phase 3) ∷ marked 0 (Fell falls.Script None) ∷
    marked 0 (Rose ((records.Close 2) ∷ (records.Install (start_with 2 0 [])) ∷ [])) ∷ marked 0 (Wrote records.Life) ∷
    marked 5 (Rose ((records.Decide (start_with 2 0 [])) ∷ [])) ∷ marked 5 (Wrote records.Life) ∷
    marked 3 (Called (commands.Do 1 0)) ∷ marked 3 (Told replies.Absent) ∷ marked 3 (Called (commands.Do 1 1)) ∷
    marked 3 (Told replies.Absent) ∷ marked 5 (Called (commands.Epoch 2)) ∷
    marked 5 (Sent 8 0 (messages.Install (start_with 2 0 [])))
    ∷ marked 5 (Sent 9 1 (messages.Install (start_with 2 0 []))) ∷
    marked 5 (Sent 10 2 (messages.Install (start_with 2 0 []))) ∷ marked 3 (Called (commands.Do 1 0)) ∷
    marked 3 (Told replies.Absent) ∷ marked 3 (Called (commands.Do 0 0)) ∷ marked 3 (Told replies.Absent) ∷
    marked 1 (Got 9) ∷ marked 1 (Sent 11 5 (messages.Answer 9 answers.Installed)) ∷ marked 3 (Called commands.Commit) ∷
    marked 3 (Wrote (commit (stamp 2 0) (tx 0 2) (operation 0 1 None ∷ operation 1 0 None ∷ operation 1 1 None ∷
    operation 1 0 None ∷ operation 0 0 None ∷ []))) ∷
    marked 3 (Told (replies.Committed (stamp 2 0))) ∷ marked 5 (Got 11) ∷ marked 0 (Got 8) ∷ marked 2 (Got 10) ∷
    marked 0 (Sent 12 5 (messages.Answer 8 answers.Installed)) ∷ marked 5 (Got 12) ∷
    marked 2 (Sent 13 5 (messages.Answer 10 answers.Installed)) ∷ marked 5 (Got 13) ∷
    marked 5 (Told (replies.Moved 0 7)) ∷ marked 6 (Phase 4) ∷ marked 4 (Fell falls.Script None) ∷
    marked 4 (Rose ((commit (stamp 1 1) (tx 1 1) (operation 1 0 None ∷ operation 0 0 None ∷ [])) ∷ (commit (stamp 2 1)
    (tx 1 3) []) ∷ [])) ∷
    marked 4 (Fell falls.Stop (Some records.Life)) ∷ marked 3 (Called commands.Begin) ∷
    marked 3 (Told (replies.Began (tx 0 3))) ∷ marked 3 (Called (commands.Do 1 1)) ∷ marked 3 (Told replies.Absent) ∷
    marked 3 (Called (commands.Do 0 1)) ∷ marked 3 (Told replies.Absent) ∷ marked 3 (Called (commands.Do 1 1)) ∷
    marked 3 (Told replies.Absent) ∷ marked 3 (Called commands.Abort) ∷ marked 3 (Told replies.Dropped) ∷ []
