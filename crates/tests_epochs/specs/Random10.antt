-- Random: sites 2, clients 3, steps 118, messages 22, lost 7, cuts 1, commits 2, short rounds 3, falls 3, rises 3,
-- unwritten records 3, closes 2, decisions 1, installs 1.
use Rattle.std.specs.Prelude.{List, [], ◌∷◌, Some}
use Rattle.qc_decl.specs.declared.declaration.Declaration.{Declaration}
use Rattle.qc_decl.specs.Vocabulary.{row}
use Rattle.qc_msg.specs.Vocabulary.{Entry, marked}
use Rattle.tests_histories.specs.Words.{tx, stamp, commit, declaration, kind, pair, plan}
use Rattle.qc_msg.specs.declared.step.Step.TheVariants.{Phase, Cut, Called, Got, Lost, Wrote, Sent, Told, Armed, Fell}
use Rattle.qc_msg.specs.declared.step.Step.TheVariants.{Rose}
use Rattle.qc_msg.specs.declared.message.Answer.TheVariants as answers
use Rattle.qc_msg.specs.declared.step.Command.TheVariants as commands
use Rattle.qc_msg.specs.declared.reply.Half.TheVariants as halves
use Rattle.qc_msg.specs.declared.message.Message.TheVariants as messages
use Rattle.qc_msg.specs.declared.record.Record.TheVariants as records
use Rattle.qc_msg.specs.declared.reply.Reply.TheVariants as replies
use Rattle.qc_msg.specs.declared.message.Want.TheVariants as wants
use Rattle.qc_msg.specs.declared.step.Fall.TheVariants as falls
use Rattle.qc_msg.specs.Vocabulary.{first_read, snapshot_with, start_with}
use Rattle.qc_outside.specs.declared.disk.ArmKind.TheVariants as arms

abbrev pub decl : Declaration
decl =
    declaration 2 3 (kind 2 2 3 0 (row 0 0 0 1 ∷ row 1 0 1 1 ∷ row 0 1 2 0 ∷ row 1 1 2 0 ∷ []) (pair 0 0 ∷ pair 0 2 ∷
    pair 1 0 ∷ []) ∷ kind 7 3 4 0 (row 0 0 0 1 ∷ row 0 1 0 2 ∷ row 1 0 0 3 ∷ row 1 1 0 4 ∷ row 2 0 0 5 ∷ row 2 1 0 6 ∷
    row 0 2 3 0 ∷ row 1 2 1 0 ∷ row 2 2 2 0 ∷ row 3 2 1 1 ∷ row 4 2 1 2 ∷ row 5 2 2 1 ∷ row 6 2 2 2 ∷ []) (pair 0 0 ∷
    pair 0 1 ∷ pair 0 3 ∷ pair 0 4 ∷ pair 1 0 ∷ pair 1 1 ∷ pair 1 3 ∷ pair 1 4 ∷ pair 2 0 ∷ pair 2 1 ∷ pair 2 3 ∷ pair 2
    4 ∷ []) ∷ []) (1 ∷ 1 ∷ []) (plan (1 ∷ 1 ∷ []) ((2 ∷ 2 ∷ 2 ∷ []) ∷ (2 ∷ 2 ∷ 2 ∷ []) ∷ []) ((1 ∷ 1 ∷ 0 ∷ 1 ∷ 1 ∷ []) ∷
    (1 ∷ 1 ∷ 1 ∷ 1 ∷ 1 ∷ []) ∷ []) ∷ plan (1 ∷ 1 ∷ []) ((2 ∷ 2 ∷ 2 ∷ []) ∷ (2 ∷ 2 ∷ 2 ∷ []) ∷ []) ((1 ∷ 1 ∷ 0 ∷ 2 ∷ 1 ∷
    []) ∷ (1 ∷ 1 ∷ 0 ∷ 1 ∷ 2 ∷ []) ∷ []) ∷ plan (3 ∷ 1 ∷ []) ((4 ∷ 4 ∷ 2 ∷ []) ∷ (3 ∷ 3 ∷ 3 ∷ []) ∷ []) ((3 ∷ 3 ∷ 0 ∷ 3
    ∷ 3 ∷ []) ∷ (2 ∷ 2 ∷ 0 ∷ 2 ∷ 2 ∷ []) ∷ []) ∷ [])

abbrev pub history : List Entry
history =
    marked 6 (Phase 1) ∷ marked 4 (Called commands.Begin) ∷ marked 5 (Called (commands.Epoch 2)) ∷
    marked 5 (Sent 0 0 (messages.Close 2)) ∷ marked 5 (Sent 1 1 (messages.Close 2)) ∷
    marked 4 (Told (replies.Began (tx 2 1))) ∷ marked 0 (Got 0) ∷ marked 0 (Wrote (records.Close 2)) ∷
    marked 0 (Sent 2 5 (messages.Answer 0 (answers.Shut (snapshot_with 0 [] [])))) ∷ marked 4 (Called commands.Commit) ∷
    marked 4 (Told replies.Unknown) ∷ marked 4 (Fell falls.Disk (Some (commit (stamp 1 2) (tx 2 1) []))) ∷
    marked 5 (Got 2) ∷ marked 3 (Called commands.Begin) ∷ marked 3 (Told (replies.Began (tx 1 1))) ∷
    marked 3 (Called commands.Commit) ∷ marked 3 (Wrote (commit (stamp 1 1) (tx 1 1) [])) ∷
    marked 3 (Told (replies.Committed (stamp 1 1))) ∷ marked 1 (Got 1) ∷ marked 1 (Wrote (records.Close 2)) ∷
    marked 1 (Sent 3 5 (messages.Answer 1 (answers.Shut (snapshot_with 0 [] [])))) ∷ marked 5 (Got 3) ∷
    marked 5 (Wrote (records.Decide (start_with 2 0 []))) ∷ marked 5 (Sent 4 0 (messages.Install (start_with 2 0 []))) ∷
    marked 5 (Sent 5 1 (messages.Install (start_with 2 0 []))) ∷ marked 0 (Got 4) ∷
    marked 0 (Sent 6 5 (messages.Answer 4 answers.Fault))
    ∷ marked 0 (Fell falls.Disk (Some (records.Install (start_with 2 0 [])))) ∷
    marked 5 (Got 6) ∷ marked 1 (Got 5) ∷ marked 1 (Fell falls.Stop (Some (records.Install (start_with 2 0 [])))) ∷
    marked 5 (Lost 5) ∷ marked 5 (Told (replies.Moved 3 0)) ∷ marked 3 (Called commands.Begin) ∷
    marked 3 (Told (replies.Began (tx 1 2))) ∷ marked 3 (Called (commands.Do 1 2)) ∷
    marked 3 (Sent 7 1 (messages.Request (tx 1 2) 1 0 (wants.Read (first_read 1 2)))) ∷
    marked 3 (Sent 8 0 (messages.Request (tx 1 2) 1 0 (wants.Read (first_read 1 2)))) ∷ marked 3 (Lost 7)
    ∷ marked 3 (Lost 8) ∷
    marked 3 (Told (replies.Quorum halves.Read 0 2)) ∷ marked 3 (Called (commands.Do 1 1)) ∷
    marked 3 (Sent 9 1 (messages.Request (tx 1 2) 1 0 (wants.Read (first_read 1 1)))) ∷
    marked 3 (Sent 10 0 (messages.Request (tx 1 2) 1 0 (wants.Read (first_read 1 1)))) ∷ marked 3 (Lost 9)
    ∷ marked 3 (Lost 10) ∷
    marked 3 (Told (replies.Quorum halves.Read 0 2)) ∷ marked 3 (Called (commands.Do 1 2)) ∷
    marked 3 (Sent 11 1 (messages.Request (tx 1 2) 1 0 (wants.Read (first_read 1 2)))) ∷
    marked 3 (Sent 12 0 (messages.Request (tx 1 2) 1 0 (wants.Read (first_read 1 2)))) ∷ marked 3 (Lost 11)
    ∷ marked 3 (Lost 12) ∷
    marked 3 (Told (replies.Quorum halves.Read 0 2)) ∷ marked 6 (Phase 2) ∷
    marked 0 (Rose ((records.Close 2) ∷ (records.Install (start_with 2 0 [])) ∷ [])) ∷ marked 0 (Wrote records.Life) ∷
    marked 6 (Armed 1 arms.Stop 4) ∷ marked 6 (Armed 4 arms.Fail 7) ∷ marked 0 (Got 0) ∷ marked 5 (Got 2) ∷
    marked 4 (Called commands.Begin) ∷ marked 4 (Told replies.Down) ∷ marked 4 (Called (commands.Do 0 1)) ∷
    marked 4 (Told replies.Down) ∷ marked 5 (Got 3) ∷ marked 4 (Called (commands.Do 1 2)) ∷
    marked 4 (Told replies.Down) ∷ marked 4 (Called commands.Commit) ∷ marked 4 (Told replies.Down) ∷
    marked 4 (Called commands.Begin) ∷ marked 4 (Told replies.Down) ∷ marked 4 (Called (commands.Do 1 1)) ∷
    marked 4 (Told replies.Down) ∷ marked 4 (Called commands.Commit) ∷ marked 4 (Told replies.Down) ∷ marked 5 (Got 6) ∷
    marked 0 (Sent 13 5 (messages.Answer 0 (answers.Closed 2))) ∷ marked 0 (Got 4) ∷ marked 5 (Got 13) ∷
    marked 0 (Sent 14 5 (messages.Answer 4 answers.Installed)) ∷ marked 0 (Got 8) ∷ marked 5 (Got 14) ∷
    marked 0 (Sent 15 3 (messages.Answer 8 (answers.Closed 2))) ∷ marked 0 (Got 10) ∷
    marked 0 (Sent 16 3 (messages.Answer 10 (answers.Closed 2))) ∷ marked 0 (Got 12) ∷ marked 3 (Got 15) ∷
    marked 0 (Sent 17 3 (messages.Answer 12 (answers.Closed 2))) ∷ marked 3 (Got 16) ∷ marked 3 (Got 17) ∷
    marked 6 (Phase 3) ∷ marked 6 (Cut 5 4) ∷ marked 1 (Rose ((records.Close 2) ∷ [])) ∷ marked 1 (Wrote records.Life) ∷
    marked 4 (Rose []) ∷ marked 4 (Wrote records.Life) ∷ marked 6 (Armed 5 arms.Fail 1) ∷ marked 5 (Got 13) ∷
    marked 2 (Called commands.Begin) ∷ marked 2 (Told (replies.Began (tx 0 1))) ∷ marked 2 (Called commands.Commit) ∷
    marked 5 (Got 14) ∷ marked 2 (Wrote (commit (stamp 1 0) (tx 0 1) [])) ∷
    marked 2 (Told (replies.Committed (stamp 1 0))) ∷ marked 5 (Called (commands.Epoch 2)) ∷
    marked 5 (Sent 18 0 (messages.Install (start_with 2 0 [])))
    ∷ marked 5 (Sent 19 1 (messages.Install (start_with 2 0 []))) ∷
    marked 0 (Got 18) ∷ marked 0 (Sent 20 5 (messages.Answer 18 answers.Installed)) ∷ marked 5 (Got 20) ∷
    marked 3 (Got 15) ∷ marked 1 (Got 19) ∷ marked 1 (Wrote (records.Install (start_with 2 0 []))) ∷
    marked 1 (Sent 21 5 (messages.Answer 19 answers.Installed)) ∷ marked 5 (Got 21) ∷
    marked 5 (Told (replies.Moved 0 3)) ∷ marked 3 (Got 16) ∷ marked 3 (Got 17) ∷ []
