-- Random: sites 4, clients 3, steps 173, messages 44, commits 2, falls 5, rises 3, closes 4, decisions 1, installs 4.
use Rattle.std.specs.Prelude.{List, [], ◌∷◌, None}
use Rattle.qc_decl.specs.declared.declaration.Declaration.{Declaration}
use Rattle.qc_decl.specs.Vocabulary.{row}
use Rattle.qc_msg.specs.Vocabulary.{Entry, marked}
use Rattle.tests_histories.specs.Words.{tx, stamp, commit, declaration, kind, pair, plan}
use Rattle.qc_msg.specs.declared.step.Step.TheVariants.{Phase, Called, Got, Wrote, Sent, Told, Armed, Fell, Rose}
use Rattle.tests_epochs.specs.Words.{tx_in}
use Rattle.qc_msg.specs.declared.message.Answer.TheVariants as answers
use Rattle.qc_msg.specs.declared.step.Command.TheVariants as commands
use Rattle.qc_msg.specs.declared.message.Message.TheVariants as messages
use Rattle.qc_msg.specs.declared.message.Outcome.TheVariants as outcomes
use Rattle.qc_msg.specs.declared.record.Record.TheVariants as records
use Rattle.qc_msg.specs.declared.reply.Reply.TheVariants as replies
use Rattle.qc_msg.specs.declared.message.Want.TheVariants as wants
use Rattle.qc_msg.specs.declared.step.Fall.TheVariants as falls
use Rattle.qc_msg.specs.Vocabulary.{first_read, snapshot_with, start_with}
use Rattle.qc_outside.specs.declared.disk.ArmKind.TheVariants as arms

abbrev pub decl : Declaration
decl =
    declaration 4 3 (kind 2 3 3 0 (row 0 0 0 0 ∷ row 1 0 1 1 ∷ row 0 1 2 0 ∷ row 1 1 2 0 ∷ row 0 2 2 1 ∷ row 1 2 2 1 ∷
    []) (pair 0 2 ∷ pair 0 3 ∷ []) ∷ kind 3 3 3 0 (row 0 0 0 0 ∷ row 0 1 0 1 ∷ row 1 0 0 0 ∷ row 1 1 1 2 ∷ row 1 1 0 1 ∷
    row 1 2 2 0 ∷ row 2 0 2 1 ∷ row 2 0 0 1 ∷ row 2 1 1 1 ∷ []) (pair 0 0 ∷ pair 0 2 ∷ pair 0 4 ∷ pair 1 0 ∷ pair 1 1 ∷
    pair 1 2 ∷ pair 1 3 ∷ pair 1 4 ∷ pair 2 0 ∷ pair 2 1 ∷ pair 2 2 ∷ pair 2 3 ∷ pair 2 4 ∷ []) ∷ []) (0 ∷ []) (plan (3
    ∷ 3 ∷ 1 ∷ 1 ∷ []) ((6 ∷ 1 ∷ 0 ∷ []) ∷ []) ((0 ∷ 0 ∷ 3 ∷ 3 ∷ []) ∷ []) ∷ plan (1 ∷ 1 ∷ 1 ∷ 1 ∷ []) ((3 ∷ 0 ∷ 0 ∷ [])
    ∷ []) ((0 ∷ 0 ∷ 2 ∷ 2 ∷ []) ∷ []) ∷ plan (1 ∷ 1 ∷ 1 ∷ 3 ∷ []) ((4 ∷ 0 ∷ 0 ∷ []) ∷ []) ((1 ∷ 0 ∷ 3 ∷ 3 ∷ []) ∷ []) ∷
    [])

abbrev pub history : List Entry
history =
    marked 8 (Phase 1) ∷ marked 6 (Fell falls.Script None) ∷ marked 6 (Rose []) ∷ marked 6 (Wrote records.Life) ∷
    marked 4 (Called commands.Begin) ∷ marked 4 (Told (replies.Began (tx 0 1))) ∷ marked 4 (Called commands.Commit) ∷
    marked 4 (Wrote (commit (stamp 1 0) (tx 0 1) [])) ∷ marked 4 (Told (replies.Committed (stamp 1 0))) ∷
    marked 7 (Called (commands.Epoch 2)) ∷ marked 7 (Sent 0 0 (messages.Close 2)) ∷
    marked 7 (Sent 1 1 (messages.Close 2)) ∷ marked 7 (Sent 2 2 (messages.Close 2)) ∷
    marked 7 (Sent 3 3 (messages.Close 2)) ∷ marked 1 (Got 1) ∷ marked 3 (Got 3) ∷ marked 0 (Got 0) ∷
    marked 0 (Wrote (records.Close 2)) ∷ marked 0 (Sent 4 7 (messages.Answer 0 (answers.Shut (snapshot_with 0 [] []))))
    ∷
    marked 2 (Got 2) ∷ marked 7 (Got 4) ∷ marked 2 (Wrote (records.Close 2)) ∷
    marked 2 (Sent 5 7 (messages.Answer 2 (answers.Shut (snapshot_with 0 [] [])))) ∷ marked 1 (Wrote (records.Close 2))
    ∷
    marked 1 (Sent 6 7 (messages.Answer 1 (answers.Shut (snapshot_with 0 [] [])))) ∷ marked 3 (Wrote (records.Close 2))
    ∷
    marked 3 (Sent 7 7 (messages.Answer 3 (answers.Shut (snapshot_with 0 [] [])))) ∷ marked 6 (Called commands.Begin) ∷
    marked 6 (Told (replies.Began (tx_in 2 2 1))) ∷ marked 7 (Got 5) ∷ marked 7 (Got 6) ∷
    marked 6 (Called (commands.Do 0 0))
    ∷ marked 6 (Sent 8 2 (messages.Request (tx_in 2 2 1) 1 0 (wants.Read (first_read 0 0)))) ∷
    marked 6 (Sent 9 3 (messages.Request (tx_in 2 2 1) 1 0 (wants.Read (first_read 0 0)))) ∷
    marked 6 (Sent 10 0 (messages.Request (tx_in 2 2 1) 1 0 (wants.Read (first_read 0 0)))) ∷
    marked 6 (Sent 11 1 (messages.Request (tx_in 2 2 1) 1 0 (wants.Read (first_read 0 0)))) ∷ marked 0 (Got 10)
    ∷ marked 1 (Got 11) ∷
    marked 3 (Got 9) ∷ marked 1 (Sent 12 6 (messages.Answer 11 (answers.Closed 2))) ∷ marked 2 (Got 8) ∷
    marked 0 (Sent 13 6 (messages.Answer 10 (answers.Closed 2))) ∷
    marked 3 (Sent 14 6 (messages.Answer 9 (answers.Closed 2))) ∷
    marked 2 (Sent 15 6 (messages.Answer 8 (answers.Closed 2))) ∷ marked 6 (Got 12) ∷ marked 6 (Got 13) ∷
    marked 7 (Got 7) ∷ marked 7 (Wrote (records.Decide (start_with 2 0 [])))
    ∷ marked 7 (Sent 16 0 (messages.Install (start_with 2 0 []))) ∷
    marked 7 (Sent 17 1 (messages.Install (start_with 2 0 [])))
    ∷ marked 7 (Sent 18 2 (messages.Install (start_with 2 0 []))) ∷
    marked 7 (Sent 19 3 (messages.Install (start_with 2 0 []))) ∷ marked 3 (Got 19) ∷ marked 0 (Got 16)
    ∷ marked 2 (Got 18) ∷
    marked 1 (Got 17) ∷ marked 3 (Wrote (records.Install (start_with 2 0 []))) ∷
    marked 3 (Sent 20 7 (messages.Answer 19 answers.Installed)) ∷ marked 2 (Wrote (records.Install (start_with 2 0 [])))
    ∷
    marked 2 (Sent 21 7 (messages.Answer 18 answers.Installed)) ∷ marked 0 (Wrote (records.Install (start_with 2 0 [])))
    ∷
    marked 0 (Sent 22 7 (messages.Answer 16 answers.Installed)) ∷ marked 1 (Wrote (records.Install (start_with 2 0 [])))
    ∷
    marked 1 (Sent 23 7 (messages.Answer 17 answers.Installed)) ∷ marked 6 (Got 14) ∷ marked 6 (Got 15) ∷
    marked 6 (Told (replies.Closed 2 2)) ∷ marked 7 (Got 20) ∷ marked 6 (Called commands.Commit) ∷
    marked 6 (Wrote (commit (stamp 1 2) (tx_in 2 2 1) [])) ∷
    marked 6 (Sent 24 0 (messages.Decision (tx_in 2 2 1) (outcomes.Committed (stamp 1 2)))) ∷
    marked 6 (Sent 25 1 (messages.Decision (tx_in 2 2 1) (outcomes.Committed (stamp 1 2)))) ∷
    marked 6 (Sent 26 2 (messages.Decision (tx_in 2 2 1) (outcomes.Committed (stamp 1 2)))) ∷
    marked 6 (Sent 27 3 (messages.Decision (tx_in 2 2 1) (outcomes.Committed (stamp 1 2)))) ∷
    marked 6 (Told (replies.Committed (stamp 1 2))) ∷ marked 1 (Got 25) ∷ marked 3 (Got 27) ∷ marked 2 (Got 26) ∷
    marked 0 (Got 24) ∷ marked 7 (Got 21) ∷ marked 7 (Got 22) ∷ marked 7 (Got 23) ∷
    marked 7 (Told (replies.Moved 15 15)) ∷ marked 8 (Phase 2) ∷ marked 8 (Armed 5 arms.Stop 4) ∷
    marked 4 (Fell falls.Script None) ∷ marked 5 (Fell falls.Script None) ∷ marked 4 (Called commands.Begin) ∷
    marked 4 (Told replies.Down) ∷ marked 5 (Called commands.Begin) ∷ marked 5 (Told replies.Down) ∷
    marked 5 (Called commands.Commit) ∷ marked 5 (Told replies.Down) ∷ marked 8 (Phase 3) ∷
    marked 6 (Fell falls.Script None) ∷ marked 5 (Called commands.Begin) ∷ marked 5 (Told replies.Down) ∷
    marked 5 (Called (commands.Do 0 2)) ∷ marked 5 (Told replies.Down) ∷ marked 4 (Called (commands.Do 0 2)) ∷
    marked 6 (Called commands.Begin) ∷ marked 4 (Told replies.Down) ∷ marked 4 (Called commands.Commit) ∷
    marked 5 (Called commands.Commit) ∷ marked 4 (Told replies.Down) ∷ marked 5 (Told replies.Down) ∷
    marked 5 (Called commands.Begin) ∷ marked 6 (Told replies.Down) ∷ marked 5 (Told replies.Down) ∷
    marked 6 (Called (commands.Do 0 0)) ∷ marked 6 (Told replies.Down) ∷ marked 6 (Called (commands.Do 0 1)) ∷
    marked 6 (Told replies.Down) ∷ marked 5 (Called (commands.Do 0 2)) ∷ marked 5 (Told replies.Down) ∷
    marked 7 (Called (commands.Epoch 2)) ∷ marked 6 (Called commands.Commit) ∷ marked 6 (Told replies.Down) ∷
    marked 5 (Called (commands.Do 0 1)) ∷ marked 5 (Told replies.Down) ∷ marked 5 (Called (commands.Do 0 1)) ∷
    marked 5 (Told replies.Down) ∷ marked 5 (Called commands.Commit) ∷ marked 5 (Told replies.Down) ∷
    marked 7 (Sent 28 0 (messages.Install (start_with 2 0 [])))
    ∷ marked 7 (Sent 29 1 (messages.Install (start_with 2 0 []))) ∷
    marked 7 (Sent 30 2 (messages.Install (start_with 2 0 [])))
    ∷ marked 7 (Sent 31 3 (messages.Install (start_with 2 0 []))) ∷
    marked 1 (Got 29) ∷ marked 2 (Got 30) ∷ marked 1 (Sent 32 7 (messages.Answer 29 answers.Installed)) ∷
    marked 2 (Sent 33 7 (messages.Answer 30 answers.Installed)) ∷ marked 3 (Got 31) ∷ marked 0 (Got 28) ∷
    marked 3 (Sent 34 7 (messages.Answer 31 answers.Installed)) ∷
    marked 0 (Sent 35 7 (messages.Answer 28 answers.Installed)) ∷ marked 7 (Got 32) ∷ marked 7 (Got 33) ∷
    marked 7 (Got 34) ∷ marked 7 (Got 35) ∷ marked 7 (Told (replies.Moved 0 15)) ∷ marked 8 (Phase 4) ∷
    marked 1 (Fell falls.Script None) ∷ marked 1 (Rose ((records.Close 2) ∷ (records.Install (start_with 2 0 [])) ∷ []))
    ∷
    marked 1 (Wrote records.Life) ∷ marked 5 (Rose []) ∷ marked 5 (Wrote records.Life) ∷
    marked 6 (Called commands.Begin) ∷ marked 7 (Called (commands.Epoch 2)) ∷
    marked 7 (Sent 36 0 (messages.Install (start_with 2 0 [])))
    ∷ marked 7 (Sent 37 1 (messages.Install (start_with 2 0 []))) ∷
    marked 7 (Sent 38 2 (messages.Install (start_with 2 0 [])))
    ∷ marked 7 (Sent 39 3 (messages.Install (start_with 2 0 []))) ∷
    marked 2 (Got 38) ∷ marked 3 (Got 39) ∷ marked 6 (Told replies.Down) ∷
    marked 2 (Sent 40 7 (messages.Answer 38 answers.Installed)) ∷ marked 6 (Called (commands.Do 0 2)) ∷
    marked 6 (Told replies.Down) ∷ marked 6 (Called (commands.Do 0 0)) ∷ marked 7 (Got 40) ∷
    marked 3 (Sent 41 7 (messages.Answer 39 answers.Installed)) ∷ marked 7 (Got 41) ∷ marked 6 (Told replies.Down) ∷
    marked 0 (Got 36) ∷ marked 1 (Got 37) ∷ marked 1 (Sent 42 7 (messages.Answer 37 answers.Installed)) ∷
    marked 6 (Called (commands.Do 0 2)) ∷ marked 7 (Got 42) ∷ marked 6 (Told replies.Down) ∷
    marked 0 (Sent 43 7 (messages.Answer 36 answers.Installed)) ∷ marked 7 (Got 43) ∷
    marked 7 (Told (replies.Moved 0 15)) ∷ []
