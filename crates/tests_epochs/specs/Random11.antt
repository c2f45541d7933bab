-- Random: sites 1, clients 2, steps 127, messages 31, lost 4, cuts 1, commits 3, short rounds 4, falls 6, rises 4,
-- closes 1, decisions 1, installs 1.
use Rattle.std.specs.Prelude.{List, [], ◌∷◌, Some, None}
use Rattle.qc_decl.specs.declared.declaration.Declaration.{Declaration}
use Rattle.qc_decl.specs.Vocabulary.{row}
use Rattle.qc_msg.specs.Vocabulary.{Entry, marked}
use Rattle.tests_histories.specs.Words.{stamp, own_line, operation, read_lock, prepare, commit, declaration, kind, pair}
use Rattle.tests_histories.specs.Words.{plan}
use Rattle.qc_msg.specs.declared.step.Step.TheVariants.{Phase, Cut, Called, Got, Lost, Wrote, Sent, Told, Fell, Rose}
use Rattle.tests_epochs.specs.Words.{tx_in}
use Rattle.qc_msg.specs.declared.message.Answer.TheVariants as answers
use Rattle.qc_msg.specs.declared.step.Command.TheVariants as commands
use Rattle.qc_msg.specs.declared.reply.Half.TheVariants as halves
use Rattle.qc_msg.specs.declared.message.Message.TheVariants as messages
use Rattle.qc_msg.specs.declared.message.Outcome.TheVariants as outcomes
use Rattle.qc_msg.specs.declared.record.Record.TheVariants as records
use Rattle.qc_msg.specs.declared.reply.Reply.TheVariants as replies
use Rattle.qc_msg.specs.declared.message.Want.TheVariants as wants
use Rattle.qc_msg.specs.declared.step.Fall.TheVariants as falls
use Rattle.qc_msg.specs.Vocabulary.{whole_grant, first_read, snapshot_with, start_with}

abbrev pub decl : Declaration
decl =
    declaration 1 2 (kind 3 3 3 0 (row 0 0 1 1 ∷ row 0 1 2 0 ∷ row 0 2 2 1 ∷ row 0 2 1 1 ∷ row 1 0 1 2 ∷ row 1 1 0 0 ∷
    row 1 2 0 2 ∷ row 2 0 2 1 ∷ row 2 1 1 0 ∷ row 2 2 2 1 ∷ []) (pair 0 0 ∷ pair 0 2 ∷ pair 0 3 ∷ pair 0 4 ∷ pair 0 5 ∷
    pair 0 6 ∷ pair 0 7 ∷ pair 1 0 ∷ pair 1 2 ∷ pair 1 3 ∷ pair 1 4 ∷ pair 1 5 ∷ pair 1 6 ∷ pair 1 7 ∷ pair 2 0 ∷ pair 2
    2 ∷ pair 2 3 ∷ pair 2 4 ∷ pair 2 5 ∷ pair 2 6 ∷ pair 2 7 ∷ []) ∷ kind 2 2 3 0 (row 0 0 0 1 ∷ row 1 0 1 1 ∷ row 0 1 2
    0 ∷ row 1 1 2 0 ∷ []) (pair 0 0 ∷ pair 0 2 ∷ []) ∷ []) (1 ∷ 0 ∷ []) (plan (1 ∷ []) ((1 ∷ 0 ∷ []) ∷ (1 ∷ 1 ∷ 1 ∷ [])
    ∷ []) ((1 ∷ 1 ∷ 1 ∷ []) ∷ (1 ∷ 0 ∷ 1 ∷ 1 ∷ 1 ∷ 1 ∷ 1 ∷ 1 ∷ []) ∷ []) ∷ plan (3 ∷ []) ((1 ∷ 0 ∷ []) ∷ (2 ∷ 2 ∷ 2 ∷
    []) ∷ []) ((3 ∷ 0 ∷ 3 ∷ []) ∷ (2 ∷ 0 ∷ 2 ∷ 2 ∷ 2 ∷ 2 ∷ 2 ∷ 2 ∷ []) ∷ []) ∷ plan (2 ∷ []) ((2 ∷ 0 ∷ []) ∷ (2 ∷ 2 ∷ 2
    ∷ []) ∷ []) ((1 ∷ 0 ∷ 1 ∷ []) ∷ (1 ∷ 0 ∷ 1 ∷ 1 ∷ 1 ∷ 1 ∷ 1 ∷ 1 ∷ []) ∷ []) ∷ [])

abbrev pub history : List Entry
history =
    marked 4 (Phase 1) ∷ marked 1 (Fell falls.Script None) ∷ marked 1 (Rose []) ∷ marked 1 (Wrote records.Life) ∷
    marked 2 (Fell falls.Script None) ∷ marked 2 (Rose []) ∷ marked 2 (Wrote records.Life) ∷
    marked 2 (Fell falls.Script None) ∷ marked 1 (Called commands.Begin) ∷
    marked 1 (Told (replies.Began (tx_in 0 2 1))) ∷ marked 3 (Called (commands.Epoch 2)) ∷
    marked 3 (Sent 0 0 (messages.Close 2)) ∷ marked 0 (Got 0) ∷ marked 0 (Wrote (records.Close 2)) ∷
    marked 0 (Sent 1 3 (messages.Answer 0 (answers.Shut (snapshot_with 0 [] [])))) ∷ marked 3 (Got 1) ∷
    marked 3 (Wrote (records.Decide (start_with 2 0 []))) ∷ marked 3 (Sent 2 0 (messages.Install (start_with 2 0 [])))
    ∷ marked 0 (Got 2) ∷
    marked 0 (Wrote (records.Install (start_with 2 0 []))) ∷ marked 0 (Sent 3 3 (messages.Answer 2 answers.Installed)) ∷
    marked 3 (Got 3) ∷ marked 3 (Told (replies.Moved 1 1)) ∷ marked 1 (Called (commands.Do 0 0)) ∷
    marked 1 (Sent 4 0 (messages.Request (tx_in 0 2 1) 1 0 (wants.Read (first_read 0 0)))) ∷ marked 0 (Got 4) ∷
    marked 0 (Sent 5 1 (messages.Answer 4 (answers.Closed 2))) ∷ marked 1 (Got 5) ∷
    marked 1 (Told (replies.Closed 2 0)) ∷ marked 1 (Called (commands.Do 1 2)) ∷
    marked 1 (Sent 6 0 (messages.Request (tx_in 0 2 1) 1 0 (wants.Read (first_read 1 2)))) ∷ marked 0 (Got 6) ∷
    marked 0 (Sent 7 1 (messages.Answer 6 (answers.Closed 2))) ∷ marked 1 (Got 7) ∷
    marked 1 (Told (replies.Closed 2 0)) ∷ marked 1 (Called commands.Commit) ∷
    marked 1 (Wrote (commit (stamp 1 0) (tx_in 0 2 1) [])) ∷
    marked 1 (Sent 8 0 (messages.Decision (tx_in 0 2 1) (outcomes.Committed (stamp 1 0)))) ∷
    marked 1 (Told (replies.Committed (stamp 1 0))) ∷ marked 0 (Got 8) ∷ marked 4 (Phase 2) ∷ marked 4 (Cut 0 3) ∷
    marked 0 (Fell falls.Script None) ∷ marked 0 (Rose ((records.Close 2) ∷ (records.Install (start_with 2 0 [])) ∷ []))
    ∷
    marked 0 (Wrote records.Life) ∷ marked 2 (Rose (records.Life ∷ [])) ∷ marked 2 (Wrote records.Life) ∷
    marked 1 (Called commands.Begin) ∷ marked 1 (Told (replies.Began (tx_in 0 2 2))) ∷
    marked 2 (Called commands.Begin) ∷ marked 2 (Told (replies.Began (tx_in 1 3 1))) ∷
    marked 1 (Called (commands.Do 1 2))
    ∷ marked 1 (Sent 9 0 (messages.Request (tx_in 0 2 2) 2 0 (wants.Read (first_read 1 2)))) ∷
    marked 0 (Got 9) ∷ marked 0 (Sent 10 1 (messages.Answer 9 (answers.Granted (whole_grant 3 0 []))))
    ∷ marked 1 (Got 10) ∷
    marked 1 (Sent 11 0 (messages.Request (tx_in 0 2 2) 2 3 (wants.Append 1 [] (own_line 1 1 3 ∷ [])))) ∷
    marked 0 (Got 11) ∷ marked 0 (Sent 12 1 (messages.Answer 11 (answers.Granted (whole_grant 3 0 []))))
    ∷ marked 1 (Got 12) ∷
    marked 1 (Told (replies.Response 1)) ∷ marked 2 (Called (commands.Do 0 0)) ∷
    marked 2 (Sent 13 0 (messages.Request (tx_in 1 3 1) 1 0 (wants.Read (first_read 0 0)))) ∷ marked 0 (Got 13) ∷
    marked 0 (Sent 14 2 (messages.Answer 13 (answers.Closed 2))) ∷ marked 2 (Got 14) ∷
    marked 2 (Told (replies.Closed 2 0)) ∷ marked 1 (Called (commands.Do 1 1)) ∷
    marked 1 (Sent 15 0 (messages.Request (tx_in 0 2 2) 2 3 (wants.Read (first_read 1 1)))) ∷ marked 0 (Got 15) ∷
    marked 0 (Sent 16 1 (messages.Answer 15 (answers.Granted (whole_grant 3 0 [])))) ∷ marked 1 (Got 16) ∷
    marked 1 (Sent 17 0 (messages.Request (tx_in 0 2 2) 2 3 (wants.Append 1 [] (own_line 1 1 3 ∷ own_line 2 1 4 ∷ []))))
    ∷
    marked 0 (Got 17) ∷ marked 0 (Sent 18 1 (messages.Answer 17 (answers.Granted (whole_grant 3 0 []))))
    ∷ marked 1 (Got 18) ∷
    marked 1 (Told (replies.Response 0)) ∷ marked 2 (Called (commands.Do 1 0)) ∷
    marked 2 (Sent 19 0 (messages.Request (tx_in 1 3 1) 1 0 (wants.Read (first_read 1 0)))) ∷ marked 0 (Got 19) ∷
    marked 0 (Sent 20 2 (messages.Answer 19 (answers.Closed 2))) ∷ marked 2 (Got 20) ∷
    marked 2 (Told (replies.Closed 2 0)) ∷ marked 1 (Called (commands.Do 0 1)) ∷
    marked 1 (Sent 21 0 (messages.Request (tx_in 0 2 2) 2 3 (wants.Append 0 [] (own_line 3 0 2 ∷ [])))) ∷
    marked 0 (Got 21) ∷ marked 0 (Sent 22 1 (messages.Answer 21 (answers.Granted (whole_grant 3 0 []))))
    ∷ marked 1 (Got 22) ∷
    marked 1 (Told (replies.Response 2)) ∷ marked 1 (Called commands.Commit) ∷
    marked 1 (Sent 23 0 (messages.Request (tx_in 0 2 2) 2 3 wants.Prepare)) ∷ marked 0 (Got 23) ∷
    marked 0 (Wrote (prepare (tx_in 0 2 2) 2 (read_lock 1 1 ∷ read_lock 1 2 ∷ []) (own_line 1 1 3 ∷ own_line 2 1 4 ∷
    own_line 3 0 2 ∷ []) [])) ∷
    marked 0 (Sent 24 1 (messages.Answer 23 (answers.Yes 0))) ∷ marked 1 (Got 24) ∷
    marked 1 (Wrote (commit (stamp 2 0) (tx_in 0 2 2) (operation 1 2 (Some 1) ∷ operation 1 1 (Some 0) ∷ operation 0 1
    (Some 2) ∷ []))) ∷
    marked 1 (Sent 25 0 (messages.Decision (tx_in 0 2 2) (outcomes.Committed (stamp 2 0)))) ∷
    marked 1 (Told (replies.Committed (stamp 2 0))) ∷ marked 0 (Got 25) ∷
    marked 0 (Wrote (records.Done (tx_in 0 2 2) 2)) ∷ marked 4 (Phase 3) ∷ marked 0 (Fell falls.Script None) ∷
    marked 3 (Fell falls.Script None) ∷ marked 1 (Called commands.Begin) ∷
    marked 1 (Told (replies.Began (tx_in 0 2 3))) ∷ marked 2 (Called (commands.Do 0 0)) ∷
    marked 2 (Sent 26 0 (messages.Request (tx_in 1 3 1) 1 0 (wants.Read (first_read 0 0)))) ∷ marked 2 (Lost 26) ∷
    marked 2 (Told (replies.Quorum halves.Read 0 1)) ∷ marked 1 (Called (commands.Do 1 2)) ∷
    marked 1 (Sent 27 0 (messages.Request (tx_in 0 2 3) 2 0 (wants.Read (first_read 1 2)))) ∷ marked 1 (Lost 27) ∷
    marked 1 (Told (replies.Quorum halves.Read 0 2)) ∷ marked 2 (Called (commands.Do 1 1)) ∷
    marked 2 (Sent 28 0 (messages.Request (tx_in 1 3 1) 1 0 (wants.Read (first_read 1 1)))) ∷ marked 2 (Lost 28) ∷
    marked 2 (Told (replies.Quorum halves.Read 0 1)) ∷ marked 1 (Called (commands.Do 0 1)) ∷
    marked 1 (Sent 29 0 (messages.Request (tx_in 0 2 3) 2 0 (wants.Append 0 [] (own_line 1 0 2 ∷ [])))) ∷
    marked 1 (Lost 29) ∷ marked 1 (Told (replies.Quorum halves.Append 0 3)) ∷ marked 2 (Called commands.Commit) ∷
    marked 2 (Wrote (commit (stamp 1 1) (tx_in 1 3 1) [])) ∷
    marked 2 (Sent 30 0 (messages.Decision (tx_in 1 3 1) (outcomes.Committed (stamp 1 1)))) ∷
    marked 2 (Told (replies.Committed (stamp 1 1))) ∷ marked 1 (Called (commands.Do 0 0)) ∷
    marked 1 (Told replies.Doomed) ∷ []
