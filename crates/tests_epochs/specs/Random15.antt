-- Random: sites 4, clients 3, steps 159, messages 51, lost 1, cuts 1, commits 2, falls 5, rises 3, unwritten records 2,
-- closes 4, decisions 1, installs 3.
use Rattle.std.specs.Prelude.{List, [], ◌∷◌, Some, None}
use Rattle.qc_decl.specs.declared.declaration.Declaration.{Declaration}
use Rattle.qc_decl.specs.Vocabulary.{row}
use Rattle.qc_msg.specs.Vocabulary.{Entry, marked}
use Rattle.tests_histories.specs.Words.{tx, stamp, line, own_line, operation, read_lock, prepare, commit, declaration}
use Rattle.tests_histories.specs.Words.{kind, pair, plan}
use Rattle.qc_msg.specs.declared.step.Step.TheVariants.{Phase, Cut, Called, Got, Lost, Wrote, Sent, Told, Armed, Fell}
use Rattle.qc_msg.specs.declared.step.Step.TheVariants.{Rose}
use Rattle.qc_msg.specs.declared.message.Answer.TheVariants as answers
use Rattle.qc_msg.specs.declared.step.Command.TheVariants as commands
use Rattle.qc_msg.specs.declared.message.Message.TheVariants as messages
use Rattle.qc_msg.specs.declared.message.Outcome.TheVariants as outcomes
use Rattle.qc_msg.specs.declared.record.Record.TheVariants as records
use Rattle.qc_msg.specs.declared.reply.Reply.TheVariants as replies
use Rattle.qc_msg.specs.declared.message.Want.TheVariants as wants
use Rattle.qc_msg.specs.declared.step.Fall.TheVariants as falls
use Rattle.qc_msg.specs.Vocabulary.{whole_grant, first_read, snapshot_with, start_with}
use Rattle.qc_outside.specs.declared.disk.ArmKind.TheVariants as arms

abbrev pub decl : Declaration
decl =
    declaration 4 3 (kind 2 3 3 0 (row 0 0 0 0 ∷ row 1 0 1 1 ∷ row 0 1 2 0 ∷ row 1 1 2 0 ∷ row 0 2 2 1 ∷ row 1 2 2 1 ∷
    []) (pair 0 2 ∷ pair 0 3 ∷ pair 2 3 ∷ []) ∷ kind 4 1 2 0 (row 1 0 0 2 ∷ row 3 0 0 3 ∷ []) [] ∷ []) (0 ∷ []) (plan (1
    ∷ 2 ∷ 1 ∷ 1 ∷ []) ((4 ∷ 0 ∷ 3 ∷ []) ∷ []) ((0 ∷ 1 ∷ 2 ∷ 3 ∷ []) ∷ []) ∷ plan (1 ∷ 1 ∷ 3 ∷ 1 ∷ []) ((4 ∷ 0 ∷ 4 ∷ [])
    ∷ []) ((0 ∷ 3 ∷ 3 ∷ 3 ∷ []) ∷ []) ∷ [])

abbrev pub history : List Entry
history =
    marked 8 (Phase 1) ∷ marked 0 (Fell falls.Script None) ∷ marked 0 (Rose []) ∷ marked 0 (Wrote records.Life) ∷
    marked 3 (Fell falls.Script None) ∷ marked 3 (Rose []) ∷ marked 3 (Wrote records.Life) ∷
    marked 5 (Fell falls.Script None) ∷ marked 5 (Called commands.Begin) ∷ marked 5 (Told replies.Down) ∷
    marked 4 (Called commands.Begin) ∷ marked 5 (Called commands.Commit) ∷ marked 5 (Told replies.Down) ∷
    marked 4 (Told (replies.Began (tx 0 1))) ∷ marked 4 (Called (commands.Do 0 2)) ∷
    marked 4 (Sent 0 0 (messages.Request (tx 0 1) 1 0 (wants.Read (first_read 0 2)))) ∷
    marked 4 (Sent 1 1 (messages.Request (tx 0 1) 1 0 (wants.Read (first_read 0 2)))) ∷ marked 1 (Got 1) ∷
    marked 0 (Got 0)
    ∷
    marked 0 (Sent 2 4 (messages.Answer 0 (answers.Granted (whole_grant 2 0 [])))) ∷
    marked 1 (Sent 3 4 (messages.Answer 1 (answers.Granted (whole_grant 1 0 [])))) ∷ marked 4 (Got 2) ∷ marked 4 (Got 3)
    ∷
    marked 4 (Sent 4 0 (messages.Request (tx 0 1) 1 2 (wants.Append 0 [] (own_line 1 0 3 ∷ [])))) ∷
    marked 4 (Sent 5 1 (messages.Request (tx 0 1) 1 1 (wants.Append 0 [] (own_line 1 0 3 ∷ [])))) ∷ marked 1 (Got 5) ∷
    marked 1 (Sent 6 4 (messages.Answer 5 (answers.Granted (whole_grant 1 0 [])))) ∷ marked 4 (Got 6) ∷ marked 0 (Got 4)
    ∷
    marked 0 (Sent 7 4 (messages.Answer 4 (answers.Granted (whole_grant 2 0 [])))) ∷ marked 4 (Got 7) ∷
    marked 4 (Told (replies.Response 2)) ∷ marked 4 (Called commands.Commit) ∷
    marked 4 (Sent 8 0 (messages.Request (tx 0 1) 1 2 wants.Prepare)) ∷
    marked 4 (Sent 9 1 (messages.Request (tx 0 1) 1 1 wants.Prepare)) ∷ marked 1 (Got 9) ∷ marked 0 (Got 8) ∷
    marked 0 (Wrote (prepare (tx 0 1) 1 (read_lock 0 2 ∷ []) (own_line 1 0 3 ∷ []) [])) ∷
    marked 0 (Sent 10 4 (messages.Answer 8 (answers.Yes 0))) ∷ marked 4 (Got 10) ∷
    marked 1 (Wrote (prepare (tx 0 1) 1 (read_lock 0 2 ∷ []) (own_line 1 0 3 ∷ []) [])) ∷
    marked 1 (Sent 11 4 (messages.Answer 9 (answers.Yes 0))) ∷ marked 4 (Got 11) ∷
    marked 4 (Wrote (commit (stamp 1 0) (tx 0 1) (operation 0 2 (Some 2) ∷ []))) ∷
    marked 4 (Sent 12 0 (messages.Decision (tx 0 1) (outcomes.Committed (stamp 1 0)))) ∷
    marked 4 (Sent 13 1 (messages.Decision (tx 0 1) (outcomes.Committed (stamp 1 0)))) ∷
    marked 4 (Told (replies.Committed (stamp 1 0))) ∷ marked 1 (Got 13) ∷ marked 0 (Got 12) ∷
    marked 0 (Wrote (records.Done (tx 0 1) 1)) ∷ marked 1 (Fell falls.Stop (Some (records.Done (tx 0 1) 1))) ∷
    marked 8 (Phase 2) ∷ marked 8 (Armed 0 arms.Fail 2) ∷
    marked 1 (Rose ((prepare (tx 0 1) 1 (read_lock 0 2 ∷ []) (own_line 1 0 3 ∷ []) []) ∷ (records.Done (tx 0 1) 1) ∷
    [])) ∷
    marked 1 (Wrote records.Life) ∷ marked 6 (Called commands.Begin) ∷ marked 6 (Told (replies.Began (tx 2 1))) ∷
    marked 6 (Called (commands.Do 0 0))
    ∷ marked 6 (Sent 14 2 (messages.Request (tx 2 1) 1 0 (wants.Read (first_read 0 0)))) ∷
    marked 6 (Sent 15 3 (messages.Request (tx 2 1) 1 0 (wants.Read (first_read 0 0)))) ∷
    marked 6 (Sent 16 0 (messages.Request (tx 2 1) 1 0 (wants.Read (first_read 0 0)))) ∷
    marked 6 (Sent 17 1 (messages.Request (tx 2 1) 1 0 (wants.Read (first_read 0 0)))) ∷ marked 2 (Got 14)
    ∷ marked 3 (Got 15) ∷
    marked 2 (Sent 18 6 (messages.Answer 14 (answers.Granted (whole_grant 1 0 [])))) ∷
    marked 3 (Sent 19 6 (messages.Answer 15 (answers.Granted (whole_grant 2 0 [])))) ∷ marked 6 (Got 18)
    ∷ marked 6 (Got 19) ∷
    marked 0 (Got 16)
    ∷ marked 0 (Sent 20 6 (messages.Answer 16 (answers.Granted (whole_grant 2 1 (line 1 0 1 1 0 3 ∷ []))))) ∷
    marked 6 (Got 20) ∷ marked 1 (Got 17) ∷
    marked 1 (Sent 21 6 (messages.Answer 17 (answers.Granted (whole_grant 2 1 (line 1 0 1 1 0 3 ∷ [])))))
    ∷ marked 6 (Got 21) ∷
    marked 6 (Sent 22 2 (messages.Request (tx 2 1) 1 1 (wants.Append 0 (line 1 0 1 1 0 3 ∷ []) (own_line 1 0 1 ∷ []))))
    ∷
    marked 2 (Got 22) ∷ marked 2 (Sent 23 6 (messages.Answer 22 (answers.Granted (whole_grant 1 1 []))))
    ∷ marked 6 (Got 23) ∷
    marked 6 (Told (replies.Response 1)) ∷ marked 6 (Called commands.Commit) ∷
    marked 6 (Sent 24 2 (messages.Request (tx 2 1) 1 1 wants.Prepare)) ∷
    marked 6 (Sent 25 3 (messages.Request (tx 2 1) 1 2 wants.Prepare)) ∷
    marked 6 (Sent 26 0 (messages.Request (tx 2 1) 1 2 wants.Prepare)) ∷
    marked 6 (Sent 27 1 (messages.Request (tx 2 1) 1 2 wants.Prepare)) ∷ marked 0 (Got 26) ∷
    marked 0 (Wrote (prepare (tx 2 1) 1 (read_lock 0 0 ∷ []) [] [])) ∷
    marked 0 (Sent 28 6 (messages.Answer 26 (answers.Yes 1))) ∷ marked 2 (Got 24) ∷ marked 6 (Got 28) ∷
    marked 2 (Wrote (prepare (tx 2 1) 1 (read_lock 0 0 ∷ []) (own_line 1 0 1 ∷ []) (line 1 0 1 1 0 3 ∷ []))) ∷
    marked 2 (Sent 29 6 (messages.Answer 24 (answers.Yes 1))) ∷ marked 1 (Got 27) ∷
    marked 1 (Wrote (prepare (tx 2 1) 1 (read_lock 0 0 ∷ []) [] [])) ∷
    marked 1 (Sent 30 6 (messages.Answer 27 (answers.Yes 1))) ∷ marked 6 (Got 29) ∷ marked 3 (Got 25) ∷
    marked 3 (Wrote (prepare (tx 2 1) 1 (read_lock 0 0 ∷ []) [] [])) ∷
    marked 3 (Sent 31 6 (messages.Answer 25 (answers.Yes 0))) ∷ marked 6 (Got 30) ∷ marked 6 (Got 31) ∷
    marked 6 (Wrote (commit (stamp 2 2) (tx 2 1) (operation 0 0 (Some 1) ∷ []))) ∷
    marked 6 (Sent 32 0 (messages.Decision (tx 2 1) (outcomes.Committed (stamp 2 2)))) ∷
    marked 6 (Sent 33 1 (messages.Decision (tx 2 1) (outcomes.Committed (stamp 2 2)))) ∷
    marked 6 (Sent 34 2 (messages.Decision (tx 2 1) (outcomes.Committed (stamp 2 2)))) ∷
    marked 6 (Sent 35 3 (messages.Decision (tx 2 1) (outcomes.Committed (stamp 2 2)))) ∷
    marked 6 (Told (replies.Committed (stamp 2 2))) ∷ marked 1 (Got 33) ∷ marked 1 (Wrote (records.Done (tx 2 1) 2)) ∷
    marked 2 (Got 34) ∷ marked 2 (Wrote (records.Done (tx 2 1) 2)) ∷ marked 0 (Got 32) ∷ marked 3 (Got 35) ∷
    marked 3 (Wrote (records.Done (tx 2 1) 2)) ∷ marked 0 (Wrote (records.Done (tx 2 1) 2)) ∷ marked 8 (Phase 3) ∷
    marked 8 (Cut 0 2) ∷ marked 8 (Armed 0 arms.Stop 7) ∷ marked 7 (Called (commands.Epoch 2)) ∷
    marked 7 (Sent 36 0 (messages.Close 2)) ∷ marked 7 (Sent 37 1 (messages.Close 2)) ∷
    marked 7 (Sent 38 2 (messages.Close 2)) ∷ marked 7 (Sent 39 3 (messages.Close 2)) ∷ marked 2 (Got 38) ∷
    marked 3 (Got 39) ∷ marked 3 (Wrote (records.Close 2)) ∷
    marked 3 (Sent 40 7 (messages.Answer 39 (answers.Shut (snapshot_with 2 [] []))))
    ∷ marked 2 (Wrote (records.Close 2)) ∷
    marked 2
    (Sent 41 7 (messages.Answer 38 (answers.Shut (snapshot_with 2 (line 1 0 1 1 0 3 ∷ line 2 2 1 1 0 1 ∷ []) []))))
    ∷
    marked 1 (Got 37) ∷ marked 1 (Wrote (records.Close 2)) ∷
    marked 1 (Sent 42 7 (messages.Answer 37 (answers.Shut (snapshot_with 2 (line 1 0 1 1 0 3 ∷ []) []))))
    ∷ marked 0 (Got 36) ∷
    marked 7 (Got 40) ∷ marked 0 (Wrote (records.Close 2)) ∷
    marked 0 (Sent 43 7 (messages.Answer 36 (answers.Shut (snapshot_with 2 (line 1 0 1 1 0 3 ∷ []) []))))
    ∷ marked 7 (Got 41) ∷
    marked 7 (Got 42) ∷ marked 7 (Got 43) ∷
    marked 7 (Wrote (records.Decide (start_with 2 2 (line 1 0 1 1 0 3 ∷ line 2 2 1 1 0 1 ∷ [])))) ∷
    marked 7 (Sent 44 0 (messages.Install (start_with 2 2 (line 1 0 1 1 0 3 ∷ line 2 2 1 1 0 1 ∷ [])))) ∷
    marked 7 (Sent 45 1 (messages.Install (start_with 2 2 (line 1 0 1 1 0 3 ∷ line 2 2 1 1 0 1 ∷ [])))) ∷
    marked 7 (Sent 46 2 (messages.Install (start_with 2 2 (line 1 0 1 1 0 3 ∷ line 2 2 1 1 0 1 ∷ [])))) ∷
    marked 7 (Sent 47 3 (messages.Install (start_with 2 2 (line 1 0 1 1 0 3 ∷ line 2 2 1 1 0 1 ∷ []))))
    ∷ marked 1 (Got 45) ∷
    marked 1 (Wrote (records.Install (start_with 2 2 (line 1 0 1 1 0 3 ∷ line 2 2 1 1 0 1 ∷ [])))) ∷
    marked 1 (Sent 48 7 (messages.Answer 45 answers.Installed)) ∷ marked 2 (Got 46) ∷ marked 3 (Got 47) ∷
    marked 3 (Wrote (records.Install (start_with 2 2 (line 1 0 1 1 0 3 ∷ line 2 2 1 1 0 1 ∷ [])))) ∷
    marked 3 (Sent 49 7 (messages.Answer 47 answers.Installed)) ∷
    marked 2 (Wrote (records.Install (start_with 2 2 (line 1 0 1 1 0 3 ∷ line 2 2 1 1 0 1 ∷ [])))) ∷
    marked 2 (Sent 50 7 (messages.Answer 46 answers.Installed)) ∷ marked 0 (Got 44) ∷
    marked 0 (Fell falls.Stop (Some (records.Install (start_with 2 2 (line 1 0 1 1 0 3 ∷ line 2 2 1 1 0 1 ∷ []))))) ∷
    marked 7 (Got 48) ∷ marked 7 (Got 49) ∷ marked 7 (Got 50) ∷ marked 7 (Lost 44) ∷
    marked 7 (Told (replies.Moved 15 14)) ∷ []
