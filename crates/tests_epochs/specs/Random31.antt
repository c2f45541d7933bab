-- Random: sites 1, clients 4, steps 210, messages 50, lost 2, cuts 2, commits 5, aborts 2, conflicts 1, short rounds 1,
-- falls 3, rises 2.
use Rattle.std.specs.Prelude.{List, [], ◌∷◌, Some, None}
use Rattle.qc_decl.specs.declared.declaration.Declaration.{Declaration}
use Rattle.qc_decl.specs.Vocabulary.{row}
use Rattle.qc_msg.specs.Vocabulary.{Entry, marked}
use Rattle.tests_histories.specs.Words.{tx, stamp, line, own_line, operation, read_lock, prepare, commit, declaration}
use Rattle.tests_histories.specs.Words.{kind, pair, plan}
use Rattle.qc_msg.specs.declared.step.Step.TheVariants.{Phase, Cut, Heal, Called, Got, Lost, Wrote, Sent, Told, Armed}
use Rattle.qc_msg.specs.declared.step.Step.TheVariants.{Fell, Rose}
use Rattle.qc_msg.specs.declared.message.Answer.TheVariants as answers
use Rattle.qc_msg.specs.declared.reply.AbortCause.TheVariants as causes
use Rattle.qc_msg.specs.declared.step.Command.TheVariants as commands
use Rattle.qc_msg.specs.declared.reply.Half.TheVariants as halves
use Rattle.qc_msg.specs.declared.message.Message.TheVariants as messages
use Rattle.qc_msg.specs.declared.message.Outcome.TheVariants as outcomes
use Rattle.qc_msg.specs.declared.record.Record.TheVariants as records
use Rattle.qc_msg.specs.declared.reply.Reply.TheVariants as replies
use Rattle.qc_msg.specs.declared.message.Want.TheVariants as wants
use Rattle.qc_msg.specs.declared.step.Fall.TheVariants as falls
use Rattle.qc_msg.specs.Vocabulary.{whole_grant, first_read}
use Rattle.qc_outside.specs.declared.disk.ArmKind.TheVariants as arms

abbrev pub decl : Declaration
decl =
    declaration 1 4 (kind 2 3 3 0 (row 0 0 0 0 ∷ row 1 0 1 1 ∷ row 0 1 2 0 ∷ row 1 1 2 0 ∷ row 0 2 2 1 ∷ row 1 2 2 1 ∷
    []) (pair 0 2 ∷ pair 0 3 ∷ []) ∷ kind 3 3 5 0 (row 0 0 0 1 ∷ row 1 0 0 2 ∷ row 2 0 1 2 ∷ row 0 1 1 0 ∷ row 1 1 0 0 ∷
    row 2 1 0 1 ∷ row 0 2 2 0 ∷ row 1 2 3 1 ∷ row 2 2 4 2 ∷ []) (pair 0 0 ∷ pair 0 2 ∷ pair 0 3 ∷ pair 1 0 ∷ pair 1 3 ∷
    pair 1 4 ∷ pair 2 0 ∷ pair 2 3 ∷ []) ∷ []) (0 ∷ 0 ∷ []) (plan (1 ∷ []) ((1 ∷ 0 ∷ 0 ∷ []) ∷ (1 ∷ 1 ∷ 1 ∷ []) ∷ [])
    ((0 ∷ 0 ∷ 1 ∷ 1 ∷ []) ∷ (0 ∷ 0 ∷ 1 ∷ 1 ∷ []) ∷ []) ∷ plan (1 ∷ []) ((1 ∷ 0 ∷ 0 ∷ []) ∷ (1 ∷ 0 ∷ 1 ∷ []) ∷ []) ((0 ∷
    0 ∷ 1 ∷ 1 ∷ []) ∷ (0 ∷ 0 ∷ 1 ∷ 1 ∷ []) ∷ []) ∷ plan (2 ∷ []) ((2 ∷ 0 ∷ 0 ∷ []) ∷ (2 ∷ 0 ∷ 2 ∷ []) ∷ []) ((0 ∷ 1 ∷ 1
    ∷ 1 ∷ []) ∷ (0 ∷ 0 ∷ 1 ∷ 1 ∷ []) ∷ []) ∷ [])

abbrev pub history : List Entry
history =
    marked 6 (Phase 1) ∷ marked 6 (Cut 5 1) ∷ marked 4 (Called commands.Begin) ∷
    marked 4 (Told (replies.Began (tx 3 1))) ∷ marked 4 (Called (commands.Do 1 0)) ∷
    marked 4 (Sent 0 0 (messages.Request (tx 3 1) 1 0 (wants.Read (first_read 1 0)))) ∷ marked 0 (Got 0) ∷
    marked 0 (Sent 1 4 (messages.Answer 0 (answers.Granted (whole_grant 1 0 [])))) ∷ marked 4 (Got 1) ∷
    marked 4 (Told (replies.Response 0)) ∷ marked 4 (Called (commands.Do 0 2)) ∷
    marked 4 (Sent 2 0 (messages.Request (tx 3 1) 1 1 (wants.Append 0 [] (own_line 2 0 3 ∷ [])))) ∷ marked 0 (Got 2) ∷
    marked 0 (Sent 3 4 (messages.Answer 2 (answers.Granted (whole_grant 1 0 [])))) ∷ marked 4 (Got 3) ∷
    marked 4 (Told (replies.Response 2)) ∷ marked 4 (Called (commands.Do 0 0)) ∷
    marked 4 (Sent 4 0 (messages.Request (tx 3 1) 1 1 (wants.Read (first_read 0 0)))) ∷ marked 4 (Lost 4) ∷
    marked 4 (Told (replies.Quorum halves.Read 0 1)) ∷ marked 4 (Called commands.Commit) ∷
    marked 4 (Sent 5 0 (messages.Request (tx 3 1) 1 1 wants.Prepare)) ∷ marked 0 (Got 5) ∷
    marked 0 (Wrote (prepare (tx 3 1) 1 (read_lock 1 0 ∷ []) (own_line 2 0 3 ∷ []) [])) ∷
    marked 0 (Sent 6 4 (messages.Answer 5 (answers.Yes 0))) ∷ marked 4 (Got 6) ∷
    marked 4 (Wrote (commit (stamp 1 3) (tx 3 1) (operation 1 0 (Some 0) ∷ operation 0 2 (Some 2) ∷ []))) ∷
    marked 4 (Sent 7 0 (messages.Decision (tx 3 1) (outcomes.Committed (stamp 1 3)))) ∷
    marked 4 (Told (replies.Committed (stamp 1 3))) ∷ marked 0 (Got 7) ∷ marked 0 (Wrote (records.Done (tx 3 1) 1)) ∷
    marked 6 (Phase 2) ∷ marked 6 (Heal 5 1) ∷ marked 1 (Called commands.Begin) ∷
    marked 1 (Told (replies.Began (tx 0 1))) ∷ marked 0 (Got 4) ∷
    marked 0 (Sent 8 4 (messages.Answer 4 (answers.Granted (whole_grant 1 1 (line 1 3 1 2 0 3 ∷ [])))))
    ∷ marked 4 (Got 8) ∷
    marked 2 (Called commands.Begin) ∷ marked 1 (Called (commands.Do 0 1)) ∷ marked 2 (Told (replies.Began (tx 1 1))) ∷
    marked 2 (Called (commands.Do 1 1)) ∷
    marked 1 (Sent 9 0 (messages.Request (tx 0 1) 1 0 (wants.Append 0 [] (own_line 1 0 2 ∷ [])))) ∷
    marked 2 (Sent 10 0 (messages.Request (tx 1 1) 1 0 (wants.Read (first_read 1 1)))) ∷
    marked 3 (Called commands.Begin) ∷
    marked 0 (Got 9) ∷ marked 0 (Sent 11 1 (messages.Answer 9 (answers.Clash (tx 3 1) 0 2))) ∷
    marked 0 (Sent 12 4 (messages.Inquiry (tx 3 1))) ∷ marked 4 (Got 12) ∷
    marked 4 (Sent 13 0 (messages.Decision (tx 3 1) (outcomes.Committed (stamp 1 3)))) ∷ marked 1 (Got 11) ∷
    marked 0 (Got 10) ∷ marked 0 (Sent 14 2 (messages.Answer 10 (answers.Granted (whole_grant 1 1 []))))
    ∷ marked 0 (Got 13) ∷
    marked 2 (Got 14) ∷ marked 1 (Told (replies.Conflict (tx 3 1) 0)) ∷
    marked 2 (Sent 15 0 (messages.Request (tx 1 1) 1 1 (wants.Append 1 [] (own_line 1 1 2 ∷ [])))) ∷ marked 0 (Got 15) ∷
    marked 3 (Told (replies.Began (tx 2 1)))
    ∷ marked 0 (Sent 16 2 (messages.Answer 15 (answers.Granted (whole_grant 1 1 [])))) ∷
    marked 2 (Got 16) ∷ marked 2 (Told (replies.Response 2)) ∷ marked 2 (Called commands.Commit) ∷
    marked 2 (Sent 17 0 (messages.Request (tx 1 1) 1 1 wants.Prepare)) ∷ marked 2 (Lost 17) ∷
    marked 2 (Sent 18 0 (messages.Decision (tx 1 1) outcomes.Aborted)) ∷
    marked 2 (Told (replies.Aborted (causes.NoAnswer 0))) ∷ marked 0 (Got 18) ∷ marked 3 (Called (commands.Do 0 1)) ∷
    marked 3 (Sent 19 0 (messages.Request (tx 2 1) 1 0 (wants.Append 0 [] (own_line 1 0 2 ∷ [])))) ∷ marked 0 (Got 19) ∷
    marked 0 (Sent 20 3 (messages.Answer 19 (answers.Granted (whole_grant 1 1 [])))) ∷ marked 3 (Got 20) ∷
    marked 3 (Told (replies.Response 2)) ∷ marked 3 (Called commands.Commit) ∷
    marked 3 (Sent 21 0 (messages.Request (tx 2 1) 1 1 wants.Prepare)) ∷ marked 0 (Got 21) ∷
    marked 0 (Wrote (prepare (tx 2 1) 1 [] (own_line 1 0 2 ∷ []) [])) ∷
    marked 0 (Sent 22 3 (messages.Answer 21 (answers.Yes 1))) ∷ marked 3 (Got 22) ∷
    marked 3 (Wrote (commit (stamp 2 2) (tx 2 1) (operation 0 1 (Some 2) ∷ []))) ∷
    marked 3 (Sent 23 0 (messages.Decision (tx 2 1) (outcomes.Committed (stamp 2 2)))) ∷
    marked 3 (Told (replies.Committed (stamp 2 2))) ∷ marked 6 (Phase 3) ∷ marked 6 (Cut 1 2) ∷
    marked 6 (Armed 1 arms.Stop 1) ∷ marked 5 (Fell falls.Script None) ∷ marked 4 (Fell falls.Script None) ∷
    marked 1 (Called (commands.Do 0 2)) ∷ marked 5 (Called (commands.Epoch 2)) ∷ marked 5 (Told replies.Down) ∷
    marked 0 (Got 17) ∷ marked 1 (Told replies.Doomed) ∷ marked 0 (Sent 24 2 (messages.Answer 17 answers.Stale)) ∷
    marked 0 (Got 21) ∷ marked 0 (Sent 25 3 (messages.Answer 21 (answers.Yes 1))) ∷ marked 0 (Got 23) ∷
    marked 0 (Wrote (records.Done (tx 2 1) 2)) ∷ marked 3 (Got 25) ∷ marked 2 (Got 24) ∷ marked 6 (Phase 4) ∷
    marked 5 (Called (commands.Epoch 3)) ∷ marked 5 (Told replies.Down) ∷ marked 3 (Called commands.Begin) ∷
    marked 5 (Called (commands.Epoch 3)) ∷ marked 5 (Told replies.Down) ∷ marked 3 (Told (replies.Began (tx 2 2))) ∷
    marked 3 (Called (commands.Do 0 0)) ∷ marked 4 (Called commands.Begin) ∷ marked 4 (Told replies.Down) ∷
    marked 3 (Sent 26 0 (messages.Request (tx 2 2) 1 0 (wants.Read (first_read 0 0)))) ∷ marked 0 (Got 26) ∷
    marked 4 (Called (commands.Do 0 0)) ∷
    marked 0
    (Sent 27 3 (messages.Answer 26 (answers.Granted (whole_grant 1 2 (line 1 3 1 2 0 3 ∷ line 2 2 1 1 0 2 ∷ []))))) ∷
    marked 3 (Got 27) ∷ marked 4 (Told replies.Down) ∷ marked 3 (Told (replies.Response 0)) ∷
    marked 3 (Called commands.Abort) ∷ marked 3 (Sent 28 0 (messages.Decision (tx 2 2) outcomes.Aborted)) ∷
    marked 3 (Told replies.Dropped) ∷ marked 1 (Called (commands.Do 1 1)) ∷ marked 1 (Told replies.Doomed) ∷
    marked 4 (Called (commands.Do 1 0)) ∷ marked 4 (Told replies.Down) ∷ marked 0 (Got 28) ∷
    marked 4 (Called commands.Abort) ∷ marked 1 (Called (commands.Do 1 1)) ∷ marked 4 (Told replies.Down) ∷
    marked 4 (Called commands.Begin) ∷ marked 4 (Told replies.Down) ∷ marked 1 (Told replies.Doomed) ∷
    marked 4 (Called (commands.Do 1 2)) ∷ marked 4 (Told replies.Down) ∷ marked 1 (Called commands.Commit) ∷
    marked 1 (Sent 29 0 (messages.Decision (tx 0 1) outcomes.Aborted)) ∷
    marked 1 (Told (replies.Aborted causes.Doomed)) ∷ marked 0 (Got 29) ∷ marked 6 (Phase 5) ∷
    marked 0 (Fell falls.Script None) ∷
    marked 0 (Rose ((prepare (tx 3 1) 1 (read_lock 1 0 ∷ []) (own_line 2 0 3 ∷ []) []) ∷ (records.Done (tx 3 1) 1) ∷
    (prepare (tx 2 1) 1 [] (own_line 1 0 2 ∷ []) []) ∷ (records.Done (tx 2 1) 2) ∷ [])) ∷
    marked 0 (Wrote records.Life) ∷ marked 5 (Rose []) ∷ marked 5 (Wrote records.Life) ∷
    marked 3 (Called commands.Begin) ∷ marked 3 (Told (replies.Began (tx 2 3))) ∷ marked 3 (Called (commands.Do 1 1)) ∷
    marked 3 (Sent 30 0 (messages.Request (tx 2 3) 1 0 (wants.Read (first_read 1 1)))) ∷ marked 0 (Got 30) ∷
    marked 0 (Sent 31 3 (messages.Answer 30 (answers.Granted (whole_grant 2 2 [])))) ∷ marked 3 (Got 31) ∷
    marked 3 (Sent 32 0 (messages.Request (tx 2 3) 1 2 (wants.Append 1 [] (own_line 1 1 2 ∷ [])))) ∷ marked 0 (Got 32) ∷
    marked 0 (Sent 33 3 (messages.Answer 32 (answers.Granted (whole_grant 2 2 [])))) ∷ marked 3 (Got 33) ∷
    marked 3 (Told (replies.Response 2)) ∷ marked 3 (Called commands.Commit) ∷
    marked 3 (Sent 34 0 (messages.Request (tx 2 3) 1 2 wants.Prepare)) ∷ marked 0 (Got 34) ∷
    marked 0 (Wrote (prepare (tx 2 3) 1 (read_lock 1 1 ∷ []) (own_line 1 1 2 ∷ []) [])) ∷
    marked 0 (Sent 35 3 (messages.Answer 34 (answers.Yes 2))) ∷ marked 3 (Got 35) ∷
    marked 3 (Wrote (commit (stamp 3 2) (tx 2 3) (operation 1 1 (Some 2) ∷ []))) ∷
    marked 3 (Sent 36 0 (messages.Decision (tx 2 3) (outcomes.Committed (stamp 3 2)))) ∷
    marked 3 (Told (replies.Committed (stamp 3 2))) ∷ marked 0 (Got 36) ∷ marked 0 (Wrote (records.Done (tx 2 3) 3)) ∷
    marked 3 (Called commands.Begin) ∷ marked 3 (Told (replies.Began (tx 2 4))) ∷ marked 3 (Called (commands.Do 1 1)) ∷
    marked 3 (Sent 37 0 (messages.Request (tx 2 4) 1 0 (wants.Read (first_read 1 1)))) ∷ marked 0 (Got 37) ∷
    marked 0 (Sent 38 3 (messages.Answer 37 (answers.Granted (whole_grant 2 3 (line 3 2 3 1 1 2 ∷ [])))))
    ∷ marked 3 (Got 38) ∷
    marked 3 (Sent 39 0 (messages.Request (tx 2 4) 1 2 (wants.Append 1 (line 3 2 3 1 1 2 ∷ []) (own_line 1 1 2 ∷ []))))
    ∷
    marked 0 (Got 39) ∷ marked 0 (Sent 40 3 (messages.Answer 39 (answers.Granted (whole_grant 2 3 []))))
    ∷ marked 3 (Got 40) ∷
    marked 3 (Told (replies.Response 2)) ∷ marked 3 (Called (commands.Do 1 2)) ∷
    marked 3 (Sent 41 0 (messages.Request (tx 2 4) 1 2 (wants.Read (first_read 1 2)))) ∷ marked 0 (Got 41) ∷
    marked 0 (Sent 42 3 (messages.Answer 41 (answers.Granted (whole_grant 2 3 (line 3 2 3 1 1 2 ∷ [])))))
    ∷ marked 3 (Got 42) ∷
    marked 3 (Sent 43 0 (messages.Request (tx 2 4) 1 2 (wants.Append 1 (line 3 2 3 1 1 2 ∷ []) (own_line 1 1 2 ∷
    own_line 2 1 3 ∷ [])))) ∷
    marked 0 (Got 43) ∷ marked 0 (Sent 44 3 (messages.Answer 43 (answers.Granted (whole_grant 2 3 []))))
    ∷ marked 3 (Got 44) ∷
    marked 3 (Told (replies.Response 2)) ∷ marked 3 (Called (commands.Do 0 2)) ∷
    marked 3 (Sent 45 0 (messages.Request (tx 2 4) 1 2 (wants.Append 0 [] (own_line 3 0 3 ∷ [])))) ∷ marked 0 (Got 45) ∷
    marked 0 (Sent 46 3 (messages.Answer 45 (answers.Granted (whole_grant 2 3 [])))) ∷ marked 3 (Got 46) ∷
    marked 3 (Told (replies.Response 2)) ∷ marked 2 (Called commands.Begin) ∷ marked 3 (Called commands.Commit) ∷
    marked 3 (Sent 47 0 (messages.Request (tx 2 4) 1 2 wants.Prepare)) ∷ marked 0 (Got 47) ∷
    marked 0 (Wrote (prepare (tx 2 4) 1 (read_lock 1 1 ∷ read_lock 1 2 ∷ []) (own_line 1 1 2 ∷ own_line 2 1 3 ∷ own_line
    3 0 3 ∷ []) [])) ∷
    marked 0 (Sent 48 3 (messages.Answer 47 (answers.Yes 3))) ∷ marked 2 (Told (replies.Began (tx 1 2))) ∷
    marked 3 (Got 48) ∷
    marked 3 (Wrote (commit (stamp 4 2) (tx 2 4) (operation 1 1 (Some 2) ∷ operation 1 2 (Some 2) ∷ operation 0 2 (Some
    2) ∷ []))) ∷
    marked 3 (Sent 49 0 (messages.Decision (tx 2 4) (outcomes.Committed (stamp 4 2)))) ∷
    marked 3 (Told (replies.Committed (stamp 4 2))) ∷ marked 0 (Got 49) ∷ marked 0 (Wrote (records.Done (tx 2 4) 4)) ∷
    marked 2 (Called commands.Commit) ∷ marked 2 (Wrote (commit (stamp 2 1) (tx 1 2) [])) ∷
    marked 2 (Told (replies.Committed (stamp 2 1))) ∷ []
