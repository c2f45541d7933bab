-- Random: sites 2, clients 4, steps 114, messages 35, lost 4, commits 1, aborts 1, conflicts 2, falls 1, rises 0,
-- unwritten records 1, closes 1, decisions 1, installs 1.
use Rattle.std.specs.Prelude.{List, [], ◌∷◌, Some}
use Rattle.qc_decl.specs.declared.declaration.Declaration.{Declaration}
use Rattle.qc_decl.specs.Vocabulary.{row}
use Rattle.qc_msg.specs.Vocabulary.{Entry, marked}
use Rattle.tests_histories.specs.Words.{tx, stamp, line, own_line, operation, read_lock, prepare, commit, declaration}
use Rattle.tests_histories.specs.Words.{kind, pair, plan}
use Rattle.qc_msg.specs.declared.step.Step.TheVariants.{Phase, Called, Got, Lost, Wrote, Sent, Told, Armed, Fell}
use Rattle.qc_msg.specs.declared.message.Answer.TheVariants as answers
use Rattle.qc_msg.specs.declared.reply.AbortCause.TheVariants as causes
use Rattle.qc_msg.specs.declared.step.Command.TheVariants as commands
use Rattle.qc_msg.specs.declared.message.Message.TheVariants as messages
use Rattle.qc_msg.specs.declared.message.Outcome.TheVariants as outcomes
use Rattle.qc_msg.specs.declared.record.Record.TheVariants as records
use Rattle.qc_msg.specs.declared.reply.Reply.TheVariants as replies
use Rattle.qc_msg.specs.declared.message.Want.TheVariants as wants
use Rattle.qc_msg.specs.declared.step.Fall.TheVariants as falls
use Rattle.qc_msg.specs.Vocabulary.{whole_grant, first_read, snapshot_with, start_with}
use Rattle.qc_outside.specs.declared.disk.ArmKind.TheVariants as arms

abbrev pub decl : Declaration
decl =
    declaration 2 4 (kind 3 3 3 0 (row 0 0 0 1 ∷ row 0 0 1 2 ∷ row 1 1 0 1 ∷ row 2 1 1 2 ∷ row 1 2 2 0 ∷ row 2 2 2 0 ∷
    row 0 2 2 0 ∷ []) (pair 0 0 ∷ pair 0 1 ∷ pair 0 4 ∷ pair 1 0 ∷ pair 1 1 ∷ pair 1 4 ∷ []) ∷ []) (0 ∷ []) (plan (1 ∷ 3
    ∷ []) ((3 ∷ 3 ∷ 0 ∷ []) ∷ []) ((2 ∷ 2 ∷ 0 ∷ 0 ∷ 2 ∷ []) ∷ []) ∷ plan (1 ∷ 2 ∷ []) ((3 ∷ 3 ∷ 0 ∷ []) ∷ []) ((1 ∷ 1 ∷
    0 ∷ 0 ∷ 1 ∷ []) ∷ []) ∷ plan (1 ∷ 1 ∷ []) ((2 ∷ 2 ∷ 2 ∷ []) ∷ []) ((1 ∷ 1 ∷ 0 ∷ 0 ∷ 1 ∷ []) ∷ []) ∷ [])

abbrev pub history : List Entry
history =
    marked 7 (Phase 1) ∷ marked 7 (Armed 5 arms.Fail 3) ∷ marked 3 (Called commands.Begin) ∷
    marked 3 (Told (replies.Began (tx 1 1))) ∷ marked 3 (Called (commands.Do 0 0)) ∷ marked 2 (Called commands.Begin) ∷
    marked 2 (Told (replies.Began (tx 0 1)))
    ∷ marked 3 (Sent 0 1 (messages.Request (tx 1 1) 1 0 (wants.Read (first_read 0 0)))) ∷
    marked 1 (Got 0) ∷ marked 5 (Called commands.Begin) ∷ marked 5 (Told (replies.Began (tx 3 1))) ∷
    marked 1 (Sent 1 3 (messages.Answer 0 (answers.Granted (whole_grant 1 0 [])))) ∷ marked 5 (Called (commands.Do 0 2))
    ∷
    marked 5 (Sent 2 1 (messages.Request (tx 3 1) 1 0 (wants.Append 0 [] (own_line 1 0 4 ∷ [])))) ∷
    marked 2 (Called (commands.Do 0 2)) ∷ marked 3 (Got 1) ∷
    marked 3 (Sent 3 1 (messages.Request (tx 1 1) 1 1 (wants.Append 0 [] (own_line 1 0 0 ∷ [])))) ∷ marked 1 (Got 2) ∷
    marked 1 (Sent 4 5 (messages.Answer 2 (answers.Clash (tx 1 1) 0 4))) ∷
    marked 1 (Sent 5 3 (messages.Inquiry (tx 1 1))) ∷ marked 3 (Got 5) ∷
    marked 3 (Sent 6 1 (messages.Decision (tx 1 1) outcomes.Active)) ∷ marked 5 (Got 4) ∷
    marked 2 (Sent 7 0 (messages.Request (tx 0 1) 1 0 (wants.Append 0 [] (own_line 1 0 4 ∷ [])))) ∷
    marked 2 (Sent 8 1 (messages.Request (tx 0 1) 1 0 (wants.Append 0 [] (own_line 1 0 4 ∷ [])))) ∷ marked 0 (Got 7) ∷
    marked 1 (Got 3) ∷ marked 1 (Sent 9 3 (messages.Answer 3 (answers.Granted (whole_grant 1 0 [])))) ∷ marked 1 (Got 6)
    ∷
    marked 0 (Sent 10 2 (messages.Answer 7 (answers.Granted (whole_grant 1 0 [])))) ∷ marked 1 (Got 8) ∷
    marked 3 (Got 9)
    ∷
    marked 3 (Told (replies.Response 0)) ∷ marked 3 (Called commands.Commit) ∷
    marked 1 (Sent 11 2 (messages.Answer 8 (answers.Clash (tx 1 1) 0 4))) ∷
    marked 1 (Sent 12 3 (messages.Inquiry (tx 1 1))) ∷ marked 5 (Told (replies.Conflict (tx 1 1) 1)) ∷
    marked 5 (Called (commands.Do 0 1)) ∷ marked 3 (Sent 13 1 (messages.Request (tx 1 1) 1 1 wants.Prepare)) ∷
    marked 3 (Got 12) ∷ marked 5 (Told replies.Doomed) ∷
    marked 3 (Sent 14 1 (messages.Decision (tx 1 1) outcomes.Active)) ∷ marked 2 (Got 10) ∷ marked 1 (Got 13) ∷
    marked 1 (Wrote (prepare (tx 1 1) 1 (read_lock 0 0 ∷ []) (own_line 1 0 0 ∷ []) [])) ∷
    marked 1 (Sent 15 3 (messages.Answer 13 (answers.Yes 0))) ∷ marked 3 (Got 15) ∷
    marked 3 (Wrote (commit (stamp 1 1) (tx 1 1) (operation 0 0 (Some 0) ∷ []))) ∷
    marked 3 (Sent 16 1 (messages.Decision (tx 1 1) (outcomes.Committed (stamp 1 1)))) ∷
    marked 3 (Told (replies.Committed (stamp 1 1))) ∷ marked 5 (Called (commands.Do 0 0)) ∷ marked 1 (Got 14) ∷
    marked 5 (Told replies.Doomed) ∷ marked 2 (Got 11) ∷ marked 1 (Got 16) ∷
    marked 1 (Wrote (records.Done (tx 1 1) 1)) ∷ marked 2 (Told (replies.Conflict (tx 1 1) 1)) ∷
    marked 2 (Called (commands.Do 0 1)) ∷ marked 2 (Told replies.Doomed) ∷ marked 2 (Called commands.Commit) ∷
    marked 2 (Sent 17 0 (messages.Decision (tx 0 1) outcomes.Aborted)) ∷
    marked 2 (Sent 18 1 (messages.Decision (tx 0 1) outcomes.Aborted)) ∷
    marked 2 (Told (replies.Aborted causes.Doomed)) ∷ marked 0 (Got 17) ∷ marked 1 (Got 18) ∷ marked 7 (Phase 2) ∷
    marked 7 (Armed 3 arms.Stop 2) ∷ marked 7 (Armed 4 arms.Fail 8) ∷ marked 6 (Called (commands.Epoch 2)) ∷
    marked 6 (Sent 19 0 (messages.Close 2)) ∷ marked 6 (Sent 20 1 (messages.Close 2)) ∷ marked 0 (Got 19) ∷
    marked 0 (Sent 21 6 (messages.Answer 19 answers.Fault)) ∷ marked 0 (Fell falls.Disk (Some (records.Close 2))) ∷
    marked 1 (Got 20) ∷ marked 6 (Got 21) ∷ marked 2 (Called commands.Begin) ∷
    marked 2 (Told (replies.Began (tx 0 2))) ∷ marked 2 (Called (commands.Do 0 1)) ∷
    marked 2 (Sent 22 0 (messages.Request (tx 0 2) 1 0 (wants.Read (first_read 0 1)))) ∷
    marked 2 (Sent 23 1 (messages.Request (tx 0 2) 1 0 (wants.Read (first_read 0 1)))) ∷ marked 2 (Lost 22) ∷
    marked 1 (Wrote (records.Close 2)) ∷
    marked 1 (Sent 24 6 (messages.Answer 20 (answers.Shut (snapshot_with 1 (line 1 1 1 1 0 0 ∷ []) []))))
    ∷ marked 1 (Got 23) ∷
    marked 6 (Got 24) ∷ marked 6 (Wrote (records.Decide (start_with 2 1 (line 1 1 1 1 0 0 ∷ [])))) ∷
    marked 6 (Sent 25 0 (messages.Install (start_with 2 1 (line 1 1 1 1 0 0 ∷ [])))) ∷
    marked 6 (Sent 26 1 (messages.Install (start_with 2 1 (line 1 1 1 1 0 0 ∷ [])))) ∷ marked 6 (Lost 25) ∷
    marked 1 (Sent 27 2 (messages.Answer 23 (answers.Closed 2))) ∷ marked 1 (Got 26) ∷ marked 2 (Got 27) ∷
    marked 2 (Told (replies.Closed 2 1)) ∷ marked 2 (Called (commands.Do 0 1)) ∷
    marked 1 (Wrote (records.Install (start_with 2 1 (line 1 1 1 1 0 0 ∷ [])))) ∷
    marked 1 (Sent 28 6 (messages.Answer 26 answers.Installed)) ∷ marked 6 (Got 28) ∷
    marked 6 (Told (replies.Moved 2 2))
    ∷ marked 2 (Sent 29 0 (messages.Request (tx 0 2) 1 0 (wants.Read (first_read 0 1)))) ∷
    marked 2 (Sent 30 1 (messages.Request (tx 0 2) 1 0 (wants.Read (first_read 0 1)))) ∷ marked 1 (Got 30)
    ∷ marked 2 (Lost 29) ∷
    marked 1 (Sent 31 2 (messages.Answer 30 (answers.Closed 2))) ∷ marked 2 (Got 31) ∷
    marked 2 (Told (replies.Closed 2 1)) ∷ marked 2 (Called (commands.Do 0 1)) ∷
    marked 2 (Sent 32 0 (messages.Request (tx 0 2) 1 0 (wants.Read (first_read 0 1)))) ∷
    marked 2 (Sent 33 1 (messages.Request (tx 0 2) 1 0 (wants.Read (first_read 0 1)))) ∷ marked 1 (Got 33)
    ∷ marked 2 (Lost 32) ∷
    marked 1 (Sent 34 2 (messages.Answer 33 (answers.Closed 2))) ∷ marked 2 (Got 34) ∷
    marked 2 (Told (replies.Closed 2 1)) ∷ []
