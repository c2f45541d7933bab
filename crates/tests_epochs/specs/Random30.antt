-- Random: sites 2, clients 4, steps 207, messages 52, lost 3, cuts 2, commits 6, aborts 4, conflicts 3, short rounds 2,
-- falls 4, rises 2, unwritten records 1.
use Rattle.std.specs.Prelude.{List, [], ◌∷◌, Some, None}
use Rattle.qc_decl.specs.declared.declaration.Declaration.{Declaration}
use Rattle.qc_decl.specs.Vocabulary.{row}
use Rattle.qc_msg.specs.Vocabulary.{Entry, marked}
use Rattle.tests_histories.specs.Words.{tx, stamp, line, own_line, operation, read_lock, prepare, commit, declaration}
use Rattle.tests_histories.specs.Words.{kind, pair, plan}
use Rattle.qc_msg.specs.declared.step.Step.TheVariants.{Phase, Cut, Heal, Called, Got, Lost, Wrote, Sent, Told, Armed}
use Rattle.qc_msg.specs.declared.step.Step.TheVariants.{Fell, Rose}
use Rattle.tests_epochs.specs.Words.{tx_in}
use Rattle.qc_msg.specs.declared.message.Answer.TheVariants as answers
use Rattle.qc_msg.specs.declared.reply.AbortCause.TheVariants as causes
use Rattle.qc_msg.specs.declared.step.Command.TheVariants as commands
use Rattle.qc_msg.specs.declared.reply.Half.TheVariants as halves
use Rattle.qc_msg.specs.declared.message.Message.TheVariants as messages
use Rattle.qc_msg.specs.declared.message.Outcome.TheVariants as outcomes
use Rattle.qc_msg.specs.declared.record.Record.TheVariants as records
use Rattle.qc_msg.specs.declared.reply.Reply.TheVariants as replies
use Rattle.qc_msg.specs.declared.message.Want.TheVariants as wants
use Rattle.qc_msg.specs.declared.step.Fall.TheVariants as falls
use Rattle.qc_msg.specs.Vocabulary.{whole_grant, first_read}
use Rattle.qc_outside.specs.declared.disk.ArmKind.TheVariants as arms

abbrev pub decl : Declaration
decl =
    declaration 2 4 (kind 2 2 3 0 (row 0 0 0 1 ∷ row 1 0 1 1 ∷ row 0 1 2 0 ∷ row 1 1 2 0 ∷ []) (pair 0 0 ∷ pair 0 2 ∷
    []) ∷ kind 2 2 1 0 (row 0 0 0 0 ∷ row 0 1 0 0 ∷ row 1 0 0 1 ∷ row 1 1 0 1 ∷ []) (pair 0 0 ∷ pair 0 1 ∷ []) ∷ []) (1
    ∷ []) (plan (0 ∷ 3 ∷ []) ((2 ∷ 0 ∷ []) ∷ []) ((2 ∷ 2 ∷ []) ∷ []) ∷ [])

abbrev pub history : List Entry
history =
    marked 7 (Phase 1) ∷ marked 7 (Armed 5 arms.Stop 7) ∷ marked 2 (Called commands.Begin) ∷
    marked 2 (Told (replies.Began (tx 0 1))) ∷ marked 3 (Called commands.Begin) ∷
    marked 3 (Told (replies.Began (tx 1 1))) ∷ marked 2 (Called (commands.Do 0 1)) ∷
    marked 2 (Sent 0 1 (messages.Request (tx 0 1) 1 0 (wants.Append 0 [] (own_line 1 0 1 ∷ [])))) ∷ marked 2 (Lost 0) ∷
    marked 2 (Told (replies.Quorum halves.Append 0 2)) ∷ marked 3 (Called commands.Commit) ∷
    marked 3 (Wrote (commit (stamp 1 1) (tx 1 1) [])) ∷ marked 3 (Told (replies.Committed (stamp 1 1))) ∷
    marked 2 (Called (commands.Do 0 1)) ∷ marked 2 (Told replies.Doomed) ∷ marked 2 (Called commands.Commit) ∷
    marked 2 (Sent 1 1 (messages.Decision (tx 0 1) outcomes.Aborted)) ∷
    marked 2 (Told (replies.Aborted causes.Doomed)) ∷ marked 1 (Got 1) ∷ marked 7 (Phase 2) ∷
    marked 7 (Armed 6 arms.Fail 7) ∷ marked 2 (Called commands.Begin) ∷ marked 5 (Called commands.Begin) ∷
    marked 2 (Told (replies.Began (tx 0 2))) ∷ marked 2 (Called (commands.Do 0 1)) ∷ marked 1 (Got 0) ∷
    marked 2 (Sent 2 1 (messages.Request (tx 0 2) 1 0 (wants.Append 0 [] (own_line 1 0 1 ∷ [])))) ∷
    marked 3 (Called commands.Begin) ∷ marked 3 (Told (replies.Began (tx 1 2))) ∷ marked 3 (Called (commands.Do 0 0)) ∷
    marked 3 (Sent 3 1 (messages.Request (tx 1 2) 1 0 (wants.Read (first_read 0 0))))
    ∷ marked 5 (Told (replies.Began (tx 3 1))) ∷
    marked 5 (Called commands.Commit) ∷ marked 1 (Sent 4 2 (messages.Answer 0 (answers.Granted (whole_grant 1 0 [])))) ∷
    marked 2 (Got 4) ∷ marked 1 (Got 2) ∷ marked 1 (Sent 5 2 (messages.Answer 2 (answers.Granted (whole_grant 1 0 []))))
    ∷
    marked 2 (Got 5) ∷ marked 1 (Got 3) ∷ marked 2 (Told (replies.Response 0)) ∷
    marked 5 (Wrote (commit (stamp 1 3) (tx 3 1) [])) ∷ marked 5 (Told (replies.Committed (stamp 1 3))) ∷
    marked 1 (Sent 6 3 (messages.Answer 3 (answers.Clash (tx 0 1) 0 1))) ∷
    marked 1 (Sent 7 2 (messages.Inquiry (tx 0 1))) ∷ marked 2 (Got 7) ∷
    marked 2 (Sent 8 1 (messages.Decision (tx 0 1) outcomes.Aborted)) ∷ marked 1 (Got 8) ∷ marked 3 (Got 6) ∷
    marked 3 (Told (replies.Conflict (tx 0 1) 1)) ∷ marked 3 (Called commands.Commit) ∷
    marked 3 (Wrote (commit (stamp 2 1) (tx 1 2) [])) ∷
    marked 3 (Sent 9 1 (messages.Decision (tx 1 2) (outcomes.Committed (stamp 2 1)))) ∷
    marked 3 (Told (replies.Committed (stamp 2 1))) ∷ marked 1 (Got 9) ∷ marked 7 (Phase 3) ∷
    marked 5 (Fell falls.Script None) ∷ marked 5 (Rose ((commit (stamp 1 3) (tx 3 1) []) ∷ [])) ∷
    marked 5 (Wrote records.Life) ∷ marked 5 (Called commands.Begin) ∷ marked 2 (Called commands.Commit) ∷
    marked 2 (Sent 10 1 (messages.Request (tx 0 2) 1 1 wants.Prepare)) ∷ marked 1 (Got 10) ∷
    marked 1 (Wrote (prepare (tx 0 2) 1 [] (own_line 1 0 1 ∷ []) [])) ∷
    marked 1 (Sent 11 2 (messages.Answer 10 (answers.Yes 2))) ∷ marked 5 (Told (replies.Began (tx_in 3 2 1))) ∷
    marked 5 (Called (commands.Do 0 0)) ∷ marked 2 (Got 11) ∷
    marked 2 (Wrote (commit (stamp 3 0) (tx 0 2) (operation 0 1 (Some 0) ∷ []))) ∷
    marked 2 (Sent 12 1 (messages.Decision (tx 0 2) (outcomes.Committed (stamp 3 0)))) ∷
    marked 2 (Told (replies.Committed (stamp 3 0))) ∷ marked 1 (Got 12) ∷ marked 1 (Wrote (records.Done (tx 0 2) 3)) ∷
    marked 5 (Sent 13 1 (messages.Request (tx_in 3 2 1) 1 0 (wants.Read (first_read 0 0)))) ∷ marked 1 (Got 13) ∷
    marked 1 (Sent 14 5 (messages.Answer 13 (answers.Granted (whole_grant 1 3 (line 3 0 2 1 0 1 ∷ [])))))
    ∷ marked 5 (Got 14) ∷
    marked 5 (Sent 15 1 (messages.Request (tx_in 3 2 1) 1 1 (wants.Append 0 (line 3 0 2 1 0 1 ∷ []) (own_line 1 0 0 ∷
    [])))) ∷
    marked 1 (Got 15) ∷ marked 1 (Sent 16 5 (messages.Answer 15 (answers.Granted (whole_grant 1 3 []))))
    ∷ marked 5 (Got 16) ∷
    marked 5 (Told (replies.Response 0)) ∷ marked 7 (Phase 4) ∷ marked 7 (Cut 1 5) ∷ marked 7 (Armed 3 arms.Fail 9) ∷
    marked 5 (Called (commands.Do 0 0))
    ∷ marked 5 (Sent 17 1 (messages.Request (tx_in 3 2 1) 1 1 (wants.Read (first_read 0 0)))) ∷
    marked 5 (Lost 17) ∷ marked 5 (Told (replies.Quorum halves.Read 0 2)) ∷ marked 5 (Called commands.Commit) ∷
    marked 5 (Sent 18 1 (messages.Request (tx_in 3 2 1) 1 1 wants.Prepare)) ∷ marked 5 (Lost 18) ∷
    marked 5 (Sent 19 1 (messages.Decision (tx_in 3 2 1) outcomes.Aborted)) ∷
    marked 5 (Told (replies.Aborted (causes.NoAnswer 1))) ∷ marked 7 (Phase 5) ∷ marked 7 (Heal 1 5) ∷
    marked 7 (Cut 6 1) ∷ marked 3 (Called commands.Begin) ∷ marked 3 (Told (replies.Began (tx 1 3))) ∷
    marked 3 (Called (commands.Do 0 1)) ∷ marked 5 (Called commands.Begin) ∷
    marked 5 (Told (replies.Began (tx_in 3 2 2))) ∷ marked 5 (Called (commands.Do 0 1)) ∷
    marked 5 (Sent 20 1 (messages.Request (tx_in 3 2 2) 1 0 (wants.Append 0 [] (own_line 1 0 1 ∷ [])))) ∷
    marked 1 (Got 20) ∷ marked 1 (Sent 21 5 (messages.Answer 20 (answers.Clash (tx_in 3 2 1) 0 1))) ∷
    marked 1 (Sent 22 5 (messages.Inquiry (tx_in 3 2 1))) ∷
    marked 3 (Sent 23 1 (messages.Request (tx 1 3) 1 0 (wants.Append 0 [] (own_line 1 0 1 ∷ [])))) ∷ marked 1 (Got 23) ∷
    marked 1 (Sent 24 3 (messages.Answer 23 (answers.Clash (tx_in 3 2 1) 0 1))) ∷
    marked 1 (Sent 25 5 (messages.Inquiry (tx_in 3 2 1))) ∷ marked 3 (Got 24) ∷ marked 5 (Got 21) ∷
    marked 5 (Told (replies.Conflict (tx_in 3 2 1) 1)) ∷ marked 3 (Told (replies.Conflict (tx_in 3 2 1) 1)) ∷
    marked 3 (Called (commands.Do 0 0)) ∷ marked 5 (Got 22) ∷
    marked 5 (Sent 26 1 (messages.Decision (tx_in 3 2 1) outcomes.Aborted)) ∷ marked 1 (Got 26) ∷
    marked 3 (Told replies.Doomed) ∷ marked 3 (Called (commands.Do 0 0)) ∷ marked 5 (Got 25) ∷
    marked 5 (Sent 27 1 (messages.Decision (tx_in 3 2 1) outcomes.Aborted)) ∷ marked 5 (Called commands.Abort) ∷
    marked 5 (Sent 28 1 (messages.Decision (tx_in 3 2 2) outcomes.Aborted)) ∷ marked 5 (Told replies.Dropped) ∷
    marked 1 (Got 27) ∷ marked 3 (Told replies.Doomed) ∷ marked 3 (Called commands.Commit) ∷
    marked 3 (Sent 29 1 (messages.Decision (tx 1 3) outcomes.Aborted)) ∷
    marked 3 (Told (replies.Aborted causes.Doomed)) ∷ marked 3 (Called commands.Begin) ∷ marked 1 (Got 28) ∷
    marked 3 (Told (replies.Began (tx 1 4))) ∷ marked 3 (Called (commands.Do 0 0)) ∷
    marked 3 (Sent 30 1 (messages.Request (tx 1 4) 1 0 (wants.Read (first_read 0 0)))) ∷ marked 1 (Got 29)
    ∷ marked 1 (Got 30) ∷
    marked 1 (Sent 31 3 (messages.Answer 30 (answers.Granted (whole_grant 1 3 (line 3 0 2 1 0 1 ∷ [])))))
    ∷ marked 3 (Got 31) ∷
    marked 3 (Sent 32 1 (messages.Request (tx 1 4) 1 1 (wants.Append 0 (line 3 0 2 1 0 1 ∷ []) (own_line 1 0 0 ∷ []))))
    ∷
    marked 1 (Got 32) ∷ marked 1 (Sent 33 3 (messages.Answer 32 (answers.Granted (whole_grant 1 3 []))))
    ∷ marked 3 (Got 33) ∷
    marked 3 (Told (replies.Response 0)) ∷ marked 3 (Called commands.Commit) ∷
    marked 3 (Sent 34 1 (messages.Request (tx 1 4) 1 1 wants.Prepare)) ∷ marked 1 (Got 34) ∷
    marked 1 (Wrote (prepare (tx 1 4) 1 (read_lock 0 0 ∷ []) (own_line 1 0 0 ∷ []) [])) ∷
    marked 1 (Sent 35 3 (messages.Answer 34 (answers.Yes 3))) ∷ marked 3 (Got 35) ∷
    marked 3 (Wrote (commit (stamp 4 1) (tx 1 4) (operation 0 0 (Some 0) ∷ []))) ∷
    marked 3 (Sent 36 1 (messages.Decision (tx 1 4) (outcomes.Committed (stamp 4 1)))) ∷
    marked 3 (Told (replies.Committed (stamp 4 1))) ∷ marked 1 (Got 36) ∷ marked 1 (Wrote (records.Done (tx 1 4) 4)) ∷
    marked 7 (Phase 6) ∷ marked 7 (Heal 6 1) ∷ marked 7 (Armed 2 arms.Stop 8) ∷ marked 6 (Fell falls.Script None) ∷
    marked 6 (Rose []) ∷ marked 6 (Wrote records.Life) ∷ marked 0 (Fell falls.Script None) ∷
    marked 5 (Called commands.Begin) ∷ marked 5 (Told (replies.Began (tx_in 3 2 3))) ∷
    marked 5 (Called commands.Commit) ∷ marked 5 (Wrote (commit (stamp 4 3) (tx_in 3 2 3) [])) ∷
    marked 5 (Told (replies.Committed (stamp 4 3))) ∷ marked 5 (Called commands.Begin) ∷
    marked 5 (Told (replies.Began (tx_in 3 2 4))) ∷ marked 5 (Called (commands.Do 0 0)) ∷
    marked 5 (Sent 37 1 (messages.Request (tx_in 3 2 4) 1 0 (wants.Read (first_read 0 0)))) ∷ marked 1 (Got 37) ∷
    marked 1
    (Sent 38 5 (messages.Answer 37 (answers.Granted (whole_grant 1 4 (line 3 0 2 1 0 1 ∷ line 4 1 4 1 0 0 ∷ []))))) ∷
    marked 5 (Got 38) ∷
    marked 5 (Sent 39 1 (messages.Request (tx_in 3 2 4) 1 1 (wants.Append 0 (line 3 0 2 1 0 1 ∷ line 4 1 4 1 0 0 ∷ [])
    (own_line 1 0 0 ∷ [])))) ∷
    marked 1 (Got 39) ∷ marked 1 (Sent 40 5 (messages.Answer 39 (answers.Granted (whole_grant 1 4 []))))
    ∷ marked 5 (Got 40) ∷
    marked 5 (Told (replies.Response 0)) ∷ marked 5 (Called (commands.Do 0 0)) ∷
    marked 5 (Sent 41 1 (messages.Request (tx_in 3 2 4) 1 1 (wants.Read (first_read 0 0)))) ∷ marked 1 (Got 41) ∷
    marked 1
    (Sent 42 5 (messages.Answer 41 (answers.Granted (whole_grant 1 4 (line 3 0 2 1 0 1 ∷ line 4 1 4 1 0 0 ∷ []))))) ∷
    marked 5 (Got 42) ∷
    marked 5 (Sent 43 1 (messages.Request (tx_in 3 2 4) 1 1 (wants.Append 0 (line 3 0 2 1 0 1 ∷ line 4 1 4 1 0 0 ∷ [])
    (own_line 1 0 0 ∷ own_line 2 0 0 ∷ [])))) ∷
    marked 1 (Got 43) ∷ marked 1 (Sent 44 5 (messages.Answer 43 (answers.Granted (whole_grant 1 4 []))))
    ∷ marked 5 (Got 44) ∷
    marked 5 (Told (replies.Response 0)) ∷ marked 5 (Called (commands.Do 0 0)) ∷
    marked 5 (Sent 45 1 (messages.Request (tx_in 3 2 4) 1 1 (wants.Read (first_read 0 0)))) ∷ marked 1 (Got 45) ∷
    marked 1
    (Sent 46 5 (messages.Answer 45 (answers.Granted (whole_grant 1 4 (line 3 0 2 1 0 1 ∷ line 4 1 4 1 0 0 ∷ []))))) ∷
    marked 5 (Got 46) ∷
    marked 5 (Sent 47 1 (messages.Request (tx_in 3 2 4) 1 1 (wants.Append 0 (line 3 0 2 1 0 1 ∷ line 4 1 4 1 0 0 ∷ [])
    (own_line 1 0 0 ∷ own_line 2 0 0 ∷ own_line 3 0 0 ∷ [])))) ∷
    marked 1 (Got 47) ∷ marked 1 (Sent 48 5 (messages.Answer 47 (answers.Granted (whole_grant 1 4 []))))
    ∷ marked 5 (Got 48) ∷
    marked 5 (Told (replies.Response 0)) ∷ marked 5 (Called commands.Commit) ∷
    marked 5 (Sent 49 1 (messages.Request (tx_in 3 2 4) 1 1 wants.Prepare)) ∷ marked 1 (Got 49) ∷
    marked 1 (Sent 50 5 (messages.Answer 49 answers.Fault)) ∷
    marked 1 (Fell falls.Disk (Some (prepare (tx_in 3 2 4) 1 (read_lock 0 0 ∷ []) (own_line 1 0 0 ∷ own_line 2 0 0 ∷
    own_line 3 0 0 ∷ []) []))) ∷
    marked 5 (Got 50) ∷ marked 5 (Sent 51 1 (messages.Decision (tx_in 3 2 4) outcomes.Aborted)) ∷
    marked 5 (Told (replies.Aborted (causes.Fault 1))) ∷ []
