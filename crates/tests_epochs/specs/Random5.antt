-- Random: sites 1, clients 3, steps 109, messages 31, commits 1, aborts 2, conflicts 3, absent 2, falls 3, rises 3.
use Rattle.std.specs.Prelude.{List, [], ◌∷◌, Some, None}
use Rattle.qc_decl.specs.declared.declaration.Declaration.{Declaration}
use Rattle.qc_decl.specs.Vocabulary.{row}
use Rattle.qc_msg.specs.Vocabulary.{Entry, marked}
use Rattle.tests_histories.specs.Words.{tx, stamp, line, own_line, operation, read_lock, prepare, commit, declaration}
use Rattle.tests_histories.specs.Words.{kind, pair, plan}
use Rattle.qc_msg.specs.declared.step.Step.TheVariants.{Phase, Called, Got, Wrote, Sent, Told, Armed, Fell, Rose}
use Rattle.tests_epochs.specs.Words.{tx_in}
use Rattle.qc_msg.specs.declared.message.Answer.TheVariants as answers
use Rattle.qc_msg.specs.declared.reply.AbortCause.TheVariants as causes
use Rattle.qc_msg.specs.declared.step.Command.TheVariants as commands
use Rattle.qc_msg.specs.declared.message.Message.TheVariants as messages
use Rattle.qc_msg.specs.declared.message.Outcome.TheVariants as outcomes
use Rattle.qc_msg.specs.declared.record.Record.TheVariants as records
use Rattle.qc_msg.specs.declared.reply.Reply.TheVariants as replies
use Rattle.qc_msg.specs.declared.message.Want.TheVariants as wants
use Rattle.qc_msg.specs.declared.step.Fall.TheVariants as falls
use Rattle.qc_msg.specs.Vocabulary.{whole_grant, first_read}
use Rattle.qc_outside.specs.declared.disk.ArmKind.TheVariants as arms

abbrev pub decl : Declaration
decl =
    declaration 1 3 (kind 2 2 2 0 (row 0 0 0 1 ∷ row 1 1 1 0 ∷ []) (pair 0 0 ∷ pair 0 1 ∷ pair 1 0 ∷ pair 1 1 ∷ []) ∷
    []) (0 ∷ 0 ∷ []) (plan (1 ∷ []) ((1 ∷ 1 ∷ []) ∷ (1 ∷ 1 ∷ []) ∷ []) ((1 ∷ 1 ∷ []) ∷ (1 ∷ 1 ∷ []) ∷ []) ∷ plan (1 ∷
    []) ((1 ∷ 1 ∷ []) ∷ (1 ∷ 1 ∷ []) ∷ []) ((1 ∷ 1 ∷ []) ∷ (1 ∷ 1 ∷ []) ∷ []) ∷ [])

abbrev pub history : List Entry
history =
    marked 5 (Phase 1) ∷ marked 5 (Armed 2 arms.Stop 5) ∷ marked 3 (Fell falls.Script None) ∷
    marked 4 (Fell falls.Script None) ∷ marked 4 (Rose []) ∷ marked 4 (Wrote records.Life) ∷
    marked 2 (Called commands.Begin) ∷ marked 2 (Told (replies.Began (tx 1 1))) ∷ marked 2 (Called (commands.Do 0 0)) ∷
    marked 2 (Sent 0 0 (messages.Request (tx 1 1) 1 0 (wants.Read (first_read 0 0)))) ∷ marked 0 (Got 0) ∷
    marked 0 (Sent 1 2 (messages.Answer 0 (answers.Granted (whole_grant 1 0 [])))) ∷ marked 2 (Got 1) ∷
    marked 2 (Sent 2 0 (messages.Request (tx 1 1) 1 1 (wants.Append 0 [] (own_line 1 0 0 ∷ [])))) ∷ marked 0 (Got 2) ∷
    marked 0 (Sent 3 2 (messages.Answer 2 (answers.Granted (whole_grant 1 0 [])))) ∷ marked 2 (Got 3) ∷
    marked 2 (Told (replies.Response 0)) ∷ marked 2 (Called commands.Commit) ∷
    marked 2 (Sent 4 0 (messages.Request (tx 1 1) 1 1 wants.Prepare)) ∷ marked 0 (Got 4) ∷
    marked 0 (Wrote (prepare (tx 1 1) 1 (read_lock 0 0 ∷ []) (own_line 1 0 0 ∷ []) [])) ∷
    marked 0 (Sent 5 2 (messages.Answer 4 (answers.Yes 0))) ∷ marked 2 (Got 5) ∷
    marked 2 (Wrote (commit (stamp 1 1) (tx 1 1) (operation 0 0 (Some 0) ∷ []))) ∷
    marked 2 (Sent 6 0 (messages.Decision (tx 1 1) (outcomes.Committed (stamp 1 1)))) ∷
    marked 2 (Told (replies.Committed (stamp 1 1))) ∷ marked 0 (Got 6) ∷ marked 0 (Wrote (records.Done (tx 1 1) 1)) ∷
    marked 5 (Phase 2) ∷ marked 2 (Fell falls.Script None) ∷
    marked 2 (Rose ((commit (stamp 1 1) (tx 1 1) (operation 0 0 (Some 0) ∷ [])) ∷ [])) ∷ marked 2 (Wrote records.Life) ∷
    marked 3 (Rose []) ∷ marked 3 (Wrote records.Life) ∷ marked 5 (Armed 4 arms.Stop 7) ∷
    marked 1 (Called commands.Begin) ∷ marked 3 (Called commands.Begin) ∷
    marked 3 (Told (replies.Began (tx_in 2 2 1))) ∷ marked 3 (Called (commands.Do 0 0)) ∷ marked 2 (Got 5) ∷
    marked 3 (Sent 7 0 (messages.Request (tx_in 2 2 1) 1 0 (wants.Read (first_read 0 0)))) ∷ marked 0 (Got 7) ∷
    marked 0 (Sent 8 3 (messages.Answer 7 (answers.Granted (whole_grant 1 1 (line 1 1 1 1 0 0 ∷ [])))))
    ∷ marked 3 (Got 8) ∷
    marked 2 (Called commands.Begin) ∷ marked 1 (Told (replies.Began (tx 0 1))) ∷ marked 1 (Called (commands.Do 1 1)) ∷
    marked 1 (Sent 9 0 (messages.Request (tx 0 1) 1 0 (wants.Read (first_read 1 1)))) ∷ marked 0 (Got 9) ∷
    marked 0 (Sent 10 1 (messages.Answer 9 (answers.Granted (whole_grant 1 1 [])))) ∷ marked 1 (Got 10) ∷
    marked 3 (Told replies.Absent) ∷ marked 3 (Called (commands.Do 0 1)) ∷
    marked 2 (Told (replies.Began (tx_in 1 2 1))) ∷
    marked 3 (Sent 11 0 (messages.Request (tx_in 2 2 1) 1 1 (wants.Read (first_read 0 1)))) ∷ marked 0 (Got 11) ∷
    marked 1 (Told replies.Absent) ∷ marked 2 (Called (commands.Do 0 1)) ∷ marked 1 (Called (commands.Do 0 1)) ∷
    marked 2 (Sent 12 0 (messages.Request (tx_in 1 2 1) 1 0 (wants.Read (first_read 0 1)))) ∷
    marked 1 (Sent 13 0 (messages.Request (tx 0 1) 1 1 (wants.Read (first_read 0 1)))) ∷
    marked 0 (Sent 14 3 (messages.Answer 11 (answers.Granted (whole_grant 1 1 (line 1 1 1 1 0 0 ∷ [])))))
    ∷ marked 3 (Got 14) ∷
    marked 0 (Got 12) ∷
    marked 3 (Sent 15 0 (messages.Request (tx_in 2 2 1) 1 1 (wants.Append 0 (line 1 1 1 1 0 0 ∷ []) (own_line 2 0 1 ∷
    [])))) ∷
    marked 0 (Sent 16 2 (messages.Answer 12 (answers.Granted (whole_grant 1 1 (line 1 1 1 1 0 0 ∷ [])))))
    ∷ marked 2 (Got 16) ∷
    marked 0 (Got 13)
    ∷ marked 0 (Sent 17 1 (messages.Answer 13 (answers.Granted (whole_grant 1 1 (line 1 1 1 1 0 0 ∷ []))))) ∷
    marked 0 (Got 15) ∷ marked 1 (Got 17) ∷
    marked 1 (Sent 18 0 (messages.Request (tx 0 1) 1 1 (wants.Append 0 (line 1 1 1 1 0 0 ∷ []) (own_line 2 0 1 ∷ []))))
    ∷
    marked 0 (Sent 19 3 (messages.Answer 15 (answers.Clash (tx 0 1) 1 1))) ∷
    marked 0 (Sent 20 1 (messages.Inquiry (tx 0 1))) ∷ marked 0 (Got 18) ∷ marked 1 (Got 20) ∷ marked 3 (Got 19) ∷
    marked 3 (Told (replies.Conflict (tx 0 1) 0)) ∷ marked 3 (Called (commands.Do 0 0)) ∷
    marked 2 (Sent 21 0 (messages.Request (tx_in 1 2 1) 1 1 (wants.Append 0 (line 1 1 1 1 0 0 ∷ []) (own_line 1 0 1 ∷
    [])))) ∷
    marked 1 (Sent 22 0 (messages.Decision (tx 0 1) outcomes.Active)) ∷ marked 3 (Told replies.Doomed) ∷
    marked 0 (Sent 23 1 (messages.Answer 18 (answers.Clash (tx_in 1 2 1) 1 1))) ∷
    marked 0 (Sent 24 2 (messages.Inquiry (tx_in 1 2 1))) ∷ marked 0 (Got 21) ∷ marked 1 (Got 23) ∷ marked 2 (Got 24) ∷
    marked 1 (Told (replies.Conflict (tx_in 1 2 1) 0)) ∷ marked 1 (Called (commands.Do 0 0)) ∷
    marked 2 (Sent 25 0 (messages.Decision (tx_in 1 2 1) outcomes.Active)) ∷ marked 1 (Told replies.Doomed) ∷
    marked 1 (Called commands.Commit) ∷ marked 1 (Sent 26 0 (messages.Decision (tx 0 1) outcomes.Aborted)) ∷
    marked 1 (Told (replies.Aborted causes.Doomed)) ∷
    marked 0 (Sent 27 2 (messages.Answer 21 (answers.Clash (tx 0 1) 1 1))) ∷
    marked 0 (Sent 28 1 (messages.Inquiry (tx 0 1))) ∷ marked 1 (Got 28) ∷ marked 0 (Got 22) ∷ marked 2 (Got 27) ∷
    marked 2 (Told (replies.Conflict (tx 0 1) 0)) ∷ marked 2 (Called commands.Commit) ∷
    marked 1 (Sent 29 0 (messages.Decision (tx 0 1) outcomes.Aborted)) ∷ marked 0 (Got 25) ∷
    marked 2 (Sent 30 0 (messages.Decision (tx_in 1 2 1) outcomes.Aborted)) ∷
    marked 2 (Told (replies.Aborted causes.Doomed)) ∷ marked 0 (Got 26) ∷ marked 0 (Got 29) ∷ marked 0 (Got 30) ∷ []
