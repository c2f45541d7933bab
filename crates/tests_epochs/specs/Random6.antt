-- Random: sites 3, clients 1, steps 111, messages 24, lost 2, aborts 1, conflicts 1, short rounds 1, falls 6, rises 4,
-- unwritten records 3.
use Rattle.std.specs.Prelude.{List, [], ◌∷◌, Some, None}
use Rattle.qc_decl.specs.declared.declaration.Declaration.{Declaration}
use Rattle.qc_decl.specs.Vocabulary.{row}
use Rattle.qc_msg.specs.Vocabulary.{Entry, marked}
use Rattle.tests_histories.specs.Words.{tx, stamp, own_line, operation, read_lock, prepare, commit, declaration, kind}
use Rattle.tests_histories.specs.Words.{pair, plan}
use Rattle.qc_msg.specs.declared.step.Step.TheVariants.{Phase, Called, Got, Lost, Wrote, Sent, Told, Fell, Rose}
use Rattle.tests_epochs.specs.Words.{tx_in}
use Rattle.qc_msg.specs.declared.message.Answer.TheVariants as answers
use Rattle.qc_msg.specs.declared.reply.AbortCause.TheVariants as causes
use Rattle.qc_msg.specs.declared.step.Command.TheVariants as commands
use Rattle.qc_msg.specs.declared.reply.Half.TheVariants as halves
use Rattle.qc_msg.specs.declared.message.Message.TheVariants as messages
use Rattle.qc_msg.specs.declared.message.Outcome.TheVariants as outcomes
use Rattle.qc_msg.specs.declared.record.Record.TheVariants as records
use Rattle.qc_msg.specs.declared.reply.Reply.TheVariants as replies
use Rattle.qc_msg.specs.declared.message.Want.TheVariants as wants
use Rattle.qc_msg.specs.declared.step.Fall.TheVariants as falls
use Rattle.qc_msg.specs.Vocabulary.{whole_grant, first_read}

abbrev pub decl : Declaration
decl =
    declaration 3 1 (kind 3 3 5 0 (row 0 0 0 1 ∷ row 1 0 0 2 ∷ row 2 0 1 2 ∷ row 0 1 1 0 ∷ row 1 1 0 0 ∷ row 2 1 0 1 ∷
    row 0 2 2 0 ∷ row 1 2 3 1 ∷ row 2 2 4 2 ∷ []) (pair 0 0 ∷ pair 0 3 ∷ pair 1 0 ∷ pair 1 3 ∷ pair 2 0 ∷ pair 2 1 ∷
    pair 2 3 ∷ []) ∷ kind 3 3 1 0 (row 0 0 0 2 ∷ row 0 1 0 2 ∷ row 0 2 0 0 ∷ row 1 1 0 0 ∷ row 2 0 0 0 ∷ row 2 1 0 0 ∷
    row 2 2 0 0 ∷ []) [] ∷ []) (0 ∷ 1 ∷ []) (plan (1 ∷ 1 ∷ 0 ∷ []) ((2 ∷ 2 ∷ 2 ∷ []) ∷ (0 ∷ 0 ∷ 0 ∷ []) ∷ []) ((2 ∷ 1 ∷
    2 ∷ 1 ∷ 0 ∷ 2 ∷ 0 ∷ []) ∷ (0 ∷ 0 ∷ 0 ∷ []) ∷ []) ∷ [])

abbrev pub history : List Entry
history =
    marked 5 (Phase 1) ∷ marked 4 (Fell falls.Script None) ∷ marked 3 (Called commands.Begin) ∷
    marked 3 (Told (replies.Began (tx 0 1))) ∷ marked 3 (Called (commands.Do 0 0)) ∷
    marked 3 (Sent 0 0 (messages.Request (tx 0 1) 1 0 (wants.Read (first_read 0 0)))) ∷
    marked 3 (Sent 1 1 (messages.Request (tx 0 1) 1 0 (wants.Read (first_read 0 0)))) ∷ marked 1 (Got 1) ∷
    marked 0 (Got 0)
    ∷
    marked 1 (Sent 2 3 (messages.Answer 1 (answers.Granted (whole_grant 1 0 [])))) ∷ marked 3 (Got 2) ∷
    marked 0 (Sent 3 3 (messages.Answer 0 (answers.Granted (whole_grant 1 0 [])))) ∷ marked 3 (Got 3) ∷
    marked 3 (Sent 4 0 (messages.Request (tx 0 1) 1 1 (wants.Append 0 [] (own_line 1 0 0 ∷ [])))) ∷
    marked 3 (Sent 5 1 (messages.Request (tx 0 1) 1 1 (wants.Append 0 [] (own_line 1 0 0 ∷ [])))) ∷ marked 1 (Got 5) ∷
    marked 0 (Got 4) ∷ marked 1 (Sent 6 3 (messages.Answer 5 (answers.Granted (whole_grant 1 0 [])))) ∷
    marked 0 (Sent 7 3 (messages.Answer 4 (answers.Granted (whole_grant 1 0 [])))) ∷ marked 3 (Got 6) ∷ marked 3 (Got 7)
    ∷
    marked 3 (Told (replies.Response 0)) ∷ marked 3 (Called (commands.Do 1 0)) ∷ marked 3 (Told (replies.Response 0)) ∷
    marked 3 (Called (commands.Do 1 0)) ∷ marked 3 (Told (replies.Response 0)) ∷ marked 3 (Called commands.Commit) ∷
    marked 3 (Sent 8 0 (messages.Request (tx 0 1) 1 1 wants.Prepare)) ∷
    marked 3 (Sent 9 1 (messages.Request (tx 0 1) 1 1 wants.Prepare)) ∷ marked 0 (Got 8) ∷
    marked 0 (Wrote (prepare (tx 0 1) 1 (read_lock 0 0 ∷ []) (own_line 1 0 0 ∷ []) [])) ∷
    marked 0 (Sent 10 3 (messages.Answer 8 (answers.Yes 0))) ∷ marked 1 (Got 9) ∷
    marked 1 (Wrote (prepare (tx 0 1) 1 (read_lock 0 0 ∷ []) (own_line 1 0 0 ∷ []) [])) ∷
    marked 1 (Sent 11 3 (messages.Answer 9 (answers.Yes 0))) ∷ marked 3 (Got 10) ∷ marked 3 (Got 11) ∷
    marked 3 (Told replies.Unknown) ∷
    marked 3 (Fell falls.Stop (Some (commit (stamp 1 0) (tx 0 1) (operation 0 0 (Some 0) ∷ operation 1 0 (Some 0) ∷
    operation 1 0 (Some 0) ∷ [])))) ∷
    marked 3 (Called commands.Begin) ∷ marked 3 (Told replies.Down) ∷ marked 3 (Called (commands.Do 1 1)) ∷
    marked 3 (Told replies.Down) ∷ marked 5 (Phase 2) ∷ marked 4 (Rose []) ∷ marked 4 (Wrote records.Life) ∷
    marked 3 (Called (commands.Do 1 0)) ∷ marked 3 (Told replies.Down) ∷ marked 3 (Called (commands.Do 0 2)) ∷
    marked 3 (Told replies.Down) ∷ marked 3 (Called (commands.Do 0 1)) ∷ marked 3 (Told replies.Down) ∷
    marked 3 (Called commands.Commit) ∷ marked 3 (Told replies.Down) ∷ marked 5 (Phase 3) ∷
    marked 3 (Called commands.Begin) ∷ marked 3 (Told replies.Down) ∷ marked 3 (Called (commands.Do 1 1)) ∷
    marked 3 (Told replies.Down) ∷ marked 3 (Called (commands.Do 0 2)) ∷ marked 3 (Told replies.Down) ∷
    marked 5 (Phase 4) ∷ marked 3 (Rose []) ∷ marked 3 (Wrote records.Life) ∷ marked 3 (Called (commands.Do 1 0)) ∷
    marked 3 (Told replies.NoTransaction) ∷ marked 3 (Called (commands.Do 0 0)) ∷
    marked 3 (Told replies.NoTransaction) ∷ marked 3 (Called commands.Commit) ∷ marked 3 (Told replies.NoTransaction) ∷
    marked 5 (Phase 5) ∷ marked 1 (Fell falls.Script None) ∷
    marked 1 (Rose ((prepare (tx 0 1) 1 (read_lock 0 0 ∷ []) (own_line 1 0 0 ∷ []) []) ∷ [])) ∷
    marked 1 (Fell falls.Disk (Some records.Life)) ∷ marked 4 (Fell falls.Script None) ∷
    marked 4 (Rose (records.Life ∷ [])) ∷ marked 4 (Wrote records.Life) ∷ marked 3 (Called commands.Begin) ∷
    marked 3 (Told (replies.Began (tx_in 0 2 1))) ∷ marked 3 (Called (commands.Do 0 1)) ∷
    marked 3 (Sent 12 0 (messages.Request (tx_in 0 2 1) 1 0 (wants.Read (first_read 0 1)))) ∷
    marked 3 (Sent 13 1 (messages.Request (tx_in 0 2 1) 1 0 (wants.Read (first_read 0 1)))) ∷ marked 3 (Lost 13) ∷
    marked 0 (Got 12) ∷ marked 0 (Sent 14 3 (messages.Answer 12 (answers.Clash (tx 0 1) 1 0))) ∷
    marked 0 (Sent 15 3 (messages.Inquiry (tx 0 1))) ∷ marked 3 (Got 14) ∷
    marked 3 (Told (replies.Conflict (tx 0 1) 0)) ∷ marked 3 (Got 15) ∷
    marked 3 (Sent 16 0 (messages.Decision (tx 0 1) outcomes.Aborted)) ∷ marked 3 (Called (commands.Do 1 0)) ∷
    marked 3 (Told (replies.Response 0)) ∷ marked 3 (Called (commands.Do 0 0)) ∷
    marked 3 (Sent 17 0 (messages.Request (tx_in 0 2 1) 1 0 (wants.Read (first_read 0 0)))) ∷
    marked 3 (Sent 18 1 (messages.Request (tx_in 0 2 1) 1 0 (wants.Read (first_read 0 0)))) ∷ marked 3 (Lost 18) ∷
    marked 0 (Got 16) ∷ marked 0 (Got 17)
    ∷ marked 0 (Sent 19 3 (messages.Answer 17 (answers.Granted (whole_grant 1 0 [])))) ∷
    marked 3 (Got 19) ∷ marked 3 (Told (replies.Quorum halves.Read 1 2)) ∷ marked 5 (Phase 6) ∷
    marked 3 (Called commands.Commit) ∷ marked 3 (Sent 20 0 (messages.Request (tx_in 0 2 1) 1 1 wants.Prepare)) ∷
    marked 0 (Got 20) ∷ marked 0 (Sent 21 3 (messages.Answer 20 answers.Fault)) ∷
    marked 0 (Fell falls.Disk (Some (prepare (tx_in 0 2 1) 1 (read_lock 0 0 ∷ []) [] []))) ∷ marked 3 (Got 21) ∷
    marked 3 (Sent 22 0 (messages.Decision (tx_in 0 2 1) outcomes.Aborted)) ∷
    marked 3 (Sent 23 1 (messages.Decision (tx_in 0 2 1) outcomes.Aborted)) ∷
    marked 3 (Told (replies.Aborted (causes.Fault 0))) ∷ []
