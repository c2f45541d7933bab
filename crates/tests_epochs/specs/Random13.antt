-- Random: sites 2, clients 1, steps 146, messages 48, lost 8, cuts 1, commits 2, aborts 3, short rounds 4, absent 1,
-- falls 2, rises 2.
use Rattle.std.specs.Prelude.{List, [], ◌∷◌, None}
use Rattle.qc_decl.specs.declared.declaration.Declaration.{Declaration}
use Rattle.qc_decl.specs.Vocabulary.{row}
use Rattle.qc_msg.specs.Vocabulary.{Entry, marked}
use Rattle.tests_histories.specs.Words.{tx, stamp, own_line, read_lock, prepare, commit, declaration, kind, pair, plan}
use Rattle.qc_msg.specs.declared.step.Step.TheVariants.{Phase, Cut, Called, Got, Lost, Wrote, Sent, Told, Fell, Rose}
use Rattle.qc_msg.specs.declared.message.Answer.TheVariants as answers
use Rattle.qc_msg.specs.declared.reply.AbortCause.TheVariants as causes
use Rattle.qc_msg.specs.declared.step.Command.TheVariants as commands
use Rattle.qc_msg.specs.declared.reply.Half.TheVariants as halves
use Rattle.qc_msg.specs.declared.message.Message.TheVariants as messages
use Rattle.qc_msg.specs.declared.message.Outcome.TheVariants as outcomes
use Rattle.qc_msg.specs.declared.record.Record.TheVariants as records
use Rattle.qc_msg.specs.declared.reply.Reply.TheVariants as replies
use Rattle.qc_msg.specs.declared.message.Want.TheVariants as wants
use Rattle.qc_msg.specs.declared.step.Fall.TheVariants as falls
use Rattle.qc_msg.specs.Vocabulary.{whole_grant, first_read}

abbrev pub decl : Declaration
decl =
    declaration 2 1 (kind 4 3 2 0 (row 0 0 0 1 ∷ row 0 0 1 2 ∷ row 0 2 0 3 ∷ row 1 1 1 3 ∷ row 2 0 1 1 ∷ row 2 0 0 3 ∷
    row 2 1 0 0 ∷ row 2 1 1 1 ∷ row 2 2 1 2 ∷ row 3 0 1 2 ∷ row 3 1 1 3 ∷ row 3 1 0 2 ∷ row 3 2 0 1 ∷ []) (pair 0 0 ∷
    pair 0 1 ∷ pair 0 2 ∷ pair 0 3 ∷ pair 0 4 ∷ pair 1 0 ∷ pair 1 1 ∷ pair 1 2 ∷ pair 1 3 ∷ pair 1 4 ∷ pair 2 0 ∷ pair 2
    1 ∷ pair 2 2 ∷ pair 2 3 ∷ pair 2 4 ∷ []) ∷ kind 3 2 2 0 (row 0 1 0 1 ∷ row 2 1 0 2 ∷ []) (pair 1 0 ∷ []) ∷ []) (0 ∷
    1 ∷ []) (plan (1 ∷ 1 ∷ []) ((2 ∷ 2 ∷ 2 ∷ []) ∷ (2 ∷ 1 ∷ []) ∷ []) ((1 ∷ 1 ∷ 1 ∷ 1 ∷ 1 ∷ 0 ∷ []) ∷ (2 ∷ []) ∷ []) ∷
    [])

abbrev pub history : List Entry
history =
    marked 4 (Phase 1) ∷ marked 2 (Called commands.Begin) ∷ marked 2 (Told (replies.Began (tx 0 1))) ∷
    marked 2 (Called (commands.Do 1 1)) ∷
    marked 2 (Sent 0 0 (messages.Request (tx 0 1) 1 0 (wants.Read (first_read 1 1))))
    ∷
    marked 2 (Lost 0) ∷ marked 2 (Sent 1 1 (messages.Request (tx 0 1) 1 0 (wants.Read (first_read 1 1))))
    ∷ marked 2 (Lost 1) ∷
    marked 2 (Told (replies.Quorum halves.Read 0 1)) ∷ marked 2 (Called commands.Commit) ∷
    marked 2 (Wrote (commit (stamp 1 0) (tx 0 1) [])) ∷
    marked 2 (Sent 2 0 (messages.Decision (tx 0 1) (outcomes.Committed (stamp 1 0)))) ∷
    marked 2 (Sent 3 1 (messages.Decision (tx 0 1) (outcomes.Committed (stamp 1 0)))) ∷
    marked 2 (Told (replies.Committed (stamp 1 0))) ∷ marked 0 (Got 2) ∷ marked 1 (Got 3) ∷
    marked 2 (Called commands.Begin) ∷ marked 2 (Told (replies.Began (tx 0 2))) ∷ marked 2 (Called commands.Commit) ∷
    marked 2 (Wrote (commit (stamp 2 0) (tx 0 2) [])) ∷ marked 2 (Told (replies.Committed (stamp 2 0))) ∷
    marked 4 (Phase 2) ∷ marked 2 (Called commands.Begin) ∷ marked 2 (Told (replies.Began (tx 0 3))) ∷
    marked 2 (Called (commands.Do 1 0)) ∷
    marked 2 (Sent 4 0 (messages.Request (tx 0 3) 1 0 (wants.Read (first_read 1 0))))
    ∷
    marked 2 (Sent 5 1 (messages.Request (tx 0 3) 1 0 (wants.Read (first_read 1 0)))) ∷ marked 0 (Got 4) ∷
    marked 0 (Sent 6 2 (messages.Answer 4 (answers.Granted (whole_grant 1 1 [])))) ∷ marked 1 (Got 5) ∷
    marked 1 (Sent 7 2 (messages.Answer 5 (answers.Granted (whole_grant 1 1 [])))) ∷ marked 2 (Lost 4)
    ∷ marked 2 (Lost 5) ∷
    marked 2 (Told (replies.Quorum halves.Read 0 2)) ∷ marked 2 (Called (commands.Do 0 1)) ∷
    marked 2 (Sent 8 0 (messages.Request (tx 0 3) 1 0 (wants.Read (first_read 0 1)))) ∷
    marked 2 (Sent 9 1 (messages.Request (tx 0 3) 1 0 (wants.Read (first_read 0 1)))) ∷ marked 0 (Got 8) ∷
    marked 0 (Sent 10 2 (messages.Answer 8 (answers.Granted (whole_grant 1 1 [])))) ∷ marked 1 (Got 9) ∷
    marked 1 (Sent 11 2 (messages.Answer 9 (answers.Granted (whole_grant 1 1 [])))) ∷ marked 2 (Got 10)
    ∷ marked 2 (Got 11) ∷
    marked 2 (Told replies.Absent) ∷ marked 2 (Called commands.Commit) ∷
    marked 2 (Sent 12 0 (messages.Request (tx 0 3) 1 1 wants.Prepare)) ∷
    marked 2 (Sent 13 1 (messages.Request (tx 0 3) 1 1 wants.Prepare)) ∷ marked 2 (Lost 12) ∷ marked 2 (Lost 13) ∷
    marked 2 (Sent 14 0 (messages.Decision (tx 0 3) outcomes.Aborted)) ∷
    marked 2 (Sent 15 1 (messages.Decision (tx 0 3) outcomes.Aborted)) ∷
    marked 2 (Told (replies.Aborted (causes.NoAnswer 0))) ∷ marked 0 (Got 14) ∷ marked 1 (Got 15) ∷ marked 4 (Phase 3) ∷
    marked 4 (Cut 3 2) ∷ marked 3 (Fell falls.Script None) ∷ marked 3 (Rose []) ∷ marked 3 (Wrote records.Life) ∷
    marked 2 (Called commands.Begin) ∷ marked 2 (Told (replies.Began (tx 0 4))) ∷ marked 2 (Called (commands.Do 0 0)) ∷
    marked 2 (Sent 16 0 (messages.Request (tx 0 4) 1 0 (wants.Read (first_read 0 0)))) ∷
    marked 2 (Sent 17 1 (messages.Request (tx 0 4) 1 0 (wants.Read (first_read 0 0)))) ∷ marked 0 (Got 16) ∷
    marked 0 (Sent 18 2 (messages.Answer 16 (answers.Granted (whole_grant 1 1 [])))) ∷ marked 1 (Got 17) ∷
    marked 1 (Sent 19 2 (messages.Answer 17 (answers.Granted (whole_grant 1 1 [])))) ∷ marked 2 (Got 18)
    ∷ marked 2 (Got 19) ∷
    marked 2 (Sent 20 0 (messages.Request (tx 0 4) 1 1 (wants.Append 0 [] (own_line 1 0 0 ∷ [])))) ∷ marked 0 (Got 20) ∷
    marked 0 (Sent 21 2 (messages.Answer 20 (answers.Granted (whole_grant 1 1 [])))) ∷ marked 2 (Got 21) ∷
    marked 2 (Told (replies.Response 0)) ∷ marked 2 (Called (commands.Do 1 1)) ∷
    marked 2 (Sent 22 0 (messages.Request (tx 0 4) 1 1 (wants.Read (first_read 1 1)))) ∷ marked 0 (Got 22) ∷
    marked 0 (Sent 23 2 (messages.Answer 22 (answers.Granted (whole_grant 1 1 [])))) ∷ marked 2 (Lost 22) ∷
    marked 2 (Sent 24 1 (messages.Request (tx 0 4) 1 1 (wants.Read (first_read 1 1)))) ∷ marked 1 (Got 24) ∷
    marked 1 (Sent 25 2 (messages.Answer 24 (answers.Granted (whole_grant 1 1 [])))) ∷ marked 2 (Got 25) ∷
    marked 2 (Sent 26 0 (messages.Request (tx 0 4) 1 1 (wants.Append 1 [] (own_line 2 1 0 ∷ [])))) ∷
    marked 2 (Sent 27 1 (messages.Request (tx 0 4) 1 1 (wants.Append 1 [] (own_line 2 1 0 ∷ [])))) ∷ marked 0 (Got 26) ∷
    marked 0 (Sent 28 2 (messages.Answer 26 (answers.Granted (whole_grant 1 1 [])))) ∷ marked 1 (Got 27) ∷
    marked 1 (Sent 29 2 (messages.Answer 27 (answers.Granted (whole_grant 1 1 [])))) ∷ marked 2 (Got 28)
    ∷ marked 2 (Lost 27) ∷
    marked 2 (Told (replies.Quorum halves.Append 1 2)) ∷ marked 2 (Called commands.Commit) ∷
    marked 2 (Sent 30 0 (messages.Decision (tx 0 4) outcomes.Aborted)) ∷
    marked 2 (Sent 31 1 (messages.Decision (tx 0 4) outcomes.Aborted)) ∷
    marked 2 (Told (replies.Aborted causes.Doomed)) ∷ marked 0 (Got 30) ∷ marked 1 (Got 31) ∷
    marked 2 (Called commands.Begin) ∷ marked 2 (Told (replies.Began (tx 0 5))) ∷ marked 2 (Called (commands.Do 1 1)) ∷
    marked 2 (Sent 32 0 (messages.Request (tx 0 5) 1 0 (wants.Read (first_read 1 1)))) ∷ marked 0 (Got 32) ∷
    marked 0 (Sent 33 2 (messages.Answer 32 (answers.Granted (whole_grant 1 1 [])))) ∷ marked 2 (Got 33) ∷
    marked 2 (Sent 34 0 (messages.Request (tx 0 5) 1 1 (wants.Append 1 [] (own_line 1 1 0 ∷ [])))) ∷
    marked 2 (Sent 35 1 (messages.Request (tx 0 5) 1 0 (wants.Append 1 [] (own_line 1 1 0 ∷ [])))) ∷ marked 0 (Got 34) ∷
    marked 0 (Sent 36 2 (messages.Answer 34 (answers.Granted (whole_grant 1 1 [])))) ∷ marked 1 (Got 35) ∷
    marked 1 (Sent 37 2 (messages.Answer 35 (answers.Granted (whole_grant 1 1 [])))) ∷ marked 2 (Got 36)
    ∷ marked 2 (Got 36) ∷
    marked 2 (Got 37) ∷ marked 2 (Told (replies.Response 0)) ∷ marked 4 (Phase 4) ∷ marked 0 (Fell falls.Script None) ∷
    marked 0 (Rose []) ∷ marked 0 (Wrote records.Life) ∷ marked 2 (Called (commands.Do 1 0)) ∷
    marked 2 (Sent 38 0 (messages.Request (tx 0 5) 1 1 (wants.Read (first_read 1 0)))) ∷
    marked 2 (Sent 39 1 (messages.Request (tx 0 5) 1 1 (wants.Read (first_read 1 0)))) ∷ marked 0 (Got 38) ∷
    marked 0 (Sent 40 2 (messages.Answer 38 (answers.Restarted 2))) ∷ marked 1 (Got 39) ∷
    marked 1 (Sent 41 2 (messages.Answer 39 (answers.Granted (whole_grant 1 1 [])))) ∷ marked 2 (Got 40)
    ∷ marked 2 (Got 41) ∷
    marked 2 (Told (replies.Quorum halves.Read 1 2)) ∷ marked 2 (Called commands.Commit) ∷
    marked 2 (Sent 42 0 (messages.Request (tx 0 5) 1 1 wants.Prepare)) ∷
    marked 2 (Sent 43 1 (messages.Request (tx 0 5) 1 1 wants.Prepare)) ∷ marked 0 (Got 42) ∷
    marked 0 (Sent 44 2 (messages.Answer 42 (answers.Restarted 2))) ∷ marked 1 (Got 43) ∷
    marked 1 (Wrote (prepare (tx 0 5) 1 (read_lock 1 0 ∷ []) (own_line 1 1 0 ∷ []) [])) ∷
    marked 1 (Sent 45 2 (messages.Answer 43 (answers.Yes 1))) ∷ marked 2 (Got 44) ∷ marked 2 (Got 45) ∷
    marked 2 (Sent 46 0 (messages.Decision (tx 0 5) outcomes.Aborted)) ∷
    marked 2 (Sent 47 1 (messages.Decision (tx 0 5) outcomes.Aborted)) ∷
    marked 2 (Told (replies.Aborted (causes.Restarted 0 1 2))) ∷ marked 2 (Got 45) ∷ marked 0 (Got 46) ∷
    marked 1 (Got 47) ∷ []
