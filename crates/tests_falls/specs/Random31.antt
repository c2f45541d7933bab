-- Random: sites 4, clients 4, steps 159, messages 60, cuts 1, aborts 2, conflicts 3, falls 2, rises 1, unwritten
-- records 1.
use Rattle.std.specs.Prelude.{List, [], ◌∷◌, Some, None, false}
use Rattle.qc_decl.specs.declared.declaration.Declaration.{Declaration}
use Rattle.qc_decl.specs.Vocabulary.{row}
use Rattle.qc_msg.specs.Vocabulary.{Entry, marked}
use Rattle.tests_histories.specs.Words.{tx, stamp, own_line, operation, read_lock, prepare, commit, declaration, kind}
use Rattle.tests_histories.specs.Words.{pair, plan}
use Rattle.qc_msg.specs.declared.step.Step.TheVariants.{Phase, Cut, Called, Got, Wrote, Sent, Told, Fell, Rose}
use Rattle.qc_msg.specs.declared.turn.Appended.TheVariants.{Done, Failed}
use Rattle.tests_falls.specs.Words.{tx_in}
use Rattle.tests_falls.specs.Perform.{Move, Begins, Acts, Takes, Posts, Rises}
use Rattle.qc_msg.specs.declared.message.Answer.TheVariants as answers
use Rattle.qc_msg.specs.declared.reply.AbortCause.TheVariants as causes
use Rattle.qc_msg.specs.declared.step.Command.TheVariants as commands
use Rattle.qc_msg.specs.declared.message.Message.TheVariants as messages
use Rattle.qc_msg.specs.declared.message.Outcome.TheVariants as outcomes
use Rattle.qc_msg.specs.declared.record.Record.TheVariants as records
use Rattle.qc_msg.specs.declared.reply.Reply.TheVariants as replies
use Rattle.qc_msg.specs.declared.message.Want.TheVariants as wants
use Rattle.qc_msg.specs.declared.step.Fall.TheVariants as falls
use Rattle.qc_msg.specs.Vocabulary.{whole_grant, first_read}

abbrev pub decl : Declaration
decl =
    declaration 4 4 (kind 7 3 4 0 (row 0 0 0 1 ∷ row 0 1 0 2 ∷ row 1 0 0 3 ∷ row 1 1 0 4 ∷ row 2 0 0 5 ∷ row 2 1 0 6 ∷
    row 0 2 3 0 ∷ row 1 2 1 0 ∷ row 2 2 2 0 ∷ row 3 2 1 1 ∷ row 4 2 1 2 ∷ row 5 2 2 1 ∷ row 6 2 2 2 ∷ []) (pair 0 0 ∷
    pair 0 1 ∷ pair 0 3 ∷ pair 0 4 ∷ pair 1 0 ∷ pair 1 1 ∷ pair 1 3 ∷ pair 1 4 ∷ pair 2 0 ∷ pair 2 1 ∷ pair 2 3 ∷ pair 2
    4 ∷ []) ∷ []) (0 ∷ []) (plan (1 ∷ 1 ∷ 1 ∷ 1 ∷ []) ((3 ∷ 3 ∷ 3 ∷ []) ∷ []) ((2 ∷ 2 ∷ 0 ∷ 2 ∷ 2 ∷ []) ∷ []) ∷ plan (1
    ∷ 1 ∷ 1 ∷ 1 ∷ []) ((2 ∷ 3 ∷ 1 ∷ []) ∷ []) ((4 ∷ 4 ∷ 0 ∷ 4 ∷ 4 ∷ []) ∷ []) ∷ [])

abbrev pub moves : List Move
moves =
    Begins ∷ Acts ∷ Acts ∷ Rises false Done ∷ Takes 5 ∷ Takes 6 ∷ Takes 7 ∷ Posts 5 Done ∷ Takes 5 ∷ Posts 5 Done ∷
    Takes 2 ∷ Takes 1 ∷ Posts 7 Done ∷ Takes 3 ∷ Takes 7 ∷ Posts 1 Done ∷ Takes 5 ∷ Posts 5 Done ∷ Posts 7 Done ∷
    Takes 0 ∷ Takes 1 ∷ Posts 0 Done ∷ Takes 7 ∷ Posts 7 Done ∷ Posts 1 Done ∷ Posts 6 Done ∷ Takes 6 ∷ Posts 2 Done ∷
    Takes 5 ∷ Posts 5 Done ∷ Posts 6 Done ∷ Takes 0 ∷ Takes 2 ∷ Takes 7 ∷ Posts 7 Done ∷ Posts 2 Done ∷ Takes 6 ∷
    Posts 6 Done ∷ Posts 3 Done ∷ Takes 5 ∷ Takes 3 ∷ Posts 3 Done ∷ Takes 3 ∷ Posts 5 Done ∷ Takes 5 ∷ Takes 7 ∷
    Posts 5 Done ∷ Takes 1 ∷ Takes 2 ∷ Posts 1 Done ∷ Takes 5 ∷ Posts 5 Done ∷ Posts 0 Done ∷ Takes 6 ∷ Posts 6 Done ∷
    Posts 2 Done ∷ Posts 3 Done ∷ Takes 3 ∷ Posts 3 Done ∷ Takes 5 ∷ Posts 5 Done ∷ Posts 7 Done ∷ Takes 7 ∷ Takes 5 ∷
    Posts 7 Done ∷ Takes 1 ∷ Takes 3 ∷ Posts 1 Done ∷ Takes 0 ∷ Takes 7 ∷ Posts 7 Done ∷ Takes 6 ∷ Posts 5 Failed ∷
    Posts 6 Done ∷ Takes 2 ∷ Posts 0 Done ∷ Takes 7 ∷ Posts 7 Done ∷ Posts 2 Done ∷ Takes 6 ∷ Posts 6 Done ∷
    Posts 3 Done ∷ Takes 3 ∷ Posts 3 Done ∷ Takes 6 ∷ Posts 6 Done ∷ Takes 7 ∷ Takes 6 ∷ Posts 7 Done ∷ Takes 3 ∷
    Takes 0 ∷ Posts 0 Done ∷ Posts 6 Done ∷ Takes 7 ∷ Posts 7 Done ∷ Takes 6 ∷ Posts 3 Done ∷ Posts 6 Done ∷ Takes 0 ∷
    Posts 0 Done ∷ Takes 6 ∷ Takes 7 ∷ Posts 6 Done ∷ Takes 6 ∷ Posts 6 Done ∷ Takes 6 ∷ Posts 6 Done ∷ Takes 3 ∷
    Posts 3 Done ∷ Takes 2 ∷ Posts 2 Done ∷ Takes 0 ∷ Posts 0 Done ∷ Posts 7 Done ∷ Takes 7 ∷ Posts 7 Done ∷ Takes 7 ∷
    Posts 7 Done ∷ Takes 7 ∷ Takes 1 ∷ Posts 1 Done ∷ Takes 0 ∷ Posts 0 Done ∷ Takes 3 ∷ Posts 3 Done ∷ Posts 7 Done ∷
    Takes 7 ∷ Posts 7 Done ∷ Takes 3 ∷ Takes 1 ∷ Takes 0 ∷ Posts 1 Done ∷ Takes 7 ∷ Posts 7 Done ∷ Posts 0 Done ∷
    Takes 7 ∷ Posts 7 Done ∷ Posts 3 Done ∷ Takes 7 ∷ Posts 7 Done ∷ Takes 0 ∷ Takes 3 ∷ Posts 0 Done ∷ Takes 7 ∷
    Posts 7 Done ∷ Posts 3 Done ∷ Takes 7 ∷ Posts 7 Done ∷ Takes 7 ∷ Posts 7 Done ∷ []

abbrev pub history : List Entry
history =
    marked 9 (Phase 1) ∷ marked 9 (Cut 1 3) ∷ marked 6 (Fell falls.Script None) ∷ marked 6 (Rose []) ∷
    marked 6 (Wrote records.Life) ∷ marked 5 (Called commands.Begin) ∷ marked 6 (Called commands.Begin) ∷
    marked 7 (Called commands.Begin) ∷ marked 5 (Told (replies.Began (tx 1 1))) ∷ marked 5 (Called (commands.Do 0 2)) ∷
    marked 5 (Sent 0 1 (messages.Request (tx 1 1) 1 0 (wants.Read (first_read 0 2)))) ∷
    marked 5 (Sent 1 2 (messages.Request (tx 1 1) 1 0 (wants.Read (first_read 0 2)))) ∷
    marked 5 (Sent 2 3 (messages.Request (tx 1 1) 1 0 (wants.Read (first_read 0 2)))) ∷ marked 2 (Got 1) ∷
    marked 1 (Got 0)
    ∷
    marked 7 (Told (replies.Began (tx 3 1))) ∷ marked 3 (Got 2) ∷ marked 7 (Called (commands.Do 0 2)) ∷
    marked 1 (Sent 3 5 (messages.Answer 0 (answers.Granted (whole_grant 1 0 [])))) ∷ marked 5 (Got 3) ∷
    marked 7 (Sent 4 3 (messages.Request (tx 3 1) 1 0 (wants.Read (first_read 0 2)))) ∷
    marked 7 (Sent 5 0 (messages.Request (tx 3 1) 1 0 (wants.Read (first_read 0 2)))) ∷
    marked 7 (Sent 6 1 (messages.Request (tx 3 1) 1 0 (wants.Read (first_read 0 2)))) ∷ marked 0 (Got 5) ∷
    marked 1 (Got 6)
    ∷
    marked 0 (Sent 7 7 (messages.Answer 5 (answers.Granted (whole_grant 1 0 [])))) ∷ marked 7 (Got 7) ∷
    marked 1 (Sent 8 7 (messages.Answer 6 (answers.Granted (whole_grant 1 0 []))))
    ∷ marked 6 (Told (replies.Began (tx_in 2 2 1))) ∷
    marked 6 (Called (commands.Do 0 1)) ∷ marked 2 (Sent 9 5 (messages.Answer 1 (answers.Granted (whole_grant 1 0 []))))
    ∷
    marked 5 (Got 9) ∷ marked 6 (Sent 10 2 (messages.Request (tx_in 2 2 1) 1 0 (wants.Read (first_read 0 1)))) ∷
    marked 6 (Sent 11 3 (messages.Request (tx_in 2 2 1) 1 0 (wants.Read (first_read 0 1)))) ∷
    marked 6 (Sent 12 0 (messages.Request (tx_in 2 2 1) 1 0 (wants.Read (first_read 0 1)))) ∷ marked 0 (Got 12)
    ∷ marked 2 (Got 10) ∷
    marked 7 (Got 8) ∷ marked 2 (Sent 13 6 (messages.Answer 10 (answers.Granted (whole_grant 1 0 []))))
    ∷ marked 6 (Got 13) ∷
    marked 3 (Sent 14 5 (messages.Answer 2 (answers.Granted (whole_grant 1 0 [])))) ∷ marked 5 (Got 14)
    ∷ marked 3 (Got 4) ∷
    marked 3 (Sent 15 7 (messages.Answer 4 (answers.Granted (whole_grant 1 0 [])))) ∷ marked 3 (Got 11) ∷
    marked 5 (Told (replies.Response 3)) ∷ marked 5 (Called commands.Commit) ∷ marked 7 (Got 15) ∷
    marked 5 (Sent 16 1 (messages.Request (tx 1 1) 1 1 wants.Prepare)) ∷
    marked 5 (Sent 17 2 (messages.Request (tx 1 1) 1 1 wants.Prepare)) ∷
    marked 5 (Sent 18 3 (messages.Request (tx 1 1) 1 1 wants.Prepare)) ∷ marked 1 (Got 16) ∷ marked 2 (Got 17) ∷
    marked 1 (Wrote (prepare (tx 1 1) 1 (read_lock 0 2 ∷ []) [] [])) ∷
    marked 1 (Sent 19 5 (messages.Answer 16 (answers.Yes 0))) ∷ marked 5 (Got 19) ∷
    marked 0 (Sent 20 6 (messages.Answer 12 (answers.Granted (whole_grant 1 0 [])))) ∷ marked 6 (Got 20) ∷
    marked 2 (Wrote (prepare (tx 1 1) 1 (read_lock 0 2 ∷ []) [] [])) ∷
    marked 2 (Sent 21 5 (messages.Answer 17 (answers.Yes 0))) ∷
    marked 3 (Sent 22 6 (messages.Answer 11 (answers.Granted (whole_grant 1 0 [])))) ∷ marked 3 (Got 18) ∷
    marked 3 (Wrote (prepare (tx 1 1) 1 (read_lock 0 2 ∷ []) [] [])) ∷
    marked 3 (Sent 23 5 (messages.Answer 18 (answers.Yes 0))) ∷ marked 5 (Got 21) ∷
    marked 7 (Told (replies.Response 3)) ∷ marked 7 (Called (commands.Do 0 1)) ∷ marked 5 (Got 23) ∷
    marked 7 (Sent 24 3 (messages.Request (tx 3 1) 1 1 (wants.Read (first_read 0 1)))) ∷
    marked 7 (Sent 25 0 (messages.Request (tx 3 1) 1 1 (wants.Read (first_read 0 1)))) ∷
    marked 7 (Sent 26 1 (messages.Request (tx 3 1) 1 1 (wants.Read (first_read 0 1)))) ∷ marked 1 (Got 26)
    ∷ marked 3 (Got 24) ∷
    marked 1 (Sent 27 7 (messages.Answer 26 (answers.Granted (whole_grant 1 0 [])))) ∷ marked 0 (Got 25)
    ∷ marked 7 (Got 27) ∷
    marked 6 (Got 22) ∷ marked 5 (Told replies.Unknown) ∷
    marked 5 (Fell falls.Disk (Some (commit (stamp 1 1) (tx 1 1) (operation 0 2 (Some 3) ∷ [])))) ∷
    marked 6 (Sent 28 2 (messages.Request (tx_in 2 2 1) 1 1 (wants.Append 0 [] (own_line 1 0 1 ∷ [])))) ∷
    marked 6 (Sent 29 3 (messages.Request (tx_in 2 2 1) 1 1 (wants.Append 0 [] (own_line 1 0 1 ∷ [])))) ∷
    marked 2 (Got 28) ∷ marked 0 (Sent 30 7 (messages.Answer 25 (answers.Granted (whole_grant 1 0 []))))
    ∷ marked 7 (Got 30) ∷
    marked 2 (Sent 31 6 (messages.Answer 28 (answers.Clash (tx 1 1) 2 1))) ∷
    marked 2 (Sent 32 5 (messages.Inquiry (tx 1 1))) ∷ marked 6 (Got 31) ∷
    marked 3 (Sent 33 7 (messages.Answer 24 (answers.Granted (whole_grant 1 0 [])))) ∷ marked 3 (Got 29) ∷
    marked 3 (Sent 34 6 (messages.Answer 29 (answers.Clash (tx 1 1) 2 1))) ∷
    marked 3 (Sent 35 5 (messages.Inquiry (tx 1 1))) ∷ marked 6 (Got 34) ∷
    marked 6 (Told (replies.Conflict (tx 1 1) 2)) ∷ marked 7 (Got 33) ∷ marked 6 (Called (commands.Do 0 1)) ∷
    marked 7 (Sent 36 3 (messages.Request (tx 3 1) 1 1 (wants.Append 0 [] (own_line 2 0 1 ∷ [])))) ∷
    marked 7 (Sent 37 0 (messages.Request (tx 3 1) 1 1 (wants.Append 0 [] (own_line 2 0 1 ∷ [])))) ∷ marked 3 (Got 36) ∷
    marked 0 (Got 37) ∷ marked 0 (Sent 38 7 (messages.Answer 37 (answers.Clash (tx_in 2 2 1) 1 1))) ∷
    marked 0 (Sent 39 6 (messages.Inquiry (tx_in 2 2 1))) ∷ marked 6 (Told replies.Doomed) ∷ marked 7 (Got 38) ∷
    marked 6 (Got 39) ∷ marked 3 (Sent 40 7 (messages.Answer 36 (answers.Clash (tx 1 1) 2 1))) ∷
    marked 3 (Sent 41 5 (messages.Inquiry (tx 1 1))) ∷
    marked 6 (Sent 42 0 (messages.Decision (tx_in 2 2 1) outcomes.Active)) ∷ marked 0 (Got 42) ∷
    marked 6 (Called (commands.Do 0 1)) ∷ marked 7 (Got 40) ∷ marked 6 (Told replies.Doomed) ∷
    marked 6 (Called (commands.Do 0 0)) ∷ marked 6 (Told replies.Doomed) ∷ marked 6 (Called commands.Commit) ∷
    marked 6 (Sent 43 0 (messages.Decision (tx_in 2 2 1) outcomes.Aborted)) ∷
    marked 6 (Sent 44 2 (messages.Decision (tx_in 2 2 1) outcomes.Aborted)) ∷
    marked 6 (Sent 45 3 (messages.Decision (tx_in 2 2 1) outcomes.Aborted)) ∷
    marked 6 (Told (replies.Aborted causes.Doomed)) ∷ marked 3 (Got 45) ∷ marked 2 (Got 44) ∷ marked 0 (Got 43) ∷
    marked 7 (Told (replies.Conflict (tx 1 1) 3)) ∷ marked 7 (Called (commands.Do 0 2)) ∷
    marked 7 (Told replies.Doomed) ∷ marked 7 (Called commands.Commit) ∷
    marked 7 (Sent 46 0 (messages.Decision (tx 3 1) outcomes.Aborted)) ∷
    marked 7 (Sent 47 1 (messages.Decision (tx 3 1) outcomes.Aborted)) ∷
    marked 7 (Sent 48 3 (messages.Decision (tx 3 1) outcomes.Aborted)) ∷
    marked 7 (Told (replies.Aborted causes.Doomed)) ∷ marked 7 (Called commands.Begin) ∷ marked 1 (Got 47) ∷
    marked 0 (Got 46) ∷ marked 3 (Got 48) ∷ marked 7 (Told (replies.Began (tx 3 2))) ∷
    marked 7 (Called (commands.Do 0 0))
    ∷ marked 7 (Sent 49 3 (messages.Request (tx 3 2) 1 0 (wants.Read (first_read 0 0)))) ∷
    marked 7 (Sent 50 0 (messages.Request (tx 3 2) 1 0 (wants.Read (first_read 0 0)))) ∷
    marked 7 (Sent 51 1 (messages.Request (tx 3 2) 1 0 (wants.Read (first_read 0 0)))) ∷ marked 3 (Got 49)
    ∷ marked 1 (Got 51) ∷
    marked 0 (Got 50) ∷ marked 1 (Sent 52 7 (messages.Answer 51 (answers.Granted (whole_grant 1 0 []))))
    ∷ marked 7 (Got 52) ∷
    marked 0 (Sent 53 7 (messages.Answer 50 (answers.Granted (whole_grant 1 0 [])))) ∷ marked 7 (Got 53) ∷
    marked 3 (Sent 54 7 (messages.Answer 49 (answers.Granted (whole_grant 1 0 [])))) ∷ marked 7 (Got 54) ∷
    marked 7 (Sent 55 3 (messages.Request (tx 3 2) 1 1 (wants.Append 0 [] (own_line 1 0 0 ∷ [])))) ∷
    marked 7 (Sent 56 0 (messages.Request (tx 3 2) 1 1 (wants.Append 0 [] (own_line 1 0 0 ∷ [])))) ∷ marked 0 (Got 56) ∷
    marked 3 (Got 55) ∷ marked 0 (Sent 57 7 (messages.Answer 56 (answers.Granted (whole_grant 1 0 []))))
    ∷ marked 7 (Got 57) ∷
    marked 3 (Sent 58 7 (messages.Answer 55 (answers.Clash (tx 1 1) 2 0))) ∷
    marked 3 (Sent 59 5 (messages.Inquiry (tx 1 1))) ∷ marked 7 (Got 58) ∷
    marked 7 (Told (replies.Conflict (tx 1 1) 3)) ∷ marked 7 (Called commands.Begin) ∷
    marked 7 (Told (replies.Already (tx 3 2))) ∷ []
