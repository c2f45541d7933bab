-- Random: sites 5, clients 3, steps 198, messages 64, lost 2, commits 2, aborts 1, falls 4, rises 3, unwritten records
-- 3, closes 3, decisions 1, installs 3.
use Rattle.std.specs.Prelude.{List, [], ◌∷◌, Some, None}
use Rattle.qc_decl.specs.declared.declaration.Declaration.{Declaration}
use Rattle.qc_decl.specs.Vocabulary.{row}
use Rattle.qc_msg.specs.Vocabulary.{Entry, marked}
use Rattle.tests_histories.specs.Words.{tx, stamp, operation, commit, declaration, kind, pair, plan}
use Rattle.qc_msg.specs.declared.step.Step.TheVariants.{Phase, Called, Got, Lost, Wrote, Sent, Told, Armed, Fell, Rose}
use Rattle.tests_epochs.specs.Words.{tx_in}
use Rattle.qc_msg.specs.declared.message.Answer.TheVariants as answers
use Rattle.qc_msg.specs.declared.reply.AbortCause.TheVariants as causes
use Rattle.qc_msg.specs.declared.step.Command.TheVariants as commands
use Rattle.qc_msg.specs.declared.message.Message.TheVariants as messages
use Rattle.qc_msg.specs.declared.message.Outcome.TheVariants as outcomes
use Rattle.qc_msg.specs.declared.record.Record.TheVariants as records
use Rattle.qc_msg.specs.declared.reply.Reply.TheVariants as replies
use Rattle.qc_msg.specs.declared.message.Want.TheVariants as wants
use Rattle.qc_msg.specs.declared.step.Fall.TheVariants as falls
use Rattle.qc_msg.specs.Vocabulary.{whole_grant, first_read, snapshot_with, start_with}
use Rattle.qc_outside.specs.declared.disk.ArmKind.TheVariants as arms

abbrev pub decl : Declaration
decl =
    declaration 5 3 (kind 2 1 2 0 (row 0 0 0 1 ∷ row 1 0 1 1 ∷ []) (pair 0 0 ∷ []) ∷ kind 2 1 1 0 (row 0 0 0 0 ∷ row 1 0
    0 0 ∷ []) [] ∷ []) (1 ∷ []) (plan (3 ∷ 1 ∷ 1 ∷ 1 ∷ 1 ∷ []) ((3 ∷ []) ∷ []) ((0 ∷ []) ∷ []) ∷ plan (1 ∷ 1 ∷ 1 ∷ 3 ∷ 1
    ∷ []) ((0 ∷ []) ∷ []) ((0 ∷ []) ∷ []) ∷ plan (1 ∷ 1 ∷ 3 ∷ 1 ∷ 3 ∷ []) ((4 ∷ []) ∷ []) ((0 ∷ []) ∷ []) ∷ [])

abbrev pub history : List Entry
history =
    marked 9 (Phase 1) ∷ marked 6 (Fell falls.Script None) ∷ marked 6 (Rose []) ∷ marked 6 (Wrote records.Life) ∷
    marked 6 (Called commands.Begin) ∷ marked 6 (Told (replies.Began (tx_in 1 2 1))) ∷
    marked 7 (Called commands.Begin) ∷ marked 7 (Told (replies.Began (tx 2 1))) ∷ marked 6 (Called commands.Commit) ∷
    marked 6 (Wrote (commit (stamp 1 1) (tx_in 1 2 1) [])) ∷ marked 6 (Told (replies.Committed (stamp 1 1))) ∷
    marked 7 (Called (commands.Do 0 0)) ∷
    marked 7 (Sent 0 2 (messages.Request (tx 2 1) 1 0 (wants.Read (first_read 0 0))))
    ∷
    marked 7 (Sent 1 3 (messages.Request (tx 2 1) 1 0 (wants.Read (first_read 0 0)))) ∷
    marked 7 (Sent 2 4 (messages.Request (tx 2 1) 1 0 (wants.Read (first_read 0 0)))) ∷ marked 4 (Got 2) ∷
    marked 4 (Sent 3 7 (messages.Answer 2 (answers.Granted (whole_grant 1 0 [])))) ∷ marked 6 (Called commands.Begin) ∷
    marked 6 (Told (replies.Began (tx_in 1 2 2))) ∷ marked 6 (Called (commands.Do 0 0)) ∷
    marked 6 (Sent 4 1 (messages.Request (tx_in 1 2 2) 1 0 (wants.Read (first_read 0 0)))) ∷
    marked 6 (Sent 5 2 (messages.Request (tx_in 1 2 2) 1 0 (wants.Read (first_read 0 0)))) ∷
    marked 6 (Sent 6 3 (messages.Request (tx_in 1 2 2) 1 0 (wants.Read (first_read 0 0)))) ∷ marked 3 (Got 1) ∷
    marked 3 (Sent 7 7 (messages.Answer 1 (answers.Granted (whole_grant 1 0 [])))) ∷ marked 2 (Got 0) ∷
    marked 2 (Sent 8 7 (messages.Answer 0 (answers.Granted (whole_grant 1 0 [])))) ∷ marked 7 (Got 3) ∷ marked 2 (Got 5)
    ∷
    marked 2 (Sent 9 6 (messages.Answer 5 (answers.Granted (whole_grant 1 0 [])))) ∷ marked 6 (Got 9) ∷
    marked 8 (Called (commands.Epoch 2)) ∷ marked 8 (Sent 10 0 (messages.Close 2)) ∷
    marked 8 (Sent 11 1 (messages.Close 2)) ∷ marked 8 (Sent 12 2 (messages.Close 2)) ∷ marked 7 (Got 7) ∷
    marked 1 (Got 4) ∷ marked 1 (Sent 13 6 (messages.Answer 4 (answers.Granted (whole_grant 1 0 []))))
    ∷ marked 2 (Got 12) ∷
    marked 1 (Got 11) ∷ marked 1 (Wrote (records.Close 2)) ∷
    marked 1 (Sent 14 8 (messages.Answer 11 (answers.Shut (snapshot_with 0 [] []))))
    ∷ marked 2 (Wrote (records.Close 2)) ∷
    marked 2 (Sent 15 8 (messages.Answer 12 (answers.Shut (snapshot_with 0 [] [])))) ∷ marked 7 (Got 8) ∷
    marked 7 (Told (replies.Response 0)) ∷ marked 6 (Got 13) ∷ marked 8 (Got 14) ∷ marked 0 (Got 10) ∷
    marked 0 (Wrote (records.Close 2))
    ∷ marked 0 (Sent 16 8 (messages.Answer 10 (answers.Shut (snapshot_with 0 [] [])))) ∷
    marked 3 (Got 6) ∷ marked 3 (Sent 17 6 (messages.Answer 6 (answers.Granted (whole_grant 1 0 []))))
    ∷ marked 6 (Got 17) ∷
    marked 6 (Told (replies.Response 0)) ∷ marked 6 (Called (commands.Do 0 0)) ∷ marked 8 (Got 15) ∷ marked 8 (Got 16) ∷
    marked 8 (Wrote (records.Decide (start_with 2 0 []))) ∷ marked 8 (Sent 18 0 (messages.Install (start_with 2 0 [])))
    ∷
    marked 8 (Sent 19 1 (messages.Install (start_with 2 0 [])))
    ∷ marked 8 (Sent 20 2 (messages.Install (start_with 2 0 []))) ∷
    marked 8 (Sent 21 3 (messages.Install (start_with 2 0 [])))
    ∷ marked 8 (Sent 22 4 (messages.Install (start_with 2 0 []))) ∷
    marked 0 (Got 18) ∷ marked 0 (Wrote (records.Install (start_with 2 0 []))) ∷
    marked 0 (Sent 23 8 (messages.Answer 18 answers.Installed)) ∷
    marked 6 (Sent 24 1 (messages.Request (tx_in 1 2 2) 1 1 (wants.Read (first_read 0 0)))) ∷
    marked 6 (Sent 25 2 (messages.Request (tx_in 1 2 2) 1 1 (wants.Read (first_read 0 0)))) ∷
    marked 6 (Sent 26 3 (messages.Request (tx_in 1 2 2) 1 1 (wants.Read (first_read 0 0)))) ∷ marked 8 (Got 23)
    ∷ marked 3 (Got 21) ∷
    marked 3 (Wrote (records.Install (start_with 2 0 []))) ∷ marked 3 (Sent 27 8 (messages.Answer 21 answers.Installed))
    ∷
    marked 2 (Got 20) ∷ marked 2 (Wrote (records.Install (start_with 2 0 []))) ∷
    marked 2 (Sent 28 8 (messages.Answer 20 answers.Installed)) ∷ marked 4 (Got 22) ∷
    marked 4 (Fell falls.Stop (Some (records.Install (start_with 2 0 [])))) ∷ marked 3 (Got 26) ∷
    marked 3 (Sent 29 6 (messages.Answer 26 (answers.Closed 2))) ∷ marked 6 (Got 29) ∷ marked 1 (Got 19) ∷
    marked 2 (Got 25) ∷ marked 1 (Sent 30 8 (messages.Answer 19 answers.Fault)) ∷
    marked 1 (Fell falls.Disk (Some (records.Install (start_with 2 0 [])))) ∷
    marked 2 (Sent 31 6 (messages.Answer 25 (answers.Closed 2))) ∷ marked 6 (Got 31) ∷ marked 8 (Got 27) ∷
    marked 6 (Lost 24) ∷ marked 6 (Told (replies.Closed 2 2)) ∷ marked 8 (Got 28) ∷ marked 8 (Got 30) ∷
    marked 8 (Lost 22) ∷ marked 8 (Told (replies.Moved 7 13)) ∷ marked 9 (Phase 2) ∷
    marked 1 (Rose ((records.Close 2) ∷ [])) ∷ marked 1 (Wrote records.Life) ∷ marked 9 (Armed 2 arms.Stop 2) ∷
    marked 9 (Armed 3 arms.Stop 2) ∷ marked 4 (Rose []) ∷ marked 4 (Wrote records.Life) ∷
    marked 5 (Called commands.Begin) ∷ marked 5 (Told (replies.Began (tx 0 1))) ∷ marked 7 (Called commands.Commit) ∷
    marked 7 (Sent 32 2 (messages.Request (tx 2 1) 1 1 wants.Prepare)) ∷
    marked 7 (Sent 33 3 (messages.Request (tx 2 1) 1 1 wants.Prepare)) ∷
    marked 7 (Sent 34 4 (messages.Request (tx 2 1) 1 1 wants.Prepare)) ∷ marked 2 (Got 32) ∷
    marked 2 (Sent 35 7 (messages.Answer 32 (answers.Closed 2))) ∷ marked 3 (Got 33) ∷
    marked 3 (Sent 36 7 (messages.Answer 33 (answers.Closed 2))) ∷ marked 4 (Got 34) ∷
    marked 4 (Sent 37 7 (messages.Answer 34 (answers.Restarted 2))) ∷ marked 6 (Called (commands.Do 0 0)) ∷
    marked 5 (Called (commands.Do 0 0))
    ∷ marked 6 (Sent 38 1 (messages.Request (tx_in 1 2 2) 1 1 (wants.Read (first_read 0 0)))) ∷
    marked 6 (Sent 39 2 (messages.Request (tx_in 1 2 2) 1 1 (wants.Read (first_read 0 0)))) ∷
    marked 6 (Sent 40 3 (messages.Request (tx_in 1 2 2) 1 1 (wants.Read (first_read 0 0)))) ∷ marked 7 (Got 35)
    ∷ marked 3 (Got 40) ∷
    marked 3 (Sent 41 6 (messages.Answer 40 (answers.Closed 2))) ∷
    marked 5 (Sent 42 0 (messages.Request (tx 0 1) 1 0 (wants.Read (first_read 0 0)))) ∷ marked 6 (Got 41)
    ∷ marked 1 (Got 38) ∷
    marked 1 (Sent 43 6 (messages.Answer 38 (answers.Closed 2))) ∷ marked 6 (Got 43) ∷ marked 0 (Got 42) ∷
    marked 0 (Sent 44 5 (messages.Answer 42 (answers.Closed 2))) ∷ marked 2 (Got 39) ∷
    marked 2 (Sent 45 6 (messages.Answer 39 (answers.Closed 2))) ∷ marked 6 (Got 45) ∷
    marked 6 (Told (replies.Closed 2 1)) ∷ marked 6 (Called (commands.Do 0 0)) ∷
    marked 6 (Sent 46 1 (messages.Request (tx_in 1 2 2) 1 1 (wants.Read (first_read 0 0)))) ∷
    marked 6 (Sent 47 2 (messages.Request (tx_in 1 2 2) 1 1 (wants.Read (first_read 0 0)))) ∷
    marked 6 (Sent 48 3 (messages.Request (tx_in 1 2 2) 1 1 (wants.Read (first_read 0 0)))) ∷ marked 5 (Got 44) ∷
    marked 5 (Told (replies.Closed 2 0)) ∷ marked 1 (Got 46) ∷ marked 5 (Called (commands.Do 0 0)) ∷
    marked 1 (Sent 49 6 (messages.Answer 46 (answers.Closed 2))) ∷
    marked 5 (Sent 50 0 (messages.Request (tx 0 1) 1 0 (wants.Read (first_read 0 0)))) ∷ marked 7 (Got 36)
    ∷ marked 6 (Got 49) ∷
    marked 7 (Got 37) ∷ marked 7 (Sent 51 2 (messages.Decision (tx 2 1) outcomes.Aborted)) ∷
    marked 7 (Sent 52 3 (messages.Decision (tx 2 1) outcomes.Aborted)) ∷
    marked 7 (Sent 53 4 (messages.Decision (tx 2 1) outcomes.Aborted)) ∷
    marked 7 (Told (replies.Aborted (causes.Closed 2 2))) ∷ marked 2 (Got 47) ∷
    marked 2 (Sent 54 6 (messages.Answer 47 (answers.Closed 2))) ∷ marked 2 (Got 51) ∷ marked 6 (Got 54) ∷
    marked 4 (Got 53) ∷ marked 3 (Got 48) ∷ marked 7 (Called commands.Begin) ∷
    marked 7 (Told (replies.Began (tx 2 2))) ∷ marked 3 (Sent 55 6 (messages.Answer 48 (answers.Closed 2))) ∷
    marked 6 (Got 55) ∷ marked 6 (Told (replies.Closed 2 1)) ∷ marked 7 (Called (commands.Do 0 0)) ∷
    marked 7 (Told (replies.Response 0)) ∷ marked 3 (Got 52) ∷ marked 0 (Got 50) ∷
    marked 0 (Sent 56 5 (messages.Answer 50 (answers.Closed 2))) ∷ marked 5 (Got 56) ∷
    marked 5 (Told (replies.Closed 2 0)) ∷ marked 5 (Called (commands.Do 0 0)) ∷ marked 7 (Called (commands.Do 0 0)) ∷
    marked 7 (Told (replies.Response 0))
    ∷ marked 5 (Sent 57 0 (messages.Request (tx 0 1) 1 0 (wants.Read (first_read 0 0)))) ∷
    marked 7 (Called (commands.Do 0 0)) ∷ marked 7 (Told (replies.Response 0)) ∷ marked 7 (Called commands.Commit) ∷
    marked 7 (Told replies.Unknown) ∷
    marked 7 (Fell falls.Disk (Some (commit (stamp 1 2) (tx 2 2) (operation 0 0 (Some 0) ∷ operation 0 0 (Some 0) ∷
    operation 0 0 (Some 0) ∷ [])))) ∷
    marked 0 (Got 57) ∷ marked 0 (Sent 58 5 (messages.Answer 57 (answers.Closed 2))) ∷ marked 5 (Got 58) ∷
    marked 5 (Told (replies.Closed 2 0)) ∷ marked 5 (Called (commands.Do 0 0)) ∷
    marked 5 (Sent 59 0 (messages.Request (tx 0 1) 1 0 (wants.Read (first_read 0 0)))) ∷ marked 0 (Got 59) ∷
    marked 0 (Sent 60 5 (messages.Answer 59 (answers.Closed 2))) ∷ marked 5 (Got 60) ∷
    marked 5 (Told (replies.Closed 2 0)) ∷ marked 5 (Called (commands.Do 0 0)) ∷
    marked 5 (Sent 61 0 (messages.Request (tx 0 1) 1 0 (wants.Read (first_read 0 0)))) ∷ marked 0 (Got 61) ∷
    marked 0 (Sent 62 5 (messages.Answer 61 (answers.Closed 2))) ∷ marked 5 (Got 62) ∷
    marked 5 (Told (replies.Closed 2 0)) ∷ marked 5 (Called commands.Commit) ∷
    marked 5 (Wrote (commit (stamp 1 0) (tx 0 1) [])) ∷
    marked 5 (Sent 63 0 (messages.Decision (tx 0 1) (outcomes.Committed (stamp 1 0)))) ∷
    marked 5 (Told (replies.Committed (stamp 1 0))) ∷ marked 0 (Got 63) ∷ []
