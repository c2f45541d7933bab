-- Random: sites 5, clients 2, steps 203, messages 66, lost 5, cuts 1, commits 4, absent 1, falls 4, rises 2, unwritten
-- records 1, closes 2, decisions 1, installs 5.
use Rattle.std.specs.Prelude.{List, [], ◌∷◌, Some, None}
use Rattle.qc_decl.specs.declared.declaration.Declaration.{Declaration}
use Rattle.qc_decl.specs.Vocabulary.{row}
use Rattle.qc_msg.specs.Vocabulary.{Entry, marked}
use Rattle.tests_histories.specs.Words.{tx, stamp, operation, read_lock, prepare, commit, declaration, kind, pair, plan}
use Rattle.qc_msg.specs.declared.step.Step.TheVariants.{Phase, Cut, Heal, Called, Got, Lost, Wrote, Sent, Told, Armed}
use Rattle.qc_msg.specs.declared.step.Step.TheVariants.{Fell, Rose}
use Rattle.qc_msg.specs.declared.message.Answer.TheVariants as answers
use Rattle.qc_msg.specs.declared.step.Command.TheVariants as commands
use Rattle.qc_msg.specs.declared.message.Message.TheVariants as messages
use Rattle.qc_msg.specs.declared.message.Outcome.TheVariants as outcomes
use Rattle.qc_msg.specs.declared.record.Record.TheVariants as records
use Rattle.qc_msg.specs.declared.reply.Reply.TheVariants as replies
use Rattle.qc_msg.specs.declared.message.Want.TheVariants as wants
use Rattle.qc_msg.specs.declared.step.Fall.TheVariants as falls
use Rattle.qc_msg.specs.Vocabulary.{whole_grant, first_read, snapshot_with, start_with}
use Rattle.qc_outside.specs.declared.disk.ArmKind.TheVariants as arms

abbrev pub decl : Declaration
decl =
    declaration 5 2 (kind 4 1 3 0 (row 0 0 2 0 ∷ row 0 0 0 0 ∷ row 1 0 0 3 ∷ row 2 0 1 1 ∷ []) [] ∷ kind 2 2 2 0 (row 0
    0 0 1 ∷ row 1 1 1 0 ∷ []) (pair 0 0 ∷ pair 0 1 ∷ pair 1 0 ∷ pair 1 1 ∷ []) ∷ []) (1 ∷ []) (plan (2 ∷ 1 ∷ 0 ∷ 1 ∷ 1 ∷
    []) ((3 ∷ 3 ∷ []) ∷ []) ((3 ∷ 3 ∷ []) ∷ []) ∷ plan (1 ∷ 1 ∷ 1 ∷ 2 ∷ 1 ∷ []) ((4 ∷ 4 ∷ []) ∷ []) ((3 ∷ 3 ∷ []) ∷ [])
    ∷ plan (1 ∷ 1 ∷ 1 ∷ 2 ∷ 3 ∷ []) ((5 ∷ 6 ∷ []) ∷ []) ((4 ∷ 4 ∷ []) ∷ []) ∷ [])

abbrev pub history : List Entry
history =
    marked 8 (Phase 1) ∷ marked 8 (Cut 3 1) ∷ marked 8 (Armed 3 arms.Fail 3) ∷ marked 7 (Called (commands.Epoch 2)) ∷
    marked 7 (Sent 0 0 (messages.Close 2)) ∷ marked 7 (Sent 1 1 (messages.Close 2)) ∷ marked 5 (Called commands.Begin) ∷
    marked 1 (Got 1) ∷ marked 0 (Got 0) ∷ marked 5 (Told (replies.Began (tx 0 1))) ∷ marked 5 (Called commands.Commit) ∷
    marked 5 (Wrote (commit (stamp 1 0) (tx 0 1) [])) ∷ marked 5 (Told (replies.Committed (stamp 1 0))) ∷
    marked 0 (Wrote (records.Close 2)) ∷ marked 0 (Sent 2 7 (messages.Answer 0 (answers.Shut (snapshot_with 0 [] []))))
    ∷
    marked 7 (Got 2) ∷ marked 6 (Called commands.Begin) ∷ marked 1 (Wrote (records.Close 2)) ∷
    marked 1 (Sent 3 7 (messages.Answer 1 (answers.Shut (snapshot_with 0 [] []))))
    ∷ marked 6 (Told (replies.Began (tx 1 1))) ∷
    marked 6 (Called (commands.Do 0 1)) ∷ marked 7 (Got 3) ∷ marked 7 (Wrote (records.Decide (start_with 2 0 []))) ∷
    marked 7 (Sent 4 0 (messages.Install (start_with 2 0 [])))
    ∷ marked 7 (Sent 5 1 (messages.Install (start_with 2 0 []))) ∷
    marked 7 (Sent 6 2 (messages.Install (start_with 2 0 [])))
    ∷ marked 7 (Sent 7 3 (messages.Install (start_with 2 0 []))) ∷
    marked 7 (Sent 8 4 (messages.Install (start_with 2 0 []))) ∷ marked 2 (Got 6) ∷ marked 0 (Got 4) ∷ marked 1 (Got 5)
    ∷
    marked 2 (Wrote (records.Install (start_with 2 0 []))) ∷ marked 2 (Sent 9 7 (messages.Answer 6 answers.Installed)) ∷
    marked 7 (Got 9) ∷ marked 4 (Got 8) ∷ marked 0 (Wrote (records.Install (start_with 2 0 []))) ∷
    marked 0 (Sent 10 7 (messages.Answer 4 answers.Installed)) ∷ marked 4 (Wrote (records.Install (start_with 2 0 [])))
    ∷
    marked 4 (Sent 11 7 (messages.Answer 8 answers.Installed)) ∷
    marked 6 (Sent 12 1 (messages.Request (tx 1 1) 1 0 (wants.Read (first_read 0 1)))) ∷
    marked 6 (Sent 13 3 (messages.Request (tx 1 1) 1 0 (wants.Read (first_read 0 1)))) ∷
    marked 6 (Sent 14 4 (messages.Request (tx 1 1) 1 0 (wants.Read (first_read 0 1)))) ∷ marked 4 (Got 14) ∷
    marked 4 (Sent 15 6 (messages.Answer 14 (answers.Closed 2))) ∷ marked 6 (Got 15) ∷ marked 3 (Got 7) ∷
    marked 3 (Wrote (records.Install (start_with 2 0 []))) ∷ marked 3 (Sent 16 7 (messages.Answer 7 answers.Installed))
    ∷
    marked 7 (Got 10) ∷ marked 3 (Got 13) ∷ marked 3 (Sent 17 6 (messages.Answer 13 (answers.Closed 2))) ∷
    marked 6 (Got 17) ∷ marked 7 (Got 11) ∷ marked 7 (Got 16) ∷
    marked 1 (Fell falls.Stop (Some (records.Install (start_with 2 0 [])))) ∷ marked 7 (Lost 5) ∷
    marked 7 (Told (replies.Moved 3 29)) ∷ marked 7 (Called (commands.Epoch 2)) ∷ marked 6 (Lost 12) ∷
    marked 7 (Sent 18 0 (messages.Install (start_with 2 0 [])))
    ∷ marked 7 (Sent 19 1 (messages.Install (start_with 2 0 []))) ∷
    marked 7 (Sent 20 2 (messages.Install (start_with 2 0 [])))
    ∷ marked 7 (Sent 21 3 (messages.Install (start_with 2 0 []))) ∷
    marked 7 (Sent 22 4 (messages.Install (start_with 2 0 []))) ∷ marked 4 (Got 22) ∷
    marked 4 (Sent 23 7 (messages.Answer 22 answers.Installed)) ∷ marked 2 (Got 20) ∷
    marked 2 (Sent 24 7 (messages.Answer 20 answers.Installed)) ∷ marked 3 (Got 21) ∷ marked 0 (Got 18) ∷
    marked 7 (Got 23) ∷ marked 7 (Got 24) ∷ marked 7 (Lost 19) ∷ marked 6 (Told (replies.Closed 2 3)) ∷
    marked 3 (Sent 25 7 (messages.Answer 21 answers.Installed)) ∷ marked 7 (Got 25) ∷
    marked 0 (Sent 26 7 (messages.Answer 18 answers.Installed)) ∷ marked 7 (Got 26) ∷
    marked 7 (Told (replies.Moved 0 29)) ∷ marked 8 (Phase 2) ∷ marked 8 (Heal 3 1) ∷
    marked 0 (Fell falls.Script None) ∷ marked 0 (Fell falls.Stop None) ∷ marked 8 (Armed 1 arms.Stop 12) ∷
    marked 8 (Armed 2 arms.Fail 4) ∷ marked 5 (Called commands.Begin) ∷ marked 6 (Called (commands.Do 0 0)) ∷
    marked 6 (Sent 27 1 (messages.Request (tx 1 1) 1 0 (wants.Read (first_read 0 0)))) ∷
    marked 6 (Sent 28 3 (messages.Request (tx 1 1) 1 0 (wants.Read (first_read 0 0)))) ∷
    marked 6 (Sent 29 4 (messages.Request (tx 1 1) 1 0 (wants.Read (first_read 0 0)))) ∷ marked 3 (Got 28)
    ∷ marked 6 (Lost 27) ∷
    marked 5 (Told (replies.Began (tx 0 2))) ∷ marked 4 (Got 8) ∷
    marked 4 (Sent 30 7 (messages.Answer 8 answers.Installed)) ∷ marked 5 (Called commands.Commit) ∷ marked 7 (Got 30) ∷
    marked 5 (Wrote (commit (stamp 2 0) (tx 0 2) [])) ∷ marked 5 (Told (replies.Committed (stamp 2 0))) ∷
    marked 4 (Got 14) ∷ marked 4 (Sent 31 6 (messages.Answer 14 (answers.Closed 2))) ∷ marked 4 (Got 22) ∷
    marked 4 (Sent 32 7 (messages.Answer 22 answers.Installed)) ∷ marked 7 (Got 32) ∷ marked 4 (Got 29) ∷
    marked 4 (Sent 33 6 (messages.Answer 29 (answers.Closed 2))) ∷ marked 6 (Got 31) ∷ marked 6 (Got 33) ∷
    marked 3 (Sent 34 6 (messages.Answer 28 (answers.Closed 2))) ∷ marked 6 (Got 34) ∷
    marked 6 (Told (replies.Closed 2 3)) ∷ marked 6 (Called commands.Commit) ∷
    marked 6 (Wrote (commit (stamp 1 1) (tx 1 1) [])) ∷
    marked 6 (Sent 35 1 (messages.Decision (tx 1 1) (outcomes.Committed (stamp 1 1)))) ∷
    marked 6 (Sent 36 3 (messages.Decision (tx 1 1) (outcomes.Committed (stamp 1 1)))) ∷
    marked 6 (Sent 37 4 (messages.Decision (tx 1 1) (outcomes.Committed (stamp 1 1)))) ∷
    marked 6 (Told (replies.Committed (stamp 1 1))) ∷ marked 3 (Got 36) ∷ marked 4 (Got 37) ∷ marked 8 (Phase 3) ∷
    marked 1 (Rose ((records.Close 2) ∷ [])) ∷ marked 1 (Wrote records.Life) ∷ marked 7 (Fell falls.Script None) ∷
    marked 7 (Rose ((records.Decide (start_with 2 0 [])) ∷ [])) ∷ marked 7 (Wrote records.Life)
    ∷ marked 5 (Called commands.Begin) ∷
    marked 6 (Called commands.Begin) ∷ marked 7 (Called (commands.Epoch 2)) ∷ marked 6 (Told (replies.Began (tx 1 2))) ∷
    marked 4 (Got 29) ∷ marked 5 (Told (replies.Began (tx 0 3))) ∷ marked 6 (Called (commands.Do 0 1)) ∷
    marked 6 (Sent 38 1 (messages.Request (tx 1 2) 2 0 (wants.Read (first_read 0 1)))) ∷
    marked 6 (Sent 39 2 (messages.Request (tx 1 2) 2 0 (wants.Read (first_read 0 1)))) ∷
    marked 6 (Sent 40 3 (messages.Request (tx 1 2) 2 0 (wants.Read (first_read 0 1)))) ∷ marked 2 (Got 39) ∷
    marked 2 (Sent 41 6 (messages.Answer 39 (answers.Granted (whole_grant 1 0 [])))) ∷ marked 6 (Got 41) ∷
    marked 4 (Sent 42 6 (messages.Answer 29 (answers.Closed 2))) ∷ marked 6 (Got 42) ∷ marked 1 (Got 38) ∷
    marked 1 (Sent 43 6 (messages.Answer 38 (answers.Behind 1))) ∷ marked 6 (Got 43) ∷ marked 4 (Got 37) ∷
    marked 3 (Got 40) ∷ marked 3 (Sent 44 6 (messages.Answer 40 (answers.Granted (whole_grant 1 1 []))))
    ∷ marked 6 (Got 44) ∷
    marked 6 (Sent 45 4 (messages.Request (tx 1 2) 2 0 (wants.Read (first_read 0 1)))) ∷ marked 4 (Got 45)
    ∷ marked 6 (Got 44) ∷
    marked 4 (Sent 46 6 (messages.Answer 45 (answers.Granted (whole_grant 1 1 [])))) ∷ marked 6 (Got 46) ∷
    marked 6 (Told replies.Absent) ∷ marked 6 (Called commands.Commit) ∷
    marked 6 (Sent 47 2 (messages.Request (tx 1 2) 2 1 wants.Prepare)) ∷
    marked 6 (Sent 48 3 (messages.Request (tx 1 2) 2 1 wants.Prepare)) ∷
    marked 6 (Sent 49 4 (messages.Request (tx 1 2) 2 1 wants.Prepare)) ∷ marked 2 (Got 47) ∷
    marked 2 (Wrote (prepare (tx 1 2) 2 (read_lock 0 1 ∷ []) [] [])) ∷
    marked 2 (Sent 50 6 (messages.Answer 47 (answers.Yes 0))) ∷ marked 6 (Got 50) ∷ marked 3 (Got 48) ∷
    marked 3 (Wrote (prepare (tx 1 2) 2 (read_lock 0 1 ∷ []) [] [])) ∷
    marked 3 (Sent 51 6 (messages.Answer 48 (answers.Yes 1))) ∷ marked 6 (Got 51) ∷
    marked 7 (Sent 52 0 (messages.Install (start_with 2 0 [])))
    ∷ marked 7 (Sent 53 1 (messages.Install (start_with 2 0 []))) ∷
    marked 7 (Sent 54 2 (messages.Install (start_with 2 0 [])))
    ∷ marked 7 (Sent 55 3 (messages.Install (start_with 2 0 []))) ∷
    marked 7 (Sent 56 4 (messages.Install (start_with 2 0 []))) ∷ marked 2 (Got 54) ∷ marked 7 (Lost 52) ∷
    marked 2 (Sent 57 7 (messages.Answer 54 answers.Installed)) ∷ marked 4 (Got 49) ∷
    marked 4 (Wrote (prepare (tx 1 2) 2 (read_lock 0 1 ∷ []) [] [])) ∷
    marked 4 (Sent 58 6 (messages.Answer 49 (answers.Yes 1))) ∷ marked 7 (Got 57) ∷ marked 6 (Got 58) ∷
    marked 3 (Got 55) ∷ marked 4 (Got 56) ∷ marked 6 (Wrote (commit (stamp 2 1) (tx 1 2) (operation 0 1 None ∷ []))) ∷
    marked 6 (Sent 59 1 (messages.Decision (tx 1 2) (outcomes.Committed (stamp 2 1)))) ∷
    marked 6 (Sent 60 2 (messages.Decision (tx 1 2) (outcomes.Committed (stamp 2 1)))) ∷
    marked 6 (Sent 61 3 (messages.Decision (tx 1 2) (outcomes.Committed (stamp 2 1)))) ∷
    marked 6 (Sent 62 4 (messages.Decision (tx 1 2) (outcomes.Committed (stamp 2 1)))) ∷
    marked 6 (Told (replies.Committed (stamp 2 1))) ∷ marked 3 (Sent 63 7 (messages.Answer 55 answers.Installed)) ∷
    marked 4 (Sent 64 7 (messages.Answer 56 answers.Installed)) ∷ marked 1 (Got 53) ∷
    marked 1 (Wrote (records.Install (start_with 2 0 []))) ∷ marked 1 (Sent 65 7 (messages.Answer 53 answers.Installed))
    ∷
    marked 2 (Got 60) ∷ marked 2 (Wrote (records.Done (tx 1 2) 2)) ∷ marked 1 (Got 59) ∷ marked 7 (Got 63) ∷
    marked 3 (Got 61) ∷ marked 3 (Wrote (records.Done (tx 1 2) 2)) ∷ marked 7 (Got 63) ∷ marked 7 (Got 64) ∷
    marked 7 (Got 65) ∷ marked 4 (Got 62) ∷ marked 4 (Wrote (records.Done (tx 1 2) 2)) ∷
    marked 7 (Told (replies.Moved 0 30)) ∷ []
