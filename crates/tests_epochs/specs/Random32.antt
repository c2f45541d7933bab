-- Random: sites 3, clients 2, steps 215, messages 67, lost 5, cuts 2, commits 6, conflicts 1, short rounds 3, falls 3,
-- rises 1, unwritten records 3, closes 2, decisions 1, installs 2.
use Rattle.std.specs.Prelude.{List, [], ◌∷◌, Some}
use Rattle.qc_decl.specs.declared.declaration.Declaration.{Declaration}
use Rattle.qc_decl.specs.Vocabulary.{row}
use Rattle.qc_msg.specs.Vocabulary.{Entry, marked}
use Rattle.tests_histories.specs.Words.{tx, stamp, line, own_line, operation, read_lock, prepare, commit, declaration}
use Rattle.tests_histories.specs.Words.{kind, pair, plan}
use Rattle.qc_msg.specs.declared.step.Step.TheVariants.{Phase, Cut, Heal, Called, Got, Lost, Wrote, Sent, Told, Armed}
use Rattle.qc_msg.specs.declared.step.Step.TheVariants.{Fell, Rose}
use Rattle.qc_msg.specs.declared.message.Answer.TheVariants as answers
use Rattle.qc_msg.specs.declared.step.Command.TheVariants as commands
use Rattle.qc_msg.specs.declared.reply.Half.TheVariants as halves
use Rattle.qc_msg.specs.declared.message.Message.TheVariants as messages
use Rattle.qc_msg.specs.declared.message.Outcome.TheVariants as outcomes
use Rattle.qc_msg.specs.declared.record.Record.TheVariants as records
use Rattle.qc_msg.specs.declared.reply.Reply.TheVariants as replies
use Rattle.qc_msg.specs.declared.message.Want.TheVariants as wants
use Rattle.qc_msg.specs.declared.step.Fall.TheVariants as falls
use Rattle.qc_msg.specs.Vocabulary.{whole_grant, first_read, snapshot_with, start_with}
use Rattle.qc_outside.specs.declared.disk.ArmKind.TheVariants as arms

abbrev pub decl : Declaration
decl =
    declaration 3 2 (kind 3 2 3 0 (row 0 1 1 1 ∷ row 0 1 0 2 ∷ row 1 1 0 2 ∷ row 2 0 0 1 ∷ row 2 1 1 2 ∷ []) (pair 0 0 ∷
    pair 0 1 ∷ pair 0 2 ∷ pair 1 0 ∷ pair 1 1 ∷ pair 1 2 ∷ []) ∷ []) (0 ∷ []) (plan (0 ∷ 1 ∷ 1 ∷ []) ((2 ∷ 2 ∷ []) ∷ [])
    ((1 ∷ 1 ∷ 1 ∷ []) ∷ []) ∷ plan (2 ∷ 3 ∷ 3 ∷ []) ((6 ∷ 4 ∷ []) ∷ []) ((5 ∷ 5 ∷ 5 ∷ []) ∷ []) ∷ [])

abbrev pub history : List Entry
history =
    marked 6 (Phase 1) ∷ marked 3 (Called commands.Begin) ∷ marked 3 (Told (replies.Began (tx 0 1))) ∷
    marked 3 (Called commands.Commit) ∷ marked 3 (Wrote (commit (stamp 1 0) (tx 0 1) [])) ∷
    marked 3 (Told (replies.Committed (stamp 1 0))) ∷ marked 6 (Phase 2) ∷ marked 6 (Cut 5 1) ∷
    marked 6 (Armed 1 arms.Fail 1) ∷ marked 5 (Called (commands.Epoch 2)) ∷ marked 5 (Sent 0 1 (messages.Close 2)) ∷
    marked 5 (Sent 1 2 (messages.Close 2)) ∷ marked 5 (Lost 0) ∷ marked 2 (Got 1) ∷ marked 2 (Wrote (records.Close 2)) ∷
    marked 2 (Sent 2 5 (messages.Answer 1 (answers.Shut (snapshot_with 0 [] [])))) ∷ marked 5 (Got 2) ∷
    marked 5 (Told (replies.Quorum halves.Close 1 2)) ∷ marked 3 (Called commands.Begin) ∷
    marked 3 (Told (replies.Began (tx 0 2))) ∷ marked 6 (Phase 3) ∷ marked 6 (Heal 5 1) ∷ marked 6 (Cut 5 3) ∷
    marked 6 (Armed 2 arms.Stop 5) ∷ marked 5 (Called (commands.Epoch 2)) ∷ marked 5 (Sent 3 1 (messages.Close 2)) ∷
    marked 5 (Sent 4 2 (messages.Close 2)) ∷ marked 1 (Got 3) ∷ marked 1 (Wrote (records.Close 2)) ∷
    marked 1 (Sent 5 5 (messages.Answer 3 (answers.Shut (snapshot_with 0 [] [])))) ∷ marked 5 (Got 5) ∷ marked 2 (Got 4)
    ∷
    marked 2 (Sent 6 5 (messages.Answer 4 (answers.Shut (snapshot_with 0 [] [])))) ∷ marked 5 (Got 6) ∷
    marked 5 (Wrote (records.Decide (start_with 2 0 []))) ∷ marked 5 (Sent 7 0 (messages.Install (start_with 2 0 []))) ∷
    marked 5 (Sent 8 1 (messages.Install (start_with 2 0 [])))
    ∷ marked 5 (Sent 9 2 (messages.Install (start_with 2 0 []))) ∷ marked 0 (Got 7) ∷
    marked 0 (Wrote (records.Install (start_with 2 0 []))) ∷ marked 0 (Sent 10 5 (messages.Answer 7 answers.Installed))
    ∷
    marked 1 (Got 8) ∷ marked 5 (Got 10) ∷ marked 1 (Fell falls.Stop (Some (records.Install (start_with 2 0 [])))) ∷
    marked 5 (Lost 8) ∷ marked 2 (Got 9) ∷ marked 2 (Wrote (records.Install (start_with 2 0 []))) ∷
    marked 2 (Sent 11 5 (messages.Answer 9 answers.Installed)) ∷ marked 5 (Got 11) ∷
    marked 5 (Told (replies.Moved 6 5)) ∷ marked 6 (Phase 4) ∷ marked 6 (Heal 5 3) ∷
    marked 1 (Rose ((records.Close 2) ∷ [])) ∷ marked 1 (Wrote records.Life) ∷ marked 4 (Called commands.Abort) ∷
    marked 4 (Told replies.NoTransaction) ∷ marked 4 (Called commands.Begin) ∷
    marked 4 (Told (replies.Began (tx 1 1))) ∷ marked 4 (Called (commands.Do 0 1)) ∷
    marked 4 (Sent 12 1 (messages.Request (tx 1 1) 1 0 (wants.Read (first_read 0 1)))) ∷
    marked 4 (Sent 13 2 (messages.Request (tx 1 1) 1 0 (wants.Read (first_read 0 1)))) ∷ marked 1 (Got 12) ∷
    marked 1 (Sent 14 4 (messages.Answer 12 (answers.Closed 2))) ∷ marked 4 (Got 14) ∷
    marked 3 (Called commands.Abort) ∷ marked 3 (Told replies.Dropped) ∷ marked 3 (Called commands.Begin) ∷
    marked 3 (Told (replies.Began (tx 0 3))) ∷ marked 3 (Called (commands.Do 0 1)) ∷
    marked 3 (Sent 15 1 (messages.Request (tx 0 3) 1 0 (wants.Read (first_read 0 1)))) ∷
    marked 3 (Sent 16 2 (messages.Request (tx 0 3) 1 0 (wants.Read (first_read 0 1)))) ∷ marked 1 (Got 15) ∷
    marked 1 (Sent 17 3 (messages.Answer 15 (answers.Closed 2))) ∷ marked 2 (Got 13) ∷
    marked 2 (Sent 18 4 (messages.Answer 13 (answers.Closed 2))) ∷ marked 4 (Got 18) ∷
    marked 4 (Told (replies.Closed 2 1)) ∷ marked 4 (Called commands.Commit) ∷
    marked 4 (Wrote (commit (stamp 1 1) (tx 1 1) [])) ∷
    marked 4 (Sent 19 1 (messages.Decision (tx 1 1) (outcomes.Committed (stamp 1 1)))) ∷
    marked 4 (Sent 20 2 (messages.Decision (tx 1 1) (outcomes.Committed (stamp 1 1)))) ∷
    marked 4 (Told (replies.Committed (stamp 1 1))) ∷ marked 4 (Called commands.Begin) ∷
    marked 4 (Told (replies.Began (tx 1 2))) ∷ marked 1 (Got 19) ∷ marked 4 (Called (commands.Do 0 1)) ∷
    marked 4 (Sent 21 1 (messages.Request (tx 1 2) 2 0 (wants.Read (first_read 0 1)))) ∷
    marked 4 (Sent 22 2 (messages.Request (tx 1 2) 2 0 (wants.Read (first_read 0 1)))) ∷ marked 4 (Lost 21)
    ∷ marked 3 (Got 17) ∷
    marked 2 (Got 16) ∷ marked 2 (Sent 23 3 (messages.Answer 16 (answers.Closed 2))) ∷ marked 3 (Got 23) ∷
    marked 3 (Told (replies.Closed 2 1)) ∷ marked 2 (Got 20) ∷ marked 2 (Got 22) ∷
    marked 2 (Sent 24 4 (messages.Answer 22 (answers.Granted (whole_grant 2 1 [])))) ∷ marked 4 (Got 24) ∷
    marked 4 (Sent 25 0 (messages.Request (tx 1 2) 2 0 (wants.Read (first_read 0 1)))) ∷ marked 0 (Got 25) ∷
    marked 0 (Sent 26 4 (messages.Answer 25 (answers.Granted (whole_grant 1 0 [])))) ∷ marked 4 (Got 26) ∷
    marked 4 (Sent 27 1 (messages.Request (tx 1 2) 2 0 (wants.Append 0 [] (own_line 1 0 1 ∷ [])))) ∷
    marked 4 (Sent 28 2 (messages.Request (tx 1 2) 2 2 (wants.Append 0 [] (own_line 1 0 1 ∷ [])))) ∷ marked 1 (Got 27) ∷
    marked 1 (Sent 29 4 (messages.Answer 27 (answers.Behind 1))) ∷ marked 4 (Got 29) ∷
    marked 3 (Called commands.Commit) ∷ marked 3 (Wrote (commit (stamp 2 0) (tx 0 3) [])) ∷
    marked 3 (Sent 30 1 (messages.Decision (tx 0 3) (outcomes.Committed (stamp 2 0)))) ∷
    marked 3 (Sent 31 2 (messages.Decision (tx 0 3) (outcomes.Committed (stamp 2 0)))) ∷
    marked 3 (Told (replies.Committed (stamp 2 0))) ∷ marked 1 (Got 30) ∷ marked 2 (Got 28) ∷
    marked 2 (Sent 32 4 (messages.Answer 28 (answers.Granted (whole_grant 2 1 [])))) ∷ marked 4 (Got 32) ∷
    marked 4 (Sent 33 0 (messages.Request (tx 1 2) 2 1 (wants.Append 0 [] (own_line 1 0 1 ∷ [])))) ∷ marked 0 (Got 33) ∷
    marked 0 (Sent 34 4 (messages.Answer 33 (answers.Granted (whole_grant 1 0 [])))) ∷ marked 4 (Got 34) ∷
    marked 4 (Told (replies.Response 0)) ∷ marked 4 (Called commands.Commit) ∷
    marked 4 (Sent 35 2 (messages.Request (tx 1 2) 2 2 wants.Prepare)) ∷
    marked 4 (Sent 36 0 (messages.Request (tx 1 2) 2 1 wants.Prepare)) ∷ marked 0 (Got 36) ∷
    marked 0 (Wrote (prepare (tx 1 2) 2 (read_lock 0 1 ∷ []) (own_line 1 0 1 ∷ []) [])) ∷
    marked 0 (Sent 37 4 (messages.Answer 36 (answers.Yes 0))) ∷ marked 4 (Got 37) ∷ marked 3 (Called commands.Begin) ∷
    marked 3 (Told (replies.Began (tx 0 4))) ∷ marked 3 (Called (commands.Do 0 1)) ∷
    marked 3 (Sent 38 0 (messages.Request (tx 0 4) 2 0 (wants.Read (first_read 0 1)))) ∷
    marked 3 (Sent 39 1 (messages.Request (tx 0 4) 2 0 (wants.Read (first_read 0 1)))) ∷ marked 1 (Got 39) ∷
    marked 1 (Sent 40 3 (messages.Answer 39 (answers.Behind 1))) ∷ marked 0 (Got 38) ∷
    marked 0 (Sent 41 3 (messages.Answer 38 (answers.Clash (tx 1 2) 1 1))) ∷
    marked 0 (Sent 42 4 (messages.Inquiry (tx 1 2))) ∷ marked 4 (Got 42) ∷
    marked 4 (Sent 43 0 (messages.Decision (tx 1 2) outcomes.Active)) ∷ marked 0 (Got 43) ∷ marked 3 (Got 40) ∷
    marked 3 (Got 41) ∷ marked 3 (Told (replies.Conflict (tx 1 2) 0)) ∷ marked 3 (Called commands.Commit) ∷
    marked 2 (Got 35) ∷ marked 2 (Wrote (prepare (tx 1 2) 2 (read_lock 0 1 ∷ []) (own_line 1 0 1 ∷ []) [])) ∷
    marked 2 (Sent 44 4 (messages.Answer 35 (answers.Yes 1))) ∷ marked 3 (Wrote (commit (stamp 3 0) (tx 0 4) [])) ∷
    marked 3 (Sent 45 0 (messages.Decision (tx 0 4) (outcomes.Committed (stamp 3 0)))) ∷
    marked 3 (Sent 46 1 (messages.Decision (tx 0 4) (outcomes.Committed (stamp 3 0)))) ∷
    marked 3 (Told (replies.Committed (stamp 3 0))) ∷ marked 4 (Got 44) ∷ marked 0 (Got 45) ∷
    marked 4 (Wrote (commit (stamp 2 1) (tx 1 2) (operation 0 1 (Some 0) ∷ []))) ∷
    marked 4 (Sent 47 0 (messages.Decision (tx 1 2) (outcomes.Committed (stamp 2 1)))) ∷
    marked 4 (Sent 48 1 (messages.Decision (tx 1 2) (outcomes.Committed (stamp 2 1)))) ∷
    marked 4 (Sent 49 2 (messages.Decision (tx 1 2) (outcomes.Committed (stamp 2 1)))) ∷
    marked 4 (Told (replies.Committed (stamp 2 1))) ∷ marked 4 (Called commands.Begin) ∷ marked 0 (Got 47) ∷
    marked 0 (Fell falls.Disk (Some (records.Done (tx 1 2) 2))) ∷ marked 4 (Told (replies.Began (tx 1 3))) ∷
    marked 4 (Called (commands.Do 0 1))
    ∷ marked 4 (Sent 50 1 (messages.Request (tx 1 3) 2 0 (wants.Read (first_read 0 1)))) ∷
    marked 4 (Sent 51 2 (messages.Request (tx 1 3) 2 0 (wants.Read (first_read 0 1)))) ∷ marked 1 (Got 46)
    ∷ marked 1 (Got 48) ∷
    marked 1 (Got 50) ∷ marked 1 (Sent 52 4 (messages.Answer 50 (answers.Behind 1))) ∷ marked 4 (Got 52) ∷
    marked 2 (Got 49) ∷ marked 2 (Wrote (records.Done (tx 1 2) 2)) ∷ marked 3 (Called commands.Begin) ∷
    marked 3 (Told (replies.Began (tx 0 5))) ∷ marked 3 (Called (commands.Do 0 1)) ∷
    marked 3 (Sent 53 0 (messages.Request (tx 0 5) 2 0 (wants.Read (first_read 0 1)))) ∷
    marked 3 (Sent 54 1 (messages.Request (tx 0 5) 2 0 (wants.Read (first_read 0 1)))) ∷ marked 1 (Got 54) ∷
    marked 1 (Sent 55 3 (messages.Answer 54 (answers.Behind 1))) ∷ marked 2 (Got 51) ∷
    marked 2 (Sent 56 4 (messages.Answer 51 (answers.Granted (whole_grant 2 2 (line 2 1 2 1 0 1 ∷ [])))))
    ∷ marked 4 (Got 56) ∷
    marked 4 (Sent 57 0 (messages.Request (tx 1 3) 2 0 (wants.Read (first_read 0 1)))) ∷ marked 4 (Lost 57) ∷
    marked 4 (Told (replies.Quorum halves.Read 3 4)) ∷ marked 4 (Called commands.Commit) ∷
    marked 4 (Sent 58 2 (messages.Request (tx 1 3) 2 2 wants.Prepare)) ∷ marked 2 (Got 58) ∷
    marked 2 (Wrote (prepare (tx 1 3) 2 (read_lock 0 1 ∷ []) [] [])) ∷
    marked 2 (Sent 59 4 (messages.Answer 58 (answers.Yes 2))) ∷ marked 4 (Got 59) ∷
    marked 4 (Wrote (commit (stamp 3 1) (tx 1 3) [])) ∷
    marked 4 (Sent 60 0 (messages.Decision (tx 1 3) (outcomes.Committed (stamp 3 1)))) ∷
    marked 4 (Sent 61 1 (messages.Decision (tx 1 3) (outcomes.Committed (stamp 3 1)))) ∷
    marked 4 (Sent 62 2 (messages.Decision (tx 1 3) (outcomes.Committed (stamp 3 1)))) ∷
    marked 4 (Told (replies.Committed (stamp 3 1))) ∷ marked 1 (Got 61) ∷ marked 3 (Got 55) ∷ marked 2 (Got 62) ∷
    marked 2 (Wrote (records.Done (tx 1 3) 3)) ∷ marked 3 (Lost 53) ∷
    marked 3 (Sent 63 2 (messages.Request (tx 0 5) 2 0 (wants.Read (first_read 0 1)))) ∷ marked 2 (Got 63) ∷
    marked 2 (Sent 64 3 (messages.Answer 63 (answers.Granted (whole_grant 2 3 (line 2 1 2 1 0 1 ∷ [])))))
    ∷ marked 3 (Got 64) ∷
    marked 3 (Told (replies.Quorum halves.Read 3 4)) ∷ marked 3 (Called commands.Commit) ∷
    marked 3 (Sent 65 2 (messages.Request (tx 0 5) 2 2 wants.Prepare)) ∷ marked 2 (Got 65) ∷
    marked 2 (Wrote (prepare (tx 0 5) 2 (read_lock 0 1 ∷ []) [] [])) ∷
    marked 2 (Sent 66 3 (messages.Answer 65 (answers.Yes 3))) ∷ marked 3 (Got 66) ∷ marked 3 (Told replies.Unknown) ∷
    marked 3 (Fell falls.Disk (Some (commit (stamp 4 0) (tx 0 5) []))) ∷ []
