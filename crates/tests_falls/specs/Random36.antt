-- Random: sites 2, clients 2, steps 185, messages 59, lost 5, commits 5, aborts 1, conflicts 1, short rounds 3, falls
-- 2, rises 2, unwritten records 1.
use Rattle.std.specs.Prelude.{List, [], ◌∷◌, Some, None, false}
use Rattle.qc_decl.specs.declared.declaration.Declaration.{Declaration}
use Rattle.qc_decl.specs.Vocabulary.{row}
use Rattle.qc_msg.specs.Vocabulary.{Entry, marked}
use Rattle.tests_histories.specs.Words.{tx, stamp, line, own_line, operation, read_lock, prepare, commit, declaration}
use Rattle.tests_histories.specs.Words.{kind, pair, plan}
use Rattle.qc_msg.specs.declared.step.Step.TheVariants.{Phase, Called, Got, Lost, Wrote, Sent, Told, Armed, Fell, Rose}
use Rattle.qc_msg.specs.declared.turn.Appended.TheVariants.{Done, Failed}
use Rattle.tests_falls.specs.Words.{tx_in}
use Rattle.tests_falls.specs.Perform.{Move, Begins, Acts, Takes, Posts, Rises}
use Rattle.qc_msg.specs.declared.message.Answer.TheVariants as answers
use Rattle.qc_msg.specs.declared.reply.AbortCause.TheVariants as causes
use Rattle.qc_msg.specs.declared.step.Command.TheVariants as commands
use Rattle.qc_msg.specs.declared.reply.Half.TheVariants as halves
use Rattle.qc_msg.specs.declared.message.Message.TheVariants as messages
use Rattle.qc_msg.specs.declared.message.Outcome.TheVariants as outcomes
use Rattle.qc_msg.specs.declared.record.Record.TheVariants as records
use Rattle.qc_msg.specs.declared.reply.Reply.TheVariants as replies
use Rattle.qc_msg.specs.declared.message.Want.TheVariants as wants
use Rattle.qc_msg.specs.declared.step.Fall.TheVariants as falls
use Rattle.qc_msg.specs.Vocabulary.{whole_grant, first_read}
use Rattle.qc_outside.specs.declared.disk.ArmKind.TheVariants as arms

abbrev pub decl : Declaration
decl =
    declaration 2 2 (kind 2 2 3 0 (row 0 0 0 1 ∷ row 1 0 1 1 ∷ row 0 1 2 0 ∷ row 1 1 2 0 ∷ []) (pair 0 0 ∷ pair 0 2 ∷
    []) ∷ []) (0 ∷ 0 ∷ []) (plan (1 ∷ 1 ∷ []) ((2 ∷ 0 ∷ []) ∷ (2 ∷ 2 ∷ []) ∷ []) ((1 ∷ 0 ∷ 1 ∷ []) ∷ (1 ∷ 0 ∷ 1 ∷ []) ∷
    []) ∷ plan (1 ∷ 1 ∷ []) ((2 ∷ 2 ∷ []) ∷ (1 ∷ 0 ∷ []) ∷ []) ((1 ∷ 0 ∷ 1 ∷ []) ∷ (2 ∷ 0 ∷ 2 ∷ []) ∷ []) ∷ plan (2 ∷ 1
    ∷ []) ((2 ∷ 3 ∷ []) ∷ (2 ∷ 0 ∷ []) ∷ []) ((2 ∷ 0 ∷ 2 ∷ []) ∷ (2 ∷ 0 ∷ 2 ∷ []) ∷ []) ∷ [])

abbrev pub moves : List Move
moves =
    Begins ∷ Takes 2 ∷ Posts 2 Done ∷ Takes 2 ∷ Posts 2 Done ∷ Takes 1 ∷ Takes 0 ∷ Posts 1 Done ∷ Takes 2 ∷
    Posts 2 Done ∷ Posts 0 Done ∷ Takes 2 ∷ Posts 2 Done ∷ Takes 0 ∷ Posts 0 Done ∷ Takes 2 ∷ Posts 2 Done ∷ Takes 2 ∷
    Posts 2 Done ∷ Takes 0 ∷ Takes 1 ∷ Posts 1 Done ∷ Takes 2 ∷ Posts 2 Done ∷ Posts 0 Done ∷ Takes 2 ∷ Posts 2 Done ∷
    Takes 2 ∷ Posts 2 Done ∷ Takes 0 ∷ Posts 0 Done ∷ Takes 2 ∷ Posts 2 Done ∷ Takes 1 ∷ Posts 1 Done ∷ Takes 2 ∷
    Posts 2 Done ∷ Takes 0 ∷ Takes 1 ∷ Posts 1 Failed ∷ Posts 0 Done ∷ Begins ∷ Takes 3 ∷ Takes 2 ∷ Posts 2 Done ∷
    Takes 2 ∷ Posts 2 Done ∷ Posts 3 Done ∷ Takes 3 ∷ Posts 3 Done ∷ Takes 0 ∷ Takes 3 ∷ Posts 3 Done ∷ Posts 0 Done ∷
    Takes 3 ∷ Posts 3 Done ∷ Takes 3 ∷ Posts 3 Done ∷ Takes 3 ∷ Posts 3 Done ∷ Takes 0 ∷ Posts 0 Done ∷ Takes 3 ∷
    Posts 3 Done ∷ Takes 3 ∷ Posts 3 Done ∷ Takes 0 ∷ Posts 0 Done ∷ Takes 3 ∷ Posts 3 Done ∷ Takes 0 ∷ Posts 0 Done ∷
    Begins ∷ Acts ∷ Rises false Done ∷ Takes 2 ∷ Takes 3 ∷ Posts 2 Done ∷ Takes 2 ∷ Posts 2 Done ∷ Takes 0 ∷ Takes 2 ∷
    Posts 2 Done ∷ Posts 3 Done ∷ Takes 3 ∷ Posts 0 Done ∷ Posts 3 Done ∷ Takes 3 ∷ Posts 3 Done ∷ Takes 0 ∷
    Posts 0 Done ∷ Takes 2 ∷ Posts 2 Done ∷ Takes 2 ∷ Posts 2 Done ∷ Takes 0 ∷ Takes 3 ∷ Posts 3 Done ∷ Takes 3 ∷
    Posts 0 Done ∷ Takes 2 ∷ Posts 3 Done ∷ Takes 3 ∷ Posts 3 Done ∷ Takes 0 ∷ Posts 2 Done ∷ Posts 0 Done ∷ Takes 2 ∷
    Takes 3 ∷ Takes 0 ∷ Posts 3 Done ∷ Takes 3 ∷ Posts 0 Done ∷ Posts 3 Done ∷ Takes 0 ∷ Posts 0 Done ∷ Posts 2 Done ∷
    Takes 0 ∷ Posts 0 Done ∷ Begins ∷ Rises false Done ∷ Acts ∷ Takes 2 ∷ Takes 3 ∷ Posts 2 Done ∷ Takes 1 ∷
    Posts 3 Done ∷ Takes 3 ∷ Posts 1 Done ∷ Posts 3 Done ∷ Takes 1 ∷ Posts 1 Done ∷ Takes 3 ∷ Posts 3 Done ∷ Takes 3 ∷
    Posts 3 Done ∷ Takes 1 ∷ Takes 0 ∷ Posts 0 Done ∷ Takes 3 ∷ Posts 3 Done ∷ Posts 1 Done ∷ Takes 3 ∷ Posts 3 Done ∷
    Takes 1 ∷ Posts 1 Done ∷ Takes 3 ∷ Posts 3 Done ∷ Takes 3 ∷ Posts 3 Done ∷ Takes 0 ∷ Takes 1 ∷ Posts 1 Done ∷
    Takes 3 ∷ Posts 3 Done ∷ Posts 0 Done ∷ Takes 3 ∷ Posts 3 Done ∷ Takes 0 ∷ Posts 0 Done ∷ Takes 1 ∷ Posts 1 Done ∷
    []

abbrev pub history : List Entry
history =
    marked 5 (Phase 1) ∷ marked 2 (Called commands.Begin) ∷ marked 2 (Told (replies.Began (tx 0 1))) ∷
    marked 2 (Called (commands.Do 1 0)) ∷
    marked 2 (Sent 0 0 (messages.Request (tx 0 1) 1 0 (wants.Read (first_read 1 0))))
    ∷
    marked 2 (Sent 1 1 (messages.Request (tx 0 1) 1 0 (wants.Read (first_read 1 0)))) ∷ marked 1 (Got 1) ∷
    marked 0 (Got 0)
    ∷
    marked 1 (Sent 2 2 (messages.Answer 1 (answers.Granted (whole_grant 1 0 [])))) ∷ marked 2 (Got 2) ∷
    marked 0 (Sent 3 2 (messages.Answer 0 (answers.Granted (whole_grant 1 0 [])))) ∷ marked 2 (Got 3) ∷
    marked 2 (Sent 4 0 (messages.Request (tx 0 1) 1 1 (wants.Append 1 [] (own_line 1 1 0 ∷ [])))) ∷ marked 0 (Got 4) ∷
    marked 0 (Sent 5 2 (messages.Answer 4 (answers.Granted (whole_grant 1 0 [])))) ∷ marked 2 (Got 5) ∷
    marked 2 (Told (replies.Response 0)) ∷ marked 2 (Called (commands.Do 1 0)) ∷
    marked 2 (Sent 6 0 (messages.Request (tx 0 1) 1 1 (wants.Read (first_read 1 0)))) ∷
    marked 2 (Sent 7 1 (messages.Request (tx 0 1) 1 1 (wants.Read (first_read 1 0)))) ∷ marked 0 (Got 6) ∷
    marked 1 (Got 7)
    ∷
    marked 1 (Sent 8 2 (messages.Answer 7 (answers.Granted (whole_grant 1 0 [])))) ∷ marked 2 (Got 8) ∷
    marked 0 (Sent 9 2 (messages.Answer 6 (answers.Granted (whole_grant 1 0 [])))) ∷ marked 2 (Got 9) ∷
    marked 2 (Told (replies.Response 1)) ∷ marked 2 (Called commands.Commit) ∷
    marked 2 (Sent 10 0 (messages.Request (tx 0 1) 1 1 wants.Prepare)) ∷
    marked 2 (Sent 11 1 (messages.Request (tx 0 1) 1 1 wants.Prepare)) ∷ marked 0 (Got 10) ∷
    marked 0 (Wrote (prepare (tx 0 1) 1 (read_lock 1 0 ∷ []) (own_line 1 1 0 ∷ []) [])) ∷
    marked 0 (Sent 12 2 (messages.Answer 10 (answers.Yes 0))) ∷ marked 2 (Got 12) ∷ marked 1 (Got 11) ∷
    marked 1 (Wrote (prepare (tx 0 1) 1 (read_lock 1 0 ∷ []) [] [])) ∷
    marked 1 (Sent 13 2 (messages.Answer 11 (answers.Yes 0))) ∷ marked 2 (Got 13) ∷
    marked 2 (Wrote (commit (stamp 1 0) (tx 0 1) (operation 1 0 (Some 0) ∷ operation 1 0 (Some 1) ∷ []))) ∷
    marked 2 (Sent 14 0 (messages.Decision (tx 0 1) (outcomes.Committed (stamp 1 0)))) ∷
    marked 2 (Sent 15 1 (messages.Decision (tx 0 1) (outcomes.Committed (stamp 1 0)))) ∷
    marked 2 (Told (replies.Committed (stamp 1 0))) ∷ marked 0 (Got 14) ∷ marked 1 (Got 15) ∷
    marked 1 (Fell falls.Disk (Some (records.Done (tx 0 1) 1))) ∷ marked 0 (Wrote (records.Done (tx 0 1) 1)) ∷
    marked 5 (Phase 2) ∷ marked 3 (Called commands.Begin) ∷ marked 2 (Called commands.Begin) ∷
    marked 2 (Told (replies.Began (tx 0 2))) ∷ marked 2 (Called commands.Commit) ∷
    marked 2 (Wrote (commit (stamp 2 0) (tx 0 2) [])) ∷ marked 2 (Told (replies.Committed (stamp 2 0))) ∷
    marked 3 (Told (replies.Began (tx 1 1))) ∷ marked 3 (Called (commands.Do 1 0)) ∷
    marked 3 (Sent 16 1 (messages.Request (tx 1 1) 1 0 (wants.Read (first_read 1 0)))) ∷
    marked 3 (Sent 17 0 (messages.Request (tx 1 1) 1 0 (wants.Read (first_read 1 0)))) ∷ marked 0 (Got 17)
    ∷ marked 3 (Lost 16) ∷
    marked 0 (Sent 18 3 (messages.Answer 17 (answers.Granted (whole_grant 1 1 (line 1 0 1 1 1 0 ∷ [])))))
    ∷ marked 3 (Got 18) ∷
    marked 3 (Told (replies.Quorum halves.Read 1 2)) ∷ marked 3 (Called (commands.Do 0 1)) ∷
    marked 3 (Sent 19 1 (messages.Request (tx 1 1) 1 0 (wants.Append 0 [] (own_line 1 0 2 ∷ [])))) ∷
    marked 3 (Lost 19) ∷
    marked 3 (Sent 20 0 (messages.Request (tx 1 1) 1 1 (wants.Append 0 [] (own_line 1 0 2 ∷ [])))) ∷ marked 0 (Got 20) ∷
    marked 0 (Sent 21 3 (messages.Answer 20 (answers.Granted (whole_grant 1 1 [])))) ∷ marked 3 (Got 21) ∷
    marked 3 (Told (replies.Response 2)) ∷ marked 3 (Called commands.Commit) ∷
    marked 3 (Sent 22 0 (messages.Request (tx 1 1) 1 1 wants.Prepare)) ∷ marked 0 (Got 22) ∷
    marked 0 (Wrote (prepare (tx 1 1) 1 (read_lock 1 0 ∷ []) (own_line 1 0 2 ∷ []) [])) ∷
    marked 0 (Sent 23 3 (messages.Answer 22 (answers.Yes 1))) ∷ marked 3 (Got 23) ∷
    marked 3 (Wrote (commit (stamp 2 1) (tx 1 1) (operation 0 1 (Some 2) ∷ []))) ∷
    marked 3 (Sent 24 0 (messages.Decision (tx 1 1) (outcomes.Committed (stamp 2 1)))) ∷
    marked 3 (Sent 25 1 (messages.Decision (tx 1 1) (outcomes.Committed (stamp 2 1)))) ∷
    marked 3 (Told (replies.Committed (stamp 2 1))) ∷ marked 0 (Got 24) ∷ marked 0 (Wrote (records.Done (tx 1 1) 2)) ∷
    marked 5 (Phase 3) ∷ marked 3 (Fell falls.Script None) ∷
    marked 3 (Rose ((commit (stamp 2 1) (tx 1 1) (operation 0 1 (Some 2) ∷ [])) ∷ [])) ∷ marked 3 (Wrote records.Life) ∷
    marked 2 (Called commands.Begin) ∷ marked 3 (Called commands.Begin) ∷ marked 2 (Told (replies.Began (tx 0 3))) ∷
    marked 2 (Called (commands.Do 0 0))
    ∷ marked 2 (Sent 26 0 (messages.Request (tx 0 3) 1 0 (wants.Read (first_read 0 0)))) ∷
    marked 2 (Sent 27 1 (messages.Request (tx 0 3) 1 0 (wants.Read (first_read 0 0)))) ∷ marked 0 (Got 26)
    ∷ marked 2 (Lost 27) ∷
    marked 3 (Told (replies.Began (tx_in 1 2 1))) ∷ marked 3 (Called (commands.Do 0 0)) ∷
    marked 0 (Sent 28 2 (messages.Answer 26 (answers.Granted (whole_grant 1 2 (line 2 1 1 1 0 2 ∷ []))))) ∷
    marked 3 (Sent 29 1 (messages.Request (tx_in 1 2 1) 1 0 (wants.Read (first_read 0 0)))) ∷
    marked 3 (Sent 30 0 (messages.Request (tx_in 1 2 1) 1 0 (wants.Read (first_read 0 0)))) ∷ marked 3 (Lost 29) ∷
    marked 0 (Got 30)
    ∷ marked 0 (Sent 31 3 (messages.Answer 30 (answers.Granted (whole_grant 1 2 (line 2 1 1 1 0 2 ∷ []))))) ∷
    marked 2 (Got 28) ∷ marked 2 (Told (replies.Quorum halves.Read 1 2)) ∷ marked 2 (Called commands.Commit) ∷
    marked 2 (Sent 32 0 (messages.Request (tx 0 3) 1 1 wants.Prepare)) ∷ marked 0 (Got 32) ∷ marked 3 (Got 31) ∷
    marked 3 (Told (replies.Quorum halves.Read 1 2)) ∷ marked 3 (Called (commands.Do 0 1)) ∷
    marked 0 (Wrote (prepare (tx 0 3) 1 (read_lock 0 0 ∷ []) [] [])) ∷
    marked 0 (Sent 33 2 (messages.Answer 32 (answers.Yes 2))) ∷ marked 2 (Got 33) ∷
    marked 3 (Sent 34 1 (messages.Request (tx_in 1 2 1) 1 0 (wants.Append 0 (line 2 1 1 1 0 2 ∷ []) (own_line 1 0 2 ∷
    [])))) ∷
    marked 3 (Lost 34) ∷
    marked 3 (Sent 35 0 (messages.Request (tx_in 1 2 1) 1 1 (wants.Append 0 (line 2 1 1 1 0 2 ∷ []) (own_line 1 0 2 ∷
    [])))) ∷
    marked 0 (Got 35) ∷ marked 2 (Wrote (commit (stamp 3 0) (tx 0 3) [])) ∷
    marked 2 (Sent 36 0 (messages.Decision (tx 0 3) (outcomes.Committed (stamp 3 0)))) ∷
    marked 2 (Sent 37 1 (messages.Decision (tx 0 3) (outcomes.Committed (stamp 3 0)))) ∷
    marked 2 (Told (replies.Committed (stamp 3 0))) ∷
    marked 0 (Sent 38 3 (messages.Answer 35 (answers.Clash (tx 0 3) 0 2))) ∷
    marked 0 (Sent 39 2 (messages.Inquiry (tx 0 3))) ∷ marked 2 (Got 39) ∷ marked 3 (Got 38) ∷ marked 0 (Got 36) ∷
    marked 3 (Told (replies.Conflict (tx 0 3) 0)) ∷ marked 3 (Called commands.Commit) ∷
    marked 0 (Wrote (records.Done (tx 0 3) 3)) ∷
    marked 3 (Sent 40 0 (messages.Decision (tx_in 1 2 1) outcomes.Aborted)) ∷
    marked 3 (Sent 41 1 (messages.Decision (tx_in 1 2 1) outcomes.Aborted)) ∷
    marked 3 (Told (replies.Aborted causes.Doomed)) ∷ marked 0 (Got 40) ∷
    marked 2 (Sent 42 0 (messages.Decision (tx 0 3) (outcomes.Committed (stamp 3 0)))) ∷ marked 0 (Got 42) ∷
    marked 5 (Phase 4) ∷ marked 1 (Rose ((prepare (tx 0 1) 1 (read_lock 1 0 ∷ []) [] []) ∷ [])) ∷
    marked 1 (Wrote records.Life) ∷ marked 1 (Sent 43 2 (messages.Inquiry (tx 0 1))) ∷ marked 5 (Armed 1 arms.Fail 12) ∷
    marked 2 (Got 43) ∷ marked 3 (Called commands.Begin) ∷
    marked 2 (Sent 44 1 (messages.Decision (tx 0 1) (outcomes.Committed (stamp 1 0)))) ∷ marked 1 (Got 44) ∷
    marked 3 (Told (replies.Began (tx_in 1 2 2))) ∷ marked 3 (Called (commands.Do 0 1)) ∷
    marked 1 (Wrote (records.Done (tx 0 1) 1)) ∷
    marked 3 (Sent 45 1 (messages.Request (tx_in 1 2 2) 1 0 (wants.Append 0 [] (own_line 1 0 2 ∷ [])))) ∷
    marked 1 (Got 45) ∷ marked 1 (Sent 46 3 (messages.Answer 45 (answers.Granted (whole_grant 2 1 []))))
    ∷ marked 3 (Got 46) ∷
    marked 3 (Told (replies.Response 2)) ∷ marked 3 (Called (commands.Do 0 0)) ∷
    marked 3 (Sent 47 1 (messages.Request (tx_in 1 2 2) 1 2 (wants.Read (first_read 0 0)))) ∷
    marked 3 (Sent 48 0 (messages.Request (tx_in 1 2 2) 1 0 (wants.Read (first_read 0 0)))) ∷ marked 1 (Got 47)
    ∷ marked 0 (Got 48) ∷
    marked 0 (Sent 49 3 (messages.Answer 48 (answers.Granted (whole_grant 1 3 (line 2 1 1 1 0 2 ∷ [])))))
    ∷ marked 3 (Got 49) ∷
    marked 1 (Sent 50 3 (messages.Answer 47 (answers.Granted (whole_grant 2 1 [])))) ∷ marked 3 (Got 50) ∷
    marked 3 (Sent 51 1 (messages.Request (tx_in 1 2 2) 1 2 (wants.Append 0 (line 2 1 1 1 0 2 ∷ []) (own_line 1 0 2 ∷
    own_line 2 0 0 ∷ [])))) ∷
    marked 1 (Got 51) ∷ marked 1 (Sent 52 3 (messages.Answer 51 (answers.Granted (whole_grant 2 2 []))))
    ∷ marked 3 (Got 52) ∷
    marked 3 (Told (replies.Response 0)) ∷ marked 3 (Called commands.Commit) ∷
    marked 3 (Sent 53 1 (messages.Request (tx_in 1 2 2) 1 2 wants.Prepare)) ∷
    marked 3 (Sent 54 0 (messages.Request (tx_in 1 2 2) 1 1 wants.Prepare)) ∷ marked 0 (Got 54) ∷ marked 1 (Got 53) ∷
    marked 1 (Wrote (prepare (tx_in 1 2 2) 1 (read_lock 0 0 ∷ []) (own_line 1 0 2 ∷ own_line 2 0 0 ∷ []) (line 2 1 1 1 0
    2 ∷ []))) ∷
    marked 1 (Sent 55 3 (messages.Answer 53 (answers.Yes 2))) ∷ marked 3 (Got 55) ∷
    marked 0 (Wrote (prepare (tx_in 1 2 2) 1 (read_lock 0 0 ∷ []) [] [])) ∷
    marked 0 (Sent 56 3 (messages.Answer 54 (answers.Yes 3))) ∷ marked 3 (Got 56) ∷
    marked 3 (Wrote (commit (stamp 4 1) (tx_in 1 2 2) (operation 0 1 (Some 2) ∷ operation 0 0 (Some 0) ∷ []))) ∷
    marked 3 (Sent 57 0 (messages.Decision (tx_in 1 2 2) (outcomes.Committed (stamp 4 1)))) ∷
    marked 3 (Sent 58 1 (messages.Decision (tx_in 1 2 2) (outcomes.Committed (stamp 4 1)))) ∷
    marked 3 (Told (replies.Committed (stamp 4 1))) ∷ marked 0 (Got 57) ∷
    marked 0 (Wrote (records.Done (tx_in 1 2 2) 4)) ∷ marked 1 (Got 58) ∷
    marked 1 (Wrote (records.Done (tx_in 1 2 2) 4)) ∷ []
