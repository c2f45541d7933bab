-- Random: sites 3, clients 2, steps 200, messages 61, lost 9, cuts 1, commits 3, aborts 1, conflicts 1, short rounds
-- 12, falls 6, rises 5, unwritten records 1.
use Rattle.std.specs.Prelude.{List, [], ◌∷◌, Some, None, true, false}
use Rattle.qc_decl.specs.declared.declaration.Declaration.{Declaration}
use Rattle.qc_decl.specs.Vocabulary.{row}
use Rattle.qc_msg.specs.Vocabulary.{Entry, marked}
use Rattle.tests_histories.specs.Words.{tx, stamp, own_line, read_lock, prepare, commit, declaration, kind, pair, plan}
use Rattle.qc_msg.specs.declared.step.Step.TheVariants.{Phase, Cut, Called, Got, Lost, Wrote, Sent, Told, Armed, Fell}
use Rattle.qc_msg.specs.declared.step.Step.TheVariants.{Rose}
use Rattle.qc_msg.specs.declared.turn.Appended.TheVariants.{Done, Stopped}
use Rattle.tests_falls.specs.Words.{tx_in}
use Rattle.tests_falls.specs.Perform.{Move, Begins, Acts, Takes, Posts, Rises, Unopened}
use Rattle.qc_msg.specs.declared.message.Answer.TheVariants as answers
use Rattle.qc_msg.specs.declared.reply.AbortCause.TheVariants as causes
use Rattle.qc_msg.specs.declared.step.Command.TheVariants as commands
use Rattle.qc_msg.specs.declared.reply.Half.TheVariants as halves
use Rattle.qc_msg.specs.declared.message.Message.TheVariants as messages
use Rattle.qc_msg.specs.declared.message.Outcome.TheVariants as outcomes
use Rattle.qc_msg.specs.declared.record.Record.TheVariants as records
use Rattle.qc_msg.specs.declared.reply.Reply.TheVariants as replies
use Rattle.qc_msg.specs.declared.message.Want.TheVariants as wants
use Rattle.qc_msg.specs.declared.step.Fall.TheVariants as falls
use Rattle.qc_msg.specs.Vocabulary.{whole_grant, first_read}
use Rattle.qc_outside.specs.declared.disk.ArmKind.TheVariants as arms

abbrev pub decl : Declaration
decl =
    declaration 3 2 (kind 3 2 3 0 (row 0 0 2 2 ∷ row 0 0 0 2 ∷ row 0 1 1 1 ∷ row 0 1 2 1 ∷ row 1 0 2 1 ∷ row 1 0 0 1 ∷
    row 1 1 1 0 ∷ row 2 0 2 2 ∷ row 2 1 1 1 ∷ []) (pair 0 0 ∷ pair 0 1 ∷ pair 0 2 ∷ pair 0 3 ∷ pair 1 0 ∷ pair 1 1 ∷
    pair 1 2 ∷ pair 1 3 ∷ []) ∷ []) (0 ∷ 0 ∷ []) (plan (0 ∷ 1 ∷ 3 ∷ []) ((3 ∷ 3 ∷ []) ∷ (4 ∷ 4 ∷ []) ∷ []) ((2 ∷ 2 ∷ 2 ∷
    3 ∷ []) ∷ (1 ∷ 1 ∷ 1 ∷ 1 ∷ []) ∷ []) ∷ plan (1 ∷ 0 ∷ 1 ∷ []) ((1 ∷ 1 ∷ []) ∷ (2 ∷ 1 ∷ []) ∷ []) ((2 ∷ 2 ∷ 2 ∷ 2 ∷
    []) ∷ (2 ∷ 2 ∷ 2 ∷ 2 ∷ []) ∷ []) ∷ plan (2 ∷ 1 ∷ 1 ∷ []) ((3 ∷ 3 ∷ []) ∷ (3 ∷ 3 ∷ []) ∷ []) ((2 ∷ 2 ∷ 2 ∷ 2 ∷ []) ∷
    (2 ∷ 2 ∷ 2 ∷ 2 ∷ []) ∷ []) ∷ [])

abbrev pub moves : List Move
moves =
    Begins ∷ Acts ∷ Unopened falls.Disk ∷ Acts ∷ Takes 4 ∷ Posts 4 Done ∷ Takes 4 ∷ Posts 4 Done ∷ Takes 2 ∷
    Posts 2 Done ∷ Takes 4 ∷ Posts 4 Done ∷ Takes 4 ∷ Posts 4 Done ∷ Takes 4 ∷ Posts 4 Done ∷ Takes 2 ∷ Posts 2 Done ∷
    Takes 4 ∷ Posts 4 Done ∷ Takes 4 ∷ Posts 4 Done ∷ Takes 4 ∷ Posts 4 Done ∷ Takes 2 ∷ Posts 2 Done ∷ Takes 4 ∷
    Posts 4 Done ∷ Takes 4 ∷ Posts 4 Done ∷ Takes 4 ∷ Posts 4 Done ∷ Takes 2 ∷ Posts 2 Done ∷ Takes 4 ∷ Posts 4 Done ∷
    Begins ∷ Acts ∷ Acts ∷ Takes 3 ∷ Posts 3 Done ∷ Takes 3 ∷ Posts 3 Done ∷ Begins ∷ Acts ∷ Acts ∷ Acts ∷ Takes 3 ∷
    Posts 3 Done ∷ Takes 3 ∷ Posts 3 Done ∷ Takes 3 ∷ Posts 3 Done ∷ Takes 2 ∷ Posts 2 Done ∷ Takes 4 ∷ Posts 4 Done ∷
    Takes 2 ∷ Posts 2 Done ∷ Takes 3 ∷ Posts 3 Done ∷ Takes 3 ∷ Posts 3 Done ∷ Takes 2 ∷ Posts 2 Done ∷ Begins ∷
    Rises false Stopped ∷ Acts ∷ Rises false Done ∷ Takes 3 ∷ Posts 3 Done ∷ Takes 3 ∷ Posts 3 Done ∷ Begins ∷ Acts ∷
    Acts ∷ Rises false Done ∷ Takes 4 ∷ Posts 4 Done ∷ Takes 4 ∷ Posts 4 Done ∷ Takes 2 ∷ Posts 2 Done ∷ Takes 4 ∷
    Posts 4 Done ∷ Takes 4 ∷ Posts 4 Done ∷ Takes 4 ∷ Posts 4 Done ∷ Takes 2 ∷ Posts 2 Done ∷ Takes 4 ∷ Posts 4 Done ∷
    Takes 4 ∷ Posts 4 Done ∷ Takes 4 ∷ Posts 4 Done ∷ Takes 2 ∷ Posts 2 Done ∷ Takes 4 ∷ Posts 4 Done ∷ Begins ∷
    Rises true Done ∷ Begins ∷ Acts ∷ Rises false Done ∷ Takes 4 ∷ Posts 4 Done ∷ Takes 1 ∷ Takes 2 ∷ Posts 2 Done ∷
    Takes 4 ∷ Posts 4 Done ∷ Posts 1 Done ∷ Takes 3 ∷ Posts 3 Done ∷ Takes 4 ∷ Posts 4 Done ∷ Takes 4 ∷ Posts 4 Done ∷
    Takes 1 ∷ Posts 1 Done ∷ Takes 4 ∷ Posts 4 Done ∷ Takes 3 ∷ Posts 3 Done ∷ Takes 3 ∷ Posts 3 Done ∷ Takes 2 ∷
    Posts 2 Done ∷ Takes 4 ∷ Posts 4 Done ∷ Takes 4 ∷ Posts 4 Done ∷ Takes 1 ∷ Posts 1 Done ∷ Takes 4 ∷ Posts 4 Done ∷
    Takes 2 ∷ Posts 2 Done ∷ Takes 2 ∷ Posts 2 Done ∷ Takes 4 ∷ Posts 4 Done ∷ Takes 4 ∷ Posts 4 Done ∷ Takes 1 ∷
    Takes 2 ∷ Posts 2 Done ∷ Takes 3 ∷ Takes 4 ∷ Posts 4 Done ∷ Posts 3 Done ∷ Posts 1 Done ∷ Takes 4 ∷ Posts 4 Done ∷
    Takes 4 ∷ Posts 4 Done ∷ Takes 1 ∷ Takes 2 ∷ Posts 2 Done ∷ Takes 4 ∷ Posts 4 Done ∷ Posts 1 Done ∷ Takes 4 ∷
    Posts 4 Done ∷ Takes 4 ∷ Posts 4 Done ∷ Takes 1 ∷ Posts 1 Done ∷ Takes 2 ∷ Takes 4 ∷ Posts 4 Done ∷ Posts 2 Done ∷
    Takes 4 ∷ Posts 4 Done ∷ Takes 4 ∷ Posts 4 Done ∷ Takes 1 ∷ Posts 1 Done ∷ Takes 4 ∷ Posts 4 Done ∷ Takes 2 ∷
    Posts 2 Done ∷ Takes 4 ∷ Posts 4 Done ∷ Takes 1 ∷ Posts 1 Done ∷ Takes 2 ∷ Posts 2 Done ∷ []

abbrev pub history : List Entry
history =
    marked 6 (Phase 1) ∷ marked 1 (Fell falls.Script None) ∷ marked 1 (Fell falls.Disk None) ∷
    marked 6 (Armed 4 arms.Stop 4) ∷ marked 4 (Called commands.Begin) ∷ marked 4 (Told (replies.Began (tx 1 1))) ∷
    marked 4 (Called (commands.Do 1 1)) ∷
    marked 4 (Sent 0 1 (messages.Request (tx 1 1) 1 0 (wants.Read (first_read 1 1))))
    ∷
    marked 4 (Sent 1 2 (messages.Request (tx 1 1) 1 0 (wants.Read (first_read 1 1)))) ∷ marked 2 (Got 1) ∷
    marked 2 (Sent 2 4 (messages.Answer 1 (answers.Granted (whole_grant 1 0 [])))) ∷ marked 4 (Got 2) ∷
    marked 4 (Lost 0)
    ∷
    marked 4 (Told (replies.Quorum halves.Read 3 4)) ∷ marked 4 (Called (commands.Do 1 0)) ∷
    marked 4 (Sent 3 1 (messages.Request (tx 1 1) 1 0 (wants.Read (first_read 1 0)))) ∷
    marked 4 (Sent 4 2 (messages.Request (tx 1 1) 1 1 (wants.Read (first_read 1 0)))) ∷ marked 2 (Got 4) ∷
    marked 2 (Sent 5 4 (messages.Answer 4 (answers.Granted (whole_grant 1 0 [])))) ∷ marked 4 (Got 5) ∷
    marked 4 (Lost 3)
    ∷
    marked 4 (Told (replies.Quorum halves.Read 3 4)) ∷ marked 4 (Called (commands.Do 0 0)) ∷
    marked 4 (Sent 6 1 (messages.Request (tx 1 1) 1 0 (wants.Read (first_read 0 0)))) ∷
    marked 4 (Sent 7 2 (messages.Request (tx 1 1) 1 1 (wants.Read (first_read 0 0)))) ∷ marked 2 (Got 7) ∷
    marked 2 (Sent 8 4 (messages.Answer 7 (answers.Granted (whole_grant 1 0 [])))) ∷ marked 4 (Got 8) ∷
    marked 4 (Lost 6)
    ∷
    marked 4 (Sent 9 1 (messages.Request (tx 1 1) 1 0 (wants.Append 0 [] (own_line 1 0 1 ∷ [])))) ∷
    marked 4 (Sent 10 2 (messages.Request (tx 1 1) 1 1 (wants.Append 0 [] (own_line 1 0 1 ∷ [])))) ∷ marked 4 (Lost 9) ∷
    marked 2 (Got 10) ∷ marked 2 (Sent 11 4 (messages.Answer 10 (answers.Granted (whole_grant 1 0 []))))
    ∷ marked 4 (Got 11) ∷
    marked 4 (Told (replies.Response 0)) ∷ marked 6 (Phase 2) ∷ marked 6 (Armed 0 arms.Stop 12) ∷
    marked 6 (Armed 4 arms.Fail 4) ∷ marked 3 (Called commands.Begin) ∷ marked 3 (Told (replies.Began (tx 0 1))) ∷
    marked 3 (Called commands.Commit) ∷ marked 3 (Wrote (commit (stamp 1 0) (tx 0 1) [])) ∷
    marked 3 (Told (replies.Committed (stamp 1 0))) ∷ marked 6 (Phase 3) ∷ marked 6 (Armed 1 arms.Fail 4) ∷
    marked 6 (Armed 3 arms.Stop 4) ∷ marked 6 (Armed 4 arms.Stop 3) ∷ marked 3 (Called commands.Begin) ∷
    marked 3 (Told (replies.Began (tx 0 2))) ∷ marked 3 (Called (commands.Do 0 1)) ∷
    marked 3 (Sent 12 1 (messages.Request (tx 0 2) 1 0 (wants.Read (first_read 0 1)))) ∷
    marked 3 (Sent 13 2 (messages.Request (tx 0 2) 1 0 (wants.Read (first_read 0 1)))) ∷ marked 3 (Lost 12)
    ∷ marked 2 (Got 13) ∷
    marked 2 (Sent 14 3 (messages.Answer 13 (answers.Clash (tx 1 1) 1 1))) ∷
    marked 2 (Sent 15 4 (messages.Inquiry (tx 1 1))) ∷ marked 4 (Got 15) ∷
    marked 4 (Sent 16 2 (messages.Decision (tx 1 1) outcomes.Active)) ∷ marked 2 (Got 16) ∷ marked 3 (Got 14) ∷
    marked 3 (Told (replies.Conflict (tx 1 1) 2)) ∷ marked 3 (Called commands.Commit) ∷
    marked 3 (Wrote (commit (stamp 2 0) (tx 0 2) [])) ∷
    marked 3 (Sent 17 1 (messages.Decision (tx 0 2) (outcomes.Committed (stamp 2 0)))) ∷
    marked 3 (Sent 18 2 (messages.Decision (tx 0 2) (outcomes.Committed (stamp 2 0)))) ∷
    marked 3 (Told (replies.Committed (stamp 2 0))) ∷ marked 2 (Got 18) ∷ marked 6 (Phase 4) ∷ marked 1 (Rose []) ∷
    marked 1 (Fell falls.Stop (Some records.Life)) ∷ marked 3 (Fell falls.Script None) ∷
    marked 3 (Rose ((commit (stamp 1 0) (tx 0 1) []) ∷ (commit (stamp 2 0) (tx 0 2) []) ∷ [])) ∷
    marked 3 (Wrote records.Life) ∷ marked 3 (Called commands.Begin) ∷ marked 3 (Told (replies.Began (tx_in 0 2 1))) ∷
    marked 3 (Called commands.Commit) ∷ marked 3 (Wrote (commit (stamp 3 0) (tx_in 0 2 1) [])) ∷
    marked 3 (Told (replies.Committed (stamp 3 0))) ∷ marked 6 (Phase 5) ∷ marked 6 (Cut 1 3) ∷
    marked 2 (Fell falls.Script None) ∷ marked 2 (Rose []) ∷ marked 2 (Wrote records.Life) ∷
    marked 4 (Called (commands.Do 1 1))
    ∷ marked 4 (Sent 19 1 (messages.Request (tx 1 1) 1 0 (wants.Read (first_read 1 1)))) ∷
    marked 4 (Sent 20 2 (messages.Request (tx 1 1) 1 1 (wants.Read (first_read 1 1)))) ∷ marked 4 (Lost 19)
    ∷ marked 2 (Got 20) ∷
    marked 2 (Sent 21 4 (messages.Answer 20 (answers.Restarted 2))) ∷ marked 4 (Got 21) ∷
    marked 4 (Told (replies.Quorum halves.Read 0 4)) ∷ marked 4 (Called (commands.Do 0 1)) ∷
    marked 4 (Sent 22 1 (messages.Request (tx 1 1) 1 0 (wants.Read (first_read 0 1)))) ∷
    marked 4 (Sent 23 2 (messages.Request (tx 1 1) 1 1 (wants.Read (first_read 0 1)))) ∷ marked 4 (Lost 22)
    ∷ marked 2 (Got 23) ∷
    marked 2 (Sent 24 4 (messages.Answer 23 (answers.Restarted 2))) ∷ marked 4 (Got 24) ∷
    marked 4 (Told (replies.Quorum halves.Read 0 3)) ∷ marked 4 (Called (commands.Do 0 1)) ∷
    marked 4 (Sent 25 1 (messages.Request (tx 1 1) 1 0 (wants.Read (first_read 0 1)))) ∷
    marked 4 (Sent 26 2 (messages.Request (tx 1 1) 1 1 (wants.Read (first_read 0 1)))) ∷ marked 4 (Lost 25)
    ∷ marked 2 (Got 26) ∷
    marked 2 (Sent 27 4 (messages.Answer 26 (answers.Restarted 2))) ∷ marked 4 (Got 27) ∷
    marked 4 (Told (replies.Quorum halves.Read 0 3)) ∷ marked 6 (Phase 6) ∷ marked 1 (Rose (records.Life ∷ [])) ∷
    marked 1 (Wrote records.Life) ∷ marked 6 (Phase 7) ∷ marked 1 (Fell falls.Script None) ∷
    marked 1 (Rose (records.Life ∷ records.Life ∷ [])) ∷ marked 1 (Wrote records.Life) ∷
    marked 4 (Called (commands.Do 0 0))
    ∷ marked 4 (Sent 28 1 (messages.Request (tx 1 1) 1 0 (wants.Read (first_read 0 0)))) ∷
    marked 4 (Sent 29 2 (messages.Request (tx 1 1) 1 1 (wants.Read (first_read 0 0)))) ∷ marked 1 (Got 28)
    ∷ marked 2 (Got 29) ∷
    marked 2 (Sent 30 4 (messages.Answer 29 (answers.Restarted 2))) ∷ marked 4 (Got 30) ∷
    marked 1 (Sent 31 4 (messages.Answer 28 (answers.Granted (whole_grant 4 0 [])))) ∷
    marked 3 (Called commands.Begin) ∷
    marked 3 (Told (replies.Began (tx_in 0 2 2))) ∷ marked 4 (Got 31) ∷
    marked 4 (Told (replies.Quorum halves.Read 1 3)) ∷ marked 4 (Called (commands.Do 1 1)) ∷
    marked 4 (Sent 32 1 (messages.Request (tx 1 1) 1 4 (wants.Read (first_read 1 1)))) ∷
    marked 4 (Sent 33 2 (messages.Request (tx 1 1) 1 1 (wants.Read (first_read 1 1)))) ∷ marked 1 (Got 32) ∷
    marked 1 (Sent 34 4 (messages.Answer 32 (answers.Granted (whole_grant 4 0 [])))) ∷ marked 4 (Got 34) ∷
    marked 3 (Called (commands.Do 1 1))
    ∷ marked 3 (Sent 35 1 (messages.Request (tx_in 0 2 2) 1 0 (wants.Read (first_read 1 1)))) ∷
    marked 3 (Sent 36 2 (messages.Request (tx_in 0 2 2) 1 0 (wants.Read (first_read 1 1)))) ∷ marked 3 (Lost 35) ∷
    marked 2 (Got 33) ∷ marked 2 (Sent 37 4 (messages.Answer 33 (answers.Restarted 2))) ∷ marked 4 (Got 37) ∷
    marked 4 (Told (replies.Quorum halves.Read 1 4)) ∷ marked 4 (Called (commands.Do 0 0)) ∷
    marked 4 (Sent 38 1 (messages.Request (tx 1 1) 1 4 (wants.Read (first_read 0 0)))) ∷
    marked 4 (Sent 39 2 (messages.Request (tx 1 1) 1 1 (wants.Read (first_read 0 0)))) ∷ marked 1 (Got 38) ∷
    marked 1 (Sent 40 4 (messages.Answer 38 (answers.Granted (whole_grant 4 0 [])))) ∷ marked 4 (Got 40)
    ∷ marked 2 (Got 36) ∷
    marked 2 (Sent 41 3 (messages.Answer 36 (answers.Granted (whole_grant 2 0 [])))) ∷ marked 2 (Got 39) ∷
    marked 2 (Sent 42 4 (messages.Answer 39 (answers.Restarted 2))) ∷ marked 4 (Got 42) ∷
    marked 4 (Told (replies.Quorum halves.Read 1 3)) ∷ marked 4 (Called (commands.Do 1 1)) ∷
    marked 4 (Sent 43 1 (messages.Request (tx 1 1) 1 4 (wants.Read (first_read 1 1)))) ∷
    marked 4 (Sent 44 2 (messages.Request (tx 1 1) 1 1 (wants.Read (first_read 1 1)))) ∷ marked 1 (Got 43)
    ∷ marked 2 (Got 44) ∷
    marked 2 (Sent 45 4 (messages.Answer 44 (answers.Restarted 2))) ∷ marked 3 (Got 41) ∷ marked 4 (Got 45) ∷
    marked 3 (Told (replies.Quorum halves.Read 3 4)) ∷
    marked 1 (Sent 46 4 (messages.Answer 43 (answers.Granted (whole_grant 4 0 [])))) ∷ marked 4 (Got 46) ∷
    marked 4 (Told (replies.Quorum halves.Read 1 4)) ∷ marked 4 (Called (commands.Do 1 1)) ∷
    marked 4 (Sent 47 1 (messages.Request (tx 1 1) 1 4 (wants.Read (first_read 1 1)))) ∷
    marked 4 (Sent 48 2 (messages.Request (tx 1 1) 1 1 (wants.Read (first_read 1 1)))) ∷ marked 1 (Got 47)
    ∷ marked 2 (Got 48) ∷
    marked 2 (Sent 49 4 (messages.Answer 48 (answers.Restarted 2))) ∷ marked 4 (Got 49) ∷
    marked 1 (Sent 50 4 (messages.Answer 47 (answers.Granted (whole_grant 4 0 [])))) ∷ marked 4 (Got 50) ∷
    marked 4 (Told (replies.Quorum halves.Read 1 4)) ∷ marked 4 (Called (commands.Do 0 0)) ∷
    marked 4 (Sent 51 1 (messages.Request (tx 1 1) 1 4 (wants.Read (first_read 0 0)))) ∷
    marked 4 (Sent 52 2 (messages.Request (tx 1 1) 1 1 (wants.Read (first_read 0 0)))) ∷ marked 1 (Got 51) ∷
    marked 1 (Sent 53 4 (messages.Answer 51 (answers.Granted (whole_grant 4 0 [])))) ∷ marked 2 (Got 52)
    ∷ marked 4 (Got 53) ∷
    marked 2 (Sent 54 4 (messages.Answer 52 (answers.Restarted 2))) ∷ marked 4 (Got 54) ∷
    marked 4 (Told (replies.Quorum halves.Read 1 3)) ∷ marked 4 (Called commands.Commit) ∷
    marked 4 (Sent 55 1 (messages.Request (tx 1 1) 1 4 wants.Prepare)) ∷
    marked 4 (Sent 56 2 (messages.Request (tx 1 1) 1 1 wants.Prepare)) ∷ marked 1 (Got 55) ∷
    marked 1 (Wrote (prepare (tx 1 1) 1 (read_lock 0 0 ∷ read_lock 1 1 ∷ []) [] [])) ∷
    marked 1 (Sent 57 4 (messages.Answer 55 (answers.Yes 0))) ∷ marked 4 (Got 57) ∷ marked 2 (Got 56) ∷
    marked 2 (Sent 58 4 (messages.Answer 56 (answers.Restarted 2))) ∷ marked 4 (Got 58) ∷
    marked 4 (Sent 59 1 (messages.Decision (tx 1 1) outcomes.Aborted)) ∷
    marked 4 (Sent 60 2 (messages.Decision (tx 1 1) outcomes.Aborted)) ∷
    marked 4 (Told (replies.Aborted (causes.Restarted 2 1 2))) ∷ marked 1 (Got 59) ∷ marked 2 (Got 60) ∷ []
