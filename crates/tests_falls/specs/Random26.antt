-- Random: sites 1, clients 2, steps 119, messages 27, lost 7, cuts 1, commits 1, aborts 3, short rounds 5, falls 4,
-- rises 3, unwritten records 1.
use Rattle.std.specs.Prelude.{List, [], ◌∷◌, Some, None, false}
use Rattle.qc_decl.specs.declared.declaration.Declaration.{Declaration}
use Rattle.qc_decl.specs.Vocabulary.{row}
use Rattle.qc_msg.specs.Vocabulary.{Entry, marked}
use Rattle.tests_histories.specs.Words.{stamp, own_line, read_lock, prepare, commit, declaration, kind, pair, plan}
use Rattle.qc_msg.specs.declared.step.Step.TheVariants.{Phase, Cut, Heal, Called, Got, Lost, Wrote, Sent, Told, Armed}
use Rattle.qc_msg.specs.declared.step.Step.TheVariants.{Fell, Rose}
use Rattle.qc_msg.specs.declared.turn.Appended.TheVariants.{Done, Stopped}
use Rattle.tests_falls.specs.Words.{tx_in}
use Rattle.tests_falls.specs.Perform.{Move, Begins, Acts, Takes, Posts, Rises}
use Rattle.qc_msg.specs.declared.message.Answer.TheVariants as answers
use Rattle.qc_msg.specs.declared.reply.AbortCause.TheVariants as causes
use Rattle.qc_msg.specs.declared.step.Command.TheVariants as commands
use Rattle.qc_msg.specs.declared.reply.Half.TheVariants as halves
use Rattle.qc_msg.specs.declared.message.Message.TheVariants as messages
use Rattle.qc_msg.specs.declared.message.Outcome.TheVariants as outcomes
use Rattle.qc_msg.specs.declared.record.Record.TheVariants as records
use Rattle.qc_msg.specs.declared.reply.Reply.TheVariants as replies
use Rattle.qc_msg.specs.declared.message.Want.TheVariants as wants
use Rattle.qc_msg.specs.declared.step.Fall.TheVariants as falls
use Rattle.qc_msg.specs.Vocabulary.{whole_grant, first_read}
use Rattle.qc_outside.specs.declared.disk.ArmKind.TheVariants as arms

abbrev pub decl : Declaration
decl =
    declaration 1 2 (kind 7 3 4 0 (row 0 0 0 1 ∷ row 0 1 0 2 ∷ row 1 0 0 3 ∷ row 1 1 0 4 ∷ row 2 0 0 5 ∷ row 2 1 0 6 ∷
    row 0 2 3 0 ∷ row 1 2 1 0 ∷ row 2 2 2 0 ∷ row 3 2 1 1 ∷ row 4 2 1 2 ∷ row 5 2 2 1 ∷ row 6 2 2 2 ∷ []) (pair 0 0 ∷
    pair 0 1 ∷ pair 0 3 ∷ pair 0 4 ∷ pair 1 0 ∷ pair 1 1 ∷ pair 1 3 ∷ pair 1 4 ∷ pair 2 0 ∷ pair 2 1 ∷ pair 2 3 ∷ pair 2
    4 ∷ []) ∷ []) (0 ∷ []) (plan (1 ∷ []) ((1 ∷ 1 ∷ 1 ∷ []) ∷ []) ((1 ∷ 1 ∷ 0 ∷ 1 ∷ 1 ∷ []) ∷ []) ∷ plan (1 ∷ []) ((1 ∷
    1 ∷ 1 ∷ []) ∷ []) ((1 ∷ 1 ∷ 1 ∷ 1 ∷ 1 ∷ []) ∷ []) ∷ [])

abbrev pub moves : List Move
moves =
    Begins ∷ Acts ∷ Acts ∷ Rises false Done ∷ Takes 1 ∷ Posts 1 Done ∷ Takes 1 ∷ Posts 1 Done ∷ Takes 1 ∷ Posts 1 Done ∷
    Takes 1 ∷ Posts 1 Done ∷ Takes 1 ∷ Posts 1 Done ∷ Begins ∷ Acts ∷ Acts ∷ Begins ∷ Acts ∷ Begins ∷ Takes 2 ∷
    Takes 1 ∷ Posts 2 Done ∷ Posts 1 Done ∷ Takes 1 ∷ Takes 2 ∷ Posts 1 Done ∷ Takes 1 ∷ Posts 2 Done ∷ Posts 1 Done ∷
    Takes 0 ∷ Posts 0 Done ∷ Takes 1 ∷ Posts 1 Done ∷ Takes 0 ∷ Posts 0 Done ∷ Takes 1 ∷ Posts 1 Done ∷ Takes 1 ∷
    Posts 1 Done ∷ Takes 0 ∷ Posts 0 Done ∷ Takes 1 ∷ Posts 1 Done ∷ Takes 1 ∷ Posts 1 Done ∷ Takes 1 ∷ Posts 1 Done ∷
    Takes 0 ∷ Posts 0 Done ∷ Takes 1 ∷ Posts 1 Done ∷ Takes 1 ∷ Posts 1 Done ∷ Takes 0 ∷ Posts 0 Done ∷ Takes 1 ∷
    Posts 1 Done ∷ Takes 0 ∷ Posts 0 Done ∷ Takes 1 ∷ Posts 1 Done ∷ Takes 1 ∷ Posts 1 Done ∷ Takes 0 ∷ Posts 0 Done ∷
    Takes 1 ∷ Posts 1 Done ∷ Takes 0 ∷ Posts 0 Done ∷ Takes 1 ∷ Posts 1 Done ∷ Takes 1 ∷ Posts 1 Done ∷ Takes 0 ∷
    Posts 0 Done ∷ Begins ∷ Acts ∷ Rises false Done ∷ Takes 0 ∷ Takes 2 ∷ Posts 2 Done ∷ Takes 1 ∷ Posts 1 Done ∷
    Posts 0 Done ∷ Takes 1 ∷ Posts 1 Done ∷ Takes 2 ∷ Takes 1 ∷ Posts 2 Done ∷ Posts 1 Done ∷ Takes 1 ∷ Posts 1 Done ∷
    Begins ∷ Acts ∷ Rises false Done ∷ Takes 2 ∷ Takes 1 ∷ Posts 1 Done ∷ Posts 2 Done ∷ Takes 1 ∷ Posts 1 Done ∷
    Takes 0 ∷ Posts 0 Done ∷ Takes 1 ∷ Posts 1 Done ∷ Takes 0 ∷ Posts 0 Done ∷ Takes 1 ∷ Posts 1 Done ∷ Takes 1 ∷
    Posts 1 Done ∷ Takes 0 ∷ Posts 0 Stopped ∷ Takes 1 ∷ Posts 1 Done ∷ []

abbrev pub history : List Entry
history =
    marked 4 (Phase 1) ∷ marked 4 (Cut 0 1) ∷ marked 1 (Fell falls.Script None) ∷ marked 1 (Rose []) ∷
    marked 1 (Wrote records.Life) ∷ marked 1 (Called commands.Begin) ∷ marked 1 (Told (replies.Began (tx_in 0 2 1))) ∷
    marked 1 (Called (commands.Do 0 2))
    ∷ marked 1 (Sent 0 0 (messages.Request (tx_in 0 2 1) 1 0 (wants.Read (first_read 0 2)))) ∷
    marked 1 (Lost 0) ∷ marked 1 (Told (replies.Quorum halves.Read 0 1)) ∷ marked 1 (Called (commands.Do 0 1)) ∷
    marked 1 (Sent 1 0 (messages.Request (tx_in 0 2 1) 1 0 (wants.Read (first_read 0 1)))) ∷ marked 1 (Lost 1) ∷
    marked 1 (Told (replies.Quorum halves.Read 0 1)) ∷ marked 4 (Phase 2) ∷ marked 4 (Heal 0 1) ∷
    marked 4 (Armed 2 arms.Fail 5) ∷ marked 4 (Phase 3) ∷ marked 2 (Fell falls.Script None) ∷ marked 4 (Phase 4) ∷
    marked 2 (Called commands.Begin) ∷ marked 1 (Called (commands.Do 0 1)) ∷ marked 2 (Told replies.Down) ∷
    marked 1 (Sent 2 0 (messages.Request (tx_in 0 2 1) 1 0 (wants.Read (first_read 0 1)))) ∷ marked 1 (Lost 2) ∷
    marked 2 (Called (commands.Do 0 1)) ∷ marked 1 (Told (replies.Quorum halves.Read 0 1)) ∷
    marked 1 (Called (commands.Do 0 1)) ∷ marked 2 (Told replies.Down) ∷
    marked 1 (Sent 3 0 (messages.Request (tx_in 0 2 1) 1 0 (wants.Read (first_read 0 1)))) ∷ marked 0 (Got 3) ∷
    marked 0 (Sent 4 1 (messages.Answer 3 (answers.Granted (whole_grant 1 0 [])))) ∷ marked 1 (Got 4) ∷
    marked 1 (Sent 5 0 (messages.Request (tx_in 0 2 1) 1 1 (wants.Append 0 [] (own_line 1 0 1 ∷ [])))) ∷
    marked 0 (Got 5) ∷ marked 0 (Sent 6 1 (messages.Answer 5 (answers.Granted (whole_grant 1 0 [])))) ∷ marked 1 (Got 6)
    ∷
    marked 1 (Told (replies.Response 0)) ∷ marked 1 (Called (commands.Do 0 1)) ∷
    marked 1 (Sent 7 0 (messages.Request (tx_in 0 2 1) 1 1 (wants.Read (first_read 0 1)))) ∷ marked 0 (Got 7) ∷
    marked 0 (Sent 8 1 (messages.Answer 7 (answers.Granted (whole_grant 1 0 [])))) ∷ marked 1 (Lost 7) ∷
    marked 1 (Told (replies.Quorum halves.Read 0 1)) ∷ marked 1 (Called commands.Commit) ∷
    marked 1 (Sent 9 0 (messages.Request (tx_in 0 2 1) 1 1 wants.Prepare)) ∷ marked 1 (Lost 9) ∷
    marked 1 (Sent 10 0 (messages.Decision (tx_in 0 2 1) outcomes.Aborted)) ∷
    marked 1 (Told (replies.Aborted (causes.NoAnswer 0))) ∷ marked 0 (Got 10) ∷ marked 1 (Called commands.Begin) ∷
    marked 1 (Told (replies.Began (tx_in 0 2 2))) ∷ marked 1 (Called (commands.Do 0 0)) ∷
    marked 1 (Sent 11 0 (messages.Request (tx_in 0 2 2) 1 0 (wants.Read (first_read 0 0)))) ∷ marked 0 (Got 11) ∷
    marked 0 (Sent 12 1 (messages.Answer 11 (answers.Granted (whole_grant 1 0 [])))) ∷ marked 1 (Got 12) ∷
    marked 1 (Sent 13 0 (messages.Request (tx_in 0 2 2) 1 1 (wants.Append 0 [] (own_line 1 0 0 ∷ [])))) ∷
    marked 0 (Got 13) ∷ marked 0 (Sent 14 1 (messages.Answer 13 (answers.Granted (whole_grant 1 0 []))))
    ∷ marked 1 (Got 14) ∷
    marked 1 (Told (replies.Response 0)) ∷ marked 1 (Called (commands.Do 0 0)) ∷
    marked 1 (Sent 15 0 (messages.Request (tx_in 0 2 2) 1 1 (wants.Read (first_read 0 0)))) ∷ marked 0 (Got 15) ∷
    marked 0 (Sent 16 1 (messages.Answer 15 (answers.Granted (whole_grant 1 0 [])))) ∷ marked 1 (Got 16) ∷
    marked 1 (Sent 17 0 (messages.Request (tx_in 0 2 2) 1 1 (wants.Append 0 [] (own_line 1 0 0 ∷ own_line 2 0 0 ∷ []))))
    ∷
    marked 0 (Got 17) ∷ marked 0 (Sent 18 1 (messages.Answer 17 (answers.Granted (whole_grant 1 0 []))))
    ∷ marked 1 (Lost 17) ∷
    marked 1 (Told (replies.Quorum halves.Append 0 1)) ∷ marked 1 (Called commands.Commit) ∷
    marked 1 (Sent 19 0 (messages.Decision (tx_in 0 2 2) outcomes.Aborted)) ∷
    marked 1 (Told (replies.Aborted causes.Doomed)) ∷ marked 0 (Got 19) ∷ marked 4 (Phase 5) ∷
    marked 4 (Armed 0 arms.Stop 1) ∷ marked 2 (Rose []) ∷ marked 2 (Wrote records.Life) ∷ marked 0 (Got 9) ∷
    marked 2 (Called (commands.Do 0 0)) ∷ marked 2 (Told replies.NoTransaction) ∷ marked 1 (Got 18) ∷
    marked 0 (Sent 20 1 (messages.Answer 9 answers.Stale)) ∷ marked 1 (Got 20) ∷ marked 2 (Called commands.Commit) ∷
    marked 1 (Called commands.Begin) ∷ marked 2 (Told replies.NoTransaction) ∷
    marked 1 (Told (replies.Began (tx_in 0 2 3))) ∷ marked 1 (Called commands.Commit) ∷
    marked 1 (Wrote (commit (stamp 1 0) (tx_in 0 2 3) [])) ∷ marked 1 (Told (replies.Committed (stamp 1 0))) ∷
    marked 4 (Phase 6) ∷ marked 1 (Fell falls.Script None) ∷
    marked 1 (Rose (records.Life ∷ (commit (stamp 1 0) (tx_in 0 2 3) []) ∷ [])) ∷ marked 1 (Wrote records.Life) ∷
    marked 2 (Called commands.Begin) ∷ marked 1 (Called commands.Begin) ∷
    marked 1 (Told (replies.Began (tx_in 0 3 1))) ∷ marked 2 (Told (replies.Began (tx_in 1 2 1))) ∷
    marked 1 (Called (commands.Do 0 1))
    ∷ marked 1 (Sent 21 0 (messages.Request (tx_in 0 3 1) 1 0 (wants.Read (first_read 0 1)))) ∷
    marked 0 (Got 21) ∷ marked 0 (Sent 22 1 (messages.Answer 21 (answers.Granted (whole_grant 1 0 []))))
    ∷ marked 1 (Got 22) ∷
    marked 1 (Sent 23 0 (messages.Request (tx_in 0 3 1) 1 1 (wants.Append 0 [] (own_line 1 0 1 ∷ [])))) ∷
    marked 0 (Got 23) ∷ marked 0 (Sent 24 1 (messages.Answer 23 (answers.Granted (whole_grant 1 0 []))))
    ∷ marked 1 (Got 24) ∷
    marked 1 (Told (replies.Response 0)) ∷ marked 1 (Called commands.Commit) ∷
    marked 1 (Sent 25 0 (messages.Request (tx_in 0 3 1) 1 1 wants.Prepare)) ∷ marked 0 (Got 25) ∷
    marked 0 (Fell falls.Stop (Some (prepare (tx_in 0 3 1) 1 (read_lock 0 1 ∷ []) (own_line 1 0 1 ∷ []) []))) ∷
    marked 1 (Lost 25) ∷ marked 1 (Sent 26 0 (messages.Decision (tx_in 0 3 1) outcomes.Aborted)) ∷
    marked 1 (Told (replies.Aborted (causes.NoAnswer 0))) ∷ []
