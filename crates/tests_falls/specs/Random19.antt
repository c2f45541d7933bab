-- Random: sites 1, clients 1, steps 104, messages 28, commits 1, aborts 1, conflicts 1, absent 1, falls 1, rises 1,
-- unwritten records 1.
use Rattle.std.specs.Prelude.{List, [], ◌∷◌, Some, true}
use Rattle.qc_decl.specs.declared.declaration.Declaration.{Declaration}
use Rattle.qc_decl.specs.Vocabulary.{row}
use Rattle.qc_msg.specs.Vocabulary.{Entry, marked}
use Rattle.tests_histories.specs.Words.{tx, stamp, line, own_line, operation, read_lock, prepare, commit, declaration}
use Rattle.tests_histories.specs.Words.{kind, pair, plan}
use Rattle.qc_msg.specs.declared.step.Step.TheVariants.{Phase, Called, Got, Wrote, Sent, Told, Fell, Rose}
use Rattle.qc_msg.specs.declared.turn.Appended.TheVariants.{Done, Failed}
use Rattle.tests_falls.specs.Words.{tx_in, line_in}
use Rattle.tests_falls.specs.Perform.{Move, Begins, Takes, Posts, Rises}
use Rattle.qc_msg.specs.declared.message.Answer.TheVariants as answers
use Rattle.qc_msg.specs.declared.reply.AbortCause.TheVariants as causes
use Rattle.qc_msg.specs.declared.step.Command.TheVariants as commands
use Rattle.qc_msg.specs.declared.message.Message.TheVariants as messages
use Rattle.qc_msg.specs.declared.message.Outcome.TheVariants as outcomes
use Rattle.qc_msg.specs.declared.record.Record.TheVariants as records
use Rattle.qc_msg.specs.declared.reply.Reply.TheVariants as replies
use Rattle.qc_msg.specs.declared.message.Want.TheVariants as wants
use Rattle.qc_msg.specs.declared.step.Fall.TheVariants as falls
use Rattle.qc_msg.specs.Vocabulary.{whole_grant, first_read}

abbrev pub decl : Declaration
decl =
    declaration 1 1 (kind 3 3 3 0 (row 0 0 0 1 ∷ row 0 0 1 2 ∷ row 1 1 0 1 ∷ row 2 1 1 2 ∷ row 1 2 2 0 ∷ row 2 2 2 0 ∷
    row 0 2 2 0 ∷ []) (pair 0 0 ∷ pair 0 1 ∷ pair 0 4 ∷ pair 1 0 ∷ pair 1 1 ∷ pair 1 4 ∷ []) ∷ []) (0 ∷ []) (plan (1 ∷
    []) ((1 ∷ 1 ∷ 0 ∷ []) ∷ []) ((1 ∷ 1 ∷ 0 ∷ 0 ∷ 1 ∷ []) ∷ []) ∷ [])

abbrev pub moves : List Move
moves =
    Begins ∷ Takes 1 ∷ Posts 1 Done ∷ Takes 1 ∷ Posts 1 Done ∷ Takes 0 ∷ Posts 0 Done ∷ Takes 1 ∷ Posts 1 Done ∷
    Takes 0 ∷ Posts 0 Done ∷ Takes 1 ∷ Posts 1 Done ∷ Takes 1 ∷ Posts 1 Done ∷ Takes 0 ∷ Posts 0 Done ∷ Takes 1 ∷
    Posts 1 Done ∷ Takes 1 ∷ Posts 1 Done ∷ Takes 0 ∷ Posts 0 Done ∷ Takes 1 ∷ Posts 1 Done ∷ Takes 1 ∷ Posts 1 Done ∷
    Takes 0 ∷ Posts 0 Done ∷ Takes 1 ∷ Posts 1 Done ∷ Takes 0 ∷ Posts 0 Done ∷ Takes 1 ∷ Posts 1 Done ∷ Takes 1 ∷
    Posts 1 Done ∷ Takes 0 ∷ Posts 0 Done ∷ Takes 1 ∷ Posts 1 Failed ∷ Begins ∷ Rises true Done ∷ Takes 1 ∷
    Posts 1 Done ∷ Takes 1 ∷ Posts 1 Done ∷ Takes 0 ∷ Posts 0 Done ∷ Takes 1 ∷ Posts 1 Done ∷ Takes 1 ∷ Posts 1 Done ∷
    Takes 1 ∷ Takes 0 ∷ Posts 1 Done ∷ Takes 1 ∷ Posts 1 Done ∷ Posts 0 Done ∷ Begins ∷ Takes 1 ∷ Posts 1 Done ∷
    Takes 1 ∷ Posts 1 Done ∷ Takes 0 ∷ Posts 0 Done ∷ Begins ∷ Takes 1 ∷ Posts 1 Done ∷ Takes 1 ∷ Posts 1 Done ∷
    Takes 0 ∷ Posts 0 Done ∷ Takes 1 ∷ Posts 1 Done ∷ Takes 1 ∷ Posts 1 Done ∷ Takes 0 ∷ Posts 0 Done ∷ Takes 1 ∷
    Posts 1 Done ∷ Takes 0 ∷ Takes 1 ∷ Posts 1 Done ∷ Takes 1 ∷ Posts 0 Done ∷ Posts 1 Done ∷ Takes 0 ∷ Posts 0 Done ∷
    Takes 1 ∷ Posts 1 Done ∷ Takes 1 ∷ Posts 1 Done ∷ Takes 0 ∷ Posts 0 Done ∷ Takes 1 ∷ Posts 1 Done ∷ []

abbrev pub history : List Entry
history =
    marked 3 (Phase 1) ∷ marked 1 (Called commands.Begin) ∷ marked 1 (Told (replies.Began (tx 0 1))) ∷
    marked 1 (Called (commands.Do 0 0)) ∷
    marked 1 (Sent 0 0 (messages.Request (tx 0 1) 1 0 (wants.Read (first_read 0 0))))
    ∷
    marked 0 (Got 0) ∷ marked 0 (Sent 1 1 (messages.Answer 0 (answers.Granted (whole_grant 1 0 [])))) ∷ marked 1 (Got 1)
    ∷
    marked 1 (Sent 2 0 (messages.Request (tx 0 1) 1 1 (wants.Append 0 [] (own_line 1 0 0 ∷ [])))) ∷ marked 0 (Got 2) ∷
    marked 0 (Sent 3 1 (messages.Answer 2 (answers.Granted (whole_grant 1 0 [])))) ∷ marked 1 (Got 3) ∷
    marked 1 (Told (replies.Response 0)) ∷ marked 1 (Called (commands.Do 0 1)) ∷
    marked 1 (Sent 4 0 (messages.Request (tx 0 1) 1 1 (wants.Read (first_read 0 1)))) ∷ marked 0 (Got 4) ∷
    marked 0 (Sent 5 1 (messages.Answer 4 (answers.Granted (whole_grant 1 0 [])))) ∷ marked 1 (Got 5) ∷
    marked 1 (Told (replies.Response 0)) ∷ marked 1 (Called (commands.Do 0 2)) ∷
    marked 1 (Sent 6 0 (messages.Request (tx 0 1) 1 1 (wants.Append 0 [] (own_line 1 0 0 ∷ own_line 3 0 4 ∷ [])))) ∷
    marked 0 (Got 6) ∷ marked 0 (Sent 7 1 (messages.Answer 6 (answers.Granted (whole_grant 1 0 [])))) ∷ marked 1 (Got 7)
    ∷
    marked 1 (Told (replies.Response 2)) ∷ marked 1 (Called (commands.Do 0 0)) ∷
    marked 1 (Sent 8 0 (messages.Request (tx 0 1) 1 1 (wants.Read (first_read 0 0)))) ∷ marked 0 (Got 8) ∷
    marked 0 (Sent 9 1 (messages.Answer 8 (answers.Granted (whole_grant 1 0 [])))) ∷ marked 1 (Got 9) ∷
    marked 1 (Sent 10 0 (messages.Request (tx 0 1) 1 1 (wants.Append 0 [] (own_line 1 0 0 ∷ own_line 3 0 4 ∷ own_line 4
    0 0 ∷ [])))) ∷
    marked 0 (Got 10) ∷ marked 0 (Sent 11 1 (messages.Answer 10 (answers.Granted (whole_grant 1 0 []))))
    ∷ marked 1 (Got 11) ∷
    marked 1 (Told (replies.Response 0)) ∷ marked 1 (Called commands.Commit) ∷
    marked 1 (Sent 12 0 (messages.Request (tx 0 1) 1 1 wants.Prepare)) ∷ marked 0 (Got 12) ∷
    marked 0 (Wrote (prepare (tx 0 1) 1 (read_lock 0 0 ∷ read_lock 0 1 ∷ []) (own_line 1 0 0 ∷ own_line 3 0 4 ∷ own_line
    4 0 0 ∷ []) [])) ∷
    marked 0 (Sent 13 1 (messages.Answer 12 (answers.Yes 0))) ∷ marked 1 (Got 13) ∷ marked 1 (Told replies.Unknown) ∷
    marked 1 (Fell falls.Disk (Some (commit (stamp 1 0) (tx 0 1) (operation 0 0 (Some 0) ∷ operation 0 1 (Some 0) ∷
    operation 0 2 (Some 2) ∷ operation 0 0 (Some 0) ∷ [])))) ∷
    marked 3 (Phase 2) ∷
    marked 1 (Rose ((commit (stamp 1 0) (tx 0 1) (operation 0 0 (Some 0) ∷ operation 0 1 (Some 0) ∷ operation 0 2 (Some
    2) ∷ operation 0 0 (Some 0) ∷ [])) ∷ [])) ∷
    marked 1 (Wrote records.Life) ∷ marked 1 (Called commands.Begin) ∷ marked 1 (Told (replies.Began (tx_in 0 2 1))) ∷
    marked 1 (Called (commands.Do 0 2)) ∷
    marked 1 (Sent 14 0 (messages.Request (tx_in 0 2 1) 1 0 (wants.Append 0 [] (own_line 1 0 4 ∷ [])))) ∷
    marked 0 (Got 14) ∷ marked 0 (Sent 15 1 (messages.Answer 14 (answers.Clash (tx 0 1) 0 4))) ∷
    marked 0 (Sent 16 1 (messages.Inquiry (tx 0 1))) ∷ marked 1 (Got 15) ∷
    marked 1 (Told (replies.Conflict (tx 0 1) 0)) ∷ marked 1 (Got 16) ∷
    marked 1 (Sent 17 0 (messages.Decision (tx 0 1) (outcomes.Committed (stamp 1 0)))) ∷
    marked 1 (Called (commands.Do 0 2)) ∷ marked 0 (Got 17) ∷ marked 1 (Told replies.Doomed) ∷
    marked 1 (Called (commands.Do 0 2)) ∷ marked 1 (Told replies.Doomed) ∷ marked 0 (Wrote (records.Done (tx 0 1) 1)) ∷
    marked 3 (Phase 3) ∷ marked 1 (Called (commands.Do 0 1)) ∷ marked 1 (Told replies.Doomed) ∷
    marked 1 (Called commands.Commit) ∷ marked 1 (Sent 18 0 (messages.Decision (tx_in 0 2 1) outcomes.Aborted)) ∷
    marked 1 (Told (replies.Aborted causes.Doomed)) ∷ marked 0 (Got 18) ∷ marked 3 (Phase 4) ∷
    marked 1 (Called commands.Begin) ∷ marked 1 (Told (replies.Began (tx_in 0 2 2))) ∷
    marked 1 (Called (commands.Do 0 2)) ∷
    marked 1 (Sent 19 0 (messages.Request (tx_in 0 2 2) 1 0 (wants.Append 0 [] (own_line 1 0 4 ∷ [])))) ∷
    marked 0 (Got 19) ∷ marked 0 (Sent 20 1 (messages.Answer 19 (answers.Granted (whole_grant 1 1 []))))
    ∷ marked 1 (Got 20) ∷
    marked 1 (Told (replies.Response 2)) ∷ marked 1 (Called commands.Commit) ∷
    marked 1 (Sent 21 0 (messages.Request (tx_in 0 2 2) 1 1 wants.Prepare)) ∷ marked 0 (Got 21) ∷
    marked 0 (Wrote (prepare (tx_in 0 2 2) 1 [] (own_line 1 0 4 ∷ []) [])) ∷
    marked 0 (Sent 22 1 (messages.Answer 21 (answers.Yes 1))) ∷ marked 1 (Got 22) ∷
    marked 1 (Wrote (commit (stamp 2 0) (tx_in 0 2 2) (operation 0 2 (Some 2) ∷ []))) ∷
    marked 1 (Sent 23 0 (messages.Decision (tx_in 0 2 2) (outcomes.Committed (stamp 2 0)))) ∷
    marked 1 (Told (replies.Committed (stamp 2 0))) ∷ marked 0 (Got 23) ∷ marked 1 (Called commands.Begin) ∷
    marked 1 (Told (replies.Began (tx_in 0 2 3))) ∷ marked 1 (Called (commands.Do 0 1)) ∷
    marked 0 (Wrote (records.Done (tx_in 0 2 2) 2)) ∷
    marked 1 (Sent 24 0 (messages.Request (tx_in 0 2 3) 1 0 (wants.Read (first_read 0 1)))) ∷ marked 0 (Got 24) ∷
    marked 0
    (Sent 25 1
    (messages.Answer 24
    (answers.Granted (whole_grant 1 2
    (line 1 0 1 1 0 0 ∷ line 1 0 1 3 0 4 ∷ line 1 0 1 4 0 0 ∷ line_in 2 0 2 2 1 0 4 ∷ []))))) ∷
    marked 1 (Got 25) ∷ marked 1 (Told replies.Absent) ∷ marked 1 (Called (commands.Do 0 2)) ∷
    marked 1 (Sent 26 0 (messages.Request (tx_in 0 2 3) 1 1 (wants.Append 0 (line 1 0 1 1 0 0 ∷ line 1 0 1 3 0 4 ∷ line
    1 0 1 4 0 0 ∷ line_in 2 0 2 2 1 0 4 ∷ []) (own_line 2 0 4 ∷ [])))) ∷
    marked 0 (Got 26) ∷ marked 0 (Sent 27 1 (messages.Answer 26 (answers.Granted (whole_grant 1 2 []))))
    ∷ marked 1 (Got 27) ∷
    marked 1 (Told (replies.Response 2)) ∷ []
