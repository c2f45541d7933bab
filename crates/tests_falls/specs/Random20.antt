-- Random: sites 2, clients 2, steps 108, messages 32, lost 3, commits 2, aborts 1, conflicts 2, short rounds 2, falls
-- 2, rises 1, unwritten records 2.
use Rattle.std.specs.Prelude.{List, [], ◌∷◌, Some, false}
use Rattle.qc_decl.specs.declared.declaration.Declaration.{Declaration}
use Rattle.qc_decl.specs.Vocabulary.{row}
use Rattle.qc_msg.specs.Vocabulary.{Entry, marked}
use Rattle.tests_histories.specs.Words.{tx, stamp, own_line, operation, read_lock, prepare, commit, declaration, kind}
use Rattle.tests_histories.specs.Words.{pair, plan}
use Rattle.qc_msg.specs.declared.step.Step.TheVariants.{Phase, Called, Got, Lost, Wrote, Sent, Told, Fell, Rose}
use Rattle.qc_msg.specs.declared.turn.Appended.TheVariants.{Done, Failed, Stopped}
use Rattle.tests_falls.specs.Words.{tx_in}
use Rattle.tests_falls.specs.Perform.{Move, Begins, Takes, Posts, Rises}
use Rattle.qc_msg.specs.declared.message.Answer.TheVariants as answers
use Rattle.qc_msg.specs.declared.reply.AbortCause.TheVariants as causes
use Rattle.qc_msg.specs.declared.step.Command.TheVariants as commands
use Rattle.qc_msg.specs.declared.reply.Half.TheVariants as halves
use Rattle.qc_msg.specs.declared.message.Message.TheVariants as messages
use Rattle.qc_msg.specs.declared.message.Outcome.TheVariants as outcomes
use Rattle.qc_msg.specs.declared.record.Record.TheVariants as records
use Rattle.qc_msg.specs.declared.reply.Reply.TheVariants as replies
use Rattle.qc_msg.specs.declared.message.Want.TheVariants as wants
use Rattle.qc_msg.specs.declared.step.Fall.TheVariants as falls
use Rattle.qc_msg.specs.Vocabulary.{whole_grant, first_read}

abbrev pub decl : Declaration
decl =
    declaration 2 2 (kind 2 2 3 0 (row 0 0 0 1 ∷ row 1 0 1 1 ∷ row 0 1 2 0 ∷ row 1 1 2 0 ∷ []) (pair 0 0 ∷ pair 0 2 ∷
    []) ∷ []) (0 ∷ []) (plan (1 ∷ 1 ∷ []) ((2 ∷ 0 ∷ []) ∷ []) ((1 ∷ 0 ∷ 1 ∷ []) ∷ []) ∷ plan (1 ∷ 1 ∷ []) ((2 ∷ 1 ∷ [])
    ∷ []) ((1 ∷ 0 ∷ 1 ∷ []) ∷ []) ∷ [])

abbrev pub moves : List Move
moves =
    Begins ∷ Takes 3 ∷ Posts 3 Done ∷ Takes 3 ∷ Posts 3 Done ∷ Takes 1 ∷ Posts 1 Done ∷ Takes 3 ∷ Posts 3 Done ∷
    Takes 3 ∷ Posts 3 Done ∷ Takes 1 ∷ Posts 1 Done ∷ Takes 3 ∷ Posts 3 Failed ∷ Begins ∷ Rises false Done ∷ Takes 2 ∷
    Posts 2 Done ∷ Takes 3 ∷ Posts 3 Done ∷ Takes 3 ∷ Posts 3 Done ∷ Takes 2 ∷ Posts 2 Done ∷ Takes 2 ∷ Takes 3 ∷
    Posts 3 Done ∷ Takes 1 ∷ Posts 1 Done ∷ Takes 0 ∷ Takes 3 ∷ Posts 3 Done ∷ Posts 0 Done ∷ Posts 2 Done ∷ Takes 3 ∷
    Posts 3 Done ∷ Takes 3 ∷ Posts 3 Done ∷ Takes 0 ∷ Posts 0 Done ∷ Takes 3 ∷ Posts 3 Done ∷ Takes 0 ∷ Posts 0 Done ∷
    Takes 1 ∷ Posts 1 Done ∷ Takes 2 ∷ Posts 2 Done ∷ Takes 3 ∷ Posts 3 Done ∷ Takes 0 ∷ Takes 2 ∷ Posts 0 Stopped ∷
    Posts 2 Done ∷ Takes 2 ∷ Posts 2 Done ∷ Takes 2 ∷ Posts 2 Done ∷ Takes 1 ∷ Takes 2 ∷ Posts 2 Done ∷ Posts 1 Done ∷
    Takes 3 ∷ Posts 3 Done ∷ Takes 3 ∷ Posts 3 Done ∷ Takes 3 ∷ Takes 1 ∷ Posts 1 Done ∷ Posts 3 Done ∷ Takes 2 ∷
    Posts 2 Done ∷ Takes 2 ∷ Posts 2 Done ∷ Takes 3 ∷ Posts 3 Done ∷ Takes 1 ∷ Posts 1 Done ∷ Takes 3 ∷ Posts 3 Done ∷
    Takes 3 ∷ Posts 3 Done ∷ Takes 1 ∷ Posts 1 Done ∷ Takes 1 ∷ Posts 1 Done ∷ Takes 3 ∷ Posts 3 Done ∷ Takes 1 ∷
    Posts 1 Done ∷ Takes 2 ∷ Posts 2 Done ∷ Takes 1 ∷ Posts 1 Done ∷ []

abbrev pub history : List Entry
history =
    marked 5 (Phase 1) ∷ marked 3 (Called commands.Begin) ∷ marked 3 (Told (replies.Began (tx 1 1))) ∷
    marked 3 (Called (commands.Do 0 1)) ∷
    marked 3 (Sent 0 1 (messages.Request (tx 1 1) 1 0 (wants.Append 0 [] (own_line 1 0 2 ∷ [])))) ∷ marked 1 (Got 0) ∷
    marked 1 (Sent 1 3 (messages.Answer 0 (answers.Granted (whole_grant 1 0 [])))) ∷ marked 3 (Got 1) ∷
    marked 3 (Told (replies.Response 2)) ∷ marked 3 (Called commands.Commit) ∷
    marked 3 (Sent 2 1 (messages.Request (tx 1 1) 1 1 wants.Prepare)) ∷ marked 1 (Got 2) ∷
    marked 1 (Wrote (prepare (tx 1 1) 1 [] (own_line 1 0 2 ∷ []) [])) ∷
    marked 1 (Sent 3 3 (messages.Answer 2 (answers.Yes 0))) ∷ marked 3 (Got 3) ∷ marked 3 (Told replies.Unknown) ∷
    marked 3 (Fell falls.Disk (Some (commit (stamp 1 1) (tx 1 1) (operation 0 1 (Some 2) ∷ [])))) ∷ marked 5 (Phase 2) ∷
    marked 3 (Rose []) ∷ marked 3 (Wrote records.Life) ∷ marked 2 (Called commands.Abort) ∷
    marked 2 (Told replies.NoTransaction) ∷ marked 3 (Called commands.Abort) ∷ marked 3 (Told replies.NoTransaction) ∷
    marked 3 (Called commands.Begin) ∷ marked 3 (Told (replies.Began (tx_in 1 2 1))) ∷
    marked 2 (Called commands.Begin) ∷ marked 2 (Told (replies.Began (tx 0 1))) ∷ marked 2 (Called (commands.Do 0 1)) ∷
    marked 3 (Called (commands.Do 0 0))
    ∷ marked 3 (Sent 4 1 (messages.Request (tx_in 1 2 1) 1 0 (wants.Read (first_read 0 0)))) ∷
    marked 3 (Sent 5 0 (messages.Request (tx_in 1 2 1) 1 0 (wants.Read (first_read 0 0)))) ∷ marked 1 (Got 4) ∷
    marked 1 (Sent 6 3 (messages.Answer 4 (answers.Clash (tx 1 1) 0 2))) ∷
    marked 1 (Sent 7 3 (messages.Inquiry (tx 1 1))) ∷ marked 0 (Got 5) ∷ marked 3 (Got 6) ∷
    marked 0 (Sent 8 3 (messages.Answer 5 (answers.Granted (whole_grant 1 0 [])))) ∷
    marked 2 (Sent 9 0 (messages.Request (tx 0 1) 1 0 (wants.Append 0 [] (own_line 1 0 2 ∷ [])))) ∷ marked 3 (Got 7) ∷
    marked 3 (Sent 10 1 (messages.Decision (tx 1 1) outcomes.Aborted)) ∷ marked 3 (Got 8) ∷
    marked 3 (Told (replies.Conflict (tx 1 1) 1)) ∷ marked 0 (Got 9) ∷
    marked 0 (Sent 11 2 (messages.Answer 9 (answers.Clash (tx_in 1 2 1) 0 2))) ∷
    marked 0 (Sent 12 3 (messages.Inquiry (tx_in 1 2 1))) ∷ marked 3 (Got 12) ∷
    marked 3 (Sent 13 0 (messages.Decision (tx_in 1 2 1) outcomes.Active)) ∷ marked 0 (Got 13) ∷ marked 1 (Got 10) ∷
    marked 2 (Got 11) ∷ marked 2 (Told (replies.Conflict (tx_in 1 2 1) 0)) ∷ marked 3 (Called commands.Commit) ∷
    marked 3 (Sent 14 0 (messages.Request (tx_in 1 2 1) 1 1 wants.Prepare)) ∷ marked 0 (Got 14) ∷
    marked 2 (Called commands.Abort) ∷
    marked 0 (Fell falls.Stop (Some (prepare (tx_in 1 2 1) 1 (read_lock 0 0 ∷ []) [] []))) ∷
    marked 2 (Sent 15 0 (messages.Decision (tx 0 1) outcomes.Aborted)) ∷ marked 2 (Told replies.Dropped) ∷
    marked 2 (Called commands.Begin) ∷ marked 2 (Told (replies.Began (tx 0 2))) ∷ marked 2 (Called (commands.Do 0 0)) ∷
    marked 2 (Sent 16 0 (messages.Request (tx 0 2) 1 0 (wants.Read (first_read 0 0)))) ∷
    marked 2 (Sent 17 1 (messages.Request (tx 0 2) 1 0 (wants.Read (first_read 0 0)))) ∷ marked 1 (Got 17)
    ∷ marked 2 (Lost 16) ∷
    marked 1 (Sent 18 2 (messages.Answer 17 (answers.Granted (whole_grant 1 0 [])))) ∷ marked 3 (Lost 14) ∷
    marked 3 (Sent 19 0 (messages.Decision (tx_in 1 2 1) outcomes.Aborted)) ∷
    marked 3 (Sent 20 1 (messages.Decision (tx_in 1 2 1) outcomes.Aborted)) ∷
    marked 3 (Told (replies.Aborted (causes.NoAnswer 0))) ∷ marked 3 (Called commands.Begin) ∷
    marked 3 (Told (replies.Began (tx_in 1 2 2))) ∷ marked 3 (Called (commands.Do 0 0)) ∷ marked 1 (Got 20) ∷
    marked 3 (Sent 21 1 (messages.Request (tx_in 1 2 2) 1 0 (wants.Read (first_read 0 0)))) ∷
    marked 3 (Sent 22 0 (messages.Request (tx_in 1 2 2) 1 0 (wants.Read (first_read 0 0)))) ∷ marked 2 (Got 18) ∷
    marked 2 (Told (replies.Quorum halves.Read 1 2)) ∷ marked 2 (Called commands.Commit) ∷
    marked 2 (Sent 23 1 (messages.Request (tx 0 2) 1 1 wants.Prepare)) ∷ marked 3 (Lost 22) ∷ marked 1 (Got 21) ∷
    marked 1 (Sent 24 3 (messages.Answer 21 (answers.Granted (whole_grant 1 0 [])))) ∷ marked 3 (Got 24) ∷
    marked 3 (Told (replies.Quorum halves.Read 1 2)) ∷ marked 3 (Called commands.Commit) ∷
    marked 3 (Sent 25 1 (messages.Request (tx_in 1 2 2) 1 1 wants.Prepare)) ∷ marked 1 (Got 23) ∷
    marked 1 (Wrote (prepare (tx 0 2) 1 (read_lock 0 0 ∷ []) [] [])) ∷
    marked 1 (Sent 26 2 (messages.Answer 23 (answers.Yes 0))) ∷ marked 1 (Got 25) ∷
    marked 1 (Wrote (prepare (tx_in 1 2 2) 1 (read_lock 0 0 ∷ []) [] [])) ∷
    marked 1 (Sent 27 3 (messages.Answer 25 (answers.Yes 0))) ∷ marked 3 (Got 27) ∷
    marked 3 (Wrote (commit (stamp 1 1) (tx_in 1 2 2) [])) ∷
    marked 3 (Sent 28 0 (messages.Decision (tx_in 1 2 2) (outcomes.Committed (stamp 1 1)))) ∷
    marked 3 (Sent 29 1 (messages.Decision (tx_in 1 2 2) (outcomes.Committed (stamp 1 1)))) ∷
    marked 3 (Told (replies.Committed (stamp 1 1))) ∷ marked 1 (Got 29) ∷
    marked 1 (Wrote (records.Done (tx_in 1 2 2) 1)) ∷ marked 2 (Got 26) ∷
    marked 2 (Wrote (commit (stamp 1 0) (tx 0 2) [])) ∷
    marked 2 (Sent 30 0 (messages.Decision (tx 0 2) (outcomes.Committed (stamp 1 0)))) ∷
    marked 2 (Sent 31 1 (messages.Decision (tx 0 2) (outcomes.Committed (stamp 1 0)))) ∷
    marked 2 (Told (replies.Committed (stamp 1 0))) ∷ marked 1 (Got 31) ∷ marked 1 (Wrote (records.Done (tx 0 2) 1)) ∷
    []
