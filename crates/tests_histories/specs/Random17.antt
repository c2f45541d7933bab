-- Random: sites 4, clients 2, steps 130, messages 43, lost 10, commits 4, aborts 1, short rounds 4.
use Rattle.std.specs.Prelude.{List, [], ◌∷◌, Some}
use Rattle.qc_decl.specs.declared.declaration.Declaration.{Declaration}
use Rattle.qc_decl.specs.Vocabulary.{row}
use Rattle.qc_msg.specs.Vocabulary.{Entry, marked}
use Rattle.tests_histories.specs.Play.{Move, Takes, Posts, Acts}
use Rattle.tests_histories.specs.Words.{tx, stamp, own_line, operation, read_lock, prepare, commit, declaration, kind}
use Rattle.tests_histories.specs.Words.{pair, plan}
use Rattle.qc_msg.specs.declared.step.Step.TheVariants.{Phase, Called, Got, Lost, Wrote, Sent, Told}
use Rattle.qc_msg.specs.declared.message.Answer.TheVariants as answers
use Rattle.qc_msg.specs.declared.reply.AbortCause.TheVariants as causes
use Rattle.qc_msg.specs.declared.step.Command.TheVariants as commands
use Rattle.qc_msg.specs.declared.reply.Half.TheVariants as halves
use Rattle.qc_msg.specs.declared.message.Message.TheVariants as messages
use Rattle.qc_msg.specs.declared.message.Outcome.TheVariants as outcomes
use Rattle.qc_msg.specs.declared.record.Record.TheVariants as records
use Rattle.qc_msg.specs.declared.reply.Reply.TheVariants as replies
use Rattle.qc_msg.specs.declared.message.Want.TheVariants as wants
use Rattle.qc_msg.specs.Vocabulary.{whole_grant, first_read}

abbrev pub decl : Declaration
decl =
    declaration 4 2 (kind 7 3 4 0 (row 0 0 0 1 ∷ row 0 1 0 2 ∷ row 1 0 0 3 ∷ row 1 1 0 4 ∷ row 2 0 0 5 ∷ row 2 1 0 6 ∷
    row 0 2 3 0 ∷ row 1 2 1 0 ∷ row 2 2 2 0 ∷ row 3 2 1 1 ∷ row 4 2 1 2 ∷ row 5 2 2 1 ∷ row 6 2 2 2 ∷ []) (pair 0 0 ∷
    pair 0 1 ∷ pair 0 3 ∷ pair 0 4 ∷ pair 1 0 ∷ pair 1 1 ∷ pair 1 3 ∷ pair 1 4 ∷ pair 2 0 ∷ pair 2 1 ∷ pair 2 3 ∷ pair 2
    4 ∷ []) ∷ []) (0 ∷ 0 ∷ []) (plan (1 ∷ 0 ∷ 1 ∷ 1 ∷ []) ((2 ∷ 2 ∷ 2 ∷ []) ∷ (1 ∷ 2 ∷ 1 ∷ []) ∷ []) ((2 ∷ 3 ∷ 0 ∷ 2 ∷ 2
    ∷ []) ∷ (3 ∷ 3 ∷ 3 ∷ 3 ∷ 3 ∷ []) ∷ []) ∷ [])

abbrev pub moves : List Move
moves =
    Acts (Phase 1) ∷ Takes 5 (Called commands.Begin) ∷ Posts 5 ∷ Takes 5 (Called (commands.Do 1 2)) ∷ Posts 5 ∷
    Takes 5 (Lost 0) ∷ Posts 5 ∷ Takes 5 (Lost 1) ∷ Posts 5 ∷ Takes 5 (Lost 2) ∷ Posts 5 ∷
    Takes 5 (Called commands.Commit) ∷ Posts 5 ∷ Takes 3 (Got 5) ∷ Posts 3 ∷ Takes 0 (Got 3) ∷ Posts 0 ∷
    Takes 5 (Called commands.Begin) ∷ Takes 2 (Got 4) ∷ Posts 2 ∷ Posts 5 ∷ Takes 5 (Called commands.Commit) ∷ Posts 5 ∷
    Acts (Phase 2) ∷ Takes 5 (Called commands.Begin) ∷ Takes 4 (Called commands.Begin) ∷ Posts 4 ∷ Posts 5 ∷
    Takes 5 (Called (commands.Do 1 1)) ∷ Posts 5 ∷ Takes 2 (Got 6) ∷ Takes 3 (Got 7) ∷ Posts 2 ∷ Takes 5 (Got 8) ∷
    Posts 5 ∷ Posts 3 ∷ Takes 5 (Lost 7) ∷ Posts 5 ∷ Takes 0 (Got 10) ∷ Posts 0 ∷ Takes 5 (Lost 10) ∷ Posts 5 ∷
    Takes 5 (Called commands.Commit) ∷ Posts 5 ∷ Takes 2 (Got 12) ∷ Posts 2 ∷ Takes 5 (Got 13) ∷ Posts 5 ∷
    Takes 3 (Got 16) ∷ Posts 3 ∷ Takes 2 (Got 15) ∷ Posts 2 ∷ Takes 0 (Got 14) ∷ Posts 0 ∷ Acts (Phase 3) ∷
    Takes 5 (Got 8) ∷ Posts 5 ∷ Takes 4 (Called (commands.Do 1 1)) ∷ Posts 4 ∷ Takes 4 (Lost 17) ∷ Posts 4 ∷
    Takes 5 (Called commands.Begin) ∷ Takes 4 (Lost 18) ∷ Posts 5 ∷ Takes 5 (Called (commands.Do 0 2)) ∷ Posts 4 ∷
    Takes 4 (Lost 19) ∷ Posts 4 ∷ Takes 4 (Called (commands.Do 1 0)) ∷ Posts 4 ∷ Takes 0 (Got 20) ∷ Posts 5 ∷
    Takes 2 (Got 21) ∷ Takes 3 (Got 22) ∷ Posts 2 ∷ Takes 5 (Got 23) ∷ Posts 5 ∷ Posts 3 ∷ Posts 0 ∷ Takes 4 (Lost 20) ∷
    Posts 4 ∷ Takes 2 (Got 26) ∷ Posts 2 ∷ Takes 4 (Got 27) ∷ Posts 4 ∷ Takes 3 (Got 30) ∷ Takes 2 (Got 29) ∷
    Takes 0 (Got 28) ∷ Takes 5 (Got 24) ∷ Posts 2 ∷ Takes 4 (Got 31) ∷ Posts 4 ∷ Posts 5 ∷ Posts 3 ∷
    Takes 5 (Called commands.Commit) ∷ Takes 4 (Lost 30) ∷ Posts 4 ∷ Posts 5 ∷ Takes 2 (Got 33) ∷ Takes 3 (Got 34) ∷
    Posts 0 ∷ Takes 4 (Got 35) ∷ Posts 4 ∷ Takes 4 (Called commands.Commit) ∷ Posts 4 ∷ Takes 0 (Got 36) ∷ Posts 0 ∷
    Posts 3 ∷ Takes 5 (Got 39) ∷ Posts 5 ∷ Takes 3 (Got 38) ∷ Posts 3 ∷ Posts 2 ∷ Takes 2 (Got 37) ∷ Posts 2 ∷
    Takes 5 (Got 40) ∷ Posts 5 ∷ Takes 3 (Got 42) ∷ Takes 2 (Got 41) ∷ Posts 3 ∷ Posts 2 ∷ []

abbrev pub history : List Entry
history =
    marked 7 (Phase 1) ∷ marked 5 (Called commands.Begin) ∷ marked 5 (Told (replies.Began (tx 1 1))) ∷
    marked 5 (Called (commands.Do 1 2)) ∷
    marked 5 (Sent 0 2 (messages.Request (tx 1 1) 1 0 (wants.Read (first_read 1 2))))
    ∷
    marked 5 (Lost 0) ∷ marked 5 (Sent 1 3 (messages.Request (tx 1 1) 1 0 (wants.Read (first_read 1 2))))
    ∷ marked 5 (Lost 1) ∷
    marked 5 (Sent 2 0 (messages.Request (tx 1 1) 1 0 (wants.Read (first_read 1 2)))) ∷ marked 5 (Lost 2) ∷
    marked 5 (Told (replies.Quorum halves.Read 0 1)) ∷ marked 5 (Called commands.Commit) ∷
    marked 5 (Wrote (commit (stamp 1 1) (tx 1 1) [])) ∷
    marked 5 (Sent 3 0 (messages.Decision (tx 1 1) (outcomes.Committed (stamp 1 1)))) ∷
    marked 5 (Sent 4 2 (messages.Decision (tx 1 1) (outcomes.Committed (stamp 1 1)))) ∷
    marked 5 (Sent 5 3 (messages.Decision (tx 1 1) (outcomes.Committed (stamp 1 1)))) ∷
    marked 5 (Told (replies.Committed (stamp 1 1))) ∷ marked 3 (Got 5) ∷ marked 0 (Got 3) ∷
    marked 5 (Called commands.Begin) ∷ marked 2 (Got 4) ∷ marked 5 (Told (replies.Began (tx 1 2))) ∷
    marked 5 (Called commands.Commit) ∷ marked 5 (Wrote (commit (stamp 2 1) (tx 1 2) [])) ∷
    marked 5 (Told (replies.Committed (stamp 2 1))) ∷ marked 7 (Phase 2) ∷ marked 5 (Called commands.Begin) ∷
    marked 4 (Called commands.Begin) ∷ marked 4 (Told (replies.Began (tx 0 1))) ∷
    marked 5 (Told (replies.Began (tx 1 3))) ∷ marked 5 (Called (commands.Do 1 1)) ∷
    marked 5 (Sent 6 2 (messages.Request (tx 1 3) 1 0 (wants.Read (first_read 1 1)))) ∷
    marked 5 (Sent 7 3 (messages.Request (tx 1 3) 1 0 (wants.Read (first_read 1 1)))) ∷ marked 2 (Got 6) ∷
    marked 3 (Got 7)
    ∷
    marked 2 (Sent 8 5 (messages.Answer 6 (answers.Granted (whole_grant 1 1 [])))) ∷ marked 5 (Got 8) ∷
    marked 3 (Sent 9 5 (messages.Answer 7 (answers.Granted (whole_grant 1 1 [])))) ∷ marked 5 (Lost 7) ∷
    marked 5 (Sent 10 0 (messages.Request (tx 1 3) 1 0 (wants.Read (first_read 1 1)))) ∷ marked 0 (Got 10) ∷
    marked 0 (Sent 11 5 (messages.Answer 10 (answers.Granted (whole_grant 1 1 [])))) ∷ marked 5 (Lost 10) ∷
    marked 5 (Told (replies.Quorum halves.Read 1 2)) ∷ marked 5 (Called commands.Commit) ∷
    marked 5 (Sent 12 2 (messages.Request (tx 1 3) 1 1 wants.Prepare)) ∷ marked 2 (Got 12) ∷
    marked 2 (Wrote (prepare (tx 1 3) 1 (read_lock 1 1 ∷ []) [] [])) ∷
    marked 2 (Sent 13 5 (messages.Answer 12 (answers.Yes 1))) ∷ marked 5 (Got 13) ∷
    marked 5 (Wrote (commit (stamp 3 1) (tx 1 3) [])) ∷
    marked 5 (Sent 14 0 (messages.Decision (tx 1 3) (outcomes.Committed (stamp 3 1)))) ∷
    marked 5 (Sent 15 2 (messages.Decision (tx 1 3) (outcomes.Committed (stamp 3 1)))) ∷
    marked 5 (Sent 16 3 (messages.Decision (tx 1 3) (outcomes.Committed (stamp 3 1)))) ∷
    marked 5 (Told (replies.Committed (stamp 3 1))) ∷ marked 3 (Got 16) ∷ marked 2 (Got 15) ∷
    marked 2 (Wrote (records.Done (tx 1 3) 3)) ∷ marked 0 (Got 14) ∷ marked 7 (Phase 3) ∷ marked 5 (Got 8) ∷
    marked 4 (Called (commands.Do 1 1))
    ∷ marked 4 (Sent 17 0 (messages.Request (tx 0 1) 1 0 (wants.Read (first_read 1 1)))) ∷
    marked 4 (Sent 18 2 (messages.Request (tx 0 1) 1 0 (wants.Read (first_read 1 1)))) ∷ marked 4 (Lost 17) ∷
    marked 5 (Called commands.Begin) ∷ marked 4 (Lost 18) ∷ marked 5 (Told (replies.Began (tx 1 4))) ∷
    marked 5 (Called (commands.Do 0 2))
    ∷ marked 4 (Sent 19 3 (messages.Request (tx 0 1) 1 0 (wants.Read (first_read 1 1)))) ∷
    marked 4 (Lost 19) ∷ marked 4 (Told (replies.Quorum halves.Read 0 2)) ∷ marked 4 (Called (commands.Do 1 0)) ∷
    marked 4 (Sent 20 0 (messages.Request (tx 0 1) 1 0 (wants.Read (first_read 1 0)))) ∷ marked 0 (Got 20) ∷
    marked 5 (Sent 21 2 (messages.Request (tx 1 4) 1 0 (wants.Read (first_read 0 2)))) ∷
    marked 5 (Sent 22 3 (messages.Request (tx 1 4) 1 0 (wants.Read (first_read 0 2)))) ∷ marked 2 (Got 21)
    ∷ marked 3 (Got 22) ∷
    marked 2 (Sent 23 5 (messages.Answer 21 (answers.Granted (whole_grant 1 3 [])))) ∷ marked 5 (Got 23) ∷
    marked 3 (Sent 24 5 (messages.Answer 22 (answers.Granted (whole_grant 1 3 [])))) ∷
    marked 0 (Sent 25 4 (messages.Answer 20 (answers.Granted (whole_grant 1 3 [])))) ∷ marked 4 (Lost 20) ∷
    marked 4 (Sent 26 2 (messages.Request (tx 0 1) 1 0 (wants.Read (first_read 1 0)))) ∷ marked 2 (Got 26) ∷
    marked 2 (Sent 27 4 (messages.Answer 26 (answers.Granted (whole_grant 1 3 [])))) ∷ marked 4 (Got 27) ∷
    marked 4 (Sent 28 0 (messages.Request (tx 0 1) 1 0 (wants.Append 1 [] (own_line 1 1 0 ∷ [])))) ∷
    marked 4 (Sent 29 2 (messages.Request (tx 0 1) 1 1 (wants.Append 1 [] (own_line 1 1 0 ∷ [])))) ∷
    marked 4 (Sent 30 3 (messages.Request (tx 0 1) 1 0 (wants.Append 1 [] (own_line 1 1 0 ∷ [])))) ∷ marked 3 (Got 30) ∷
    marked 2 (Got 29) ∷ marked 0 (Got 28) ∷ marked 5 (Got 24) ∷
    marked 2 (Sent 31 4 (messages.Answer 29 (answers.Granted (whole_grant 1 3 [])))) ∷ marked 4 (Got 31) ∷
    marked 5 (Told (replies.Response 3))
    ∷ marked 3 (Sent 32 4 (messages.Answer 30 (answers.Granted (whole_grant 1 3 [])))) ∷
    marked 5 (Called commands.Commit) ∷ marked 4 (Lost 30) ∷
    marked 5 (Sent 33 2 (messages.Request (tx 1 4) 1 1 wants.Prepare)) ∷
    marked 5 (Sent 34 3 (messages.Request (tx 1 4) 1 1 wants.Prepare)) ∷ marked 2 (Got 33) ∷ marked 3 (Got 34) ∷
    marked 0 (Sent 35 4 (messages.Answer 28 (answers.Granted (whole_grant 1 3 [])))) ∷ marked 4 (Got 35) ∷
    marked 4 (Told (replies.Quorum halves.Append 2 3)) ∷ marked 4 (Called commands.Commit) ∷
    marked 4 (Sent 36 0 (messages.Decision (tx 0 1) outcomes.Aborted)) ∷
    marked 4 (Sent 37 2 (messages.Decision (tx 0 1) outcomes.Aborted)) ∷
    marked 4 (Sent 38 3 (messages.Decision (tx 0 1) outcomes.Aborted)) ∷
    marked 4 (Told (replies.Aborted causes.Doomed)) ∷ marked 0 (Got 36) ∷
    marked 3 (Wrote (prepare (tx 1 4) 1 (read_lock 0 2 ∷ []) [] [])) ∷
    marked 3 (Sent 39 5 (messages.Answer 34 (answers.Yes 3))) ∷ marked 5 (Got 39) ∷ marked 3 (Got 38) ∷
    marked 2 (Wrote (prepare (tx 1 4) 1 (read_lock 0 2 ∷ []) [] [])) ∷
    marked 2 (Sent 40 5 (messages.Answer 33 (answers.Yes 3))) ∷ marked 2 (Got 37) ∷ marked 5 (Got 40) ∷
    marked 5 (Wrote (commit (stamp 4 1) (tx 1 4) (operation 0 2 (Some 3) ∷ []))) ∷
    marked 5 (Sent 41 2 (messages.Decision (tx 1 4) (outcomes.Committed (stamp 4 1)))) ∷
    marked 5 (Sent 42 3 (messages.Decision (tx 1 4) (outcomes.Committed (stamp 4 1)))) ∷
    marked 5 (Told (replies.Committed (stamp 4 1))) ∷ marked 3 (Got 42) ∷ marked 2 (Got 41) ∷
    marked 3 (Wrote (records.Done (tx 1 4) 4)) ∷ marked 2 (Wrote (records.Done (tx 1 4) 4)) ∷ []
