-- Random: sites 2, clients 4, steps 151, messages 44, lost 1, cuts 3, commits 3, aborts 1, conflicts 4, absent 3.
use Rattle.std.specs.Prelude.{List, [], ◌∷◌, Some, None}
use Rattle.qc_decl.specs.declared.declaration.Declaration.{Declaration}
use Rattle.qc_decl.specs.Vocabulary.{row}
use Rattle.qc_msg.specs.Vocabulary.{Entry, marked}
use Rattle.tests_histories.specs.Play.{Move, Takes, Posts, Acts}
use Rattle.tests_histories.specs.Words.{tx, stamp, own_line, operation, read_lock, prepare, commit, declaration, kind}
use Rattle.tests_histories.specs.Words.{pair, plan}
use Rattle.qc_msg.specs.declared.step.Step.TheVariants.{Phase, Cut, Heal, Called, Got, Lost, Wrote, Sent, Told}
use Rattle.qc_msg.specs.declared.message.Answer.TheVariants as answers
use Rattle.qc_msg.specs.declared.reply.AbortCause.TheVariants as causes
use Rattle.qc_msg.specs.declared.step.Command.TheVariants as commands
use Rattle.qc_msg.specs.declared.message.Message.TheVariants as messages
use Rattle.qc_msg.specs.declared.message.Outcome.TheVariants as outcomes
use Rattle.qc_msg.specs.declared.record.Record.TheVariants as records
use Rattle.qc_msg.specs.declared.reply.Reply.TheVariants as replies
use Rattle.qc_msg.specs.declared.message.Want.TheVariants as wants
use Rattle.qc_msg.specs.Vocabulary.{whole_grant, first_read}

abbrev pub decl : Declaration
decl =
    declaration 2 4 (kind 2 3 1 0 (row 0 1 0 0 ∷ row 0 2 0 1 ∷ row 1 0 0 0 ∷ row 1 2 0 1 ∷ []) (pair 0 1 ∷ pair 0 2 ∷
    pair 1 1 ∷ pair 1 2 ∷ []) ∷ []) (0 ∷ []) (plan (3 ∷ 2 ∷ []) ((3 ∷ 3 ∷ 0 ∷ []) ∷ []) ((0 ∷ 3 ∷ 3 ∷ []) ∷ []) ∷ plan
    (1 ∷ 1 ∷ []) ((2 ∷ 2 ∷ 0 ∷ []) ∷ []) ((1 ∷ 1 ∷ 1 ∷ []) ∷ []) ∷ plan (3 ∷ 1 ∷ []) ((3 ∷ 3 ∷ 0 ∷ []) ∷ []) ((0 ∷ 2 ∷ 2
    ∷ []) ∷ []) ∷ [])

abbrev pub moves : List Move
moves =
    Acts (Phase 1) ∷ Acts (Cut 1 3) ∷ Takes 4 (Called commands.Begin) ∷ Takes 3 (Called commands.Begin) ∷ Posts 4 ∷
    Posts 3 ∷ Takes 4 (Called (commands.Do 0 1)) ∷ Takes 5 (Called commands.Begin) ∷ Posts 4 ∷
    Takes 2 (Called commands.Begin) ∷ Posts 5 ∷ Takes 5 (Called (commands.Do 0 2)) ∷ Posts 5 ∷ Takes 1 (Got 1) ∷
    Posts 1 ∷ Takes 5 (Got 3) ∷ Posts 5 ∷ Posts 2 ∷ Takes 3 (Called (commands.Do 0 0)) ∷ Takes 0 (Got 0) ∷ Posts 3 ∷
    Posts 0 ∷ Takes 3 (Lost 4) ∷ Posts 3 ∷ Takes 2 (Called (commands.Do 0 1)) ∷ Takes 4 (Got 6) ∷ Posts 4 ∷
    Takes 0 (Got 2) ∷ Takes 4 (Called (commands.Do 0 1)) ∷ Posts 0 ∷ Takes 5 (Got 7) ∷ Posts 4 ∷ Posts 2 ∷ Posts 5 ∷
    Takes 4 (Got 8) ∷ Takes 0 (Got 5) ∷ Posts 0 ∷ Takes 0 (Got 9) ∷ Posts 4 ∷ Takes 5 (Called commands.Begin) ∷
    Takes 3 (Got 11) ∷ Posts 0 ∷ Posts 3 ∷ Takes 4 (Got 13) ∷ Posts 4 ∷ Posts 5 ∷ Takes 3 (Called commands.Commit) ∷
    Takes 0 (Got 10) ∷ Posts 0 ∷ Posts 3 ∷ Takes 4 (Called (commands.Do 0 0)) ∷ Posts 4 ∷ Takes 2 (Got 14) ∷
    Takes 0 (Got 12) ∷ Posts 0 ∷ Posts 2 ∷ Takes 2 (Called commands.Abort) ∷ Posts 2 ∷ Takes 0 (Got 15) ∷
    Takes 2 (Called commands.Begin) ∷ Posts 2 ∷ Posts 0 ∷ Takes 3 (Got 18) ∷ Takes 0 (Got 16) ∷
    Takes 2 (Called (commands.Do 0 0)) ∷ Posts 2 ∷ Posts 3 ∷ Posts 0 ∷ Takes 0 (Got 17) ∷ Posts 0 ∷ Takes 4 (Got 22) ∷
    Posts 4 ∷ Takes 0 (Got 19) ∷ Takes 4 (Called commands.Commit) ∷ Posts 0 ∷ Takes 2 (Got 23) ∷ Posts 4 ∷ Posts 2 ∷
    Takes 0 (Got 24) ∷ Posts 0 ∷ Takes 4 (Got 25) ∷ Posts 4 ∷ Takes 0 (Got 26) ∷ Posts 0 ∷
    Takes 4 (Called commands.Begin) ∷ Posts 4 ∷ Takes 4 (Called (commands.Do 0 2)) ∷ Posts 4 ∷ Takes 0 (Got 27) ∷
    Posts 0 ∷ Takes 2 (Got 29) ∷ Takes 4 (Got 28) ∷ Posts 4 ∷ Posts 2 ∷ Takes 0 (Got 30) ∷ Posts 0 ∷ Acts (Phase 2) ∷
    Acts (Heal 1 3) ∷ Acts (Cut 5 1) ∷ Takes 5 (Called (commands.Do 0 2)) ∷ Posts 5 ∷
    Takes 4 (Called (commands.Do 0 0)) ∷ Posts 4 ∷ Takes 3 (Called commands.Begin) ∷ Takes 4 (Called commands.Abort) ∷
    Posts 4 ∷ Takes 0 (Got 31) ∷ Posts 0 ∷ Takes 5 (Called commands.Commit) ∷ Posts 5 ∷ Posts 3 ∷ Takes 0 (Got 32) ∷
    Posts 0 ∷ Takes 3 (Called (commands.Do 0 0)) ∷ Posts 3 ∷ Takes 0 (Got 35) ∷ Posts 0 ∷ Takes 3 (Got 36) ∷ Posts 3 ∷
    Takes 1 (Got 34) ∷ Posts 1 ∷ Takes 3 (Got 37) ∷ Posts 3 ∷ Takes 3 (Called (commands.Do 0 0)) ∷ Posts 3 ∷
    Takes 1 (Got 39) ∷ Takes 0 (Got 40) ∷ Posts 1 ∷ Posts 0 ∷ Takes 3 (Got 41) ∷ Posts 3 ∷ Takes 3 (Got 43) ∷ Posts 3 ∷
    Acts (Phase 3) ∷ Acts (Heal 5 1) ∷ Acts (Cut 5 4) ∷ Takes 5 (Called commands.Begin) ∷ Posts 5 ∷
    Takes 5 (Called commands.Commit) ∷ Posts 5 ∷ []

abbrev pub history : List Entry
history =
    marked 7 (Phase 1) ∷ marked 7 (Cut 1 3) ∷ marked 4 (Called commands.Begin) ∷ marked 3 (Called commands.Begin) ∷
    marked 4 (Told (replies.Began (tx 2 1))) ∷ marked 3 (Told (replies.Began (tx 1 1))) ∷
    marked 4 (Called (commands.Do 0 1)) ∷ marked 5 (Called commands.Begin) ∷
    marked 4 (Sent 0 0 (messages.Request (tx 2 1) 1 0 (wants.Read (first_read 0 1)))) ∷
    marked 2 (Called commands.Begin) ∷
    marked 5 (Told (replies.Began (tx 3 1))) ∷ marked 5 (Called (commands.Do 0 2)) ∷
    marked 5 (Sent 1 1 (messages.Request (tx 3 1) 1 0 (wants.Append 0 [] (own_line 1 0 1 ∷ [])))) ∷
    marked 5 (Sent 2 0 (messages.Request (tx 3 1) 1 0 (wants.Append 0 [] (own_line 1 0 1 ∷ [])))) ∷ marked 1 (Got 1) ∷
    marked 1 (Sent 3 5 (messages.Answer 1 (answers.Granted (whole_grant 1 0 [])))) ∷ marked 5 (Got 3) ∷
    marked 2 (Told (replies.Began (tx 0 1))) ∷ marked 3 (Called (commands.Do 0 0)) ∷ marked 0 (Got 0) ∷
    marked 3 (Sent 4 1 (messages.Request (tx 1 1) 1 0 (wants.Read (first_read 0 0)))) ∷
    marked 3 (Sent 5 0 (messages.Request (tx 1 1) 1 0 (wants.Read (first_read 0 0)))) ∷
    marked 0 (Sent 6 4 (messages.Answer 0 (answers.Granted (whole_grant 1 0 [])))) ∷ marked 3 (Lost 4) ∷
    marked 2 (Called (commands.Do 0 1)) ∷ marked 4 (Got 6) ∷ marked 4 (Told (replies.Response 0)) ∷ marked 0 (Got 2) ∷
    marked 4 (Called (commands.Do 0 1)) ∷ marked 0 (Sent 7 5 (messages.Answer 2 (answers.Clash (tx 2 1) 1 1))) ∷
    marked 0 (Sent 8 4 (messages.Inquiry (tx 2 1))) ∷ marked 5 (Got 7) ∷
    marked 4 (Sent 9 0 (messages.Request (tx 2 1) 1 1 (wants.Read (first_read 0 1)))) ∷
    marked 2 (Sent 10 0 (messages.Request (tx 0 1) 1 0 (wants.Read (first_read 0 1)))) ∷
    marked 5 (Told (replies.Conflict (tx 2 1) 0)) ∷ marked 4 (Got 8) ∷ marked 0 (Got 5) ∷
    marked 0 (Sent 11 3 (messages.Answer 5 (answers.Granted (whole_grant 1 0 [])))) ∷ marked 0 (Got 9) ∷
    marked 4 (Sent 12 0 (messages.Decision (tx 2 1) outcomes.Active)) ∷ marked 5 (Called commands.Begin) ∷
    marked 3 (Got 11) ∷ marked 0 (Sent 13 4 (messages.Answer 9 (answers.Granted (whole_grant 1 0 [])))) ∷
    marked 3 (Told replies.Absent) ∷ marked 4 (Got 13) ∷ marked 4 (Told (replies.Response 0)) ∷
    marked 5 (Told (replies.Already (tx 3 1))) ∷ marked 3 (Called commands.Commit) ∷ marked 0 (Got 10) ∷
    marked 0 (Sent 14 2 (messages.Answer 10 (answers.Granted (whole_grant 1 0 [])))) ∷
    marked 3 (Sent 15 0 (messages.Request (tx 1 1) 1 1 wants.Prepare)) ∷ marked 4 (Called (commands.Do 0 0)) ∷
    marked 4 (Sent 16 0 (messages.Request (tx 2 1) 1 1 (wants.Read (first_read 0 0)))) ∷ marked 2 (Got 14)
    ∷ marked 0 (Got 12) ∷
    marked 2 (Told (replies.Response 0)) ∷ marked 2 (Called commands.Abort) ∷
    marked 2 (Sent 17 0 (messages.Decision (tx 0 1) outcomes.Aborted)) ∷ marked 2 (Told replies.Dropped) ∷
    marked 0 (Got 15) ∷ marked 2 (Called commands.Begin) ∷ marked 2 (Told (replies.Began (tx 0 2))) ∷
    marked 0 (Wrote (prepare (tx 1 1) 1 (read_lock 0 0 ∷ []) [] [])) ∷
    marked 0 (Sent 18 3 (messages.Answer 15 (answers.Yes 0))) ∷ marked 3 (Got 18) ∷ marked 0 (Got 16) ∷
    marked 2 (Called (commands.Do 0 0))
    ∷ marked 2 (Sent 19 0 (messages.Request (tx 0 2) 1 0 (wants.Read (first_read 0 0)))) ∷
    marked 3 (Wrote (commit (stamp 1 1) (tx 1 1) (operation 0 0 None ∷ []))) ∷
    marked 3 (Sent 20 0 (messages.Decision (tx 1 1) (outcomes.Committed (stamp 1 1)))) ∷
    marked 3 (Sent 21 1 (messages.Decision (tx 1 1) (outcomes.Committed (stamp 1 1)))) ∷
    marked 3 (Told (replies.Committed (stamp 1 1))) ∷
    marked 0 (Sent 22 4 (messages.Answer 16 (answers.Granted (whole_grant 1 0 [])))) ∷ marked 0 (Got 17)
    ∷ marked 4 (Got 22) ∷
    marked 4 (Told replies.Absent) ∷ marked 0 (Got 19) ∷ marked 4 (Called commands.Commit) ∷
    marked 0 (Sent 23 2 (messages.Answer 19 (answers.Granted (whole_grant 1 0 [])))) ∷ marked 2 (Got 23) ∷
    marked 4 (Sent 24 0 (messages.Request (tx 2 1) 1 1 wants.Prepare)) ∷ marked 2 (Told replies.Absent) ∷
    marked 0 (Got 24) ∷ marked 0 (Wrote (prepare (tx 2 1) 1 (read_lock 0 0 ∷ read_lock 0 1 ∷ []) [] [])) ∷
    marked 0 (Sent 25 4 (messages.Answer 24 (answers.Yes 0))) ∷ marked 4 (Got 25) ∷
    marked 4 (Wrote (commit (stamp 1 2) (tx 2 1) (operation 0 1 (Some 0) ∷ operation 0 1 (Some 0) ∷ operation 0 0 None ∷
    []))) ∷
    marked 4 (Sent 26 0 (messages.Decision (tx 2 1) (outcomes.Committed (stamp 1 2)))) ∷
    marked 4 (Told (replies.Committed (stamp 1 2))) ∷ marked 0 (Got 26) ∷ marked 0 (Wrote (records.Done (tx 2 1) 1)) ∷
    marked 4 (Called commands.Begin) ∷ marked 4 (Told (replies.Began (tx 2 2))) ∷ marked 4 (Called (commands.Do 0 2)) ∷
    marked 4 (Sent 27 0 (messages.Request (tx 2 2) 1 0 (wants.Append 0 [] (own_line 1 0 1 ∷ [])))) ∷ marked 0 (Got 27) ∷
    marked 0 (Sent 28 4 (messages.Answer 27 (answers.Clash (tx 0 2) 0 1))) ∷
    marked 0 (Sent 29 2 (messages.Inquiry (tx 0 2))) ∷ marked 2 (Got 29) ∷ marked 4 (Got 28) ∷
    marked 4 (Told (replies.Conflict (tx 0 2) 0)) ∷ marked 2 (Sent 30 0 (messages.Decision (tx 0 2) outcomes.Active)) ∷
    marked 0 (Got 30) ∷ marked 7 (Phase 2) ∷ marked 7 (Heal 1 3) ∷ marked 7 (Cut 5 1) ∷
    marked 5 (Called (commands.Do 0 2)) ∷ marked 5 (Told replies.Doomed) ∷ marked 4 (Called (commands.Do 0 0)) ∷
    marked 4 (Told replies.Doomed) ∷ marked 3 (Called commands.Begin) ∷ marked 4 (Called commands.Abort) ∷
    marked 4 (Sent 31 0 (messages.Decision (tx 2 2) outcomes.Aborted)) ∷ marked 4 (Told replies.Dropped) ∷
    marked 0 (Got 31) ∷ marked 5 (Called commands.Commit) ∷
    marked 5 (Sent 32 0 (messages.Decision (tx 3 1) outcomes.Aborted)) ∷
    marked 5 (Sent 33 1 (messages.Decision (tx 3 1) outcomes.Aborted)) ∷
    marked 5 (Told (replies.Aborted causes.Doomed)) ∷ marked 3 (Told (replies.Began (tx 1 2))) ∷ marked 0 (Got 32) ∷
    marked 3 (Called (commands.Do 0 0))
    ∷ marked 3 (Sent 34 1 (messages.Request (tx 1 2) 1 0 (wants.Read (first_read 0 0)))) ∷
    marked 3 (Sent 35 0 (messages.Request (tx 1 2) 1 0 (wants.Read (first_read 0 0)))) ∷ marked 0 (Got 35) ∷
    marked 0 (Sent 36 3 (messages.Answer 35 (answers.Granted (whole_grant 1 1 [])))) ∷ marked 3 (Got 36)
    ∷ marked 1 (Got 34) ∷
    marked 1 (Sent 37 3 (messages.Answer 34 (answers.Clash (tx 3 1) 0 1))) ∷
    marked 1 (Sent 38 5 (messages.Inquiry (tx 3 1))) ∷ marked 3 (Got 37) ∷
    marked 3 (Told (replies.Conflict (tx 3 1) 1)) ∷ marked 3 (Called (commands.Do 0 0)) ∷
    marked 3 (Sent 39 1 (messages.Request (tx 1 2) 1 0 (wants.Read (first_read 0 0)))) ∷
    marked 3 (Sent 40 0 (messages.Request (tx 1 2) 1 1 (wants.Read (first_read 0 0)))) ∷ marked 1 (Got 39)
    ∷ marked 0 (Got 40) ∷
    marked 1 (Sent 41 3 (messages.Answer 39 (answers.Clash (tx 3 1) 0 1))) ∷
    marked 1 (Sent 42 5 (messages.Inquiry (tx 3 1))) ∷
    marked 0 (Sent 43 3 (messages.Answer 40 (answers.Granted (whole_grant 1 1 [])))) ∷ marked 3 (Got 41)
    ∷ marked 3 (Got 43) ∷
    marked 3 (Told (replies.Conflict (tx 3 1) 1)) ∷ marked 7 (Phase 3) ∷ marked 7 (Heal 5 1) ∷ marked 7 (Cut 5 4) ∷
    marked 5 (Called commands.Begin) ∷ marked 5 (Told (replies.Began (tx 3 2))) ∷ marked 5 (Called commands.Commit) ∷
    marked 5 (Wrote (commit (stamp 1 3) (tx 3 2) [])) ∷ marked 5 (Told (replies.Committed (stamp 1 3))) ∷ []
