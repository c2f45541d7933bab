-- Random: sites 1, clients 2, steps 156, messages 40, lost 1, commits 7, aborts 1, conflicts 1, absent 1.
use Rattle.std.specs.Prelude.{List, [], ◌∷◌, Some}
use Rattle.qc_decl.specs.declared.declaration.Declaration.{Declaration}
use Rattle.qc_decl.specs.Vocabulary.{row}
use Rattle.qc_msg.specs.Vocabulary.{Entry, marked}
use Rattle.tests_histories.specs.Play.{Move, Takes, Posts, Acts}
use Rattle.tests_histories.specs.Words.{tx, stamp, line, own_line, operation, read_lock, prepare, commit, declaration}
use Rattle.tests_histories.specs.Words.{kind, pair, plan}
use Rattle.qc_msg.specs.declared.step.Step.TheVariants.{Phase, Called, Got, Lost, Wrote, Sent, Told}
use Rattle.qc_msg.specs.declared.message.Answer.TheVariants as answers
use Rattle.qc_msg.specs.declared.reply.AbortCause.TheVariants as causes
use Rattle.qc_msg.specs.declared.step.Command.TheVariants as commands
use Rattle.qc_msg.specs.declared.message.Message.TheVariants as messages
use Rattle.qc_msg.specs.declared.message.Outcome.TheVariants as outcomes
use Rattle.qc_msg.specs.declared.record.Record.TheVariants as records
use Rattle.qc_msg.specs.declared.reply.Reply.TheVariants as replies
use Rattle.qc_msg.specs.declared.message.Want.TheVariants as wants
use Rattle.qc_msg.specs.Vocabulary.{whole_grant, first_read}

abbrev pub decl : Declaration
decl =
    declaration 1 2 (kind 4 3 2 0 (row 0 0 1 3 ∷ row 0 1 1 0 ∷ row 0 1 0 2 ∷ row 1 0 0 3 ∷ row 1 0 1 1 ∷ row 1 1 0 1 ∷
    row 2 0 1 3 ∷ row 2 1 0 0 ∷ row 3 0 1 3 ∷ row 3 1 1 1 ∷ row 3 2 0 3 ∷ []) (pair 0 1 ∷ pair 0 3 ∷ pair 1 0 ∷ pair 1 1
    ∷ pair 1 2 ∷ pair 1 3 ∷ pair 2 0 ∷ pair 2 1 ∷ pair 2 3 ∷ []) ∷ []) (0 ∷ []) (plan (1 ∷ []) ((1 ∷ 1 ∷ 1 ∷ []) ∷ [])
    ((1 ∷ 1 ∷ 1 ∷ 1 ∷ 0 ∷ []) ∷ []) ∷ plan (1 ∷ []) ((1 ∷ 1 ∷ 1 ∷ []) ∷ []) ((1 ∷ 1 ∷ 1 ∷ 1 ∷ 0 ∷ []) ∷ []) ∷ [])

abbrev pub moves : List Move
moves =
    Acts (Phase 1) ∷ Takes 1 (Called commands.Begin) ∷ Posts 1 ∷ Takes 2 (Called commands.Begin) ∷ Posts 2 ∷
    Takes 1 (Called commands.Commit) ∷ Posts 1 ∷ Takes 2 (Called commands.Commit) ∷ Posts 2 ∷
    Takes 1 (Called commands.Begin) ∷ Posts 1 ∷ Takes 1 (Called commands.Commit) ∷ Posts 1 ∷
    Takes 1 (Called commands.Begin) ∷ Posts 1 ∷ Takes 1 (Called commands.Commit) ∷ Posts 1 ∷ Acts (Phase 2) ∷
    Takes 1 (Called commands.Begin) ∷ Posts 1 ∷ Takes 1 (Called (commands.Do 0 1)) ∷ Posts 1 ∷ Takes 0 (Got 0) ∷
    Posts 0 ∷ Takes 1 (Got 1) ∷ Posts 1 ∷ Takes 0 (Got 2) ∷ Posts 0 ∷ Takes 1 (Got 3) ∷ Posts 1 ∷
    Takes 1 (Called commands.Commit) ∷ Posts 1 ∷ Takes 1 (Lost 4) ∷ Posts 1 ∷ Takes 0 (Got 5) ∷ Posts 0 ∷
    Takes 1 (Called commands.Begin) ∷ Posts 1 ∷ Takes 1 (Called (commands.Do 0 1)) ∷ Posts 1 ∷ Takes 0 (Got 6) ∷
    Posts 0 ∷ Takes 1 (Got 7) ∷ Posts 1 ∷ Takes 0 (Got 8) ∷ Posts 0 ∷ Takes 1 (Got 9) ∷ Posts 1 ∷ Acts (Phase 3) ∷
    Takes 0 (Got 4) ∷ Posts 0 ∷ Takes 1 (Got 10) ∷ Posts 1 ∷ Takes 1 (Called commands.Commit) ∷ Posts 1 ∷
    Takes 0 (Got 11) ∷ Posts 0 ∷ Takes 1 (Got 12) ∷ Posts 1 ∷ Takes 0 (Got 13) ∷ Posts 0 ∷ Acts (Phase 4) ∷
    Takes 1 (Called commands.Abort) ∷ Posts 1 ∷ Takes 2 (Called commands.Abort) ∷ Posts 2 ∷
    Takes 1 (Called commands.Begin) ∷ Posts 1 ∷ Takes 2 (Called commands.Begin) ∷ Posts 2 ∷
    Takes 1 (Called (commands.Do 0 0)) ∷ Posts 1 ∷ Takes 0 (Got 14) ∷ Posts 0 ∷ Takes 1 (Got 15) ∷ Posts 1 ∷
    Takes 0 (Got 16) ∷ Posts 0 ∷ Takes 1 (Got 17) ∷ Posts 1 ∷ Takes 2 (Called (commands.Do 0 1)) ∷ Posts 2 ∷
    Takes 0 (Got 18) ∷ Posts 0 ∷ Takes 2 (Got 19) ∷ Posts 2 ∷ Takes 1 (Got 20) ∷ Posts 1 ∷ Takes 0 (Got 21) ∷ Posts 0 ∷
    Takes 1 (Called commands.Abort) ∷ Posts 1 ∷ Takes 0 (Got 22) ∷ Posts 0 ∷ Takes 2 (Called (commands.Do 0 2)) ∷
    Posts 2 ∷ Takes 0 (Got 23) ∷ Posts 0 ∷ Takes 2 (Got 24) ∷ Posts 2 ∷ Takes 1 (Called commands.Begin) ∷ Posts 1 ∷
    Takes 2 (Called commands.Abort) ∷ Posts 2 ∷ Takes 0 (Got 25) ∷ Posts 0 ∷ Takes 1 (Called (commands.Do 0 1)) ∷
    Posts 1 ∷ Takes 0 (Got 26) ∷ Posts 0 ∷ Takes 1 (Got 27) ∷ Posts 1 ∷ Takes 0 (Got 28) ∷ Posts 0 ∷ Takes 1 (Got 29) ∷
    Posts 1 ∷ Takes 2 (Called commands.Begin) ∷ Posts 2 ∷ Takes 1 (Called commands.Commit) ∷ Posts 1 ∷
    Takes 0 (Got 30) ∷ Posts 0 ∷ Takes 1 (Got 31) ∷ Posts 1 ∷ Takes 0 (Got 32) ∷ Posts 0 ∷
    Takes 2 (Called (commands.Do 0 0)) ∷ Posts 2 ∷ Takes 0 (Got 33) ∷ Posts 0 ∷ Takes 2 (Got 34) ∷ Posts 2 ∷
    Takes 0 (Got 35) ∷ Posts 0 ∷ Takes 2 (Got 36) ∷ Posts 2 ∷ Takes 2 (Called commands.Commit) ∷ Posts 2 ∷
    Takes 0 (Got 37) ∷ Posts 0 ∷ Takes 2 (Got 38) ∷ Posts 2 ∷ Takes 0 (Got 39) ∷ Posts 0 ∷ []

abbrev pub history : List Entry
history =
    marked 4 (Phase 1) ∷ marked 1 (Called commands.Begin) ∷ marked 1 (Told (replies.Began (tx 0 1))) ∷
    marked 2 (Called commands.Begin) ∷ marked 2 (Told (replies.Began (tx 1 1))) ∷ marked 1 (Called commands.Commit) ∷
    marked 1 (Wrote (commit (stamp 1 0) (tx 0 1) [])) ∷ marked 1 (Told (replies.Committed (stamp 1 0))) ∷
    marked 2 (Called commands.Commit) ∷ marked 2 (Wrote (commit (stamp 1 1) (tx 1 1) [])) ∷
    marked 2 (Told (replies.Committed (stamp 1 1))) ∷ marked 1 (Called commands.Begin) ∷
    marked 1 (Told (replies.Began (tx 0 2))) ∷ marked 1 (Called commands.Commit) ∷
    marked 1 (Wrote (commit (stamp 2 0) (tx 0 2) [])) ∷ marked 1 (Told (replies.Committed (stamp 2 0))) ∷
    marked 1 (Called commands.Begin) ∷ marked 1 (Told (replies.Began (tx 0 3))) ∷ marked 1 (Called commands.Commit) ∷
    marked 1 (Wrote (commit (stamp 3 0) (tx 0 3) [])) ∷ marked 1 (Told (replies.Committed (stamp 3 0))) ∷
    marked 4 (Phase 2) ∷ marked 1 (Called commands.Begin) ∷ marked 1 (Told (replies.Began (tx 0 4))) ∷
    marked 1 (Called (commands.Do 0 1)) ∷
    marked 1 (Sent 0 0 (messages.Request (tx 0 4) 1 0 (wants.Read (first_read 0 1))))
    ∷
    marked 0 (Got 0) ∷ marked 0 (Sent 1 1 (messages.Answer 0 (answers.Granted (whole_grant 1 0 [])))) ∷ marked 1 (Got 1)
    ∷
    marked 1 (Sent 2 0 (messages.Request (tx 0 4) 1 1 (wants.Append 0 [] (own_line 1 0 2 ∷ [])))) ∷ marked 0 (Got 2) ∷
    marked 0 (Sent 3 1 (messages.Answer 2 (answers.Granted (whole_grant 1 0 [])))) ∷ marked 1 (Got 3) ∷
    marked 1 (Told (replies.Response 0)) ∷ marked 1 (Called commands.Commit) ∷
    marked 1 (Sent 4 0 (messages.Request (tx 0 4) 1 1 wants.Prepare)) ∷ marked 1 (Lost 4) ∷
    marked 1 (Sent 5 0 (messages.Decision (tx 0 4) outcomes.Aborted)) ∷
    marked 1 (Told (replies.Aborted (causes.NoAnswer 0))) ∷ marked 0 (Got 5) ∷ marked 1 (Called commands.Begin) ∷
    marked 1 (Told (replies.Began (tx 0 5))) ∷ marked 1 (Called (commands.Do 0 1)) ∷
    marked 1 (Sent 6 0 (messages.Request (tx 0 5) 1 0 (wants.Read (first_read 0 1)))) ∷ marked 0 (Got 6) ∷
    marked 0 (Sent 7 1 (messages.Answer 6 (answers.Granted (whole_grant 1 0 [])))) ∷ marked 1 (Got 7) ∷
    marked 1 (Sent 8 0 (messages.Request (tx 0 5) 1 1 (wants.Append 0 [] (own_line 1 0 2 ∷ [])))) ∷ marked 0 (Got 8) ∷
    marked 0 (Sent 9 1 (messages.Answer 8 (answers.Granted (whole_grant 1 0 [])))) ∷ marked 1 (Got 9) ∷
    marked 1 (Told (replies.Response 0)) ∷ marked 4 (Phase 3) ∷ marked 0 (Got 4) ∷
    marked 0 (Sent 10 1 (messages.Answer 4 answers.Stale)) ∷ marked 1 (Got 10) ∷ marked 1 (Called commands.Commit) ∷
    marked 1 (Sent 11 0 (messages.Request (tx 0 5) 1 1 wants.Prepare)) ∷ marked 0 (Got 11) ∷
    marked 0 (Wrote (prepare (tx 0 5) 1 (read_lock 0 1 ∷ []) (own_line 1 0 2 ∷ []) [])) ∷
    marked 0 (Sent 12 1 (messages.Answer 11 (answers.Yes 0))) ∷ marked 1 (Got 12) ∷
    marked 1 (Wrote (commit (stamp 4 0) (tx 0 5) (operation 0 1 (Some 0) ∷ []))) ∷
    marked 1 (Sent 13 0 (messages.Decision (tx 0 5) (outcomes.Committed (stamp 4 0)))) ∷
    marked 1 (Told (replies.Committed (stamp 4 0))) ∷ marked 0 (Got 13) ∷ marked 0 (Wrote (records.Done (tx 0 5) 4)) ∷
    marked 4 (Phase 4) ∷ marked 1 (Called commands.Abort) ∷ marked 1 (Told replies.NoTransaction) ∷
    marked 2 (Called commands.Abort) ∷ marked 2 (Told replies.NoTransaction) ∷ marked 1 (Called commands.Begin) ∷
    marked 1 (Told (replies.Began (tx 0 6))) ∷ marked 2 (Called commands.Begin) ∷
    marked 2 (Told (replies.Began (tx 1 2))) ∷ marked 1 (Called (commands.Do 0 0)) ∷
    marked 1 (Sent 14 0 (messages.Request (tx 0 6) 1 0 (wants.Read (first_read 0 0)))) ∷ marked 0 (Got 14) ∷
    marked 0 (Sent 15 1 (messages.Answer 14 (answers.Granted (whole_grant 1 4 (line 4 0 5 1 0 2 ∷ [])))))
    ∷ marked 1 (Got 15) ∷
    marked 1 (Sent 16 0 (messages.Request (tx 0 6) 1 1 (wants.Append 0 (line 4 0 5 1 0 2 ∷ []) (own_line 1 0 0 ∷ []))))
    ∷
    marked 0 (Got 16) ∷ marked 0 (Sent 17 1 (messages.Answer 16 (answers.Granted (whole_grant 1 4 []))))
    ∷ marked 1 (Got 17) ∷
    marked 1 (Told (replies.Response 1)) ∷ marked 2 (Called (commands.Do 0 1)) ∷
    marked 2 (Sent 18 0 (messages.Request (tx 1 2) 1 0 (wants.Read (first_read 0 1)))) ∷ marked 0 (Got 18) ∷
    marked 0 (Sent 19 2 (messages.Answer 18 (answers.Clash (tx 0 6) 1 0))) ∷
    marked 0 (Sent 20 1 (messages.Inquiry (tx 0 6))) ∷ marked 2 (Got 19) ∷
    marked 2 (Told (replies.Conflict (tx 0 6) 0)) ∷ marked 1 (Got 20) ∷
    marked 1 (Sent 21 0 (messages.Decision (tx 0 6) outcomes.Active)) ∷ marked 0 (Got 21) ∷
    marked 1 (Called commands.Abort) ∷ marked 1 (Sent 22 0 (messages.Decision (tx 0 6) outcomes.Aborted)) ∷
    marked 1 (Told replies.Dropped) ∷ marked 0 (Got 22) ∷ marked 2 (Called (commands.Do 0 2)) ∷
    marked 2 (Sent 23 0 (messages.Request (tx 1 2) 1 0 (wants.Read (first_read 0 2)))) ∷ marked 0 (Got 23) ∷
    marked 0 (Sent 24 2 (messages.Answer 23 (answers.Granted (whole_grant 1 4 (line 4 0 5 1 0 2 ∷ [])))))
    ∷ marked 2 (Got 24) ∷
    marked 2 (Told replies.Absent) ∷ marked 1 (Called commands.Begin) ∷ marked 1 (Told (replies.Began (tx 0 7))) ∷
    marked 2 (Called commands.Abort) ∷ marked 2 (Sent 25 0 (messages.Decision (tx 1 2) outcomes.Aborted)) ∷
    marked 2 (Told replies.Dropped) ∷ marked 0 (Got 25) ∷ marked 1 (Called (commands.Do 0 1)) ∷
    marked 1 (Sent 26 0 (messages.Request (tx 0 7) 1 0 (wants.Read (first_read 0 1)))) ∷ marked 0 (Got 26) ∷
    marked 0 (Sent 27 1 (messages.Answer 26 (answers.Granted (whole_grant 1 4 (line 4 0 5 1 0 2 ∷ [])))))
    ∷ marked 1 (Got 27) ∷
    marked 1 (Sent 28 0 (messages.Request (tx 0 7) 1 1 (wants.Append 0 (line 4 0 5 1 0 2 ∷ []) (own_line 1 0 2 ∷ []))))
    ∷
    marked 0 (Got 28) ∷ marked 0 (Sent 29 1 (messages.Answer 28 (answers.Granted (whole_grant 1 4 []))))
    ∷ marked 1 (Got 29) ∷
    marked 1 (Told (replies.Response 0)) ∷ marked 2 (Called commands.Begin) ∷ marked 2 (Told (replies.Began (tx 1 3))) ∷
    marked 1 (Called commands.Commit) ∷ marked 1 (Sent 30 0 (messages.Request (tx 0 7) 1 1 wants.Prepare)) ∷
    marked 0 (Got 30) ∷ marked 0 (Wrote (prepare (tx 0 7) 1 (read_lock 0 1 ∷ []) (own_line 1 0 2 ∷ []) [])) ∷
    marked 0 (Sent 31 1 (messages.Answer 30 (answers.Yes 4))) ∷ marked 1 (Got 31) ∷
    marked 1 (Wrote (commit (stamp 5 0) (tx 0 7) (operation 0 1 (Some 0) ∷ []))) ∷
    marked 1 (Sent 32 0 (messages.Decision (tx 0 7) (outcomes.Committed (stamp 5 0)))) ∷
    marked 1 (Told (replies.Committed (stamp 5 0))) ∷ marked 0 (Got 32) ∷ marked 0 (Wrote (records.Done (tx 0 7) 5)) ∷
    marked 2 (Called (commands.Do 0 0))
    ∷ marked 2 (Sent 33 0 (messages.Request (tx 1 3) 1 0 (wants.Read (first_read 0 0)))) ∷
    marked 0 (Got 33) ∷
    marked 0
    (Sent 34 2 (messages.Answer 33 (answers.Granted (whole_grant 1 5 (line 4 0 5 1 0 2 ∷ line 5 0 7 1 0 2 ∷ []))))) ∷
    marked 2 (Got 34) ∷
    marked 2 (Sent 35 0 (messages.Request (tx 1 3) 1 1 (wants.Append 0 (line 4 0 5 1 0 2 ∷ line 5 0 7 1 0 2 ∷ [])
    (own_line 1 0 0 ∷ [])))) ∷
    marked 0 (Got 35) ∷ marked 0 (Sent 36 2 (messages.Answer 35 (answers.Granted (whole_grant 1 5 []))))
    ∷ marked 2 (Got 36) ∷
    marked 2 (Told (replies.Response 1)) ∷ marked 2 (Called commands.Commit) ∷
    marked 2 (Sent 37 0 (messages.Request (tx 1 3) 1 1 wants.Prepare)) ∷ marked 0 (Got 37) ∷
    marked 0 (Wrote (prepare (tx 1 3) 1 (read_lock 0 0 ∷ []) (own_line 1 0 0 ∷ []) [])) ∷
    marked 0 (Sent 38 2 (messages.Answer 37 (answers.Yes 5))) ∷ marked 2 (Got 38) ∷
    marked 2 (Wrote (commit (stamp 6 1) (tx 1 3) (operation 0 0 (Some 1) ∷ []))) ∷
    marked 2 (Sent 39 0 (messages.Decision (tx 1 3) (outcomes.Committed (stamp 6 1)))) ∷
    marked 2 (Told (replies.Committed (stamp 6 1))) ∷ marked 0 (Got 39) ∷ marked 0 (Wrote (records.Done (tx 1 3) 6)) ∷
    []
