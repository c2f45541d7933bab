-- Random: sites 3, clients 2, steps 159, messages 44, lost 1, commits 5, aborts 1, conflicts 1.
use Rattle.std.specs.Prelude.{List, [], ◌∷◌, Some}
use Rattle.qc_decl.specs.declared.declaration.Declaration.{Declaration}
use Rattle.qc_decl.specs.Vocabulary.{row}
use Rattle.qc_msg.specs.Vocabulary.{Entry, marked}
use Rattle.tests_histories.specs.Play.{Move, Takes, Posts, Acts}
use Rattle.tests_histories.specs.Words.{tx, stamp, line, own_line, operation, read_lock, prepare, commit, declaration}
use Rattle.tests_histories.specs.Words.{kind, pair, plan}
use Rattle.qc_msg.specs.declared.step.Step.TheVariants.{Phase, Called, Got, Lost, Wrote, Sent, Told}
use Rattle.qc_msg.specs.declared.message.Answer.TheVariants as answers
use Rattle.qc_msg.specs.declared.reply.AbortCause.TheVariants as causes
use Rattle.qc_msg.specs.declared.step.Command.TheVariants as commands
use Rattle.qc_msg.specs.declared.message.Message.TheVariants as messages
use Rattle.qc_msg.specs.declared.message.Outcome.TheVariants as outcomes
use Rattle.qc_msg.specs.declared.record.Record.TheVariants as records
use Rattle.qc_msg.specs.declared.reply.Reply.TheVariants as replies
use Rattle.qc_msg.specs.declared.message.Want.TheVariants as wants
use Rattle.qc_msg.specs.Vocabulary.{whole_grant, first_read}

abbrev pub decl : Declaration
decl =
    declaration 3 2 (kind 2 3 3 0 (row 0 0 0 0 ∷ row 1 0 1 1 ∷ row 0 1 2 0 ∷ row 1 1 2 0 ∷ row 0 2 2 1 ∷ row 1 2 2 1 ∷
    []) (pair 0 2 ∷ pair 0 3 ∷ []) ∷ []) (0 ∷ []) (plan (1 ∷ 0 ∷ 2 ∷ []) ((3 ∷ 0 ∷ 0 ∷ []) ∷ []) ((0 ∷ 0 ∷ 1 ∷ 1 ∷ []) ∷
    []) ∷ plan (1 ∷ 1 ∷ 1 ∷ []) ((2 ∷ 0 ∷ 3 ∷ []) ∷ []) ((0 ∷ 0 ∷ 2 ∷ 2 ∷ []) ∷ []) ∷ [])

abbrev pub moves : List Move
moves =
    Acts (Phase 1) ∷ Acts (Phase 2) ∷ Takes 3 (Called commands.Begin) ∷ Posts 3 ∷ Takes 3 (Called (commands.Do 0 2)) ∷
    Posts 3 ∷ Takes 0 (Got 0) ∷ Posts 0 ∷ Takes 3 (Got 1) ∷ Posts 3 ∷ Takes 3 (Called (commands.Do 0 1)) ∷ Posts 3 ∷
    Takes 0 (Got 2) ∷ Posts 0 ∷ Takes 3 (Got 3) ∷ Posts 3 ∷ Takes 3 (Called commands.Commit) ∷ Posts 3 ∷
    Takes 3 (Lost 4) ∷ Posts 3 ∷ Takes 3 (Called commands.Begin) ∷ Posts 3 ∷ Takes 3 (Called (commands.Do 0 2)) ∷
    Takes 0 (Got 5) ∷ Posts 0 ∷ Posts 3 ∷ Takes 0 (Got 6) ∷ Posts 0 ∷ Takes 3 (Got 7) ∷ Posts 3 ∷
    Takes 3 (Called (commands.Do 0 2)) ∷ Posts 3 ∷ Takes 0 (Got 8) ∷ Posts 0 ∷ Takes 3 (Got 9) ∷ Posts 3 ∷
    Takes 3 (Called commands.Commit) ∷ Posts 3 ∷ Takes 0 (Got 10) ∷ Posts 0 ∷ Takes 3 (Got 11) ∷ Posts 3 ∷
    Takes 0 (Got 12) ∷ Posts 0 ∷ Acts (Phase 3) ∷ Takes 3 (Called commands.Abort) ∷ Takes 0 (Got 4) ∷
    Takes 4 (Called commands.Abort) ∷ Posts 3 ∷ Posts 4 ∷ Takes 4 (Called commands.Begin) ∷
    Takes 3 (Called commands.Begin) ∷ Posts 0 ∷ Posts 3 ∷ Posts 4 ∷ Takes 3 (Got 13) ∷ Posts 3 ∷
    Takes 4 (Called (commands.Do 0 1)) ∷ Posts 4 ∷ Takes 2 (Got 14) ∷ Takes 3 (Called (commands.Do 0 2)) ∷ Posts 2 ∷
    Posts 3 ∷ Takes 4 (Got 15) ∷ Takes 0 (Got 16) ∷ Posts 4 ∷ Posts 0 ∷ Takes 4 (Called commands.Abort) ∷ Posts 4 ∷
    Takes 3 (Got 17) ∷ Takes 2 (Got 18) ∷ Posts 2 ∷ Posts 3 ∷ Takes 4 (Called commands.Begin) ∷ Posts 4 ∷
    Takes 4 (Called (commands.Do 0 1)) ∷ Posts 4 ∷ Takes 2 (Got 19) ∷ Takes 3 (Called commands.Commit) ∷ Posts 3 ∷
    Posts 2 ∷ Takes 4 (Got 21) ∷ Takes 0 (Got 20) ∷ Posts 4 ∷ Takes 4 (Called (commands.Do 0 1)) ∷ Posts 4 ∷ Posts 0 ∷
    Takes 2 (Got 22) ∷ Takes 3 (Got 23) ∷ Posts 3 ∷ Posts 2 ∷ Takes 3 (Called commands.Begin) ∷ Takes 0 (Got 24) ∷
    Takes 4 (Got 25) ∷ Posts 0 ∷ Posts 4 ∷ Posts 3 ∷ Takes 3 (Called (commands.Do 0 0)) ∷
    Takes 4 (Called commands.Commit) ∷ Posts 3 ∷ Takes 2 (Got 27) ∷ Posts 2 ∷ Takes 0 (Got 26) ∷ Takes 3 (Got 28) ∷
    Posts 3 ∷ Posts 0 ∷ Posts 4 ∷ Takes 2 (Got 31) ∷ Posts 2 ∷ Takes 4 (Got 29) ∷ Posts 4 ∷ Takes 2 (Got 33) ∷ Posts 2 ∷
    Takes 4 (Got 32) ∷ Takes 3 (Got 30) ∷ Posts 3 ∷ Posts 4 ∷ Takes 2 (Got 34) ∷ Takes 3 (Called commands.Commit) ∷
    Posts 2 ∷ Posts 3 ∷ Takes 0 (Got 35) ∷ Posts 0 ∷ Takes 3 (Got 36) ∷ Posts 3 ∷ Takes 2 (Got 38) ∷ Posts 2 ∷
    Takes 3 (Called commands.Begin) ∷ Takes 0 (Got 37) ∷ Posts 0 ∷ Posts 3 ∷ Takes 3 (Called (commands.Do 0 2)) ∷
    Posts 3 ∷ Takes 0 (Got 39) ∷ Posts 0 ∷ Takes 3 (Got 40) ∷ Posts 3 ∷ Takes 3 (Called commands.Commit) ∷ Posts 3 ∷
    Takes 0 (Got 41) ∷ Posts 0 ∷ Takes 3 (Got 42) ∷ Posts 3 ∷ Takes 0 (Got 43) ∷ Posts 0 ∷ []

abbrev pub history : List Entry
history =
    marked 6 (Phase 1) ∷ marked 6 (Phase 2) ∷ marked 3 (Called commands.Begin) ∷
    marked 3 (Told (replies.Began (tx 0 1))) ∷ marked 3 (Called (commands.Do 0 2)) ∷
    marked 3 (Sent 0 0 (messages.Request (tx 0 1) 1 0 (wants.Append 0 [] (own_line 1 0 3 ∷ [])))) ∷ marked 0 (Got 0) ∷
    marked 0 (Sent 1 3 (messages.Answer 0 (answers.Granted (whole_grant 1 0 [])))) ∷ marked 3 (Got 1) ∷
    marked 3 (Told (replies.Response 2)) ∷ marked 3 (Called (commands.Do 0 1)) ∷
    marked 3 (Sent 2 0 (messages.Request (tx 0 1) 1 1 (wants.Append 0 [] (own_line 1 0 3 ∷ own_line 2 0 2 ∷ [])))) ∷
    marked 0 (Got 2) ∷ marked 0 (Sent 3 3 (messages.Answer 2 (answers.Granted (whole_grant 1 0 [])))) ∷ marked 3 (Got 3)
    ∷
    marked 3 (Told (replies.Response 2)) ∷ marked 3 (Called commands.Commit) ∷
    marked 3 (Sent 4 0 (messages.Request (tx 0 1) 1 1 wants.Prepare)) ∷ marked 3 (Lost 4) ∷
    marked 3 (Sent 5 0 (messages.Decision (tx 0 1) outcomes.Aborted)) ∷
    marked 3 (Told (replies.Aborted (causes.NoAnswer 0))) ∷ marked 3 (Called commands.Begin) ∷
    marked 3 (Told (replies.Began (tx 0 2))) ∷ marked 3 (Called (commands.Do 0 2)) ∷ marked 0 (Got 5) ∷
    marked 3 (Sent 6 0 (messages.Request (tx 0 2) 1 0 (wants.Append 0 [] (own_line 1 0 3 ∷ [])))) ∷ marked 0 (Got 6) ∷
    marked 0 (Sent 7 3 (messages.Answer 6 (answers.Granted (whole_grant 1 0 [])))) ∷ marked 3 (Got 7) ∷
    marked 3 (Told (replies.Response 2)) ∷ marked 3 (Called (commands.Do 0 2)) ∷
    marked 3 (Sent 8 0 (messages.Request (tx 0 2) 1 1 (wants.Append 0 [] (own_line 1 0 3 ∷ own_line 2 0 3 ∷ [])))) ∷
    marked 0 (Got 8) ∷ marked 0 (Sent 9 3 (messages.Answer 8 (answers.Granted (whole_grant 1 0 [])))) ∷ marked 3 (Got 9)
    ∷
    marked 3 (Told (replies.Response 2)) ∷ marked 3 (Called commands.Commit) ∷
    marked 3 (Sent 10 0 (messages.Request (tx 0 2) 1 1 wants.Prepare)) ∷ marked 0 (Got 10) ∷
    marked 0 (Wrote (prepare (tx 0 2) 1 [] (own_line 1 0 3 ∷ own_line 2 0 3 ∷ []) [])) ∷
    marked 0 (Sent 11 3 (messages.Answer 10 (answers.Yes 0))) ∷ marked 3 (Got 11) ∷
    marked 3 (Wrote (commit (stamp 1 0) (tx 0 2) (operation 0 2 (Some 2) ∷ operation 0 2 (Some 2) ∷ []))) ∷
    marked 3 (Sent 12 0 (messages.Decision (tx 0 2) (outcomes.Committed (stamp 1 0)))) ∷
    marked 3 (Told (replies.Committed (stamp 1 0))) ∷ marked 0 (Got 12) ∷ marked 0 (Wrote (records.Done (tx 0 2) 1)) ∷
    marked 6 (Phase 3) ∷ marked 3 (Called commands.Abort) ∷ marked 0 (Got 4) ∷ marked 4 (Called commands.Abort) ∷
    marked 3 (Told replies.NoTransaction) ∷ marked 4 (Told replies.NoTransaction) ∷ marked 4 (Called commands.Begin) ∷
    marked 3 (Called commands.Begin) ∷ marked 0 (Sent 13 3 (messages.Answer 4 answers.Stale)) ∷
    marked 3 (Told (replies.Began (tx 0 3))) ∷ marked 4 (Told (replies.Began (tx 1 1))) ∷ marked 3 (Got 13) ∷
    marked 4 (Called (commands.Do 0 1)) ∷
    marked 4 (Sent 14 2 (messages.Request (tx 1 1) 1 0 (wants.Append 0 [] (own_line 1 0 2 ∷ [])))) ∷ marked 2 (Got 14) ∷
    marked 3 (Called (commands.Do 0 2))
    ∷ marked 2 (Sent 15 4 (messages.Answer 14 (answers.Granted (whole_grant 1 0 [])))) ∷
    marked 3 (Sent 16 0 (messages.Request (tx 0 3) 1 0 (wants.Append 0 [] (own_line 1 0 3 ∷ [])))) ∷ marked 4 (Got 15) ∷
    marked 0 (Got 16) ∷ marked 4 (Told (replies.Response 2)) ∷
    marked 0 (Sent 17 3 (messages.Answer 16 (answers.Granted (whole_grant 1 1 [])))) ∷
    marked 4 (Called commands.Abort) ∷
    marked 4 (Sent 18 2 (messages.Decision (tx 1 1) outcomes.Aborted)) ∷ marked 4 (Told replies.Dropped) ∷
    marked 3 (Got 17) ∷ marked 2 (Got 18) ∷ marked 3 (Told (replies.Response 2)) ∷ marked 4 (Called commands.Begin) ∷
    marked 4 (Told (replies.Began (tx 1 2))) ∷ marked 4 (Called (commands.Do 0 1)) ∷
    marked 4 (Sent 19 2 (messages.Request (tx 1 2) 1 0 (wants.Append 0 [] (own_line 1 0 2 ∷ [])))) ∷ marked 2 (Got 19) ∷
    marked 3 (Called commands.Commit) ∷ marked 3 (Sent 20 0 (messages.Request (tx 0 3) 1 1 wants.Prepare)) ∷
    marked 2 (Sent 21 4 (messages.Answer 19 (answers.Granted (whole_grant 1 0 [])))) ∷ marked 4 (Got 21)
    ∷ marked 0 (Got 20) ∷
    marked 4 (Told (replies.Response 2)) ∷ marked 4 (Called (commands.Do 0 1)) ∷
    marked 4 (Sent 22 2 (messages.Request (tx 1 2) 1 1 (wants.Append 0 [] (own_line 1 0 2 ∷ own_line 2 0 2 ∷ [])))) ∷
    marked 0 (Wrote (prepare (tx 0 3) 1 [] (own_line 1 0 3 ∷ []) [])) ∷
    marked 0 (Sent 23 3 (messages.Answer 20 (answers.Yes 1))) ∷ marked 2 (Got 22) ∷ marked 3 (Got 23) ∷
    marked 3 (Wrote (commit (stamp 2 0) (tx 0 3) (operation 0 2 (Some 2) ∷ []))) ∷
    marked 3 (Sent 24 0 (messages.Decision (tx 0 3) (outcomes.Committed (stamp 2 0)))) ∷
    marked 3 (Told (replies.Committed (stamp 2 0))) ∷
    marked 2 (Sent 25 4 (messages.Answer 22 (answers.Granted (whole_grant 1 0 [])))) ∷
    marked 3 (Called commands.Begin) ∷
    marked 0 (Got 24) ∷ marked 4 (Got 25) ∷ marked 0 (Wrote (records.Done (tx 0 3) 2)) ∷
    marked 4 (Told (replies.Response 2)) ∷ marked 3 (Told (replies.Began (tx 0 4))) ∷
    marked 3 (Called (commands.Do 0 0)) ∷ marked 4 (Called commands.Commit) ∷
    marked 3 (Sent 26 0 (messages.Request (tx 0 4) 1 0 (wants.Read (first_read 0 0)))) ∷
    marked 3 (Sent 27 2 (messages.Request (tx 0 4) 1 0 (wants.Read (first_read 0 0)))) ∷ marked 2 (Got 27) ∷
    marked 2 (Sent 28 3 (messages.Answer 27 (answers.Clash (tx 1 2) 0 2))) ∷
    marked 2 (Sent 29 4 (messages.Inquiry (tx 1 2))) ∷ marked 0 (Got 26) ∷ marked 3 (Got 28) ∷
    marked 0
    (Sent 30 3
    (messages.Answer 26
    (answers.Granted (whole_grant 1 2 (line 1 0 2 1 0 3 ∷ line 1 0 2 2 0 3 ∷ line 2 0 3 1 0 3 ∷ []))))) ∷
    marked 4 (Sent 31 2 (messages.Request (tx 1 2) 1 1 wants.Prepare)) ∷ marked 2 (Got 31) ∷
    marked 2 (Wrote (prepare (tx 1 2) 1 [] (own_line 1 0 2 ∷ own_line 2 0 2 ∷ []) [])) ∷
    marked 2 (Sent 32 4 (messages.Answer 31 (answers.Yes 0))) ∷ marked 4 (Got 29) ∷
    marked 4 (Sent 33 2 (messages.Decision (tx 1 2) outcomes.Active)) ∷ marked 2 (Got 33) ∷ marked 4 (Got 32) ∷
    marked 3 (Got 30) ∷ marked 3 (Told (replies.Conflict (tx 1 2) 2)) ∷
    marked 4 (Wrote (commit (stamp 1 1) (tx 1 2) (operation 0 1 (Some 2) ∷ operation 0 1 (Some 2) ∷ []))) ∷
    marked 4 (Sent 34 2 (messages.Decision (tx 1 2) (outcomes.Committed (stamp 1 1)))) ∷
    marked 4 (Told (replies.Committed (stamp 1 1))) ∷ marked 2 (Got 34) ∷ marked 3 (Called commands.Commit) ∷
    marked 2 (Wrote (records.Done (tx 1 2) 1)) ∷ marked 3 (Sent 35 0 (messages.Request (tx 0 4) 1 1 wants.Prepare)) ∷
    marked 0 (Got 35) ∷ marked 0 (Wrote (prepare (tx 0 4) 1 (read_lock 0 0 ∷ []) [] [])) ∷
    marked 0 (Sent 36 3 (messages.Answer 35 (answers.Yes 2))) ∷ marked 3 (Got 36) ∷
    marked 3 (Wrote (commit (stamp 3 0) (tx 0 4) [])) ∷
    marked 3 (Sent 37 0 (messages.Decision (tx 0 4) (outcomes.Committed (stamp 3 0)))) ∷
    marked 3 (Sent 38 2 (messages.Decision (tx 0 4) (outcomes.Committed (stamp 3 0)))) ∷
    marked 3 (Told (replies.Committed (stamp 3 0))) ∷ marked 2 (Got 38) ∷ marked 3 (Called commands.Begin) ∷
    marked 0 (Got 37) ∷ marked 0 (Wrote (records.Done (tx 0 4) 3)) ∷ marked 3 (Told (replies.Began (tx 0 5))) ∷
    marked 3 (Called (commands.Do 0 2)) ∷
    marked 3 (Sent 39 0 (messages.Request (tx 0 5) 1 0 (wants.Append 0 [] (own_line 1 0 3 ∷ [])))) ∷ marked 0 (Got 39) ∷
    marked 0 (Sent 40 3 (messages.Answer 39 (answers.Granted (whole_grant 1 3 [])))) ∷ marked 3 (Got 40) ∷
    marked 3 (Told (replies.Response 2)) ∷ marked 3 (Called commands.Commit) ∷
    marked 3 (Sent 41 0 (messages.Request (tx 0 5) 1 1 wants.Prepare)) ∷ marked 0 (Got 41) ∷
    marked 0 (Wrote (prepare (tx 0 5) 1 [] (own_line 1 0 3 ∷ []) [])) ∷
    marked 0 (Sent 42 3 (messages.Answer 41 (answers.Yes 3))) ∷ marked 3 (Got 42) ∷
    marked 3 (Wrote (commit (stamp 4 0) (tx 0 5) (operation 0 2 (Some 2) ∷ []))) ∷
    marked 3 (Sent 43 0 (messages.Decision (tx 0 5) (outcomes.Committed (stamp 4 0)))) ∷
    marked 3 (Told (replies.Committed (stamp 4 0))) ∷ marked 0 (Got 43) ∷ marked 0 (Wrote (records.Done (tx 0 5) 4)) ∷
    []
