-- Random: sites 2, clients 4, steps 172, messages 57, commits 4, aborts 2, conflicts 3.
use Rattle.std.specs.Prelude.{List, [], ◌∷◌, Some}
use Rattle.qc_decl.specs.declared.declaration.Declaration.{Declaration}
use Rattle.qc_decl.specs.Vocabulary.{row}
use Rattle.qc_msg.specs.Vocabulary.{Entry, marked}
use Rattle.tests_histories.specs.Play.{Move, Takes, Posts, Acts}
use Rattle.tests_histories.specs.Words.{tx, stamp, line, own_line, operation, read_lock, prepare, commit, declaration}
use Rattle.tests_histories.specs.Words.{kind, pair, plan}
use Rattle.qc_msg.specs.declared.step.Step.TheVariants.{Phase, Called, Got, Wrote, Sent, Told}
use Rattle.qc_msg.specs.declared.message.Answer.TheVariants as answers
use Rattle.qc_msg.specs.declared.reply.AbortCause.TheVariants as causes
use Rattle.qc_msg.specs.declared.step.Command.TheVariants as commands
use Rattle.qc_msg.specs.declared.message.Message.TheVariants as messages
use Rattle.qc_msg.specs.declared.message.Outcome.TheVariants as outcomes
use Rattle.qc_msg.specs.declared.record.Record.TheVariants as records
use Rattle.qc_msg.specs.declared.reply.Reply.TheVariants as replies
use Rattle.qc_msg.specs.declared.message.Want.TheVariants as wants
use Rattle.qc_msg.specs.Vocabulary.{whole_grant, first_read}

abbrev pub decl : Declaration
decl =
    declaration 2 4 (kind 2 3 2 0 (row 0 0 1 0 ∷ row 0 1 0 1 ∷ row 0 2 0 1 ∷ row 1 0 0 0 ∷ row 1 2 1 0 ∷ row 1 2 0 1 ∷
    []) (pair 0 1 ∷ pair 0 2 ∷ pair 0 3 ∷ pair 0 4 ∷ pair 1 1 ∷ pair 1 2 ∷ pair 1 3 ∷ pair 1 4 ∷ pair 2 1 ∷ pair 2 2 ∷
    pair 2 3 ∷ pair 2 4 ∷ []) ∷ kind 3 3 2 0 (row 0 0 1 2 ∷ row 0 1 1 0 ∷ row 0 1 0 2 ∷ row 0 2 1 0 ∷ row 1 1 0 2 ∷ row
    2 0 0 1 ∷ row 2 1 0 2 ∷ row 2 2 1 1 ∷ row 2 2 0 0 ∷ []) (pair 0 0 ∷ pair 0 2 ∷ pair 0 3 ∷ pair 0 4 ∷ pair 0 5 ∷ pair
    1 0 ∷ pair 1 2 ∷ pair 1 5 ∷ pair 2 0 ∷ pair 2 2 ∷ pair 2 3 ∷ pair 2 4 ∷ pair 2 5 ∷ []) ∷ []) (1 ∷ []) (plan (3 ∷ 1 ∷
    []) ((4 ∷ 1 ∷ 3 ∷ []) ∷ []) ((4 ∷ 0 ∷ 4 ∷ 2 ∷ 2 ∷ 4 ∷ []) ∷ []) ∷ plan (1 ∷ 1 ∷ []) ((2 ∷ 2 ∷ 2 ∷ []) ∷ []) ((1 ∷ 2
    ∷ 1 ∷ 1 ∷ 1 ∷ 1 ∷ []) ∷ []) ∷ plan (3 ∷ 1 ∷ []) ((2 ∷ 2 ∷ 1 ∷ []) ∷ []) ((4 ∷ 2 ∷ 4 ∷ 4 ∷ 4 ∷ 4 ∷ []) ∷ []) ∷ [])

abbrev pub moves : List Move
moves =
    Acts (Phase 1) ∷ Takes 4 (Called commands.Begin) ∷ Posts 4 ∷ Takes 4 (Called commands.Commit) ∷ Posts 4 ∷
    Takes 3 (Called commands.Begin) ∷ Posts 3 ∷ Takes 3 (Called (commands.Do 0 2)) ∷ Posts 3 ∷ Takes 1 (Got 0) ∷
    Takes 0 (Got 1) ∷ Posts 1 ∷ Takes 3 (Got 2) ∷ Posts 3 ∷ Posts 0 ∷ Takes 2 (Called commands.Begin) ∷ Posts 2 ∷
    Takes 2 (Called commands.Abort) ∷ Posts 2 ∷ Takes 3 (Got 3) ∷ Posts 3 ∷ Takes 1 (Got 4) ∷ Posts 1 ∷
    Takes 0 (Got 5) ∷ Takes 3 (Got 6) ∷ Posts 3 ∷ Posts 0 ∷ Takes 3 (Got 7) ∷ Posts 3 ∷
    Takes 3 (Called (commands.Do 0 2)) ∷ Posts 3 ∷ Takes 1 (Got 8) ∷ Posts 1 ∷ Takes 3 (Got 10) ∷ Posts 3 ∷
    Takes 0 (Got 9) ∷ Posts 0 ∷ Takes 3 (Got 11) ∷ Posts 3 ∷ Takes 1 (Got 12) ∷ Takes 0 (Got 13) ∷ Posts 1 ∷
    Takes 3 (Got 14) ∷ Posts 3 ∷ Posts 0 ∷ Takes 3 (Got 15) ∷ Posts 3 ∷ Takes 3 (Called commands.Commit) ∷ Posts 3 ∷
    Takes 1 (Got 16) ∷ Takes 0 (Got 17) ∷ Posts 1 ∷ Posts 0 ∷ Takes 3 (Got 18) ∷ Posts 3 ∷ Takes 3 (Got 19) ∷ Posts 3 ∷
    Takes 1 (Got 21) ∷ Posts 1 ∷ Takes 0 (Got 20) ∷ Posts 0 ∷ Acts (Phase 2) ∷ Takes 5 (Called commands.Begin) ∷
    Posts 5 ∷ Takes 3 (Called commands.Begin) ∷ Takes 5 (Called (commands.Do 0 1)) ∷ Posts 3 ∷
    Takes 3 (Called (commands.Do 0 0)) ∷ Posts 3 ∷ Posts 5 ∷ Takes 0 (Got 23) ∷ Takes 1 (Got 22) ∷ Posts 0 ∷
    Takes 3 (Got 25) ∷ Posts 3 ∷ Takes 2 (Called commands.Begin) ∷ Posts 1 ∷ Takes 1 (Got 24) ∷ Takes 3 (Got 26) ∷
    Posts 3 ∷ Takes 0 (Got 28) ∷ Posts 0 ∷ Takes 3 (Got 29) ∷ Posts 3 ∷ Posts 2 ∷ Takes 2 (Called (commands.Do 0 1)) ∷
    Posts 2 ∷ Takes 0 (Got 30) ∷ Posts 0 ∷ Takes 3 (Got 32) ∷ Posts 3 ∷ Takes 2 (Got 31) ∷ Takes 0 (Got 33) ∷ Posts 0 ∷
    Posts 1 ∷ Takes 1 (Got 27) ∷ Takes 5 (Got 34) ∷ Posts 5 ∷ Posts 2 ∷ Takes 0 (Got 36) ∷ Posts 1 ∷ Takes 3 (Got 37) ∷
    Takes 1 (Got 35) ∷ Posts 3 ∷ Takes 3 (Called (commands.Do 0 0)) ∷ Posts 3 ∷ Takes 3 (Called (commands.Do 0 2)) ∷
    Posts 3 ∷ Takes 3 (Called commands.Commit) ∷ Posts 3 ∷ Takes 3 (Called commands.Begin) ∷ Posts 3 ∷
    Takes 3 (Called (commands.Do 0 1)) ∷ Posts 3 ∷ Posts 0 ∷ Takes 3 (Got 43) ∷ Takes 0 (Got 39) ∷ Posts 0 ∷ Posts 3 ∷
    Takes 5 (Got 38) ∷ Posts 5 ∷ Takes 2 (Called commands.Commit) ∷ Takes 5 (Got 42) ∷ Posts 5 ∷ Takes 0 (Got 44) ∷
    Posts 0 ∷ Posts 2 ∷ Takes 0 (Got 46) ∷ Posts 0 ∷ Takes 2 (Called commands.Begin) ∷ Posts 2 ∷ Posts 1 ∷
    Takes 5 (Got 47) ∷ Takes 3 (Got 48) ∷ Posts 3 ∷ Takes 1 (Got 40) ∷ Posts 1 ∷ Posts 5 ∷
    Takes 5 (Called (commands.Do 0 0)) ∷ Posts 5 ∷ Takes 5 (Called commands.Commit) ∷ Posts 5 ∷ Takes 0 (Got 50) ∷
    Posts 0 ∷ Takes 1 (Got 41) ∷ Posts 1 ∷ Takes 3 (Got 52) ∷ Posts 3 ∷ Takes 1 (Got 45) ∷ Posts 1 ∷ Takes 0 (Got 54) ∷
    Takes 1 (Got 49) ∷ Posts 1 ∷ Takes 2 (Called commands.Commit) ∷ Posts 0 ∷ Takes 3 (Got 55) ∷ Posts 3 ∷
    Takes 1 (Got 51) ∷ Posts 1 ∷ Posts 2 ∷ Takes 1 (Got 53) ∷ Posts 1 ∷ Takes 3 (Got 56) ∷ Posts 3 ∷ []

abbrev pub history : List Entry
history =
    marked 7 (Phase 1) ∷ marked 4 (Called commands.Begin) ∷ marked 4 (Told (replies.Began (tx 2 1))) ∷
    marked 4 (Called commands.Commit) ∷ marked 4 (Wrote (commit (stamp 1 2) (tx 2 1) [])) ∷
    marked 4 (Told (replies.Committed (stamp 1 2))) ∷ marked 3 (Called commands.Begin) ∷
    marked 3 (Told (replies.Began (tx 1 1))) ∷ marked 3 (Called (commands.Do 0 2)) ∷
    marked 3 (Sent 0 1 (messages.Request (tx 1 1) 1 0 (wants.Read (first_read 0 2)))) ∷
    marked 3 (Sent 1 0 (messages.Request (tx 1 1) 1 0 (wants.Read (first_read 0 2)))) ∷ marked 1 (Got 0) ∷
    marked 0 (Got 1)
    ∷
    marked 1 (Sent 2 3 (messages.Answer 0 (answers.Granted (whole_grant 1 0 [])))) ∷ marked 3 (Got 2) ∷
    marked 0 (Sent 3 3 (messages.Answer 1 (answers.Granted (whole_grant 1 0 [])))) ∷ marked 2 (Called commands.Begin) ∷
    marked 2 (Told (replies.Began (tx 0 1))) ∷ marked 2 (Called commands.Abort) ∷ marked 2 (Told replies.Dropped) ∷
    marked 3 (Got 3) ∷ marked 3 (Sent 4 1 (messages.Request (tx 1 1) 1 1 (wants.Append 0 [] (own_line 1 0 3 ∷ [])))) ∷
    marked 3 (Sent 5 0 (messages.Request (tx 1 1) 1 1 (wants.Append 0 [] (own_line 1 0 3 ∷ [])))) ∷ marked 1 (Got 4) ∷
    marked 1 (Sent 6 3 (messages.Answer 4 (answers.Granted (whole_grant 1 0 [])))) ∷ marked 0 (Got 5) ∷ marked 3 (Got 6)
    ∷
    marked 0 (Sent 7 3 (messages.Answer 5 (answers.Granted (whole_grant 1 0 [])))) ∷ marked 3 (Got 7) ∷
    marked 3 (Told (replies.Response 1)) ∷ marked 3 (Called (commands.Do 0 2)) ∷
    marked 3 (Sent 8 1 (messages.Request (tx 1 1) 1 1 (wants.Read (first_read 0 2)))) ∷
    marked 3 (Sent 9 0 (messages.Request (tx 1 1) 1 1 (wants.Read (first_read 0 2)))) ∷ marked 1 (Got 8) ∷
    marked 1 (Sent 10 3 (messages.Answer 8 (answers.Granted (whole_grant 1 0 [])))) ∷ marked 3 (Got 10)
    ∷ marked 0 (Got 9) ∷
    marked 0 (Sent 11 3 (messages.Answer 9 (answers.Granted (whole_grant 1 0 [])))) ∷ marked 3 (Got 11) ∷
    marked 3 (Sent 12 1 (messages.Request (tx 1 1) 1 1 (wants.Append 0 [] (own_line 1 0 3 ∷ own_line 2 0 3 ∷ [])))) ∷
    marked 3 (Sent 13 0 (messages.Request (tx 1 1) 1 1 (wants.Append 0 [] (own_line 1 0 3 ∷ own_line 2 0 3 ∷ [])))) ∷
    marked 1 (Got 12) ∷ marked 0 (Got 13)
    ∷ marked 1 (Sent 14 3 (messages.Answer 12 (answers.Granted (whole_grant 1 0 [])))) ∷
    marked 3 (Got 14) ∷ marked 0 (Sent 15 3 (messages.Answer 13 (answers.Granted (whole_grant 1 0 []))))
    ∷ marked 3 (Got 15) ∷
    marked 3 (Told (replies.Response 1)) ∷ marked 3 (Called commands.Commit) ∷
    marked 3 (Sent 16 1 (messages.Request (tx 1 1) 1 1 wants.Prepare)) ∷
    marked 3 (Sent 17 0 (messages.Request (tx 1 1) 1 1 wants.Prepare)) ∷ marked 1 (Got 16) ∷ marked 0 (Got 17) ∷
    marked 1 (Wrote (prepare (tx 1 1) 1 (read_lock 0 2 ∷ []) (own_line 1 0 3 ∷ own_line 2 0 3 ∷ []) [])) ∷
    marked 1 (Sent 18 3 (messages.Answer 16 (answers.Yes 0))) ∷
    marked 0 (Wrote (prepare (tx 1 1) 1 (read_lock 0 2 ∷ []) (own_line 1 0 3 ∷ own_line 2 0 3 ∷ []) [])) ∷
    marked 0 (Sent 19 3 (messages.Answer 17 (answers.Yes 0))) ∷ marked 3 (Got 18) ∷ marked 3 (Got 19) ∷
    marked 3 (Wrote (commit (stamp 1 1) (tx 1 1) (operation 0 2 (Some 1) ∷ operation 0 2 (Some 1) ∷ []))) ∷
    marked 3 (Sent 20 0 (messages.Decision (tx 1 1) (outcomes.Committed (stamp 1 1)))) ∷
    marked 3 (Sent 21 1 (messages.Decision (tx 1 1) (outcomes.Committed (stamp 1 1)))) ∷
    marked 3 (Told (replies.Committed (stamp 1 1))) ∷ marked 1 (Got 21) ∷ marked 1 (Wrote (records.Done (tx 1 1) 1)) ∷
    marked 0 (Got 20) ∷ marked 0 (Wrote (records.Done (tx 1 1) 1)) ∷ marked 7 (Phase 2) ∷
    marked 5 (Called commands.Begin) ∷ marked 5 (Told (replies.Began (tx 3 1))) ∷ marked 3 (Called commands.Begin) ∷
    marked 5 (Called (commands.Do 0 1)) ∷ marked 3 (Told (replies.Began (tx 1 2))) ∷
    marked 3 (Called (commands.Do 0 0))
    ∷ marked 3 (Sent 22 1 (messages.Request (tx 1 2) 1 0 (wants.Read (first_read 0 0)))) ∷
    marked 3 (Sent 23 0 (messages.Request (tx 1 2) 1 0 (wants.Read (first_read 0 0)))) ∷
    marked 5 (Sent 24 1 (messages.Request (tx 3 1) 1 0 (wants.Read (first_read 0 1)))) ∷ marked 0 (Got 23)
    ∷ marked 1 (Got 22) ∷
    marked 0
    (Sent 25 3 (messages.Answer 23 (answers.Granted (whole_grant 1 1 (line 1 1 1 1 0 3 ∷ line 1 1 1 2 0 3 ∷ []))))) ∷
    marked 3 (Got 25) ∷ marked 2 (Called commands.Begin) ∷
    marked 1
    (Sent 26 3 (messages.Answer 22 (answers.Granted (whole_grant 1 1 (line 1 1 1 1 0 3 ∷ line 1 1 1 2 0 3 ∷ []))))) ∷
    marked 1 (Got 24) ∷ marked 3 (Got 26) ∷
    marked 3 (Sent 27 1 (messages.Request (tx 1 2) 1 1 (wants.Append 0 (line 1 1 1 1 0 3 ∷ line 1 1 1 2 0 3 ∷ [])
    (own_line 1 0 0 ∷ [])))) ∷
    marked 3 (Sent 28 0 (messages.Request (tx 1 2) 1 1 (wants.Append 0 (line 1 1 1 1 0 3 ∷ line 1 1 1 2 0 3 ∷ [])
    (own_line 1 0 0 ∷ [])))) ∷
    marked 0 (Got 28) ∷ marked 0 (Sent 29 3 (messages.Answer 28 (answers.Granted (whole_grant 1 1 []))))
    ∷ marked 3 (Got 29) ∷
    marked 2 (Told (replies.Began (tx 0 2))) ∷ marked 2 (Called (commands.Do 0 1)) ∷
    marked 2 (Sent 30 0 (messages.Request (tx 0 2) 1 0 (wants.Read (first_read 0 1)))) ∷ marked 0 (Got 30) ∷
    marked 0 (Sent 31 2 (messages.Answer 30 (answers.Clash (tx 1 2) 1 0))) ∷
    marked 0 (Sent 32 3 (messages.Inquiry (tx 1 2))) ∷ marked 3 (Got 32) ∷
    marked 3 (Sent 33 0 (messages.Decision (tx 1 2) outcomes.Active)) ∷ marked 2 (Got 31) ∷ marked 0 (Got 33) ∷
    marked 1
    (Sent 34 5 (messages.Answer 24 (answers.Granted (whole_grant 1 1 (line 1 1 1 1 0 3 ∷ line 1 1 1 2 0 3 ∷ []))))) ∷
    marked 1 (Got 27) ∷ marked 5 (Got 34) ∷
    marked 5 (Sent 35 1 (messages.Request (tx 3 1) 1 1 (wants.Append 0 (line 1 1 1 1 0 3 ∷ line 1 1 1 2 0 3 ∷ [])
    (own_line 1 0 2 ∷ [])))) ∷
    marked 5 (Sent 36 0 (messages.Request (tx 3 1) 1 0 (wants.Append 0 (line 1 1 1 1 0 3 ∷ line 1 1 1 2 0 3 ∷ [])
    (own_line 1 0 2 ∷ [])))) ∷
    marked 2 (Told (replies.Conflict (tx 1 2) 0)) ∷ marked 0 (Got 36) ∷
    marked 1 (Sent 37 3 (messages.Answer 27 (answers.Clash (tx 3 1) 1 0))) ∷
    marked 1 (Sent 38 5 (messages.Inquiry (tx 3 1))) ∷ marked 3 (Got 37) ∷ marked 1 (Got 35) ∷
    marked 3 (Told (replies.Conflict (tx 3 1) 1)) ∷ marked 3 (Called (commands.Do 0 0)) ∷
    marked 3 (Told replies.Doomed) ∷ marked 3 (Called (commands.Do 0 2)) ∷ marked 3 (Told replies.Doomed) ∷
    marked 3 (Called commands.Commit) ∷ marked 3 (Sent 39 0 (messages.Decision (tx 1 2) outcomes.Aborted)) ∷
    marked 3 (Sent 40 1 (messages.Decision (tx 1 2) outcomes.Aborted)) ∷
    marked 3 (Told (replies.Aborted causes.Doomed)) ∷ marked 3 (Called commands.Begin) ∷
    marked 3 (Told (replies.Began (tx 1 3))) ∷ marked 3 (Called (commands.Do 0 1)) ∷
    marked 3 (Sent 41 1 (messages.Request (tx 1 3) 1 0 (wants.Read (first_read 0 1)))) ∷
    marked 0 (Sent 42 5 (messages.Answer 36 (answers.Clash (tx 1 2) 0 2))) ∷
    marked 0 (Sent 43 3 (messages.Inquiry (tx 1 2))) ∷ marked 3 (Got 43) ∷ marked 0 (Got 39) ∷
    marked 3 (Sent 44 0 (messages.Decision (tx 1 2) outcomes.Aborted)) ∷ marked 5 (Got 38) ∷
    marked 5 (Sent 45 1 (messages.Decision (tx 3 1) outcomes.Active)) ∷ marked 2 (Called commands.Commit) ∷
    marked 5 (Got 42) ∷ marked 0 (Got 44) ∷ marked 2 (Wrote (commit (stamp 1 0) (tx 0 2) [])) ∷
    marked 2 (Sent 46 0 (messages.Decision (tx 0 2) (outcomes.Committed (stamp 1 0)))) ∷
    marked 2 (Told (replies.Committed (stamp 1 0))) ∷ marked 0 (Got 46) ∷ marked 2 (Called commands.Begin) ∷
    marked 2 (Told (replies.Began (tx 0 3))) ∷ marked 1 (Sent 47 5 (messages.Answer 35 (answers.Clash (tx 1 2) 0 2))) ∷
    marked 1 (Sent 48 3 (messages.Inquiry (tx 1 2))) ∷ marked 5 (Got 47) ∷ marked 3 (Got 48) ∷
    marked 3 (Sent 49 1 (messages.Decision (tx 1 2) outcomes.Aborted)) ∷ marked 1 (Got 40) ∷
    marked 5 (Told (replies.Conflict (tx 1 2) 1)) ∷ marked 5 (Called (commands.Do 0 0)) ∷
    marked 5 (Told replies.Doomed) ∷ marked 5 (Called commands.Commit) ∷
    marked 5 (Sent 50 0 (messages.Decision (tx 3 1) outcomes.Aborted)) ∷
    marked 5 (Sent 51 1 (messages.Decision (tx 3 1) outcomes.Aborted)) ∷
    marked 5 (Told (replies.Aborted causes.Doomed)) ∷ marked 0 (Got 50) ∷ marked 1 (Got 41) ∷
    marked 1
    (Sent 52 3 (messages.Answer 41 (answers.Granted (whole_grant 1 1 (line 1 1 1 1 0 3 ∷ line 1 1 1 2 0 3 ∷ []))))) ∷
    marked 3 (Got 52) ∷
    marked 3 (Sent 53 1 (messages.Request (tx 1 3) 1 1 (wants.Append 0 (line 1 1 1 1 0 3 ∷ line 1 1 1 2 0 3 ∷ [])
    (own_line 1 0 2 ∷ [])))) ∷
    marked 3 (Sent 54 0 (messages.Request (tx 1 3) 1 0 (wants.Append 0 (line 1 1 1 1 0 3 ∷ line 1 1 1 2 0 3 ∷ [])
    (own_line 1 0 2 ∷ [])))) ∷
    marked 1 (Got 45) ∷ marked 0 (Got 54) ∷ marked 1 (Got 49) ∷ marked 2 (Called commands.Commit) ∷
    marked 0 (Sent 55 3 (messages.Answer 54 (answers.Granted (whole_grant 1 1 [])))) ∷ marked 3 (Got 55)
    ∷ marked 1 (Got 51) ∷
    marked 2 (Wrote (commit (stamp 2 0) (tx 0 3) [])) ∷ marked 2 (Told (replies.Committed (stamp 2 0))) ∷
    marked 1 (Got 53) ∷ marked 1 (Sent 56 3 (messages.Answer 53 (answers.Granted (whole_grant 1 1 []))))
    ∷ marked 3 (Got 56) ∷
    marked 3 (Told (replies.Response 0)) ∷ []
