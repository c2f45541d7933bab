-- Random: sites 2, clients 2, steps 175, messages 53, lost 3, commits 6, aborts 1, short rounds 1, absent 1.
use Rattle.std.specs.Prelude.{List, [], ◌∷◌, Some, None}
use Rattle.qc_decl.specs.declared.declaration.Declaration.{Declaration}
use Rattle.qc_decl.specs.Vocabulary.{row}
use Rattle.qc_msg.specs.Vocabulary.{Entry, marked}
use Rattle.tests_histories.specs.Play.{Move, Takes, Posts, Acts}
use Rattle.tests_histories.specs.Words.{tx, stamp, line, own_line, operation, read_lock, prepare, commit, declaration}
use Rattle.tests_histories.specs.Words.{kind, pair, plan}
use Rattle.qc_msg.specs.declared.step.Step.TheVariants.{Phase, Called, Got, Lost, Wrote, Sent, Told}
use Rattle.qc_msg.specs.declared.message.Answer.TheVariants as answers
use Rattle.qc_msg.specs.declared.reply.AbortCause.TheVariants as causes
use Rattle.qc_msg.specs.declared.step.Command.TheVariants as commands
use Rattle.qc_msg.specs.declared.reply.Half.TheVariants as halves
use Rattle.qc_msg.specs.declared.message.Message.TheVariants as messages
use Rattle.qc_msg.specs.declared.message.Outcome.TheVariants as outcomes
use Rattle.qc_msg.specs.declared.record.Record.TheVariants as records
use Rattle.qc_msg.specs.declared.reply.Reply.TheVariants as replies
use Rattle.qc_msg.specs.declared.message.Want.TheVariants as wants
use Rattle.qc_msg.specs.Vocabulary.{whole_grant, first_read}

abbrev pub decl : Declaration
decl =
    declaration 2 2 (kind 4 3 3 0 (row 0 0 1 3 ∷ row 0 0 0 3 ∷ row 0 1 2 3 ∷ row 0 2 0 1 ∷ row 1 1 0 2 ∷ row 2 0 1 3 ∷
    row 2 2 1 2 ∷ row 3 1 2 3 ∷ row 3 2 2 1 ∷ row 3 2 0 2 ∷ []) (pair 0 0 ∷ pair 0 1 ∷ pair 0 2 ∷ pair 0 3 ∷ pair 0 4 ∷
    pair 0 6 ∷ pair 1 0 ∷ pair 1 3 ∷ pair 1 4 ∷ pair 1 6 ∷ pair 2 0 ∷ pair 2 1 ∷ pair 2 2 ∷ pair 2 3 ∷ pair 2 4 ∷ pair 2
    6 ∷ []) ∷ []) (0 ∷ 0 ∷ []) (plan (1 ∷ 3 ∷ []) ((3 ∷ 3 ∷ 3 ∷ []) ∷ (3 ∷ 3 ∷ 1 ∷ []) ∷ []) ((2 ∷ 2 ∷ 2 ∷ 2 ∷ 2 ∷ 0 ∷ 2
    ∷ []) ∷ (4 ∷ 4 ∷ 4 ∷ 4 ∷ 4 ∷ 0 ∷ 4 ∷ []) ∷ []) ∷ plan (3 ∷ 3 ∷ []) ((3 ∷ 6 ∷ 1 ∷ []) ∷ (4 ∷ 4 ∷ 4 ∷ []) ∷ []) ((6 ∷
    6 ∷ 6 ∷ 6 ∷ 6 ∷ 0 ∷ 6 ∷ []) ∷ (3 ∷ 3 ∷ 3 ∷ 3 ∷ 3 ∷ 0 ∷ 3 ∷ []) ∷ []) ∷ plan (3 ∷ 1 ∷ []) ((3 ∷ 3 ∷ 3 ∷ []) ∷ (3 ∷ 3
    ∷ 3 ∷ []) ∷ []) ((2 ∷ 2 ∷ 2 ∷ 2 ∷ 2 ∷ 0 ∷ 2 ∷ []) ∷ (2 ∷ 2 ∷ 2 ∷ 3 ∷ 2 ∷ 4 ∷ 2 ∷ []) ∷ []) ∷ [])

abbrev pub moves : List Move
moves =
    Acts (Phase 1) ∷ Takes 3 (Called commands.Begin) ∷ Posts 3 ∷ Takes 3 (Called (commands.Do 0 0)) ∷ Posts 3 ∷
    Takes 1 (Got 0) ∷ Posts 1 ∷ Takes 3 (Got 1) ∷ Posts 3 ∷ Takes 1 (Got 2) ∷ Posts 1 ∷ Takes 3 (Got 3) ∷ Posts 3 ∷
    Acts (Phase 2) ∷ Takes 3 (Called commands.Commit) ∷ Posts 3 ∷ Takes 3 (Lost 4) ∷ Posts 3 ∷ Takes 1 (Got 5) ∷
    Posts 1 ∷ Takes 3 (Called commands.Begin) ∷ Posts 3 ∷ Takes 3 (Called (commands.Do 0 0)) ∷ Posts 3 ∷
    Takes 1 (Got 6) ∷ Posts 1 ∷ Takes 3 (Got 7) ∷ Posts 3 ∷ Takes 1 (Got 8) ∷ Posts 1 ∷ Takes 3 (Got 9) ∷ Posts 3 ∷
    Takes 3 (Called commands.Commit) ∷ Posts 3 ∷ Takes 1 (Got 10) ∷ Posts 1 ∷ Takes 3 (Got 11) ∷ Posts 3 ∷
    Takes 3 (Called commands.Begin) ∷ Posts 3 ∷ Takes 3 (Called (commands.Do 1 1)) ∷ Posts 3 ∷ Takes 1 (Got 12) ∷
    Posts 1 ∷ Takes 1 (Got 13) ∷ Posts 1 ∷ Takes 3 (Got 14) ∷ Posts 3 ∷ Takes 0 (Got 16) ∷ Posts 0 ∷ Takes 1 (Got 15) ∷
    Posts 1 ∷ Takes 3 (Got 17) ∷ Posts 3 ∷ Takes 3 (Got 18) ∷ Posts 3 ∷ Takes 3 (Called commands.Commit) ∷ Posts 3 ∷
    Takes 0 (Got 20) ∷ Posts 0 ∷ Takes 1 (Got 19) ∷ Posts 1 ∷ Takes 3 (Got 21) ∷ Posts 3 ∷ Takes 3 (Got 22) ∷ Posts 3 ∷
    Takes 0 (Got 23) ∷ Posts 0 ∷ Takes 1 (Got 24) ∷ Posts 1 ∷ Acts (Phase 3) ∷ Takes 3 (Called commands.Abort) ∷
    Takes 2 (Called commands.Abort) ∷ Posts 3 ∷ Takes 3 (Called commands.Begin) ∷ Posts 3 ∷
    Takes 3 (Called (commands.Do 0 0)) ∷ Posts 3 ∷ Takes 1 (Got 25) ∷ Posts 1 ∷ Takes 3 (Got 26) ∷ Posts 3 ∷
    Takes 3 (Called commands.Commit) ∷ Posts 3 ∷ Takes 1 (Got 27) ∷ Posts 1 ∷ Takes 3 (Got 28) ∷ Posts 3 ∷
    Takes 1 (Got 29) ∷ Takes 3 (Called commands.Begin) ∷ Posts 1 ∷ Posts 3 ∷ Takes 3 (Called (commands.Do 0 1)) ∷
    Posts 3 ∷ Takes 1 (Got 30) ∷ Posts 1 ∷ Takes 3 (Got 31) ∷ Posts 3 ∷ Takes 1 (Got 32) ∷ Posts 1 ∷ Takes 3 (Got 33) ∷
    Posts 3 ∷ Takes 3 (Called commands.Commit) ∷ Posts 3 ∷ Takes 1 (Got 34) ∷ Posts 1 ∷ Takes 3 (Got 35) ∷ Posts 3 ∷
    Takes 1 (Got 36) ∷ Posts 1 ∷ Posts 2 ∷ Takes 2 (Called commands.Begin) ∷ Posts 2 ∷
    Takes 2 (Called (commands.Do 1 2)) ∷ Posts 2 ∷ Takes 0 (Got 37) ∷ Posts 0 ∷ Takes 2 (Got 38) ∷ Posts 2 ∷
    Takes 0 (Got 39) ∷ Takes 1 (Got 40) ∷ Posts 1 ∷ Takes 2 (Got 41) ∷ Posts 2 ∷ Posts 0 ∷ Takes 2 (Got 42) ∷ Posts 2 ∷
    Takes 2 (Called commands.Commit) ∷ Posts 2 ∷ Takes 1 (Got 44) ∷ Posts 1 ∷ Takes 0 (Got 43) ∷ Takes 2 (Got 45) ∷
    Posts 2 ∷ Posts 0 ∷ Takes 2 (Got 46) ∷ Posts 2 ∷ Takes 0 (Got 47) ∷ Takes 1 (Got 48) ∷ Posts 1 ∷
    Takes 2 (Called commands.Begin) ∷ Posts 2 ∷ Takes 2 (Called (commands.Do 0 2)) ∷ Posts 0 ∷ Posts 2 ∷
    Takes 2 (Lost 49) ∷ Posts 2 ∷ Takes 2 (Lost 50) ∷ Posts 2 ∷ Takes 2 (Called commands.Commit) ∷ Posts 2 ∷
    Takes 0 (Got 51) ∷ Posts 0 ∷ Takes 1 (Got 52) ∷ Posts 1 ∷ []

abbrev pub history : List Entry
history =
    marked 5 (Phase 1) ∷ marked 3 (Called commands.Begin) ∷ marked 3 (Told (replies.Began (tx 1 1))) ∷
    marked 3 (Called (commands.Do 0 0)) ∷
    marked 3 (Sent 0 1 (messages.Request (tx 1 1) 1 0 (wants.Read (first_read 0 0))))
    ∷
    marked 1 (Got 0) ∷ marked 1 (Sent 1 3 (messages.Answer 0 (answers.Granted (whole_grant 1 0 [])))) ∷ marked 3 (Got 1)
    ∷
    marked 3 (Sent 2 1 (messages.Request (tx 1 1) 1 1 (wants.Append 0 [] (own_line 1 0 1 ∷ [])))) ∷ marked 1 (Got 2) ∷
    marked 1 (Sent 3 3 (messages.Answer 2 (answers.Granted (whole_grant 1 0 [])))) ∷ marked 3 (Got 3) ∷
    marked 3 (Told (replies.Response 0)) ∷ marked 5 (Phase 2) ∷ marked 3 (Called commands.Commit) ∷
    marked 3 (Sent 4 1 (messages.Request (tx 1 1) 1 1 wants.Prepare)) ∷ marked 3 (Lost 4) ∷
    marked 3 (Sent 5 1 (messages.Decision (tx 1 1) outcomes.Aborted)) ∷
    marked 3 (Told (replies.Aborted (causes.NoAnswer 1))) ∷ marked 1 (Got 5) ∷ marked 3 (Called commands.Begin) ∷
    marked 3 (Told (replies.Began (tx 1 2))) ∷ marked 3 (Called (commands.Do 0 0)) ∷
    marked 3 (Sent 6 1 (messages.Request (tx 1 2) 1 0 (wants.Read (first_read 0 0)))) ∷ marked 1 (Got 6) ∷
    marked 1 (Sent 7 3 (messages.Answer 6 (answers.Granted (whole_grant 1 0 [])))) ∷ marked 3 (Got 7) ∷
    marked 3 (Sent 8 1 (messages.Request (tx 1 2) 1 1 (wants.Append 0 [] (own_line 1 0 1 ∷ [])))) ∷ marked 1 (Got 8) ∷
    marked 1 (Sent 9 3 (messages.Answer 8 (answers.Granted (whole_grant 1 0 [])))) ∷ marked 3 (Got 9) ∷
    marked 3 (Told (replies.Response 0)) ∷ marked 3 (Called commands.Commit) ∷
    marked 3 (Sent 10 1 (messages.Request (tx 1 2) 1 1 wants.Prepare)) ∷ marked 1 (Got 10) ∷
    marked 1 (Wrote (prepare (tx 1 2) 1 (read_lock 0 0 ∷ []) (own_line 1 0 1 ∷ []) [])) ∷
    marked 1 (Sent 11 3 (messages.Answer 10 (answers.Yes 0))) ∷ marked 3 (Got 11) ∷
    marked 3 (Wrote (commit (stamp 1 1) (tx 1 2) (operation 0 0 (Some 0) ∷ []))) ∷
    marked 3 (Sent 12 1 (messages.Decision (tx 1 2) (outcomes.Committed (stamp 1 1)))) ∷
    marked 3 (Told (replies.Committed (stamp 1 1))) ∷ marked 3 (Called commands.Begin) ∷
    marked 3 (Told (replies.Began (tx 1 3))) ∷ marked 3 (Called (commands.Do 1 1)) ∷
    marked 3 (Sent 13 1 (messages.Request (tx 1 3) 1 0 (wants.Read (first_read 1 1)))) ∷ marked 1 (Got 12) ∷
    marked 1 (Wrote (records.Done (tx 1 2) 1)) ∷ marked 1 (Got 13) ∷
    marked 1 (Sent 14 3 (messages.Answer 13 (answers.Granted (whole_grant 1 1 [])))) ∷ marked 3 (Got 14) ∷
    marked 3 (Sent 15 1 (messages.Request (tx 1 3) 1 1 (wants.Append 1 [] (own_line 1 1 2 ∷ [])))) ∷
    marked 3 (Sent 16 0 (messages.Request (tx 1 3) 1 0 (wants.Append 1 [] (own_line 1 1 2 ∷ [])))) ∷ marked 0 (Got 16) ∷
    marked 0 (Sent 17 3 (messages.Answer 16 (answers.Granted (whole_grant 1 0 [])))) ∷ marked 1 (Got 15) ∷
    marked 1 (Sent 18 3 (messages.Answer 15 (answers.Granted (whole_grant 1 1 [])))) ∷ marked 3 (Got 17)
    ∷ marked 3 (Got 18) ∷
    marked 3 (Told (replies.Response 2)) ∷ marked 3 (Called commands.Commit) ∷
    marked 3 (Sent 19 1 (messages.Request (tx 1 3) 1 1 wants.Prepare)) ∷
    marked 3 (Sent 20 0 (messages.Request (tx 1 3) 1 1 wants.Prepare)) ∷ marked 0 (Got 20) ∷
    marked 0 (Wrote (prepare (tx 1 3) 1 [] (own_line 1 1 2 ∷ []) [])) ∷
    marked 0 (Sent 21 3 (messages.Answer 20 (answers.Yes 0))) ∷ marked 1 (Got 19) ∷
    marked 1 (Wrote (prepare (tx 1 3) 1 (read_lock 1 1 ∷ []) (own_line 1 1 2 ∷ []) [])) ∷
    marked 1 (Sent 22 3 (messages.Answer 19 (answers.Yes 1))) ∷ marked 3 (Got 21) ∷ marked 3 (Got 22) ∷
    marked 3 (Wrote (commit (stamp 2 1) (tx 1 3) (operation 1 1 (Some 2) ∷ []))) ∷
    marked 3 (Sent 23 0 (messages.Decision (tx 1 3) (outcomes.Committed (stamp 2 1)))) ∷
    marked 3 (Sent 24 1 (messages.Decision (tx 1 3) (outcomes.Committed (stamp 2 1)))) ∷
    marked 3 (Told (replies.Committed (stamp 2 1))) ∷ marked 0 (Got 23) ∷ marked 0 (Wrote (records.Done (tx 1 3) 2)) ∷
    marked 1 (Got 24) ∷ marked 1 (Wrote (records.Done (tx 1 3) 2)) ∷ marked 5 (Phase 3) ∷
    marked 3 (Called commands.Abort) ∷ marked 2 (Called commands.Abort) ∷ marked 3 (Told replies.NoTransaction) ∷
    marked 3 (Called commands.Begin) ∷ marked 3 (Told (replies.Began (tx 1 4))) ∷ marked 3 (Called (commands.Do 0 0)) ∷
    marked 3 (Sent 25 1 (messages.Request (tx 1 4) 1 0 (wants.Read (first_read 0 0)))) ∷ marked 1 (Got 25) ∷
    marked 1 (Sent 26 3 (messages.Answer 25 (answers.Granted (whole_grant 1 2 (line 1 1 2 1 0 1 ∷ [])))))
    ∷ marked 3 (Got 26) ∷
    marked 3 (Told replies.Absent) ∷ marked 3 (Called commands.Commit) ∷
    marked 3 (Sent 27 1 (messages.Request (tx 1 4) 1 1 wants.Prepare)) ∷ marked 1 (Got 27) ∷
    marked 1 (Wrote (prepare (tx 1 4) 1 (read_lock 0 0 ∷ []) [] [])) ∷
    marked 1 (Sent 28 3 (messages.Answer 27 (answers.Yes 2))) ∷ marked 3 (Got 28) ∷
    marked 3 (Wrote (commit (stamp 3 1) (tx 1 4) (operation 0 0 None ∷ []))) ∷
    marked 3 (Sent 29 1 (messages.Decision (tx 1 4) (outcomes.Committed (stamp 3 1)))) ∷
    marked 3 (Told (replies.Committed (stamp 3 1))) ∷ marked 1 (Got 29) ∷ marked 3 (Called commands.Begin) ∷
    marked 1 (Wrote (records.Done (tx 1 4) 3)) ∷ marked 3 (Told (replies.Began (tx 1 5))) ∷
    marked 3 (Called (commands.Do 0 1))
    ∷ marked 3 (Sent 30 1 (messages.Request (tx 1 5) 1 0 (wants.Read (first_read 0 1)))) ∷
    marked 1 (Got 30)
    ∷ marked 1 (Sent 31 3 (messages.Answer 30 (answers.Granted (whole_grant 1 3 (line 1 1 2 1 0 1 ∷ []))))) ∷
    marked 3 (Got 31) ∷
    marked 3 (Sent 32 1 (messages.Request (tx 1 5) 1 1 (wants.Append 0 (line 1 1 2 1 0 1 ∷ []) (own_line 1 0 2 ∷ []))))
    ∷
    marked 1 (Got 32) ∷ marked 1 (Sent 33 3 (messages.Answer 32 (answers.Granted (whole_grant 1 3 []))))
    ∷ marked 3 (Got 33) ∷
    marked 3 (Told (replies.Response 2)) ∷ marked 3 (Called commands.Commit) ∷
    marked 3 (Sent 34 1 (messages.Request (tx 1 5) 1 1 wants.Prepare)) ∷ marked 1 (Got 34) ∷
    marked 1 (Wrote (prepare (tx 1 5) 1 (read_lock 0 1 ∷ []) (own_line 1 0 2 ∷ []) [])) ∷
    marked 1 (Sent 35 3 (messages.Answer 34 (answers.Yes 3))) ∷ marked 3 (Got 35) ∷
    marked 3 (Wrote (commit (stamp 4 1) (tx 1 5) (operation 0 1 (Some 2) ∷ []))) ∷
    marked 3 (Sent 36 1 (messages.Decision (tx 1 5) (outcomes.Committed (stamp 4 1)))) ∷
    marked 3 (Told (replies.Committed (stamp 4 1))) ∷ marked 1 (Got 36) ∷ marked 1 (Wrote (records.Done (tx 1 5) 4)) ∷
    marked 2 (Told replies.NoTransaction) ∷ marked 2 (Called commands.Begin) ∷
    marked 2 (Told (replies.Began (tx 0 1))) ∷ marked 2 (Called (commands.Do 1 2)) ∷
    marked 2 (Sent 37 0 (messages.Request (tx 0 1) 1 0 (wants.Read (first_read 1 2)))) ∷ marked 0 (Got 37) ∷
    marked 0 (Sent 38 2 (messages.Answer 37 (answers.Granted (whole_grant 1 2 (line 2 1 3 1 1 2 ∷ [])))))
    ∷ marked 2 (Got 38) ∷
    marked 2 (Sent 39 0 (messages.Request (tx 0 1) 1 1 (wants.Append 1 (line 2 1 3 1 1 2 ∷ []) (own_line 1 1 3 ∷ []))))
    ∷
    marked 2 (Sent 40 1 (messages.Request (tx 0 1) 1 0 (wants.Append 1 (line 2 1 3 1 1 2 ∷ []) (own_line 1 1 3 ∷ []))))
    ∷
    marked 0 (Got 39) ∷ marked 1 (Got 40)
    ∷ marked 1 (Sent 41 2 (messages.Answer 40 (answers.Granted (whole_grant 1 4 [])))) ∷
    marked 2 (Got 41) ∷ marked 0 (Sent 42 2 (messages.Answer 39 (answers.Granted (whole_grant 1 2 []))))
    ∷ marked 2 (Got 42) ∷
    marked 2 (Told (replies.Response 0)) ∷ marked 2 (Called commands.Commit) ∷
    marked 2 (Sent 43 0 (messages.Request (tx 0 1) 1 1 wants.Prepare)) ∷
    marked 2 (Sent 44 1 (messages.Request (tx 0 1) 1 1 wants.Prepare)) ∷ marked 1 (Got 44) ∷
    marked 1 (Wrote (prepare (tx 0 1) 1 [] (own_line 1 1 3 ∷ []) [])) ∷
    marked 1 (Sent 45 2 (messages.Answer 44 (answers.Yes 4))) ∷ marked 0 (Got 43) ∷ marked 2 (Got 45) ∷
    marked 0 (Wrote (prepare (tx 0 1) 1 (read_lock 1 2 ∷ []) (own_line 1 1 3 ∷ []) [])) ∷
    marked 0 (Sent 46 2 (messages.Answer 43 (answers.Yes 2))) ∷ marked 2 (Got 46) ∷
    marked 2 (Wrote (commit (stamp 5 0) (tx 0 1) (operation 1 2 (Some 0) ∷ []))) ∷
    marked 2 (Sent 47 0 (messages.Decision (tx 0 1) (outcomes.Committed (stamp 5 0)))) ∷
    marked 2 (Sent 48 1 (messages.Decision (tx 0 1) (outcomes.Committed (stamp 5 0)))) ∷
    marked 2 (Told (replies.Committed (stamp 5 0))) ∷ marked 0 (Got 47) ∷ marked 1 (Got 48) ∷
    marked 1 (Wrote (records.Done (tx 0 1) 5)) ∷ marked 2 (Called commands.Begin) ∷
    marked 2 (Told (replies.Began (tx 0 2))) ∷ marked 2 (Called (commands.Do 0 2)) ∷
    marked 0 (Wrote (records.Done (tx 0 1) 5))
    ∷ marked 2 (Sent 49 0 (messages.Request (tx 0 2) 1 0 (wants.Read (first_read 0 2)))) ∷
    marked 2 (Sent 50 1 (messages.Request (tx 0 2) 1 0 (wants.Read (first_read 0 2)))) ∷ marked 2 (Lost 49)
    ∷ marked 2 (Lost 50) ∷
    marked 2 (Told (replies.Quorum halves.Read 0 3)) ∷ marked 2 (Called commands.Commit) ∷
    marked 2 (Wrote (commit (stamp 6 0) (tx 0 2) [])) ∷
    marked 2 (Sent 51 0 (messages.Decision (tx 0 2) (outcomes.Committed (stamp 6 0)))) ∷
    marked 2 (Sent 52 1 (messages.Decision (tx 0 2) (outcomes.Committed (stamp 6 0)))) ∷
    marked 2 (Told (replies.Committed (stamp 6 0))) ∷ marked 0 (Got 51) ∷ marked 1 (Got 52) ∷ []
