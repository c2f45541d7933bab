-- Random: sites 3, clients 1, steps 99, messages 32, cuts 1, commits 2, absent 3.
use Rattle.std.specs.Prelude.{List, [], ◌∷◌, Some, None}
use Rattle.qc_decl.specs.declared.declaration.Declaration.{Declaration}
use Rattle.qc_decl.specs.Vocabulary.{row}
use Rattle.qc_msg.specs.Vocabulary.{Entry, marked}
use Rattle.tests_histories.specs.Play.{Move, Takes, Posts, Acts}
use Rattle.tests_histories.specs.Words.{tx, stamp, line, own_line, operation, read_lock, prepare, commit, declaration}
use Rattle.tests_histories.specs.Words.{kind, pair, plan}
use Rattle.qc_msg.specs.declared.step.Step.TheVariants.{Phase, Cut, Heal, Called, Got, Wrote, Sent, Told}
use Rattle.qc_msg.specs.declared.message.Answer.TheVariants as answers
use Rattle.qc_msg.specs.declared.step.Command.TheVariants as commands
use Rattle.qc_msg.specs.declared.message.Message.TheVariants as messages
use Rattle.qc_msg.specs.declared.message.Outcome.TheVariants as outcomes
use Rattle.qc_msg.specs.declared.record.Record.TheVariants as records
use Rattle.qc_msg.specs.declared.reply.Reply.TheVariants as replies
use Rattle.qc_msg.specs.declared.message.Want.TheVariants as wants
use Rattle.qc_msg.specs.Vocabulary.{whole_grant, first_read}

abbrev pub decl : Declaration
decl =
    declaration 3 1 (kind 2 2 2 0 (row 0 0 0 1 ∷ row 1 1 1 0 ∷ []) (pair 0 0 ∷ pair 0 1 ∷ pair 1 0 ∷ pair 1 1 ∷ []) ∷
    []) (0 ∷ []) (plan (0 ∷ 1 ∷ 3 ∷ []) ((3 ∷ 3 ∷ []) ∷ []) ((2 ∷ 2 ∷ []) ∷ []) ∷ plan (1 ∷ 1 ∷ 1 ∷ []) ((3 ∷ 1 ∷ []) ∷
    []) ((3 ∷ 3 ∷ []) ∷ []) ∷ [])

abbrev pub moves : List Move
moves =
    Acts (Phase 1) ∷ Acts (Cut 0 1) ∷ Takes 3 (Called commands.Begin) ∷ Posts 3 ∷ Takes 3 (Called (commands.Do 0 0)) ∷
    Posts 3 ∷ Takes 1 (Got 0) ∷ Posts 1 ∷ Takes 2 (Got 1) ∷ Posts 2 ∷ Takes 3 (Got 2) ∷ Posts 3 ∷ Takes 3 (Got 3) ∷
    Posts 3 ∷ Takes 1 (Got 4) ∷ Posts 1 ∷ Takes 2 (Got 5) ∷ Posts 2 ∷ Takes 3 (Got 6) ∷ Posts 3 ∷ Takes 3 (Got 7) ∷
    Posts 3 ∷ Takes 3 (Called commands.Commit) ∷ Posts 3 ∷ Takes 1 (Got 8) ∷ Posts 1 ∷ Takes 2 (Got 9) ∷ Posts 2 ∷
    Takes 3 (Got 10) ∷ Posts 3 ∷ Takes 3 (Got 11) ∷ Posts 3 ∷ Takes 1 (Got 12) ∷ Posts 1 ∷ Takes 2 (Got 13) ∷ Posts 2 ∷
    Acts (Phase 2) ∷ Acts (Heal 0 1) ∷ Takes 3 (Called commands.Begin) ∷ Posts 3 ∷ Takes 3 (Called (commands.Do 0 0)) ∷
    Posts 3 ∷ Takes 1 (Got 14) ∷ Posts 1 ∷ Takes 2 (Got 15) ∷ Posts 2 ∷ Takes 3 (Got 16) ∷ Posts 3 ∷ Takes 3 (Got 17) ∷
    Posts 3 ∷ Takes 3 (Called (commands.Do 0 0)) ∷ Posts 3 ∷ Takes 1 (Got 18) ∷ Posts 1 ∷ Takes 2 (Got 19) ∷ Posts 2 ∷
    Takes 3 (Got 20) ∷ Posts 3 ∷ Takes 3 (Got 21) ∷ Posts 3 ∷ Takes 3 (Called (commands.Do 0 0)) ∷ Posts 3 ∷
    Takes 1 (Got 22) ∷ Posts 1 ∷ Takes 2 (Got 23) ∷ Posts 2 ∷ Takes 3 (Got 24) ∷ Posts 3 ∷ Takes 3 (Got 25) ∷ Posts 3 ∷
    Takes 3 (Called commands.Begin) ∷ Posts 3 ∷ Takes 3 (Called commands.Commit) ∷ Posts 3 ∷ Takes 1 (Got 26) ∷
    Posts 1 ∷ Takes 2 (Got 27) ∷ Posts 2 ∷ Takes 3 (Got 28) ∷ Posts 3 ∷ Takes 3 (Got 29) ∷ Posts 3 ∷ Takes 1 (Got 30) ∷
    Posts 1 ∷ Takes 2 (Got 31) ∷ Posts 2 ∷ Acts (Phase 3) ∷ Takes 3 (Called commands.Commit) ∷ Posts 3 ∷ []

abbrev pub history : List Entry
history =
    marked 5 (Phase 1) ∷ marked 5 (Cut 0 1) ∷ marked 3 (Called commands.Begin) ∷
    marked 3 (Told (replies.Began (tx 0 1))) ∷ marked 3 (Called (commands.Do 0 0)) ∷
    marked 3 (Sent 0 1 (messages.Request (tx 0 1) 1 0 (wants.Read (first_read 0 0)))) ∷
    marked 3 (Sent 1 2 (messages.Request (tx 0 1) 1 0 (wants.Read (first_read 0 0)))) ∷ marked 1 (Got 0) ∷
    marked 1 (Sent 2 3 (messages.Answer 0 (answers.Granted (whole_grant 1 0 [])))) ∷ marked 2 (Got 1) ∷
    marked 2 (Sent 3 3 (messages.Answer 1 (answers.Granted (whole_grant 1 0 [])))) ∷ marked 3 (Got 2) ∷ marked 3 (Got 3)
    ∷
    marked 3 (Sent 4 1 (messages.Request (tx 0 1) 1 1 (wants.Append 0 [] (own_line 1 0 0 ∷ [])))) ∷
    marked 3 (Sent 5 2 (messages.Request (tx 0 1) 1 1 (wants.Append 0 [] (own_line 1 0 0 ∷ [])))) ∷ marked 1 (Got 4) ∷
    marked 1 (Sent 6 3 (messages.Answer 4 (answers.Granted (whole_grant 1 0 [])))) ∷ marked 2 (Got 5) ∷
    marked 2 (Sent 7 3 (messages.Answer 5 (answers.Granted (whole_grant 1 0 [])))) ∷ marked 3 (Got 6) ∷ marked 3 (Got 7)
    ∷
    marked 3 (Told (replies.Response 0)) ∷ marked 3 (Called commands.Commit) ∷
    marked 3 (Sent 8 1 (messages.Request (tx 0 1) 1 1 wants.Prepare)) ∷
    marked 3 (Sent 9 2 (messages.Request (tx 0 1) 1 1 wants.Prepare)) ∷ marked 1 (Got 8) ∷
    marked 1 (Wrote (prepare (tx 0 1) 1 (read_lock 0 0 ∷ []) (own_line 1 0 0 ∷ []) [])) ∷
    marked 1 (Sent 10 3 (messages.Answer 8 (answers.Yes 0))) ∷ marked 2 (Got 9) ∷
    marked 2 (Wrote (prepare (tx 0 1) 1 (read_lock 0 0 ∷ []) (own_line 1 0 0 ∷ []) [])) ∷
    marked 2 (Sent 11 3 (messages.Answer 9 (answers.Yes 0))) ∷ marked 3 (Got 10) ∷ marked 3 (Got 11) ∷
    marked 3 (Wrote (commit (stamp 1 0) (tx 0 1) (operation 0 0 (Some 0) ∷ []))) ∷
    marked 3 (Sent 12 1 (messages.Decision (tx 0 1) (outcomes.Committed (stamp 1 0)))) ∷
    marked 3 (Sent 13 2 (messages.Decision (tx 0 1) (outcomes.Committed (stamp 1 0)))) ∷
    marked 3 (Told (replies.Committed (stamp 1 0))) ∷ marked 1 (Got 12) ∷ marked 1 (Wrote (records.Done (tx 0 1) 1)) ∷
    marked 2 (Got 13) ∷ marked 2 (Wrote (records.Done (tx 0 1) 1)) ∷ marked 5 (Phase 2) ∷ marked 5 (Heal 0 1) ∷
    marked 3 (Called commands.Begin) ∷ marked 3 (Told (replies.Began (tx 0 2))) ∷ marked 3 (Called (commands.Do 0 0)) ∷
    marked 3 (Sent 14 1 (messages.Request (tx 0 2) 1 0 (wants.Read (first_read 0 0)))) ∷
    marked 3 (Sent 15 2 (messages.Request (tx 0 2) 1 0 (wants.Read (first_read 0 0)))) ∷ marked 1 (Got 14) ∷
    marked 1 (Sent 16 3 (messages.Answer 14 (answers.Granted (whole_grant 1 1 (line 1 0 1 1 0 0 ∷ [])))))
    ∷ marked 2 (Got 15) ∷
    marked 2 (Sent 17 3 (messages.Answer 15 (answers.Granted (whole_grant 1 1 (line 1 0 1 1 0 0 ∷ [])))))
    ∷ marked 3 (Got 16) ∷
    marked 3 (Got 17) ∷ marked 3 (Told replies.Absent) ∷ marked 3 (Called (commands.Do 0 0)) ∷
    marked 3 (Sent 18 1 (messages.Request (tx 0 2) 1 1 (wants.Read (first_read 0 0)))) ∷
    marked 3 (Sent 19 2 (messages.Request (tx 0 2) 1 1 (wants.Read (first_read 0 0)))) ∷ marked 1 (Got 18) ∷
    marked 1 (Sent 20 3 (messages.Answer 18 (answers.Granted (whole_grant 1 1 (line 1 0 1 1 0 0 ∷ [])))))
    ∷ marked 2 (Got 19) ∷
    marked 2 (Sent 21 3 (messages.Answer 19 (answers.Granted (whole_grant 1 1 (line 1 0 1 1 0 0 ∷ [])))))
    ∷ marked 3 (Got 20) ∷
    marked 3 (Got 21) ∷ marked 3 (Told replies.Absent) ∷ marked 3 (Called (commands.Do 0 0)) ∷
    marked 3 (Sent 22 1 (messages.Request (tx 0 2) 1 1 (wants.Read (first_read 0 0)))) ∷
    marked 3 (Sent 23 2 (messages.Request (tx 0 2) 1 1 (wants.Read (first_read 0 0)))) ∷ marked 1 (Got 22) ∷
    marked 1 (Sent 24 3 (messages.Answer 22 (answers.Granted (whole_grant 1 1 (line 1 0 1 1 0 0 ∷ [])))))
    ∷ marked 2 (Got 23) ∷
    marked 2 (Sent 25 3 (messages.Answer 23 (answers.Granted (whole_grant 1 1 (line 1 0 1 1 0 0 ∷ [])))))
    ∷ marked 3 (Got 24) ∷
    marked 3 (Got 25) ∷ marked 3 (Told replies.Absent) ∷ marked 3 (Called commands.Begin) ∷
    marked 3 (Told (replies.Already (tx 0 2))) ∷ marked 3 (Called commands.Commit) ∷
    marked 3 (Sent 26 1 (messages.Request (tx 0 2) 1 1 wants.Prepare)) ∷
    marked 3 (Sent 27 2 (messages.Request (tx 0 2) 1 1 wants.Prepare)) ∷ marked 1 (Got 26) ∷
    marked 1 (Wrote (prepare (tx 0 2) 1 (read_lock 0 0 ∷ []) [] [])) ∷
    marked 1 (Sent 28 3 (messages.Answer 26 (answers.Yes 1))) ∷ marked 2 (Got 27) ∷
    marked 2 (Wrote (prepare (tx 0 2) 1 (read_lock 0 0 ∷ []) [] [])) ∷
    marked 2 (Sent 29 3 (messages.Answer 27 (answers.Yes 1))) ∷ marked 3 (Got 28) ∷ marked 3 (Got 29) ∷
    marked 3 (Wrote (commit (stamp 2 0) (tx 0 2) (operation 0 0 None ∷ operation 0 0 None ∷ operation 0 0 None ∷ []))) ∷
    marked 3 (Sent 30 1 (messages.Decision (tx 0 2) (outcomes.Committed (stamp 2 0)))) ∷
    marked 3 (Sent 31 2 (messages.Decision (tx 0 2) (outcomes.Committed (stamp 2 0)))) ∷
    marked 3 (Told (replies.Committed (stamp 2 0))) ∷ marked 1 (Got 30) ∷ marked 1 (Wrote (records.Done (tx 0 2) 2)) ∷
    marked 2 (Got 31) ∷ marked 2 (Wrote (records.Done (tx 0 2) 2)) ∷ marked 5 (Phase 3) ∷
    marked 3 (Called commands.Commit) ∷ marked 3 (Told replies.NoTransaction) ∷ []
