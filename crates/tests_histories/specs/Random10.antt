-- Random: sites 2, clients 1, steps 77, messages 17, cuts 1, commits 2, absent 1.
use Rattle.std.specs.Prelude.{List, [], ◌∷◌, Some}
use Rattle.qc_decl.specs.declared.declaration.Declaration.{Declaration}
use Rattle.qc_decl.specs.Vocabulary.{row}
use Rattle.qc_msg.specs.Vocabulary.{Entry, marked}
use Rattle.tests_histories.specs.Play.{Move, Takes, Posts, Acts}
use Rattle.tests_histories.specs.Words.{tx, stamp, own_line, operation, prepare, commit, declaration, kind, pair, plan}
use Rattle.qc_msg.specs.declared.step.Step.TheVariants.{Phase, Cut, Called, Got, Wrote, Sent, Told}
use Rattle.qc_msg.specs.declared.message.Answer.TheVariants as answers
use Rattle.qc_msg.specs.declared.step.Command.TheVariants as commands
use Rattle.qc_msg.specs.declared.message.Message.TheVariants as messages
use Rattle.qc_msg.specs.declared.message.Outcome.TheVariants as outcomes
use Rattle.qc_msg.specs.declared.record.Record.TheVariants as records
use Rattle.qc_msg.specs.declared.reply.Reply.TheVariants as replies
use Rattle.qc_msg.specs.declared.message.Want.TheVariants as wants
use Rattle.qc_msg.specs.Vocabulary.{whole_grant, first_read}

abbrev pub decl : Declaration
decl =
    declaration 2 1 (kind 2 2 1 0 (row 0 1 0 1 ∷ row 1 0 0 0 ∷ row 1 1 0 1 ∷ []) (pair 0 0 ∷ pair 0 1 ∷ []) ∷ kind 4 3 3
    0 (row 0 1 2 0 ∷ row 0 1 0 0 ∷ row 0 2 0 1 ∷ row 1 0 1 2 ∷ row 1 2 0 1 ∷ row 2 0 1 1 ∷ row 2 0 0 2 ∷ row 2 1 2 2 ∷
    row 2 2 0 2 ∷ row 3 2 0 3 ∷ []) (pair 0 2 ∷ pair 0 3 ∷ pair 1 2 ∷ pair 1 3 ∷ []) ∷ []) (0 ∷ []) (plan (1 ∷ 1 ∷ [])
    ((2 ∷ 0 ∷ []) ∷ []) ((1 ∷ 1 ∷ []) ∷ []) ∷ plan (2 ∷ 1 ∷ []) ((1 ∷ 0 ∷ []) ∷ []) ((3 ∷ 3 ∷ []) ∷ []) ∷ [])

abbrev pub moves : List Move
moves =
    Acts (Phase 1) ∷ Takes 2 (Called commands.Begin) ∷ Posts 2 ∷ Takes 2 (Called (commands.Do 0 0)) ∷ Posts 2 ∷
    Takes 0 (Got 0) ∷ Posts 0 ∷ Takes 1 (Got 1) ∷ Posts 1 ∷ Takes 2 (Got 2) ∷ Posts 2 ∷ Takes 2 (Got 3) ∷ Posts 2 ∷
    Takes 2 (Called commands.Abort) ∷ Posts 2 ∷ Takes 0 (Got 4) ∷ Posts 0 ∷ Takes 1 (Got 5) ∷ Posts 1 ∷ Acts (Phase 2) ∷
    Acts (Cut 1 0) ∷ Takes 2 (Called commands.Begin) ∷ Posts 2 ∷ Takes 2 (Called (commands.Do 0 1)) ∷ Posts 2 ∷
    Takes 0 (Got 6) ∷ Posts 0 ∷ Takes 2 (Got 7) ∷ Posts 2 ∷ Takes 2 (Called (commands.Do 0 1)) ∷ Posts 2 ∷
    Takes 0 (Got 8) ∷ Posts 0 ∷ Takes 2 (Got 9) ∷ Posts 2 ∷ Takes 2 (Called commands.Commit) ∷ Posts 2 ∷
    Takes 0 (Got 10) ∷ Posts 0 ∷ Takes 2 (Got 11) ∷ Posts 2 ∷ Takes 0 (Got 12) ∷ Posts 0 ∷ Acts (Phase 3) ∷
    Takes 2 (Called commands.Begin) ∷ Posts 2 ∷ Takes 2 (Called commands.Commit) ∷ Posts 2 ∷
    Takes 2 (Called (commands.Do 0 0)) ∷ Posts 2 ∷ Takes 2 (Called (commands.Do 0 1)) ∷ Posts 2 ∷
    Takes 2 (Called (commands.Do 0 0)) ∷ Posts 2 ∷ Acts (Phase 4) ∷ Takes 2 (Called (commands.Do 0 1)) ∷ Posts 2 ∷
    Takes 2 (Called commands.Commit) ∷ Posts 2 ∷ Takes 2 (Called commands.Begin) ∷ Posts 2 ∷
    Takes 2 (Called (commands.Do 0 1)) ∷ Posts 2 ∷ Takes 0 (Got 13) ∷ Posts 0 ∷ Takes 2 (Got 14) ∷ Posts 2 ∷
    Takes 2 (Called (commands.Do 0 1)) ∷ Posts 2 ∷ Takes 0 (Got 15) ∷ Posts 0 ∷ Takes 2 (Got 16) ∷ Posts 2 ∷ []

abbrev pub history : List Entry
history =
    marked 4 (Phase 1) ∷ marked 2 (Called commands.Begin) ∷ marked 2 (Told (replies.Began (tx 0 1))) ∷
    marked 2 (Called (commands.Do 0 0)) ∷
    marked 2 (Sent 0 0 (messages.Request (tx 0 1) 1 0 (wants.Read (first_read 0 0))))
    ∷
    marked 2 (Sent 1 1 (messages.Request (tx 0 1) 1 0 (wants.Read (first_read 0 0)))) ∷ marked 0 (Got 0) ∷
    marked 0 (Sent 2 2 (messages.Answer 0 (answers.Granted (whole_grant 1 0 [])))) ∷ marked 1 (Got 1) ∷
    marked 1 (Sent 3 2 (messages.Answer 1 (answers.Granted (whole_grant 1 0 [])))) ∷ marked 2 (Got 2) ∷ marked 2 (Got 3)
    ∷
    marked 2 (Told replies.Absent) ∷ marked 2 (Called commands.Abort) ∷
    marked 2 (Sent 4 0 (messages.Decision (tx 0 1) outcomes.Aborted)) ∷
    marked 2 (Sent 5 1 (messages.Decision (tx 0 1) outcomes.Aborted)) ∷ marked 2 (Told replies.Dropped) ∷
    marked 0 (Got 4) ∷ marked 1 (Got 5) ∷ marked 4 (Phase 2) ∷ marked 4 (Cut 1 0) ∷ marked 2 (Called commands.Begin) ∷
    marked 2 (Told (replies.Began (tx 0 2))) ∷ marked 2 (Called (commands.Do 0 1)) ∷
    marked 2 (Sent 6 0 (messages.Request (tx 0 2) 1 0 (wants.Append 0 [] (own_line 1 0 0 ∷ [])))) ∷ marked 0 (Got 6) ∷
    marked 0 (Sent 7 2 (messages.Answer 6 (answers.Granted (whole_grant 1 0 [])))) ∷ marked 2 (Got 7) ∷
    marked 2 (Told (replies.Response 0)) ∷ marked 2 (Called (commands.Do 0 1)) ∷
    marked 2 (Sent 8 0 (messages.Request (tx 0 2) 1 1 (wants.Append 0 [] (own_line 1 0 0 ∷ own_line 2 0 0 ∷ [])))) ∷
    marked 0 (Got 8) ∷ marked 0 (Sent 9 2 (messages.Answer 8 (answers.Granted (whole_grant 1 0 [])))) ∷ marked 2 (Got 9)
    ∷
    marked 2 (Told (replies.Response 0)) ∷ marked 2 (Called commands.Commit) ∷
    marked 2 (Sent 10 0 (messages.Request (tx 0 2) 1 1 wants.Prepare)) ∷ marked 0 (Got 10) ∷
    marked 0 (Wrote (prepare (tx 0 2) 1 [] (own_line 1 0 0 ∷ own_line 2 0 0 ∷ []) [])) ∷
    marked 0 (Sent 11 2 (messages.Answer 10 (answers.Yes 0))) ∷ marked 2 (Got 11) ∷
    marked 2 (Wrote (commit (stamp 1 0) (tx 0 2) (operation 0 1 (Some 0) ∷ operation 0 1 (Some 0) ∷ []))) ∷
    marked 2 (Sent 12 0 (messages.Decision (tx 0 2) (outcomes.Committed (stamp 1 0)))) ∷
    marked 2 (Told (replies.Committed (stamp 1 0))) ∷ marked 0 (Got 12) ∷ marked 0 (Wrote (records.Done (tx 0 2) 1)) ∷
    marked 4 (Phase 3) ∷ marked 2 (Called commands.Begin) ∷ marked 2 (Told (replies.Began (tx 0 3))) ∷
    marked 2 (Called commands.Commit) ∷ marked 2 (Wrote (commit (stamp 2 0) (tx 0 3) [])) ∷
    marked 2 (Told (replies.Committed (stamp 2 0))) ∷ marked 2 (Called (commands.Do 0 0)) ∷
    marked 2 (Told replies.NoTransaction) ∷ marked 2 (Called (commands.Do 0 1)) ∷
    marked 2 (Told replies.NoTransaction) ∷ marked 2 (Called (commands.Do 0 0)) ∷
    marked 2 (Told replies.NoTransaction) ∷ marked 4 (Phase 4) ∷ marked 2 (Called (commands.Do 0 1)) ∷
    marked 2 (Told replies.NoTransaction) ∷ marked 2 (Called commands.Commit) ∷ marked 2 (Told replies.NoTransaction) ∷
    marked 2 (Called commands.Begin) ∷ marked 2 (Told (replies.Began (tx 0 4))) ∷ marked 2 (Called (commands.Do 0 1)) ∷
    marked 2 (Sent 13 0 (messages.Request (tx 0 4) 1 0 (wants.Append 0 [] (own_line 1 0 0 ∷ [])))) ∷ marked 0 (Got 13) ∷
    marked 0 (Sent 14 2 (messages.Answer 13 (answers.Granted (whole_grant 1 1 [])))) ∷ marked 2 (Got 14) ∷
    marked 2 (Told (replies.Response 0)) ∷ marked 2 (Called (commands.Do 0 1)) ∷
    marked 2 (Sent 15 0 (messages.Request (tx 0 4) 1 1 (wants.Append 0 [] (own_line 1 0 0 ∷ own_line 2 0 0 ∷ [])))) ∷
    marked 0 (Got 15) ∷ marked 0 (Sent 16 2 (messages.Answer 15 (answers.Granted (whole_grant 1 1 []))))
    ∷ marked 2 (Got 16) ∷
    marked 2 (Told (replies.Response 0)) ∷ []
