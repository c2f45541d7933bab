-- Random: sites 2, clients 4, steps 73, messages 24, commits 1.
use Rattle.std.specs.Prelude.{List, [], ◌∷◌, Some}
use Rattle.qc_decl.specs.declared.declaration.Declaration.{Declaration}
use Rattle.qc_decl.specs.Vocabulary.{row}
use Rattle.qc_msg.specs.Vocabulary.{Entry, marked}
use Rattle.tests_histories.specs.Play.{Move, Takes, Posts, Acts}
use Rattle.tests_histories.specs.Words.{tx, stamp, line, own_line, operation, read_lock, prepare, commit, declaration}
use Rattle.tests_histories.specs.Words.{kind, pair, plan}
use Rattle.qc_msg.specs.declared.step.Step.TheVariants.{Phase, Called, Got, Wrote, Sent, Told}
use Rattle.qc_msg.specs.declared.message.Answer.TheVariants as answers
use Rattle.qc_msg.specs.declared.step.Command.TheVariants as commands
use Rattle.qc_msg.specs.declared.message.Message.TheVariants as messages
use Rattle.qc_msg.specs.declared.message.Outcome.TheVariants as outcomes
use Rattle.qc_msg.specs.declared.record.Record.TheVariants as records
use Rattle.qc_msg.specs.declared.reply.Reply.TheVariants as replies
use Rattle.qc_msg.specs.declared.message.Want.TheVariants as wants
use Rattle.qc_msg.specs.Vocabulary.{whole_grant, first_read}

abbrev pub decl : Declaration
decl =
    declaration 2 4 (kind 3 3 3 0 (row 0 0 0 1 ∷ row 0 0 1 2 ∷ row 1 1 0 1 ∷ row 2 1 1 2 ∷ row 1 2 2 0 ∷ row 2 2 2 0 ∷
    row 0 2 2 0 ∷ []) (pair 0 0 ∷ pair 0 1 ∷ pair 0 4 ∷ pair 1 0 ∷ pair 1 1 ∷ pair 1 4 ∷ []) ∷ kind 2 3 3 0 (row 0 0 0 0
    ∷ row 1 0 1 1 ∷ row 0 1 2 0 ∷ row 1 1 2 0 ∷ row 0 2 2 1 ∷ row 1 2 2 1 ∷ []) (pair 0 2 ∷ pair 0 3 ∷ pair 2 1 ∷ pair 2
    3 ∷ []) ∷ []) (0 ∷ 1 ∷ []) (plan (1 ∷ 1 ∷ []) ((1 ∷ 1 ∷ 0 ∷ []) ∷ (2 ∷ 0 ∷ 2 ∷ []) ∷ []) ((2 ∷ 2 ∷ 0 ∷ 0 ∷ 2 ∷ []) ∷
    (2 ∷ 1 ∷ 1 ∷ 1 ∷ []) ∷ []) ∷ [])

abbrev pub moves : List Move
moves =
    Acts (Phase 1) ∷ Takes 5 (Called commands.Begin) ∷ Posts 5 ∷ Takes 5 (Called (commands.Do 0 0)) ∷ Posts 5 ∷
    Takes 2 (Called commands.Begin) ∷ Takes 1 (Got 0) ∷ Posts 1 ∷ Takes 5 (Got 1) ∷ Posts 2 ∷ Posts 5 ∷
    Takes 0 (Got 3) ∷ Posts 0 ∷ Takes 5 (Got 4) ∷ Posts 5 ∷ Takes 1 (Got 2) ∷ Posts 1 ∷ Takes 5 (Got 5) ∷ Posts 5 ∷
    Takes 5 (Called (commands.Do 1 1)) ∷ Posts 5 ∷ Takes 2 (Called commands.Abort) ∷ Takes 1 (Got 6) ∷ Posts 1 ∷
    Takes 5 (Got 7) ∷ Posts 5 ∷ Takes 5 (Called (commands.Do 0 1)) ∷ Posts 5 ∷ Takes 1 (Got 8) ∷ Posts 2 ∷ Posts 1 ∷
    Takes 5 (Got 9) ∷ Posts 5 ∷ Takes 5 (Called commands.Commit) ∷ Posts 5 ∷ Takes 0 (Got 11) ∷ Takes 1 (Got 10) ∷
    Posts 0 ∷ Posts 1 ∷ Takes 5 (Got 12) ∷ Posts 5 ∷ Takes 5 (Got 13) ∷ Posts 5 ∷ Takes 1 (Got 15) ∷
    Takes 5 (Called commands.Begin) ∷ Posts 5 ∷ Takes 5 (Called (commands.Do 1 0)) ∷ Posts 1 ∷ Takes 0 (Got 14) ∷
    Posts 0 ∷ Posts 5 ∷ Takes 0 (Got 17) ∷ Posts 0 ∷ Takes 1 (Got 16) ∷ Takes 5 (Got 18) ∷ Posts 5 ∷ Posts 1 ∷
    Takes 5 (Got 19) ∷ Posts 5 ∷ Takes 1 (Got 20) ∷ Posts 1 ∷ Takes 0 (Got 21) ∷ Posts 0 ∷ Takes 5 (Got 22) ∷ Posts 5 ∷
    Takes 5 (Got 23) ∷ Posts 5 ∷ Acts (Phase 2) ∷ []

abbrev pub history : List Entry
history =
    marked 7 (Phase 1) ∷ marked 5 (Called commands.Begin) ∷ marked 5 (Told (replies.Began (tx 3 1))) ∷
    marked 5 (Called (commands.Do 0 0)) ∷
    marked 5 (Sent 0 1 (messages.Request (tx 3 1) 1 0 (wants.Read (first_read 0 0))))
    ∷
    marked 2 (Called commands.Begin) ∷ marked 1 (Got 0) ∷
    marked 1 (Sent 1 5 (messages.Answer 0 (answers.Granted (whole_grant 1 0 [])))) ∷ marked 5 (Got 1) ∷
    marked 2 (Told (replies.Began (tx 0 1))) ∷
    marked 5 (Sent 2 1 (messages.Request (tx 3 1) 1 1 (wants.Append 0 [] (own_line 1 0 0 ∷ [])))) ∷
    marked 5 (Sent 3 0 (messages.Request (tx 3 1) 1 0 (wants.Append 0 [] (own_line 1 0 0 ∷ [])))) ∷ marked 0 (Got 3) ∷
    marked 0 (Sent 4 5 (messages.Answer 3 (answers.Granted (whole_grant 1 0 [])))) ∷ marked 5 (Got 4) ∷ marked 1 (Got 2)
    ∷
    marked 1 (Sent 5 5 (messages.Answer 2 (answers.Granted (whole_grant 1 0 [])))) ∷ marked 5 (Got 5) ∷
    marked 5 (Told (replies.Response 0)) ∷ marked 5 (Called (commands.Do 1 1)) ∷
    marked 5 (Sent 6 1 (messages.Request (tx 3 1) 1 1 (wants.Append 1 [] (own_line 2 1 2 ∷ [])))) ∷
    marked 2 (Called commands.Abort) ∷ marked 1 (Got 6) ∷
    marked 1 (Sent 7 5 (messages.Answer 6 (answers.Granted (whole_grant 1 0 [])))) ∷ marked 5 (Got 7) ∷
    marked 5 (Told (replies.Response 2)) ∷ marked 5 (Called (commands.Do 0 1)) ∷
    marked 5 (Sent 8 1 (messages.Request (tx 3 1) 1 1 (wants.Read (first_read 0 1)))) ∷ marked 1 (Got 8) ∷
    marked 2 (Told replies.Dropped) ∷ marked 1 (Sent 9 5 (messages.Answer 8 (answers.Granted (whole_grant 1 0 [])))) ∷
    marked 5 (Got 9) ∷ marked 5 (Told (replies.Response 0)) ∷ marked 5 (Called commands.Commit) ∷
    marked 5 (Sent 10 1 (messages.Request (tx 3 1) 1 1 wants.Prepare)) ∷
    marked 5 (Sent 11 0 (messages.Request (tx 3 1) 1 1 wants.Prepare)) ∷ marked 0 (Got 11) ∷ marked 1 (Got 10) ∷
    marked 0 (Wrote (prepare (tx 3 1) 1 [] (own_line 1 0 0 ∷ []) [])) ∷
    marked 0 (Sent 12 5 (messages.Answer 11 (answers.Yes 0))) ∷
    marked 1 (Wrote (prepare (tx 3 1) 1 (read_lock 0 0 ∷ read_lock 0 1 ∷ []) (own_line 1 0 0 ∷ own_line 2 1 2 ∷ []) []))
    ∷
    marked 1 (Sent 13 5 (messages.Answer 10 (answers.Yes 0))) ∷ marked 5 (Got 12) ∷ marked 5 (Got 13) ∷
    marked 5 (Wrote (commit (stamp 1 3) (tx 3 1) (operation 0 0 (Some 0) ∷ operation 1 1 (Some 2) ∷ operation 0 1 (Some
    0) ∷ []))) ∷
    marked 5 (Sent 14 0 (messages.Decision (tx 3 1) (outcomes.Committed (stamp 1 3)))) ∷
    marked 5 (Sent 15 1 (messages.Decision (tx 3 1) (outcomes.Committed (stamp 1 3)))) ∷
    marked 5 (Told (replies.Committed (stamp 1 3))) ∷ marked 1 (Got 15) ∷ marked 5 (Called commands.Begin) ∷
    marked 5 (Told (replies.Began (tx 3 2))) ∷ marked 5 (Called (commands.Do 1 0)) ∷
    marked 1 (Wrote (records.Done (tx 3 1) 1)) ∷ marked 0 (Got 14) ∷ marked 0 (Wrote (records.Done (tx 3 1) 1)) ∷
    marked 5 (Sent 16 1 (messages.Request (tx 3 2) 1 0 (wants.Read (first_read 1 0)))) ∷
    marked 5 (Sent 17 0 (messages.Request (tx 3 2) 1 0 (wants.Read (first_read 1 0)))) ∷ marked 0 (Got 17) ∷
    marked 0 (Sent 18 5 (messages.Answer 17 (answers.Granted (whole_grant 1 1 [])))) ∷ marked 1 (Got 16)
    ∷ marked 5 (Got 18) ∷
    marked 1 (Sent 19 5 (messages.Answer 16 (answers.Granted (whole_grant 1 1 (line 1 3 1 2 1 2 ∷ [])))))
    ∷ marked 5 (Got 19) ∷
    marked 5 (Sent 20 1 (messages.Request (tx 3 2) 1 1 (wants.Append 1 (line 1 3 1 2 1 2 ∷ []) (own_line 1 1 0 ∷ []))))
    ∷
    marked 5 (Sent 21 0 (messages.Request (tx 3 2) 1 1 (wants.Append 1 (line 1 3 1 2 1 2 ∷ []) (own_line 1 1 0 ∷ []))))
    ∷
    marked 1 (Got 20) ∷ marked 1 (Sent 22 5 (messages.Answer 20 (answers.Granted (whole_grant 1 1 []))))
    ∷ marked 0 (Got 21) ∷
    marked 0 (Sent 23 5 (messages.Answer 21 (answers.Granted (whole_grant 1 1 [])))) ∷ marked 5 (Got 22)
    ∷ marked 5 (Got 23) ∷
    marked 5 (Told (replies.Response 0)) ∷ marked 7 (Phase 2) ∷ []
