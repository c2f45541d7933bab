-- Random: sites 5, clients 2, steps 74, messages 28, commits 1.
use Rattle.std.specs.Prelude.{List, [], ◌∷◌, Some}
use Rattle.qc_decl.specs.declared.declaration.Declaration.{Declaration}
use Rattle.qc_decl.specs.Vocabulary.{row}
use Rattle.qc_msg.specs.Vocabulary.{Entry, marked}
use Rattle.tests_histories.specs.Play.{Move, Takes, Posts, Acts}
use Rattle.tests_histories.specs.Words.{tx, stamp, own_line, operation, prepare, commit, declaration, kind, pair, plan}
use Rattle.qc_msg.specs.declared.step.Step.TheVariants.{Phase, Called, Got, Wrote, Sent, Told}
use Rattle.qc_msg.specs.declared.message.Answer.TheVariants as answers
use Rattle.qc_msg.specs.declared.step.Command.TheVariants as commands
use Rattle.qc_msg.specs.declared.message.Message.TheVariants as messages
use Rattle.qc_msg.specs.declared.message.Outcome.TheVariants as outcomes
use Rattle.qc_msg.specs.declared.record.Record.TheVariants as records
use Rattle.qc_msg.specs.declared.reply.Reply.TheVariants as replies
use Rattle.qc_msg.specs.declared.message.Want.TheVariants as wants
use Rattle.qc_msg.specs.Vocabulary.{whole_grant}

abbrev pub decl : Declaration
decl =
    declaration 5 2 (kind 3 3 5 0 (row 0 0 0 1 ∷ row 1 0 0 2 ∷ row 2 0 1 2 ∷ row 0 1 1 0 ∷ row 1 1 0 0 ∷ row 2 1 0 1 ∷
    row 0 2 2 0 ∷ row 1 2 3 1 ∷ row 2 2 4 2 ∷ []) (pair 0 0 ∷ pair 0 1 ∷ pair 0 2 ∷ pair 0 3 ∷ pair 1 0 ∷ pair 1 1 ∷
    pair 1 3 ∷ pair 1 5 ∷ pair 2 0 ∷ pair 2 2 ∷ pair 2 3 ∷ []) ∷ kind 3 1 1 0 (row 0 0 0 2 ∷ row 1 0 0 0 ∷ row 2 0 0 2 ∷
    []) [] ∷ []) (1 ∷ []) (plan (1 ∷ 1 ∷ 3 ∷ 1 ∷ 1 ∷ []) ((0 ∷ []) ∷ []) ((6 ∷ []) ∷ []) ∷ [])

abbrev pub moves : List Move
moves =
    Acts (Phase 1) ∷ Takes 6 (Called commands.Begin) ∷ Posts 6 ∷ Takes 6 (Called (commands.Do 0 0)) ∷ Posts 6 ∷
    Takes 1 (Got 0) ∷ Takes 4 (Got 3) ∷ Takes 2 (Got 1) ∷ Takes 3 (Got 2) ∷ Posts 4 ∷ Posts 3 ∷ Posts 1 ∷ Posts 2 ∷
    Takes 6 (Got 4) ∷ Posts 6 ∷ Takes 6 (Got 5) ∷ Posts 6 ∷ Takes 6 (Got 6) ∷ Posts 6 ∷ Takes 6 (Got 7) ∷ Posts 6 ∷
    Takes 6 (Called (commands.Do 0 0)) ∷ Posts 6 ∷ Takes 4 (Got 11) ∷ Takes 1 (Got 8) ∷ Posts 1 ∷ Takes 3 (Got 10) ∷
    Posts 4 ∷ Posts 3 ∷ Takes 2 (Got 9) ∷ Posts 2 ∷ Takes 6 (Got 12) ∷ Posts 6 ∷ Takes 6 (Got 13) ∷ Posts 6 ∷
    Takes 6 (Got 14) ∷ Posts 6 ∷ Takes 6 (Got 15) ∷ Posts 6 ∷ Takes 6 (Called commands.Commit) ∷ Posts 6 ∷
    Takes 1 (Got 16) ∷ Takes 2 (Got 17) ∷ Takes 4 (Got 19) ∷ Posts 1 ∷ Posts 4 ∷ Takes 3 (Got 18) ∷ Takes 6 (Got 20) ∷
    Posts 6 ∷ Posts 2 ∷ Posts 3 ∷ Takes 6 (Got 21) ∷ Posts 6 ∷ Takes 6 (Got 22) ∷ Posts 6 ∷ Takes 6 (Got 23) ∷ Posts 6 ∷
    Takes 4 (Got 27) ∷ Takes 3 (Got 26) ∷ Posts 4 ∷ Takes 2 (Got 25) ∷ Takes 1 (Got 24) ∷ Posts 1 ∷ Posts 3 ∷ Posts 2 ∷
    []

abbrev pub history : List Entry
history =
    marked 8 (Phase 1) ∷ marked 6 (Called commands.Begin) ∷ marked 6 (Told (replies.Began (tx 1 1))) ∷
    marked 6 (Called (commands.Do 0 0)) ∷
    marked 6 (Sent 0 1 (messages.Request (tx 1 1) 1 0 (wants.Append 0 [] (own_line 1 0 0 ∷ [])))) ∷
    marked 6 (Sent 1 2 (messages.Request (tx 1 1) 1 0 (wants.Append 0 [] (own_line 1 0 0 ∷ [])))) ∷
    marked 6 (Sent 2 3 (messages.Request (tx 1 1) 1 0 (wants.Append 0 [] (own_line 1 0 0 ∷ [])))) ∷
    marked 6 (Sent 3 4 (messages.Request (tx 1 1) 1 0 (wants.Append 0 [] (own_line 1 0 0 ∷ [])))) ∷ marked 1 (Got 0) ∷
    marked 4 (Got 3) ∷ marked 2 (Got 1) ∷ marked 3 (Got 2) ∷
    marked 4 (Sent 4 6 (messages.Answer 3 (answers.Granted (whole_grant 1 0 [])))) ∷
    marked 3 (Sent 5 6 (messages.Answer 2 (answers.Granted (whole_grant 1 0 [])))) ∷
    marked 1 (Sent 6 6 (messages.Answer 0 (answers.Granted (whole_grant 1 0 [])))) ∷
    marked 2 (Sent 7 6 (messages.Answer 1 (answers.Granted (whole_grant 1 0 [])))) ∷ marked 6 (Got 4) ∷ marked 6 (Got 5)
    ∷
    marked 6 (Got 6) ∷ marked 6 (Got 7) ∷ marked 6 (Told (replies.Response 0)) ∷ marked 6 (Called (commands.Do 0 0)) ∷
    marked 6 (Sent 8 1 (messages.Request (tx 1 1) 1 1 (wants.Append 0 [] (own_line 1 0 0 ∷ own_line 2 0 0 ∷ [])))) ∷
    marked 6 (Sent 9 2 (messages.Request (tx 1 1) 1 1 (wants.Append 0 [] (own_line 1 0 0 ∷ own_line 2 0 0 ∷ [])))) ∷
    marked 6 (Sent 10 3 (messages.Request (tx 1 1) 1 1 (wants.Append 0 [] (own_line 1 0 0 ∷ own_line 2 0 0 ∷ [])))) ∷
    marked 6 (Sent 11 4 (messages.Request (tx 1 1) 1 1 (wants.Append 0 [] (own_line 1 0 0 ∷ own_line 2 0 0 ∷ [])))) ∷
    marked 4 (Got 11) ∷ marked 1 (Got 8)
    ∷ marked 1 (Sent 12 6 (messages.Answer 8 (answers.Granted (whole_grant 1 0 [])))) ∷
    marked 3 (Got 10) ∷ marked 4 (Sent 13 6 (messages.Answer 11 (answers.Granted (whole_grant 1 0 [])))) ∷
    marked 3 (Sent 14 6 (messages.Answer 10 (answers.Granted (whole_grant 1 0 [])))) ∷ marked 2 (Got 9) ∷
    marked 2 (Sent 15 6 (messages.Answer 9 (answers.Granted (whole_grant 1 0 [])))) ∷ marked 6 (Got 12)
    ∷ marked 6 (Got 13) ∷
    marked 6 (Got 14) ∷ marked 6 (Got 15) ∷ marked 6 (Told (replies.Response 0)) ∷ marked 6 (Called commands.Commit) ∷
    marked 6 (Sent 16 1 (messages.Request (tx 1 1) 1 1 wants.Prepare)) ∷
    marked 6 (Sent 17 2 (messages.Request (tx 1 1) 1 1 wants.Prepare)) ∷
    marked 6 (Sent 18 3 (messages.Request (tx 1 1) 1 1 wants.Prepare)) ∷
    marked 6 (Sent 19 4 (messages.Request (tx 1 1) 1 1 wants.Prepare)) ∷ marked 1 (Got 16) ∷ marked 2 (Got 17) ∷
    marked 4 (Got 19) ∷ marked 1 (Wrote (prepare (tx 1 1) 1 [] (own_line 1 0 0 ∷ own_line 2 0 0 ∷ []) [])) ∷
    marked 1 (Sent 20 6 (messages.Answer 16 (answers.Yes 0))) ∷
    marked 4 (Wrote (prepare (tx 1 1) 1 [] (own_line 1 0 0 ∷ own_line 2 0 0 ∷ []) [])) ∷
    marked 4 (Sent 21 6 (messages.Answer 19 (answers.Yes 0))) ∷ marked 3 (Got 18) ∷ marked 6 (Got 20) ∷
    marked 2 (Wrote (prepare (tx 1 1) 1 [] (own_line 1 0 0 ∷ own_line 2 0 0 ∷ []) [])) ∷
    marked 2 (Sent 22 6 (messages.Answer 17 (answers.Yes 0))) ∷
    marked 3 (Wrote (prepare (tx 1 1) 1 [] (own_line 1 0 0 ∷ own_line 2 0 0 ∷ []) [])) ∷
    marked 3 (Sent 23 6 (messages.Answer 18 (answers.Yes 0))) ∷ marked 6 (Got 21) ∷ marked 6 (Got 22) ∷
    marked 6 (Got 23) ∷
    marked 6 (Wrote (commit (stamp 1 1) (tx 1 1) (operation 0 0 (Some 0) ∷ operation 0 0 (Some 0) ∷ []))) ∷
    marked 6 (Sent 24 1 (messages.Decision (tx 1 1) (outcomes.Committed (stamp 1 1)))) ∷
    marked 6 (Sent 25 2 (messages.Decision (tx 1 1) (outcomes.Committed (stamp 1 1)))) ∷
    marked 6 (Sent 26 3 (messages.Decision (tx 1 1) (outcomes.Committed (stamp 1 1)))) ∷
    marked 6 (Sent 27 4 (messages.Decision (tx 1 1) (outcomes.Committed (stamp 1 1)))) ∷
    marked 6 (Told (replies.Committed (stamp 1 1))) ∷ marked 4 (Got 27) ∷ marked 3 (Got 26) ∷
    marked 4 (Wrote (records.Done (tx 1 1) 1)) ∷ marked 2 (Got 25) ∷ marked 1 (Got 24) ∷
    marked 1 (Wrote (records.Done (tx 1 1) 1)) ∷ marked 3 (Wrote (records.Done (tx 1 1) 1)) ∷
    marked 2 (Wrote (records.Done (tx 1 1) 1)) ∷ []
