-- Random: sites 5, clients 3, steps 96, messages 33, cuts 1, commits 1, conflicts 1.
use Rattle.std.specs.Prelude.{List, [], ◌∷◌, Some}
use Rattle.qc_decl.specs.declared.declaration.Declaration.{Declaration}
use Rattle.qc_decl.specs.Vocabulary.{row}
use Rattle.qc_msg.specs.Vocabulary.{Entry, marked}
use Rattle.tests_histories.specs.Play.{Move, Takes, Posts, Acts}
use Rattle.tests_histories.specs.Words.{tx, stamp, line, own_line, operation, prepare, commit, declaration, kind, pair}
use Rattle.tests_histories.specs.Words.{plan}
use Rattle.qc_msg.specs.declared.step.Step.TheVariants.{Phase, Cut, Called, Got, Wrote, Sent, Told}
use Rattle.qc_msg.specs.declared.message.Answer.TheVariants as answers
use Rattle.qc_msg.specs.declared.step.Command.TheVariants as commands
use Rattle.qc_msg.specs.declared.message.Message.TheVariants as messages
use Rattle.qc_msg.specs.declared.message.Outcome.TheVariants as outcomes
use Rattle.qc_msg.specs.declared.record.Record.TheVariants as records
use Rattle.qc_msg.specs.declared.reply.Reply.TheVariants as replies
use Rattle.qc_msg.specs.declared.message.Want.TheVariants as wants
use Rattle.qc_msg.specs.Vocabulary.{whole_grant, first_read}

abbrev pub decl : Declaration
decl =
    declaration 5 3 (kind 3 2 1 0 (row 0 0 0 2 ∷ row 0 1 0 1 ∷ row 2 0 0 0 ∷ row 2 1 0 1 ∷ []) (pair 0 1 ∷ pair 1 1 ∷
    []) ∷ kind 4 3 1 0 (row 0 0 0 3 ∷ row 0 1 0 3 ∷ row 0 2 0 1 ∷ row 1 1 0 3 ∷ row 1 2 0 2 ∷ row 2 1 0 2 ∷ row 2 2 0 1
    ∷ row 3 0 0 1 ∷ row 3 1 0 0 ∷ row 3 2 0 1 ∷ []) (pair 0 0 ∷ pair 0 1 ∷ pair 0 2 ∷ []) ∷ []) (1 ∷ []) (plan (1 ∷ 1 ∷
    3 ∷ 0 ∷ 1 ∷ []) ((4 ∷ 0 ∷ 0 ∷ []) ∷ []) ((3 ∷ 3 ∷ 3 ∷ []) ∷ []) ∷ plan (1 ∷ 1 ∷ 1 ∷ 1 ∷ 1 ∷ []) ((3 ∷ 0 ∷ 0 ∷ []) ∷
    []) ((3 ∷ 3 ∷ 4 ∷ []) ∷ []) ∷ plan (1 ∷ 1 ∷ 0 ∷ 1 ∷ 1 ∷ []) ((3 ∷ 0 ∷ 3 ∷ []) ∷ []) ((2 ∷ 2 ∷ 2 ∷ []) ∷ []) ∷ [])

abbrev pub moves : List Move
moves =
    Acts (Phase 1) ∷ Takes 7 (Called commands.Begin) ∷ Posts 7 ∷ Takes 7 (Called (commands.Do 0 1)) ∷ Posts 7 ∷
    Takes 2 (Got 0) ∷ Posts 2 ∷ Takes 7 (Got 1) ∷ Posts 7 ∷ Takes 7 (Called (commands.Do 0 1)) ∷ Posts 7 ∷
    Takes 2 (Got 2) ∷ Posts 2 ∷ Takes 7 (Got 3) ∷ Posts 7 ∷ Acts (Phase 2) ∷ Takes 5 (Called commands.Begin) ∷ Posts 5 ∷
    Takes 5 (Called (commands.Do 0 1)) ∷ Posts 5 ∷ Takes 2 (Got 6) ∷ Takes 1 (Got 5) ∷ Takes 0 (Got 4) ∷ Posts 1 ∷
    Takes 5 (Got 7) ∷ Posts 5 ∷ Posts 0 ∷ Takes 5 (Got 8) ∷ Posts 5 ∷ Posts 2 ∷ Takes 5 (Got 9) ∷ Posts 5 ∷
    Takes 5 (Called commands.Commit) ∷ Posts 5 ∷ Takes 1 (Got 11) ∷ Takes 2 (Got 12) ∷ Takes 0 (Got 10) ∷ Posts 2 ∷
    Posts 0 ∷ Posts 1 ∷ Takes 5 (Got 13) ∷ Posts 5 ∷ Takes 5 (Got 14) ∷ Posts 5 ∷ Takes 5 (Got 15) ∷ Posts 5 ∷
    Takes 1 (Got 17) ∷ Takes 2 (Got 18) ∷ Takes 0 (Got 16) ∷ Posts 2 ∷ Posts 0 ∷ Posts 1 ∷ Acts (Phase 3) ∷
    Takes 5 (Called commands.Begin) ∷ Posts 5 ∷ Takes 5 (Called (commands.Do 0 0)) ∷ Posts 5 ∷ Takes 2 (Got 21) ∷
    Takes 1 (Got 20) ∷ Takes 0 (Got 19) ∷ Posts 1 ∷ Takes 5 (Got 22) ∷ Posts 5 ∷ Posts 0 ∷ Takes 5 (Got 23) ∷ Posts 5 ∷
    Posts 2 ∷ Takes 5 (Got 24) ∷ Takes 7 (Got 25) ∷ Posts 5 ∷ Takes 5 (Called (commands.Do 0 2)) ∷ Posts 7 ∷
    Takes 2 (Got 26) ∷ Posts 2 ∷ Posts 5 ∷ Takes 2 (Got 29) ∷ Takes 1 (Got 28) ∷ Takes 0 (Got 27) ∷ Posts 0 ∷
    Takes 5 (Got 30) ∷ Posts 5 ∷ Posts 2 ∷ Posts 1 ∷ Takes 5 (Got 31) ∷ Posts 5 ∷ Takes 5 (Got 32) ∷ Posts 5 ∷
    Acts (Phase 4) ∷ Acts (Cut 2 3) ∷ []

abbrev pub history : List Entry
history =
    marked 9 (Phase 1) ∷ marked 7 (Called commands.Begin) ∷ marked 7 (Told (replies.Began (tx 2 1))) ∷
    marked 7 (Called (commands.Do 0 1)) ∷
    marked 7 (Sent 0 2 (messages.Request (tx 2 1) 1 0 (wants.Append 0 [] (own_line 1 0 1 ∷ [])))) ∷ marked 2 (Got 0) ∷
    marked 2 (Sent 1 7 (messages.Answer 0 (answers.Granted (whole_grant 1 0 [])))) ∷ marked 7 (Got 1) ∷
    marked 7 (Told (replies.Response 0)) ∷ marked 7 (Called (commands.Do 0 1)) ∷
    marked 7 (Sent 2 2 (messages.Request (tx 2 1) 1 1 (wants.Append 0 [] (own_line 1 0 1 ∷ own_line 2 0 1 ∷ [])))) ∷
    marked 2 (Got 2) ∷ marked 2 (Sent 3 7 (messages.Answer 2 (answers.Granted (whole_grant 1 0 [])))) ∷ marked 7 (Got 3)
    ∷
    marked 7 (Told (replies.Response 0)) ∷ marked 9 (Phase 2) ∷ marked 5 (Called commands.Begin) ∷
    marked 5 (Told (replies.Began (tx 0 1))) ∷ marked 5 (Called (commands.Do 0 1)) ∷
    marked 5 (Sent 4 0 (messages.Request (tx 0 1) 1 0 (wants.Append 0 [] (own_line 1 0 1 ∷ [])))) ∷
    marked 5 (Sent 5 1 (messages.Request (tx 0 1) 1 0 (wants.Append 0 [] (own_line 1 0 1 ∷ [])))) ∷
    marked 5 (Sent 6 2 (messages.Request (tx 0 1) 1 0 (wants.Append 0 [] (own_line 1 0 1 ∷ [])))) ∷ marked 2 (Got 6) ∷
    marked 1 (Got 5) ∷ marked 0 (Got 4) ∷ marked 1 (Sent 7 5 (messages.Answer 5 (answers.Granted (whole_grant 1 0 []))))
    ∷
    marked 5 (Got 7) ∷ marked 0 (Sent 8 5 (messages.Answer 4 (answers.Granted (whole_grant 1 0 [])))) ∷ marked 5 (Got 8)
    ∷
    marked 2 (Sent 9 5 (messages.Answer 6 (answers.Granted (whole_grant 1 0 [])))) ∷ marked 5 (Got 9) ∷
    marked 5 (Told (replies.Response 0)) ∷ marked 5 (Called commands.Commit) ∷
    marked 5 (Sent 10 0 (messages.Request (tx 0 1) 1 1 wants.Prepare)) ∷
    marked 5 (Sent 11 1 (messages.Request (tx 0 1) 1 1 wants.Prepare)) ∷
    marked 5 (Sent 12 2 (messages.Request (tx 0 1) 1 1 wants.Prepare)) ∷ marked 1 (Got 11) ∷ marked 2 (Got 12) ∷
    marked 0 (Got 10) ∷ marked 2 (Wrote (prepare (tx 0 1) 1 [] (own_line 1 0 1 ∷ []) [])) ∷
    marked 2 (Sent 13 5 (messages.Answer 12 (answers.Yes 0))) ∷
    marked 0 (Wrote (prepare (tx 0 1) 1 [] (own_line 1 0 1 ∷ []) [])) ∷
    marked 0 (Sent 14 5 (messages.Answer 10 (answers.Yes 0))) ∷
    marked 1 (Wrote (prepare (tx 0 1) 1 [] (own_line 1 0 1 ∷ []) [])) ∷
    marked 1 (Sent 15 5 (messages.Answer 11 (answers.Yes 0))) ∷ marked 5 (Got 13) ∷ marked 5 (Got 14) ∷
    marked 5 (Got 15) ∷ marked 5 (Wrote (commit (stamp 1 0) (tx 0 1) (operation 0 1 (Some 0) ∷ []))) ∷
    marked 5 (Sent 16 0 (messages.Decision (tx 0 1) (outcomes.Committed (stamp 1 0)))) ∷
    marked 5 (Sent 17 1 (messages.Decision (tx 0 1) (outcomes.Committed (stamp 1 0)))) ∷
    marked 5 (Sent 18 2 (messages.Decision (tx 0 1) (outcomes.Committed (stamp 1 0)))) ∷
    marked 5 (Told (replies.Committed (stamp 1 0))) ∷ marked 1 (Got 17) ∷ marked 2 (Got 18) ∷ marked 0 (Got 16) ∷
    marked 2 (Wrote (records.Done (tx 0 1) 1)) ∷ marked 0 (Wrote (records.Done (tx 0 1) 1)) ∷
    marked 1 (Wrote (records.Done (tx 0 1) 1)) ∷ marked 9 (Phase 3) ∷ marked 5 (Called commands.Begin) ∷
    marked 5 (Told (replies.Began (tx 0 2))) ∷ marked 5 (Called (commands.Do 0 0)) ∷
    marked 5 (Sent 19 0 (messages.Request (tx 0 2) 1 0 (wants.Read (first_read 0 0)))) ∷
    marked 5 (Sent 20 1 (messages.Request (tx 0 2) 1 0 (wants.Read (first_read 0 0)))) ∷
    marked 5 (Sent 21 2 (messages.Request (tx 0 2) 1 0 (wants.Read (first_read 0 0)))) ∷ marked 2 (Got 21)
    ∷ marked 1 (Got 20) ∷
    marked 0 (Got 19)
    ∷ marked 1 (Sent 22 5 (messages.Answer 20 (answers.Granted (whole_grant 1 1 (line 1 0 1 1 0 1 ∷ []))))) ∷
    marked 5 (Got 22)
    ∷ marked 0 (Sent 23 5 (messages.Answer 19 (answers.Granted (whole_grant 1 1 (line 1 0 1 1 0 1 ∷ []))))) ∷
    marked 5 (Got 23) ∷ marked 2 (Sent 24 5 (messages.Answer 21 (answers.Clash (tx 2 1) 0 1))) ∷
    marked 2 (Sent 25 7 (messages.Inquiry (tx 2 1))) ∷ marked 5 (Got 24) ∷ marked 7 (Got 25) ∷
    marked 5 (Told (replies.Conflict (tx 2 1) 2)) ∷ marked 5 (Called (commands.Do 0 2)) ∷
    marked 7 (Sent 26 2 (messages.Decision (tx 2 1) outcomes.Active)) ∷ marked 2 (Got 26) ∷
    marked 5 (Sent 27 0 (messages.Request (tx 0 2) 1 1 (wants.Append 0 (line 1 0 1 1 0 1 ∷ []) (own_line 1 0 2 ∷ []))))
    ∷
    marked 5 (Sent 28 1 (messages.Request (tx 0 2) 1 1 (wants.Append 0 (line 1 0 1 1 0 1 ∷ []) (own_line 1 0 2 ∷ []))))
    ∷
    marked 5 (Sent 29 2 (messages.Request (tx 0 2) 1 0 (wants.Append 0 (line 1 0 1 1 0 1 ∷ []) (own_line 1 0 2 ∷ []))))
    ∷
    marked 2 (Got 29) ∷ marked 1 (Got 28) ∷ marked 0 (Got 27) ∷
    marked 0 (Sent 30 5 (messages.Answer 27 (answers.Granted (whole_grant 1 1 [])))) ∷ marked 5 (Got 30) ∷
    marked 2 (Sent 31 5 (messages.Answer 29 (answers.Granted (whole_grant 1 1 [])))) ∷
    marked 1 (Sent 32 5 (messages.Answer 28 (answers.Granted (whole_grant 1 1 [])))) ∷ marked 5 (Got 31)
    ∷ marked 5 (Got 32) ∷
    marked 5 (Told (replies.Response 0)) ∷ marked 9 (Phase 4) ∷ marked 9 (Cut 2 3) ∷ []
