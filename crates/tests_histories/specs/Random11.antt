-- Random: sites 3, clients 3, steps 78, messages 24, cuts 1, commits 2, aborts 1, conflicts 2.
use Rattle.std.specs.Prelude.{List, [], ◌∷◌}
use Rattle.qc_decl.specs.declared.declaration.Declaration.{Declaration}
use Rattle.qc_decl.specs.Vocabulary.{row}
use Rattle.qc_msg.specs.Vocabulary.{Entry, marked}
use Rattle.tests_histories.specs.Play.{Move, Takes, Posts, Acts}
use Rattle.tests_histories.specs.Words.{tx, stamp, own_line, commit, declaration, kind, pair, plan}
use Rattle.qc_msg.specs.declared.step.Step.TheVariants.{Phase, Cut, Heal, Called, Got, Wrote, Sent, Told}
use Rattle.qc_msg.specs.declared.message.Answer.TheVariants as answers
use Rattle.qc_msg.specs.declared.reply.AbortCause.TheVariants as causes
use Rattle.qc_msg.specs.declared.step.Command.TheVariants as commands
use Rattle.qc_msg.specs.declared.message.Message.TheVariants as messages
use Rattle.qc_msg.specs.declared.message.Outcome.TheVariants as outcomes
use Rattle.qc_msg.specs.declared.reply.Reply.TheVariants as replies
use Rattle.qc_msg.specs.declared.message.Want.TheVariants as wants
use Rattle.qc_msg.specs.Vocabulary.{whole_grant, first_read}

abbrev pub decl : Declaration
decl =
    declaration 3 3 (kind 7 3 4 0 (row 0 0 0 1 ∷ row 0 1 0 2 ∷ row 1 0 0 3 ∷ row 1 1 0 4 ∷ row 2 0 0 5 ∷ row 2 1 0 6 ∷
    row 0 2 3 0 ∷ row 1 2 1 0 ∷ row 2 2 2 0 ∷ row 3 2 1 1 ∷ row 4 2 1 2 ∷ row 5 2 2 1 ∷ row 6 2 2 2 ∷ []) (pair 0 0 ∷
    pair 0 1 ∷ pair 0 3 ∷ pair 0 4 ∷ pair 1 0 ∷ pair 1 1 ∷ pair 1 3 ∷ pair 1 4 ∷ pair 2 0 ∷ pair 2 1 ∷ pair 2 3 ∷ pair 2
    4 ∷ []) ∷ []) (0 ∷ 0 ∷ []) (plan (3 ∷ 0 ∷ 1 ∷ []) ((3 ∷ 3 ∷ 3 ∷ []) ∷ (4 ∷ 1 ∷ 2 ∷ []) ∷ []) ((2 ∷ 2 ∷ 0 ∷ 2 ∷ 2 ∷
    []) ∷ (4 ∷ 4 ∷ 0 ∷ 4 ∷ 4 ∷ []) ∷ []) ∷ [])

abbrev pub moves : List Move
moves =
    Acts (Phase 1) ∷ Acts (Cut 0 2) ∷ Takes 4 (Called commands.Begin) ∷ Takes 3 (Called commands.Begin) ∷ Posts 3 ∷
    Posts 4 ∷ Takes 3 (Called commands.Commit) ∷ Posts 3 ∷ Takes 4 (Called (commands.Do 1 1)) ∷
    Takes 5 (Called commands.Begin) ∷ Posts 5 ∷ Takes 5 (Called (commands.Do 0 2)) ∷ Posts 5 ∷ Takes 0 (Got 1) ∷
    Posts 0 ∷ Takes 5 (Got 2) ∷ Posts 5 ∷ Takes 2 (Got 0) ∷ Posts 2 ∷ Posts 4 ∷ Takes 5 (Got 3) ∷ Posts 5 ∷
    Takes 2 (Got 4) ∷ Takes 5 (Called (commands.Do 1 1)) ∷ Posts 5 ∷ Posts 2 ∷ Takes 4 (Got 6) ∷ Takes 2 (Got 5) ∷
    Posts 4 ∷ Takes 0 (Got 8) ∷ Posts 0 ∷ Posts 2 ∷ Takes 4 (Got 9) ∷ Posts 4 ∷ Takes 5 (Got 10) ∷ Takes 2 (Got 7) ∷
    Posts 5 ∷ Takes 0 (Got 12) ∷ Posts 0 ∷ Takes 5 (Got 13) ∷ Posts 5 ∷ Posts 2 ∷ Takes 4 (Got 14) ∷ Takes 2 (Got 11) ∷
    Posts 2 ∷ Takes 5 (Got 15) ∷ Posts 5 ∷ Takes 5 (Got 16) ∷ Posts 5 ∷ Posts 4 ∷ Takes 4 (Got 17) ∷
    Takes 5 (Called (commands.Do 1 2)) ∷ Posts 4 ∷ Posts 5 ∷ Takes 5 (Called commands.Commit) ∷
    Takes 4 (Called commands.Abort) ∷ Posts 4 ∷ Posts 5 ∷ Takes 0 (Got 20) ∷ Posts 0 ∷ Takes 0 (Got 22) ∷ Posts 0 ∷
    Takes 2 (Got 18) ∷ Posts 2 ∷ Takes 2 (Got 19) ∷ Posts 2 ∷ Takes 2 (Got 21) ∷ Posts 2 ∷ Takes 2 (Got 23) ∷ Posts 2 ∷
    Acts (Phase 2) ∷ Acts (Heal 0 2) ∷ Takes 3 (Called commands.Begin) ∷ Posts 3 ∷ Takes 3 (Called commands.Commit) ∷
    Posts 3 ∷ []

abbrev pub history : List Entry
history =
    marked 7 (Phase 1) ∷ marked 7 (Cut 0 2) ∷ marked 4 (Called commands.Begin) ∷ marked 3 (Called commands.Begin) ∷
    marked 3 (Told (replies.Began (tx 0 1))) ∷ marked 4 (Told (replies.Began (tx 1 1))) ∷
    marked 3 (Called commands.Commit) ∷ marked 3 (Wrote (commit (stamp 1 0) (tx 0 1) [])) ∷
    marked 3 (Told (replies.Committed (stamp 1 0))) ∷ marked 4 (Called (commands.Do 1 1)) ∷
    marked 5 (Called commands.Begin) ∷ marked 5 (Told (replies.Began (tx 2 1))) ∷ marked 5 (Called (commands.Do 0 2)) ∷
    marked 5 (Sent 0 2 (messages.Request (tx 2 1) 1 0 (wants.Read (first_read 0 2)))) ∷
    marked 5 (Sent 1 0 (messages.Request (tx 2 1) 1 0 (wants.Read (first_read 0 2)))) ∷ marked 0 (Got 1) ∷
    marked 0 (Sent 2 5 (messages.Answer 1 (answers.Granted (whole_grant 1 0 [])))) ∷ marked 5 (Got 2) ∷ marked 2 (Got 0)
    ∷
    marked 2 (Sent 3 5 (messages.Answer 0 (answers.Granted (whole_grant 1 0 [])))) ∷
    marked 4 (Sent 4 2 (messages.Request (tx 1 1) 1 0 (wants.Read (first_read 1 1)))) ∷ marked 5 (Got 3) ∷
    marked 5 (Told (replies.Response 3)) ∷ marked 2 (Got 4) ∷ marked 5 (Called (commands.Do 1 1)) ∷
    marked 5 (Sent 5 2 (messages.Request (tx 2 1) 1 1 (wants.Read (first_read 1 1)))) ∷
    marked 2 (Sent 6 4 (messages.Answer 4 (answers.Granted (whole_grant 1 0 [])))) ∷ marked 4 (Got 6) ∷ marked 2 (Got 5)
    ∷
    marked 4 (Sent 7 2 (messages.Request (tx 1 1) 1 1 (wants.Append 1 [] (own_line 1 1 1 ∷ [])))) ∷
    marked 4 (Sent 8 0 (messages.Request (tx 1 1) 1 0 (wants.Append 1 [] (own_line 1 1 1 ∷ [])))) ∷ marked 0 (Got 8) ∷
    marked 0 (Sent 9 4 (messages.Answer 8 (answers.Granted (whole_grant 1 0 [])))) ∷
    marked 2 (Sent 10 5 (messages.Answer 5 (answers.Granted (whole_grant 1 0 [])))) ∷ marked 4 (Got 9)
    ∷ marked 5 (Got 10) ∷
    marked 2 (Got 7) ∷ marked 5 (Sent 11 2 (messages.Request (tx 2 1) 1 1 (wants.Append 1 [] (own_line 2 1 1 ∷ [])))) ∷
    marked 5 (Sent 12 0 (messages.Request (tx 2 1) 1 1 (wants.Append 1 [] (own_line 2 1 1 ∷ [])))) ∷ marked 0 (Got 12) ∷
    marked 0 (Sent 13 5 (messages.Answer 12 (answers.Granted (whole_grant 1 0 [])))) ∷ marked 5 (Got 13) ∷
    marked 2 (Sent 14 4 (messages.Answer 7 (answers.Clash (tx 2 1) 1 1))) ∷
    marked 2 (Sent 15 5 (messages.Inquiry (tx 2 1))) ∷ marked 4 (Got 14) ∷ marked 2 (Got 11) ∷
    marked 2 (Sent 16 5 (messages.Answer 11 (answers.Clash (tx 1 1) 1 1))) ∷
    marked 2 (Sent 17 4 (messages.Inquiry (tx 1 1))) ∷ marked 5 (Got 15) ∷
    marked 5 (Sent 18 2 (messages.Decision (tx 2 1) outcomes.Active)) ∷ marked 5 (Got 16) ∷
    marked 5 (Told (replies.Conflict (tx 1 1) 2)) ∷ marked 4 (Told (replies.Conflict (tx 2 1) 2)) ∷ marked 4 (Got 17) ∷
    marked 5 (Called (commands.Do 1 2)) ∷ marked 4 (Sent 19 2 (messages.Decision (tx 1 1) outcomes.Active)) ∷
    marked 5 (Told replies.Doomed) ∷ marked 5 (Called commands.Commit) ∷ marked 4 (Called commands.Abort) ∷
    marked 4 (Sent 20 0 (messages.Decision (tx 1 1) outcomes.Aborted)) ∷
    marked 4 (Sent 21 2 (messages.Decision (tx 1 1) outcomes.Aborted)) ∷ marked 4 (Told replies.Dropped) ∷
    marked 5 (Sent 22 0 (messages.Decision (tx 2 1) outcomes.Aborted)) ∷
    marked 5 (Sent 23 2 (messages.Decision (tx 2 1) outcomes.Aborted)) ∷
    marked 5 (Told (replies.Aborted causes.Doomed)) ∷ marked 0 (Got 20) ∷ marked 0 (Got 22) ∷ marked 2 (Got 18) ∷
    marked 2 (Got 19) ∷ marked 2 (Got 21) ∷ marked 2 (Got 23) ∷ marked 7 (Phase 2) ∷ marked 7 (Heal 0 2) ∷
    marked 3 (Called commands.Begin) ∷ marked 3 (Told (replies.Began (tx 0 2))) ∷ marked 3 (Called commands.Commit) ∷
    marked 3 (Wrote (commit (stamp 2 0) (tx 0 2) [])) ∷ marked 3 (Told (replies.Committed (stamp 2 0))) ∷ []
