-- Random: sites 1, clients 3, steps 77, messages 20, commits 1, aborts 2, conflicts 3.
use Rattle.std.specs.Prelude.{List, [], ◌∷◌}
use Rattle.qc_decl.specs.declared.declaration.Declaration.{Declaration}
use Rattle.qc_decl.specs.Vocabulary.{row}
use Rattle.qc_msg.specs.Vocabulary.{Entry, marked}
use Rattle.tests_histories.specs.Play.{Move, Takes, Posts, Acts}
use Rattle.tests_histories.specs.Words.{tx, stamp, own_line, commit, declaration, kind, pair, plan}
use Rattle.qc_msg.specs.declared.step.Step.TheVariants.{Phase, Called, Got, Wrote, Sent, Told}
use Rattle.qc_msg.specs.declared.message.Answer.TheVariants as answers
use Rattle.qc_msg.specs.declared.reply.AbortCause.TheVariants as causes
use Rattle.qc_msg.specs.declared.step.Command.TheVariants as commands
use Rattle.qc_msg.specs.declared.message.Message.TheVariants as messages
use Rattle.qc_msg.specs.declared.message.Outcome.TheVariants as outcomes
use Rattle.qc_msg.specs.declared.reply.Reply.TheVariants as replies
use Rattle.qc_msg.specs.declared.message.Want.TheVariants as wants
use Rattle.qc_msg.specs.Vocabulary.{whole_grant, first_read}

abbrev pub decl : Declaration
decl =
    declaration 1 3 (kind 7 3 4 0 (row 0 0 0 1 ∷ row 0 1 0 2 ∷ row 1 0 0 3 ∷ row 1 1 0 4 ∷ row 2 0 0 5 ∷ row 2 1 0 6 ∷
    row 0 2 3 0 ∷ row 1 2 1 0 ∷ row 2 2 2 0 ∷ row 3 2 1 1 ∷ row 4 2 1 2 ∷ row 5 2 2 1 ∷ row 6 2 2 2 ∷ []) (pair 0 0 ∷
    pair 0 1 ∷ pair 0 2 ∷ pair 0 3 ∷ pair 0 4 ∷ pair 1 0 ∷ pair 1 1 ∷ pair 1 2 ∷ pair 1 3 ∷ pair 1 4 ∷ pair 2 0 ∷ pair 2
    1 ∷ pair 2 3 ∷ pair 2 4 ∷ []) ∷ kind 3 2 1 0 (row 0 1 0 1 ∷ row 1 0 0 1 ∷ row 1 1 0 2 ∷ row 2 1 0 0 ∷ []) (pair 0 0
    ∷ []) ∷ []) (0 ∷ []) (plan (3 ∷ []) ((2 ∷ 2 ∷ 2 ∷ []) ∷ []) ((2 ∷ 2 ∷ 2 ∷ 2 ∷ 2 ∷ []) ∷ []) ∷ plan (1 ∷ []) ((1 ∷ 1
    ∷ 1 ∷ []) ∷ []) ((1 ∷ 1 ∷ 1 ∷ 1 ∷ 1 ∷ []) ∷ []) ∷ [])

abbrev pub moves : List Move
moves =
    Acts (Phase 1) ∷ Takes 2 (Called commands.Begin) ∷ Takes 3 (Called commands.Begin) ∷ Posts 3 ∷
    Takes 3 (Called (commands.Do 0 2)) ∷ Posts 3 ∷ Takes 1 (Called commands.Begin) ∷ Posts 2 ∷ Posts 1 ∷
    Takes 0 (Got 0) ∷ Takes 1 (Called (commands.Do 0 0)) ∷ Posts 1 ∷ Takes 2 (Called commands.Abort) ∷ Posts 0 ∷
    Takes 3 (Got 2) ∷ Posts 3 ∷ Takes 0 (Got 1) ∷ Posts 0 ∷ Takes 1 (Got 4) ∷ Posts 1 ∷ Takes 0 (Got 3) ∷ Posts 0 ∷
    Takes 0 (Got 5) ∷ Takes 3 (Got 6) ∷ Takes 1 (Got 7) ∷ Posts 1 ∷ Posts 0 ∷ Takes 0 (Got 8) ∷ Posts 0 ∷ Posts 3 ∷
    Takes 1 (Got 9) ∷ Takes 3 (Got 10) ∷ Posts 3 ∷ Takes 0 (Got 11) ∷ Posts 0 ∷ Posts 1 ∷
    Takes 1 (Called (commands.Do 0 0)) ∷ Posts 1 ∷ Takes 1 (Called (commands.Do 0 2)) ∷ Posts 1 ∷
    Takes 3 (Called commands.Begin) ∷ Posts 3 ∷ Posts 2 ∷ Acts (Phase 2) ∷ Takes 2 (Called commands.Begin) ∷ Posts 2 ∷
    Takes 2 (Called commands.Commit) ∷ Posts 2 ∷ Takes 2 (Called commands.Begin) ∷ Posts 2 ∷
    Takes 2 (Called (commands.Do 0 2)) ∷ Posts 2 ∷ Takes 0 (Got 12) ∷ Posts 0 ∷ Takes 2 (Got 13) ∷ Posts 2 ∷
    Takes 0 (Got 14) ∷ Posts 0 ∷ Takes 2 (Got 15) ∷ Posts 2 ∷ Takes 2 (Called (commands.Do 0 2)) ∷ Posts 2 ∷
    Takes 2 (Called (commands.Do 0 1)) ∷ Posts 2 ∷ Takes 2 (Called commands.Commit) ∷ Posts 2 ∷ Takes 0 (Got 17) ∷
    Posts 0 ∷ Takes 3 (Called commands.Commit) ∷ Posts 3 ∷ Takes 0 (Got 18) ∷ Posts 0 ∷ Takes 1 (Got 16) ∷ Posts 1 ∷
    Takes 0 (Got 19) ∷ Posts 0 ∷ []

abbrev pub history : List Entry
history =
    marked 5 (Phase 1) ∷ marked 2 (Called commands.Begin) ∷ marked 3 (Called commands.Begin) ∷
    marked 3 (Told (replies.Began (tx 2 1))) ∷ marked 3 (Called (commands.Do 0 2)) ∷
    marked 3 (Sent 0 0 (messages.Request (tx 2 1) 1 0 (wants.Read (first_read 0 2)))) ∷
    marked 1 (Called commands.Begin) ∷
    marked 2 (Told (replies.Began (tx 1 1))) ∷ marked 1 (Told (replies.Began (tx 0 1))) ∷ marked 0 (Got 0) ∷
    marked 1 (Called (commands.Do 0 0)) ∷
    marked 1 (Sent 1 0 (messages.Request (tx 0 1) 1 0 (wants.Read (first_read 0 0))))
    ∷
    marked 2 (Called commands.Abort) ∷ marked 0 (Sent 2 3 (messages.Answer 0 (answers.Granted (whole_grant 1 0 [])))) ∷
    marked 3 (Got 2) ∷ marked 3 (Sent 3 0 (messages.Request (tx 2 1) 1 1 (wants.Append 0 [] (own_line 1 0 2 ∷ [])))) ∷
    marked 0 (Got 1) ∷ marked 0 (Sent 4 1 (messages.Answer 1 (answers.Granted (whole_grant 1 0 [])))) ∷ marked 1 (Got 4)
    ∷
    marked 1 (Sent 5 0 (messages.Request (tx 0 1) 1 1 (wants.Append 0 [] (own_line 1 0 0 ∷ [])))) ∷ marked 0 (Got 3) ∷
    marked 0 (Sent 6 3 (messages.Answer 3 (answers.Clash (tx 0 1) 0 2))) ∷
    marked 0 (Sent 7 1 (messages.Inquiry (tx 0 1))) ∷ marked 0 (Got 5) ∷ marked 3 (Got 6) ∷ marked 1 (Got 7) ∷
    marked 1 (Sent 8 0 (messages.Decision (tx 0 1) outcomes.Active)) ∷
    marked 0 (Sent 9 1 (messages.Answer 5 (answers.Clash (tx 2 1) 2 0))) ∷
    marked 0 (Sent 10 3 (messages.Inquiry (tx 2 1))) ∷ marked 0 (Got 8) ∷
    marked 3 (Told (replies.Conflict (tx 0 1) 0)) ∷ marked 1 (Got 9) ∷ marked 3 (Got 10) ∷
    marked 3 (Sent 11 0 (messages.Decision (tx 2 1) outcomes.Active)) ∷ marked 0 (Got 11) ∷
    marked 1 (Told (replies.Conflict (tx 2 1) 0)) ∷ marked 1 (Called (commands.Do 0 0)) ∷
    marked 1 (Told replies.Doomed) ∷ marked 1 (Called (commands.Do 0 2)) ∷ marked 1 (Told replies.Doomed) ∷
    marked 3 (Called commands.Begin) ∷ marked 3 (Told (replies.Already (tx 2 1))) ∷ marked 2 (Told replies.Dropped) ∷
    marked 5 (Phase 2) ∷ marked 2 (Called commands.Begin) ∷ marked 2 (Told (replies.Began (tx 1 2))) ∷
    marked 2 (Called commands.Commit) ∷ marked 2 (Wrote (commit (stamp 1 1) (tx 1 2) [])) ∷
    marked 2 (Told (replies.Committed (stamp 1 1))) ∷ marked 2 (Called commands.Begin) ∷
    marked 2 (Told (replies.Began (tx 1 3))) ∷ marked 2 (Called (commands.Do 0 2)) ∷
    marked 2 (Sent 12 0 (messages.Request (tx 1 3) 1 0 (wants.Read (first_read 0 2)))) ∷ marked 0 (Got 12) ∷
    marked 0 (Sent 13 2 (messages.Answer 12 (answers.Granted (whole_grant 1 0 [])))) ∷ marked 2 (Got 13) ∷
    marked 2 (Sent 14 0 (messages.Request (tx 1 3) 1 1 (wants.Append 0 [] (own_line 1 0 2 ∷ [])))) ∷ marked 0 (Got 14) ∷
    marked 0 (Sent 15 2 (messages.Answer 14 (answers.Clash (tx 0 1) 0 2))) ∷
    marked 0 (Sent 16 1 (messages.Inquiry (tx 0 1))) ∷ marked 2 (Got 15) ∷
    marked 2 (Told (replies.Conflict (tx 0 1) 0)) ∷ marked 2 (Called (commands.Do 0 2)) ∷
    marked 2 (Told replies.Doomed) ∷ marked 2 (Called (commands.Do 0 1)) ∷ marked 2 (Told replies.Doomed) ∷
    marked 2 (Called commands.Commit) ∷ marked 2 (Sent 17 0 (messages.Decision (tx 1 3) outcomes.Aborted)) ∷
    marked 2 (Told (replies.Aborted causes.Doomed)) ∷ marked 0 (Got 17) ∷ marked 3 (Called commands.Commit) ∷
    marked 3 (Sent 18 0 (messages.Decision (tx 2 1) outcomes.Aborted)) ∷
    marked 3 (Told (replies.Aborted causes.Doomed)) ∷ marked 0 (Got 18) ∷ marked 1 (Got 16) ∷
    marked 1 (Sent 19 0 (messages.Decision (tx 0 1) outcomes.Active)) ∷ marked 0 (Got 19) ∷ []
