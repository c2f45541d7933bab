-- Random: sites 4, clients 3, steps 140, messages 54, commits 1, aborts 2, conflicts 2.
use Rattle.std.specs.Prelude.{List, [], ◌∷◌}
use Rattle.qc_decl.specs.declared.declaration.Declaration.{Declaration}
use Rattle.qc_decl.specs.Vocabulary.{row}
use Rattle.qc_msg.specs.Vocabulary.{Entry, marked}
use Rattle.tests_histories.specs.Play.{Move, Takes, Posts, Acts}
use Rattle.tests_histories.specs.Words.{tx, stamp, own_line, commit, declaration, kind, pair, plan}
use Rattle.qc_msg.specs.declared.step.Step.TheVariants.{Phase, Called, Got, Wrote, Sent, Told}
use Rattle.qc_msg.specs.declared.message.Answer.TheVariants as answers
use Rattle.qc_msg.specs.declared.reply.AbortCause.TheVariants as causes
use Rattle.qc_msg.specs.declared.step.Command.TheVariants as commands
use Rattle.qc_msg.specs.declared.message.Message.TheVariants as messages
use Rattle.qc_msg.specs.declared.message.Outcome.TheVariants as outcomes
use Rattle.qc_msg.specs.declared.reply.Reply.TheVariants as replies
use Rattle.qc_msg.specs.declared.message.Want.TheVariants as wants
use Rattle.qc_msg.specs.Vocabulary.{whole_grant, first_read}

abbrev pub decl : Declaration
decl =
    declaration 4 3 (kind 7 3 4 0 (row 0 0 0 1 ∷ row 0 1 0 2 ∷ row 1 0 0 3 ∷ row 1 1 0 4 ∷ row 2 0 0 5 ∷ row 2 1 0 6 ∷
    row 0 2 3 0 ∷ row 1 2 1 0 ∷ row 2 2 2 0 ∷ row 3 2 1 1 ∷ row 4 2 1 2 ∷ row 5 2 2 1 ∷ row 6 2 2 2 ∷ []) (pair 0 0 ∷
    pair 0 1 ∷ pair 0 3 ∷ pair 0 4 ∷ pair 1 0 ∷ pair 1 1 ∷ pair 1 3 ∷ pair 1 4 ∷ pair 2 0 ∷ pair 2 1 ∷ pair 2 3 ∷ pair 2
    4 ∷ []) ∷ []) (0 ∷ []) (plan (1 ∷ 1 ∷ 1 ∷ 3 ∷ []) ((1 ∷ 1 ∷ 3 ∷ []) ∷ []) ((6 ∷ 6 ∷ 4 ∷ 6 ∷ 6 ∷ []) ∷ []) ∷ [])

abbrev pub moves : List Move
moves =
    Acts (Phase 1) ∷ Takes 4 (Called commands.Begin) ∷ Takes 6 (Called commands.Begin) ∷ Posts 6 ∷
    Takes 6 (Called commands.Commit) ∷ Posts 6 ∷ Posts 4 ∷ Takes 4 (Called (commands.Do 0 2)) ∷
    Takes 5 (Called commands.Begin) ∷ Posts 4 ∷ Takes 1 (Got 1) ∷ Takes 0 (Got 0) ∷ Posts 0 ∷ Takes 4 (Got 3) ∷
    Posts 4 ∷ Posts 5 ∷ Posts 1 ∷ Takes 4 (Got 4) ∷ Posts 4 ∷ Takes 5 (Called (commands.Do 0 0)) ∷ Takes 2 (Got 2) ∷
    Posts 2 ∷ Takes 4 (Got 5) ∷ Posts 5 ∷ Takes 1 (Got 6) ∷ Posts 1 ∷ Takes 5 (Got 7) ∷ Posts 5 ∷ Takes 1 (Got 8) ∷
    Takes 0 (Got 11) ∷ Takes 3 (Got 10) ∷ Posts 1 ∷ Posts 0 ∷ Posts 3 ∷ Posts 4 ∷ Takes 3 (Got 20) ∷ Takes 1 (Got 18) ∷
    Posts 3 ∷ Takes 4 (Got 13) ∷ Takes 0 (Got 17) ∷ Posts 0 ∷ Posts 1 ∷ Takes 2 (Got 9) ∷ Takes 5 (Got 12) ∷ Posts 5 ∷
    Posts 4 ∷ Takes 1 (Got 24) ∷ Posts 1 ∷ Takes 4 (Got 15) ∷ Posts 4 ∷ Takes 0 (Got 25) ∷ Posts 0 ∷ Takes 4 (Got 21) ∷
    Posts 4 ∷ Posts 2 ∷ Takes 4 (Got 22) ∷ Posts 4 ∷ Takes 4 (Got 23) ∷ Posts 4 ∷ Takes 2 (Got 19) ∷ Takes 4 (Got 27) ∷
    Takes 5 (Got 14) ∷ Posts 5 ∷ Posts 4 ∷ Posts 2 ∷ Takes 4 (Got 29) ∷ Takes 2 (Got 28) ∷ Posts 2 ∷ Posts 4 ∷
    Takes 4 (Called commands.Begin) ∷ Posts 4 ∷ Takes 5 (Got 16) ∷ Posts 5 ∷ Takes 5 (Got 26) ∷ Posts 5 ∷
    Takes 5 (Called (commands.Do 0 2)) ∷ Posts 5 ∷ Takes 5 (Called (commands.Do 0 2)) ∷ Posts 5 ∷
    Takes 5 (Called commands.Commit) ∷ Posts 5 ∷ Takes 1 (Got 31) ∷ Posts 1 ∷ Takes 5 (Called commands.Begin) ∷
    Takes 0 (Got 30) ∷ Posts 0 ∷ Posts 5 ∷ Takes 3 (Got 33) ∷ Posts 3 ∷ Takes 5 (Called (commands.Do 0 0)) ∷ Posts 5 ∷
    Takes 1 (Got 34) ∷ Posts 1 ∷ Takes 5 (Got 35) ∷ Takes 2 (Got 32) ∷ Posts 2 ∷ Posts 5 ∷ Takes 0 (Got 39) ∷ Posts 0 ∷
    Takes 3 (Got 38) ∷ Posts 3 ∷ Takes 4 (Got 41) ∷ Takes 1 (Got 36) ∷ Posts 1 ∷ Takes 2 (Got 37) ∷ Posts 4 ∷
    Takes 0 (Got 45) ∷ Posts 0 ∷ Posts 2 ∷ Takes 4 (Got 44) ∷ Posts 4 ∷ Takes 4 (Got 47) ∷ Takes 1 (Got 48) ∷ Posts 1 ∷
    Posts 4 ∷ Takes 5 (Got 40) ∷ Posts 5 ∷ Takes 2 (Got 49) ∷ Posts 2 ∷ Takes 5 (Got 42) ∷ Posts 5 ∷ Takes 5 (Got 43) ∷
    Posts 5 ∷ Takes 5 (Got 46) ∷ Posts 5 ∷ Takes 5 (Called (commands.Do 0 2)) ∷ Posts 5 ∷
    Takes 5 (Called (commands.Do 0 2)) ∷ Posts 5 ∷ Takes 5 (Called commands.Commit) ∷ Posts 5 ∷ Takes 1 (Got 51) ∷
    Posts 1 ∷ Takes 0 (Got 50) ∷ Posts 0 ∷ Takes 3 (Got 53) ∷ Posts 3 ∷ Takes 2 (Got 52) ∷ Posts 2 ∷ []

abbrev pub history : List Entry
history =
    marked 8 (Phase 1) ∷ marked 4 (Called commands.Begin) ∷ marked 6 (Called commands.Begin) ∷
    marked 6 (Told (replies.Began (tx 2 1))) ∷ marked 6 (Called commands.Commit) ∷
    marked 6 (Wrote (commit (stamp 1 2) (tx 2 1) [])) ∷ marked 6 (Told (replies.Committed (stamp 1 2))) ∷
    marked 4 (Told (replies.Began (tx 0 1))) ∷ marked 4 (Called (commands.Do 0 2)) ∷ marked 5 (Called commands.Begin) ∷
    marked 4 (Sent 0 0 (messages.Request (tx 0 1) 1 0 (wants.Read (first_read 0 2)))) ∷
    marked 4 (Sent 1 1 (messages.Request (tx 0 1) 1 0 (wants.Read (first_read 0 2)))) ∷
    marked 4 (Sent 2 2 (messages.Request (tx 0 1) 1 0 (wants.Read (first_read 0 2)))) ∷ marked 1 (Got 1) ∷
    marked 0 (Got 0)
    ∷
    marked 0 (Sent 3 4 (messages.Answer 0 (answers.Granted (whole_grant 1 0 [])))) ∷ marked 4 (Got 3) ∷
    marked 5 (Told (replies.Began (tx 1 1)))
    ∷ marked 1 (Sent 4 4 (messages.Answer 1 (answers.Granted (whole_grant 1 0 [])))) ∷
    marked 4 (Got 4) ∷ marked 5 (Called (commands.Do 0 0)) ∷ marked 2 (Got 2) ∷
    marked 2 (Sent 5 4 (messages.Answer 2 (answers.Granted (whole_grant 1 0 [])))) ∷ marked 4 (Got 5) ∷
    marked 5 (Sent 6 1 (messages.Request (tx 1 1) 1 0 (wants.Read (first_read 0 0)))) ∷ marked 1 (Got 6) ∷
    marked 1 (Sent 7 5 (messages.Answer 6 (answers.Granted (whole_grant 1 0 [])))) ∷ marked 5 (Got 7) ∷
    marked 5 (Sent 8 1 (messages.Request (tx 1 1) 1 1 (wants.Append 0 [] (own_line 1 0 0 ∷ [])))) ∷
    marked 5 (Sent 9 2 (messages.Request (tx 1 1) 1 0 (wants.Append 0 [] (own_line 1 0 0 ∷ [])))) ∷
    marked 5 (Sent 10 3 (messages.Request (tx 1 1) 1 0 (wants.Append 0 [] (own_line 1 0 0 ∷ [])))) ∷
    marked 5 (Sent 11 0 (messages.Request (tx 1 1) 1 0 (wants.Append 0 [] (own_line 1 0 0 ∷ [])))) ∷ marked 1 (Got 8) ∷
    marked 0 (Got 11) ∷ marked 3 (Got 10) ∷ marked 1 (Sent 12 5 (messages.Answer 8 (answers.Clash (tx 0 1) 2 0))) ∷
    marked 1 (Sent 13 4 (messages.Inquiry (tx 0 1))) ∷
    marked 0 (Sent 14 5 (messages.Answer 11 (answers.Clash (tx 0 1) 2 0))) ∷
    marked 0 (Sent 15 4 (messages.Inquiry (tx 0 1))) ∷
    marked 3 (Sent 16 5 (messages.Answer 10 (answers.Granted (whole_grant 1 0 [])))) ∷
    marked 4 (Sent 17 0 (messages.Request (tx 0 1) 1 1 (wants.Append 0 [] (own_line 1 0 2 ∷ [])))) ∷
    marked 4 (Sent 18 1 (messages.Request (tx 0 1) 1 1 (wants.Append 0 [] (own_line 1 0 2 ∷ [])))) ∷
    marked 4 (Sent 19 2 (messages.Request (tx 0 1) 1 1 (wants.Append 0 [] (own_line 1 0 2 ∷ [])))) ∷
    marked 4 (Sent 20 3 (messages.Request (tx 0 1) 1 0 (wants.Append 0 [] (own_line 1 0 2 ∷ [])))) ∷ marked 3 (Got 20) ∷
    marked 1 (Got 18) ∷ marked 3 (Sent 21 4 (messages.Answer 20 (answers.Granted (whole_grant 1 0 []))))
    ∷ marked 4 (Got 13) ∷
    marked 0 (Got 17) ∷ marked 0 (Sent 22 4 (messages.Answer 17 (answers.Granted (whole_grant 1 0 [])))) ∷
    marked 1 (Sent 23 4 (messages.Answer 18 (answers.Granted (whole_grant 1 0 [])))) ∷ marked 2 (Got 9)
    ∷ marked 5 (Got 12) ∷
    marked 4 (Sent 24 1 (messages.Decision (tx 0 1) outcomes.Active)) ∷ marked 1 (Got 24) ∷ marked 4 (Got 15) ∷
    marked 4 (Sent 25 0 (messages.Decision (tx 0 1) outcomes.Active)) ∷ marked 0 (Got 25) ∷ marked 4 (Got 21) ∷
    marked 2 (Sent 26 5 (messages.Answer 9 (answers.Clash (tx 0 1) 2 0))) ∷
    marked 2 (Sent 27 4 (messages.Inquiry (tx 0 1))) ∷ marked 4 (Got 22) ∷ marked 4 (Got 23) ∷ marked 2 (Got 19) ∷
    marked 4 (Got 27) ∷ marked 5 (Got 14) ∷ marked 4 (Sent 28 2 (messages.Decision (tx 0 1) outcomes.Active)) ∷
    marked 2 (Sent 29 4 (messages.Answer 19 (answers.Granted (whole_grant 1 0 [])))) ∷ marked 4 (Got 29)
    ∷ marked 2 (Got 28) ∷
    marked 4 (Told (replies.Response 3)) ∷ marked 4 (Called commands.Begin) ∷
    marked 4 (Told (replies.Already (tx 0 1))) ∷ marked 5 (Got 16) ∷ marked 5 (Got 26) ∷
    marked 5 (Told (replies.Conflict (tx 0 1) 1)) ∷ marked 5 (Called (commands.Do 0 2)) ∷
    marked 5 (Told replies.Doomed) ∷ marked 5 (Called (commands.Do 0 2)) ∷ marked 5 (Told replies.Doomed) ∷
    marked 5 (Called commands.Commit) ∷ marked 5 (Sent 30 0 (messages.Decision (tx 1 1) outcomes.Aborted)) ∷
    marked 5 (Sent 31 1 (messages.Decision (tx 1 1) outcomes.Aborted)) ∷
    marked 5 (Sent 32 2 (messages.Decision (tx 1 1) outcomes.Aborted)) ∷
    marked 5 (Sent 33 3 (messages.Decision (tx 1 1) outcomes.Aborted)) ∷
    marked 5 (Told (replies.Aborted causes.Doomed)) ∷ marked 1 (Got 31) ∷ marked 5 (Called commands.Begin) ∷
    marked 0 (Got 30) ∷ marked 5 (Told (replies.Began (tx 1 2))) ∷ marked 3 (Got 33) ∷
    marked 5 (Called (commands.Do 0 0))
    ∷ marked 5 (Sent 34 1 (messages.Request (tx 1 2) 1 0 (wants.Read (first_read 0 0)))) ∷
    marked 1 (Got 34) ∷ marked 1 (Sent 35 5 (messages.Answer 34 (answers.Granted (whole_grant 1 0 []))))
    ∷ marked 5 (Got 35) ∷
    marked 2 (Got 32) ∷ marked 5 (Sent 36 1 (messages.Request (tx 1 2) 1 1 (wants.Append 0 [] (own_line 1 0 0 ∷ [])))) ∷
    marked 5 (Sent 37 2 (messages.Request (tx 1 2) 1 0 (wants.Append 0 [] (own_line 1 0 0 ∷ [])))) ∷
    marked 5 (Sent 38 3 (messages.Request (tx 1 2) 1 0 (wants.Append 0 [] (own_line 1 0 0 ∷ [])))) ∷
    marked 5 (Sent 39 0 (messages.Request (tx 1 2) 1 0 (wants.Append 0 [] (own_line 1 0 0 ∷ [])))) ∷ marked 0 (Got 39) ∷
    marked 0 (Sent 40 5 (messages.Answer 39 (answers.Clash (tx 0 1) 2 0))) ∷
    marked 0 (Sent 41 4 (messages.Inquiry (tx 0 1))) ∷ marked 3 (Got 38) ∷
    marked 3 (Sent 42 5 (messages.Answer 38 (answers.Granted (whole_grant 1 0 [])))) ∷ marked 4 (Got 41)
    ∷ marked 1 (Got 36) ∷
    marked 1 (Sent 43 5 (messages.Answer 36 (answers.Clash (tx 0 1) 2 0))) ∷
    marked 1 (Sent 44 4 (messages.Inquiry (tx 0 1))) ∷ marked 2 (Got 37) ∷
    marked 4 (Sent 45 0 (messages.Decision (tx 0 1) outcomes.Active)) ∷ marked 0 (Got 45) ∷
    marked 2 (Sent 46 5 (messages.Answer 37 (answers.Clash (tx 0 1) 2 0))) ∷
    marked 2 (Sent 47 4 (messages.Inquiry (tx 0 1))) ∷ marked 4 (Got 44) ∷
    marked 4 (Sent 48 1 (messages.Decision (tx 0 1) outcomes.Active)) ∷ marked 4 (Got 47) ∷ marked 1 (Got 48) ∷
    marked 4 (Sent 49 2 (messages.Decision (tx 0 1) outcomes.Active)) ∷ marked 5 (Got 40) ∷ marked 2 (Got 49) ∷
    marked 5 (Got 42) ∷ marked 5 (Got 43) ∷ marked 5 (Got 46) ∷ marked 5 (Told (replies.Conflict (tx 0 1) 1)) ∷
    marked 5 (Called (commands.Do 0 2)) ∷ marked 5 (Told replies.Doomed) ∷ marked 5 (Called (commands.Do 0 2)) ∷
    marked 5 (Told replies.Doomed) ∷ marked 5 (Called commands.Commit) ∷
    marked 5 (Sent 50 0 (messages.Decision (tx 1 2) outcomes.Aborted)) ∷
    marked 5 (Sent 51 1 (messages.Decision (tx 1 2) outcomes.Aborted)) ∷
    marked 5 (Sent 52 2 (messages.Decision (tx 1 2) outcomes.Aborted)) ∷
    marked 5 (Sent 53 3 (messages.Decision (tx 1 2) outcomes.Aborted)) ∷
    marked 5 (Told (replies.Aborted causes.Doomed)) ∷ marked 1 (Got 51) ∷ marked 0 (Got 50) ∷ marked 3 (Got 53) ∷
    marked 2 (Got 52) ∷ []
