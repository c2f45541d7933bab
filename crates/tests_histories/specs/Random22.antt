-- Random: sites 5, clients 3, steps 169, messages 65, commits 1, aborts 3, conflicts 4.
use Rattle.std.specs.Prelude.{List, [], ◌∷◌, Some}
use Rattle.qc_decl.specs.declared.declaration.Declaration.{Declaration}
use Rattle.qc_decl.specs.Vocabulary.{row}
use Rattle.qc_msg.specs.Vocabulary.{Entry, marked}
use Rattle.tests_histories.specs.Play.{Move, Takes, Posts, Acts}
use Rattle.tests_histories.specs.Words.{tx, stamp, own_line, operation, commit, declaration, kind, pair, plan}
use Rattle.qc_msg.specs.declared.step.Step.TheVariants.{Phase, Called, Got, Wrote, Sent, Told}
use Rattle.qc_msg.specs.declared.message.Answer.TheVariants as answers
use Rattle.qc_msg.specs.declared.reply.AbortCause.TheVariants as causes
use Rattle.qc_msg.specs.declared.step.Command.TheVariants as commands
use Rattle.qc_msg.specs.declared.message.Message.TheVariants as messages
use Rattle.qc_msg.specs.declared.message.Outcome.TheVariants as outcomes
use Rattle.qc_msg.specs.declared.reply.Reply.TheVariants as replies
use Rattle.qc_msg.specs.declared.message.Want.TheVariants as wants
use Rattle.qc_msg.specs.Vocabulary.{whole_grant, first_read}

abbrev pub decl : Declaration
decl =
    declaration 5 3 (kind 2 2 3 0 (row 0 0 1 0 ∷ row 0 1 2 1 ∷ row 0 1 0 1 ∷ row 1 0 1 1 ∷ row 1 1 0 1 ∷ []) (pair 1 1 ∷
    pair 1 2 ∷ []) ∷ []) (0 ∷ 0 ∷ []) (plan (1 ∷ 1 ∷ 1 ∷ 1 ∷ 1 ∷ []) ((0 ∷ 3 ∷ []) ∷ (0 ∷ 3 ∷ []) ∷ []) ((0 ∷ 3 ∷ 3 ∷
    []) ∷ (0 ∷ 3 ∷ 3 ∷ []) ∷ []) ∷ plan (3 ∷ 1 ∷ 1 ∷ 1 ∷ 2 ∷ []) ((0 ∷ 2 ∷ []) ∷ (0 ∷ 5 ∷ []) ∷ []) ((3 ∷ 7 ∷ 7 ∷ []) ∷
    (0 ∷ 4 ∷ 4 ∷ []) ∷ []) ∷ [])

abbrev pub moves : List Move
moves =
    Acts (Phase 1) ∷ Takes 5 (Called commands.Begin) ∷ Posts 5 ∷ Takes 6 (Called commands.Begin) ∷ Posts 6 ∷
    Takes 6 (Called (commands.Do 1 0)) ∷ Posts 6 ∷ Takes 5 (Called (commands.Do 0 1)) ∷ Posts 5 ∷
    Takes 7 (Called commands.Begin) ∷ Posts 7 ∷ Takes 7 (Called (commands.Do 0 1)) ∷ Posts 7 ∷ Takes 4 (Got 5) ∷
    Posts 4 ∷ Takes 3 (Got 4) ∷ Posts 3 ∷ Takes 2 (Got 2) ∷ Posts 2 ∷ Takes 5 (Got 8) ∷ Posts 5 ∷ Takes 1 (Got 1) ∷
    Posts 1 ∷ Takes 5 (Got 9) ∷ Posts 5 ∷ Takes 2 (Got 3) ∷ Posts 2 ∷ Takes 7 (Got 6) ∷ Posts 7 ∷
    Takes 6 (Called commands.Commit) ∷ Posts 6 ∷ Takes 0 (Got 0) ∷ Posts 0 ∷ Takes 7 (Got 7) ∷ Posts 7 ∷
    Takes 5 (Got 11) ∷ Posts 5 ∷ Takes 1 (Got 13) ∷ Takes 0 (Got 12) ∷ Posts 0 ∷ Posts 1 ∷ Takes 7 (Got 10) ∷ Posts 7 ∷
    Takes 3 (Got 18) ∷ Posts 3 ∷ Takes 2 (Got 14) ∷ Posts 2 ∷ Takes 2 (Got 17) ∷ Posts 2 ∷ Takes 5 (Got 15) ∷ Posts 5 ∷
    Takes 4 (Got 19) ∷ Posts 4 ∷ Takes 5 (Got 16) ∷ Posts 5 ∷ Takes 7 (Got 20) ∷ Posts 7 ∷ Takes 5 (Got 21) ∷ Posts 5 ∷
    Takes 5 (Got 24) ∷ Posts 5 ∷ Takes 5 (Called commands.Commit) ∷ Posts 5 ∷ Takes 0 (Got 27) ∷ Posts 0 ∷
    Takes 1 (Got 28) ∷ Posts 1 ∷ Takes 2 (Got 26) ∷ Posts 2 ∷ Takes 2 (Got 29) ∷ Posts 2 ∷ Takes 7 (Got 22) ∷ Posts 7 ∷
    Takes 7 (Got 23) ∷ Posts 7 ∷ Takes 7 (Got 25) ∷ Posts 7 ∷ Takes 7 (Called commands.Commit) ∷ Posts 7 ∷
    Takes 2 (Got 30) ∷ Posts 2 ∷ Takes 2 (Got 31) ∷ Posts 2 ∷ Takes 3 (Got 32) ∷ Posts 3 ∷ Acts (Phase 2) ∷
    Takes 7 (Called commands.Begin) ∷ Posts 7 ∷ Takes 5 (Called commands.Begin) ∷ Posts 5 ∷ Takes 4 (Got 33) ∷ Posts 4 ∷
    Takes 7 (Called (commands.Do 0 1)) ∷ Posts 7 ∷ Takes 5 (Called (commands.Do 0 1)) ∷ Posts 5 ∷ Takes 3 (Got 35) ∷
    Posts 3 ∷ Takes 7 (Got 40) ∷ Posts 7 ∷ Takes 1 (Got 38) ∷ Posts 1 ∷ Takes 5 (Got 41) ∷ Posts 5 ∷ Takes 4 (Got 36) ∷
    Posts 4 ∷ Takes 7 (Got 42) ∷ Posts 7 ∷ Takes 2 (Got 34) ∷ Posts 2 ∷ Takes 0 (Got 37) ∷ Posts 0 ∷ Takes 5 (Got 44) ∷
    Posts 5 ∷ Takes 2 (Got 39) ∷ Takes 7 (Got 43) ∷ Posts 2 ∷ Posts 7 ∷ Takes 2 (Got 46) ∷ Posts 2 ∷ Takes 5 (Got 45) ∷
    Posts 5 ∷ Takes 1 (Got 52) ∷ Posts 1 ∷ Takes 3 (Got 47) ∷ Posts 3 ∷ Takes 5 (Got 50) ∷ Posts 5 ∷ Takes 0 (Got 51) ∷
    Takes 2 (Got 53) ∷ Posts 2 ∷ Takes 5 (Got 54) ∷ Posts 5 ∷ Takes 2 (Got 56) ∷ Posts 2 ∷ Posts 0 ∷ Takes 4 (Got 48) ∷
    Posts 4 ∷ Takes 5 (Got 57) ∷ Posts 5 ∷ Takes 5 (Got 59) ∷ Posts 5 ∷ Takes 7 (Got 49) ∷ Posts 7 ∷ Takes 7 (Got 55) ∷
    Posts 7 ∷ Takes 7 (Got 58) ∷ Posts 7 ∷ Takes 5 (Called (commands.Do 1 1)) ∷ Posts 5 ∷ Takes 7 (Got 60) ∷ Posts 7 ∷
    Takes 2 (Got 61) ∷ Posts 2 ∷ Takes 7 (Called (commands.Do 0 1)) ∷ Posts 7 ∷ Takes 7 (Called (commands.Do 0 1)) ∷
    Posts 7 ∷ Takes 7 (Called (commands.Do 0 1)) ∷ Posts 7 ∷ Takes 7 (Called commands.Commit) ∷ Posts 7 ∷
    Takes 3 (Got 63) ∷ Posts 3 ∷ Takes 2 (Got 62) ∷ Posts 2 ∷ Takes 4 (Got 64) ∷ Posts 4 ∷ []

abbrev pub history : List Entry
history =
    marked 9 (Phase 1) ∷ marked 5 (Called commands.Begin) ∷ marked 5 (Told (replies.Began (tx 0 1))) ∷
    marked 6 (Called commands.Begin) ∷ marked 6 (Told (replies.Began (tx 1 1))) ∷ marked 6 (Called (commands.Do 1 0)) ∷
    marked 6 (Told (replies.Response 1)) ∷ marked 5 (Called (commands.Do 0 1)) ∷
    marked 5 (Sent 0 0 (messages.Request (tx 0 1) 1 0 (wants.Read (first_read 0 1)))) ∷
    marked 5 (Sent 1 1 (messages.Request (tx 0 1) 1 0 (wants.Read (first_read 0 1)))) ∷
    marked 5 (Sent 2 2 (messages.Request (tx 0 1) 1 0 (wants.Read (first_read 0 1)))) ∷
    marked 7 (Called commands.Begin) ∷
    marked 7 (Told (replies.Began (tx 2 1))) ∷ marked 7 (Called (commands.Do 0 1)) ∷
    marked 7 (Sent 3 2 (messages.Request (tx 2 1) 1 0 (wants.Read (first_read 0 1)))) ∷
    marked 7 (Sent 4 3 (messages.Request (tx 2 1) 1 0 (wants.Read (first_read 0 1)))) ∷
    marked 7 (Sent 5 4 (messages.Request (tx 2 1) 1 0 (wants.Read (first_read 0 1)))) ∷ marked 4 (Got 5) ∷
    marked 4 (Sent 6 7 (messages.Answer 5 (answers.Granted (whole_grant 1 0 [])))) ∷ marked 3 (Got 4) ∷
    marked 3 (Sent 7 7 (messages.Answer 4 (answers.Granted (whole_grant 1 0 [])))) ∷ marked 2 (Got 2) ∷
    marked 2 (Sent 8 5 (messages.Answer 2 (answers.Granted (whole_grant 1 0 [])))) ∷ marked 5 (Got 8) ∷ marked 1 (Got 1)
    ∷
    marked 1 (Sent 9 5 (messages.Answer 1 (answers.Granted (whole_grant 1 0 [])))) ∷ marked 5 (Got 9) ∷ marked 2 (Got 3)
    ∷
    marked 2 (Sent 10 7 (messages.Answer 3 (answers.Granted (whole_grant 1 0 [])))) ∷ marked 7 (Got 6) ∷
    marked 6 (Called commands.Commit) ∷ marked 6 (Wrote (commit (stamp 1 1) (tx 1 1) (operation 1 0 (Some 1) ∷ []))) ∷
    marked 6 (Told (replies.Committed (stamp 1 1))) ∷ marked 0 (Got 0) ∷
    marked 0 (Sent 11 5 (messages.Answer 0 (answers.Granted (whole_grant 1 0 [])))) ∷ marked 7 (Got 7)
    ∷ marked 5 (Got 11) ∷
    marked 5 (Sent 12 0 (messages.Request (tx 0 1) 1 1 (wants.Append 0 [] (own_line 1 0 2 ∷ [])))) ∷
    marked 5 (Sent 13 1 (messages.Request (tx 0 1) 1 1 (wants.Append 0 [] (own_line 1 0 2 ∷ [])))) ∷
    marked 5 (Sent 14 2 (messages.Request (tx 0 1) 1 1 (wants.Append 0 [] (own_line 1 0 2 ∷ [])))) ∷ marked 1 (Got 13) ∷
    marked 0 (Got 12) ∷ marked 0 (Sent 15 5 (messages.Answer 12 (answers.Granted (whole_grant 1 0 [])))) ∷
    marked 1 (Sent 16 5 (messages.Answer 13 (answers.Granted (whole_grant 1 0 [])))) ∷ marked 7 (Got 10) ∷
    marked 7 (Sent 17 2 (messages.Request (tx 2 1) 1 1 (wants.Append 0 [] (own_line 1 0 2 ∷ [])))) ∷
    marked 7 (Sent 18 3 (messages.Request (tx 2 1) 1 1 (wants.Append 0 [] (own_line 1 0 2 ∷ [])))) ∷
    marked 7 (Sent 19 4 (messages.Request (tx 2 1) 1 1 (wants.Append 0 [] (own_line 1 0 2 ∷ [])))) ∷ marked 3 (Got 18) ∷
    marked 3 (Sent 20 7 (messages.Answer 18 (answers.Granted (whole_grant 1 0 [])))) ∷ marked 2 (Got 14) ∷
    marked 2 (Sent 21 5 (messages.Answer 14 (answers.Clash (tx 2 1) 1 2))) ∷
    marked 2 (Sent 22 7 (messages.Inquiry (tx 2 1))) ∷ marked 2 (Got 17) ∷
    marked 2 (Sent 23 7 (messages.Answer 17 (answers.Clash (tx 0 1) 1 2))) ∷
    marked 2 (Sent 24 5 (messages.Inquiry (tx 0 1))) ∷ marked 5 (Got 15) ∷ marked 4 (Got 19) ∷
    marked 4 (Sent 25 7 (messages.Answer 19 (answers.Granted (whole_grant 1 0 [])))) ∷ marked 5 (Got 16)
    ∷ marked 7 (Got 20) ∷
    marked 5 (Got 21) ∷ marked 5 (Told (replies.Conflict (tx 2 1) 2)) ∷ marked 5 (Got 24) ∷
    marked 5 (Sent 26 2 (messages.Decision (tx 0 1) outcomes.Active)) ∷ marked 5 (Called commands.Commit) ∷
    marked 5 (Sent 27 0 (messages.Decision (tx 0 1) outcomes.Aborted)) ∷
    marked 5 (Sent 28 1 (messages.Decision (tx 0 1) outcomes.Aborted)) ∷
    marked 5 (Sent 29 2 (messages.Decision (tx 0 1) outcomes.Aborted)) ∷
    marked 5 (Told (replies.Aborted causes.Doomed)) ∷ marked 0 (Got 27) ∷ marked 1 (Got 28) ∷ marked 2 (Got 26) ∷
    marked 2 (Got 29) ∷ marked 7 (Got 22) ∷ marked 7 (Sent 30 2 (messages.Decision (tx 2 1) outcomes.Active)) ∷
    marked 7 (Got 23) ∷ marked 7 (Got 25) ∷ marked 7 (Told (replies.Conflict (tx 0 1) 2)) ∷
    marked 7 (Called commands.Commit) ∷ marked 7 (Sent 31 2 (messages.Decision (tx 2 1) outcomes.Aborted)) ∷
    marked 7 (Sent 32 3 (messages.Decision (tx 2 1) outcomes.Aborted)) ∷
    marked 7 (Sent 33 4 (messages.Decision (tx 2 1) outcomes.Aborted)) ∷
    marked 7 (Told (replies.Aborted causes.Doomed)) ∷ marked 2 (Got 30) ∷ marked 2 (Got 31) ∷ marked 3 (Got 32) ∷
    marked 9 (Phase 2) ∷ marked 7 (Called commands.Begin) ∷ marked 7 (Told (replies.Began (tx 2 2))) ∷
    marked 5 (Called commands.Begin) ∷ marked 5 (Told (replies.Began (tx 0 2))) ∷ marked 4 (Got 33) ∷
    marked 7 (Called (commands.Do 0 1))
    ∷ marked 7 (Sent 34 2 (messages.Request (tx 2 2) 1 0 (wants.Read (first_read 0 1)))) ∷
    marked 7 (Sent 35 3 (messages.Request (tx 2 2) 1 0 (wants.Read (first_read 0 1)))) ∷
    marked 7 (Sent 36 4 (messages.Request (tx 2 2) 1 0 (wants.Read (first_read 0 1))))
    ∷ marked 5 (Called (commands.Do 0 1)) ∷
    marked 5 (Sent 37 0 (messages.Request (tx 0 2) 1 0 (wants.Read (first_read 0 1)))) ∷
    marked 5 (Sent 38 1 (messages.Request (tx 0 2) 1 0 (wants.Read (first_read 0 1)))) ∷
    marked 5 (Sent 39 2 (messages.Request (tx 0 2) 1 0 (wants.Read (first_read 0 1)))) ∷ marked 3 (Got 35) ∷
    marked 3 (Sent 40 7 (messages.Answer 35 (answers.Granted (whole_grant 1 0 [])))) ∷ marked 7 (Got 40)
    ∷ marked 1 (Got 38) ∷
    marked 1 (Sent 41 5 (messages.Answer 38 (answers.Granted (whole_grant 1 0 [])))) ∷ marked 5 (Got 41)
    ∷ marked 4 (Got 36) ∷
    marked 4 (Sent 42 7 (messages.Answer 36 (answers.Granted (whole_grant 1 0 [])))) ∷ marked 7 (Got 42)
    ∷ marked 2 (Got 34) ∷
    marked 2 (Sent 43 7 (messages.Answer 34 (answers.Granted (whole_grant 1 0 [])))) ∷ marked 0 (Got 37) ∷
    marked 0 (Sent 44 5 (messages.Answer 37 (answers.Granted (whole_grant 1 0 [])))) ∷ marked 5 (Got 44)
    ∷ marked 2 (Got 39) ∷
    marked 7 (Got 43) ∷ marked 2 (Sent 45 5 (messages.Answer 39 (answers.Granted (whole_grant 1 0 [])))) ∷
    marked 7 (Sent 46 2 (messages.Request (tx 2 2) 1 1 (wants.Append 0 [] (own_line 1 0 2 ∷ [])))) ∷
    marked 7 (Sent 47 3 (messages.Request (tx 2 2) 1 1 (wants.Append 0 [] (own_line 1 0 2 ∷ [])))) ∷
    marked 7 (Sent 48 4 (messages.Request (tx 2 2) 1 1 (wants.Append 0 [] (own_line 1 0 2 ∷ [])))) ∷ marked 2 (Got 46) ∷
    marked 2 (Sent 49 7 (messages.Answer 46 (answers.Clash (tx 0 2) 1 2))) ∷
    marked 2 (Sent 50 5 (messages.Inquiry (tx 0 2))) ∷ marked 5 (Got 45) ∷
    marked 5 (Sent 51 0 (messages.Request (tx 0 2) 1 1 (wants.Append 0 [] (own_line 1 0 2 ∷ [])))) ∷
    marked 5 (Sent 52 1 (messages.Request (tx 0 2) 1 1 (wants.Append 0 [] (own_line 1 0 2 ∷ [])))) ∷
    marked 5 (Sent 53 2 (messages.Request (tx 0 2) 1 1 (wants.Append 0 [] (own_line 1 0 2 ∷ [])))) ∷ marked 1 (Got 52) ∷
    marked 1 (Sent 54 5 (messages.Answer 52 (answers.Granted (whole_grant 1 0 [])))) ∷ marked 3 (Got 47) ∷
    marked 3 (Sent 55 7 (messages.Answer 47 (answers.Granted (whole_grant 1 0 [])))) ∷ marked 5 (Got 50) ∷
    marked 5 (Sent 56 2 (messages.Decision (tx 0 2) outcomes.Active)) ∷ marked 0 (Got 51) ∷ marked 2 (Got 53) ∷
    marked 2 (Sent 57 5 (messages.Answer 53 (answers.Clash (tx 2 2) 1 2))) ∷
    marked 2 (Sent 58 7 (messages.Inquiry (tx 2 2))) ∷ marked 5 (Got 54) ∷ marked 2 (Got 56) ∷
    marked 0 (Sent 59 5 (messages.Answer 51 (answers.Granted (whole_grant 1 0 [])))) ∷ marked 4 (Got 48) ∷
    marked 4 (Sent 60 7 (messages.Answer 48 (answers.Granted (whole_grant 1 0 [])))) ∷ marked 5 (Got 57)
    ∷ marked 5 (Got 59) ∷
    marked 5 (Told (replies.Conflict (tx 2 2) 2)) ∷ marked 7 (Got 49) ∷ marked 7 (Got 55) ∷ marked 7 (Got 58) ∷
    marked 7 (Sent 61 2 (messages.Decision (tx 2 2) outcomes.Active)) ∷ marked 5 (Called (commands.Do 1 1)) ∷
    marked 5 (Told replies.Doomed) ∷ marked 7 (Got 60) ∷ marked 7 (Told (replies.Conflict (tx 0 2) 2)) ∷
    marked 2 (Got 61) ∷ marked 7 (Called (commands.Do 0 1)) ∷ marked 7 (Told replies.Doomed) ∷
    marked 7 (Called (commands.Do 0 1)) ∷ marked 7 (Told replies.Doomed) ∷ marked 7 (Called (commands.Do 0 1)) ∷
    marked 7 (Told replies.Doomed) ∷ marked 7 (Called commands.Commit) ∷
    marked 7 (Sent 62 2 (messages.Decision (tx 2 2) outcomes.Aborted)) ∷
    marked 7 (Sent 63 3 (messages.Decision (tx 2 2) outcomes.Aborted)) ∷
    marked 7 (Sent 64 4 (messages.Decision (tx 2 2) outcomes.Aborted)) ∷
    marked 7 (Told (replies.Aborted causes.Doomed)) ∷ marked 3 (Got 63) ∷ marked 2 (Got 62) ∷ marked 4 (Got 64) ∷ []
