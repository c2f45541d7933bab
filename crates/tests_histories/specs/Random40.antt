-- Random: sites 3, clients 3, steps 323, messages 110, cuts 1, commits 3, aborts 2, conflicts 4.
use Rattle.std.specs.Prelude.{List, [], ◌∷◌, Some}
use Rattle.qc_decl.specs.declared.declaration.Declaration.{Declaration}
use Rattle.qc_decl.specs.Vocabulary.{row}
use Rattle.qc_msg.specs.Vocabulary.{Entry, marked}
use Rattle.tests_histories.specs.Play.{Move, Takes, Posts, Acts}
use Rattle.tests_histories.specs.Words.{tx, stamp, line, own_line, operation, read_lock, prepare, commit, declaration}
use Rattle.tests_histories.specs.Words.{kind, pair, plan}
use Rattle.qc_msg.specs.declared.step.Step.TheVariants.{Phase, Cut, Heal, Called, Got, Wrote, Sent, Told}
use Rattle.qc_msg.specs.declared.message.Answer.TheVariants as answers
use Rattle.qc_msg.specs.declared.reply.AbortCause.TheVariants as causes
use Rattle.qc_msg.specs.declared.step.Command.TheVariants as commands
use Rattle.qc_msg.specs.declared.message.Message.TheVariants as messages
use Rattle.qc_msg.specs.declared.message.Outcome.TheVariants as outcomes
use Rattle.qc_msg.specs.declared.record.Record.TheVariants as records
use Rattle.qc_msg.specs.declared.reply.Reply.TheVariants as replies
use Rattle.qc_msg.specs.declared.message.Want.TheVariants as wants
use Rattle.qc_msg.specs.Vocabulary.{whole_grant, first_read}

abbrev pub decl : Declaration
decl =
    declaration 3 3 (kind 3 3 3 0 (row 0 0 0 1 ∷ row 0 0 1 2 ∷ row 1 1 0 1 ∷ row 2 1 1 2 ∷ row 1 2 2 0 ∷ row 2 2 2 0 ∷
    row 0 2 2 0 ∷ []) (pair 0 0 ∷ pair 0 1 ∷ pair 0 4 ∷ pair 1 0 ∷ pair 1 1 ∷ pair 1 4 ∷ []) ∷ kind 2 3 3 0 (row 0 0 0 0
    ∷ row 1 0 1 1 ∷ row 0 1 2 0 ∷ row 1 1 2 0 ∷ row 0 2 2 1 ∷ row 1 2 2 1 ∷ []) (pair 0 2 ∷ pair 0 3 ∷ pair 1 0 ∷ []) ∷
    []) (1 ∷ 1 ∷ []) (plan (2 ∷ 2 ∷ 1 ∷ []) ((3 ∷ 3 ∷ 0 ∷ []) ∷ (1 ∷ 2 ∷ 0 ∷ []) ∷ []) ((3 ∷ 4 ∷ 3 ∷ 3 ∷ []) ∷ (4 ∷ 0 ∷
    5 ∷ 5 ∷ []) ∷ []) ∷ [])

abbrev pub moves : List Move
moves =
    Acts (Phase 1) ∷ Takes 5 (Called commands.Begin) ∷ Posts 5 ∷ Takes 5 (Called (commands.Do 1 1)) ∷
    Takes 3 (Called commands.Begin) ∷ Posts 5 ∷ Takes 2 (Got 0) ∷ Posts 2 ∷ Takes 0 (Got 1) ∷ Posts 3 ∷ Posts 0 ∷
    Takes 3 (Called (commands.Do 1 0)) ∷ Takes 5 (Got 2) ∷ Posts 5 ∷ Posts 3 ∷ Takes 0 (Got 4) ∷ Takes 5 (Got 3) ∷
    Posts 0 ∷ Posts 5 ∷ Takes 3 (Got 5) ∷ Takes 1 (Got 8) ∷ Takes 2 (Got 6) ∷ Posts 1 ∷ Posts 3 ∷ Posts 2 ∷
    Takes 5 (Got 9) ∷ Posts 5 ∷ Takes 5 (Got 12) ∷ Posts 5 ∷ Takes 0 (Got 7) ∷ Posts 0 ∷ Takes 1 (Got 8) ∷
    Takes 3 (Got 14) ∷ Posts 3 ∷ Takes 5 (Got 13) ∷ Posts 1 ∷ Posts 5 ∷ Takes 5 (Got 16) ∷ Posts 5 ∷ Takes 0 (Got 10) ∷
    Takes 1 (Got 11) ∷ Posts 0 ∷ Posts 1 ∷ Takes 0 (Got 15) ∷ Posts 0 ∷ Takes 1 (Got 11) ∷ Takes 3 (Got 17) ∷ Posts 3 ∷
    Takes 3 (Got 19) ∷ Takes 5 (Got 18) ∷ Posts 3 ∷ Posts 5 ∷ Takes 5 (Called (commands.Do 0 2)) ∷ Posts 5 ∷
    Takes 0 (Got 20) ∷ Posts 0 ∷ Posts 1 ∷ Takes 5 (Called (commands.Do 0 0)) ∷ Takes 3 (Got 21) ∷ Posts 3 ∷ Posts 5 ∷
    Takes 5 (Called commands.Commit) ∷ Posts 5 ∷ Takes 2 (Got 24) ∷ Posts 2 ∷ Takes 1 (Got 23) ∷ Posts 1 ∷
    Takes 5 (Called commands.Begin) ∷ Posts 5 ∷ Takes 0 (Got 22) ∷ Posts 0 ∷ Takes 5 (Called (commands.Do 1 2)) ∷
    Posts 5 ∷ Takes 2 (Got 25) ∷ Takes 1 (Got 27) ∷ Posts 1 ∷ Posts 2 ∷ Takes 0 (Got 26) ∷ Takes 5 (Got 28) ∷ Posts 5 ∷
    Posts 0 ∷ Takes 3 (Got 31) ∷ Takes 5 (Got 29) ∷ Posts 5 ∷ Posts 3 ∷ Takes 0 (Got 32) ∷ Posts 0 ∷ Takes 5 (Got 30) ∷
    Posts 5 ∷ Takes 5 (Called (commands.Do 1 1)) ∷ Posts 5 ∷ Takes 5 (Called (commands.Do 1 0)) ∷ Posts 5 ∷
    Takes 5 (Called commands.Commit) ∷ Posts 5 ∷ Takes 0 (Got 33) ∷ Posts 0 ∷ Takes 2 (Got 35) ∷ Posts 2 ∷
    Takes 1 (Got 34) ∷ Posts 1 ∷ Acts (Phase 2) ∷ Takes 5 (Called commands.Begin) ∷ Posts 5 ∷
    Takes 5 (Called (commands.Do 0 0)) ∷ Posts 5 ∷ Takes 2 (Got 36) ∷ Takes 0 (Got 37) ∷ Posts 0 ∷ Takes 5 (Got 38) ∷
    Posts 5 ∷ Posts 2 ∷ Takes 5 (Got 39) ∷ Posts 5 ∷ Takes 2 (Got 40) ∷ Takes 0 (Got 41) ∷ Posts 0 ∷ Posts 2 ∷
    Takes 5 (Got 42) ∷ Posts 5 ∷ Takes 5 (Got 43) ∷ Posts 5 ∷ Takes 5 (Called (commands.Do 0 2)) ∷ Posts 5 ∷
    Takes 0 (Got 45) ∷ Takes 2 (Got 44) ∷ Posts 2 ∷ Posts 0 ∷ Takes 5 (Got 46) ∷ Posts 5 ∷ Takes 5 (Got 47) ∷ Posts 5 ∷
    Takes 5 (Called commands.Commit) ∷ Posts 5 ∷ Takes 0 (Got 49) ∷ Posts 0 ∷ Takes 5 (Got 50) ∷ Posts 5 ∷
    Takes 2 (Got 48) ∷ Posts 2 ∷ Takes 5 (Got 51) ∷ Posts 5 ∷ Takes 0 (Got 52) ∷ Posts 0 ∷ Takes 2 (Got 53) ∷ Posts 2 ∷
    Acts (Phase 3) ∷ Acts (Cut 0 3) ∷ Takes 2 (Got 44) ∷ Takes 3 (Called (commands.Do 0 0)) ∷ Takes 0 (Got 41) ∷
    Takes 5 (Got 50) ∷ Posts 5 ∷ Posts 2 ∷ Posts 3 ∷ Takes 3 (Called (commands.Do 0 0)) ∷ Posts 3 ∷
    Takes 4 (Called commands.Begin) ∷ Takes 3 (Called (commands.Do 0 2)) ∷ Posts 4 ∷ Posts 3 ∷ Posts 0 ∷
    Takes 4 (Called (commands.Do 0 0)) ∷ Posts 4 ∷ Takes 1 (Got 56) ∷ Takes 5 (Got 54) ∷ Posts 5 ∷ Takes 2 (Got 57) ∷
    Posts 1 ∷ Posts 2 ∷ Takes 5 (Got 55) ∷ Posts 5 ∷ Takes 4 (Got 58) ∷ Posts 4 ∷ Takes 1 (Got 56) ∷ Takes 4 (Got 59) ∷
    Posts 1 ∷ Takes 5 (Got 60) ∷ Posts 4 ∷ Posts 5 ∷ Takes 2 (Got 62) ∷ Posts 2 ∷ Takes 5 (Called (commands.Do 1 2)) ∷
    Posts 5 ∷ Takes 5 (Called (commands.Do 1 0)) ∷ Takes 4 (Got 61) ∷ Posts 4 ∷ Posts 5 ∷
    Takes 5 (Called commands.Commit) ∷ Posts 5 ∷ Acts (Phase 4) ∷ Acts (Heal 0 3) ∷ Takes 5 (Got 54) ∷ Posts 5 ∷
    Takes 4 (Called (commands.Do 0 0)) ∷ Posts 4 ∷ Takes 1 (Got 63) ∷ Posts 1 ∷ Takes 4 (Got 65) ∷ Posts 4 ∷
    Takes 2 (Got 64) ∷ Posts 2 ∷ Takes 4 (Got 66) ∷ Posts 4 ∷ Takes 1 (Got 67) ∷ Takes 0 (Got 69) ∷ Posts 1 ∷ Posts 0 ∷
    Takes 4 (Got 70) ∷ Posts 4 ∷ Takes 2 (Got 68) ∷ Takes 4 (Got 71) ∷ Posts 4 ∷ Posts 2 ∷ Takes 4 (Got 72) ∷ Posts 4 ∷
    Takes 4 (Called commands.Commit) ∷ Posts 4 ∷ Takes 0 (Got 75) ∷ Posts 0 ∷ Takes 2 (Got 74) ∷ Posts 2 ∷
    Takes 1 (Got 73) ∷ Takes 4 (Got 76) ∷ Posts 4 ∷ Posts 1 ∷ Takes 4 (Got 77) ∷ Posts 4 ∷ Takes 4 (Got 78) ∷ Posts 4 ∷
    Takes 4 (Called commands.Begin) ∷ Takes 2 (Got 81) ∷ Posts 4 ∷ Takes 4 (Called (commands.Do 0 2)) ∷
    Takes 1 (Got 80) ∷ Posts 1 ∷ Posts 2 ∷ Posts 4 ∷ Takes 1 (Got 82) ∷ Takes 2 (Got 83) ∷ Takes 0 (Got 79) ∷ Posts 1 ∷
    Posts 0 ∷ Takes 4 (Got 84) ∷ Posts 4 ∷ Posts 2 ∷ Takes 4 (Got 85) ∷ Posts 4 ∷ Takes 4 (Called commands.Abort) ∷
    Posts 4 ∷ Takes 2 (Got 87) ∷ Posts 2 ∷ Takes 1 (Got 86) ∷ Posts 1 ∷ Acts (Phase 5) ∷
    Takes 4 (Called commands.Begin) ∷ Takes 3 (Called (commands.Do 1 0)) ∷ Posts 4 ∷ Posts 3 ∷
    Takes 3 (Called (commands.Do 0 0)) ∷ Takes 4 (Called (commands.Do 0 2)) ∷ Posts 3 ∷ Posts 4 ∷ Takes 1 (Got 88) ∷
    Posts 1 ∷ Takes 4 (Got 90) ∷ Posts 4 ∷ Takes 2 (Got 89) ∷ Posts 2 ∷ Takes 4 (Got 91) ∷ Posts 4 ∷
    Takes 4 (Called (commands.Do 0 2)) ∷ Posts 4 ∷ Takes 2 (Got 93) ∷ Posts 2 ∷ Takes 1 (Got 92) ∷ Posts 1 ∷
    Takes 4 (Got 94) ∷ Posts 4 ∷ Takes 4 (Got 95) ∷ Posts 4 ∷ Takes 4 (Called (commands.Do 0 1)) ∷ Posts 4 ∷
    Takes 2 (Got 97) ∷ Takes 1 (Got 96) ∷ Posts 1 ∷ Takes 4 (Got 98) ∷ Posts 4 ∷ Posts 2 ∷ Takes 4 (Got 99) ∷ Posts 4 ∷
    Takes 1 (Got 100) ∷ Takes 2 (Got 101) ∷ Posts 2 ∷ Posts 1 ∷ Takes 4 (Got 102) ∷ Posts 4 ∷ Takes 4 (Got 103) ∷
    Posts 4 ∷ Takes 4 (Called commands.Commit) ∷ Posts 4 ∷ Takes 2 (Got 105) ∷ Posts 2 ∷ Takes 1 (Got 104) ∷ Posts 1 ∷
    Takes 4 (Got 106) ∷ Posts 4 ∷ Takes 4 (Got 107) ∷ Posts 4 ∷ Takes 2 (Got 109) ∷ Takes 1 (Got 108) ∷ Posts 1 ∷
    Posts 2 ∷ []

abbrev pub history : List Entry
history =
    marked 7 (Phase 1) ∷ marked 5 (Called commands.Begin) ∷ marked 5 (Told (replies.Began (tx 2 1))) ∷
    marked 5 (Called (commands.Do 1 1)) ∷ marked 3 (Called commands.Begin) ∷
    marked 5 (Sent 0 2 (messages.Request (tx 2 1) 1 0 (wants.Read (first_read 1 1)))) ∷
    marked 5 (Sent 1 0 (messages.Request (tx 2 1) 1 0 (wants.Read (first_read 1 1)))) ∷ marked 2 (Got 0) ∷
    marked 2 (Sent 2 5 (messages.Answer 0 (answers.Granted (whole_grant 1 0 [])))) ∷ marked 0 (Got 1) ∷
    marked 3 (Told (replies.Began (tx 0 1)))
    ∷ marked 0 (Sent 3 5 (messages.Answer 1 (answers.Granted (whole_grant 1 0 [])))) ∷
    marked 3 (Called (commands.Do 1 0)) ∷ marked 5 (Got 2) ∷
    marked 3 (Sent 4 0 (messages.Request (tx 0 1) 1 0 (wants.Read (first_read 1 0)))) ∷ marked 0 (Got 4) ∷
    marked 5 (Got 3)
    ∷
    marked 0 (Sent 5 3 (messages.Answer 4 (answers.Granted (whole_grant 1 0 [])))) ∷
    marked 5 (Sent 6 2 (messages.Request (tx 2 1) 1 1 (wants.Append 1 [] (own_line 1 1 2 ∷ [])))) ∷
    marked 5 (Sent 7 0 (messages.Request (tx 2 1) 1 1 (wants.Append 1 [] (own_line 1 1 2 ∷ [])))) ∷
    marked 5 (Sent 8 1 (messages.Request (tx 2 1) 1 0 (wants.Append 1 [] (own_line 1 1 2 ∷ [])))) ∷ marked 3 (Got 5) ∷
    marked 1 (Got 8) ∷ marked 2 (Got 6) ∷ marked 1 (Sent 9 5 (messages.Answer 8 (answers.Granted (whole_grant 1 0 []))))
    ∷
    marked 3 (Sent 10 0 (messages.Request (tx 0 1) 1 1 (wants.Append 1 [] (own_line 1 1 0 ∷ [])))) ∷
    marked 3 (Sent 11 1 (messages.Request (tx 0 1) 1 0 (wants.Append 1 [] (own_line 1 1 0 ∷ [])))) ∷
    marked 2 (Sent 12 5 (messages.Answer 6 (answers.Granted (whole_grant 1 0 [])))) ∷ marked 5 (Got 9)
    ∷ marked 5 (Got 12) ∷
    marked 0 (Got 7) ∷ marked 0 (Sent 13 5 (messages.Answer 7 (answers.Clash (tx 0 1) 0 2))) ∷
    marked 0 (Sent 14 3 (messages.Inquiry (tx 0 1))) ∷ marked 1 (Got 8) ∷ marked 3 (Got 14) ∷
    marked 3 (Sent 15 0 (messages.Decision (tx 0 1) outcomes.Active)) ∷ marked 5 (Got 13) ∷
    marked 1 (Sent 16 5 (messages.Answer 8 (answers.Granted (whole_grant 1 0 []))))
    ∷ marked 5 (Told (replies.Conflict (tx 0 1) 0)) ∷
    marked 5 (Got 16) ∷ marked 0 (Got 10) ∷ marked 1 (Got 11) ∷
    marked 0 (Sent 17 3 (messages.Answer 10 (answers.Clash (tx 2 1) 1 0))) ∷
    marked 0 (Sent 18 5 (messages.Inquiry (tx 2 1))) ∷
    marked 1 (Sent 19 3 (messages.Answer 11 (answers.Granted (whole_grant 1 0 [])))) ∷ marked 0 (Got 15)
    ∷ marked 1 (Got 11) ∷
    marked 3 (Got 17) ∷ marked 3 (Got 19) ∷ marked 5 (Got 18) ∷ marked 3 (Told (replies.Conflict (tx 2 1) 0)) ∷
    marked 5 (Sent 20 0 (messages.Decision (tx 2 1) outcomes.Active)) ∷ marked 5 (Called (commands.Do 0 2)) ∷
    marked 5 (Told replies.Doomed) ∷ marked 0 (Got 20) ∷
    marked 1 (Sent 21 3 (messages.Answer 11 (answers.Granted (whole_grant 1 0 []))))
    ∷ marked 5 (Called (commands.Do 0 0)) ∷
    marked 3 (Got 21) ∷ marked 5 (Told replies.Doomed) ∷ marked 5 (Called commands.Commit) ∷
    marked 5 (Sent 22 0 (messages.Decision (tx 2 1) outcomes.Aborted)) ∷
    marked 5 (Sent 23 1 (messages.Decision (tx 2 1) outcomes.Aborted)) ∷
    marked 5 (Sent 24 2 (messages.Decision (tx 2 1) outcomes.Aborted)) ∷
    marked 5 (Told (replies.Aborted causes.Doomed)) ∷ marked 2 (Got 24) ∷ marked 1 (Got 23) ∷
    marked 5 (Called commands.Begin) ∷ marked 5 (Told (replies.Began (tx 2 2))) ∷ marked 0 (Got 22) ∷
    marked 5 (Called (commands.Do 1 2)) ∷
    marked 5 (Sent 25 2 (messages.Request (tx 2 2) 1 0 (wants.Append 1 [] (own_line 1 1 3 ∷ [])))) ∷
    marked 5 (Sent 26 0 (messages.Request (tx 2 2) 1 0 (wants.Append 1 [] (own_line 1 1 3 ∷ [])))) ∷
    marked 5 (Sent 27 1 (messages.Request (tx 2 2) 1 0 (wants.Append 1 [] (own_line 1 1 3 ∷ [])))) ∷ marked 2 (Got 25) ∷
    marked 1 (Got 27) ∷ marked 1 (Sent 28 5 (messages.Answer 27 (answers.Granted (whole_grant 1 0 [])))) ∷
    marked 2 (Sent 29 5 (messages.Answer 25 (answers.Granted (whole_grant 1 0 [])))) ∷ marked 0 (Got 26)
    ∷ marked 5 (Got 28) ∷
    marked 0 (Sent 30 5 (messages.Answer 26 (answers.Clash (tx 0 1) 0 3))) ∷
    marked 0 (Sent 31 3 (messages.Inquiry (tx 0 1))) ∷ marked 3 (Got 31) ∷ marked 5 (Got 29) ∷
    marked 3 (Sent 32 0 (messages.Decision (tx 0 1) outcomes.Active)) ∷ marked 0 (Got 32) ∷ marked 5 (Got 30) ∷
    marked 5 (Told (replies.Conflict (tx 0 1) 0)) ∷ marked 5 (Called (commands.Do 1 1)) ∷
    marked 5 (Told replies.Doomed) ∷ marked 5 (Called (commands.Do 1 0)) ∷ marked 5 (Told replies.Doomed) ∷
    marked 5 (Called commands.Commit) ∷ marked 5 (Sent 33 0 (messages.Decision (tx 2 2) outcomes.Aborted)) ∷
    marked 5 (Sent 34 1 (messages.Decision (tx 2 2) outcomes.Aborted)) ∷
    marked 5 (Sent 35 2 (messages.Decision (tx 2 2) outcomes.Aborted)) ∷
    marked 5 (Told (replies.Aborted causes.Doomed)) ∷ marked 0 (Got 33) ∷ marked 2 (Got 35) ∷ marked 1 (Got 34) ∷
    marked 7 (Phase 2) ∷ marked 5 (Called commands.Begin) ∷ marked 5 (Told (replies.Began (tx 2 3))) ∷
    marked 5 (Called (commands.Do 0 0))
    ∷ marked 5 (Sent 36 2 (messages.Request (tx 2 3) 1 0 (wants.Read (first_read 0 0)))) ∷
    marked 5 (Sent 37 0 (messages.Request (tx 2 3) 1 0 (wants.Read (first_read 0 0)))) ∷ marked 2 (Got 36)
    ∷ marked 0 (Got 37) ∷
    marked 0 (Sent 38 5 (messages.Answer 37 (answers.Granted (whole_grant 1 0 [])))) ∷ marked 5 (Got 38) ∷
    marked 2 (Sent 39 5 (messages.Answer 36 (answers.Granted (whole_grant 1 0 [])))) ∷ marked 5 (Got 39) ∷
    marked 5 (Sent 40 2 (messages.Request (tx 2 3) 1 1 (wants.Append 0 [] (own_line 1 0 0 ∷ [])))) ∷
    marked 5 (Sent 41 0 (messages.Request (tx 2 3) 1 1 (wants.Append 0 [] (own_line 1 0 0 ∷ [])))) ∷ marked 2 (Got 40) ∷
    marked 0 (Got 41) ∷ marked 0 (Sent 42 5 (messages.Answer 41 (answers.Granted (whole_grant 1 0 [])))) ∷
    marked 2 (Sent 43 5 (messages.Answer 40 (answers.Granted (whole_grant 1 0 [])))) ∷ marked 5 (Got 42)
    ∷ marked 5 (Got 43) ∷
    marked 5 (Told (replies.Response 0)) ∷ marked 5 (Called (commands.Do 0 2)) ∷
    marked 5 (Sent 44 2 (messages.Request (tx 2 3) 1 1 (wants.Append 0 [] (own_line 1 0 0 ∷ own_line 2 0 3 ∷ [])))) ∷
    marked 5 (Sent 45 0 (messages.Request (tx 2 3) 1 1 (wants.Append 0 [] (own_line 1 0 0 ∷ own_line 2 0 3 ∷ [])))) ∷
    marked 0 (Got 45) ∷ marked 2 (Got 44)
    ∷ marked 2 (Sent 46 5 (messages.Answer 44 (answers.Granted (whole_grant 1 0 [])))) ∷
    marked 0 (Sent 47 5 (messages.Answer 45 (answers.Granted (whole_grant 1 0 [])))) ∷ marked 5 (Got 46)
    ∷ marked 5 (Got 47) ∷
    marked 5 (Told (replies.Response 2)) ∷ marked 5 (Called commands.Commit) ∷
    marked 5 (Sent 48 2 (messages.Request (tx 2 3) 1 1 wants.Prepare)) ∷
    marked 5 (Sent 49 0 (messages.Request (tx 2 3) 1 1 wants.Prepare)) ∷ marked 0 (Got 49) ∷
    marked 0 (Wrote (prepare (tx 2 3) 1 (read_lock 0 0 ∷ []) (own_line 1 0 0 ∷ own_line 2 0 3 ∷ []) [])) ∷
    marked 0 (Sent 50 5 (messages.Answer 49 (answers.Yes 0))) ∷ marked 5 (Got 50) ∷ marked 2 (Got 48) ∷
    marked 2 (Wrote (prepare (tx 2 3) 1 (read_lock 0 0 ∷ []) (own_line 1 0 0 ∷ own_line 2 0 3 ∷ []) [])) ∷
    marked 2 (Sent 51 5 (messages.Answer 48 (answers.Yes 0))) ∷ marked 5 (Got 51) ∷
    marked 5 (Wrote (commit (stamp 1 2) (tx 2 3) (operation 0 0 (Some 0) ∷ operation 0 2 (Some 2) ∷ []))) ∷
    marked 5 (Sent 52 0 (messages.Decision (tx 2 3) (outcomes.Committed (stamp 1 2)))) ∷
    marked 5 (Sent 53 2 (messages.Decision (tx 2 3) (outcomes.Committed (stamp 1 2)))) ∷
    marked 5 (Told (replies.Committed (stamp 1 2))) ∷ marked 0 (Got 52) ∷ marked 0 (Wrote (records.Done (tx 2 3) 1)) ∷
    marked 2 (Got 53) ∷ marked 2 (Wrote (records.Done (tx 2 3) 1)) ∷ marked 7 (Phase 3) ∷ marked 7 (Cut 0 3) ∷
    marked 2 (Got 44) ∷ marked 3 (Called (commands.Do 0 0)) ∷ marked 0 (Got 41) ∷ marked 5 (Got 50) ∷
    marked 2 (Sent 54 5 (messages.Answer 44 (answers.Granted (whole_grant 1 1 [])))) ∷ marked 3 (Told replies.Doomed) ∷
    marked 3 (Called (commands.Do 0 0)) ∷ marked 3 (Told replies.Doomed) ∷ marked 4 (Called commands.Begin) ∷
    marked 3 (Called (commands.Do 0 2)) ∷ marked 4 (Told (replies.Began (tx 1 1))) ∷ marked 3 (Told replies.Doomed) ∷
    marked 0 (Sent 55 5 (messages.Answer 41 (answers.Granted (whole_grant 1 1 []))))
    ∷ marked 4 (Called (commands.Do 0 0)) ∷
    marked 4 (Sent 56 1 (messages.Request (tx 1 1) 1 0 (wants.Read (first_read 0 0)))) ∷
    marked 4 (Sent 57 2 (messages.Request (tx 1 1) 1 0 (wants.Read (first_read 0 0)))) ∷ marked 1 (Got 56)
    ∷ marked 5 (Got 54) ∷
    marked 2 (Got 57) ∷ marked 1 (Sent 58 4 (messages.Answer 56 (answers.Granted (whole_grant 1 0 [])))) ∷
    marked 2 (Sent 59 4 (messages.Answer 57 (answers.Clash (tx 2 3) 0 3))) ∷
    marked 2 (Sent 60 5 (messages.Inquiry (tx 2 3))) ∷ marked 5 (Got 55) ∷ marked 4 (Got 58) ∷ marked 1 (Got 56) ∷
    marked 4 (Got 59) ∷ marked 1 (Sent 61 4 (messages.Answer 56 (answers.Granted (whole_grant 1 0 []))))
    ∷ marked 5 (Got 60) ∷
    marked 4 (Told (replies.Conflict (tx 2 3) 2)) ∷
    marked 5 (Sent 62 2 (messages.Decision (tx 2 3) (outcomes.Committed (stamp 1 2)))) ∷ marked 2 (Got 62) ∷
    marked 5 (Called (commands.Do 1 2)) ∷ marked 5 (Told replies.NoTransaction) ∷ marked 5 (Called (commands.Do 1 0)) ∷
    marked 4 (Got 61) ∷ marked 5 (Told replies.NoTransaction) ∷ marked 5 (Called commands.Commit) ∷
    marked 5 (Told replies.NoTransaction) ∷ marked 7 (Phase 4) ∷ marked 7 (Heal 0 3) ∷ marked 5 (Got 54) ∷
    marked 4 (Called (commands.Do 0 0))
    ∷ marked 4 (Sent 63 1 (messages.Request (tx 1 1) 1 1 (wants.Read (first_read 0 0)))) ∷
    marked 4 (Sent 64 2 (messages.Request (tx 1 1) 1 0 (wants.Read (first_read 0 0)))) ∷ marked 1 (Got 63) ∷
    marked 1 (Sent 65 4 (messages.Answer 63 (answers.Granted (whole_grant 1 0 [])))) ∷ marked 4 (Got 65)
    ∷ marked 2 (Got 64) ∷
    marked 2
    (Sent 66 4 (messages.Answer 64 (answers.Granted (whole_grant 1 1 (line 1 2 3 1 0 0 ∷ line 1 2 3 2 0 3 ∷ []))))) ∷
    marked 4 (Got 66) ∷
    marked 4 (Sent 67 1 (messages.Request (tx 1 1) 1 1 (wants.Append 0 (line 1 2 3 1 0 0 ∷ line 1 2 3 2 0 3 ∷ [])
    (own_line 1 0 1 ∷ [])))) ∷
    marked 4 (Sent 68 2 (messages.Request (tx 1 1) 1 1 (wants.Append 0 (line 1 2 3 1 0 0 ∷ line 1 2 3 2 0 3 ∷ [])
    (own_line 1 0 1 ∷ [])))) ∷
    marked 4 (Sent 69 0 (messages.Request (tx 1 1) 1 0 (wants.Append 0 (line 1 2 3 1 0 0 ∷ line 1 2 3 2 0 3 ∷ [])
    (own_line 1 0 1 ∷ [])))) ∷
    marked 1 (Got 67) ∷ marked 0 (Got 69)
    ∷ marked 1 (Sent 70 4 (messages.Answer 67 (answers.Granted (whole_grant 1 1 [])))) ∷
    marked 0 (Sent 71 4 (messages.Answer 69 (answers.Granted (whole_grant 1 1 [])))) ∷ marked 4 (Got 70)
    ∷ marked 2 (Got 68) ∷
    marked 4 (Got 71) ∷ marked 2 (Sent 72 4 (messages.Answer 68 (answers.Granted (whole_grant 1 1 []))))
    ∷ marked 4 (Got 72) ∷
    marked 4 (Told (replies.Response 1)) ∷ marked 4 (Called commands.Commit) ∷
    marked 4 (Sent 73 1 (messages.Request (tx 1 1) 1 1 wants.Prepare)) ∷
    marked 4 (Sent 74 2 (messages.Request (tx 1 1) 1 1 wants.Prepare)) ∷
    marked 4 (Sent 75 0 (messages.Request (tx 1 1) 1 1 wants.Prepare)) ∷ marked 0 (Got 75) ∷
    marked 0 (Wrote (prepare (tx 1 1) 1 [] (own_line 1 0 1 ∷ []) [])) ∷
    marked 0 (Sent 76 4 (messages.Answer 75 (answers.Yes 1))) ∷ marked 2 (Got 74) ∷
    marked 2 (Wrote (prepare (tx 1 1) 1 (read_lock 0 0 ∷ []) (own_line 1 0 1 ∷ []) [])) ∷
    marked 2 (Sent 77 4 (messages.Answer 74 (answers.Yes 1))) ∷ marked 1 (Got 73) ∷ marked 4 (Got 76) ∷
    marked 1 (Wrote (prepare (tx 1 1) 1 (read_lock 0 0 ∷ []) (own_line 1 0 1 ∷ []) (line 1 2 3 1 0 0 ∷ line 1 2 3 2 0 3
    ∷ []))) ∷
    marked 1 (Sent 78 4 (messages.Answer 73 (answers.Yes 1))) ∷ marked 4 (Got 77) ∷ marked 4 (Got 78) ∷
    marked 4 (Wrote (commit (stamp 2 1) (tx 1 1) (operation 0 0 (Some 1) ∷ []))) ∷
    marked 4 (Sent 79 0 (messages.Decision (tx 1 1) (outcomes.Committed (stamp 2 1)))) ∷
    marked 4 (Sent 80 1 (messages.Decision (tx 1 1) (outcomes.Committed (stamp 2 1)))) ∷
    marked 4 (Sent 81 2 (messages.Decision (tx 1 1) (outcomes.Committed (stamp 2 1)))) ∷
    marked 4 (Told (replies.Committed (stamp 2 1))) ∷ marked 4 (Called commands.Begin) ∷ marked 2 (Got 81) ∷
    marked 4 (Told (replies.Began (tx 1 2))) ∷ marked 4 (Called (commands.Do 0 2)) ∷ marked 1 (Got 80) ∷
    marked 1 (Wrote (records.Done (tx 1 1) 2)) ∷ marked 2 (Wrote (records.Done (tx 1 1) 2)) ∷
    marked 4 (Sent 82 1 (messages.Request (tx 1 2) 1 0 (wants.Append 0 [] (own_line 1 0 3 ∷ [])))) ∷
    marked 4 (Sent 83 2 (messages.Request (tx 1 2) 1 0 (wants.Append 0 [] (own_line 1 0 3 ∷ [])))) ∷ marked 1 (Got 82) ∷
    marked 2 (Got 83) ∷ marked 0 (Got 79)
    ∷ marked 1 (Sent 84 4 (messages.Answer 82 (answers.Granted (whole_grant 1 2 [])))) ∷
    marked 0 (Wrote (records.Done (tx 1 1) 2)) ∷ marked 4 (Got 84) ∷
    marked 2 (Sent 85 4 (messages.Answer 83 (answers.Granted (whole_grant 1 2 [])))) ∷ marked 4 (Got 85) ∷
    marked 4 (Told (replies.Response 2)) ∷ marked 4 (Called commands.Abort) ∷
    marked 4 (Sent 86 1 (messages.Decision (tx 1 2) outcomes.Aborted)) ∷
    marked 4 (Sent 87 2 (messages.Decision (tx 1 2) outcomes.Aborted)) ∷ marked 4 (Told replies.Dropped) ∷
    marked 2 (Got 87) ∷ marked 1 (Got 86) ∷ marked 7 (Phase 5) ∷ marked 4 (Called commands.Begin) ∷
    marked 3 (Called (commands.Do 1 0)) ∷ marked 4 (Told (replies.Began (tx 1 3))) ∷ marked 3 (Told replies.Doomed) ∷
    marked 3 (Called (commands.Do 0 0)) ∷ marked 4 (Called (commands.Do 0 2)) ∷ marked 3 (Told replies.Doomed) ∷
    marked 4 (Sent 88 1 (messages.Request (tx 1 3) 1 0 (wants.Append 0 [] (own_line 1 0 3 ∷ [])))) ∷
    marked 4 (Sent 89 2 (messages.Request (tx 1 3) 1 0 (wants.Append 0 [] (own_line 1 0 3 ∷ [])))) ∷ marked 1 (Got 88) ∷
    marked 1 (Sent 90 4 (messages.Answer 88 (answers.Granted (whole_grant 1 2 [])))) ∷ marked 4 (Got 90)
    ∷ marked 2 (Got 89) ∷
    marked 2 (Sent 91 4 (messages.Answer 89 (answers.Granted (whole_grant 1 2 [])))) ∷ marked 4 (Got 91) ∷
    marked 4 (Told (replies.Response 2)) ∷ marked 4 (Called (commands.Do 0 2)) ∷
    marked 4 (Sent 92 1 (messages.Request (tx 1 3) 1 1 (wants.Append 0 [] (own_line 1 0 3 ∷ own_line 2 0 3 ∷ [])))) ∷
    marked 4 (Sent 93 2 (messages.Request (tx 1 3) 1 1 (wants.Append 0 [] (own_line 1 0 3 ∷ own_line 2 0 3 ∷ [])))) ∷
    marked 2 (Got 93) ∷ marked 2 (Sent 94 4 (messages.Answer 93 (answers.Granted (whole_grant 1 2 []))))
    ∷ marked 1 (Got 92) ∷
    marked 1 (Sent 95 4 (messages.Answer 92 (answers.Granted (whole_grant 1 2 [])))) ∷ marked 4 (Got 94)
    ∷ marked 4 (Got 95) ∷
    marked 4 (Told (replies.Response 2)) ∷ marked 4 (Called (commands.Do 0 1)) ∷
    marked 4 (Sent 96 1 (messages.Request (tx 1 3) 1 1 (wants.Read (first_read 0 1)))) ∷
    marked 4 (Sent 97 2 (messages.Request (tx 1 3) 1 1 (wants.Read (first_read 0 1)))) ∷ marked 2 (Got 97)
    ∷ marked 1 (Got 96) ∷
    marked 1
    (Sent 98 4
    (messages.Answer 96
    (answers.Granted (whole_grant 1 2 (line 1 2 3 1 0 0 ∷ line 1 2 3 2 0 3 ∷ line 2 1 1 1 0 1 ∷ []))))) ∷
    marked 4 (Got 98) ∷
    marked 2
    (Sent 99 4
    (messages.Answer 97
    (answers.Granted (whole_grant 1 2 (line 1 2 3 1 0 0 ∷ line 1 2 3 2 0 3 ∷ line 2 1 1 1 0 1 ∷ []))))) ∷
    marked 4 (Got 99) ∷
    marked 4 (Sent 100 1 (messages.Request (tx 1 3) 1 1 (wants.Append 0 (line 1 2 3 1 0 0 ∷ line 1 2 3 2 0 3 ∷ line 2 1
    1 1 0 1 ∷ []) (own_line 1 0 3 ∷ own_line 2 0 3 ∷ own_line 3 0 2 ∷ [])))) ∷
    marked 4 (Sent 101 2 (messages.Request (tx 1 3) 1 1 (wants.Append 0 (line 1 2 3 1 0 0 ∷ line 1 2 3 2 0 3 ∷ line 2 1
    1 1 0 1 ∷ []) (own_line 1 0 3 ∷ own_line 2 0 3 ∷ own_line 3 0 2 ∷ [])))) ∷
    marked 1 (Got 100) ∷ marked 2 (Got 101)
    ∷ marked 2 (Sent 102 4 (messages.Answer 101 (answers.Granted (whole_grant 1 2 [])))) ∷
    marked 1 (Sent 103 4 (messages.Answer 100 (answers.Granted (whole_grant 1 2 [])))) ∷ marked 4 (Got 102)
    ∷ marked 4 (Got 103) ∷
    marked 4 (Told (replies.Response 2)) ∷ marked 4 (Called commands.Commit) ∷
    marked 4 (Sent 104 1 (messages.Request (tx 1 3) 1 1 wants.Prepare)) ∷
    marked 4 (Sent 105 2 (messages.Request (tx 1 3) 1 1 wants.Prepare)) ∷ marked 2 (Got 105) ∷
    marked 2 (Wrote (prepare (tx 1 3) 1 (read_lock 0 1 ∷ []) (own_line 1 0 3 ∷ own_line 2 0 3 ∷ own_line 3 0 2 ∷ [])
    [])) ∷
    marked 2 (Sent 106 4 (messages.Answer 105 (answers.Yes 2))) ∷ marked 1 (Got 104) ∷
    marked 1 (Wrote (prepare (tx 1 3) 1 (read_lock 0 1 ∷ []) (own_line 1 0 3 ∷ own_line 2 0 3 ∷ own_line 3 0 2 ∷ [])
    [])) ∷
    marked 1 (Sent 107 4 (messages.Answer 104 (answers.Yes 2))) ∷ marked 4 (Got 106) ∷ marked 4 (Got 107) ∷
    marked 4 (Wrote (commit (stamp 3 1) (tx 1 3) (operation 0 2 (Some 2) ∷ operation 0 2 (Some 2) ∷ operation 0 1 (Some
    2) ∷ []))) ∷
    marked 4 (Sent 108 1 (messages.Decision (tx 1 3) (outcomes.Committed (stamp 3 1)))) ∷
    marked 4 (Sent 109 2 (messages.Decision (tx 1 3) (outcomes.Committed (stamp 3 1)))) ∷
    marked 4 (Told (replies.Committed (stamp 3 1))) ∷ marked 2 (Got 109) ∷ marked 1 (Got 108) ∷
    marked 1 (Wrote (records.Done (tx 1 3) 3)) ∷ marked 2 (Wrote (records.Done (tx 1 3) 3)) ∷ []
