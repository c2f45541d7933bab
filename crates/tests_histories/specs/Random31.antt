-- Random: sites 5, clients 3, steps 254, messages 101, cuts 1, commits 3, aborts 3, conflicts 3.
use Rattle.std.specs.Prelude.{List, [], ◌∷◌, Some}
use Rattle.qc_decl.specs.declared.declaration.Declaration.{Declaration}
use Rattle.qc_decl.specs.Vocabulary.{row}
use Rattle.qc_msg.specs.Vocabulary.{Entry, marked}
use Rattle.tests_histories.specs.Play.{Move, Takes, Posts, Acts}
use Rattle.tests_histories.specs.Words.{tx, stamp, own_line, operation, read_lock, prepare, commit, declaration, kind}
use Rattle.tests_histories.specs.Words.{pair, plan}
use Rattle.qc_msg.specs.declared.step.Step.TheVariants.{Phase, Cut, Called, Got, Wrote, Sent, Told}
use Rattle.qc_msg.specs.declared.message.Answer.TheVariants as answers
use Rattle.qc_msg.specs.declared.reply.AbortCause.TheVariants as causes
use Rattle.qc_msg.specs.declared.step.Command.TheVariants as commands
use Rattle.qc_msg.specs.declared.message.Message.TheVariants as messages
use Rattle.qc_msg.specs.declared.message.Outcome.TheVariants as outcomes
use Rattle.qc_msg.specs.declared.record.Record.TheVariants as records
use Rattle.qc_msg.specs.declared.reply.Reply.TheVariants as replies
use Rattle.qc_msg.specs.declared.message.Want.TheVariants as wants
use Rattle.qc_msg.specs.Vocabulary.{whole_grant, first_read}

abbrev pub decl : Declaration
decl =
    declaration 5 3 (kind 3 3 3 0 (row 0 0 0 1 ∷ row 0 0 1 2 ∷ row 1 1 0 1 ∷ row 2 1 1 2 ∷ row 1 2 2 0 ∷ row 2 2 2 0 ∷
    row 0 2 2 0 ∷ []) (pair 0 0 ∷ pair 0 1 ∷ pair 0 4 ∷ pair 1 0 ∷ pair 1 1 ∷ pair 1 4 ∷ pair 2 3 ∷ []) ∷ []) (0 ∷ [])
    (plan (1 ∷ 1 ∷ 1 ∷ 1 ∷ 3 ∷ []) ((4 ∷ 4 ∷ 4 ∷ []) ∷ []) ((4 ∷ 4 ∷ 7 ∷ 4 ∷ 4 ∷ []) ∷ []) ∷ plan (1 ∷ 1 ∷ 3 ∷ 1 ∷ 1 ∷
    []) ((4 ∷ 4 ∷ 4 ∷ []) ∷ []) ((4 ∷ 4 ∷ 3 ∷ 4 ∷ 4 ∷ []) ∷ []) ∷ [])

abbrev pub moves : List Move
moves =
    Acts (Phase 1) ∷ Takes 5 (Called commands.Begin) ∷ Posts 5 ∷ Takes 6 (Called commands.Begin) ∷
    Takes 5 (Called commands.Commit) ∷ Posts 6 ∷ Takes 6 (Called commands.Commit) ∷ Posts 6 ∷ Posts 5 ∷ Acts (Phase 2) ∷
    Acts (Cut 0 4) ∷ Takes 6 (Called commands.Begin) ∷ Takes 5 (Called commands.Begin) ∷ Posts 6 ∷
    Takes 7 (Called commands.Begin) ∷ Takes 6 (Called (commands.Do 0 0)) ∷ Posts 7 ∷ Posts 6 ∷
    Takes 7 (Called (commands.Do 0 2)) ∷ Takes 1 (Got 0) ∷ Takes 4 (Got 3) ∷ Posts 7 ∷ Posts 1 ∷ Takes 6 (Got 7) ∷
    Posts 6 ∷ Posts 4 ∷ Posts 5 ∷ Takes 2 (Got 1) ∷ Takes 5 (Called (commands.Do 0 2)) ∷ Posts 2 ∷ Posts 5 ∷
    Takes 3 (Got 2) ∷ Takes 1 (Got 11) ∷ Takes 4 (Got 6) ∷ Posts 1 ∷ Takes 5 (Got 14) ∷ Posts 5 ∷ Posts 3 ∷
    Takes 2 (Got 4) ∷ Takes 3 (Got 5) ∷ Posts 4 ∷ Takes 6 (Got 8) ∷ Posts 6 ∷ Takes 0 (Got 10) ∷ Posts 0 ∷
    Takes 7 (Got 16) ∷ Posts 7 ∷ Posts 3 ∷ Posts 2 ∷ Takes 3 (Got 13) ∷ Takes 5 (Got 17) ∷ Posts 5 ∷ Posts 3 ∷
    Takes 2 (Got 12) ∷ Posts 2 ∷ Takes 7 (Got 18) ∷ Posts 7 ∷ Takes 6 (Got 9) ∷ Posts 6 ∷ Takes 5 (Got 20) ∷ Posts 5 ∷
    Takes 5 (Got 21) ∷ Posts 5 ∷ Takes 3 (Got 25) ∷ Takes 6 (Got 15) ∷ Posts 3 ∷ Posts 6 ∷ Takes 4 (Got 31) ∷
    Takes 0 (Got 22) ∷ Posts 4 ∷ Takes 7 (Got 19) ∷ Takes 5 (Got 26) ∷ Posts 5 ∷ Takes 1 (Got 23) ∷ Takes 6 (Got 27) ∷
    Posts 6 ∷ Posts 1 ∷ Takes 2 (Got 24) ∷ Takes 1 (Got 28) ∷ Posts 7 ∷ Takes 3 (Got 30) ∷ Posts 2 ∷ Takes 5 (Got 34) ∷
    Posts 5 ∷ Posts 1 ∷ Takes 2 (Got 29) ∷ Posts 0 ∷ Takes 4 (Got 38) ∷ Posts 4 ∷ Posts 3 ∷ Posts 2 ∷ Takes 2 (Got 36) ∷
    Takes 3 (Got 33) ∷ Posts 3 ∷ Takes 6 (Got 32) ∷ Posts 6 ∷ Takes 7 (Got 43) ∷ Posts 7 ∷ Takes 6 (Got 35) ∷ Posts 2 ∷
    Takes 5 (Got 39) ∷ Posts 5 ∷ Posts 6 ∷ Takes 1 (Got 49) ∷ Posts 1 ∷ Takes 6 (Got 40) ∷ Takes 7 (Got 47) ∷ Posts 7 ∷
    Takes 3 (Got 37) ∷ Takes 5 (Got 42) ∷ Posts 3 ∷ Posts 5 ∷ Takes 5 (Called (commands.Do 0 0)) ∷ Posts 6 ∷ Posts 5 ∷
    Takes 7 (Got 50) ∷ Takes 5 (Called (commands.Do 0 2)) ∷ Takes 6 (Got 41) ∷ Posts 6 ∷ Posts 5 ∷
    Takes 5 (Called commands.Commit) ∷ Takes 2 (Got 52) ∷ Posts 2 ∷ Posts 7 ∷ Posts 5 ∷ Takes 3 (Got 56) ∷ Posts 3 ∷
    Takes 7 (Called commands.Commit) ∷ Posts 7 ∷ Takes 1 (Got 54) ∷ Posts 1 ∷ Takes 5 (Called commands.Begin) ∷
    Takes 0 (Got 53) ∷ Posts 0 ∷ Posts 5 ∷ Takes 3 (Got 58) ∷ Posts 3 ∷ Takes 5 (Called (commands.Do 0 2)) ∷
    Takes 4 (Got 59) ∷ Posts 4 ∷ Posts 5 ∷ Takes 6 (Got 44) ∷ Posts 6 ∷ Takes 0 (Got 60) ∷ Takes 6 (Got 45) ∷ Posts 6 ∷
    Takes 4 (Got 64) ∷ Posts 4 ∷ Takes 2 (Got 55) ∷ Posts 2 ∷ Posts 0 ∷ Takes 6 (Got 46) ∷ Takes 5 (Got 65) ∷ Posts 5 ∷
    Posts 6 ∷ Takes 1 (Got 61) ∷ Takes 6 (Got 48) ∷ Takes 2 (Got 57) ∷ Posts 2 ∷ Posts 1 ∷ Posts 6 ∷ Takes 3 (Got 63) ∷
    Takes 6 (Got 51) ∷ Posts 3 ∷ Takes 2 (Got 62) ∷ Takes 5 (Got 66) ∷ Posts 5 ∷ Posts 6 ∷ Takes 3 (Got 69) ∷ Posts 3 ∷
    Takes 6 (Called commands.Commit) ∷ Posts 6 ∷ Takes 4 (Got 73) ∷ Posts 4 ∷ Takes 1 (Got 70) ∷ Takes 3 (Got 72) ∷
    Takes 5 (Got 68) ∷ Posts 5 ∷ Posts 1 ∷ Takes 6 (Got 74) ∷ Posts 6 ∷ Posts 3 ∷ Posts 2 ∷ Takes 2 (Got 67) ∷ Posts 2 ∷
    Takes 5 (Got 77) ∷ Takes 2 (Got 71) ∷ Takes 6 (Got 75) ∷ Posts 6 ∷ Takes 6 (Got 76) ∷ Posts 6 ∷ Posts 5 ∷
    Takes 0 (Got 78) ∷ Takes 3 (Got 81) ∷ Takes 1 (Got 79) ∷ Posts 0 ∷ Posts 2 ∷ Posts 1 ∷ Takes 5 (Got 82) ∷ Posts 5 ∷
    Takes 2 (Got 80) ∷ Takes 5 (Got 84) ∷ Posts 5 ∷ Takes 6 (Got 83) ∷ Posts 2 ∷ Posts 6 ∷ Takes 2 (Got 89) ∷
    Takes 5 (Got 86) ∷ Posts 5 ∷ Posts 3 ∷ Takes 5 (Got 92) ∷ Takes 1 (Got 88) ∷ Posts 2 ∷ Posts 1 ∷ Takes 4 (Got 91) ∷
    Posts 5 ∷ Takes 6 (Got 85) ∷ Takes 5 (Called (commands.Do 0 2)) ∷ Takes 3 (Got 90) ∷ Posts 5 ∷ Posts 4 ∷
    Takes 5 (Called commands.Commit) ∷ Posts 5 ∷ Takes 1 (Got 95) ∷ Posts 1 ∷ Posts 6 ∷ Posts 3 ∷ Takes 0 (Got 94) ∷
    Posts 0 ∷ Takes 1 (Got 98) ∷ Posts 1 ∷ Takes 6 (Got 87) ∷ Takes 3 (Got 97) ∷ Posts 3 ∷ Posts 6 ∷ Takes 6 (Got 93) ∷
    Posts 6 ∷ Takes 2 (Got 96) ∷ Posts 2 ∷ Takes 2 (Got 99) ∷ Posts 2 ∷ Takes 3 (Got 100) ∷ Posts 3 ∷ []

abbrev pub history : List Entry
history =
    marked 9 (Phase 1) ∷ marked 5 (Called commands.Begin) ∷ marked 5 (Told (replies.Began (tx 0 1))) ∷
    marked 6 (Called commands.Begin) ∷ marked 5 (Called commands.Commit) ∷ marked 6 (Told (replies.Began (tx 1 1))) ∷
    marked 6 (Called commands.Commit) ∷ marked 6 (Wrote (commit (stamp 1 1) (tx 1 1) [])) ∷
    marked 6 (Told (replies.Committed (stamp 1 1))) ∷ marked 5 (Wrote (commit (stamp 1 0) (tx 0 1) [])) ∷
    marked 5 (Told (replies.Committed (stamp 1 0))) ∷ marked 9 (Phase 2) ∷ marked 9 (Cut 0 4) ∷
    marked 6 (Called commands.Begin) ∷ marked 5 (Called commands.Begin) ∷ marked 6 (Told (replies.Began (tx 1 2))) ∷
    marked 7 (Called commands.Begin) ∷ marked 6 (Called (commands.Do 0 0)) ∷ marked 7 (Told (replies.Began (tx 2 1))) ∷
    marked 6 (Sent 0 1 (messages.Request (tx 1 2) 1 0 (wants.Read (first_read 0 0)))) ∷
    marked 6 (Sent 1 2 (messages.Request (tx 1 2) 1 0 (wants.Read (first_read 0 0)))) ∷
    marked 6 (Sent 2 3 (messages.Request (tx 1 2) 1 0 (wants.Read (first_read 0 0)))) ∷
    marked 6 (Sent 3 4 (messages.Request (tx 1 2) 1 0 (wants.Read (first_read 0 0)))) ∷
    marked 7 (Called (commands.Do 0 2))
    ∷
    marked 1 (Got 0) ∷ marked 4 (Got 3) ∷
    marked 7 (Sent 4 2 (messages.Request (tx 2 1) 1 0 (wants.Read (first_read 0 2))))
    ∷
    marked 7 (Sent 5 3 (messages.Request (tx 2 1) 1 0 (wants.Read (first_read 0 2)))) ∷
    marked 7 (Sent 6 4 (messages.Request (tx 2 1) 1 0 (wants.Read (first_read 0 2)))) ∷
    marked 1 (Sent 7 6 (messages.Answer 0 (answers.Granted (whole_grant 1 0 [])))) ∷ marked 6 (Got 7) ∷
    marked 4 (Sent 8 6 (messages.Answer 3 (answers.Granted (whole_grant 1 0 []))))
    ∷ marked 5 (Told (replies.Began (tx 0 2))) ∷
    marked 2 (Got 1) ∷ marked 5 (Called (commands.Do 0 2)) ∷
    marked 2 (Sent 9 6 (messages.Answer 1 (answers.Granted (whole_grant 1 0 [])))) ∷
    marked 5 (Sent 10 0 (messages.Request (tx 0 2) 1 0 (wants.Read (first_read 0 2)))) ∷
    marked 5 (Sent 11 1 (messages.Request (tx 0 2) 1 0 (wants.Read (first_read 0 2)))) ∷
    marked 5 (Sent 12 2 (messages.Request (tx 0 2) 1 0 (wants.Read (first_read 0 2)))) ∷
    marked 5 (Sent 13 3 (messages.Request (tx 0 2) 1 0 (wants.Read (first_read 0 2)))) ∷ marked 3 (Got 2)
    ∷ marked 1 (Got 11) ∷
    marked 4 (Got 6) ∷ marked 1 (Sent 14 5 (messages.Answer 11 (answers.Granted (whole_grant 1 0 []))))
    ∷ marked 5 (Got 14) ∷
    marked 3 (Sent 15 6 (messages.Answer 2 (answers.Granted (whole_grant 1 0 [])))) ∷ marked 2 (Got 4) ∷
    marked 3 (Got 5)
    ∷
    marked 4 (Sent 16 7 (messages.Answer 6 (answers.Granted (whole_grant 1 0 [])))) ∷ marked 6 (Got 8)
    ∷ marked 0 (Got 10) ∷
    marked 0 (Sent 17 5 (messages.Answer 10 (answers.Granted (whole_grant 1 0 [])))) ∷ marked 7 (Got 16) ∷
    marked 3 (Sent 18 7 (messages.Answer 5 (answers.Granted (whole_grant 1 0 [])))) ∷
    marked 2 (Sent 19 7 (messages.Answer 4 (answers.Granted (whole_grant 1 0 [])))) ∷ marked 3 (Got 13)
    ∷ marked 5 (Got 17) ∷
    marked 3 (Sent 20 5 (messages.Answer 13 (answers.Granted (whole_grant 1 0 [])))) ∷ marked 2 (Got 12) ∷
    marked 2 (Sent 21 5 (messages.Answer 12 (answers.Granted (whole_grant 1 0 [])))) ∷ marked 7 (Got 18)
    ∷ marked 6 (Got 9) ∷
    marked 5 (Got 20) ∷ marked 5 (Got 21) ∷
    marked 5 (Sent 22 0 (messages.Request (tx 0 2) 1 1 (wants.Append 0 [] (own_line 1 0 4 ∷ [])))) ∷
    marked 5 (Sent 23 1 (messages.Request (tx 0 2) 1 1 (wants.Append 0 [] (own_line 1 0 4 ∷ [])))) ∷
    marked 5 (Sent 24 2 (messages.Request (tx 0 2) 1 1 (wants.Append 0 [] (own_line 1 0 4 ∷ [])))) ∷
    marked 5 (Sent 25 3 (messages.Request (tx 0 2) 1 1 (wants.Append 0 [] (own_line 1 0 4 ∷ [])))) ∷ marked 3 (Got 25) ∷
    marked 6 (Got 15) ∷ marked 3 (Sent 26 5 (messages.Answer 25 (answers.Clash (tx 1 2) 0 4))) ∷
    marked 3 (Sent 27 6 (messages.Inquiry (tx 1 2))) ∷
    marked 6 (Sent 28 1 (messages.Request (tx 1 2) 1 1 (wants.Append 0 [] (own_line 1 0 0 ∷ [])))) ∷
    marked 6 (Sent 29 2 (messages.Request (tx 1 2) 1 1 (wants.Append 0 [] (own_line 1 0 0 ∷ [])))) ∷
    marked 6 (Sent 30 3 (messages.Request (tx 1 2) 1 1 (wants.Append 0 [] (own_line 1 0 0 ∷ [])))) ∷
    marked 6 (Sent 31 4 (messages.Request (tx 1 2) 1 1 (wants.Append 0 [] (own_line 1 0 0 ∷ [])))) ∷ marked 4 (Got 31) ∷
    marked 0 (Got 22) ∷ marked 4 (Sent 32 6 (messages.Answer 31 (answers.Granted (whole_grant 1 0 []))))
    ∷ marked 7 (Got 19) ∷
    marked 5 (Got 26) ∷ marked 1 (Got 23) ∷ marked 6 (Got 27) ∷
    marked 6 (Sent 33 3 (messages.Decision (tx 1 2) outcomes.Active)) ∷
    marked 1 (Sent 34 5 (messages.Answer 23 (answers.Clash (tx 1 2) 0 4))) ∷
    marked 1 (Sent 35 6 (messages.Inquiry (tx 1 2))) ∷ marked 2 (Got 24) ∷ marked 1 (Got 28) ∷
    marked 7 (Sent 36 2 (messages.Request (tx 2 1) 1 1 (wants.Append 0 [] (own_line 1 0 4 ∷ [])))) ∷
    marked 7 (Sent 37 3 (messages.Request (tx 2 1) 1 1 (wants.Append 0 [] (own_line 1 0 4 ∷ [])))) ∷
    marked 7 (Sent 38 4 (messages.Request (tx 2 1) 1 1 (wants.Append 0 [] (own_line 1 0 4 ∷ [])))) ∷ marked 3 (Got 30) ∷
    marked 2 (Sent 39 5 (messages.Answer 24 (answers.Clash (tx 1 2) 0 4))) ∷
    marked 2 (Sent 40 6 (messages.Inquiry (tx 1 2))) ∷ marked 5 (Got 34) ∷
    marked 1 (Sent 41 6 (messages.Answer 28 (answers.Granted (whole_grant 1 0 [])))) ∷ marked 2 (Got 29) ∷
    marked 0 (Sent 42 5 (messages.Answer 22 (answers.Granted (whole_grant 1 0 [])))) ∷ marked 4 (Got 38) ∷
    marked 4 (Sent 43 7 (messages.Answer 38 (answers.Clash (tx 1 2) 0 4))) ∷
    marked 4 (Sent 44 6 (messages.Inquiry (tx 1 2))) ∷
    marked 3 (Sent 45 6 (messages.Answer 30 (answers.Granted (whole_grant 1 0 [])))) ∷
    marked 2 (Sent 46 6 (messages.Answer 29 (answers.Granted (whole_grant 1 0 [])))) ∷ marked 2 (Got 36)
    ∷ marked 3 (Got 33) ∷
    marked 6 (Got 32) ∷ marked 7 (Got 43) ∷ marked 6 (Got 35) ∷
    marked 2 (Sent 47 7 (messages.Answer 36 (answers.Clash (tx 1 2) 0 4))) ∷
    marked 2 (Sent 48 6 (messages.Inquiry (tx 1 2))) ∷ marked 5 (Got 39) ∷
    marked 6 (Sent 49 1 (messages.Decision (tx 1 2) outcomes.Active)) ∷ marked 1 (Got 49) ∷ marked 6 (Got 40) ∷
    marked 7 (Got 47) ∷ marked 3 (Got 37) ∷ marked 5 (Got 42) ∷
    marked 3 (Sent 50 7 (messages.Answer 37 (answers.Clash (tx 1 2) 0 4))) ∷
    marked 3 (Sent 51 6 (messages.Inquiry (tx 1 2))) ∷ marked 5 (Told (replies.Conflict (tx 1 2) 1)) ∷
    marked 5 (Called (commands.Do 0 0)) ∷ marked 6 (Sent 52 2 (messages.Decision (tx 1 2) outcomes.Active)) ∷
    marked 5 (Told replies.Doomed) ∷ marked 7 (Got 50) ∷ marked 5 (Called (commands.Do 0 2)) ∷ marked 6 (Got 41) ∷
    marked 5 (Told replies.Doomed) ∷ marked 5 (Called commands.Commit) ∷ marked 2 (Got 52) ∷
    marked 7 (Told (replies.Conflict (tx 1 2) 2)) ∷ marked 5 (Sent 53 0 (messages.Decision (tx 0 2) outcomes.Aborted)) ∷
    marked 5 (Sent 54 1 (messages.Decision (tx 0 2) outcomes.Aborted)) ∷
    marked 5 (Sent 55 2 (messages.Decision (tx 0 2) outcomes.Aborted)) ∷
    marked 5 (Sent 56 3 (messages.Decision (tx 0 2) outcomes.Aborted)) ∷
    marked 5 (Told (replies.Aborted causes.Doomed)) ∷ marked 3 (Got 56) ∷ marked 7 (Called commands.Commit) ∷
    marked 7 (Sent 57 2 (messages.Decision (tx 2 1) outcomes.Aborted)) ∷
    marked 7 (Sent 58 3 (messages.Decision (tx 2 1) outcomes.Aborted)) ∷
    marked 7 (Sent 59 4 (messages.Decision (tx 2 1) outcomes.Aborted)) ∷
    marked 7 (Told (replies.Aborted causes.Doomed)) ∷ marked 1 (Got 54) ∷ marked 5 (Called commands.Begin) ∷
    marked 0 (Got 53) ∷ marked 5 (Told (replies.Began (tx 0 3))) ∷ marked 3 (Got 58) ∷
    marked 5 (Called (commands.Do 0 2)) ∷ marked 4 (Got 59) ∷
    marked 5 (Sent 60 0 (messages.Request (tx 0 3) 1 0 (wants.Read (first_read 0 2)))) ∷
    marked 5 (Sent 61 1 (messages.Request (tx 0 3) 1 0 (wants.Read (first_read 0 2)))) ∷
    marked 5 (Sent 62 2 (messages.Request (tx 0 3) 1 0 (wants.Read (first_read 0 2)))) ∷
    marked 5 (Sent 63 3 (messages.Request (tx 0 3) 1 0 (wants.Read (first_read 0 2)))) ∷ marked 6 (Got 44) ∷
    marked 6 (Sent 64 4 (messages.Decision (tx 1 2) outcomes.Active)) ∷ marked 0 (Got 60) ∷ marked 6 (Got 45) ∷
    marked 4 (Got 64) ∷ marked 2 (Got 55)
    ∷ marked 0 (Sent 65 5 (messages.Answer 60 (answers.Granted (whole_grant 1 0 [])))) ∷
    marked 6 (Got 46) ∷ marked 5 (Got 65) ∷ marked 6 (Told (replies.Response 0)) ∷ marked 1 (Got 61) ∷
    marked 6 (Got 48) ∷ marked 2 (Got 57)
    ∷ marked 1 (Sent 66 5 (messages.Answer 61 (answers.Granted (whole_grant 1 0 [])))) ∷
    marked 6 (Sent 67 2 (messages.Decision (tx 1 2) outcomes.Active)) ∷ marked 3 (Got 63) ∷ marked 6 (Got 51) ∷
    marked 3 (Sent 68 5 (messages.Answer 63 (answers.Granted (whole_grant 1 0 [])))) ∷ marked 2 (Got 62)
    ∷ marked 5 (Got 66) ∷
    marked 6 (Sent 69 3 (messages.Decision (tx 1 2) outcomes.Active)) ∷ marked 3 (Got 69) ∷
    marked 6 (Called commands.Commit) ∷ marked 6 (Sent 70 1 (messages.Request (tx 1 2) 1 1 wants.Prepare)) ∷
    marked 6 (Sent 71 2 (messages.Request (tx 1 2) 1 1 wants.Prepare)) ∷
    marked 6 (Sent 72 3 (messages.Request (tx 1 2) 1 1 wants.Prepare)) ∷
    marked 6 (Sent 73 4 (messages.Request (tx 1 2) 1 1 wants.Prepare)) ∷ marked 4 (Got 73) ∷
    marked 4 (Wrote (prepare (tx 1 2) 1 (read_lock 0 0 ∷ []) (own_line 1 0 0 ∷ []) [])) ∷
    marked 4 (Sent 74 6 (messages.Answer 73 (answers.Yes 0))) ∷ marked 1 (Got 70) ∷ marked 3 (Got 72) ∷
    marked 5 (Got 68) ∷ marked 1 (Wrote (prepare (tx 1 2) 1 (read_lock 0 0 ∷ []) (own_line 1 0 0 ∷ []) [])) ∷
    marked 1 (Sent 75 6 (messages.Answer 70 (answers.Yes 0))) ∷ marked 6 (Got 74) ∷
    marked 3 (Wrote (prepare (tx 1 2) 1 (read_lock 0 0 ∷ []) (own_line 1 0 0 ∷ []) [])) ∷
    marked 3 (Sent 76 6 (messages.Answer 72 (answers.Yes 0))) ∷
    marked 2 (Sent 77 5 (messages.Answer 62 (answers.Granted (whole_grant 1 0 [])))) ∷ marked 2 (Got 67)
    ∷ marked 5 (Got 77) ∷
    marked 2 (Got 71) ∷ marked 6 (Got 75) ∷ marked 6 (Got 76) ∷
    marked 5 (Sent 78 0 (messages.Request (tx 0 3) 1 1 (wants.Append 0 [] (own_line 1 0 4 ∷ [])))) ∷
    marked 5 (Sent 79 1 (messages.Request (tx 0 3) 1 1 (wants.Append 0 [] (own_line 1 0 4 ∷ [])))) ∷
    marked 5 (Sent 80 2 (messages.Request (tx 0 3) 1 1 (wants.Append 0 [] (own_line 1 0 4 ∷ [])))) ∷
    marked 5 (Sent 81 3 (messages.Request (tx 0 3) 1 1 (wants.Append 0 [] (own_line 1 0 4 ∷ [])))) ∷ marked 0 (Got 78) ∷
    marked 3 (Got 81) ∷ marked 1 (Got 79)
    ∷ marked 0 (Sent 82 5 (messages.Answer 78 (answers.Granted (whole_grant 1 0 [])))) ∷
    marked 2 (Wrote (prepare (tx 1 2) 1 (read_lock 0 0 ∷ []) (own_line 1 0 0 ∷ []) [])) ∷
    marked 2 (Sent 83 6 (messages.Answer 71 (answers.Yes 0))) ∷
    marked 1 (Sent 84 5 (messages.Answer 79 (answers.Clash (tx 1 2) 0 4))) ∷
    marked 1 (Sent 85 6 (messages.Inquiry (tx 1 2))) ∷ marked 5 (Got 82) ∷ marked 2 (Got 80) ∷ marked 5 (Got 84) ∷
    marked 6 (Got 83) ∷ marked 2 (Sent 86 5 (messages.Answer 80 (answers.Clash (tx 1 2) 0 4))) ∷
    marked 2 (Sent 87 6 (messages.Inquiry (tx 1 2))) ∷
    marked 6 (Wrote (commit (stamp 2 1) (tx 1 2) (operation 0 0 (Some 0) ∷ []))) ∷
    marked 6 (Sent 88 1 (messages.Decision (tx 1 2) (outcomes.Committed (stamp 2 1)))) ∷
    marked 6 (Sent 89 2 (messages.Decision (tx 1 2) (outcomes.Committed (stamp 2 1)))) ∷
    marked 6 (Sent 90 3 (messages.Decision (tx 1 2) (outcomes.Committed (stamp 2 1)))) ∷
    marked 6 (Sent 91 4 (messages.Decision (tx 1 2) (outcomes.Committed (stamp 2 1)))) ∷
    marked 6 (Told (replies.Committed (stamp 2 1))) ∷ marked 2 (Got 89) ∷ marked 5 (Got 86) ∷
    marked 3 (Sent 92 5 (messages.Answer 81 (answers.Clash (tx 1 2) 0 4))) ∷
    marked 3 (Sent 93 6 (messages.Inquiry (tx 1 2))) ∷ marked 5 (Got 92) ∷ marked 1 (Got 88) ∷
    marked 2 (Wrote (records.Done (tx 1 2) 2)) ∷ marked 1 (Wrote (records.Done (tx 1 2) 2)) ∷ marked 4 (Got 91) ∷
    marked 5 (Told (replies.Conflict (tx 1 2) 1)) ∷ marked 6 (Got 85) ∷ marked 5 (Called (commands.Do 0 2)) ∷
    marked 3 (Got 90) ∷ marked 5 (Told replies.Doomed) ∷ marked 4 (Wrote (records.Done (tx 1 2) 2)) ∷
    marked 5 (Called commands.Commit) ∷ marked 5 (Sent 94 0 (messages.Decision (tx 0 3) outcomes.Aborted)) ∷
    marked 5 (Sent 95 1 (messages.Decision (tx 0 3) outcomes.Aborted)) ∷
    marked 5 (Sent 96 2 (messages.Decision (tx 0 3) outcomes.Aborted)) ∷
    marked 5 (Sent 97 3 (messages.Decision (tx 0 3) outcomes.Aborted)) ∷
    marked 5 (Told (replies.Aborted causes.Doomed)) ∷ marked 1 (Got 95) ∷
    marked 6 (Sent 98 1 (messages.Decision (tx 1 2) (outcomes.Committed (stamp 2 1)))) ∷
    marked 3 (Wrote (records.Done (tx 1 2) 2)) ∷ marked 0 (Got 94) ∷ marked 1 (Got 98) ∷ marked 6 (Got 87) ∷
    marked 3 (Got 97) ∷ marked 6 (Sent 99 2 (messages.Decision (tx 1 2) (outcomes.Committed (stamp 2 1)))) ∷
    marked 6 (Got 93) ∷ marked 6 (Sent 100 3 (messages.Decision (tx 1 2) (outcomes.Committed (stamp 2 1)))) ∷
    marked 2 (Got 96) ∷ marked 2 (Got 99) ∷ marked 3 (Got 100) ∷ []
