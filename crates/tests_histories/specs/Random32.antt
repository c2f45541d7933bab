-- Random: sites 3, clients 2, steps 261, messages 100, lost 2, cuts 1, commits 2, aborts 1, conflicts 2, short rounds
-- 2, absent 2.
use Rattle.std.specs.Prelude.{List, [], ◌∷◌, Some, None}
use Rattle.qc_decl.specs.declared.declaration.Declaration.{Declaration}
use Rattle.qc_decl.specs.Vocabulary.{row}
use Rattle.qc_msg.specs.Vocabulary.{Entry, marked}
use Rattle.tests_histories.specs.Play.{Move, Takes, Posts, Acts}
use Rattle.tests_histories.specs.Words.{tx, stamp, line, own_line, operation, read_lock, prepare, commit, declaration}
use Rattle.tests_histories.specs.Words.{kind, pair, plan}
use Rattle.qc_msg.specs.declared.step.Step.TheVariants.{Phase, Cut, Heal, Called, Got, Lost, Wrote, Sent, Told}
use Rattle.qc_msg.specs.declared.message.Answer.TheVariants as answers
use Rattle.qc_msg.specs.declared.reply.AbortCause.TheVariants as causes
use Rattle.qc_msg.specs.declared.step.Command.TheVariants as commands
use Rattle.qc_msg.specs.declared.reply.Half.TheVariants as halves
use Rattle.qc_msg.specs.declared.message.Message.TheVariants as messages
use Rattle.qc_msg.specs.declared.message.Outcome.TheVariants as outcomes
use Rattle.qc_msg.specs.declared.record.Record.TheVariants as records
use Rattle.qc_msg.specs.declared.reply.Reply.TheVariants as replies
use Rattle.qc_msg.specs.declared.message.Want.TheVariants as wants
use Rattle.qc_msg.specs.Vocabulary.{whole_grant, first_read}

abbrev pub decl : Declaration
decl =
    declaration 3 2 (kind 4 3 3 0 (row 0 0 0 1 ∷ row 0 1 0 2 ∷ row 1 1 0 3 ∷ row 2 0 0 3 ∷ row 1 2 1 0 ∷ row 2 2 2 0 ∷
    row 3 2 1 2 ∷ row 3 2 2 1 ∷ []) (pair 0 0 ∷ pair 0 2 ∷ pair 1 1 ∷ pair 1 2 ∷ pair 1 3 ∷ pair 2 0 ∷ pair 2 1 ∷ pair 2
    2 ∷ pair 2 3 ∷ []) ∷ []) (0 ∷ []) (plan (1 ∷ 1 ∷ 1 ∷ []) ((3 ∷ 1 ∷ 3 ∷ []) ∷ []) ((2 ∷ 3 ∷ 3 ∷ 3 ∷ []) ∷ []) ∷ plan
    (3 ∷ 1 ∷ 1 ∷ []) ((3 ∷ 3 ∷ 3 ∷ []) ∷ []) ((3 ∷ 3 ∷ 3 ∷ 3 ∷ []) ∷ []) ∷ plan (1 ∷ 3 ∷ 1 ∷ []) ((3 ∷ 3 ∷ 3 ∷ []) ∷ [])
    ((3 ∷ 3 ∷ 3 ∷ 3 ∷ []) ∷ []) ∷ [])

abbrev pub moves : List Move
moves =
    Acts (Phase 1) ∷ Acts (Cut 3 1) ∷ Takes 3 (Called commands.Begin) ∷ Posts 3 ∷ Takes 4 (Called commands.Begin) ∷
    Posts 4 ∷ Takes 3 (Called (commands.Do 0 1)) ∷ Posts 3 ∷ Takes 0 (Got 0) ∷ Posts 0 ∷ Takes 3 (Got 1) ∷ Posts 3 ∷
    Takes 0 (Got 2) ∷ Posts 0 ∷ Takes 2 (Got 4) ∷ Posts 2 ∷ Takes 3 (Got 5) ∷ Posts 3 ∷ Takes 3 (Got 6) ∷ Posts 3 ∷
    Takes 3 (Lost 3) ∷ Posts 3 ∷ Takes 4 (Called (commands.Do 0 0)) ∷ Posts 4 ∷ Takes 1 (Got 7) ∷ Posts 1 ∷
    Takes 2 (Got 8) ∷ Posts 2 ∷ Takes 0 (Got 9) ∷ Posts 0 ∷ Takes 4 (Got 10) ∷ Posts 4 ∷ Takes 4 (Got 11) ∷ Posts 4 ∷
    Takes 4 (Got 12) ∷ Posts 4 ∷ Takes 1 (Got 13) ∷ Posts 1 ∷ Takes 2 (Got 14) ∷ Posts 2 ∷ Takes 4 (Got 15) ∷ Posts 4 ∷
    Takes 4 (Got 16) ∷ Posts 4 ∷ Takes 3 (Called commands.Abort) ∷ Posts 3 ∷ Takes 0 (Got 17) ∷ Posts 0 ∷
    Takes 2 (Got 19) ∷ Posts 2 ∷ Takes 4 (Called commands.Abort) ∷ Posts 4 ∷ Takes 0 (Got 20) ∷ Posts 0 ∷
    Takes 2 (Got 22) ∷ Posts 2 ∷ Acts (Phase 2) ∷ Acts (Heal 3 1) ∷ Takes 1 (Got 7) ∷ Posts 1 ∷ Takes 1 (Got 21) ∷
    Posts 1 ∷ Takes 4 (Got 23) ∷ Posts 4 ∷ Takes 3 (Called commands.Begin) ∷ Posts 3 ∷ Takes 4 (Called commands.Begin) ∷
    Posts 4 ∷ Takes 3 (Called (commands.Do 0 2)) ∷ Posts 3 ∷ Takes 0 (Got 24) ∷ Posts 0 ∷ Takes 2 (Got 26) ∷ Posts 2 ∷
    Takes 3 (Got 27) ∷ Posts 3 ∷ Takes 3 (Got 28) ∷ Posts 3 ∷ Takes 3 (Lost 25) ∷ Posts 3 ∷
    Takes 4 (Called (commands.Do 0 1)) ∷ Posts 4 ∷ Takes 1 (Got 29) ∷ Posts 1 ∷ Takes 4 (Got 30) ∷ Posts 4 ∷
    Takes 1 (Got 31) ∷ Posts 1 ∷ Takes 2 (Got 32) ∷ Posts 2 ∷ Takes 0 (Got 33) ∷ Posts 0 ∷ Takes 4 (Got 34) ∷ Posts 4 ∷
    Takes 4 (Got 35) ∷ Posts 4 ∷ Takes 3 (Got 36) ∷ Posts 3 ∷ Takes 4 (Got 37) ∷ Posts 4 ∷ Takes 3 (Got 38) ∷ Posts 3 ∷
    Takes 2 (Got 39) ∷ Posts 2 ∷ Takes 0 (Got 40) ∷ Posts 0 ∷ Takes 4 (Called commands.Abort) ∷ Posts 4 ∷
    Takes 0 (Got 41) ∷ Posts 0 ∷ Takes 1 (Got 42) ∷ Posts 1 ∷ Takes 2 (Got 43) ∷ Posts 2 ∷ Acts (Phase 3) ∷
    Takes 1 (Got 25) ∷ Posts 1 ∷ Takes 3 (Got 44) ∷ Posts 3 ∷ Takes 4 (Called commands.Begin) ∷ Posts 4 ∷
    Takes 4 (Called (commands.Do 0 0)) ∷ Posts 4 ∷ Takes 1 (Got 45) ∷ Posts 1 ∷ Takes 2 (Got 46) ∷ Posts 2 ∷
    Takes 0 (Got 47) ∷ Posts 0 ∷ Takes 4 (Got 48) ∷ Posts 4 ∷ Takes 4 (Got 49) ∷ Posts 4 ∷ Takes 4 (Got 50) ∷ Posts 4 ∷
    Takes 1 (Got 51) ∷ Posts 1 ∷ Takes 2 (Got 52) ∷ Posts 2 ∷ Takes 4 (Got 53) ∷ Posts 4 ∷ Takes 3 (Got 54) ∷ Posts 3 ∷
    Takes 4 (Got 55) ∷ Posts 4 ∷ Takes 3 (Got 56) ∷ Posts 3 ∷ Takes 1 (Got 57) ∷ Posts 1 ∷ Takes 2 (Got 58) ∷ Posts 2 ∷
    Takes 4 (Called commands.Commit) ∷ Posts 4 ∷ Takes 0 (Got 59) ∷ Posts 0 ∷ Takes 1 (Got 60) ∷ Posts 1 ∷
    Takes 2 (Got 61) ∷ Posts 2 ∷ Acts (Phase 4) ∷ Takes 3 (Called commands.Commit) ∷ Posts 3 ∷ Takes 0 (Got 62) ∷
    Posts 0 ∷ Takes 2 (Got 63) ∷ Posts 2 ∷ Takes 3 (Got 64) ∷ Posts 3 ∷ Takes 3 (Got 65) ∷ Posts 3 ∷ Takes 0 (Got 66) ∷
    Posts 0 ∷ Takes 1 (Got 67) ∷ Posts 1 ∷ Takes 2 (Got 68) ∷ Posts 2 ∷ Takes 4 (Called commands.Begin) ∷ Posts 4 ∷
    Takes 4 (Called (commands.Do 0 2)) ∷ Posts 4 ∷ Takes 1 (Got 69) ∷ Posts 1 ∷ Takes 2 (Got 70) ∷ Posts 2 ∷
    Takes 0 (Got 71) ∷ Posts 0 ∷ Takes 4 (Got 72) ∷ Posts 4 ∷ Takes 4 (Got 73) ∷ Posts 4 ∷ Takes 4 (Got 74) ∷ Posts 4 ∷
    Takes 4 (Called (commands.Do 0 0)) ∷ Posts 4 ∷ Takes 1 (Got 75) ∷ Posts 1 ∷ Takes 2 (Got 76) ∷ Posts 2 ∷
    Takes 0 (Got 77) ∷ Posts 0 ∷ Takes 4 (Got 78) ∷ Posts 4 ∷ Takes 4 (Got 79) ∷ Posts 4 ∷ Takes 4 (Got 80) ∷ Posts 4 ∷
    Takes 1 (Got 81) ∷ Posts 1 ∷ Takes 2 (Got 82) ∷ Posts 2 ∷ Takes 4 (Got 83) ∷ Posts 4 ∷ Takes 4 (Got 84) ∷ Posts 4 ∷
    Takes 4 (Called commands.Commit) ∷ Posts 4 ∷ Takes 1 (Got 85) ∷ Posts 1 ∷ Takes 2 (Got 86) ∷ Posts 2 ∷
    Takes 0 (Got 87) ∷ Posts 0 ∷ Takes 4 (Got 88) ∷ Posts 4 ∷ Takes 4 (Got 89) ∷ Posts 4 ∷ Takes 4 (Got 90) ∷ Posts 4 ∷
    Takes 0 (Got 91) ∷ Posts 0 ∷ Takes 1 (Got 92) ∷ Posts 1 ∷ Takes 2 (Got 93) ∷ Posts 2 ∷
    Takes 4 (Called commands.Begin) ∷ Posts 4 ∷ Takes 4 (Called (commands.Do 0 0)) ∷ Posts 4 ∷ Takes 1 (Got 94) ∷
    Posts 1 ∷ Takes 2 (Got 95) ∷ Posts 2 ∷ Takes 0 (Got 96) ∷ Posts 0 ∷ Takes 4 (Got 97) ∷ Posts 4 ∷ Takes 4 (Got 98) ∷
    Posts 4 ∷ Takes 4 (Got 99) ∷ Posts 4 ∷ []

abbrev pub history : List Entry
history =
    marked 6 (Phase 1) ∷ marked 6 (Cut 3 1) ∷ marked 3 (Called commands.Begin) ∷
    marked 3 (Told (replies.Began (tx 0 1))) ∷ marked 4 (Called commands.Begin) ∷
    marked 4 (Told (replies.Began (tx 1 1))) ∷ marked 3 (Called (commands.Do 0 1)) ∷
    marked 3 (Sent 0 0 (messages.Request (tx 0 1) 1 0 (wants.Read (first_read 0 1)))) ∷ marked 0 (Got 0) ∷
    marked 0 (Sent 1 3 (messages.Answer 0 (answers.Granted (whole_grant 1 0 [])))) ∷ marked 3 (Got 1) ∷
    marked 3 (Sent 2 0 (messages.Request (tx 0 1) 1 1 (wants.Append 0 [] (own_line 1 0 1 ∷ [])))) ∷
    marked 3 (Sent 3 1 (messages.Request (tx 0 1) 1 0 (wants.Append 0 [] (own_line 1 0 1 ∷ [])))) ∷
    marked 3 (Sent 4 2 (messages.Request (tx 0 1) 1 0 (wants.Append 0 [] (own_line 1 0 1 ∷ [])))) ∷ marked 0 (Got 2) ∷
    marked 0 (Sent 5 3 (messages.Answer 2 (answers.Granted (whole_grant 1 0 [])))) ∷ marked 2 (Got 4) ∷
    marked 2 (Sent 6 3 (messages.Answer 4 (answers.Granted (whole_grant 1 0 [])))) ∷ marked 3 (Got 5) ∷ marked 3 (Got 6)
    ∷
    marked 3 (Lost 3) ∷ marked 3 (Told (replies.Quorum halves.Append 2 3)) ∷ marked 4 (Called (commands.Do 0 0)) ∷
    marked 4 (Sent 7 1 (messages.Request (tx 1 1) 1 0 (wants.Read (first_read 0 0)))) ∷
    marked 4 (Sent 8 2 (messages.Request (tx 1 1) 1 0 (wants.Read (first_read 0 0)))) ∷
    marked 4 (Sent 9 0 (messages.Request (tx 1 1) 1 0 (wants.Read (first_read 0 0)))) ∷ marked 1 (Got 7) ∷
    marked 1 (Sent 10 4 (messages.Answer 7 (answers.Granted (whole_grant 1 0 [])))) ∷ marked 2 (Got 8) ∷
    marked 2 (Sent 11 4 (messages.Answer 8 (answers.Granted (whole_grant 1 0 [])))) ∷ marked 0 (Got 9) ∷
    marked 0 (Sent 12 4 (messages.Answer 9 (answers.Granted (whole_grant 1 0 [])))) ∷ marked 4 (Got 10)
    ∷ marked 4 (Got 11) ∷
    marked 4 (Got 12) ∷ marked 4 (Sent 13 1 (messages.Request (tx 1 1) 1 1 (wants.Append 0 [] (own_line 1 0 0 ∷ [])))) ∷
    marked 4 (Sent 14 2 (messages.Request (tx 1 1) 1 1 (wants.Append 0 [] (own_line 1 0 0 ∷ [])))) ∷ marked 1 (Got 13) ∷
    marked 1 (Sent 15 4 (messages.Answer 13 (answers.Granted (whole_grant 1 0 [])))) ∷ marked 2 (Got 14) ∷
    marked 2 (Sent 16 4 (messages.Answer 14 (answers.Granted (whole_grant 1 0 [])))) ∷ marked 4 (Got 15)
    ∷ marked 4 (Got 16) ∷
    marked 4 (Told (replies.Response 0)) ∷ marked 3 (Called commands.Abort) ∷
    marked 3 (Sent 17 0 (messages.Decision (tx 0 1) outcomes.Aborted)) ∷
    marked 3 (Sent 18 1 (messages.Decision (tx 0 1) outcomes.Aborted)) ∷
    marked 3 (Sent 19 2 (messages.Decision (tx 0 1) outcomes.Aborted)) ∷ marked 3 (Told replies.Dropped) ∷
    marked 0 (Got 17) ∷ marked 2 (Got 19) ∷ marked 4 (Called commands.Abort) ∷
    marked 4 (Sent 20 0 (messages.Decision (tx 1 1) outcomes.Aborted)) ∷
    marked 4 (Sent 21 1 (messages.Decision (tx 1 1) outcomes.Aborted)) ∷
    marked 4 (Sent 22 2 (messages.Decision (tx 1 1) outcomes.Aborted)) ∷ marked 4 (Told replies.Dropped) ∷
    marked 0 (Got 20) ∷ marked 2 (Got 22) ∷ marked 6 (Phase 2) ∷ marked 6 (Heal 3 1) ∷ marked 1 (Got 7) ∷
    marked 1 (Sent 23 4 (messages.Answer 7 (answers.Granted (whole_grant 1 0 [])))) ∷ marked 1 (Got 21)
    ∷ marked 4 (Got 23) ∷
    marked 3 (Called commands.Begin) ∷ marked 3 (Told (replies.Began (tx 0 2))) ∷ marked 4 (Called commands.Begin) ∷
    marked 4 (Told (replies.Began (tx 1 2))) ∷ marked 3 (Called (commands.Do 0 2)) ∷
    marked 3 (Sent 24 0 (messages.Request (tx 0 2) 1 0 (wants.Read (first_read 0 2)))) ∷
    marked 3 (Sent 25 1 (messages.Request (tx 0 2) 1 0 (wants.Read (first_read 0 2)))) ∷
    marked 3 (Sent 26 2 (messages.Request (tx 0 2) 1 0 (wants.Read (first_read 0 2)))) ∷ marked 0 (Got 24) ∷
    marked 0 (Sent 27 3 (messages.Answer 24 (answers.Granted (whole_grant 1 0 [])))) ∷ marked 2 (Got 26) ∷
    marked 2 (Sent 28 3 (messages.Answer 26 (answers.Granted (whole_grant 1 0 [])))) ∷ marked 3 (Got 27)
    ∷ marked 3 (Got 28) ∷
    marked 3 (Lost 25) ∷ marked 3 (Told (replies.Quorum halves.Read 2 3)) ∷ marked 4 (Called (commands.Do 0 1)) ∷
    marked 4 (Sent 29 1 (messages.Request (tx 1 2) 1 0 (wants.Read (first_read 0 1)))) ∷ marked 1 (Got 29) ∷
    marked 1 (Sent 30 4 (messages.Answer 29 (answers.Granted (whole_grant 1 0 [])))) ∷ marked 4 (Got 30) ∷
    marked 4 (Sent 31 1 (messages.Request (tx 1 2) 1 1 (wants.Append 0 [] (own_line 1 0 1 ∷ [])))) ∷
    marked 4 (Sent 32 2 (messages.Request (tx 1 2) 1 0 (wants.Append 0 [] (own_line 1 0 1 ∷ [])))) ∷
    marked 4 (Sent 33 0 (messages.Request (tx 1 2) 1 0 (wants.Append 0 [] (own_line 1 0 1 ∷ [])))) ∷ marked 1 (Got 31) ∷
    marked 1 (Sent 34 4 (messages.Answer 31 (answers.Granted (whole_grant 1 0 [])))) ∷ marked 2 (Got 32) ∷
    marked 2 (Sent 35 4 (messages.Answer 32 (answers.Clash (tx 0 2) 2 1))) ∷
    marked 2 (Sent 36 3 (messages.Inquiry (tx 0 2))) ∷ marked 0 (Got 33) ∷
    marked 0 (Sent 37 4 (messages.Answer 33 (answers.Clash (tx 0 2) 2 1))) ∷
    marked 0 (Sent 38 3 (messages.Inquiry (tx 0 2))) ∷ marked 4 (Got 34) ∷ marked 4 (Got 35) ∷ marked 3 (Got 36) ∷
    marked 3 (Sent 39 2 (messages.Decision (tx 0 2) outcomes.Active)) ∷ marked 4 (Got 37) ∷
    marked 4 (Told (replies.Conflict (tx 0 2) 2)) ∷ marked 3 (Got 38) ∷
    marked 3 (Sent 40 0 (messages.Decision (tx 0 2) outcomes.Active)) ∷ marked 2 (Got 39) ∷ marked 0 (Got 40) ∷
    marked 4 (Called commands.Abort) ∷ marked 4 (Sent 41 0 (messages.Decision (tx 1 2) outcomes.Aborted)) ∷
    marked 4 (Sent 42 1 (messages.Decision (tx 1 2) outcomes.Aborted)) ∷
    marked 4 (Sent 43 2 (messages.Decision (tx 1 2) outcomes.Aborted)) ∷ marked 4 (Told replies.Dropped) ∷
    marked 0 (Got 41) ∷ marked 1 (Got 42) ∷ marked 2 (Got 43) ∷ marked 6 (Phase 3) ∷ marked 1 (Got 25) ∷
    marked 1 (Sent 44 3 (messages.Answer 25 (answers.Granted (whole_grant 1 0 [])))) ∷ marked 3 (Got 44) ∷
    marked 4 (Called commands.Begin) ∷ marked 4 (Told (replies.Began (tx 1 3))) ∷ marked 4 (Called (commands.Do 0 0)) ∷
    marked 4 (Sent 45 1 (messages.Request (tx 1 3) 1 0 (wants.Read (first_read 0 0)))) ∷
    marked 4 (Sent 46 2 (messages.Request (tx 1 3) 1 0 (wants.Read (first_read 0 0)))) ∷
    marked 4 (Sent 47 0 (messages.Request (tx 1 3) 1 0 (wants.Read (first_read 0 0)))) ∷ marked 1 (Got 45) ∷
    marked 1 (Sent 48 4 (messages.Answer 45 (answers.Granted (whole_grant 1 0 [])))) ∷ marked 2 (Got 46) ∷
    marked 2 (Sent 49 4 (messages.Answer 46 (answers.Granted (whole_grant 1 0 [])))) ∷ marked 0 (Got 47) ∷
    marked 0 (Sent 50 4 (messages.Answer 47 (answers.Granted (whole_grant 1 0 [])))) ∷ marked 4 (Got 48)
    ∷ marked 4 (Got 49) ∷
    marked 4 (Got 50) ∷ marked 4 (Sent 51 1 (messages.Request (tx 1 3) 1 1 (wants.Append 0 [] (own_line 1 0 0 ∷ [])))) ∷
    marked 4 (Sent 52 2 (messages.Request (tx 1 3) 1 1 (wants.Append 0 [] (own_line 1 0 0 ∷ [])))) ∷ marked 1 (Got 51) ∷
    marked 1 (Sent 53 4 (messages.Answer 51 (answers.Clash (tx 0 2) 2 0))) ∷
    marked 1 (Sent 54 3 (messages.Inquiry (tx 0 2))) ∷ marked 2 (Got 52) ∷
    marked 2 (Sent 55 4 (messages.Answer 52 (answers.Clash (tx 0 2) 2 0))) ∷
    marked 2 (Sent 56 3 (messages.Inquiry (tx 0 2))) ∷ marked 4 (Got 53) ∷ marked 3 (Got 54) ∷
    marked 3 (Sent 57 1 (messages.Decision (tx 0 2) outcomes.Active)) ∷ marked 4 (Got 55) ∷
    marked 4 (Told (replies.Conflict (tx 0 2) 1)) ∷ marked 3 (Got 56) ∷
    marked 3 (Sent 58 2 (messages.Decision (tx 0 2) outcomes.Active)) ∷ marked 1 (Got 57) ∷ marked 2 (Got 58) ∷
    marked 4 (Called commands.Commit) ∷ marked 4 (Sent 59 0 (messages.Decision (tx 1 3) outcomes.Aborted)) ∷
    marked 4 (Sent 60 1 (messages.Decision (tx 1 3) outcomes.Aborted)) ∷
    marked 4 (Sent 61 2 (messages.Decision (tx 1 3) outcomes.Aborted)) ∷
    marked 4 (Told (replies.Aborted causes.Doomed)) ∷ marked 0 (Got 59) ∷ marked 1 (Got 60) ∷ marked 2 (Got 61) ∷
    marked 6 (Phase 4) ∷ marked 3 (Called commands.Commit) ∷
    marked 3 (Sent 62 0 (messages.Request (tx 0 2) 1 1 wants.Prepare)) ∷
    marked 3 (Sent 63 2 (messages.Request (tx 0 2) 1 1 wants.Prepare)) ∷ marked 0 (Got 62) ∷
    marked 0 (Wrote (prepare (tx 0 2) 1 (read_lock 0 2 ∷ []) [] [])) ∷
    marked 0 (Sent 64 3 (messages.Answer 62 (answers.Yes 0))) ∷ marked 2 (Got 63) ∷
    marked 2 (Wrote (prepare (tx 0 2) 1 (read_lock 0 2 ∷ []) [] [])) ∷
    marked 2 (Sent 65 3 (messages.Answer 63 (answers.Yes 0))) ∷ marked 3 (Got 64) ∷ marked 3 (Got 65) ∷
    marked 3 (Wrote (commit (stamp 1 0) (tx 0 2) [])) ∷
    marked 3 (Sent 66 0 (messages.Decision (tx 0 2) (outcomes.Committed (stamp 1 0)))) ∷
    marked 3 (Sent 67 1 (messages.Decision (tx 0 2) (outcomes.Committed (stamp 1 0)))) ∷
    marked 3 (Sent 68 2 (messages.Decision (tx 0 2) (outcomes.Committed (stamp 1 0)))) ∷
    marked 3 (Told (replies.Committed (stamp 1 0))) ∷ marked 0 (Got 66) ∷ marked 0 (Wrote (records.Done (tx 0 2) 1)) ∷
    marked 1 (Got 67) ∷ marked 2 (Got 68) ∷ marked 2 (Wrote (records.Done (tx 0 2) 1)) ∷
    marked 4 (Called commands.Begin) ∷ marked 4 (Told (replies.Began (tx 1 4))) ∷ marked 4 (Called (commands.Do 0 2)) ∷
    marked 4 (Sent 69 1 (messages.Request (tx 1 4) 1 0 (wants.Read (first_read 0 2)))) ∷
    marked 4 (Sent 70 2 (messages.Request (tx 1 4) 1 0 (wants.Read (first_read 0 2)))) ∷
    marked 4 (Sent 71 0 (messages.Request (tx 1 4) 1 0 (wants.Read (first_read 0 2)))) ∷ marked 1 (Got 69) ∷
    marked 1 (Sent 72 4 (messages.Answer 69 (answers.Granted (whole_grant 1 1 [])))) ∷ marked 2 (Got 70) ∷
    marked 2 (Sent 73 4 (messages.Answer 70 (answers.Granted (whole_grant 1 1 [])))) ∷ marked 0 (Got 71) ∷
    marked 0 (Sent 74 4 (messages.Answer 71 (answers.Granted (whole_grant 1 1 [])))) ∷ marked 4 (Got 72)
    ∷ marked 4 (Got 73) ∷
    marked 4 (Got 74) ∷ marked 4 (Told replies.Absent) ∷ marked 4 (Called (commands.Do 0 0)) ∷
    marked 4 (Sent 75 1 (messages.Request (tx 1 4) 1 1 (wants.Read (first_read 0 0)))) ∷
    marked 4 (Sent 76 2 (messages.Request (tx 1 4) 1 1 (wants.Read (first_read 0 0)))) ∷
    marked 4 (Sent 77 0 (messages.Request (tx 1 4) 1 1 (wants.Read (first_read 0 0)))) ∷ marked 1 (Got 75) ∷
    marked 1 (Sent 78 4 (messages.Answer 75 (answers.Granted (whole_grant 1 1 [])))) ∷ marked 2 (Got 76) ∷
    marked 2 (Sent 79 4 (messages.Answer 76 (answers.Granted (whole_grant 1 1 [])))) ∷ marked 0 (Got 77) ∷
    marked 0 (Sent 80 4 (messages.Answer 77 (answers.Granted (whole_grant 1 1 [])))) ∷ marked 4 (Got 78)
    ∷ marked 4 (Got 79) ∷
    marked 4 (Got 80) ∷ marked 4 (Sent 81 1 (messages.Request (tx 1 4) 1 1 (wants.Append 0 [] (own_line 2 0 0 ∷ [])))) ∷
    marked 4 (Sent 82 2 (messages.Request (tx 1 4) 1 1 (wants.Append 0 [] (own_line 2 0 0 ∷ [])))) ∷ marked 1 (Got 81) ∷
    marked 1 (Sent 83 4 (messages.Answer 81 (answers.Granted (whole_grant 1 1 [])))) ∷ marked 2 (Got 82) ∷
    marked 2 (Sent 84 4 (messages.Answer 82 (answers.Granted (whole_grant 1 1 [])))) ∷ marked 4 (Got 83)
    ∷ marked 4 (Got 84) ∷
    marked 4 (Told (replies.Response 0)) ∷ marked 4 (Called commands.Commit) ∷
    marked 4 (Sent 85 1 (messages.Request (tx 1 4) 1 1 wants.Prepare)) ∷
    marked 4 (Sent 86 2 (messages.Request (tx 1 4) 1 1 wants.Prepare)) ∷
    marked 4 (Sent 87 0 (messages.Request (tx 1 4) 1 1 wants.Prepare)) ∷ marked 1 (Got 85) ∷
    marked 1 (Wrote (prepare (tx 1 4) 1 (read_lock 0 0 ∷ read_lock 0 2 ∷ []) (own_line 2 0 0 ∷ []) [])) ∷
    marked 1 (Sent 88 4 (messages.Answer 85 (answers.Yes 1))) ∷ marked 2 (Got 86) ∷
    marked 2 (Wrote (prepare (tx 1 4) 1 (read_lock 0 0 ∷ read_lock 0 2 ∷ []) (own_line 2 0 0 ∷ []) [])) ∷
    marked 2 (Sent 89 4 (messages.Answer 86 (answers.Yes 1))) ∷ marked 0 (Got 87) ∷
    marked 0 (Wrote (prepare (tx 1 4) 1 (read_lock 0 0 ∷ read_lock 0 2 ∷ []) [] [])) ∷
    marked 0 (Sent 90 4 (messages.Answer 87 (answers.Yes 1))) ∷ marked 4 (Got 88) ∷ marked 4 (Got 89) ∷
    marked 4 (Got 90) ∷
    marked 4 (Wrote (commit (stamp 2 1) (tx 1 4) (operation 0 2 None ∷ operation 0 0 (Some 0) ∷ []))) ∷
    marked 4 (Sent 91 0 (messages.Decision (tx 1 4) (outcomes.Committed (stamp 2 1)))) ∷
    marked 4 (Sent 92 1 (messages.Decision (tx 1 4) (outcomes.Committed (stamp 2 1)))) ∷
    marked 4 (Sent 93 2 (messages.Decision (tx 1 4) (outcomes.Committed (stamp 2 1)))) ∷
    marked 4 (Told (replies.Committed (stamp 2 1))) ∷ marked 0 (Got 91) ∷ marked 0 (Wrote (records.Done (tx 1 4) 2)) ∷
    marked 1 (Got 92) ∷ marked 1 (Wrote (records.Done (tx 1 4) 2)) ∷ marked 2 (Got 93) ∷
    marked 2 (Wrote (records.Done (tx 1 4) 2)) ∷ marked 4 (Called commands.Begin) ∷
    marked 4 (Told (replies.Began (tx 1 5))) ∷ marked 4 (Called (commands.Do 0 0)) ∷
    marked 4 (Sent 94 1 (messages.Request (tx 1 5) 1 0 (wants.Read (first_read 0 0)))) ∷
    marked 4 (Sent 95 2 (messages.Request (tx 1 5) 1 0 (wants.Read (first_read 0 0)))) ∷
    marked 4 (Sent 96 0 (messages.Request (tx 1 5) 1 0 (wants.Read (first_read 0 0)))) ∷ marked 1 (Got 94) ∷
    marked 1 (Sent 97 4 (messages.Answer 94 (answers.Granted (whole_grant 1 2 (line 2 1 4 2 0 0 ∷ [])))))
    ∷ marked 2 (Got 95) ∷
    marked 2 (Sent 98 4 (messages.Answer 95 (answers.Granted (whole_grant 1 2 (line 2 1 4 2 0 0 ∷ [])))))
    ∷ marked 0 (Got 96) ∷
    marked 0 (Sent 99 4 (messages.Answer 96 (answers.Granted (whole_grant 1 2 [])))) ∷ marked 4 (Got 97)
    ∷ marked 4 (Got 98) ∷
    marked 4 (Got 99) ∷ marked 4 (Told replies.Absent) ∷ []
