-- Random: sites 3, clients 4, steps 288, messages 107, commits 2, aborts 2, conflicts 4.
use Rattle.std.specs.Prelude.{List, [], ◌∷◌, Some}
use Rattle.qc_decl.specs.declared.declaration.Declaration.{Declaration}
use Rattle.qc_decl.specs.Vocabulary.{row}
use Rattle.qc_msg.specs.Vocabulary.{Entry, marked}
use Rattle.tests_histories.specs.Play.{Move, Takes, Posts, Acts}
use Rattle.tests_histories.specs.Words.{tx, stamp, line, own_line, operation, read_lock, prepare, commit, declaration}
use Rattle.tests_histories.specs.Words.{kind, pair, plan}
use Rattle.qc_msg.specs.declared.step.Step.TheVariants.{Phase, Called, Got, Wrote, Sent, Told}
use Rattle.qc_msg.specs.declared.message.Answer.TheVariants as answers
use Rattle.qc_msg.specs.declared.reply.AbortCause.TheVariants as causes
use Rattle.qc_msg.specs.declared.step.Command.TheVariants as commands
use Rattle.qc_msg.specs.declared.message.Message.TheVariants as messages
use Rattle.qc_msg.specs.declared.message.Outcome.TheVariants as outcomes
use Rattle.qc_msg.specs.declared.record.Record.TheVariants as records
use Rattle.qc_msg.specs.declared.reply.Reply.TheVariants as replies
use Rattle.qc_msg.specs.declared.message.Want.TheVariants as wants
use Rattle.qc_msg.specs.Vocabulary.{whole_grant, first_read}

abbrev pub decl : Declaration
decl =
    declaration 3 4 (kind 7 3 4 0 (row 0 0 0 1 ∷ row 0 1 0 2 ∷ row 1 0 0 3 ∷ row 1 1 0 4 ∷ row 2 0 0 5 ∷ row 2 1 0 6 ∷
    row 0 2 3 0 ∷ row 1 2 1 0 ∷ row 2 2 2 0 ∷ row 3 2 1 1 ∷ row 4 2 1 2 ∷ row 5 2 2 1 ∷ row 6 2 2 2 ∷ []) (pair 0 0 ∷
    pair 0 1 ∷ pair 0 3 ∷ pair 0 4 ∷ pair 1 0 ∷ pair 1 1 ∷ pair 1 3 ∷ pair 1 4 ∷ pair 2 0 ∷ pair 2 1 ∷ pair 2 2 ∷ pair 2
    3 ∷ pair 2 4 ∷ []) ∷ kind 3 3 5 0 (row 0 0 0 1 ∷ row 1 0 0 2 ∷ row 2 0 1 2 ∷ row 0 1 1 0 ∷ row 1 1 0 0 ∷ row 2 1 0 1
    ∷ row 0 2 2 0 ∷ row 1 2 3 1 ∷ row 2 2 4 2 ∷ []) (pair 0 0 ∷ pair 0 3 ∷ pair 1 0 ∷ pair 1 2 ∷ pair 1 3 ∷ pair 2 0 ∷
    pair 2 1 ∷ pair 2 3 ∷ pair 2 4 ∷ []) ∷ []) (1 ∷ []) (plan (1 ∷ 2 ∷ 1 ∷ []) ((2 ∷ 1 ∷ 1 ∷ []) ∷ []) ((4 ∷ 4 ∷ 4 ∷ 4 ∷
    4 ∷ 2 ∷ 0 ∷ []) ∷ []) ∷ [])

abbrev pub moves : List Move
moves =
    Acts (Phase 1) ∷ Takes 5 (Called commands.Begin) ∷ Takes 4 (Called commands.Begin) ∷ Posts 4 ∷
    Takes 4 (Called (commands.Do 0 2)) ∷ Posts 4 ∷ Posts 5 ∷ Takes 1 (Got 0) ∷ Posts 1 ∷ Takes 4 (Got 1) ∷
    Takes 5 (Called (commands.Do 0 1)) ∷ Posts 5 ∷ Takes 2 (Got 2) ∷ Posts 2 ∷ Posts 4 ∷ Takes 5 (Got 3) ∷
    Takes 1 (Got 4) ∷ Posts 5 ∷ Takes 0 (Got 6) ∷ Posts 1 ∷ Takes 1 (Got 9) ∷ Posts 0 ∷ Takes 4 (Got 10) ∷ Posts 4 ∷
    Takes 2 (Got 5) ∷ Takes 4 (Got 11) ∷ Posts 4 ∷ Posts 2 ∷ Posts 1 ∷ Takes 0 (Got 8) ∷ Takes 4 (Got 12) ∷
    Takes 5 (Got 13) ∷ Posts 5 ∷ Posts 0 ∷ Takes 5 (Got 14) ∷ Posts 5 ∷ Posts 4 ∷ Takes 2 (Got 7) ∷ Posts 2 ∷
    Takes 5 (Got 15) ∷ Posts 5 ∷ Takes 5 (Called (commands.Do 0 2)) ∷ Posts 5 ∷ Takes 2 (Got 16) ∷ Posts 2 ∷
    Takes 4 (Got 18) ∷ Takes 5 (Got 17) ∷ Posts 4 ∷ Takes 2 (Got 19) ∷ Posts 2 ∷ Posts 5 ∷
    Takes 5 (Called (commands.Do 0 1)) ∷ Posts 5 ∷ Takes 2 (Got 20) ∷ Posts 2 ∷ Takes 5 (Got 21) ∷ Posts 5 ∷
    Takes 0 (Got 23) ∷ Takes 2 (Got 22) ∷ Posts 0 ∷ Takes 5 (Got 25) ∷ Posts 5 ∷ Takes 1 (Got 24) ∷ Posts 2 ∷
    Takes 5 (Got 26) ∷ Posts 5 ∷ Posts 1 ∷ Takes 5 (Got 27) ∷ Posts 5 ∷ Takes 5 (Called commands.Commit) ∷ Posts 5 ∷
    Takes 2 (Got 28) ∷ Takes 1 (Got 30) ∷ Posts 2 ∷ Takes 5 (Got 31) ∷ Posts 5 ∷ Takes 0 (Got 29) ∷ Posts 1 ∷ Posts 0 ∷
    Takes 5 (Got 32) ∷ Posts 5 ∷ Takes 5 (Got 33) ∷ Posts 5 ∷ Takes 2 (Got 36) ∷ Takes 5 (Called commands.Begin) ∷
    Posts 5 ∷ Takes 5 (Called (commands.Do 0 0)) ∷ Posts 2 ∷ Posts 5 ∷ Takes 1 (Got 35) ∷ Takes 0 (Got 34) ∷ Posts 1 ∷
    Takes 2 (Got 37) ∷ Posts 2 ∷ Posts 0 ∷ Takes 0 (Got 38) ∷ Takes 5 (Got 39) ∷ Posts 5 ∷ Posts 0 ∷ Takes 5 (Got 40) ∷
    Posts 5 ∷ Takes 1 (Got 43) ∷ Takes 2 (Got 41) ∷ Takes 0 (Got 42) ∷ Posts 0 ∷ Posts 1 ∷ Posts 2 ∷ Takes 5 (Got 44) ∷
    Posts 5 ∷ Takes 5 (Got 45) ∷ Posts 5 ∷ Takes 4 (Got 46) ∷ Posts 4 ∷ Takes 1 (Got 48) ∷ Posts 1 ∷ Takes 5 (Got 47) ∷
    Posts 5 ∷ Acts (Phase 2) ∷ Takes 3 (Called commands.Begin) ∷ Posts 3 ∷ Takes 5 (Called (commands.Do 0 2)) ∷
    Takes 3 (Called (commands.Do 0 0)) ∷ Takes 6 (Called commands.Begin) ∷ Takes 0 (Got 6) ∷ Posts 5 ∷ Posts 0 ∷
    Takes 4 (Got 49) ∷ Posts 4 ∷ Posts 6 ∷ Takes 5 (Called commands.Commit) ∷ Takes 0 (Got 8) ∷
    Takes 6 (Called (commands.Do 0 1)) ∷ Posts 5 ∷ Posts 3 ∷ Takes 2 (Got 52) ∷ Posts 2 ∷ Posts 6 ∷ Takes 1 (Got 51) ∷
    Posts 1 ∷ Posts 0 ∷ Takes 0 (Got 23) ∷ Takes 5 (Got 56) ∷ Posts 5 ∷ Posts 0 ∷ Takes 5 (Got 57) ∷ Posts 5 ∷
    Takes 1 (Got 54) ∷ Posts 1 ∷ Takes 3 (Got 58) ∷ Posts 3 ∷ Takes 0 (Got 29) ∷ Posts 0 ∷ Takes 0 (Got 34) ∷ Posts 0 ∷
    Takes 0 (Got 38) ∷ Takes 5 (Got 59) ∷ Posts 5 ∷ Posts 0 ∷ Takes 0 (Got 42) ∷ Takes 5 (Got 60) ∷ Posts 5 ∷ Posts 0 ∷
    Takes 5 (Got 61) ∷ Posts 5 ∷ Takes 0 (Got 50) ∷ Posts 0 ∷ Takes 0 (Got 53) ∷ Posts 0 ∷ Takes 3 (Got 62) ∷ Posts 3 ∷
    Takes 1 (Got 64) ∷ Takes 0 (Got 55) ∷ Takes 2 (Got 65) ∷ Posts 2 ∷ Takes 3 (Got 66) ∷ Posts 3 ∷ Posts 1 ∷
    Takes 4 (Got 68) ∷ Posts 0 ∷ Takes 6 (Got 69) ∷ Posts 4 ∷ Takes 0 (Got 63) ∷ Posts 6 ∷ Takes 3 (Got 67) ∷ Posts 3 ∷
    Posts 0 ∷ Takes 6 (Got 75) ∷ Takes 1 (Got 70) ∷ Posts 1 ∷ Posts 6 ∷ Takes 3 (Got 74) ∷ Takes 2 (Got 73) ∷ Posts 2 ∷
    Takes 6 (Got 77) ∷ Posts 6 ∷ Posts 3 ∷ Takes 3 (Called (commands.Do 0 2)) ∷ Takes 0 (Got 71) ∷ Takes 1 (Got 72) ∷
    Posts 1 ∷ Posts 0 ∷ Takes 6 (Got 78) ∷ Posts 6 ∷ Takes 0 (Got 76) ∷ Posts 0 ∷ Takes 6 (Got 79) ∷ Posts 3 ∷ Posts 6 ∷
    Takes 6 (Called (commands.Do 0 0)) ∷ Posts 6 ∷ Takes 1 (Got 81) ∷ Posts 1 ∷ Takes 6 (Got 82) ∷ Posts 6 ∷
    Takes 0 (Got 80) ∷ Posts 0 ∷ Takes 6 (Got 83) ∷ Posts 6 ∷ Takes 1 (Got 85) ∷ Posts 1 ∷ Takes 3 (Got 88) ∷
    Takes 6 (Got 87) ∷ Posts 6 ∷ Takes 0 (Got 84) ∷ Takes 2 (Got 86) ∷ Posts 2 ∷ Posts 0 ∷ Takes 6 (Got 89) ∷ Posts 6 ∷
    Posts 3 ∷ Takes 3 (Got 91) ∷ Takes 6 (Got 90) ∷ Posts 6 ∷ Takes 6 (Called commands.Commit) ∷ Takes 1 (Got 92) ∷
    Posts 1 ∷ Posts 6 ∷ Posts 3 ∷ Takes 0 (Got 93) ∷ Posts 0 ∷ Takes 2 (Got 95) ∷ Posts 2 ∷ Takes 1 (Got 94) ∷ Posts 1 ∷
    Takes 0 (Got 96) ∷ Posts 0 ∷ Acts (Phase 3) ∷ Takes 5 (Called commands.Begin) ∷ Posts 5 ∷
    Takes 5 (Called commands.Commit) ∷ Takes 6 (Called (commands.Do 0 2)) ∷ Posts 5 ∷ Posts 6 ∷ Takes 0 (Got 50) ∷
    Posts 0 ∷ Takes 0 (Got 53) ∷ Posts 0 ∷ Takes 6 (Called commands.Abort) ∷ Takes 0 (Got 55) ∷ Posts 6 ∷ Posts 0 ∷
    Takes 0 (Got 63) ∷ Takes 6 (Got 98) ∷ Posts 6 ∷ Posts 0 ∷ Takes 0 (Got 71) ∷ Posts 0 ∷ Takes 6 (Got 100) ∷
    Takes 3 (Got 97) ∷ Posts 3 ∷ Posts 6 ∷ Takes 6 (Got 101) ∷ Posts 6 ∷ Takes 0 (Got 76) ∷ Posts 0 ∷ Takes 0 (Got 80) ∷
    Posts 0 ∷ Takes 6 (Got 103) ∷ Posts 6 ∷ Takes 0 (Got 84) ∷ Posts 0 ∷ Takes 6 (Got 104) ∷ Posts 6 ∷
    Takes 0 (Got 93) ∷ Posts 0 ∷ Takes 0 (Got 96) ∷ Posts 0 ∷ Takes 0 (Got 102) ∷ Posts 0 ∷ Takes 3 (Got 99) ∷ Posts 3 ∷
    Takes 3 (Got 105) ∷ Posts 3 ∷ Takes 0 (Got 106) ∷ Posts 0 ∷ []

abbrev pub history : List Entry
history =
    marked 8 (Phase 1) ∷ marked 5 (Called commands.Begin) ∷ marked 4 (Called commands.Begin) ∷
    marked 4 (Told (replies.Began (tx 1 1))) ∷ marked 4 (Called (commands.Do 0 2)) ∷
    marked 4 (Sent 0 1 (messages.Request (tx 1 1) 1 0 (wants.Read (first_read 0 2))))
    ∷ marked 5 (Told (replies.Began (tx 2 1))) ∷
    marked 1 (Got 0) ∷ marked 1 (Sent 1 4 (messages.Answer 0 (answers.Granted (whole_grant 1 0 [])))) ∷ marked 4 (Got 1)
    ∷
    marked 5 (Called (commands.Do 0 1)) ∷
    marked 5 (Sent 2 2 (messages.Request (tx 2 1) 1 0 (wants.Read (first_read 0 1))))
    ∷
    marked 2 (Got 2) ∷ marked 2 (Sent 3 5 (messages.Answer 2 (answers.Granted (whole_grant 1 0 [])))) ∷
    marked 4 (Sent 4 1 (messages.Request (tx 1 1) 1 1 (wants.Append 0 [] (own_line 1 0 4 ∷ [])))) ∷
    marked 4 (Sent 5 2 (messages.Request (tx 1 1) 1 0 (wants.Append 0 [] (own_line 1 0 4 ∷ [])))) ∷
    marked 4 (Sent 6 0 (messages.Request (tx 1 1) 1 0 (wants.Append 0 [] (own_line 1 0 4 ∷ [])))) ∷ marked 5 (Got 3) ∷
    marked 1 (Got 4) ∷ marked 5 (Sent 7 2 (messages.Request (tx 2 1) 1 1 (wants.Append 0 [] (own_line 1 0 2 ∷ [])))) ∷
    marked 5 (Sent 8 0 (messages.Request (tx 2 1) 1 0 (wants.Append 0 [] (own_line 1 0 2 ∷ [])))) ∷
    marked 5 (Sent 9 1 (messages.Request (tx 2 1) 1 0 (wants.Append 0 [] (own_line 1 0 2 ∷ [])))) ∷ marked 0 (Got 6) ∷
    marked 1 (Sent 10 4 (messages.Answer 4 (answers.Granted (whole_grant 1 0 [])))) ∷ marked 1 (Got 9) ∷
    marked 0 (Sent 11 4 (messages.Answer 6 (answers.Granted (whole_grant 1 0 [])))) ∷ marked 4 (Got 10)
    ∷ marked 2 (Got 5) ∷
    marked 4 (Got 11) ∷ marked 2 (Sent 12 4 (messages.Answer 5 (answers.Granted (whole_grant 1 0 [])))) ∷
    marked 1 (Sent 13 5 (messages.Answer 9 (answers.Granted (whole_grant 1 0 [])))) ∷ marked 0 (Got 8)
    ∷ marked 4 (Got 12) ∷
    marked 5 (Got 13) ∷ marked 0 (Sent 14 5 (messages.Answer 8 (answers.Granted (whole_grant 1 0 []))))
    ∷ marked 5 (Got 14) ∷
    marked 4 (Told (replies.Response 2)) ∷ marked 2 (Got 7) ∷
    marked 2 (Sent 15 5 (messages.Answer 7 (answers.Granted (whole_grant 1 0 [])))) ∷ marked 5 (Got 15) ∷
    marked 5 (Told (replies.Response 1)) ∷ marked 5 (Called (commands.Do 0 2)) ∷
    marked 5 (Sent 16 2 (messages.Request (tx 2 1) 1 1 (wants.Read (first_read 0 2)))) ∷ marked 2 (Got 16) ∷
    marked 2 (Sent 17 5 (messages.Answer 16 (answers.Clash (tx 1 1) 2 4))) ∷
    marked 2 (Sent 18 4 (messages.Inquiry (tx 1 1))) ∷ marked 4 (Got 18) ∷ marked 5 (Got 17) ∷
    marked 4 (Sent 19 2 (messages.Decision (tx 1 1) outcomes.Active)) ∷ marked 2 (Got 19) ∷
    marked 5 (Told (replies.Conflict (tx 1 1) 2)) ∷ marked 5 (Called (commands.Do 0 1)) ∷
    marked 5 (Sent 20 2 (messages.Request (tx 2 1) 1 1 (wants.Read (first_read 0 1)))) ∷ marked 2 (Got 20) ∷
    marked 2 (Sent 21 5 (messages.Answer 20 (answers.Granted (whole_grant 1 0 [])))) ∷ marked 5 (Got 21) ∷
    marked 5 (Sent 22 2 (messages.Request (tx 2 1) 1 1 (wants.Append 0 [] (own_line 1 0 2 ∷ own_line 2 0 2 ∷ [])))) ∷
    marked 5 (Sent 23 0 (messages.Request (tx 2 1) 1 1 (wants.Append 0 [] (own_line 1 0 2 ∷ own_line 2 0 2 ∷ [])))) ∷
    marked 5 (Sent 24 1 (messages.Request (tx 2 1) 1 1 (wants.Append 0 [] (own_line 1 0 2 ∷ own_line 2 0 2 ∷ [])))) ∷
    marked 0 (Got 23) ∷ marked 2 (Got 22)
    ∷ marked 0 (Sent 25 5 (messages.Answer 23 (answers.Granted (whole_grant 1 0 [])))) ∷
    marked 5 (Got 25) ∷ marked 1 (Got 24)
    ∷ marked 2 (Sent 26 5 (messages.Answer 22 (answers.Granted (whole_grant 1 0 [])))) ∷
    marked 5 (Got 26) ∷ marked 1 (Sent 27 5 (messages.Answer 24 (answers.Granted (whole_grant 1 0 []))))
    ∷ marked 5 (Got 27) ∷
    marked 5 (Told (replies.Response 1)) ∷ marked 5 (Called commands.Commit) ∷
    marked 5 (Sent 28 2 (messages.Request (tx 2 1) 1 1 wants.Prepare)) ∷
    marked 5 (Sent 29 0 (messages.Request (tx 2 1) 1 1 wants.Prepare)) ∷
    marked 5 (Sent 30 1 (messages.Request (tx 2 1) 1 1 wants.Prepare)) ∷ marked 2 (Got 28) ∷ marked 1 (Got 30) ∷
    marked 2 (Wrote (prepare (tx 2 1) 1 (read_lock 0 1 ∷ []) (own_line 1 0 2 ∷ own_line 2 0 2 ∷ []) [])) ∷
    marked 2 (Sent 31 5 (messages.Answer 28 (answers.Yes 0))) ∷ marked 5 (Got 31) ∷ marked 0 (Got 29) ∷
    marked 1 (Wrote (prepare (tx 2 1) 1 [] (own_line 1 0 2 ∷ own_line 2 0 2 ∷ []) [])) ∷
    marked 1 (Sent 32 5 (messages.Answer 30 (answers.Yes 0))) ∷
    marked 0 (Wrote (prepare (tx 2 1) 1 [] (own_line 1 0 2 ∷ own_line 2 0 2 ∷ []) [])) ∷
    marked 0 (Sent 33 5 (messages.Answer 29 (answers.Yes 0))) ∷ marked 5 (Got 32) ∷ marked 5 (Got 33) ∷
    marked 5 (Wrote (commit (stamp 1 2) (tx 2 1) (operation 0 1 (Some 1) ∷ operation 0 1 (Some 1) ∷ []))) ∷
    marked 5 (Sent 34 0 (messages.Decision (tx 2 1) (outcomes.Committed (stamp 1 2)))) ∷
    marked 5 (Sent 35 1 (messages.Decision (tx 2 1) (outcomes.Committed (stamp 1 2)))) ∷
    marked 5 (Sent 36 2 (messages.Decision (tx 2 1) (outcomes.Committed (stamp 1 2)))) ∷
    marked 5 (Told (replies.Committed (stamp 1 2))) ∷ marked 2 (Got 36) ∷ marked 5 (Called commands.Begin) ∷
    marked 5 (Told (replies.Began (tx 2 2))) ∷ marked 5 (Called (commands.Do 0 0)) ∷
    marked 2 (Wrote (records.Done (tx 2 1) 1))
    ∷ marked 5 (Sent 37 2 (messages.Request (tx 2 2) 1 0 (wants.Read (first_read 0 0)))) ∷
    marked 5 (Sent 38 0 (messages.Request (tx 2 2) 1 0 (wants.Read (first_read 0 0)))) ∷ marked 1 (Got 35)
    ∷ marked 0 (Got 34) ∷
    marked 1 (Wrote (records.Done (tx 2 1) 1)) ∷ marked 2 (Got 37) ∷
    marked 2
    (Sent 39 5 (messages.Answer 37 (answers.Granted (whole_grant 1 1 (line 1 2 1 1 0 2 ∷ line 1 2 1 2 0 2 ∷ []))))) ∷
    marked 0 (Wrote (records.Done (tx 2 1) 1)) ∷ marked 0 (Got 38) ∷ marked 5 (Got 39) ∷
    marked 0
    (Sent 40 5 (messages.Answer 38 (answers.Granted (whole_grant 1 1 (line 1 2 1 1 0 2 ∷ line 1 2 1 2 0 2 ∷ []))))) ∷
    marked 5 (Got 40) ∷
    marked 5 (Sent 41 2 (messages.Request (tx 2 2) 1 1 (wants.Append 0 (line 1 2 1 1 0 2 ∷ line 1 2 1 2 0 2 ∷ [])
    (own_line 1 0 0 ∷ [])))) ∷
    marked 5 (Sent 42 0 (messages.Request (tx 2 2) 1 1 (wants.Append 0 (line 1 2 1 1 0 2 ∷ line 1 2 1 2 0 2 ∷ [])
    (own_line 1 0 0 ∷ [])))) ∷
    marked 5 (Sent 43 1 (messages.Request (tx 2 2) 1 0 (wants.Append 0 (line 1 2 1 1 0 2 ∷ line 1 2 1 2 0 2 ∷ [])
    (own_line 1 0 0 ∷ [])))) ∷
    marked 1 (Got 43) ∷ marked 2 (Got 41) ∷ marked 0 (Got 42) ∷
    marked 0 (Sent 44 5 (messages.Answer 42 (answers.Granted (whole_grant 1 1 [])))) ∷
    marked 1 (Sent 45 5 (messages.Answer 43 (answers.Clash (tx 1 1) 2 0))) ∷
    marked 1 (Sent 46 4 (messages.Inquiry (tx 1 1))) ∷
    marked 2 (Sent 47 5 (messages.Answer 41 (answers.Granted (whole_grant 1 1 [])))) ∷ marked 5 (Got 44)
    ∷ marked 5 (Got 45) ∷
    marked 4 (Got 46) ∷ marked 4 (Sent 48 1 (messages.Decision (tx 1 1) outcomes.Active)) ∷ marked 1 (Got 48) ∷
    marked 5 (Got 47) ∷ marked 5 (Told (replies.Conflict (tx 1 1) 1)) ∷ marked 8 (Phase 2) ∷
    marked 3 (Called commands.Begin) ∷ marked 3 (Told (replies.Began (tx 0 1))) ∷ marked 5 (Called (commands.Do 0 2)) ∷
    marked 3 (Called (commands.Do 0 0)) ∷ marked 6 (Called commands.Begin) ∷ marked 0 (Got 6) ∷
    marked 5 (Told replies.Doomed) ∷ marked 0 (Sent 49 4 (messages.Answer 6 (answers.Granted (whole_grant 1 1 [])))) ∷
    marked 4 (Got 49) ∷ marked 6 (Told (replies.Began (tx 3 1))) ∷ marked 5 (Called commands.Commit) ∷
    marked 0 (Got 8) ∷ marked 6 (Called (commands.Do 0 1)) ∷
    marked 5 (Sent 50 0 (messages.Decision (tx 2 2) outcomes.Aborted)) ∷
    marked 5 (Sent 51 1 (messages.Decision (tx 2 2) outcomes.Aborted)) ∷
    marked 5 (Sent 52 2 (messages.Decision (tx 2 2) outcomes.Aborted)) ∷
    marked 5 (Told (replies.Aborted causes.Doomed)) ∷
    marked 3 (Sent 53 0 (messages.Request (tx 0 1) 1 0 (wants.Read (first_read 0 0)))) ∷
    marked 3 (Sent 54 1 (messages.Request (tx 0 1) 1 0 (wants.Read (first_read 0 0)))) ∷ marked 2 (Got 52) ∷
    marked 6 (Sent 55 0 (messages.Request (tx 3 1) 1 0 (wants.Read (first_read 0 1)))) ∷ marked 1 (Got 51) ∷
    marked 0 (Sent 56 5 (messages.Answer 8 (answers.Granted (whole_grant 1 1 [])))) ∷ marked 0 (Got 23)
    ∷ marked 5 (Got 56) ∷
    marked 0 (Sent 57 5 (messages.Answer 23 (answers.Granted (whole_grant 1 1 [])))) ∷ marked 5 (Got 57)
    ∷ marked 1 (Got 54) ∷
    marked 1
    (Sent 58 3 (messages.Answer 54 (answers.Granted (whole_grant 1 1 (line 1 2 1 1 0 2 ∷ line 1 2 1 2 0 2 ∷ []))))) ∷
    marked 3 (Got 58) ∷ marked 0 (Got 29) ∷
    marked 0 (Wrote (prepare (tx 2 1) 1 [] (own_line 1 0 2 ∷ own_line 2 0 2 ∷ []) [])) ∷
    marked 0 (Sent 59 5 (messages.Answer 29 (answers.Yes 1))) ∷ marked 0 (Got 34) ∷
    marked 0 (Wrote (records.Done (tx 2 1) 1)) ∷ marked 0 (Got 38) ∷ marked 5 (Got 59) ∷
    marked 0
    (Sent 60 5 (messages.Answer 38 (answers.Granted (whole_grant 1 1 (line 1 2 1 1 0 2 ∷ line 1 2 1 2 0 2 ∷ []))))) ∷
    marked 0 (Got 42) ∷ marked 5 (Got 60)
    ∷ marked 0 (Sent 61 5 (messages.Answer 42 (answers.Granted (whole_grant 1 1 [])))) ∷
    marked 5 (Got 61) ∷ marked 0 (Got 50) ∷ marked 0 (Got 53) ∷
    marked 0
    (Sent 62 3 (messages.Answer 53 (answers.Granted (whole_grant 1 1 (line 1 2 1 1 0 2 ∷ line 1 2 1 2 0 2 ∷ []))))) ∷
    marked 3 (Got 62) ∷
    marked 3 (Sent 63 0 (messages.Request (tx 0 1) 1 1 (wants.Append 0 (line 1 2 1 1 0 2 ∷ line 1 2 1 2 0 2 ∷ [])
    (own_line 1 0 0 ∷ [])))) ∷
    marked 3 (Sent 64 1 (messages.Request (tx 0 1) 1 1 (wants.Append 0 (line 1 2 1 1 0 2 ∷ line 1 2 1 2 0 2 ∷ [])
    (own_line 1 0 0 ∷ [])))) ∷
    marked 3 (Sent 65 2 (messages.Request (tx 0 1) 1 0 (wants.Append 0 (line 1 2 1 1 0 2 ∷ line 1 2 1 2 0 2 ∷ [])
    (own_line 1 0 0 ∷ [])))) ∷
    marked 1 (Got 64) ∷ marked 0 (Got 55) ∷ marked 2 (Got 65) ∷
    marked 2 (Sent 66 3 (messages.Answer 65 (answers.Granted (whole_grant 1 1 [])))) ∷ marked 3 (Got 66) ∷
    marked 1 (Sent 67 3 (messages.Answer 64 (answers.Clash (tx 1 1) 2 0))) ∷
    marked 1 (Sent 68 4 (messages.Inquiry (tx 1 1))) ∷ marked 4 (Got 68) ∷
    marked 0
    (Sent 69 6 (messages.Answer 55 (answers.Granted (whole_grant 1 1 (line 1 2 1 1 0 2 ∷ line 1 2 1 2 0 2 ∷ []))))) ∷
    marked 6 (Got 69) ∷ marked 4 (Sent 70 1 (messages.Decision (tx 1 1) outcomes.Active)) ∷ marked 0 (Got 63) ∷
    marked 6 (Sent 71 0 (messages.Request (tx 3 1) 1 1 (wants.Append 0 (line 1 2 1 1 0 2 ∷ line 1 2 1 2 0 2 ∷ [])
    (own_line 1 0 2 ∷ [])))) ∷
    marked 6 (Sent 72 1 (messages.Request (tx 3 1) 1 0 (wants.Append 0 (line 1 2 1 1 0 2 ∷ line 1 2 1 2 0 2 ∷ [])
    (own_line 1 0 2 ∷ [])))) ∷
    marked 6 (Sent 73 2 (messages.Request (tx 3 1) 1 0 (wants.Append 0 (line 1 2 1 1 0 2 ∷ line 1 2 1 2 0 2 ∷ [])
    (own_line 1 0 2 ∷ [])))) ∷
    marked 3 (Got 67) ∷ marked 0 (Sent 74 3 (messages.Answer 63 (answers.Clash (tx 3 1) 1 0))) ∷
    marked 0 (Sent 75 6 (messages.Inquiry (tx 3 1))) ∷ marked 6 (Got 75) ∷ marked 1 (Got 70) ∷
    marked 6 (Sent 76 0 (messages.Decision (tx 3 1) outcomes.Active)) ∷ marked 3 (Got 74) ∷ marked 2 (Got 73) ∷
    marked 2 (Sent 77 6 (messages.Answer 73 (answers.Granted (whole_grant 1 1 [])))) ∷ marked 6 (Got 77) ∷
    marked 3 (Told (replies.Conflict (tx 3 1) 0)) ∷ marked 3 (Called (commands.Do 0 2)) ∷ marked 0 (Got 71) ∷
    marked 1 (Got 72) ∷ marked 1 (Sent 78 6 (messages.Answer 72 (answers.Granted (whole_grant 1 1 [])))) ∷
    marked 0 (Sent 79 6 (messages.Answer 71 (answers.Granted (whole_grant 1 1 [])))) ∷ marked 6 (Got 78)
    ∷ marked 0 (Got 76) ∷
    marked 6 (Got 79) ∷ marked 3 (Told replies.Doomed) ∷ marked 6 (Told (replies.Response 1)) ∷
    marked 6 (Called (commands.Do 0 0))
    ∷ marked 6 (Sent 80 0 (messages.Request (tx 3 1) 1 1 (wants.Read (first_read 0 0)))) ∷
    marked 6 (Sent 81 1 (messages.Request (tx 3 1) 1 1 (wants.Read (first_read 0 0)))) ∷ marked 1 (Got 81) ∷
    marked 1
    (Sent 82 6 (messages.Answer 81 (answers.Granted (whole_grant 1 1 (line 1 2 1 1 0 2 ∷ line 1 2 1 2 0 2 ∷ []))))) ∷
    marked 6 (Got 82) ∷ marked 0 (Got 80) ∷
    marked 0
    (Sent 83 6 (messages.Answer 80 (answers.Granted (whole_grant 1 1 (line 1 2 1 1 0 2 ∷ line 1 2 1 2 0 2 ∷ []))))) ∷
    marked 6 (Got 83) ∷
    marked 6 (Sent 84 0 (messages.Request (tx 3 1) 1 1 (wants.Append 0 (line 1 2 1 1 0 2 ∷ line 1 2 1 2 0 2 ∷ [])
    (own_line 1 0 2 ∷ own_line 2 0 0 ∷ [])))) ∷
    marked 6 (Sent 85 1 (messages.Request (tx 3 1) 1 1 (wants.Append 0 (line 1 2 1 1 0 2 ∷ line 1 2 1 2 0 2 ∷ [])
    (own_line 1 0 2 ∷ own_line 2 0 0 ∷ [])))) ∷
    marked 6 (Sent 86 2 (messages.Request (tx 3 1) 1 1 (wants.Append 0 (line 1 2 1 1 0 2 ∷ line 1 2 1 2 0 2 ∷ [])
    (own_line 1 0 2 ∷ own_line 2 0 0 ∷ [])))) ∷
    marked 1 (Got 85) ∷ marked 1 (Sent 87 6 (messages.Answer 85 (answers.Clash (tx 0 1) 0 0))) ∷
    marked 1 (Sent 88 3 (messages.Inquiry (tx 0 1))) ∷ marked 3 (Got 88) ∷ marked 6 (Got 87) ∷ marked 0 (Got 84) ∷
    marked 2 (Got 86) ∷ marked 2 (Sent 89 6 (messages.Answer 86 (answers.Granted (whole_grant 1 1 [])))) ∷
    marked 0 (Sent 90 6 (messages.Answer 84 (answers.Clash (tx 0 1) 0 0))) ∷
    marked 0 (Sent 91 3 (messages.Inquiry (tx 0 1))) ∷ marked 6 (Got 89) ∷
    marked 3 (Sent 92 1 (messages.Decision (tx 0 1) outcomes.Active)) ∷ marked 3 (Got 91) ∷ marked 6 (Got 90) ∷
    marked 6 (Told (replies.Conflict (tx 0 1) 0)) ∷ marked 6 (Called commands.Commit) ∷ marked 1 (Got 92) ∷
    marked 6 (Sent 93 0 (messages.Decision (tx 3 1) outcomes.Aborted)) ∷
    marked 6 (Sent 94 1 (messages.Decision (tx 3 1) outcomes.Aborted)) ∷
    marked 6 (Sent 95 2 (messages.Decision (tx 3 1) outcomes.Aborted)) ∷
    marked 6 (Told (replies.Aborted causes.Doomed)) ∷
    marked 3 (Sent 96 0 (messages.Decision (tx 0 1) outcomes.Active)) ∷ marked 0 (Got 93) ∷ marked 2 (Got 95) ∷
    marked 1 (Got 94) ∷ marked 0 (Got 96) ∷ marked 8 (Phase 3) ∷ marked 5 (Called commands.Begin) ∷
    marked 5 (Told (replies.Began (tx 2 3))) ∷ marked 5 (Called commands.Commit) ∷ marked 6 (Called (commands.Do 0 2)) ∷
    marked 5 (Wrote (commit (stamp 2 2) (tx 2 3) [])) ∷ marked 5 (Told (replies.Committed (stamp 2 2))) ∷
    marked 6 (Told replies.NoTransaction) ∷ marked 0 (Got 50) ∷ marked 0 (Got 53) ∷
    marked 0
    (Sent 97 3 (messages.Answer 53 (answers.Granted (whole_grant 1 1 (line 1 2 1 1 0 2 ∷ line 1 2 1 2 0 2 ∷ []))))) ∷
    marked 6 (Called commands.Abort) ∷ marked 0 (Got 55) ∷ marked 6 (Told replies.NoTransaction) ∷
    marked 0
    (Sent 98 6 (messages.Answer 55 (answers.Granted (whole_grant 1 1 (line 1 2 1 1 0 2 ∷ line 1 2 1 2 0 2 ∷ []))))) ∷
    marked 0 (Got 63) ∷ marked 6 (Got 98) ∷ marked 0 (Sent 99 3 (messages.Answer 63 (answers.Clash (tx 3 1) 1 0))) ∷
    marked 0 (Sent 100 6 (messages.Inquiry (tx 3 1))) ∷ marked 0 (Got 71) ∷
    marked 0 (Sent 101 6 (messages.Answer 71 (answers.Granted (whole_grant 1 1 [])))) ∷ marked 6 (Got 100)
    ∷ marked 3 (Got 97) ∷
    marked 6 (Sent 102 0 (messages.Decision (tx 3 1) outcomes.Aborted)) ∷ marked 6 (Got 101) ∷ marked 0 (Got 76) ∷
    marked 0 (Got 80) ∷
    marked 0
    (Sent 103 6 (messages.Answer 80 (answers.Granted (whole_grant 1 1 (line 1 2 1 1 0 2 ∷ line 1 2 1 2 0 2 ∷ [])))))
    ∷
    marked 6 (Got 103) ∷ marked 0 (Got 84) ∷ marked 0 (Sent 104 6 (messages.Answer 84 (answers.Clash (tx 0 1) 0 0))) ∷
    marked 0 (Sent 105 3 (messages.Inquiry (tx 0 1))) ∷ marked 6 (Got 104) ∷ marked 0 (Got 93) ∷ marked 0 (Got 96) ∷
    marked 0 (Got 102) ∷ marked 3 (Got 99) ∷ marked 3 (Got 105) ∷
    marked 3 (Sent 106 0 (messages.Decision (tx 0 1) outcomes.Active)) ∷ marked 0 (Got 106) ∷ []
