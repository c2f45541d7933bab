-- Random: sites 5, clients 2, steps 318, messages 119, lost 1, commits 3, aborts 1, conflicts 2.
use Rattle.std.specs.Prelude.{List, [], ◌∷◌, Some}
use Rattle.qc_decl.specs.declared.declaration.Declaration.{Declaration}
use Rattle.qc_decl.specs.Vocabulary.{row}
use Rattle.qc_msg.specs.Vocabulary.{Entry, marked}
use Rattle.tests_histories.specs.Play.{Move, Takes, Posts, Acts}
use Rattle.tests_histories.specs.Words.{tx, stamp, line, own_line, operation, read_lock, prepare, commit, declaration}
use Rattle.tests_histories.specs.Words.{kind, pair, plan}
use Rattle.qc_msg.specs.declared.step.Step.TheVariants.{Phase, Called, Got, Lost, Wrote, Sent, Told}
use Rattle.qc_msg.specs.declared.message.Answer.TheVariants as answers
use Rattle.qc_msg.specs.declared.reply.AbortCause.TheVariants as causes
use Rattle.qc_msg.specs.declared.step.Command.TheVariants as commands
use Rattle.qc_msg.specs.declared.message.Message.TheVariants as messages
use Rattle.qc_msg.specs.declared.message.Outcome.TheVariants as outcomes
use Rattle.qc_msg.specs.declared.record.Record.TheVariants as records
use Rattle.qc_msg.specs.declared.reply.Reply.TheVariants as replies
use Rattle.qc_msg.specs.declared.message.Want.TheVariants as wants
use Rattle.qc_msg.specs.Vocabulary.{whole_grant, first_read}

abbrev pub decl : Declaration
decl =
    declaration 5 2 (kind 2 2 3 0 (row 0 0 0 1 ∷ row 1 0 1 1 ∷ row 0 1 2 0 ∷ row 1 1 2 0 ∷ []) (pair 0 0 ∷ pair 0 2 ∷
    []) ∷ kind 4 3 2 0 (row 0 1 0 0 ∷ row 0 2 0 0 ∷ row 1 1 1 3 ∷ row 1 2 0 3 ∷ row 1 2 1 3 ∷ row 2 0 1 0 ∷ row 2 1 0 0
    ∷ row 2 2 1 1 ∷ row 2 2 0 0 ∷ row 3 0 0 1 ∷ row 3 1 0 1 ∷ row 3 2 0 2 ∷ row 3 2 1 2 ∷ []) (pair 0 2 ∷ pair 0 4 ∷
    pair 1 1 ∷ pair 1 4 ∷ pair 2 2 ∷ pair 2 5 ∷ []) ∷ []) (0 ∷ 0 ∷ []) (plan (1 ∷ 1 ∷ 1 ∷ 1 ∷ 1 ∷ []) ((3 ∷ 0 ∷ []) ∷ (1
    ∷ 0 ∷ []) ∷ []) ((3 ∷ 0 ∷ 3 ∷ []) ∷ (5 ∷ 0 ∷ 5 ∷ []) ∷ []) ∷ [])

abbrev pub moves : List Move
moves =
    Acts (Phase 1) ∷ Takes 6 (Called commands.Begin) ∷ Takes 5 (Called commands.Begin) ∷ Posts 6 ∷
    Takes 6 (Called (commands.Do 0 1)) ∷ Posts 6 ∷ Takes 2 (Got 1) ∷ Takes 1 (Got 0) ∷ Takes 3 (Got 2) ∷ Posts 3 ∷
    Takes 6 (Got 3) ∷ Posts 6 ∷ Posts 1 ∷ Takes 6 (Got 4) ∷ Posts 6 ∷ Posts 5 ∷ Takes 5 (Called commands.Abort) ∷
    Posts 5 ∷ Takes 5 (Called commands.Begin) ∷ Posts 5 ∷ Takes 5 (Called (commands.Do 1 0)) ∷ Posts 5 ∷
    Takes 0 (Got 5) ∷ Posts 2 ∷ Takes 6 (Got 6) ∷ Posts 0 ∷ Takes 5 (Got 7) ∷ Posts 5 ∷ Takes 1 (Got 9) ∷
    Takes 4 (Got 12) ∷ Takes 3 (Got 11) ∷ Posts 4 ∷ Takes 5 (Got 13) ∷ Posts 5 ∷ Takes 0 (Got 8) ∷ Takes 2 (Got 10) ∷
    Posts 3 ∷ Takes 5 (Got 14) ∷ Posts 5 ∷ Posts 1 ∷ Posts 0 ∷ Posts 6 ∷ Takes 5 (Got 15) ∷ Posts 5 ∷ Posts 2 ∷
    Takes 5 (Got 16) ∷ Posts 5 ∷ Takes 5 (Got 17) ∷ Posts 5 ∷ Takes 5 (Called (commands.Do 0 1)) ∷ Posts 5 ∷
    Takes 0 (Got 18) ∷ Takes 2 (Got 20) ∷ Takes 1 (Got 19) ∷ Posts 1 ∷ Takes 5 (Got 21) ∷ Posts 5 ∷ Posts 2 ∷
    Takes 5 (Got 22) ∷ Posts 5 ∷ Posts 0 ∷ Takes 5 (Got 23) ∷ Posts 5 ∷ Acts (Phase 2) ∷
    Takes 5 (Called (commands.Do 1 0)) ∷ Posts 5 ∷ Takes 0 (Got 24) ∷ Posts 0 ∷ Takes 5 (Got 25) ∷ Posts 5 ∷
    Takes 5 (Called (commands.Do 1 0)) ∷ Posts 5 ∷ Takes 0 (Got 26) ∷ Posts 0 ∷ Takes 5 (Got 27) ∷ Posts 5 ∷
    Takes 5 (Called (commands.Do 0 0)) ∷ Posts 5 ∷ Takes 1 (Got 29) ∷ Takes 2 (Got 30) ∷ Takes 0 (Got 28) ∷ Posts 1 ∷
    Takes 6 (Got 32) ∷ Takes 5 (Got 31) ∷ Posts 5 ∷ Posts 6 ∷ Posts 0 ∷ Takes 1 (Got 33) ∷ Posts 1 ∷ Takes 5 (Got 34) ∷
    Posts 5 ∷ Posts 2 ∷ Takes 6 (Got 36) ∷ Posts 6 ∷ Takes 2 (Got 37) ∷ Posts 2 ∷ Takes 5 (Got 35) ∷ Posts 5 ∷
    Takes 5 (Called (commands.Do 1 0)) ∷ Posts 5 ∷ Takes 0 (Got 38) ∷ Posts 0 ∷ Takes 5 (Got 39) ∷ Posts 5 ∷
    Takes 5 (Called commands.Commit) ∷ Posts 5 ∷ Takes 4 (Got 44) ∷ Takes 1 (Got 41) ∷ Takes 0 (Got 40) ∷ Posts 4 ∷
    Takes 2 (Got 42) ∷ Takes 3 (Got 43) ∷ Posts 1 ∷ Takes 5 (Got 45) ∷ Posts 5 ∷ Posts 0 ∷ Posts 2 ∷ Posts 3 ∷
    Takes 5 (Got 46) ∷ Posts 5 ∷ Takes 5 (Got 47) ∷ Posts 5 ∷ Takes 5 (Got 48) ∷ Posts 5 ∷ Takes 5 (Got 49) ∷ Posts 5 ∷
    Takes 4 (Got 54) ∷ Takes 2 (Got 52) ∷ Takes 0 (Got 50) ∷ Takes 1 (Got 51) ∷ Posts 0 ∷ Posts 1 ∷ Posts 2 ∷ Posts 4 ∷
    Acts (Phase 3) ∷ Takes 3 (Got 53) ∷ Takes 5 (Called commands.Begin) ∷ Posts 3 ∷ Posts 5 ∷
    Takes 5 (Called (commands.Do 0 0)) ∷ Posts 5 ∷ Takes 2 (Got 57) ∷ Takes 1 (Got 56) ∷ Takes 0 (Got 55) ∷ Posts 2 ∷
    Takes 6 (Got 59) ∷ Posts 1 ∷ Takes 5 (Got 58) ∷ Posts 5 ∷ Posts 6 ∷ Takes 2 (Got 62) ∷ Posts 2 ∷ Takes 6 (Got 61) ∷
    Posts 0 ∷ Takes 5 (Got 60) ∷ Posts 5 ∷ Posts 6 ∷ Takes 1 (Got 64) ∷ Posts 1 ∷ Takes 5 (Got 63) ∷ Posts 5 ∷
    Takes 5 (Called (commands.Do 0 1)) ∷ Posts 5 ∷ Takes 1 (Got 66) ∷ Takes 0 (Got 65) ∷ Takes 2 (Got 67) ∷ Posts 2 ∷
    Takes 5 (Got 68) ∷ Posts 5 ∷ Posts 1 ∷ Posts 0 ∷ Takes 5 (Got 69) ∷ Posts 5 ∷ Takes 5 (Got 70) ∷ Posts 5 ∷
    Takes 5 (Called (commands.Do 0 1)) ∷ Posts 5 ∷ Takes 2 (Got 73) ∷ Takes 1 (Got 72) ∷ Takes 0 (Got 71) ∷ Posts 1 ∷
    Takes 5 (Got 74) ∷ Posts 5 ∷ Posts 0 ∷ Posts 2 ∷ Takes 5 (Got 75) ∷ Posts 5 ∷ Takes 5 (Got 76) ∷ Posts 5 ∷
    Takes 5 (Called commands.Commit) ∷ Posts 5 ∷ Takes 1 (Got 78) ∷ Takes 0 (Got 77) ∷ Takes 2 (Got 79) ∷ Posts 1 ∷
    Takes 5 (Got 80) ∷ Posts 5 ∷ Posts 0 ∷ Takes 5 (Got 81) ∷ Posts 5 ∷ Posts 2 ∷ Takes 5 (Got 82) ∷ Posts 5 ∷
    Takes 5 (Called commands.Begin) ∷ Takes 1 (Got 84) ∷ Takes 0 (Got 83) ∷ Takes 2 (Got 85) ∷ Posts 0 ∷ Posts 1 ∷
    Posts 2 ∷ Posts 5 ∷ Takes 5 (Called (commands.Do 0 1)) ∷ Posts 5 ∷ Takes 0 (Got 86) ∷ Takes 2 (Got 88) ∷
    Takes 1 (Got 87) ∷ Posts 0 ∷ Takes 5 (Got 89) ∷ Posts 5 ∷ Posts 1 ∷ Posts 2 ∷ Takes 5 (Got 90) ∷ Posts 5 ∷
    Takes 5 (Got 91) ∷ Posts 5 ∷ Takes 5 (Called commands.Commit) ∷ Posts 5 ∷ Takes 1 (Got 93) ∷ Takes 2 (Got 94) ∷
    Takes 0 (Got 92) ∷ Posts 1 ∷ Takes 5 (Got 95) ∷ Posts 5 ∷ Posts 2 ∷ Takes 5 (Got 96) ∷ Posts 5 ∷ Posts 0 ∷
    Takes 5 (Got 97) ∷ Posts 5 ∷ Takes 0 (Got 98) ∷ Takes 2 (Got 100) ∷ Takes 1 (Got 99) ∷ Posts 2 ∷ Posts 0 ∷ Posts 1 ∷
    Acts (Phase 4) ∷ Acts (Phase 5) ∷ Takes 6 (Called (commands.Do 1 0)) ∷ Posts 6 ∷ Takes 1 (Got 101) ∷ Posts 1 ∷
    Takes 6 (Got 102) ∷ Posts 6 ∷ Takes 6 (Called (commands.Do 0 1)) ∷ Posts 6 ∷ Takes 3 (Got 105) ∷ Takes 1 (Got 103) ∷
    Takes 2 (Got 104) ∷ Posts 2 ∷ Takes 6 (Got 106) ∷ Posts 6 ∷ Posts 3 ∷ Posts 1 ∷ Takes 6 (Got 107) ∷ Posts 6 ∷
    Takes 6 (Got 108) ∷ Posts 6 ∷ Takes 6 (Called (commands.Do 1 0)) ∷ Posts 6 ∷ Takes 1 (Got 109) ∷ Posts 1 ∷
    Takes 6 (Got 110) ∷ Posts 6 ∷ Takes 6 (Called commands.Commit) ∷ Posts 6 ∷ Takes 2 (Got 112) ∷ Takes 6 (Lost 113) ∷
    Posts 6 ∷ Takes 1 (Got 111) ∷ Posts 2 ∷ Takes 6 (Got 114) ∷ Posts 6 ∷ Posts 1 ∷ Takes 6 (Got 115) ∷ Posts 6 ∷
    Takes 3 (Got 118) ∷ Posts 3 ∷ Takes 1 (Got 116) ∷ Posts 1 ∷ Takes 2 (Got 117) ∷ Posts 2 ∷ []

abbrev pub history : List Entry
history =
    marked 8 (Phase 1) ∷ marked 6 (Called commands.Begin) ∷ marked 5 (Called commands.Begin) ∷
    marked 6 (Told (replies.Began (tx 1 1))) ∷ marked 6 (Called (commands.Do 0 1)) ∷
    marked 6 (Sent 0 1 (messages.Request (tx 1 1) 1 0 (wants.Append 0 [] (own_line 1 0 2 ∷ [])))) ∷
    marked 6 (Sent 1 2 (messages.Request (tx 1 1) 1 0 (wants.Append 0 [] (own_line 1 0 2 ∷ [])))) ∷
    marked 6 (Sent 2 3 (messages.Request (tx 1 1) 1 0 (wants.Append 0 [] (own_line 1 0 2 ∷ [])))) ∷ marked 2 (Got 1) ∷
    marked 1 (Got 0) ∷ marked 3 (Got 2) ∷ marked 3 (Sent 3 6 (messages.Answer 2 (answers.Granted (whole_grant 1 0 []))))
    ∷
    marked 6 (Got 3) ∷ marked 1 (Sent 4 6 (messages.Answer 0 (answers.Granted (whole_grant 1 0 [])))) ∷ marked 6 (Got 4)
    ∷
    marked 5 (Told (replies.Began (tx 0 1))) ∷ marked 5 (Called commands.Abort) ∷ marked 5 (Told replies.Dropped) ∷
    marked 5 (Called commands.Begin) ∷ marked 5 (Told (replies.Began (tx 0 2))) ∷ marked 5 (Called (commands.Do 1 0)) ∷
    marked 5 (Sent 5 0 (messages.Request (tx 0 2) 1 0 (wants.Read (first_read 1 0)))) ∷ marked 0 (Got 5) ∷
    marked 2 (Sent 6 6 (messages.Answer 1 (answers.Granted (whole_grant 1 0 [])))) ∷ marked 6 (Got 6) ∷
    marked 0 (Sent 7 5 (messages.Answer 5 (answers.Granted (whole_grant 1 0 [])))) ∷ marked 5 (Got 7) ∷
    marked 5 (Sent 8 0 (messages.Request (tx 0 2) 1 1 (wants.Append 1 [] (own_line 1 1 0 ∷ [])))) ∷
    marked 5 (Sent 9 1 (messages.Request (tx 0 2) 1 0 (wants.Append 1 [] (own_line 1 1 0 ∷ [])))) ∷
    marked 5 (Sent 10 2 (messages.Request (tx 0 2) 1 0 (wants.Append 1 [] (own_line 1 1 0 ∷ [])))) ∷
    marked 5 (Sent 11 3 (messages.Request (tx 0 2) 1 0 (wants.Append 1 [] (own_line 1 1 0 ∷ [])))) ∷
    marked 5 (Sent 12 4 (messages.Request (tx 0 2) 1 0 (wants.Append 1 [] (own_line 1 1 0 ∷ [])))) ∷ marked 1 (Got 9) ∷
    marked 4 (Got 12) ∷ marked 3 (Got 11)
    ∷ marked 4 (Sent 13 5 (messages.Answer 12 (answers.Granted (whole_grant 1 0 [])))) ∷
    marked 5 (Got 13) ∷ marked 0 (Got 8) ∷ marked 2 (Got 10) ∷
    marked 3 (Sent 14 5 (messages.Answer 11 (answers.Granted (whole_grant 1 0 [])))) ∷ marked 5 (Got 14) ∷
    marked 1 (Sent 15 5 (messages.Answer 9 (answers.Granted (whole_grant 1 0 [])))) ∷
    marked 0 (Sent 16 5 (messages.Answer 8 (answers.Granted (whole_grant 1 0 []))))
    ∷ marked 6 (Told (replies.Response 2)) ∷
    marked 5 (Got 15) ∷ marked 2 (Sent 17 5 (messages.Answer 10 (answers.Granted (whole_grant 1 0 []))))
    ∷ marked 5 (Got 16) ∷
    marked 5 (Got 17) ∷ marked 5 (Told (replies.Response 0)) ∷ marked 5 (Called (commands.Do 0 1)) ∷
    marked 5 (Sent 18 0 (messages.Request (tx 0 2) 1 1 (wants.Append 0 [] (own_line 2 0 2 ∷ [])))) ∷
    marked 5 (Sent 19 1 (messages.Request (tx 0 2) 1 1 (wants.Append 0 [] (own_line 2 0 2 ∷ [])))) ∷
    marked 5 (Sent 20 2 (messages.Request (tx 0 2) 1 1 (wants.Append 0 [] (own_line 2 0 2 ∷ [])))) ∷ marked 0 (Got 18) ∷
    marked 2 (Got 20) ∷ marked 1 (Got 19)
    ∷ marked 1 (Sent 21 5 (messages.Answer 19 (answers.Granted (whole_grant 1 0 [])))) ∷
    marked 5 (Got 21) ∷ marked 2 (Sent 22 5 (messages.Answer 20 (answers.Granted (whole_grant 1 0 []))))
    ∷ marked 5 (Got 22) ∷
    marked 0 (Sent 23 5 (messages.Answer 18 (answers.Granted (whole_grant 1 0 [])))) ∷ marked 5 (Got 23) ∷
    marked 5 (Told (replies.Response 2)) ∷ marked 8 (Phase 2) ∷ marked 5 (Called (commands.Do 1 0)) ∷
    marked 5 (Sent 24 0 (messages.Request (tx 0 2) 1 1 (wants.Read (first_read 1 0)))) ∷ marked 0 (Got 24) ∷
    marked 0 (Sent 25 5 (messages.Answer 24 (answers.Granted (whole_grant 1 0 [])))) ∷ marked 5 (Got 25) ∷
    marked 5 (Told (replies.Response 1)) ∷ marked 5 (Called (commands.Do 1 0)) ∷
    marked 5 (Sent 26 0 (messages.Request (tx 0 2) 1 1 (wants.Read (first_read 1 0)))) ∷ marked 0 (Got 26) ∷
    marked 0 (Sent 27 5 (messages.Answer 26 (answers.Granted (whole_grant 1 0 [])))) ∷ marked 5 (Got 27) ∷
    marked 5 (Told (replies.Response 1)) ∷ marked 5 (Called (commands.Do 0 0)) ∷
    marked 5 (Sent 28 0 (messages.Request (tx 0 2) 1 1 (wants.Read (first_read 0 0)))) ∷
    marked 5 (Sent 29 1 (messages.Request (tx 0 2) 1 1 (wants.Read (first_read 0 0)))) ∷
    marked 5 (Sent 30 2 (messages.Request (tx 0 2) 1 1 (wants.Read (first_read 0 0)))) ∷ marked 1 (Got 29)
    ∷ marked 2 (Got 30) ∷
    marked 0 (Got 28) ∷ marked 1 (Sent 31 5 (messages.Answer 29 (answers.Clash (tx 1 1) 0 2))) ∷
    marked 1 (Sent 32 6 (messages.Inquiry (tx 1 1))) ∷ marked 6 (Got 32) ∷ marked 5 (Got 31) ∷
    marked 6 (Sent 33 1 (messages.Decision (tx 1 1) outcomes.Active)) ∷
    marked 0 (Sent 34 5 (messages.Answer 28 (answers.Granted (whole_grant 1 0 [])))) ∷ marked 1 (Got 33)
    ∷ marked 5 (Got 34) ∷
    marked 2 (Sent 35 5 (messages.Answer 30 (answers.Clash (tx 1 1) 0 2))) ∷
    marked 2 (Sent 36 6 (messages.Inquiry (tx 1 1))) ∷ marked 6 (Got 36) ∷
    marked 6 (Sent 37 2 (messages.Decision (tx 1 1) outcomes.Active)) ∷ marked 2 (Got 37) ∷ marked 5 (Got 35) ∷
    marked 5 (Told (replies.Conflict (tx 1 1) 1)) ∷ marked 5 (Called (commands.Do 1 0)) ∷
    marked 5 (Sent 38 0 (messages.Request (tx 0 2) 1 1 (wants.Read (first_read 1 0)))) ∷ marked 0 (Got 38) ∷
    marked 0 (Sent 39 5 (messages.Answer 38 (answers.Granted (whole_grant 1 0 [])))) ∷ marked 5 (Got 39) ∷
    marked 5 (Told (replies.Response 1)) ∷ marked 5 (Called commands.Commit) ∷
    marked 5 (Sent 40 0 (messages.Request (tx 0 2) 1 1 wants.Prepare)) ∷
    marked 5 (Sent 41 1 (messages.Request (tx 0 2) 1 1 wants.Prepare)) ∷
    marked 5 (Sent 42 2 (messages.Request (tx 0 2) 1 1 wants.Prepare)) ∷
    marked 5 (Sent 43 3 (messages.Request (tx 0 2) 1 1 wants.Prepare)) ∷
    marked 5 (Sent 44 4 (messages.Request (tx 0 2) 1 1 wants.Prepare)) ∷ marked 4 (Got 44) ∷ marked 1 (Got 41) ∷
    marked 0 (Got 40) ∷ marked 4 (Wrote (prepare (tx 0 2) 1 [] (own_line 1 1 0 ∷ []) [])) ∷
    marked 4 (Sent 45 5 (messages.Answer 44 (answers.Yes 0))) ∷ marked 2 (Got 42) ∷ marked 3 (Got 43) ∷
    marked 1 (Wrote (prepare (tx 0 2) 1 [] (own_line 1 1 0 ∷ own_line 2 0 2 ∷ []) [])) ∷
    marked 1 (Sent 46 5 (messages.Answer 41 (answers.Yes 0))) ∷ marked 5 (Got 45) ∷
    marked 0 (Wrote (prepare (tx 0 2) 1 (read_lock 0 0 ∷ read_lock 1 0 ∷ []) (own_line 1 1 0 ∷ own_line 2 0 2 ∷ []) []))
    ∷
    marked 0 (Sent 47 5 (messages.Answer 40 (answers.Yes 0))) ∷
    marked 2 (Wrote (prepare (tx 0 2) 1 [] (own_line 1 1 0 ∷ own_line 2 0 2 ∷ []) [])) ∷
    marked 2 (Sent 48 5 (messages.Answer 42 (answers.Yes 0))) ∷
    marked 3 (Wrote (prepare (tx 0 2) 1 [] (own_line 1 1 0 ∷ []) [])) ∷
    marked 3 (Sent 49 5 (messages.Answer 43 (answers.Yes 0))) ∷ marked 5 (Got 46) ∷ marked 5 (Got 47) ∷
    marked 5 (Got 48) ∷ marked 5 (Got 49) ∷
    marked 5 (Wrote (commit (stamp 1 0) (tx 0 2) (operation 1 0 (Some 0) ∷ operation 0 1 (Some 2) ∷ operation 1 0 (Some
    1) ∷ operation 1 0 (Some 1) ∷ operation 1 0 (Some 1) ∷ []))) ∷
    marked 5 (Sent 50 0 (messages.Decision (tx 0 2) (outcomes.Committed (stamp 1 0)))) ∷
    marked 5 (Sent 51 1 (messages.Decision (tx 0 2) (outcomes.Committed (stamp 1 0)))) ∷
    marked 5 (Sent 52 2 (messages.Decision (tx 0 2) (outcomes.Committed (stamp 1 0)))) ∷
    marked 5 (Sent 53 3 (messages.Decision (tx 0 2) (outcomes.Committed (stamp 1 0)))) ∷
    marked 5 (Sent 54 4 (messages.Decision (tx 0 2) (outcomes.Committed (stamp 1 0)))) ∷
    marked 5 (Told (replies.Committed (stamp 1 0))) ∷ marked 4 (Got 54) ∷ marked 2 (Got 52) ∷ marked 0 (Got 50) ∷
    marked 1 (Got 51) ∷ marked 0 (Wrote (records.Done (tx 0 2) 1)) ∷ marked 1 (Wrote (records.Done (tx 0 2) 1)) ∷
    marked 2 (Wrote (records.Done (tx 0 2) 1)) ∷ marked 4 (Wrote (records.Done (tx 0 2) 1)) ∷ marked 8 (Phase 3) ∷
    marked 3 (Got 53) ∷ marked 5 (Called commands.Begin) ∷ marked 3 (Wrote (records.Done (tx 0 2) 1)) ∷
    marked 5 (Told (replies.Began (tx 0 3))) ∷ marked 5 (Called (commands.Do 0 0)) ∷
    marked 5 (Sent 55 0 (messages.Request (tx 0 3) 1 0 (wants.Read (first_read 0 0)))) ∷
    marked 5 (Sent 56 1 (messages.Request (tx 0 3) 1 0 (wants.Read (first_read 0 0)))) ∷
    marked 5 (Sent 57 2 (messages.Request (tx 0 3) 1 0 (wants.Read (first_read 0 0)))) ∷ marked 2 (Got 57)
    ∷ marked 1 (Got 56) ∷
    marked 0 (Got 55) ∷ marked 2 (Sent 58 5 (messages.Answer 57 (answers.Clash (tx 1 1) 0 2))) ∷
    marked 2 (Sent 59 6 (messages.Inquiry (tx 1 1))) ∷ marked 6 (Got 59) ∷
    marked 1 (Sent 60 5 (messages.Answer 56 (answers.Clash (tx 1 1) 0 2))) ∷
    marked 1 (Sent 61 6 (messages.Inquiry (tx 1 1))) ∷ marked 5 (Got 58) ∷
    marked 6 (Sent 62 2 (messages.Decision (tx 1 1) outcomes.Active)) ∷ marked 2 (Got 62) ∷ marked 6 (Got 61) ∷
    marked 0 (Sent 63 5 (messages.Answer 55 (answers.Granted (whole_grant 1 1 (line 1 0 2 2 0 2 ∷ [])))))
    ∷ marked 5 (Got 60) ∷
    marked 6 (Sent 64 1 (messages.Decision (tx 1 1) outcomes.Active)) ∷ marked 1 (Got 64) ∷ marked 5 (Got 63) ∷
    marked 5 (Told (replies.Conflict (tx 1 1) 1)) ∷ marked 5 (Called (commands.Do 0 1)) ∷
    marked 5 (Sent 65 0 (messages.Request (tx 0 3) 1 1 (wants.Append 0 (line 1 0 2 2 0 2 ∷ []) (own_line 1 0 2 ∷ []))))
    ∷
    marked 5 (Sent 66 1 (messages.Request (tx 0 3) 1 0 (wants.Append 0 (line 1 0 2 2 0 2 ∷ []) (own_line 1 0 2 ∷ []))))
    ∷
    marked 5 (Sent 67 2 (messages.Request (tx 0 3) 1 0 (wants.Append 0 (line 1 0 2 2 0 2 ∷ []) (own_line 1 0 2 ∷ []))))
    ∷
    marked 1 (Got 66) ∷ marked 0 (Got 65) ∷ marked 2 (Got 67) ∷
    marked 2 (Sent 68 5 (messages.Answer 67 (answers.Granted (whole_grant 1 1 [])))) ∷ marked 5 (Got 68) ∷
    marked 1 (Sent 69 5 (messages.Answer 66 (answers.Granted (whole_grant 1 1 [])))) ∷
    marked 0 (Sent 70 5 (messages.Answer 65 (answers.Granted (whole_grant 1 1 [])))) ∷ marked 5 (Got 69)
    ∷ marked 5 (Got 70) ∷
    marked 5 (Told (replies.Response 2)) ∷ marked 5 (Called (commands.Do 0 1)) ∷
    marked 5 (Sent 71 0 (messages.Request (tx 0 3) 1 1 (wants.Append 0 (line 1 0 2 2 0 2 ∷ []) (own_line 1 0 2 ∷
    own_line 2 0 2 ∷ [])))) ∷
    marked 5 (Sent 72 1 (messages.Request (tx 0 3) 1 1 (wants.Append 0 (line 1 0 2 2 0 2 ∷ []) (own_line 1 0 2 ∷
    own_line 2 0 2 ∷ [])))) ∷
    marked 5 (Sent 73 2 (messages.Request (tx 0 3) 1 1 (wants.Append 0 (line 1 0 2 2 0 2 ∷ []) (own_line 1 0 2 ∷
    own_line 2 0 2 ∷ [])))) ∷
    marked 2 (Got 73) ∷ marked 1 (Got 72) ∷ marked 0 (Got 71) ∷
    marked 1 (Sent 74 5 (messages.Answer 72 (answers.Granted (whole_grant 1 1 [])))) ∷ marked 5 (Got 74) ∷
    marked 0 (Sent 75 5 (messages.Answer 71 (answers.Granted (whole_grant 1 1 [])))) ∷
    marked 2 (Sent 76 5 (messages.Answer 73 (answers.Granted (whole_grant 1 1 [])))) ∷ marked 5 (Got 75)
    ∷ marked 5 (Got 76) ∷
    marked 5 (Told (replies.Response 2)) ∷ marked 5 (Called commands.Commit) ∷
    marked 5 (Sent 77 0 (messages.Request (tx 0 3) 1 1 wants.Prepare)) ∷
    marked 5 (Sent 78 1 (messages.Request (tx 0 3) 1 1 wants.Prepare)) ∷
    marked 5 (Sent 79 2 (messages.Request (tx 0 3) 1 1 wants.Prepare)) ∷ marked 1 (Got 78) ∷ marked 0 (Got 77) ∷
    marked 2 (Got 79) ∷ marked 1 (Wrote (prepare (tx 0 3) 1 [] (own_line 1 0 2 ∷ own_line 2 0 2 ∷ []) [])) ∷
    marked 1 (Sent 80 5 (messages.Answer 78 (answers.Yes 1))) ∷ marked 5 (Got 80) ∷
    marked 0 (Wrote (prepare (tx 0 3) 1 (read_lock 0 0 ∷ []) (own_line 1 0 2 ∷ own_line 2 0 2 ∷ []) [])) ∷
    marked 0 (Sent 81 5 (messages.Answer 77 (answers.Yes 1))) ∷ marked 5 (Got 81) ∷
    marked 2 (Wrote (prepare (tx 0 3) 1 [] (own_line 1 0 2 ∷ own_line 2 0 2 ∷ []) [])) ∷
    marked 2 (Sent 82 5 (messages.Answer 79 (answers.Yes 1))) ∷ marked 5 (Got 82) ∷
    marked 5 (Wrote (commit (stamp 2 0) (tx 0 3) (operation 0 1 (Some 2) ∷ operation 0 1 (Some 2) ∷ []))) ∷
    marked 5 (Sent 83 0 (messages.Decision (tx 0 3) (outcomes.Committed (stamp 2 0)))) ∷
    marked 5 (Sent 84 1 (messages.Decision (tx 0 3) (outcomes.Committed (stamp 2 0)))) ∷
    marked 5 (Sent 85 2 (messages.Decision (tx 0 3) (outcomes.Committed (stamp 2 0)))) ∷
    marked 5 (Told (replies.Committed (stamp 2 0))) ∷ marked 5 (Called commands.Begin) ∷ marked 1 (Got 84) ∷
    marked 0 (Got 83) ∷ marked 2 (Got 85) ∷ marked 0 (Wrote (records.Done (tx 0 3) 2)) ∷
    marked 1 (Wrote (records.Done (tx 0 3) 2)) ∷ marked 2 (Wrote (records.Done (tx 0 3) 2)) ∷
    marked 5 (Told (replies.Began (tx 0 4))) ∷ marked 5 (Called (commands.Do 0 1)) ∷
    marked 5 (Sent 86 0 (messages.Request (tx 0 4) 1 0 (wants.Append 0 [] (own_line 1 0 2 ∷ [])))) ∷
    marked 5 (Sent 87 1 (messages.Request (tx 0 4) 1 0 (wants.Append 0 [] (own_line 1 0 2 ∷ [])))) ∷
    marked 5 (Sent 88 2 (messages.Request (tx 0 4) 1 0 (wants.Append 0 [] (own_line 1 0 2 ∷ [])))) ∷ marked 0 (Got 86) ∷
    marked 2 (Got 88) ∷ marked 1 (Got 87)
    ∷ marked 0 (Sent 89 5 (messages.Answer 86 (answers.Granted (whole_grant 1 2 [])))) ∷
    marked 5 (Got 89) ∷ marked 1 (Sent 90 5 (messages.Answer 87 (answers.Granted (whole_grant 1 2 [])))) ∷
    marked 2 (Sent 91 5 (messages.Answer 88 (answers.Granted (whole_grant 1 2 [])))) ∷ marked 5 (Got 90)
    ∷ marked 5 (Got 91) ∷
    marked 5 (Told (replies.Response 2)) ∷ marked 5 (Called commands.Commit) ∷
    marked 5 (Sent 92 0 (messages.Request (tx 0 4) 1 1 wants.Prepare)) ∷
    marked 5 (Sent 93 1 (messages.Request (tx 0 4) 1 1 wants.Prepare)) ∷
    marked 5 (Sent 94 2 (messages.Request (tx 0 4) 1 1 wants.Prepare)) ∷ marked 1 (Got 93) ∷ marked 2 (Got 94) ∷
    marked 0 (Got 92) ∷ marked 1 (Wrote (prepare (tx 0 4) 1 [] (own_line 1 0 2 ∷ []) [])) ∷
    marked 1 (Sent 95 5 (messages.Answer 93 (answers.Yes 2))) ∷ marked 5 (Got 95) ∷
    marked 2 (Wrote (prepare (tx 0 4) 1 [] (own_line 1 0 2 ∷ []) [])) ∷
    marked 2 (Sent 96 5 (messages.Answer 94 (answers.Yes 2))) ∷ marked 5 (Got 96) ∷
    marked 0 (Wrote (prepare (tx 0 4) 1 [] (own_line 1 0 2 ∷ []) [])) ∷
    marked 0 (Sent 97 5 (messages.Answer 92 (answers.Yes 2))) ∷ marked 5 (Got 97) ∷
    marked 5 (Wrote (commit (stamp 3 0) (tx 0 4) (operation 0 1 (Some 2) ∷ []))) ∷
    marked 5 (Sent 98 0 (messages.Decision (tx 0 4) (outcomes.Committed (stamp 3 0)))) ∷
    marked 5 (Sent 99 1 (messages.Decision (tx 0 4) (outcomes.Committed (stamp 3 0)))) ∷
    marked 5 (Sent 100 2 (messages.Decision (tx 0 4) (outcomes.Committed (stamp 3 0)))) ∷
    marked 5 (Told (replies.Committed (stamp 3 0))) ∷ marked 0 (Got 98) ∷ marked 2 (Got 100) ∷ marked 1 (Got 99) ∷
    marked 2 (Wrote (records.Done (tx 0 4) 3)) ∷ marked 0 (Wrote (records.Done (tx 0 4) 3)) ∷
    marked 1 (Wrote (records.Done (tx 0 4) 3)) ∷ marked 8 (Phase 4) ∷ marked 8 (Phase 5) ∷
    marked 6 (Called (commands.Do 1 0))
    ∷ marked 6 (Sent 101 1 (messages.Request (tx 1 1) 1 1 (wants.Read (first_read 1 0)))) ∷
    marked 1 (Got 101)
    ∷ marked 1 (Sent 102 6 (messages.Answer 101 (answers.Granted (whole_grant 1 3 (line 1 0 2 1 1 0 ∷ []))))) ∷
    marked 6 (Got 102) ∷ marked 6 (Told (replies.Response 1)) ∷ marked 6 (Called (commands.Do 0 1)) ∷
    marked 6 (Sent 103 1 (messages.Request (tx 1 1) 1 1 (wants.Append 0 [] (own_line 1 0 2 ∷ own_line 3 0 2 ∷ [])))) ∷
    marked 6 (Sent 104 2 (messages.Request (tx 1 1) 1 1 (wants.Append 0 [] (own_line 1 0 2 ∷ own_line 3 0 2 ∷ [])))) ∷
    marked 6 (Sent 105 3 (messages.Request (tx 1 1) 1 1 (wants.Append 0 [] (own_line 1 0 2 ∷ own_line 3 0 2 ∷ [])))) ∷
    marked 3 (Got 105) ∷ marked 1 (Got 103) ∷ marked 2 (Got 104) ∷
    marked 2 (Sent 106 6 (messages.Answer 104 (answers.Granted (whole_grant 1 3 [])))) ∷ marked 6 (Got 106) ∷
    marked 3 (Sent 107 6 (messages.Answer 105 (answers.Granted (whole_grant 1 1 [])))) ∷
    marked 1 (Sent 108 6 (messages.Answer 103 (answers.Granted (whole_grant 1 3 [])))) ∷ marked 6 (Got 107)
    ∷ marked 6 (Got 108) ∷
    marked 6 (Told (replies.Response 2)) ∷ marked 6 (Called (commands.Do 1 0)) ∷
    marked 6 (Sent 109 1 (messages.Request (tx 1 1) 1 1 (wants.Read (first_read 1 0)))) ∷ marked 1 (Got 109) ∷
    marked 1 (Sent 110 6 (messages.Answer 109 (answers.Granted (whole_grant 1 3 (line 1 0 2 1 1 0 ∷ [])))))
    ∷ marked 6 (Got 110) ∷
    marked 6 (Told (replies.Response 1)) ∷ marked 6 (Called commands.Commit) ∷
    marked 6 (Sent 111 1 (messages.Request (tx 1 1) 1 1 wants.Prepare)) ∷
    marked 6 (Sent 112 2 (messages.Request (tx 1 1) 1 1 wants.Prepare)) ∷
    marked 6 (Sent 113 3 (messages.Request (tx 1 1) 1 1 wants.Prepare)) ∷ marked 2 (Got 112) ∷ marked 6 (Lost 113) ∷
    marked 1 (Got 111) ∷ marked 2 (Wrote (prepare (tx 1 1) 1 [] (own_line 1 0 2 ∷ own_line 3 0 2 ∷ []) [])) ∷
    marked 2 (Sent 114 6 (messages.Answer 112 (answers.Yes 3))) ∷ marked 6 (Got 114) ∷
    marked 1 (Wrote (prepare (tx 1 1) 1 (read_lock 1 0 ∷ []) (own_line 1 0 2 ∷ own_line 3 0 2 ∷ []) [])) ∷
    marked 1 (Sent 115 6 (messages.Answer 111 (answers.Yes 3))) ∷ marked 6 (Got 115) ∷
    marked 6 (Sent 116 1 (messages.Decision (tx 1 1) outcomes.Aborted)) ∷
    marked 6 (Sent 117 2 (messages.Decision (tx 1 1) outcomes.Aborted)) ∷
    marked 6 (Sent 118 3 (messages.Decision (tx 1 1) outcomes.Aborted)) ∷
    marked 6 (Told (replies.Aborted (causes.NoAnswer 3))) ∷ marked 3 (Got 118) ∷ marked 1 (Got 116) ∷
    marked 2 (Got 117) ∷ []
