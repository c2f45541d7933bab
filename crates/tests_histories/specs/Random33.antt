-- Random: sites 4, clients 4, steps 272, messages 108, lost 9, cuts 1, commits 1, aborts 3, conflicts 1, short rounds
-- 3.
use Rattle.std.specs.Prelude.{List, [], ◌∷◌}
use Rattle.qc_decl.specs.declared.declaration.Declaration.{Declaration}
use Rattle.qc_decl.specs.Vocabulary.{row}
use Rattle.qc_msg.specs.Vocabulary.{Entry, marked}
use Rattle.tests_histories.specs.Play.{Move, Takes, Posts, Acts}
use Rattle.tests_histories.specs.Words.{tx, stamp, own_line, read_lock, prepare, commit, declaration, kind, pair, plan}
use Rattle.qc_msg.specs.declared.step.Step.TheVariants.{Phase, Cut, Called, Got, Lost, Wrote, Sent, Told}
use Rattle.qc_msg.specs.declared.message.Answer.TheVariants as answers
use Rattle.qc_msg.specs.declared.reply.AbortCause.TheVariants as causes
use Rattle.qc_msg.specs.declared.step.Command.TheVariants as commands
use Rattle.qc_msg.specs.declared.reply.Half.TheVariants as halves
use Rattle.qc_msg.specs.declared.message.Message.TheVariants as messages
use Rattle.qc_msg.specs.declared.message.Outcome.TheVariants as outcomes
use Rattle.qc_msg.specs.declared.reply.Reply.TheVariants as replies
use Rattle.qc_msg.specs.declared.message.Want.TheVariants as wants
use Rattle.qc_msg.specs.Vocabulary.{whole_grant, first_read}

abbrev pub decl : Declaration
decl =
    declaration 4 4 (kind 7 3 4 0 (row 0 0 0 1 ∷ row 0 1 0 2 ∷ row 1 0 0 3 ∷ row 1 1 0 4 ∷ row 2 0 0 5 ∷ row 2 1 0 6 ∷
    row 0 2 3 0 ∷ row 1 2 1 0 ∷ row 2 2 2 0 ∷ row 3 2 1 1 ∷ row 4 2 1 2 ∷ row 5 2 2 1 ∷ row 6 2 2 2 ∷ []) (pair 0 0 ∷
    pair 0 1 ∷ pair 0 3 ∷ pair 0 4 ∷ pair 1 0 ∷ pair 1 1 ∷ pair 1 3 ∷ pair 1 4 ∷ pair 2 0 ∷ pair 2 1 ∷ pair 2 3 ∷ pair 2
    4 ∷ []) ∷ kind 2 2 3 0 (row 0 0 0 1 ∷ row 1 0 1 1 ∷ row 0 1 2 0 ∷ row 1 1 2 0 ∷ []) (pair 0 0 ∷ pair 0 2 ∷ []) ∷ [])
    (0 ∷ 0 ∷ []) (plan (1 ∷ 2 ∷ 1 ∷ 3 ∷ []) ((6 ∷ 4 ∷ 1 ∷ []) ∷ (1 ∷ 4 ∷ 6 ∷ []) ∷ []) ((7 ∷ 7 ∷ 0 ∷ 7 ∷ 7 ∷ []) ∷ (7 ∷
    7 ∷ 0 ∷ 7 ∷ 7 ∷ []) ∷ []) ∷ plan (2 ∷ 1 ∷ 1 ∷ 1 ∷ []) ((3 ∷ 3 ∷ 3 ∷ []) ∷ (2 ∷ 3 ∷ 1 ∷ []) ∷ []) ((4 ∷ 3 ∷ 0 ∷ 3 ∷ 3
    ∷ []) ∷ (5 ∷ 5 ∷ 0 ∷ 5 ∷ 5 ∷ []) ∷ []) ∷ [])

abbrev pub moves : List Move
moves =
    Acts (Phase 1) ∷ Takes 6 (Called commands.Begin) ∷ Takes 7 (Called commands.Begin) ∷
    Takes 5 (Called commands.Begin) ∷ Posts 6 ∷ Takes 6 (Called (commands.Do 1 0)) ∷ Posts 5 ∷
    Takes 5 (Called (commands.Do 1 2)) ∷ Posts 5 ∷ Takes 3 (Got 2) ∷ Takes 1 (Got 0) ∷ Takes 2 (Got 1) ∷ Posts 7 ∷
    Takes 7 (Called (commands.Do 1 2)) ∷ Posts 7 ∷ Takes 0 (Got 4) ∷ Posts 6 ∷ Posts 1 ∷ Takes 1 (Got 5) ∷
    Takes 5 (Got 7) ∷ Posts 5 ∷ Posts 2 ∷ Takes 2 (Got 6) ∷ Posts 3 ∷ Takes 3 (Got 3) ∷ Takes 5 (Got 8) ∷ Posts 5 ∷
    Posts 2 ∷ Posts 1 ∷ Takes 7 (Got 11) ∷ Posts 7 ∷ Takes 6 (Got 10) ∷ Posts 0 ∷ Takes 7 (Got 12) ∷ Posts 7 ∷ Posts 3 ∷
    Takes 5 (Got 9) ∷ Posts 6 ∷ Takes 1 (Got 17) ∷ Takes 3 (Got 15) ∷ Takes 2 (Got 14) ∷ Takes 0 (Got 16) ∷ Posts 3 ∷
    Posts 5 ∷ Takes 5 (Got 19) ∷ Posts 5 ∷ Takes 3 (Got 20) ∷ Posts 3 ∷ Posts 2 ∷ Takes 5 (Got 22) ∷ Takes 6 (Got 18) ∷
    Posts 6 ∷ Takes 7 (Got 13) ∷ Posts 5 ∷ Posts 7 ∷ Takes 2 (Got 23) ∷ Posts 2 ∷ Takes 7 (Called commands.Commit) ∷
    Takes 5 (Called commands.Abort) ∷ Posts 1 ∷ Posts 0 ∷ Posts 5 ∷ Takes 5 (Got 25) ∷ Takes 1 (Got 28) ∷ Posts 1 ∷
    Takes 6 (Got 21) ∷ Posts 6 ∷ Takes 6 (Got 24) ∷ Posts 6 ∷ Posts 5 ∷ Posts 7 ∷ Takes 7 (Got 27) ∷ Takes 0 (Got 33) ∷
    Takes 1 (Got 34) ∷ Takes 3 (Got 32) ∷ Posts 7 ∷ Posts 3 ∷ Takes 7 (Got 36) ∷ Posts 7 ∷ Posts 1 ∷ Posts 0 ∷
    Takes 6 (Got 26) ∷ Takes 7 (Got 37) ∷ Posts 7 ∷ Takes 7 (Lost 33) ∷ Posts 7 ∷ Takes 0 (Got 39) ∷ Posts 0 ∷ Posts 6 ∷
    Takes 6 (Called (commands.Do 0 2)) ∷ Posts 6 ∷ Takes 6 (Called commands.Abort) ∷ Posts 6 ∷ Takes 0 (Got 42) ∷
    Posts 0 ∷ Takes 1 (Got 43) ∷ Posts 1 ∷ Takes 3 (Got 45) ∷ Posts 3 ∷ Acts (Phase 2) ∷ Takes 5 (Got 19) ∷
    Takes 7 (Got 36) ∷ Posts 7 ∷ Posts 5 ∷ Takes 5 (Called (commands.Do 1 1)) ∷ Takes 3 (Got 46) ∷ Posts 3 ∷ Posts 5 ∷
    Takes 5 (Called (commands.Do 1 2)) ∷ Posts 5 ∷ Takes 5 (Called (commands.Do 1 0)) ∷ Posts 5 ∷
    Takes 5 (Called commands.Commit) ∷ Posts 5 ∷ Acts (Phase 3) ∷ Acts (Cut 4 6) ∷ Takes 5 (Called commands.Begin) ∷
    Takes 4 (Called commands.Begin) ∷ Posts 5 ∷ Takes 5 (Called (commands.Do 0 1)) ∷ Posts 5 ∷ Takes 1 (Got 47) ∷
    Takes 3 (Got 49) ∷ Takes 2 (Got 48) ∷ Posts 1 ∷ Takes 5 (Lost 47) ∷ Posts 5 ∷ Posts 3 ∷ Posts 2 ∷
    Takes 5 (Lost 48) ∷ Posts 5 ∷ Posts 4 ∷ Takes 5 (Lost 49) ∷ Posts 5 ∷ Takes 4 (Called (commands.Do 0 2)) ∷
    Takes 0 (Got 53) ∷ Posts 0 ∷ Takes 5 (Got 54) ∷ Posts 5 ∷ Takes 5 (Called commands.Commit) ∷ Posts 4 ∷ Posts 5 ∷
    Takes 0 (Got 55) ∷ Posts 0 ∷ Takes 0 (Got 56) ∷ Takes 4 (Got 57) ∷ Posts 0 ∷ Posts 4 ∷
    Takes 4 (Called (commands.Do 1 2)) ∷ Takes 5 (Got 58) ∷ Posts 4 ∷ Posts 5 ∷ Takes 3 (Got 62) ∷ Takes 0 (Got 59) ∷
    Takes 1 (Got 60) ∷ Takes 5 (Called commands.Begin) ∷ Takes 2 (Got 61) ∷ Posts 5 ∷
    Takes 5 (Called (commands.Do 0 2)) ∷ Posts 0 ∷ Posts 2 ∷ Takes 2 (Got 65) ∷ Posts 2 ∷ Takes 4 (Got 67) ∷ Posts 4 ∷
    Posts 3 ∷ Takes 3 (Got 66) ∷ Posts 3 ∷ Posts 1 ∷ Takes 1 (Got 64) ∷ Posts 1 ∷ Takes 4 (Got 68) ∷ Posts 4 ∷ Posts 5 ∷
    Takes 1 (Got 71) ∷ Takes 4 (Got 69) ∷ Posts 4 ∷ Posts 1 ∷ Takes 5 (Got 72) ∷ Posts 5 ∷
    Takes 5 (Called (commands.Do 0 0)) ∷ Posts 5 ∷ Takes 3 (Got 75) ∷ Takes 1 (Got 73) ∷ Posts 1 ∷ Takes 2 (Got 74) ∷
    Posts 2 ∷ Takes 5 (Got 76) ∷ Posts 5 ∷ Posts 3 ∷ Takes 5 (Got 77) ∷ Posts 5 ∷ Takes 4 (Got 70) ∷ Takes 5 (Got 78) ∷
    Posts 4 ∷ Takes 4 (Called (commands.Do 1 1)) ∷ Posts 4 ∷ Takes 1 (Got 80) ∷ Takes 4 (Lost 79) ∷ Posts 4 ∷
    Takes 2 (Got 81) ∷ Posts 1 ∷ Posts 2 ∷ Posts 5 ∷ Takes 3 (Got 86) ∷ Takes 2 (Got 85) ∷ Takes 0 (Got 87) ∷
    Takes 1 (Got 84) ∷ Posts 1 ∷ Takes 5 (Got 88) ∷ Posts 5 ∷ Posts 3 ∷ Takes 5 (Got 89) ∷ Posts 5 ∷ Posts 2 ∷
    Takes 5 (Got 90) ∷ Posts 5 ∷ Takes 4 (Got 82) ∷ Posts 4 ∷ Takes 4 (Got 83) ∷ Posts 4 ∷ Takes 3 (Got 91) ∷ Posts 3 ∷
    Posts 0 ∷ Takes 5 (Lost 87) ∷ Takes 4 (Got 92) ∷ Posts 5 ∷ Posts 4 ∷ Takes 5 (Called (commands.Do 0 1)) ∷
    Takes 4 (Lost 96) ∷ Posts 4 ∷ Takes 0 (Got 95) ∷ Posts 5 ∷ Takes 4 (Lost 97) ∷ Posts 4 ∷
    Takes 5 (Called commands.Commit) ∷ Posts 5 ∷ Takes 1 (Got 100) ∷ Posts 1 ∷ Takes 2 (Got 101) ∷ Posts 2 ∷
    Takes 3 (Got 102) ∷ Posts 3 ∷ Takes 4 (Lost 98) ∷ Posts 4 ∷ Posts 0 ∷ Takes 4 (Got 103) ∷ Posts 4 ∷
    Takes 0 (Got 99) ∷ Posts 0 ∷ Takes 4 (Called commands.Commit) ∷ Posts 4 ∷ Takes 3 (Got 107) ∷ Posts 3 ∷
    Takes 0 (Got 104) ∷ Posts 0 ∷ Takes 2 (Got 106) ∷ Posts 2 ∷ Takes 1 (Got 105) ∷ Posts 1 ∷ []

abbrev pub history : List Entry
history =
    marked 9 (Phase 1) ∷ marked 6 (Called commands.Begin) ∷ marked 7 (Called commands.Begin) ∷
    marked 5 (Called commands.Begin) ∷ marked 6 (Told (replies.Began (tx 2 1))) ∷ marked 6 (Called (commands.Do 1 0)) ∷
    marked 5 (Told (replies.Began (tx 1 1))) ∷ marked 5 (Called (commands.Do 1 2)) ∷
    marked 5 (Sent 0 1 (messages.Request (tx 1 1) 1 0 (wants.Read (first_read 1 2)))) ∷
    marked 5 (Sent 1 2 (messages.Request (tx 1 1) 1 0 (wants.Read (first_read 1 2)))) ∷
    marked 5 (Sent 2 3 (messages.Request (tx 1 1) 1 0 (wants.Read (first_read 1 2)))) ∷ marked 3 (Got 2) ∷
    marked 1 (Got 0)
    ∷
    marked 2 (Got 1) ∷ marked 7 (Told (replies.Began (tx 3 1))) ∷ marked 7 (Called (commands.Do 1 2)) ∷
    marked 7 (Sent 3 3 (messages.Request (tx 3 1) 1 0 (wants.Read (first_read 1 2)))) ∷
    marked 7 (Sent 4 0 (messages.Request (tx 3 1) 1 0 (wants.Read (first_read 1 2)))) ∷
    marked 7 (Sent 5 1 (messages.Request (tx 3 1) 1 0 (wants.Read (first_read 1 2)))) ∷ marked 0 (Got 4) ∷
    marked 6 (Sent 6 2 (messages.Request (tx 2 1) 1 0 (wants.Read (first_read 1 0)))) ∷
    marked 1 (Sent 7 5 (messages.Answer 0 (answers.Granted (whole_grant 1 0 [])))) ∷ marked 1 (Got 5) ∷ marked 5 (Got 7)
    ∷
    marked 2 (Sent 8 5 (messages.Answer 1 (answers.Granted (whole_grant 1 0 [])))) ∷ marked 2 (Got 6) ∷
    marked 3 (Sent 9 5 (messages.Answer 2 (answers.Granted (whole_grant 1 0 [])))) ∷ marked 3 (Got 3) ∷ marked 5 (Got 8)
    ∷
    marked 2 (Sent 10 6 (messages.Answer 6 (answers.Granted (whole_grant 1 0 [])))) ∷
    marked 1 (Sent 11 7 (messages.Answer 5 (answers.Granted (whole_grant 1 0 [])))) ∷ marked 7 (Got 11)
    ∷ marked 6 (Got 10) ∷
    marked 0 (Sent 12 7 (messages.Answer 4 (answers.Granted (whole_grant 1 0 [])))) ∷ marked 7 (Got 12) ∷
    marked 3 (Sent 13 7 (messages.Answer 3 (answers.Granted (whole_grant 1 0 [])))) ∷ marked 5 (Got 9) ∷
    marked 6 (Sent 14 2 (messages.Request (tx 2 1) 1 1 (wants.Append 1 [] (own_line 1 1 0 ∷ [])))) ∷
    marked 6 (Sent 15 3 (messages.Request (tx 2 1) 1 0 (wants.Append 1 [] (own_line 1 1 0 ∷ [])))) ∷
    marked 6 (Sent 16 0 (messages.Request (tx 2 1) 1 0 (wants.Append 1 [] (own_line 1 1 0 ∷ [])))) ∷
    marked 6 (Sent 17 1 (messages.Request (tx 2 1) 1 0 (wants.Append 1 [] (own_line 1 1 0 ∷ [])))) ∷ marked 1 (Got 17) ∷
    marked 3 (Got 15) ∷ marked 2 (Got 14) ∷ marked 0 (Got 16) ∷
    marked 3 (Sent 18 6 (messages.Answer 15 (answers.Clash (tx 1 1) 2 0))) ∷
    marked 3 (Sent 19 5 (messages.Inquiry (tx 1 1))) ∷ marked 5 (Told (replies.Response 3)) ∷ marked 5 (Got 19) ∷
    marked 5 (Sent 20 3 (messages.Decision (tx 1 1) outcomes.Active)) ∷ marked 3 (Got 20) ∷
    marked 2 (Sent 21 6 (messages.Answer 14 (answers.Clash (tx 1 1) 2 0))) ∷
    marked 2 (Sent 22 5 (messages.Inquiry (tx 1 1))) ∷ marked 5 (Got 22) ∷ marked 6 (Got 18) ∷ marked 7 (Got 13) ∷
    marked 5 (Sent 23 2 (messages.Decision (tx 1 1) outcomes.Active)) ∷ marked 7 (Told (replies.Response 3)) ∷
    marked 2 (Got 23) ∷ marked 7 (Called commands.Commit) ∷ marked 5 (Called commands.Abort) ∷
    marked 1 (Sent 24 6 (messages.Answer 17 (answers.Clash (tx 1 1) 2 0))) ∷
    marked 1 (Sent 25 5 (messages.Inquiry (tx 1 1))) ∷
    marked 0 (Sent 26 6 (messages.Answer 16 (answers.Clash (tx 3 1) 2 0))) ∷
    marked 0 (Sent 27 7 (messages.Inquiry (tx 3 1))) ∷
    marked 5 (Sent 28 1 (messages.Decision (tx 1 1) outcomes.Aborted)) ∷
    marked 5 (Sent 29 2 (messages.Decision (tx 1 1) outcomes.Aborted)) ∷
    marked 5 (Sent 30 3 (messages.Decision (tx 1 1) outcomes.Aborted)) ∷ marked 5 (Told replies.Dropped) ∷
    marked 5 (Got 25) ∷ marked 1 (Got 28) ∷ marked 6 (Got 21) ∷ marked 6 (Got 24) ∷
    marked 5 (Sent 31 1 (messages.Decision (tx 1 1) outcomes.Aborted)) ∷
    marked 7 (Sent 32 3 (messages.Request (tx 3 1) 1 1 wants.Prepare)) ∷
    marked 7 (Sent 33 0 (messages.Request (tx 3 1) 1 1 wants.Prepare)) ∷
    marked 7 (Sent 34 1 (messages.Request (tx 3 1) 1 1 wants.Prepare)) ∷ marked 7 (Got 27) ∷ marked 0 (Got 33) ∷
    marked 1 (Got 34) ∷ marked 3 (Got 32) ∷ marked 7 (Sent 35 0 (messages.Decision (tx 3 1) outcomes.Active)) ∷
    marked 3 (Wrote (prepare (tx 3 1) 1 (read_lock 1 2 ∷ []) [] [])) ∷
    marked 3 (Sent 36 7 (messages.Answer 32 (answers.Yes 0))) ∷ marked 7 (Got 36) ∷
    marked 1 (Wrote (prepare (tx 3 1) 1 (read_lock 1 2 ∷ []) [] [])) ∷
    marked 1 (Sent 37 7 (messages.Answer 34 (answers.Yes 0))) ∷
    marked 0 (Wrote (prepare (tx 3 1) 1 (read_lock 1 2 ∷ []) [] [])) ∷
    marked 0 (Sent 38 7 (messages.Answer 33 (answers.Yes 0))) ∷ marked 6 (Got 26) ∷ marked 7 (Got 37) ∷
    marked 7 (Lost 33) ∷ marked 7 (Sent 39 0 (messages.Decision (tx 3 1) outcomes.Aborted)) ∷
    marked 7 (Sent 40 1 (messages.Decision (tx 3 1) outcomes.Aborted)) ∷
    marked 7 (Sent 41 3 (messages.Decision (tx 3 1) outcomes.Aborted)) ∷
    marked 7 (Told (replies.Aborted (causes.NoAnswer 0))) ∷ marked 0 (Got 39) ∷
    marked 6 (Told (replies.Conflict (tx 1 1) 2)) ∷ marked 6 (Called (commands.Do 0 2)) ∷
    marked 6 (Told replies.Doomed) ∷ marked 6 (Called commands.Abort) ∷
    marked 6 (Sent 42 0 (messages.Decision (tx 2 1) outcomes.Aborted)) ∷
    marked 6 (Sent 43 1 (messages.Decision (tx 2 1) outcomes.Aborted)) ∷
    marked 6 (Sent 44 2 (messages.Decision (tx 2 1) outcomes.Aborted)) ∷
    marked 6 (Sent 45 3 (messages.Decision (tx 2 1) outcomes.Aborted)) ∷ marked 6 (Told replies.Dropped) ∷
    marked 0 (Got 42) ∷ marked 1 (Got 43) ∷ marked 3 (Got 45) ∷ marked 9 (Phase 2) ∷ marked 5 (Got 19) ∷
    marked 7 (Got 36) ∷ marked 5 (Sent 46 3 (messages.Decision (tx 1 1) outcomes.Aborted)) ∷
    marked 5 (Called (commands.Do 1 1)) ∷ marked 3 (Got 46) ∷ marked 5 (Told replies.NoTransaction) ∷
    marked 5 (Called (commands.Do 1 2)) ∷ marked 5 (Told replies.NoTransaction) ∷ marked 5 (Called (commands.Do 1 0)) ∷
    marked 5 (Told replies.NoTransaction) ∷ marked 5 (Called commands.Commit) ∷ marked 5 (Told replies.NoTransaction) ∷
    marked 9 (Phase 3) ∷ marked 9 (Cut 4 6) ∷ marked 5 (Called commands.Begin) ∷ marked 4 (Called commands.Begin) ∷
    marked 5 (Told (replies.Began (tx 1 2))) ∷ marked 5 (Called (commands.Do 0 1)) ∷
    marked 5 (Sent 47 1 (messages.Request (tx 1 2) 1 0 (wants.Read (first_read 0 1)))) ∷
    marked 5 (Sent 48 2 (messages.Request (tx 1 2) 1 0 (wants.Read (first_read 0 1)))) ∷
    marked 5 (Sent 49 3 (messages.Request (tx 1 2) 1 0 (wants.Read (first_read 0 1)))) ∷ marked 1 (Got 47)
    ∷ marked 3 (Got 49) ∷
    marked 2 (Got 48) ∷ marked 1 (Sent 50 5 (messages.Answer 47 (answers.Granted (whole_grant 1 0 []))))
    ∷ marked 5 (Lost 47) ∷
    marked 3 (Sent 51 5 (messages.Answer 49 (answers.Granted (whole_grant 1 0 [])))) ∷
    marked 2 (Sent 52 5 (messages.Answer 48 (answers.Granted (whole_grant 1 0 [])))) ∷ marked 5 (Lost 48) ∷
    marked 4 (Told (replies.Began (tx 0 1))) ∷ marked 5 (Lost 49) ∷
    marked 5 (Sent 53 0 (messages.Request (tx 1 2) 1 0 (wants.Read (first_read 0 1))))
    ∷ marked 4 (Called (commands.Do 0 2)) ∷
    marked 0 (Got 53) ∷ marked 0 (Sent 54 5 (messages.Answer 53 (answers.Granted (whole_grant 1 0 []))))
    ∷ marked 5 (Got 54) ∷
    marked 5 (Told (replies.Quorum halves.Read 1 4)) ∷ marked 5 (Called commands.Commit) ∷
    marked 4 (Sent 55 0 (messages.Request (tx 0 1) 1 0 (wants.Read (first_read 0 2)))) ∷
    marked 5 (Sent 56 0 (messages.Request (tx 1 2) 1 1 wants.Prepare)) ∷ marked 0 (Got 55) ∷
    marked 0 (Sent 57 4 (messages.Answer 55 (answers.Granted (whole_grant 1 0 [])))) ∷ marked 0 (Got 56)
    ∷ marked 4 (Got 57) ∷
    marked 0 (Wrote (prepare (tx 1 2) 1 (read_lock 0 1 ∷ []) [] [])) ∷
    marked 0 (Sent 58 5 (messages.Answer 56 (answers.Yes 0))) ∷ marked 4 (Told (replies.Response 3)) ∷
    marked 4 (Called (commands.Do 1 2)) ∷ marked 5 (Got 58) ∷
    marked 4 (Sent 59 0 (messages.Request (tx 0 1) 1 1 (wants.Read (first_read 1 2)))) ∷
    marked 4 (Sent 60 1 (messages.Request (tx 0 1) 1 0 (wants.Read (first_read 1 2)))) ∷
    marked 4 (Sent 61 2 (messages.Request (tx 0 1) 1 0 (wants.Read (first_read 1 2)))) ∷
    marked 4 (Sent 62 3 (messages.Request (tx 0 1) 1 0 (wants.Read (first_read 1 2)))) ∷
    marked 5 (Wrote (commit (stamp 1 1) (tx 1 2) [])) ∷
    marked 5 (Sent 63 0 (messages.Decision (tx 1 2) (outcomes.Committed (stamp 1 1)))) ∷
    marked 5 (Sent 64 1 (messages.Decision (tx 1 2) (outcomes.Committed (stamp 1 1)))) ∷
    marked 5 (Sent 65 2 (messages.Decision (tx 1 2) (outcomes.Committed (stamp 1 1)))) ∷
    marked 5 (Sent 66 3 (messages.Decision (tx 1 2) (outcomes.Committed (stamp 1 1)))) ∷
    marked 5 (Told (replies.Committed (stamp 1 1))) ∷ marked 3 (Got 62) ∷ marked 0 (Got 59) ∷ marked 1 (Got 60) ∷
    marked 5 (Called commands.Begin) ∷ marked 2 (Got 61) ∷ marked 5 (Told (replies.Began (tx 1 3))) ∷
    marked 5 (Called (commands.Do 0 2))
    ∷ marked 0 (Sent 67 4 (messages.Answer 59 (answers.Granted (whole_grant 1 0 [])))) ∷
    marked 2 (Sent 68 4 (messages.Answer 61 (answers.Granted (whole_grant 1 0 [])))) ∷ marked 2 (Got 65)
    ∷ marked 4 (Got 67) ∷
    marked 3 (Sent 69 4 (messages.Answer 62 (answers.Granted (whole_grant 1 0 [])))) ∷ marked 3 (Got 66) ∷
    marked 1 (Sent 70 4 (messages.Answer 60 (answers.Granted (whole_grant 1 0 [])))) ∷ marked 1 (Got 64)
    ∷ marked 4 (Got 68) ∷
    marked 5 (Sent 71 1 (messages.Request (tx 1 3) 1 0 (wants.Read (first_read 0 2)))) ∷ marked 1 (Got 71)
    ∷ marked 4 (Got 69) ∷
    marked 1 (Sent 72 5 (messages.Answer 71 (answers.Granted (whole_grant 1 1 [])))) ∷ marked 5 (Got 72) ∷
    marked 5 (Told (replies.Response 3)) ∷ marked 5 (Called (commands.Do 0 0)) ∷
    marked 5 (Sent 73 1 (messages.Request (tx 1 3) 1 1 (wants.Read (first_read 0 0)))) ∷
    marked 5 (Sent 74 2 (messages.Request (tx 1 3) 1 0 (wants.Read (first_read 0 0)))) ∷
    marked 5 (Sent 75 3 (messages.Request (tx 1 3) 1 0 (wants.Read (first_read 0 0)))) ∷ marked 3 (Got 75)
    ∷ marked 1 (Got 73) ∷
    marked 1 (Sent 76 5 (messages.Answer 73 (answers.Granted (whole_grant 1 1 [])))) ∷ marked 2 (Got 74) ∷
    marked 2 (Sent 77 5 (messages.Answer 74 (answers.Granted (whole_grant 1 1 [])))) ∷ marked 5 (Got 76) ∷
    marked 3 (Sent 78 5 (messages.Answer 75 (answers.Granted (whole_grant 1 1 [])))) ∷ marked 5 (Got 77)
    ∷ marked 4 (Got 70) ∷
    marked 5 (Got 78) ∷ marked 4 (Told (replies.Response 3)) ∷ marked 4 (Called (commands.Do 1 1)) ∷
    marked 4 (Sent 79 0 (messages.Request (tx 0 1) 1 1 (wants.Read (first_read 1 1)))) ∷
    marked 4 (Sent 80 1 (messages.Request (tx 0 1) 1 1 (wants.Read (first_read 1 1)))) ∷
    marked 4 (Sent 81 2 (messages.Request (tx 0 1) 1 1 (wants.Read (first_read 1 1)))) ∷ marked 1 (Got 80)
    ∷ marked 4 (Lost 79) ∷
    marked 2 (Got 81) ∷ marked 1 (Sent 82 4 (messages.Answer 80 (answers.Granted (whole_grant 1 1 [])))) ∷
    marked 2 (Sent 83 4 (messages.Answer 81 (answers.Granted (whole_grant 1 1 [])))) ∷
    marked 5 (Sent 84 1 (messages.Request (tx 1 3) 1 1 (wants.Append 0 [] (own_line 2 0 0 ∷ [])))) ∷
    marked 5 (Sent 85 2 (messages.Request (tx 1 3) 1 1 (wants.Append 0 [] (own_line 2 0 0 ∷ [])))) ∷
    marked 5 (Sent 86 3 (messages.Request (tx 1 3) 1 1 (wants.Append 0 [] (own_line 2 0 0 ∷ [])))) ∷
    marked 5 (Sent 87 0 (messages.Request (tx 1 3) 1 0 (wants.Append 0 [] (own_line 2 0 0 ∷ [])))) ∷ marked 3 (Got 86) ∷
    marked 2 (Got 85) ∷ marked 0 (Got 87) ∷ marked 1 (Got 84) ∷
    marked 1 (Sent 88 5 (messages.Answer 84 (answers.Granted (whole_grant 1 1 [])))) ∷ marked 5 (Got 88) ∷
    marked 3 (Sent 89 5 (messages.Answer 86 (answers.Granted (whole_grant 1 1 [])))) ∷ marked 5 (Got 89) ∷
    marked 2 (Sent 90 5 (messages.Answer 85 (answers.Granted (whole_grant 1 1 [])))) ∷ marked 5 (Got 90)
    ∷ marked 4 (Got 82) ∷
    marked 4 (Got 83) ∷ marked 4 (Sent 91 3 (messages.Request (tx 0 1) 1 1 (wants.Read (first_read 1 1))))
    ∷ marked 3 (Got 91) ∷
    marked 3 (Sent 92 4 (messages.Answer 91 (answers.Granted (whole_grant 1 1 [])))) ∷
    marked 0 (Sent 93 5 (messages.Answer 87 (answers.Clash (tx 0 1) 2 0))) ∷
    marked 0 (Sent 94 4 (messages.Inquiry (tx 0 1))) ∷ marked 5 (Lost 87) ∷ marked 4 (Got 92) ∷
    marked 5 (Told (replies.Quorum halves.Append 6 7)) ∷
    marked 4 (Sent 95 0 (messages.Request (tx 0 1) 1 1 (wants.Append 1 [] (own_line 3 1 1 ∷ [])))) ∷
    marked 4 (Sent 96 1 (messages.Request (tx 0 1) 1 1 (wants.Append 1 [] (own_line 3 1 1 ∷ [])))) ∷
    marked 4 (Sent 97 2 (messages.Request (tx 0 1) 1 1 (wants.Append 1 [] (own_line 3 1 1 ∷ [])))) ∷
    marked 4 (Sent 98 3 (messages.Request (tx 0 1) 1 1 (wants.Append 1 [] (own_line 3 1 1 ∷ [])))) ∷
    marked 5 (Called (commands.Do 0 1)) ∷ marked 4 (Lost 96) ∷ marked 0 (Got 95) ∷ marked 5 (Told replies.Doomed) ∷
    marked 4 (Lost 97) ∷ marked 5 (Called commands.Commit) ∷
    marked 5 (Sent 99 0 (messages.Decision (tx 1 3) outcomes.Aborted)) ∷
    marked 5 (Sent 100 1 (messages.Decision (tx 1 3) outcomes.Aborted)) ∷
    marked 5 (Sent 101 2 (messages.Decision (tx 1 3) outcomes.Aborted)) ∷
    marked 5 (Sent 102 3 (messages.Decision (tx 1 3) outcomes.Aborted)) ∷
    marked 5 (Told (replies.Aborted causes.Doomed)) ∷ marked 1 (Got 100) ∷ marked 2 (Got 101) ∷ marked 3 (Got 102) ∷
    marked 4 (Lost 98) ∷ marked 0 (Sent 103 4 (messages.Answer 95 (answers.Granted (whole_grant 1 0 []))))
    ∷ marked 4 (Got 103) ∷
    marked 4 (Told (replies.Quorum halves.Append 1 7)) ∷ marked 0 (Got 99) ∷ marked 4 (Called commands.Commit) ∷
    marked 4 (Sent 104 0 (messages.Decision (tx 0 1) outcomes.Aborted)) ∷
    marked 4 (Sent 105 1 (messages.Decision (tx 0 1) outcomes.Aborted)) ∷
    marked 4 (Sent 106 2 (messages.Decision (tx 0 1) outcomes.Aborted)) ∷
    marked 4 (Sent 107 3 (messages.Decision (tx 0 1) outcomes.Aborted)) ∷
    marked 4 (Told (replies.Aborted causes.Doomed)) ∷ marked 3 (Got 107) ∷ marked 0 (Got 104) ∷ marked 2 (Got 106) ∷
    marked 1 (Got 105) ∷ []
