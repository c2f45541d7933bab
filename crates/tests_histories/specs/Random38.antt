-- Random: sites 4, clients 4, steps 312, messages 98, commits 3, aborts 1, conflicts 3, absent 2.
use Rattle.std.specs.Prelude.{List, [], ◌∷◌, Some, None}
use Rattle.qc_decl.specs.declared.declaration.Declaration.{Declaration}
use Rattle.qc_decl.specs.Vocabulary.{row}
use Rattle.qc_msg.specs.Vocabulary.{Entry, marked}
use Rattle.tests_histories.specs.Play.{Move, Takes, Posts, Acts}
use Rattle.tests_histories.specs.Words.{tx, stamp, line, own_line, operation, read_lock, prepare, commit, declaration}
use Rattle.tests_histories.specs.Words.{kind, pair, plan}
use Rattle.qc_msg.specs.declared.step.Step.TheVariants.{Phase, Called, Got, Wrote, Sent, Told}
use Rattle.qc_msg.specs.declared.message.Answer.TheVariants as answers
use Rattle.qc_msg.specs.declared.reply.AbortCause.TheVariants as causes
use Rattle.qc_msg.specs.declared.step.Command.TheVariants as commands
use Rattle.qc_msg.specs.declared.message.Message.TheVariants as messages
use Rattle.qc_msg.specs.declared.message.Outcome.TheVariants as outcomes
use Rattle.qc_msg.specs.declared.record.Record.TheVariants as records
use Rattle.qc_msg.specs.declared.reply.Reply.TheVariants as replies
use Rattle.qc_msg.specs.declared.message.Want.TheVariants as wants
use Rattle.qc_msg.specs.Vocabulary.{whole_grant, first_read}

abbrev pub decl : Declaration
decl =
    declaration 4 4 (kind 4 3 1 0 (row 0 0 0 1 ∷ row 0 1 0 1 ∷ row 1 0 0 2 ∷ row 1 1 0 2 ∷ row 1 2 0 2 ∷ row 2 0 0 2 ∷
    row 2 1 0 1 ∷ row 3 1 0 0 ∷ []) (pair 2 0 ∷ pair 2 1 ∷ pair 2 2 ∷ []) ∷ kind 2 2 2 0 (row 0 0 0 1 ∷ row 1 1 1 0 ∷
    []) (pair 0 0 ∷ pair 0 1 ∷ pair 1 0 ∷ pair 1 1 ∷ []) ∷ []) (0 ∷ []) (plan (3 ∷ 1 ∷ 3 ∷ 1 ∷ []) ((0 ∷ 0 ∷ 5 ∷ []) ∷
    []) ((4 ∷ 4 ∷ 4 ∷ []) ∷ []) ∷ plan (1 ∷ 3 ∷ 1 ∷ 2 ∷ []) ((0 ∷ 0 ∷ 3 ∷ []) ∷ []) ((5 ∷ 5 ∷ 5 ∷ []) ∷ []) ∷ [])

abbrev pub moves : List Move
moves =
    Acts (Phase 1) ∷ Takes 6 (Called commands.Begin) ∷ Posts 6 ∷ Takes 4 (Called commands.Begin) ∷
    Takes 6 (Called (commands.Do 0 2)) ∷ Posts 6 ∷ Takes 2 (Got 0) ∷ Takes 3 (Got 1) ∷ Posts 3 ∷ Takes 0 (Got 2) ∷
    Posts 4 ∷ Posts 2 ∷ Takes 4 (Called (commands.Do 0 0)) ∷ Posts 0 ∷ Takes 6 (Got 3) ∷ Posts 6 ∷ Takes 6 (Got 4) ∷
    Posts 6 ∷ Takes 6 (Got 5) ∷ Posts 6 ∷ Takes 7 (Called commands.Begin) ∷ Posts 7 ∷ Takes 6 (Called commands.Commit) ∷
    Posts 6 ∷ Takes 2 (Got 6) ∷ Posts 2 ∷ Takes 3 (Got 7) ∷ Posts 4 ∷ Posts 3 ∷ Takes 1 (Got 11) ∷ Posts 1 ∷
    Takes 4 (Got 13) ∷ Posts 4 ∷ Takes 7 (Called (commands.Do 0 0)) ∷ Takes 0 (Got 8) ∷ Posts 7 ∷ Posts 0 ∷
    Takes 6 (Got 9) ∷ Posts 6 ∷ Takes 3 (Got 14) ∷ Posts 3 ∷ Takes 0 (Got 10) ∷ Takes 6 (Got 12) ∷ Posts 6 ∷ Posts 0 ∷
    Takes 6 (Got 16) ∷ Takes 4 (Got 19) ∷ Posts 6 ∷ Takes 2 (Got 22) ∷ Takes 3 (Got 23) ∷ Posts 4 ∷
    Takes 4 (Called (commands.Do 0 0)) ∷ Takes 0 (Got 15) ∷ Posts 2 ∷ Posts 0 ∷ Takes 0 (Got 21) ∷ Posts 3 ∷
    Takes 6 (Got 18) ∷ Posts 6 ∷ Takes 3 (Got 26) ∷ Posts 3 ∷ Posts 4 ∷ Posts 0 ∷ Takes 6 (Got 20) ∷ Posts 6 ∷
    Takes 0 (Got 27) ∷ Posts 0 ∷ Takes 7 (Got 17) ∷ Posts 7 ∷ Takes 7 (Got 24) ∷ Posts 7 ∷
    Takes 7 (Called (commands.Do 0 1)) ∷ Posts 7 ∷ Takes 7 (Called commands.Commit) ∷ Posts 7 ∷ Takes 0 (Got 28) ∷
    Posts 0 ∷ Takes 3 (Got 29) ∷ Posts 3 ∷ Takes 7 (Called commands.Begin) ∷ Posts 7 ∷
    Takes 7 (Called (commands.Do 0 0)) ∷ Posts 7 ∷ Takes 0 (Got 31) ∷ Posts 0 ∷ Takes 3 (Got 30) ∷ Posts 3 ∷
    Takes 7 (Got 32) ∷ Posts 7 ∷ Takes 7 (Got 33) ∷ Posts 7 ∷ Takes 7 (Called (commands.Do 0 0)) ∷ Posts 7 ∷
    Takes 0 (Got 35) ∷ Takes 3 (Got 34) ∷ Posts 3 ∷ Posts 0 ∷ Takes 7 (Got 36) ∷ Posts 7 ∷ Takes 7 (Got 37) ∷ Posts 7 ∷
    Takes 7 (Called (commands.Do 0 2)) ∷ Posts 7 ∷ Takes 0 (Got 39) ∷ Takes 3 (Got 38) ∷ Takes 1 (Got 40) ∷ Posts 0 ∷
    Posts 3 ∷ Posts 1 ∷ Takes 4 (Got 44) ∷ Posts 4 ∷ Takes 1 (Got 45) ∷ Posts 1 ∷ Takes 7 (Got 41) ∷ Posts 7 ∷
    Takes 7 (Got 42) ∷ Posts 7 ∷ Takes 7 (Got 43) ∷ Posts 7 ∷ Takes 7 (Called commands.Commit) ∷ Posts 7 ∷
    Takes 0 (Got 47) ∷ Posts 0 ∷ Takes 3 (Got 46) ∷ Posts 3 ∷ Takes 7 (Got 48) ∷ Posts 7 ∷ Takes 7 (Got 49) ∷ Posts 7 ∷
    Takes 1 (Got 51) ∷ Posts 1 ∷ Takes 3 (Got 52) ∷ Takes 0 (Got 50) ∷ Posts 0 ∷ Posts 3 ∷ Acts (Phase 2) ∷
    Takes 7 (Got 17) ∷ Posts 7 ∷ Takes 4 (Got 13) ∷ Posts 4 ∷ Takes 3 (Got 1) ∷ Posts 3 ∷ Takes 1 (Got 11) ∷
    Takes 4 (Got 19) ∷ Posts 4 ∷ Takes 3 (Got 7) ∷ Takes 7 (Got 24) ∷ Posts 7 ∷ Posts 3 ∷ Takes 7 (Got 32) ∷ Posts 7 ∷
    Takes 3 (Got 14) ∷ Posts 3 ∷ Takes 3 (Got 23) ∷ Takes 0 (Got 2) ∷ Posts 3 ∷ Takes 4 (Got 44) ∷ Takes 7 (Got 33) ∷
    Posts 7 ∷ Posts 0 ∷ Takes 7 (Got 36) ∷ Posts 7 ∷ Posts 4 ∷ Takes 3 (Got 26) ∷ Posts 3 ∷ Takes 7 (Got 37) ∷ Posts 7 ∷
    Takes 3 (Got 29) ∷ Posts 3 ∷ Takes 2 (Got 0) ∷ Takes 7 (Got 41) ∷ Posts 7 ∷ Takes 7 (Got 42) ∷ Posts 7 ∷
    Takes 3 (Got 30) ∷ Posts 3 ∷ Takes 3 (Got 34) ∷ Posts 3 ∷ Takes 7 (Got 43) ∷ Posts 7 ∷ Takes 6 (Got 3) ∷ Posts 6 ∷
    Takes 3 (Got 38) ∷ Posts 3 ∷ Takes 7 (Got 48) ∷ Posts 7 ∷ Takes 0 (Got 8) ∷ Takes 7 (Got 49) ∷ Posts 7 ∷
    Takes 3 (Got 46) ∷ Posts 3 ∷ Takes 7 (Got 55) ∷ Posts 7 ∷ Posts 1 ∷ Takes 1 (Got 40) ∷ Takes 7 (Got 59) ∷ Posts 7 ∷
    Takes 4 (Got 63) ∷ Posts 4 ∷ Takes 7 (Got 60) ∷ Posts 7 ∷ Takes 3 (Got 52) ∷ Takes 7 (Got 61) ∷ Posts 7 ∷
    Takes 7 (Got 62) ∷ Posts 7 ∷ Posts 3 ∷ Posts 0 ∷ Takes 0 (Got 10) ∷ Posts 0 ∷ Takes 0 (Got 15) ∷ Takes 4 (Got 65) ∷
    Posts 4 ∷ Posts 2 ∷ Posts 0 ∷ Takes 2 (Got 6) ∷ Takes 7 (Got 68) ∷ Posts 7 ∷ Posts 2 ∷ Takes 2 (Got 22) ∷
    Takes 0 (Got 21) ∷ Posts 2 ∷ Posts 0 ∷ Takes 0 (Got 27) ∷ Posts 0 ∷ Posts 1 ∷ Takes 7 (Got 71) ∷ Posts 7 ∷
    Takes 1 (Got 45) ∷ Posts 1 ∷ Takes 4 (Got 72) ∷ Posts 4 ∷ Takes 0 (Got 28) ∷ Posts 0 ∷ Takes 0 (Got 31) ∷ Posts 0 ∷
    Takes 7 (Got 74) ∷ Posts 7 ∷ Takes 0 (Got 35) ∷ Posts 0 ∷ Takes 7 (Got 75) ∷ Posts 7 ∷ Takes 6 (Got 4) ∷ Posts 6 ∷
    Takes 0 (Got 39) ∷ Posts 0 ∷ Takes 7 (Got 76) ∷ Posts 7 ∷ Takes 0 (Got 47) ∷ Posts 0 ∷ Takes 7 (Got 77) ∷ Posts 7 ∷
    Takes 6 (Got 5) ∷ Posts 6 ∷ Takes 0 (Got 50) ∷ Posts 0 ∷ Takes 6 (Got 9) ∷ Posts 6 ∷ Takes 1 (Got 51) ∷ Posts 1 ∷
    Takes 6 (Got 12) ∷ Posts 6 ∷ Takes 1 (Got 58) ∷ Posts 1 ∷ Takes 6 (Got 16) ∷ Posts 6 ∷ Takes 6 (Got 18) ∷ Posts 6 ∷
    Takes 3 (Got 78) ∷ Posts 3 ∷ Takes 6 (Got 20) ∷ Posts 6 ∷ Takes 0 (Got 79) ∷ Posts 0 ∷ Takes 6 (Got 54) ∷ Posts 6 ∷
    Takes 6 (Got 56) ∷ Posts 6 ∷ Takes 3 (Got 80) ∷ Posts 3 ∷ Takes 6 (Got 57) ∷ Posts 6 ∷ Takes 1 (Got 73) ∷ Posts 1 ∷
    Takes 6 (Got 64) ∷ Posts 6 ∷ Takes 6 (Got 66) ∷ Posts 6 ∷ Takes 0 (Got 81) ∷ Posts 0 ∷ Takes 6 (Got 67) ∷ Posts 6 ∷
    Takes 6 (Got 69) ∷ Posts 6 ∷ Takes 6 (Called commands.Begin) ∷ Takes 0 (Got 82) ∷ Posts 0 ∷ Posts 6 ∷
    Takes 6 (Called (commands.Do 0 2)) ∷ Posts 6 ∷ Takes 2 (Got 83) ∷ Takes 3 (Got 84) ∷ Posts 3 ∷ Posts 2 ∷
    Takes 6 (Got 86) ∷ Posts 6 ∷ Takes 0 (Got 85) ∷ Posts 0 ∷ Takes 6 (Got 87) ∷ Posts 6 ∷ Takes 6 (Got 88) ∷ Posts 6 ∷
    Takes 6 (Called commands.Commit) ∷ Posts 6 ∷ Takes 3 (Got 90) ∷ Posts 3 ∷ Takes 6 (Got 92) ∷ Posts 6 ∷
    Takes 2 (Got 89) ∷ Takes 0 (Got 91) ∷ Posts 0 ∷ Posts 2 ∷ Takes 6 (Got 93) ∷ Posts 6 ∷ Takes 6 (Got 94) ∷ Posts 6 ∷
    Takes 3 (Got 97) ∷ Posts 3 ∷ Takes 0 (Got 95) ∷ Takes 2 (Got 96) ∷ Posts 0 ∷ Posts 2 ∷ []

abbrev pub history : List Entry
history =
    marked 9 (Phase 1) ∷ marked 6 (Called commands.Begin) ∷ marked 6 (Told (replies.Began (tx 2 1))) ∷
    marked 4 (Called commands.Begin) ∷ marked 6 (Called (commands.Do 0 2)) ∷
    marked 6 (Sent 0 2 (messages.Request (tx 2 1) 1 0 (wants.Read (first_read 0 2)))) ∷
    marked 6 (Sent 1 3 (messages.Request (tx 2 1) 1 0 (wants.Read (first_read 0 2)))) ∷
    marked 6 (Sent 2 0 (messages.Request (tx 2 1) 1 0 (wants.Read (first_read 0 2)))) ∷ marked 2 (Got 0) ∷
    marked 3 (Got 1)
    ∷
    marked 3 (Sent 3 6 (messages.Answer 1 (answers.Granted (whole_grant 1 0 [])))) ∷ marked 0 (Got 2) ∷
    marked 4 (Told (replies.Began (tx 0 1)))
    ∷ marked 2 (Sent 4 6 (messages.Answer 0 (answers.Granted (whole_grant 1 0 [])))) ∷
    marked 4 (Called (commands.Do 0 0)) ∷ marked 0 (Sent 5 6 (messages.Answer 2 (answers.Granted (whole_grant 1 0 []))))
    ∷
    marked 6 (Got 3) ∷ marked 6 (Got 4) ∷ marked 6 (Got 5) ∷ marked 6 (Told replies.Absent) ∷
    marked 7 (Called commands.Begin) ∷ marked 7 (Told (replies.Began (tx 3 1))) ∷ marked 6 (Called commands.Commit) ∷
    marked 6 (Sent 6 2 (messages.Request (tx 2 1) 1 1 wants.Prepare)) ∷
    marked 6 (Sent 7 3 (messages.Request (tx 2 1) 1 1 wants.Prepare)) ∷
    marked 6 (Sent 8 0 (messages.Request (tx 2 1) 1 1 wants.Prepare)) ∷ marked 2 (Got 6) ∷
    marked 2 (Wrote (prepare (tx 2 1) 1 (read_lock 0 2 ∷ []) [] [])) ∷
    marked 2 (Sent 9 6 (messages.Answer 6 (answers.Yes 0))) ∷ marked 3 (Got 7) ∷
    marked 4 (Sent 10 0 (messages.Request (tx 0 1) 1 0 (wants.Append 0 [] (own_line 1 0 0 ∷ [])))) ∷
    marked 4 (Sent 11 1 (messages.Request (tx 0 1) 1 0 (wants.Append 0 [] (own_line 1 0 0 ∷ [])))) ∷
    marked 3 (Wrote (prepare (tx 2 1) 1 (read_lock 0 2 ∷ []) [] [])) ∷
    marked 3 (Sent 12 6 (messages.Answer 7 (answers.Yes 0))) ∷ marked 1 (Got 11) ∷
    marked 1 (Sent 13 4 (messages.Answer 11 (answers.Granted (whole_grant 1 0 [])))) ∷ marked 4 (Got 13) ∷
    marked 7 (Called (commands.Do 0 0)) ∷ marked 0 (Got 8) ∷
    marked 7 (Sent 14 3 (messages.Request (tx 3 1) 1 0 (wants.Append 0 [] (own_line 1 0 0 ∷ [])))) ∷
    marked 7 (Sent 15 0 (messages.Request (tx 3 1) 1 0 (wants.Append 0 [] (own_line 1 0 0 ∷ [])))) ∷
    marked 0 (Wrote (prepare (tx 2 1) 1 (read_lock 0 2 ∷ []) [] [])) ∷
    marked 0 (Sent 16 6 (messages.Answer 8 (answers.Yes 0))) ∷ marked 6 (Got 9) ∷ marked 3 (Got 14) ∷
    marked 3 (Sent 17 7 (messages.Answer 14 (answers.Clash (tx 2 1) 2 0))) ∷
    marked 3 (Sent 18 6 (messages.Inquiry (tx 2 1))) ∷ marked 0 (Got 10) ∷ marked 6 (Got 12) ∷
    marked 0 (Sent 19 4 (messages.Answer 10 (answers.Clash (tx 2 1) 2 0))) ∷
    marked 0 (Sent 20 6 (messages.Inquiry (tx 2 1))) ∷ marked 6 (Got 16) ∷ marked 4 (Got 19) ∷
    marked 6 (Wrote (commit (stamp 1 2) (tx 2 1) (operation 0 2 None ∷ []))) ∷
    marked 6 (Sent 21 0 (messages.Decision (tx 2 1) (outcomes.Committed (stamp 1 2)))) ∷
    marked 6 (Sent 22 2 (messages.Decision (tx 2 1) (outcomes.Committed (stamp 1 2)))) ∷
    marked 6 (Sent 23 3 (messages.Decision (tx 2 1) (outcomes.Committed (stamp 1 2)))) ∷
    marked 6 (Told (replies.Committed (stamp 1 2))) ∷ marked 2 (Got 22) ∷ marked 3 (Got 23) ∷
    marked 4 (Told (replies.Conflict (tx 2 1) 0)) ∷ marked 4 (Called (commands.Do 0 0)) ∷ marked 0 (Got 15) ∷
    marked 2 (Wrote (records.Done (tx 2 1) 1)) ∷
    marked 0 (Sent 24 7 (messages.Answer 15 (answers.Clash (tx 2 1) 2 0))) ∷
    marked 0 (Sent 25 6 (messages.Inquiry (tx 2 1))) ∷ marked 0 (Got 21) ∷ marked 3 (Wrote (records.Done (tx 2 1) 1)) ∷
    marked 6 (Got 18) ∷ marked 6 (Sent 26 3 (messages.Decision (tx 2 1) (outcomes.Committed (stamp 1 2)))) ∷
    marked 3 (Got 26) ∷ marked 4 (Told replies.Doomed) ∷ marked 0 (Wrote (records.Done (tx 2 1) 1)) ∷
    marked 6 (Got 20) ∷ marked 6 (Sent 27 0 (messages.Decision (tx 2 1) (outcomes.Committed (stamp 1 2)))) ∷
    marked 0 (Got 27) ∷ marked 7 (Got 17) ∷ marked 7 (Got 24) ∷ marked 7 (Told (replies.Conflict (tx 2 1) 3)) ∷
    marked 7 (Called (commands.Do 0 1)) ∷ marked 7 (Told replies.Doomed) ∷ marked 7 (Called commands.Commit) ∷
    marked 7 (Sent 28 0 (messages.Decision (tx 3 1) outcomes.Aborted)) ∷
    marked 7 (Sent 29 3 (messages.Decision (tx 3 1) outcomes.Aborted)) ∷
    marked 7 (Told (replies.Aborted causes.Doomed)) ∷ marked 0 (Got 28) ∷ marked 3 (Got 29) ∷
    marked 7 (Called commands.Begin) ∷ marked 7 (Told (replies.Began (tx 3 2))) ∷ marked 7 (Called (commands.Do 0 0)) ∷
    marked 7 (Sent 30 3 (messages.Request (tx 3 2) 1 0 (wants.Append 0 [] (own_line 1 0 0 ∷ [])))) ∷
    marked 7 (Sent 31 0 (messages.Request (tx 3 2) 1 0 (wants.Append 0 [] (own_line 1 0 0 ∷ [])))) ∷ marked 0 (Got 31) ∷
    marked 0 (Sent 32 7 (messages.Answer 31 (answers.Granted (whole_grant 1 1 [])))) ∷ marked 3 (Got 30) ∷
    marked 3 (Sent 33 7 (messages.Answer 30 (answers.Granted (whole_grant 1 1 [])))) ∷ marked 7 (Got 32)
    ∷ marked 7 (Got 33) ∷
    marked 7 (Told (replies.Response 0)) ∷ marked 7 (Called (commands.Do 0 0)) ∷
    marked 7 (Sent 34 3 (messages.Request (tx 3 2) 1 1 (wants.Append 0 [] (own_line 1 0 0 ∷ own_line 2 0 0 ∷ [])))) ∷
    marked 7 (Sent 35 0 (messages.Request (tx 3 2) 1 1 (wants.Append 0 [] (own_line 1 0 0 ∷ own_line 2 0 0 ∷ [])))) ∷
    marked 0 (Got 35) ∷ marked 3 (Got 34)
    ∷ marked 3 (Sent 36 7 (messages.Answer 34 (answers.Granted (whole_grant 1 1 [])))) ∷
    marked 0 (Sent 37 7 (messages.Answer 35 (answers.Granted (whole_grant 1 1 [])))) ∷ marked 7 (Got 36)
    ∷ marked 7 (Got 37) ∷
    marked 7 (Told (replies.Response 0)) ∷ marked 7 (Called (commands.Do 0 2)) ∷
    marked 7 (Sent 38 3 (messages.Request (tx 3 2) 1 1 (wants.Read (first_read 0 2)))) ∷
    marked 7 (Sent 39 0 (messages.Request (tx 3 2) 1 1 (wants.Read (first_read 0 2)))) ∷
    marked 7 (Sent 40 1 (messages.Request (tx 3 2) 1 0 (wants.Read (first_read 0 2)))) ∷ marked 0 (Got 39)
    ∷ marked 3 (Got 38) ∷
    marked 1 (Got 40) ∷ marked 0 (Sent 41 7 (messages.Answer 39 (answers.Granted (whole_grant 1 1 [])))) ∷
    marked 3 (Sent 42 7 (messages.Answer 38 (answers.Granted (whole_grant 1 1 [])))) ∷
    marked 1 (Sent 43 7 (messages.Answer 40 (answers.Clash (tx 0 1) 2 0))) ∷
    marked 1 (Sent 44 4 (messages.Inquiry (tx 0 1))) ∷ marked 4 (Got 44) ∷
    marked 4 (Sent 45 1 (messages.Decision (tx 0 1) outcomes.Active)) ∷ marked 1 (Got 45) ∷ marked 7 (Got 41) ∷
    marked 7 (Got 42) ∷ marked 7 (Got 43) ∷ marked 7 (Told (replies.Conflict (tx 0 1) 1)) ∷
    marked 7 (Called commands.Commit) ∷ marked 7 (Sent 46 3 (messages.Request (tx 3 2) 1 1 wants.Prepare)) ∷
    marked 7 (Sent 47 0 (messages.Request (tx 3 2) 1 1 wants.Prepare)) ∷ marked 0 (Got 47) ∷
    marked 0 (Wrote (prepare (tx 3 2) 1 (read_lock 0 2 ∷ []) (own_line 1 0 0 ∷ own_line 2 0 0 ∷ []) [])) ∷
    marked 0 (Sent 48 7 (messages.Answer 47 (answers.Yes 1))) ∷ marked 3 (Got 46) ∷
    marked 3 (Wrote (prepare (tx 3 2) 1 (read_lock 0 2 ∷ []) (own_line 1 0 0 ∷ own_line 2 0 0 ∷ []) [])) ∷
    marked 3 (Sent 49 7 (messages.Answer 46 (answers.Yes 1))) ∷ marked 7 (Got 48) ∷ marked 7 (Got 49) ∷
    marked 7 (Wrote (commit (stamp 2 3) (tx 3 2) (operation 0 0 (Some 0) ∷ operation 0 0 (Some 0) ∷ []))) ∷
    marked 7 (Sent 50 0 (messages.Decision (tx 3 2) (outcomes.Committed (stamp 2 3)))) ∷
    marked 7 (Sent 51 1 (messages.Decision (tx 3 2) (outcomes.Committed (stamp 2 3)))) ∷
    marked 7 (Sent 52 3 (messages.Decision (tx 3 2) (outcomes.Committed (stamp 2 3)))) ∷
    marked 7 (Told (replies.Committed (stamp 2 3))) ∷ marked 1 (Got 51) ∷ marked 3 (Got 52) ∷ marked 0 (Got 50) ∷
    marked 0 (Wrote (records.Done (tx 3 2) 2)) ∷ marked 3 (Wrote (records.Done (tx 3 2) 2)) ∷ marked 9 (Phase 2) ∷
    marked 7 (Got 17) ∷ marked 4 (Got 13) ∷ marked 3 (Got 1) ∷
    marked 3
    (Sent 53 6 (messages.Answer 1 (answers.Granted (whole_grant 1 2 (line 2 3 2 1 0 0 ∷ line 2 3 2 2 0 0 ∷ []))))) ∷
    marked 1 (Got 11) ∷ marked 4 (Got 19) ∷ marked 3 (Got 7) ∷ marked 7 (Got 24) ∷
    marked 3 (Wrote (prepare (tx 2 1) 1 (read_lock 0 2 ∷ []) [] [])) ∷
    marked 3 (Sent 54 6 (messages.Answer 7 (answers.Yes 2))) ∷ marked 7 (Got 32) ∷ marked 3 (Got 14) ∷
    marked 3 (Sent 55 7 (messages.Answer 14 (answers.Clash (tx 2 1) 2 0))) ∷
    marked 3 (Sent 56 6 (messages.Inquiry (tx 2 1))) ∷ marked 3 (Got 23) ∷ marked 0 (Got 2) ∷
    marked 3 (Wrote (records.Done (tx 2 1) 1)) ∷ marked 4 (Got 44) ∷ marked 7 (Got 33) ∷
    marked 0
    (Sent 57 6 (messages.Answer 2 (answers.Granted (whole_grant 1 2 (line 2 3 2 1 0 0 ∷ line 2 3 2 2 0 0 ∷ []))))) ∷
    marked 7 (Got 36) ∷ marked 4 (Sent 58 1 (messages.Decision (tx 0 1) outcomes.Active)) ∷ marked 3 (Got 26) ∷
    marked 7 (Got 37) ∷ marked 3 (Got 29) ∷ marked 2 (Got 0) ∷ marked 7 (Got 41) ∷ marked 7 (Got 42) ∷
    marked 3 (Got 30) ∷ marked 3 (Sent 59 7 (messages.Answer 30 (answers.Granted (whole_grant 1 2 []))))
    ∷ marked 3 (Got 34) ∷
    marked 3 (Sent 60 7 (messages.Answer 34 (answers.Granted (whole_grant 1 2 [])))) ∷ marked 7 (Got 43)
    ∷ marked 6 (Got 3) ∷
    marked 3 (Got 38) ∷
    marked 3
    (Sent 61 7 (messages.Answer 38 (answers.Granted (whole_grant 1 2 (line 2 3 2 1 0 0 ∷ line 2 3 2 2 0 0 ∷ []))))) ∷
    marked 7 (Got 48) ∷ marked 0 (Got 8) ∷ marked 7 (Got 49) ∷ marked 3 (Got 46) ∷
    marked 3 (Wrote (prepare (tx 3 2) 1 (read_lock 0 2 ∷ []) (own_line 1 0 0 ∷ own_line 2 0 0 ∷ []) [])) ∷
    marked 3 (Sent 62 7 (messages.Answer 46 (answers.Yes 2))) ∷ marked 7 (Got 55) ∷
    marked 1 (Sent 63 4 (messages.Answer 11 (answers.Granted (whole_grant 1 2 [])))) ∷ marked 1 (Got 40)
    ∷ marked 7 (Got 59) ∷
    marked 4 (Got 63) ∷ marked 7 (Got 60) ∷ marked 3 (Got 52) ∷ marked 7 (Got 61) ∷ marked 7 (Got 62) ∷
    marked 3 (Wrote (records.Done (tx 3 2) 2)) ∷ marked 0 (Wrote (prepare (tx 2 1) 1 (read_lock 0 2 ∷ []) [] [])) ∷
    marked 0 (Sent 64 6 (messages.Answer 8 (answers.Yes 2))) ∷ marked 0 (Got 10) ∷
    marked 0 (Sent 65 4 (messages.Answer 10 (answers.Clash (tx 2 1) 2 0))) ∷
    marked 0 (Sent 66 6 (messages.Inquiry (tx 2 1))) ∷ marked 0 (Got 15) ∷ marked 4 (Got 65) ∷
    marked 2 (Sent 67 6 (messages.Answer 0 (answers.Granted (whole_grant 1 1 [])))) ∷
    marked 0 (Sent 68 7 (messages.Answer 15 (answers.Clash (tx 2 1) 2 0))) ∷
    marked 0 (Sent 69 6 (messages.Inquiry (tx 2 1))) ∷ marked 2 (Got 6) ∷ marked 7 (Got 68) ∷
    marked 2 (Wrote (prepare (tx 2 1) 1 (read_lock 0 2 ∷ []) [] [])) ∷
    marked 2 (Sent 70 6 (messages.Answer 6 (answers.Yes 1))) ∷ marked 2 (Got 22) ∷ marked 0 (Got 21) ∷
    marked 2 (Wrote (records.Done (tx 2 1) 1)) ∷ marked 0 (Wrote (records.Done (tx 2 1) 1)) ∷ marked 0 (Got 27) ∷
    marked 1 (Sent 71 7 (messages.Answer 40 (answers.Clash (tx 0 1) 2 0))) ∷
    marked 1 (Sent 72 4 (messages.Inquiry (tx 0 1))) ∷ marked 7 (Got 71) ∷ marked 1 (Got 45) ∷ marked 4 (Got 72) ∷
    marked 4 (Sent 73 1 (messages.Decision (tx 0 1) outcomes.Active)) ∷ marked 0 (Got 28) ∷ marked 0 (Got 31) ∷
    marked 0 (Sent 74 7 (messages.Answer 31 (answers.Granted (whole_grant 1 2 [])))) ∷ marked 7 (Got 74)
    ∷ marked 0 (Got 35) ∷
    marked 0 (Sent 75 7 (messages.Answer 35 (answers.Granted (whole_grant 1 2 [])))) ∷ marked 7 (Got 75)
    ∷ marked 6 (Got 4) ∷
    marked 0 (Got 39) ∷
    marked 0
    (Sent 76 7 (messages.Answer 39 (answers.Granted (whole_grant 1 2 (line 2 3 2 1 0 0 ∷ line 2 3 2 2 0 0 ∷ []))))) ∷
    marked 7 (Got 76) ∷ marked 0 (Got 47) ∷
    marked 0 (Wrote (prepare (tx 3 2) 1 (read_lock 0 2 ∷ []) (own_line 1 0 0 ∷ own_line 2 0 0 ∷ []) [])) ∷
    marked 0 (Sent 77 7 (messages.Answer 47 (answers.Yes 2))) ∷ marked 7 (Got 77) ∷ marked 6 (Got 5) ∷
    marked 0 (Got 50) ∷ marked 0 (Wrote (records.Done (tx 3 2) 2)) ∷ marked 6 (Got 9) ∷ marked 1 (Got 51) ∷
    marked 6 (Got 12) ∷ marked 1 (Got 58) ∷ marked 6 (Got 16) ∷ marked 6 (Got 18) ∷
    marked 6 (Sent 78 3 (messages.Decision (tx 2 1) (outcomes.Committed (stamp 1 2)))) ∷ marked 3 (Got 78) ∷
    marked 6 (Got 20) ∷ marked 6 (Sent 79 0 (messages.Decision (tx 2 1) (outcomes.Committed (stamp 1 2)))) ∷
    marked 0 (Got 79) ∷ marked 6 (Got 54) ∷ marked 6 (Got 56) ∷
    marked 6 (Sent 80 3 (messages.Decision (tx 2 1) (outcomes.Committed (stamp 1 2)))) ∷ marked 3 (Got 80) ∷
    marked 6 (Got 57) ∷ marked 1 (Got 73) ∷ marked 6 (Got 64) ∷ marked 6 (Got 66) ∷
    marked 6 (Sent 81 0 (messages.Decision (tx 2 1) (outcomes.Committed (stamp 1 2)))) ∷ marked 0 (Got 81) ∷
    marked 6 (Got 67) ∷ marked 6 (Got 69) ∷
    marked 6 (Sent 82 0 (messages.Decision (tx 2 1) (outcomes.Committed (stamp 1 2)))) ∷
    marked 6 (Called commands.Begin) ∷ marked 0 (Got 82) ∷ marked 6 (Told (replies.Began (tx 2 2))) ∷
    marked 6 (Called (commands.Do 0 2))
    ∷ marked 6 (Sent 83 2 (messages.Request (tx 2 2) 1 0 (wants.Read (first_read 0 2)))) ∷
    marked 6 (Sent 84 3 (messages.Request (tx 2 2) 1 0 (wants.Read (first_read 0 2)))) ∷
    marked 6 (Sent 85 0 (messages.Request (tx 2 2) 1 0 (wants.Read (first_read 0 2)))) ∷ marked 2 (Got 83)
    ∷ marked 3 (Got 84) ∷
    marked 3
    (Sent 86 6 (messages.Answer 84 (answers.Granted (whole_grant 1 2 (line 2 3 2 1 0 0 ∷ line 2 3 2 2 0 0 ∷ []))))) ∷
    marked 2 (Sent 87 6 (messages.Answer 83 (answers.Granted (whole_grant 1 1 [])))) ∷ marked 6 (Got 86)
    ∷ marked 0 (Got 85) ∷
    marked 0
    (Sent 88 6 (messages.Answer 85 (answers.Granted (whole_grant 1 2 (line 2 3 2 1 0 0 ∷ line 2 3 2 2 0 0 ∷ []))))) ∷
    marked 6 (Got 87) ∷ marked 6 (Got 88) ∷ marked 6 (Told replies.Absent) ∷ marked 6 (Called commands.Commit) ∷
    marked 6 (Sent 89 2 (messages.Request (tx 2 2) 1 1 wants.Prepare)) ∷
    marked 6 (Sent 90 3 (messages.Request (tx 2 2) 1 1 wants.Prepare)) ∷
    marked 6 (Sent 91 0 (messages.Request (tx 2 2) 1 1 wants.Prepare)) ∷ marked 3 (Got 90) ∷
    marked 3 (Wrote (prepare (tx 2 2) 1 (read_lock 0 2 ∷ []) [] [])) ∷
    marked 3 (Sent 92 6 (messages.Answer 90 (answers.Yes 2))) ∷ marked 6 (Got 92) ∷ marked 2 (Got 89) ∷
    marked 0 (Got 91) ∷ marked 0 (Wrote (prepare (tx 2 2) 1 (read_lock 0 2 ∷ []) [] [])) ∷
    marked 0 (Sent 93 6 (messages.Answer 91 (answers.Yes 2))) ∷
    marked 2 (Wrote (prepare (tx 2 2) 1 (read_lock 0 2 ∷ []) [] [])) ∷
    marked 2 (Sent 94 6 (messages.Answer 89 (answers.Yes 1))) ∷ marked 6 (Got 93) ∷ marked 6 (Got 94) ∷
    marked 6 (Wrote (commit (stamp 3 2) (tx 2 2) (operation 0 2 None ∷ []))) ∷
    marked 6 (Sent 95 0 (messages.Decision (tx 2 2) (outcomes.Committed (stamp 3 2)))) ∷
    marked 6 (Sent 96 2 (messages.Decision (tx 2 2) (outcomes.Committed (stamp 3 2)))) ∷
    marked 6 (Sent 97 3 (messages.Decision (tx 2 2) (outcomes.Committed (stamp 3 2)))) ∷
    marked 6 (Told (replies.Committed (stamp 3 2))) ∷ marked 3 (Got 97) ∷ marked 3 (Wrote (records.Done (tx 2 2) 3)) ∷
    marked 0 (Got 95) ∷ marked 2 (Got 96) ∷ marked 0 (Wrote (records.Done (tx 2 2) 3)) ∷
    marked 2 (Wrote (records.Done (tx 2 2) 3)) ∷ []
