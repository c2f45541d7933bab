-- Random: sites 5, clients 4, steps 243, messages 100, commits 2, aborts 1, conflicts 1.
use Rattle.std.specs.Prelude.{List, [], ◌∷◌, Some}
use Rattle.qc_decl.specs.declared.declaration.Declaration.{Declaration}
use Rattle.qc_decl.specs.Vocabulary.{row}
use Rattle.qc_msg.specs.Vocabulary.{Entry, marked}
use Rattle.tests_histories.specs.Play.{Move, Takes, Posts, Acts}
use Rattle.tests_histories.specs.Words.{tx, stamp, line, own_line, operation, read_lock, prepare, commit, declaration}
use Rattle.tests_histories.specs.Words.{kind, pair, plan}
use Rattle.qc_msg.specs.declared.step.Step.TheVariants.{Phase, Called, Got, Wrote, Sent, Told}
use Rattle.qc_msg.specs.declared.message.Answer.TheVariants as answers
use Rattle.qc_msg.specs.declared.reply.AbortCause.TheVariants as causes
use Rattle.qc_msg.specs.declared.step.Command.TheVariants as commands
use Rattle.qc_msg.specs.declared.message.Message.TheVariants as messages
use Rattle.qc_msg.specs.declared.message.Outcome.TheVariants as outcomes
use Rattle.qc_msg.specs.declared.record.Record.TheVariants as records
use Rattle.qc_msg.specs.declared.reply.Reply.TheVariants as replies
use Rattle.qc_msg.specs.declared.message.Want.TheVariants as wants
use Rattle.qc_msg.specs.Vocabulary.{whole_grant, first_read}

abbrev pub decl : Declaration
decl =
    declaration 5 4 (kind 2 2 3 0 (row 0 0 0 1 ∷ row 1 0 1 1 ∷ row 0 1 2 0 ∷ row 1 1 2 0 ∷ []) (pair 0 0 ∷ pair 0 2 ∷
    pair 1 0 ∷ []) ∷ []) (0 ∷ 0 ∷ []) (plan (1 ∷ 2 ∷ 2 ∷ 1 ∷ 1 ∷ []) ((4 ∷ 4 ∷ []) ∷ (7 ∷ 4 ∷ []) ∷ []) ((6 ∷ 0 ∷ 4 ∷
    []) ∷ (4 ∷ 5 ∷ 1 ∷ []) ∷ []) ∷ plan (1 ∷ 0 ∷ 1 ∷ 1 ∷ 3 ∷ []) ((4 ∷ 4 ∷ []) ∷ (4 ∷ 4 ∷ []) ∷ []) ((3 ∷ 4 ∷ 3 ∷ []) ∷
    (6 ∷ 0 ∷ 3 ∷ []) ∷ []) ∷ [])

abbrev pub moves : List Move
moves =
    Acts (Phase 1) ∷ Takes 8 (Called commands.Begin) ∷ Takes 5 (Called commands.Begin) ∷ Posts 5 ∷
    Takes 5 (Called (commands.Do 0 0)) ∷ Posts 5 ∷ Takes 2 (Got 2) ∷ Posts 2 ∷ Takes 5 (Got 3) ∷ Posts 5 ∷
    Takes 1 (Got 1) ∷ Posts 1 ∷ Takes 5 (Got 4) ∷ Posts 5 ∷ Takes 0 (Got 0) ∷ Posts 0 ∷ Takes 5 (Got 5) ∷ Posts 5 ∷
    Takes 2 (Got 8) ∷ Posts 2 ∷ Takes 1 (Got 7) ∷ Takes 5 (Got 10) ∷ Posts 5 ∷ Posts 1 ∷ Takes 5 (Got 11) ∷ Posts 5 ∷
    Takes 6 (Called commands.Begin) ∷ Posts 6 ∷ Takes 0 (Got 6) ∷ Posts 0 ∷ Takes 3 (Got 9) ∷ Takes 5 (Got 12) ∷
    Posts 5 ∷ Posts 3 ∷ Takes 5 (Got 13) ∷ Posts 5 ∷ Takes 5 (Called commands.Commit) ∷ Posts 5 ∷ Takes 2 (Got 16) ∷
    Posts 2 ∷ Takes 3 (Got 17) ∷ Posts 3 ∷ Takes 5 (Got 18) ∷ Posts 5 ∷ Takes 1 (Got 15) ∷ Posts 1 ∷ Takes 5 (Got 19) ∷
    Posts 5 ∷ Takes 5 (Got 20) ∷ Posts 5 ∷ Posts 8 ∷ Takes 8 (Called (commands.Do 0 1)) ∷ Takes 0 (Got 14) ∷ Posts 0 ∷
    Takes 5 (Got 21) ∷ Posts 5 ∷ Takes 2 (Got 24) ∷ Posts 2 ∷ Takes 5 (Called commands.Begin) ∷ Posts 5 ∷
    Takes 1 (Got 23) ∷ Takes 5 (Called (commands.Do 1 0)) ∷ Posts 5 ∷ Takes 2 (Got 28) ∷ Posts 1 ∷ Posts 2 ∷
    Takes 1 (Got 27) ∷ Posts 8 ∷ Takes 4 (Got 30) ∷ Takes 5 (Got 31) ∷ Posts 5 ∷ Posts 1 ∷ Takes 1 (Got 35) ∷ Posts 1 ∷
    Takes 8 (Got 37) ∷ Posts 8 ∷ Posts 4 ∷ Takes 5 (Got 36) ∷ Posts 5 ∷ Takes 5 (Got 38) ∷ Posts 5 ∷ Takes 4 (Got 33) ∷
    Posts 4 ∷ Takes 8 (Got 39) ∷ Posts 8 ∷ Takes 3 (Got 25) ∷ Posts 3 ∷ Takes 0 (Got 22) ∷ Posts 0 ∷ Takes 0 (Got 26) ∷
    Posts 0 ∷ Takes 5 (Got 40) ∷ Posts 5 ∷ Takes 0 (Got 34) ∷ Posts 0 ∷ Takes 6 (Called (commands.Do 1 0)) ∷
    Takes 3 (Got 29) ∷ Posts 6 ∷ Takes 2 (Got 43) ∷ Takes 1 (Got 42) ∷ Posts 1 ∷ Posts 2 ∷ Posts 3 ∷ Takes 5 (Got 49) ∷
    Posts 5 ∷ Takes 2 (Got 52) ∷ Posts 2 ∷ Takes 5 (Got 53) ∷ Posts 5 ∷ Takes 1 (Got 51) ∷ Posts 1 ∷ Takes 4 (Got 45) ∷
    Takes 5 (Got 55) ∷ Posts 5 ∷ Posts 4 ∷ Takes 8 (Got 41) ∷ Posts 8 ∷ Takes 3 (Got 32) ∷ Posts 3 ∷ Takes 0 (Got 46) ∷
    Posts 0 ∷ Takes 0 (Got 50) ∷ Posts 0 ∷ Takes 5 (Got 60) ∷ Posts 5 ∷ Takes 5 (Called commands.Commit) ∷ Posts 5 ∷
    Takes 2 (Got 64) ∷ Posts 2 ∷ Takes 1 (Got 63) ∷ Posts 1 ∷ Takes 4 (Got 66) ∷ Posts 4 ∷ Takes 6 (Got 47) ∷ Posts 6 ∷
    Takes 8 (Got 58) ∷ Takes 0 (Got 62) ∷ Posts 0 ∷ Takes 3 (Got 44) ∷ Takes 6 (Got 48) ∷ Posts 6 ∷ Posts 3 ∷ Posts 8 ∷
    Takes 1 (Got 71) ∷ Posts 1 ∷ Takes 4 (Got 69) ∷ Takes 8 (Got 72) ∷ Posts 8 ∷ Posts 4 ∷ Takes 3 (Got 65) ∷ Posts 3 ∷
    Takes 0 (Got 70) ∷ Takes 8 (Got 73) ∷ Posts 8 ∷ Posts 0 ∷ Takes 6 (Got 54) ∷ Posts 6 ∷ Takes 2 (Got 75) ∷ Posts 2 ∷
    Takes 8 (Got 74) ∷ Posts 8 ∷ Takes 3 (Got 68) ∷ Posts 3 ∷ Takes 6 (Got 56) ∷ Posts 6 ∷ Takes 1 (Got 77) ∷ Posts 1 ∷
    Takes 8 (Got 76) ∷ Posts 8 ∷ Takes 8 (Called commands.Commit) ∷ Takes 6 (Got 57) ∷ Posts 6 ∷ Takes 6 (Got 59) ∷
    Posts 6 ∷ Posts 8 ∷ Takes 6 (Got 61) ∷ Takes 1 (Got 81) ∷ Takes 4 (Got 79) ∷ Posts 4 ∷ Posts 1 ∷ Takes 8 (Got 82) ∷
    Posts 8 ∷ Posts 6 ∷ Takes 6 (Got 67) ∷ Posts 6 ∷ Takes 1 (Got 85) ∷ Takes 2 (Got 86) ∷ Posts 1 ∷ Posts 2 ∷
    Takes 0 (Got 80) ∷ Posts 0 ∷ Takes 3 (Got 78) ∷ Takes 8 (Got 83) ∷ Posts 8 ∷ Posts 3 ∷ Takes 6 (Got 87) ∷ Posts 6 ∷
    Takes 0 (Got 84) ∷ Posts 0 ∷ Takes 6 (Got 88) ∷ Posts 6 ∷ Takes 6 (Called commands.Abort) ∷ Takes 8 (Got 89) ∷
    Posts 8 ∷ Posts 6 ∷ Takes 4 (Got 95) ∷ Posts 4 ∷ Takes 2 (Got 93) ∷ Posts 2 ∷ Takes 1 (Got 92) ∷ Posts 1 ∷
    Takes 3 (Got 94) ∷ Posts 3 ∷ Takes 0 (Got 91) ∷ Posts 0 ∷ Takes 8 (Got 90) ∷ Posts 8 ∷ Takes 1 (Got 97) ∷ Posts 1 ∷
    Takes 4 (Got 99) ∷ Posts 4 ∷ Takes 0 (Got 96) ∷ Posts 0 ∷ Takes 3 (Got 98) ∷ Posts 3 ∷ []

abbrev pub history : List Entry
history =
    marked 10 (Phase 1) ∷ marked 8 (Called commands.Begin) ∷ marked 5 (Called commands.Begin) ∷
    marked 5 (Told (replies.Began (tx 0 1))) ∷ marked 5 (Called (commands.Do 0 0)) ∷
    marked 5 (Sent 0 0 (messages.Request (tx 0 1) 1 0 (wants.Read (first_read 0 0)))) ∷
    marked 5 (Sent 1 1 (messages.Request (tx 0 1) 1 0 (wants.Read (first_read 0 0)))) ∷
    marked 5 (Sent 2 2 (messages.Request (tx 0 1) 1 0 (wants.Read (first_read 0 0)))) ∷ marked 2 (Got 2) ∷
    marked 2 (Sent 3 5 (messages.Answer 2 (answers.Granted (whole_grant 1 0 [])))) ∷ marked 5 (Got 3) ∷ marked 1 (Got 1)
    ∷
    marked 1 (Sent 4 5 (messages.Answer 1 (answers.Granted (whole_grant 1 0 [])))) ∷ marked 5 (Got 4) ∷ marked 0 (Got 0)
    ∷
    marked 0 (Sent 5 5 (messages.Answer 0 (answers.Granted (whole_grant 1 0 [])))) ∷ marked 5 (Got 5) ∷
    marked 5 (Sent 6 0 (messages.Request (tx 0 1) 1 1 (wants.Append 0 [] (own_line 1 0 0 ∷ [])))) ∷
    marked 5 (Sent 7 1 (messages.Request (tx 0 1) 1 1 (wants.Append 0 [] (own_line 1 0 0 ∷ [])))) ∷
    marked 5 (Sent 8 2 (messages.Request (tx 0 1) 1 1 (wants.Append 0 [] (own_line 1 0 0 ∷ [])))) ∷
    marked 5 (Sent 9 3 (messages.Request (tx 0 1) 1 0 (wants.Append 0 [] (own_line 1 0 0 ∷ [])))) ∷ marked 2 (Got 8) ∷
    marked 2 (Sent 10 5 (messages.Answer 8 (answers.Granted (whole_grant 1 0 [])))) ∷ marked 1 (Got 7)
    ∷ marked 5 (Got 10) ∷
    marked 1 (Sent 11 5 (messages.Answer 7 (answers.Granted (whole_grant 1 0 [])))) ∷ marked 5 (Got 11) ∷
    marked 6 (Called commands.Begin) ∷ marked 6 (Told (replies.Began (tx 1 1))) ∷ marked 0 (Got 6) ∷
    marked 0 (Sent 12 5 (messages.Answer 6 (answers.Granted (whole_grant 1 0 [])))) ∷ marked 3 (Got 9)
    ∷ marked 5 (Got 12) ∷
    marked 3 (Sent 13 5 (messages.Answer 9 (answers.Granted (whole_grant 1 0 [])))) ∷ marked 5 (Got 13) ∷
    marked 5 (Told (replies.Response 0)) ∷ marked 5 (Called commands.Commit) ∷
    marked 5 (Sent 14 0 (messages.Request (tx 0 1) 1 1 wants.Prepare)) ∷
    marked 5 (Sent 15 1 (messages.Request (tx 0 1) 1 1 wants.Prepare)) ∷
    marked 5 (Sent 16 2 (messages.Request (tx 0 1) 1 1 wants.Prepare)) ∷
    marked 5 (Sent 17 3 (messages.Request (tx 0 1) 1 1 wants.Prepare)) ∷ marked 2 (Got 16) ∷
    marked 2 (Wrote (prepare (tx 0 1) 1 (read_lock 0 0 ∷ []) (own_line 1 0 0 ∷ []) [])) ∷
    marked 2 (Sent 18 5 (messages.Answer 16 (answers.Yes 0))) ∷ marked 3 (Got 17) ∷
    marked 3 (Wrote (prepare (tx 0 1) 1 [] (own_line 1 0 0 ∷ []) [])) ∷
    marked 3 (Sent 19 5 (messages.Answer 17 (answers.Yes 0))) ∷ marked 5 (Got 18) ∷ marked 1 (Got 15) ∷
    marked 1 (Wrote (prepare (tx 0 1) 1 (read_lock 0 0 ∷ []) (own_line 1 0 0 ∷ []) [])) ∷
    marked 1 (Sent 20 5 (messages.Answer 15 (answers.Yes 0))) ∷ marked 5 (Got 19) ∷ marked 5 (Got 20) ∷
    marked 8 (Told (replies.Began (tx 3 1))) ∷ marked 8 (Called (commands.Do 0 1)) ∷ marked 0 (Got 14) ∷
    marked 0 (Wrote (prepare (tx 0 1) 1 (read_lock 0 0 ∷ []) (own_line 1 0 0 ∷ []) [])) ∷
    marked 0 (Sent 21 5 (messages.Answer 14 (answers.Yes 0))) ∷ marked 5 (Got 21) ∷
    marked 5 (Wrote (commit (stamp 1 0) (tx 0 1) (operation 0 0 (Some 0) ∷ []))) ∷
    marked 5 (Sent 22 0 (messages.Decision (tx 0 1) (outcomes.Committed (stamp 1 0)))) ∷
    marked 5 (Sent 23 1 (messages.Decision (tx 0 1) (outcomes.Committed (stamp 1 0)))) ∷
    marked 5 (Sent 24 2 (messages.Decision (tx 0 1) (outcomes.Committed (stamp 1 0)))) ∷
    marked 5 (Sent 25 3 (messages.Decision (tx 0 1) (outcomes.Committed (stamp 1 0)))) ∷
    marked 5 (Told (replies.Committed (stamp 1 0))) ∷ marked 2 (Got 24) ∷ marked 2 (Wrote (records.Done (tx 0 1) 1)) ∷
    marked 5 (Called commands.Begin) ∷ marked 5 (Told (replies.Began (tx 0 2))) ∷ marked 1 (Got 23) ∷
    marked 5 (Called (commands.Do 1 0))
    ∷ marked 5 (Sent 26 0 (messages.Request (tx 0 2) 1 0 (wants.Read (first_read 1 0)))) ∷
    marked 5 (Sent 27 1 (messages.Request (tx 0 2) 1 0 (wants.Read (first_read 1 0)))) ∷
    marked 5 (Sent 28 2 (messages.Request (tx 0 2) 1 0 (wants.Read (first_read 1 0)))) ∷
    marked 5 (Sent 29 3 (messages.Request (tx 0 2) 1 0 (wants.Read (first_read 1 0)))) ∷
    marked 5 (Sent 30 4 (messages.Request (tx 0 2) 1 0 (wants.Read (first_read 1 0)))) ∷ marked 2 (Got 28) ∷
    marked 1 (Wrote (records.Done (tx 0 1) 1))
    ∷ marked 2 (Sent 31 5 (messages.Answer 28 (answers.Granted (whole_grant 1 1 [])))) ∷
    marked 1 (Got 27) ∷ marked 8 (Sent 32 3 (messages.Request (tx 3 1) 1 0 (wants.Read (first_read 0 1)))) ∷
    marked 8 (Sent 33 4 (messages.Request (tx 3 1) 1 0 (wants.Read (first_read 0 1)))) ∷
    marked 8 (Sent 34 0 (messages.Request (tx 3 1) 1 0 (wants.Read (first_read 0 1)))) ∷
    marked 8 (Sent 35 1 (messages.Request (tx 3 1) 1 0 (wants.Read (first_read 0 1)))) ∷ marked 4 (Got 30)
    ∷ marked 5 (Got 31) ∷
    marked 1 (Sent 36 5 (messages.Answer 27 (answers.Granted (whole_grant 1 1 [])))) ∷ marked 1 (Got 35) ∷
    marked 1 (Sent 37 8 (messages.Answer 35 (answers.Granted (whole_grant 1 1 (line 1 0 1 1 0 0 ∷ [])))))
    ∷ marked 8 (Got 37) ∷
    marked 4 (Sent 38 5 (messages.Answer 30 (answers.Granted (whole_grant 1 0 [])))) ∷ marked 5 (Got 36)
    ∷ marked 5 (Got 38) ∷
    marked 4 (Got 33) ∷ marked 4 (Sent 39 8 (messages.Answer 33 (answers.Granted (whole_grant 1 0 []))))
    ∷ marked 8 (Got 39) ∷
    marked 3 (Got 25) ∷ marked 3 (Wrote (records.Done (tx 0 1) 1)) ∷ marked 0 (Got 22) ∷
    marked 0 (Wrote (records.Done (tx 0 1) 1)) ∷ marked 0 (Got 26) ∷
    marked 0 (Sent 40 5 (messages.Answer 26 (answers.Granted (whole_grant 1 1 [])))) ∷ marked 5 (Got 40)
    ∷ marked 0 (Got 34) ∷
    marked 0 (Sent 41 8 (messages.Answer 34 (answers.Granted (whole_grant 1 1 (line 1 0 1 1 0 0 ∷ []))))) ∷
    marked 6 (Called (commands.Do 1 0)) ∷ marked 3 (Got 29) ∷
    marked 6 (Sent 42 1 (messages.Request (tx 1 1) 1 0 (wants.Read (first_read 1 0)))) ∷
    marked 6 (Sent 43 2 (messages.Request (tx 1 1) 1 0 (wants.Read (first_read 1 0)))) ∷
    marked 6 (Sent 44 3 (messages.Request (tx 1 1) 1 0 (wants.Read (first_read 1 0)))) ∷
    marked 6 (Sent 45 4 (messages.Request (tx 1 1) 1 0 (wants.Read (first_read 1 0)))) ∷
    marked 6 (Sent 46 0 (messages.Request (tx 1 1) 1 0 (wants.Read (first_read 1 0)))) ∷ marked 2 (Got 43)
    ∷ marked 1 (Got 42) ∷
    marked 1 (Sent 47 6 (messages.Answer 42 (answers.Granted (whole_grant 1 1 [])))) ∷
    marked 2 (Sent 48 6 (messages.Answer 43 (answers.Granted (whole_grant 1 1 [])))) ∷
    marked 3 (Sent 49 5 (messages.Answer 29 (answers.Granted (whole_grant 1 1 [])))) ∷ marked 5 (Got 49) ∷
    marked 5 (Sent 50 0 (messages.Request (tx 0 2) 1 1 (wants.Append 1 [] (own_line 1 1 0 ∷ [])))) ∷
    marked 5 (Sent 51 1 (messages.Request (tx 0 2) 1 1 (wants.Append 1 [] (own_line 1 1 0 ∷ [])))) ∷
    marked 5 (Sent 52 2 (messages.Request (tx 0 2) 1 1 (wants.Append 1 [] (own_line 1 1 0 ∷ [])))) ∷ marked 2 (Got 52) ∷
    marked 2 (Sent 53 5 (messages.Answer 52 (answers.Clash (tx 1 1) 0 0))) ∷
    marked 2 (Sent 54 6 (messages.Inquiry (tx 1 1))) ∷ marked 5 (Got 53) ∷ marked 1 (Got 51) ∷
    marked 1 (Sent 55 5 (messages.Answer 51 (answers.Clash (tx 1 1) 0 0))) ∷
    marked 1 (Sent 56 6 (messages.Inquiry (tx 1 1))) ∷ marked 4 (Got 45) ∷ marked 5 (Got 55) ∷
    marked 4 (Sent 57 6 (messages.Answer 45 (answers.Granted (whole_grant 1 0 [])))) ∷ marked 8 (Got 41)
    ∷ marked 3 (Got 32) ∷
    marked 3 (Sent 58 8 (messages.Answer 32 (answers.Granted (whole_grant 1 1 (line 1 0 1 1 0 0 ∷ [])))))
    ∷ marked 0 (Got 46) ∷
    marked 0 (Sent 59 6 (messages.Answer 46 (answers.Granted (whole_grant 1 1 [])))) ∷ marked 0 (Got 50) ∷
    marked 0 (Sent 60 5 (messages.Answer 50 (answers.Clash (tx 1 1) 0 0))) ∷
    marked 0 (Sent 61 6 (messages.Inquiry (tx 1 1))) ∷ marked 5 (Got 60) ∷
    marked 5 (Told (replies.Conflict (tx 1 1) 0)) ∷ marked 5 (Called commands.Commit) ∷
    marked 5 (Sent 62 0 (messages.Decision (tx 0 2) outcomes.Aborted)) ∷
    marked 5 (Sent 63 1 (messages.Decision (tx 0 2) outcomes.Aborted)) ∷
    marked 5 (Sent 64 2 (messages.Decision (tx 0 2) outcomes.Aborted)) ∷
    marked 5 (Sent 65 3 (messages.Decision (tx 0 2) outcomes.Aborted)) ∷
    marked 5 (Sent 66 4 (messages.Decision (tx 0 2) outcomes.Aborted)) ∷
    marked 5 (Told (replies.Aborted causes.Doomed)) ∷ marked 2 (Got 64) ∷ marked 1 (Got 63) ∷ marked 4 (Got 66) ∷
    marked 6 (Got 47) ∷ marked 8 (Got 58) ∷ marked 0 (Got 62) ∷ marked 3 (Got 44) ∷ marked 6 (Got 48) ∷
    marked 3 (Sent 67 6 (messages.Answer 44 (answers.Granted (whole_grant 1 1 [])))) ∷
    marked 8 (Sent 68 3 (messages.Request (tx 3 1) 1 1 (wants.Append 0 (line 1 0 1 1 0 0 ∷ []) (own_line 1 0 2 ∷ []))))
    ∷
    marked 8 (Sent 69 4 (messages.Request (tx 3 1) 1 1 (wants.Append 0 (line 1 0 1 1 0 0 ∷ []) (own_line 1 0 2 ∷ []))))
    ∷
    marked 8 (Sent 70 0 (messages.Request (tx 3 1) 1 1 (wants.Append 0 (line 1 0 1 1 0 0 ∷ []) (own_line 1 0 2 ∷ []))))
    ∷
    marked 8 (Sent 71 1 (messages.Request (tx 3 1) 1 1 (wants.Append 0 (line 1 0 1 1 0 0 ∷ []) (own_line 1 0 2 ∷ []))))
    ∷
    marked 1 (Got 71) ∷ marked 1 (Sent 72 8 (messages.Answer 71 (answers.Granted (whole_grant 1 1 []))))
    ∷ marked 4 (Got 69) ∷
    marked 8 (Got 72) ∷ marked 4 (Sent 73 8 (messages.Answer 69 (answers.Granted (whole_grant 1 1 []))))
    ∷ marked 3 (Got 65) ∷
    marked 0 (Got 70) ∷ marked 8 (Got 73)
    ∷ marked 0 (Sent 74 8 (messages.Answer 70 (answers.Granted (whole_grant 1 1 [])))) ∷
    marked 6 (Got 54) ∷ marked 6 (Sent 75 2 (messages.Decision (tx 1 1) outcomes.Active)) ∷ marked 2 (Got 75) ∷
    marked 8 (Got 74) ∷ marked 3 (Got 68)
    ∷ marked 3 (Sent 76 8 (messages.Answer 68 (answers.Granted (whole_grant 1 1 [])))) ∷
    marked 6 (Got 56) ∷ marked 6 (Sent 77 1 (messages.Decision (tx 1 1) outcomes.Active)) ∷ marked 1 (Got 77) ∷
    marked 8 (Got 76) ∷ marked 8 (Told (replies.Response 2)) ∷ marked 8 (Called commands.Commit) ∷ marked 6 (Got 57) ∷
    marked 6 (Got 59) ∷ marked 8 (Sent 78 3 (messages.Request (tx 3 1) 1 1 wants.Prepare)) ∷
    marked 8 (Sent 79 4 (messages.Request (tx 3 1) 1 1 wants.Prepare)) ∷
    marked 8 (Sent 80 0 (messages.Request (tx 3 1) 1 1 wants.Prepare)) ∷
    marked 8 (Sent 81 1 (messages.Request (tx 3 1) 1 1 wants.Prepare)) ∷ marked 6 (Got 61) ∷ marked 1 (Got 81) ∷
    marked 4 (Got 79) ∷
    marked 4 (Wrote (prepare (tx 3 1) 1 (read_lock 0 1 ∷ []) (own_line 1 0 2 ∷ []) (line 1 0 1 1 0 0 ∷ []))) ∷
    marked 4 (Sent 82 8 (messages.Answer 79 (answers.Yes 1))) ∷
    marked 1 (Wrote (prepare (tx 3 1) 1 (read_lock 0 1 ∷ []) (own_line 1 0 2 ∷ []) [])) ∷
    marked 1 (Sent 83 8 (messages.Answer 81 (answers.Yes 1))) ∷ marked 8 (Got 82) ∷
    marked 6 (Sent 84 0 (messages.Decision (tx 1 1) outcomes.Active)) ∷ marked 6 (Got 67) ∷
    marked 6 (Sent 85 1 (messages.Request (tx 1 1) 1 1 (wants.Append 1 [] (own_line 1 1 0 ∷ [])))) ∷
    marked 6 (Sent 86 2 (messages.Request (tx 1 1) 1 1 (wants.Append 1 [] (own_line 1 1 0 ∷ [])))) ∷ marked 1 (Got 85) ∷
    marked 2 (Got 86) ∷ marked 1 (Sent 87 6 (messages.Answer 85 (answers.Granted (whole_grant 1 1 [])))) ∷
    marked 2 (Sent 88 6 (messages.Answer 86 (answers.Granted (whole_grant 1 1 [])))) ∷ marked 0 (Got 80) ∷
    marked 0 (Wrote (prepare (tx 3 1) 1 (read_lock 0 1 ∷ []) (own_line 1 0 2 ∷ []) [])) ∷
    marked 0 (Sent 89 8 (messages.Answer 80 (answers.Yes 1))) ∷ marked 3 (Got 78) ∷ marked 8 (Got 83) ∷
    marked 3 (Wrote (prepare (tx 3 1) 1 (read_lock 0 1 ∷ []) (own_line 1 0 2 ∷ []) [])) ∷
    marked 3 (Sent 90 8 (messages.Answer 78 (answers.Yes 1))) ∷ marked 6 (Got 87) ∷ marked 0 (Got 84) ∷
    marked 6 (Got 88) ∷ marked 6 (Told (replies.Response 0)) ∷ marked 6 (Called commands.Abort) ∷ marked 8 (Got 89) ∷
    marked 6 (Sent 91 0 (messages.Decision (tx 1 1) outcomes.Aborted)) ∷
    marked 6 (Sent 92 1 (messages.Decision (tx 1 1) outcomes.Aborted)) ∷
    marked 6 (Sent 93 2 (messages.Decision (tx 1 1) outcomes.Aborted)) ∷
    marked 6 (Sent 94 3 (messages.Decision (tx 1 1) outcomes.Aborted)) ∷
    marked 6 (Sent 95 4 (messages.Decision (tx 1 1) outcomes.Aborted)) ∷ marked 6 (Told replies.Dropped) ∷
    marked 4 (Got 95) ∷ marked 2 (Got 93) ∷ marked 1 (Got 92) ∷ marked 3 (Got 94) ∷ marked 0 (Got 91) ∷
    marked 8 (Got 90) ∷ marked 8 (Wrote (commit (stamp 2 3) (tx 3 1) (operation 0 1 (Some 2) ∷ []))) ∷
    marked 8 (Sent 96 0 (messages.Decision (tx 3 1) (outcomes.Committed (stamp 2 3)))) ∷
    marked 8 (Sent 97 1 (messages.Decision (tx 3 1) (outcomes.Committed (stamp 2 3)))) ∷
    marked 8 (Sent 98 3 (messages.Decision (tx 3 1) (outcomes.Committed (stamp 2 3)))) ∷
    marked 8 (Sent 99 4 (messages.Decision (tx 3 1) (outcomes.Committed (stamp 2 3)))) ∷
    marked 8 (Told (replies.Committed (stamp 2 3))) ∷ marked 1 (Got 97) ∷ marked 1 (Wrote (records.Done (tx 3 1) 2)) ∷
    marked 4 (Got 99) ∷ marked 4 (Wrote (records.Done (tx 3 1) 2)) ∷ marked 0 (Got 96) ∷
    marked 0 (Wrote (records.Done (tx 3 1) 2)) ∷ marked 3 (Got 98) ∷ marked 3 (Wrote (records.Done (tx 3 1) 2)) ∷ []
