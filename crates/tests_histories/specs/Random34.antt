-- Random: sites 3, clients 3, steps 282, messages 99, lost 3, commits 2, aborts 2, conflicts 3, short rounds 1.
use Rattle.std.specs.Prelude.{List, [], ◌∷◌, Some}
use Rattle.qc_decl.specs.declared.declaration.Declaration.{Declaration}
use Rattle.qc_decl.specs.Vocabulary.{row}
use Rattle.qc_msg.specs.Vocabulary.{Entry, marked}
use Rattle.tests_histories.specs.Play.{Move, Takes, Posts, Acts}
use Rattle.tests_histories.specs.Words.{tx, stamp, line, own_line, operation, read_lock, prepare, commit, declaration}
use Rattle.tests_histories.specs.Words.{kind, pair, plan}
use Rattle.qc_msg.specs.declared.step.Step.TheVariants.{Phase, Called, Got, Lost, Wrote, Sent, Told}
use Rattle.qc_msg.specs.declared.message.Answer.TheVariants as answers
use Rattle.qc_msg.specs.declared.reply.AbortCause.TheVariants as causes
use Rattle.qc_msg.specs.declared.step.Command.TheVariants as commands
use Rattle.qc_msg.specs.declared.reply.Half.TheVariants as halves
use Rattle.qc_msg.specs.declared.message.Message.TheVariants as messages
use Rattle.qc_msg.specs.declared.message.Outcome.TheVariants as outcomes
use Rattle.qc_msg.specs.declared.record.Record.TheVariants as records
use Rattle.qc_msg.specs.declared.reply.Reply.TheVariants as replies
use Rattle.qc_msg.specs.declared.message.Want.TheVariants as wants
use Rattle.qc_msg.specs.Vocabulary.{whole_grant, first_read}

abbrev pub decl : Declaration
decl =
    declaration 3 3 (kind 3 3 3 0 (row 0 0 0 1 ∷ row 0 0 1 2 ∷ row 1 1 0 1 ∷ row 2 1 1 2 ∷ row 1 2 2 0 ∷ row 2 2 2 0 ∷
    row 0 2 2 0 ∷ []) (pair 0 0 ∷ pair 0 1 ∷ pair 0 4 ∷ pair 1 0 ∷ pair 1 1 ∷ pair 1 4 ∷ pair 2 2 ∷ []) ∷ kind 2 2 3 0
    (row 0 0 0 1 ∷ row 1 0 1 1 ∷ row 0 1 2 0 ∷ row 1 1 2 0 ∷ []) (pair 0 0 ∷ pair 0 2 ∷ []) ∷ []) (1 ∷ 1 ∷ []) (plan (2
    ∷ 1 ∷ 1 ∷ []) ((3 ∷ 0 ∷ []) ∷ (2 ∷ 1 ∷ []) ∷ []) ((2 ∷ 1 ∷ 2 ∷ []) ∷ (3 ∷ 0 ∷ 4 ∷ []) ∷ []) ∷ [])

abbrev pub moves : List Move
moves =
    Acts (Phase 1) ∷ Takes 5 (Called commands.Begin) ∷ Posts 5 ∷ Takes 5 (Called (commands.Do 1 1)) ∷ Posts 5 ∷
    Takes 2 (Got 0) ∷ Posts 2 ∷ Takes 5 (Got 1) ∷ Takes 2 (Got 0) ∷ Posts 5 ∷ Takes 1 (Got 4) ∷ Posts 1 ∷
    Takes 0 (Got 3) ∷ Takes 5 (Got 5) ∷ Posts 5 ∷ Takes 1 (Got 4) ∷ Posts 2 ∷ Takes 2 (Got 2) ∷ Takes 5 (Got 6) ∷
    Posts 5 ∷ Posts 0 ∷ Takes 0 (Got 3) ∷ Posts 1 ∷ Posts 2 ∷ Takes 2 (Got 2) ∷ Posts 0 ∷ Takes 5 (Got 7) ∷ Posts 5 ∷
    Takes 5 (Got 8) ∷ Posts 5 ∷ Posts 2 ∷ Takes 5 (Got 9) ∷ Posts 5 ∷ Takes 5 (Got 10) ∷ Posts 5 ∷ Takes 5 (Got 11) ∷
    Posts 5 ∷ Takes 5 (Called commands.Commit) ∷ Posts 5 ∷ Takes 1 (Got 14) ∷ Takes 0 (Got 13) ∷ Takes 2 (Got 12) ∷
    Posts 2 ∷ Takes 5 (Got 15) ∷ Posts 5 ∷ Takes 2 (Got 12) ∷ Posts 2 ∷ Takes 5 (Got 16) ∷ Posts 5 ∷ Posts 1 ∷
    Takes 5 (Got 17) ∷ Posts 5 ∷ Takes 1 (Got 14) ∷ Posts 0 ∷ Takes 0 (Got 13) ∷ Takes 5 (Got 18) ∷ Posts 5 ∷ Posts 0 ∷
    Takes 2 (Got 21) ∷ Takes 5 (Got 22) ∷ Posts 5 ∷ Takes 0 (Got 19) ∷ Posts 0 ∷ Takes 0 (Got 19) ∷ Posts 0 ∷ Posts 1 ∷
    Takes 5 (Got 23) ∷ Posts 5 ∷ Takes 1 (Got 20) ∷ Posts 2 ∷ Takes 2 (Got 21) ∷ Posts 2 ∷ Posts 1 ∷ Takes 1 (Got 20) ∷
    Posts 1 ∷ Acts (Phase 2) ∷ Acts (Phase 3) ∷ Takes 4 (Called commands.Begin) ∷ Posts 4 ∷
    Takes 5 (Called commands.Begin) ∷ Takes 3 (Called commands.Begin) ∷ Takes 4 (Called (commands.Do 0 0)) ∷ Posts 3 ∷
    Takes 3 (Called (commands.Do 1 1)) ∷ Posts 5 ∷ Takes 5 (Called (commands.Do 1 1)) ∷ Posts 3 ∷ Takes 3 (Lost 24) ∷
    Posts 4 ∷ Takes 0 (Got 27) ∷ Takes 2 (Got 26) ∷ Takes 1 (Got 25) ∷ Posts 3 ∷ Takes 3 (Lost 28) ∷ Posts 5 ∷ Posts 3 ∷
    Takes 3 (Lost 30) ∷ Posts 0 ∷ Takes 4 (Got 31) ∷ Posts 4 ∷ Posts 1 ∷ Posts 3 ∷ Takes 3 (Called (commands.Do 0 0)) ∷
    Posts 3 ∷ Takes 1 (Got 34) ∷ Posts 1 ∷ Takes 0 (Got 33) ∷ Takes 3 (Got 35) ∷ Posts 3 ∷ Posts 2 ∷ Takes 2 (Got 29) ∷
    Posts 0 ∷ Takes 3 (Got 37) ∷ Takes 4 (Got 32) ∷ Posts 4 ∷ Takes 4 (Got 36) ∷ Posts 2 ∷ Posts 3 ∷ Takes 0 (Got 39) ∷
    Takes 2 (Got 29) ∷ Posts 4 ∷ Takes 5 (Got 38) ∷ Takes 1 (Got 40) ∷ Posts 1 ∷ Takes 3 (Got 43) ∷ Takes 4 (Got 42) ∷
    Posts 4 ∷ Posts 2 ∷ Posts 5 ∷ Takes 5 (Got 44) ∷ Posts 5 ∷ Takes 1 (Got 47) ∷ Takes 2 (Got 41) ∷ Posts 3 ∷ Posts 2 ∷
    Takes 2 (Got 45) ∷ Takes 4 (Got 49) ∷ Posts 0 ∷ Takes 0 (Got 46) ∷ Posts 2 ∷ Takes 3 (Got 50) ∷ Takes 5 (Got 52) ∷
    Posts 5 ∷ Takes 2 (Got 45) ∷ Posts 3 ∷ Takes 3 (Called (commands.Do 0 0)) ∷ Posts 0 ∷ Takes 0 (Got 46) ∷ Posts 0 ∷
    Posts 3 ∷ Takes 3 (Called commands.Commit) ∷ Takes 5 (Got 53) ∷ Posts 5 ∷ Posts 2 ∷ Posts 4 ∷ Takes 4 (Got 51) ∷
    Posts 1 ∷ Takes 5 (Got 54) ∷ Posts 5 ∷ Takes 1 (Got 47) ∷ Takes 5 (Got 55) ∷ Posts 5 ∷ Posts 4 ∷
    Takes 4 (Called (commands.Do 1 0)) ∷ Takes 0 (Got 57) ∷ Posts 0 ∷ Posts 1 ∷ Takes 1 (Got 48) ∷ Posts 1 ∷ Posts 4 ∷
    Takes 4 (Called (commands.Do 0 1)) ∷ Posts 4 ∷ Takes 4 (Called commands.Commit) ∷ Posts 4 ∷ Takes 2 (Got 61) ∷
    Posts 2 ∷ Takes 5 (Got 56) ∷ Takes 0 (Got 59) ∷ Posts 0 ∷ Posts 3 ∷ Takes 2 (Got 64) ∷ Posts 2 ∷
    Takes 3 (Called commands.Begin) ∷ Takes 0 (Got 62) ∷ Posts 0 ∷ Takes 1 (Got 60) ∷ Posts 1 ∷ Takes 1 (Got 63) ∷
    Posts 1 ∷ Posts 5 ∷ Takes 5 (Got 58) ∷ Posts 5 ∷ Takes 5 (Called (commands.Do 0 0)) ∷ Posts 3 ∷
    Takes 3 (Called (commands.Do 0 1)) ∷ Posts 5 ∷ Takes 0 (Got 66) ∷ Takes 2 (Got 65) ∷ Posts 0 ∷ Takes 0 (Got 66) ∷
    Takes 5 (Got 67) ∷ Posts 5 ∷ Posts 3 ∷ Posts 2 ∷ Posts 0 ∷ Takes 2 (Got 65) ∷ Takes 0 (Got 68) ∷ Takes 5 (Got 69) ∷
    Posts 5 ∷ Posts 2 ∷ Takes 2 (Got 71) ∷ Takes 5 (Got 70) ∷ Posts 5 ∷ Posts 0 ∷ Takes 3 (Got 74) ∷ Takes 0 (Got 72) ∷
    Posts 2 ∷ Takes 2 (Got 71) ∷ Posts 2 ∷ Posts 3 ∷ Posts 0 ∷ Takes 0 (Got 72) ∷ Posts 0 ∷ Takes 5 (Got 73) ∷ Posts 5 ∷
    Takes 5 (Got 75) ∷ Posts 5 ∷ Takes 0 (Got 80) ∷ Posts 0 ∷ Takes 5 (Got 76) ∷ Posts 5 ∷ Takes 5 (Got 77) ∷ Posts 5 ∷
    Takes 0 (Got 80) ∷ Posts 0 ∷ Takes 5 (Got 78) ∷ Posts 5 ∷ Takes 5 (Got 79) ∷ Posts 5 ∷
    Takes 5 (Called (commands.Do 0 1)) ∷ Posts 5 ∷ Takes 0 (Got 82) ∷ Takes 2 (Got 81) ∷ Posts 0 ∷ Takes 0 (Got 82) ∷
    Takes 5 (Got 83) ∷ Posts 5 ∷ Posts 2 ∷ Posts 0 ∷ Takes 2 (Got 81) ∷ Takes 5 (Got 84) ∷ Posts 5 ∷ Posts 2 ∷
    Takes 5 (Got 85) ∷ Posts 5 ∷ Takes 5 (Got 86) ∷ Posts 5 ∷ Takes 5 (Called commands.Commit) ∷ Posts 5 ∷
    Takes 2 (Got 87) ∷ Takes 0 (Got 88) ∷ Takes 1 (Got 89) ∷ Posts 0 ∷ Takes 0 (Got 88) ∷ Posts 1 ∷ Takes 5 (Got 90) ∷
    Posts 5 ∷ Takes 1 (Got 89) ∷ Posts 1 ∷ Takes 5 (Got 91) ∷ Posts 5 ∷ Takes 5 (Got 92) ∷ Posts 5 ∷ Posts 0 ∷ Posts 2 ∷
    Takes 2 (Got 87) ∷ Posts 2 ∷ Takes 5 (Got 93) ∷ Posts 5 ∷ Takes 5 (Got 94) ∷ Posts 5 ∷ Takes 2 (Got 98) ∷
    Takes 5 (Got 95) ∷ Posts 5 ∷ Takes 0 (Got 96) ∷ Takes 1 (Got 97) ∷ Posts 0 ∷ Takes 0 (Got 96) ∷ Posts 0 ∷ Posts 2 ∷
    Takes 2 (Got 98) ∷ Posts 2 ∷ Posts 1 ∷ Takes 1 (Got 97) ∷ Posts 1 ∷ []

abbrev pub history : List Entry
history =
    marked 7 (Phase 1) ∷ marked 5 (Called commands.Begin) ∷ marked 5 (Told (replies.Began (tx 2 1))) ∷
    marked 5 (Called (commands.Do 1 1)) ∷
    marked 5 (Sent 0 2 (messages.Request (tx 2 1) 1 0 (wants.Read (first_read 1 1))))
    ∷
    marked 2 (Got 0) ∷ marked 2 (Sent 1 5 (messages.Answer 0 (answers.Granted (whole_grant 1 0 [])))) ∷ marked 5 (Got 1)
    ∷
    marked 2 (Got 0) ∷ marked 5 (Sent 2 2 (messages.Request (tx 2 1) 1 1 (wants.Append 1 [] (own_line 1 1 2 ∷ [])))) ∷
    marked 5 (Sent 3 0 (messages.Request (tx 2 1) 1 0 (wants.Append 1 [] (own_line 1 1 2 ∷ [])))) ∷
    marked 5 (Sent 4 1 (messages.Request (tx 2 1) 1 0 (wants.Append 1 [] (own_line 1 1 2 ∷ [])))) ∷ marked 1 (Got 4) ∷
    marked 1 (Sent 5 5 (messages.Answer 4 (answers.Granted (whole_grant 1 0 [])))) ∷ marked 0 (Got 3) ∷ marked 5 (Got 5)
    ∷
    marked 1 (Got 4) ∷ marked 2 (Sent 6 5 (messages.Answer 0 (answers.Granted (whole_grant 1 0 [])))) ∷ marked 2 (Got 2)
    ∷
    marked 5 (Got 6) ∷ marked 0 (Sent 7 5 (messages.Answer 3 (answers.Granted (whole_grant 1 0 [])))) ∷ marked 0 (Got 3)
    ∷
    marked 1 (Sent 8 5 (messages.Answer 4 (answers.Granted (whole_grant 1 0 [])))) ∷
    marked 2 (Sent 9 5 (messages.Answer 2 (answers.Granted (whole_grant 1 0 [])))) ∷ marked 2 (Got 2) ∷
    marked 0 (Sent 10 5 (messages.Answer 3 (answers.Granted (whole_grant 1 0 [])))) ∷ marked 5 (Got 7) ∷
    marked 5 (Got 8)
    ∷
    marked 2 (Sent 11 5 (messages.Answer 2 (answers.Granted (whole_grant 1 0 [])))) ∷ marked 5 (Got 9) ∷
    marked 5 (Told (replies.Response 2)) ∷ marked 5 (Got 10) ∷ marked 5 (Got 11) ∷ marked 5 (Called commands.Commit) ∷
    marked 5 (Sent 12 2 (messages.Request (tx 2 1) 1 1 wants.Prepare)) ∷
    marked 5 (Sent 13 0 (messages.Request (tx 2 1) 1 1 wants.Prepare)) ∷
    marked 5 (Sent 14 1 (messages.Request (tx 2 1) 1 1 wants.Prepare)) ∷ marked 1 (Got 14) ∷ marked 0 (Got 13) ∷
    marked 2 (Got 12) ∷ marked 2 (Wrote (prepare (tx 2 1) 1 (read_lock 1 1 ∷ []) (own_line 1 1 2 ∷ []) [])) ∷
    marked 2 (Sent 15 5 (messages.Answer 12 (answers.Yes 0))) ∷ marked 5 (Got 15) ∷ marked 2 (Got 12) ∷
    marked 2 (Sent 16 5 (messages.Answer 12 (answers.Yes 0))) ∷ marked 5 (Got 16) ∷
    marked 1 (Wrote (prepare (tx 2 1) 1 [] (own_line 1 1 2 ∷ []) [])) ∷
    marked 1 (Sent 17 5 (messages.Answer 14 (answers.Yes 0))) ∷ marked 5 (Got 17) ∷ marked 1 (Got 14) ∷
    marked 0 (Wrote (prepare (tx 2 1) 1 [] (own_line 1 1 2 ∷ []) [])) ∷
    marked 0 (Sent 18 5 (messages.Answer 13 (answers.Yes 0))) ∷ marked 0 (Got 13) ∷ marked 5 (Got 18) ∷
    marked 5 (Wrote (commit (stamp 1 2) (tx 2 1) (operation 1 1 (Some 2) ∷ []))) ∷
    marked 5 (Sent 19 0 (messages.Decision (tx 2 1) (outcomes.Committed (stamp 1 2)))) ∷
    marked 5 (Sent 20 1 (messages.Decision (tx 2 1) (outcomes.Committed (stamp 1 2)))) ∷
    marked 5 (Sent 21 2 (messages.Decision (tx 2 1) (outcomes.Committed (stamp 1 2)))) ∷
    marked 5 (Told (replies.Committed (stamp 1 2))) ∷ marked 0 (Sent 22 5 (messages.Answer 13 (answers.Yes 0))) ∷
    marked 2 (Got 21) ∷ marked 5 (Got 22) ∷ marked 0 (Got 19) ∷ marked 0 (Wrote (records.Done (tx 2 1) 1)) ∷
    marked 0 (Got 19) ∷ marked 1 (Sent 23 5 (messages.Answer 14 (answers.Yes 0))) ∷ marked 5 (Got 23) ∷
    marked 1 (Got 20) ∷ marked 2 (Wrote (records.Done (tx 2 1) 1)) ∷ marked 2 (Got 21) ∷
    marked 1 (Wrote (records.Done (tx 2 1) 1)) ∷ marked 1 (Got 20) ∷ marked 7 (Phase 2) ∷ marked 7 (Phase 3) ∷
    marked 4 (Called commands.Begin) ∷ marked 4 (Told (replies.Began (tx 1 1))) ∷ marked 5 (Called commands.Begin) ∷
    marked 3 (Called commands.Begin) ∷ marked 4 (Called (commands.Do 0 0)) ∷ marked 3 (Told (replies.Began (tx 0 1))) ∷
    marked 3 (Called (commands.Do 1 1)) ∷ marked 5 (Told (replies.Began (tx 2 2))) ∷
    marked 5 (Called (commands.Do 1 1))
    ∷ marked 3 (Sent 24 0 (messages.Request (tx 0 1) 1 0 (wants.Read (first_read 1 1)))) ∷
    marked 3 (Lost 24) ∷ marked 4 (Sent 25 1 (messages.Request (tx 1 1) 1 0 (wants.Read (first_read 0 0)))) ∷
    marked 4 (Sent 26 2 (messages.Request (tx 1 1) 1 0 (wants.Read (first_read 0 0)))) ∷
    marked 4 (Sent 27 0 (messages.Request (tx 1 1) 1 0 (wants.Read (first_read 0 0)))) ∷ marked 0 (Got 27)
    ∷ marked 2 (Got 26) ∷
    marked 1 (Got 25) ∷ marked 3 (Sent 28 1 (messages.Request (tx 0 1) 1 0 (wants.Read (first_read 1 1))))
    ∷ marked 3 (Lost 28) ∷
    marked 5 (Sent 29 2 (messages.Request (tx 2 2) 1 0 (wants.Read (first_read 1 1)))) ∷
    marked 3 (Sent 30 2 (messages.Request (tx 0 1) 1 0 (wants.Read (first_read 1 1)))) ∷ marked 3 (Lost 30) ∷
    marked 0 (Sent 31 4 (messages.Answer 27 (answers.Granted (whole_grant 1 1 [])))) ∷ marked 4 (Got 31) ∷
    marked 1 (Sent 32 4 (messages.Answer 25 (answers.Granted (whole_grant 1 1 [])))) ∷
    marked 3 (Told (replies.Quorum halves.Read 0 1)) ∷ marked 3 (Called (commands.Do 0 0)) ∷
    marked 3 (Sent 33 0 (messages.Request (tx 0 1) 1 0 (wants.Read (first_read 0 0)))) ∷
    marked 3 (Sent 34 1 (messages.Request (tx 0 1) 1 0 (wants.Read (first_read 0 0)))) ∷ marked 1 (Got 34) ∷
    marked 1 (Sent 35 3 (messages.Answer 34 (answers.Granted (whole_grant 1 1 [])))) ∷ marked 0 (Got 33)
    ∷ marked 3 (Got 35) ∷
    marked 2 (Sent 36 4 (messages.Answer 26 (answers.Granted (whole_grant 1 1 [])))) ∷ marked 2 (Got 29) ∷
    marked 0 (Sent 37 3 (messages.Answer 33 (answers.Granted (whole_grant 1 1 [])))) ∷ marked 3 (Got 37)
    ∷ marked 4 (Got 32) ∷
    marked 4 (Got 36)
    ∷ marked 2 (Sent 38 5 (messages.Answer 29 (answers.Granted (whole_grant 1 1 (line 1 2 1 1 1 2 ∷ []))))) ∷
    marked 3 (Sent 39 0 (messages.Request (tx 0 1) 1 1 (wants.Append 0 [] (own_line 1 0 0 ∷ [])))) ∷ marked 0 (Got 39) ∷
    marked 2 (Got 29) ∷ marked 4 (Sent 40 1 (messages.Request (tx 1 1) 1 1 (wants.Append 0 [] (own_line 1 0 0 ∷ [])))) ∷
    marked 4 (Sent 41 2 (messages.Request (tx 1 1) 1 1 (wants.Append 0 [] (own_line 1 0 0 ∷ [])))) ∷ marked 5 (Got 38) ∷
    marked 1 (Got 40) ∷ marked 1 (Sent 42 4 (messages.Answer 40 (answers.Clash (tx 0 1) 0 0))) ∷
    marked 1 (Sent 43 3 (messages.Inquiry (tx 0 1))) ∷ marked 3 (Got 43) ∷ marked 4 (Got 42) ∷
    marked 2 (Sent 44 5 (messages.Answer 29 (answers.Granted (whole_grant 1 1 (line 1 2 1 1 1 2 ∷ []))))) ∷
    marked 5 (Sent 45 2 (messages.Request (tx 2 2) 1 1 (wants.Append 1 (line 1 2 1 1 1 2 ∷ []) (own_line 1 1 2 ∷ []))))
    ∷
    marked 5 (Sent 46 0 (messages.Request (tx 2 2) 1 0 (wants.Append 1 (line 1 2 1 1 1 2 ∷ []) (own_line 1 1 2 ∷ []))))
    ∷
    marked 5 (Sent 47 1 (messages.Request (tx 2 2) 1 0 (wants.Append 1 (line 1 2 1 1 1 2 ∷ []) (own_line 1 1 2 ∷ []))))
    ∷
    marked 5 (Got 44) ∷ marked 1 (Got 47) ∷ marked 2 (Got 41) ∷
    marked 3 (Sent 48 1 (messages.Decision (tx 0 1) outcomes.Active)) ∷
    marked 2 (Sent 49 4 (messages.Answer 41 (answers.Granted (whole_grant 1 1 [])))) ∷ marked 2 (Got 45)
    ∷ marked 4 (Got 49) ∷
    marked 0 (Sent 50 3 (messages.Answer 39 (answers.Clash (tx 1 1) 0 0))) ∷
    marked 0 (Sent 51 4 (messages.Inquiry (tx 1 1))) ∷ marked 0 (Got 46) ∷
    marked 2 (Sent 52 5 (messages.Answer 45 (answers.Granted (whole_grant 1 1 [])))) ∷ marked 3 (Got 50)
    ∷ marked 5 (Got 52) ∷
    marked 2 (Got 45) ∷ marked 3 (Told (replies.Conflict (tx 1 1) 0)) ∷ marked 3 (Called (commands.Do 0 0)) ∷
    marked 0 (Sent 53 5 (messages.Answer 46 (answers.Granted (whole_grant 1 1 [])))) ∷ marked 0 (Got 46) ∷
    marked 0 (Sent 54 5 (messages.Answer 46 (answers.Granted (whole_grant 1 1 [])))) ∷ marked 3 (Told replies.Doomed) ∷
    marked 3 (Called commands.Commit) ∷ marked 5 (Got 53) ∷
    marked 2 (Sent 55 5 (messages.Answer 45 (answers.Granted (whole_grant 1 1 []))))
    ∷ marked 4 (Told (replies.Conflict (tx 0 1) 1)) ∷
    marked 4 (Got 51) ∷ marked 1 (Sent 56 5 (messages.Answer 47 (answers.Granted (whole_grant 1 1 []))))
    ∷ marked 5 (Got 54) ∷
    marked 1 (Got 47) ∷ marked 5 (Got 55) ∷ marked 4 (Sent 57 0 (messages.Decision (tx 1 1) outcomes.Active)) ∷
    marked 4 (Called (commands.Do 1 0)) ∷ marked 0 (Got 57) ∷
    marked 1 (Sent 58 5 (messages.Answer 47 (answers.Granted (whole_grant 1 1 [])))) ∷ marked 1 (Got 48) ∷
    marked 4 (Told replies.Doomed) ∷ marked 4 (Called (commands.Do 0 1)) ∷ marked 4 (Told replies.Doomed) ∷
    marked 4 (Called commands.Commit) ∷ marked 4 (Sent 59 0 (messages.Decision (tx 1 1) outcomes.Aborted)) ∷
    marked 4 (Sent 60 1 (messages.Decision (tx 1 1) outcomes.Aborted)) ∷
    marked 4 (Sent 61 2 (messages.Decision (tx 1 1) outcomes.Aborted)) ∷
    marked 4 (Told (replies.Aborted causes.Doomed)) ∷ marked 2 (Got 61) ∷ marked 5 (Got 56) ∷ marked 0 (Got 59) ∷
    marked 3 (Sent 62 0 (messages.Decision (tx 0 1) outcomes.Aborted)) ∷
    marked 3 (Sent 63 1 (messages.Decision (tx 0 1) outcomes.Aborted)) ∷
    marked 3 (Sent 64 2 (messages.Decision (tx 0 1) outcomes.Aborted)) ∷
    marked 3 (Told (replies.Aborted causes.Doomed)) ∷ marked 2 (Got 64) ∷ marked 3 (Called commands.Begin) ∷
    marked 0 (Got 62) ∷ marked 1 (Got 60) ∷ marked 1 (Got 63) ∷ marked 5 (Told (replies.Response 2)) ∷
    marked 5 (Got 58) ∷ marked 5 (Called (commands.Do 0 0)) ∷ marked 3 (Told (replies.Began (tx 0 2))) ∷
    marked 3 (Called (commands.Do 0 1))
    ∷ marked 5 (Sent 65 2 (messages.Request (tx 2 2) 1 1 (wants.Read (first_read 0 0)))) ∷
    marked 5 (Sent 66 0 (messages.Request (tx 2 2) 1 1 (wants.Read (first_read 0 0)))) ∷ marked 0 (Got 66)
    ∷ marked 2 (Got 65) ∷
    marked 0 (Sent 67 5 (messages.Answer 66 (answers.Granted (whole_grant 1 1 [])))) ∷ marked 0 (Got 66)
    ∷ marked 5 (Got 67) ∷
    marked 3 (Sent 68 0 (messages.Request (tx 0 2) 1 0 (wants.Append 0 [] (own_line 1 0 2 ∷ [])))) ∷
    marked 2 (Sent 69 5 (messages.Answer 65 (answers.Granted (whole_grant 1 1 [])))) ∷
    marked 0 (Sent 70 5 (messages.Answer 66 (answers.Granted (whole_grant 1 1 [])))) ∷ marked 2 (Got 65)
    ∷ marked 0 (Got 68) ∷
    marked 5 (Got 69) ∷ marked 5 (Sent 71 2 (messages.Request (tx 2 2) 1 1 (wants.Append 0 [] (own_line 2 0 0 ∷ [])))) ∷
    marked 5 (Sent 72 0 (messages.Request (tx 2 2) 1 1 (wants.Append 0 [] (own_line 2 0 0 ∷ [])))) ∷
    marked 2 (Sent 73 5 (messages.Answer 65 (answers.Granted (whole_grant 1 1 [])))) ∷ marked 2 (Got 71)
    ∷ marked 5 (Got 70) ∷
    marked 0 (Sent 74 3 (messages.Answer 68 (answers.Clash (tx 2 2) 0 2))) ∷
    marked 0 (Sent 75 5 (messages.Inquiry (tx 2 2))) ∷ marked 3 (Got 74) ∷ marked 0 (Got 72) ∷
    marked 2 (Sent 76 5 (messages.Answer 71 (answers.Granted (whole_grant 1 1 [])))) ∷ marked 2 (Got 71) ∷
    marked 2 (Sent 77 5 (messages.Answer 71 (answers.Granted (whole_grant 1 1 []))))
    ∷ marked 3 (Told (replies.Conflict (tx 2 2) 0)) ∷
    marked 0 (Sent 78 5 (messages.Answer 72 (answers.Granted (whole_grant 1 1 [])))) ∷ marked 0 (Got 72) ∷
    marked 0 (Sent 79 5 (messages.Answer 72 (answers.Granted (whole_grant 1 1 [])))) ∷ marked 5 (Got 73)
    ∷ marked 5 (Got 75) ∷
    marked 5 (Sent 80 0 (messages.Decision (tx 2 2) outcomes.Active)) ∷ marked 0 (Got 80) ∷ marked 5 (Got 76) ∷
    marked 5 (Got 77) ∷ marked 0 (Got 80) ∷ marked 5 (Got 78) ∷ marked 5 (Told (replies.Response 0)) ∷
    marked 5 (Got 79) ∷ marked 5 (Called (commands.Do 0 1)) ∷
    marked 5 (Sent 81 2 (messages.Request (tx 2 2) 1 1 (wants.Append 0 [] (own_line 2 0 0 ∷ own_line 3 0 2 ∷ [])))) ∷
    marked 5 (Sent 82 0 (messages.Request (tx 2 2) 1 1 (wants.Append 0 [] (own_line 2 0 0 ∷ own_line 3 0 2 ∷ [])))) ∷
    marked 0 (Got 82) ∷ marked 2 (Got 81)
    ∷ marked 0 (Sent 83 5 (messages.Answer 82 (answers.Granted (whole_grant 1 1 [])))) ∷
    marked 0 (Got 82) ∷ marked 5 (Got 83)
    ∷ marked 2 (Sent 84 5 (messages.Answer 81 (answers.Granted (whole_grant 1 1 [])))) ∷
    marked 0 (Sent 85 5 (messages.Answer 82 (answers.Granted (whole_grant 1 1 [])))) ∷ marked 2 (Got 81)
    ∷ marked 5 (Got 84) ∷
    marked 5 (Told (replies.Response 2))
    ∷ marked 2 (Sent 86 5 (messages.Answer 81 (answers.Granted (whole_grant 1 1 [])))) ∷
    marked 5 (Got 85) ∷ marked 5 (Got 86) ∷ marked 5 (Called commands.Commit) ∷
    marked 5 (Sent 87 2 (messages.Request (tx 2 2) 1 1 wants.Prepare)) ∷
    marked 5 (Sent 88 0 (messages.Request (tx 2 2) 1 1 wants.Prepare)) ∷
    marked 5 (Sent 89 1 (messages.Request (tx 2 2) 1 1 wants.Prepare)) ∷ marked 2 (Got 87) ∷ marked 0 (Got 88) ∷
    marked 1 (Got 89) ∷
    marked 0 (Wrote (prepare (tx 2 2) 1 (read_lock 0 0 ∷ []) (own_line 1 1 2 ∷ own_line 2 0 0 ∷ own_line 3 0 2 ∷ [])
    [])) ∷
    marked 0 (Sent 90 5 (messages.Answer 88 (answers.Yes 1))) ∷ marked 0 (Got 88) ∷
    marked 1 (Wrote (prepare (tx 2 2) 1 [] (own_line 1 1 2 ∷ []) [])) ∷
    marked 1 (Sent 91 5 (messages.Answer 89 (answers.Yes 1))) ∷ marked 5 (Got 90) ∷ marked 1 (Got 89) ∷
    marked 1 (Sent 92 5 (messages.Answer 89 (answers.Yes 1))) ∷ marked 5 (Got 91) ∷ marked 5 (Got 92) ∷
    marked 0 (Sent 93 5 (messages.Answer 88 (answers.Yes 1))) ∷
    marked 2 (Wrote (prepare (tx 2 2) 1 (read_lock 0 0 ∷ read_lock 1 1 ∷ []) (own_line 1 1 2 ∷ own_line 2 0 0 ∷ own_line
    3 0 2 ∷ []) [])) ∷
    marked 2 (Sent 94 5 (messages.Answer 87 (answers.Yes 1))) ∷ marked 2 (Got 87) ∷
    marked 2 (Sent 95 5 (messages.Answer 87 (answers.Yes 1))) ∷ marked 5 (Got 93) ∷ marked 5 (Got 94) ∷
    marked 5 (Wrote (commit (stamp 2 2) (tx 2 2) (operation 1 1 (Some 2) ∷ operation 0 0 (Some 0) ∷ operation 0 1 (Some
    2) ∷ []))) ∷
    marked 5 (Sent 96 0 (messages.Decision (tx 2 2) (outcomes.Committed (stamp 2 2)))) ∷
    marked 5 (Sent 97 1 (messages.Decision (tx 2 2) (outcomes.Committed (stamp 2 2)))) ∷
    marked 5 (Sent 98 2 (messages.Decision (tx 2 2) (outcomes.Committed (stamp 2 2)))) ∷
    marked 5 (Told (replies.Committed (stamp 2 2))) ∷ marked 2 (Got 98) ∷ marked 5 (Got 95) ∷ marked 0 (Got 96) ∷
    marked 1 (Got 97) ∷ marked 0 (Wrote (records.Done (tx 2 2) 2)) ∷ marked 0 (Got 96) ∷
    marked 2 (Wrote (records.Done (tx 2 2) 2)) ∷ marked 2 (Got 98) ∷ marked 1 (Wrote (records.Done (tx 2 2) 2)) ∷
    marked 1 (Got 97) ∷ []
