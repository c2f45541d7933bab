-- Random: sites 5, clients 1, steps 225, messages 88, lost 6, commits 2, aborts 1, conflicts 1, short rounds 2.
use Rattle.std.specs.Prelude.{List, [], ◌∷◌, Some}
use Rattle.qc_decl.specs.declared.declaration.Declaration.{Declaration}
use Rattle.qc_decl.specs.Vocabulary.{row}
use Rattle.qc_msg.specs.Vocabulary.{Entry, marked}
use Rattle.tests_histories.specs.Play.{Move, Takes, Posts, Acts}
use Rattle.tests_histories.specs.Words.{tx, stamp, line, own_line, operation, read_lock, prepare, commit, declaration}
use Rattle.tests_histories.specs.Words.{kind, pair, plan}
use Rattle.qc_msg.specs.declared.step.Step.TheVariants.{Phase, Called, Got, Lost, Wrote, Sent, Told}
use Rattle.qc_msg.specs.declared.message.Answer.TheVariants as answers
use Rattle.qc_msg.specs.declared.reply.AbortCause.TheVariants as causes
use Rattle.qc_msg.specs.declared.step.Command.TheVariants as commands
use Rattle.qc_msg.specs.declared.reply.Half.TheVariants as halves
use Rattle.qc_msg.specs.declared.message.Message.TheVariants as messages
use Rattle.qc_msg.specs.declared.message.Outcome.TheVariants as outcomes
use Rattle.qc_msg.specs.declared.record.Record.TheVariants as records
use Rattle.qc_msg.specs.declared.reply.Reply.TheVariants as replies
use Rattle.qc_msg.specs.declared.message.Want.TheVariants as wants
use Rattle.qc_msg.specs.Vocabulary.{whole_grant, first_read}

abbrev pub decl : Declaration
decl =
    declaration 5 1 (kind 2 3 3 0 (row 0 0 1 0 ∷ row 0 0 0 0 ∷ row 0 1 1 0 ∷ row 1 0 2 1 ∷ row 1 1 0 1 ∷ row 1 2 2 0 ∷
    []) (pair 2 1 ∷ []) ∷ kind 4 3 3 0 (row 0 0 0 0 ∷ row 0 0 2 1 ∷ row 0 1 2 1 ∷ row 0 2 1 3 ∷ row 1 0 0 1 ∷ row 1 1 2
    1 ∷ row 1 1 0 0 ∷ row 1 2 0 1 ∷ row 1 2 2 1 ∷ row 2 0 0 1 ∷ row 2 1 2 2 ∷ row 3 0 1 2 ∷ row 3 1 1 3 ∷ row 3 2 0 0 ∷
    []) (pair 0 1 ∷ pair 0 2 ∷ pair 0 3 ∷ pair 0 4 ∷ pair 0 5 ∷ pair 0 7 ∷ pair 1 0 ∷ pair 1 1 ∷ pair 1 2 ∷ pair 1 3 ∷
    pair 1 4 ∷ pair 1 5 ∷ pair 1 7 ∷ pair 2 0 ∷ pair 2 1 ∷ pair 2 2 ∷ pair 2 3 ∷ pair 2 4 ∷ pair 2 5 ∷ pair 2 7 ∷ []) ∷
    []) (0 ∷ 1 ∷ []) (plan (1 ∷ 3 ∷ 3 ∷ 1 ∷ 1 ∷ []) ((0 ∷ 0 ∷ 9 ∷ []) ∷ (5 ∷ 5 ∷ 5 ∷ []) ∷ []) ((0 ∷ 1 ∷ 0 ∷ 0 ∷ 0 ∷ 0 ∷
    []) ∷ (5 ∷ 5 ∷ 5 ∷ 5 ∷ 5 ∷ 5 ∷ 5 ∷ 5 ∷ 0 ∷ []) ∷ []) ∷ [])

abbrev pub moves : List Move
moves =
    Acts (Phase 1) ∷ Takes 5 (Called commands.Begin) ∷ Posts 5 ∷ Takes 5 (Called (commands.Do 1 2)) ∷ Posts 5 ∷
    Takes 2 (Got 2) ∷ Posts 2 ∷ Takes 5 (Got 3) ∷ Posts 5 ∷ Takes 1 (Got 1) ∷ Posts 1 ∷ Takes 5 (Got 4) ∷ Posts 5 ∷
    Takes 0 (Got 0) ∷ Posts 0 ∷ Takes 5 (Got 5) ∷ Posts 5 ∷ Takes 1 (Got 7) ∷ Takes 2 (Got 8) ∷ Posts 2 ∷ Posts 1 ∷
    Takes 5 (Got 9) ∷ Posts 5 ∷ Takes 5 (Got 10) ∷ Posts 5 ∷ Takes 0 (Got 6) ∷ Posts 0 ∷ Takes 5 (Got 11) ∷ Posts 5 ∷
    Takes 5 (Called commands.Commit) ∷ Posts 5 ∷ Takes 1 (Got 13) ∷ Takes 2 (Got 14) ∷ Posts 2 ∷ Takes 5 (Got 15) ∷
    Posts 5 ∷ Posts 1 ∷ Takes 0 (Got 12) ∷ Posts 0 ∷ Takes 5 (Got 16) ∷ Posts 5 ∷ Takes 5 (Got 17) ∷ Posts 5 ∷
    Takes 1 (Got 19) ∷ Takes 2 (Got 20) ∷ Posts 2 ∷ Posts 1 ∷ Takes 0 (Got 18) ∷ Posts 0 ∷ Acts (Phase 2) ∷
    Takes 5 (Called commands.Begin) ∷ Posts 5 ∷ Takes 5 (Called (commands.Do 1 0)) ∷ Posts 5 ∷ Takes 0 (Got 21) ∷
    Takes 2 (Got 23) ∷ Posts 0 ∷ Takes 5 (Got 24) ∷ Posts 5 ∷ Takes 1 (Got 22) ∷ Posts 1 ∷ Takes 5 (Got 25) ∷ Posts 5 ∷
    Posts 2 ∷ Takes 5 (Got 26) ∷ Posts 5 ∷ Takes 5 (Lost 27) ∷ Posts 5 ∷ Takes 5 (Lost 28) ∷ Posts 5 ∷
    Takes 5 (Lost 29) ∷ Posts 5 ∷ Takes 3 (Got 30) ∷ Posts 3 ∷ Takes 5 (Got 31) ∷ Posts 5 ∷ Takes 4 (Got 32) ∷ Posts 4 ∷
    Takes 5 (Got 33) ∷ Posts 5 ∷ Takes 5 (Called commands.Commit) ∷ Posts 5 ∷ Takes 0 (Got 34) ∷ Posts 0 ∷
    Takes 2 (Got 36) ∷ Posts 2 ∷ Takes 4 (Got 38) ∷ Posts 4 ∷ Takes 3 (Got 37) ∷ Posts 3 ∷ Takes 1 (Got 35) ∷ Posts 1 ∷
    Acts (Phase 3) ∷ Takes 1 (Got 28) ∷ Takes 5 (Called commands.Begin) ∷ Posts 5 ∷ Takes 5 (Called (commands.Do 1 1)) ∷
    Takes 0 (Got 27) ∷ Posts 0 ∷ Posts 5 ∷ Takes 0 (Got 40) ∷ Posts 0 ∷ Takes 5 (Got 39) ∷ Posts 5 ∷ Posts 1 ∷
    Takes 1 (Got 41) ∷ Takes 5 (Got 44) ∷ Posts 5 ∷ Takes 5 (Got 45) ∷ Posts 5 ∷ Takes 0 (Got 46) ∷ Posts 0 ∷
    Takes 5 (Lost 40) ∷ Posts 5 ∷ Posts 1 ∷ Takes 5 (Got 48) ∷ Posts 5 ∷ Takes 1 (Got 49) ∷ Posts 1 ∷
    Takes 5 (Lost 41) ∷ Posts 5 ∷ Takes 2 (Got 29) ∷ Posts 2 ∷ Takes 5 (Got 50) ∷ Posts 5 ∷ Takes 2 (Got 42) ∷ Posts 2 ∷
    Takes 5 (Got 52) ∷ Posts 5 ∷ Takes 5 (Lost 42) ∷ Posts 5 ∷ Takes 3 (Got 54) ∷ Posts 3 ∷ Takes 5 (Got 55) ∷ Posts 5 ∷
    Takes 2 (Got 53) ∷ Posts 2 ∷ Takes 4 (Got 56) ∷ Posts 4 ∷ Takes 5 (Got 57) ∷ Posts 5 ∷
    Takes 5 (Called commands.Commit) ∷ Posts 5 ∷ Takes 3 (Got 58) ∷ Takes 4 (Got 59) ∷ Posts 3 ∷ Takes 5 (Got 60) ∷
    Posts 5 ∷ Posts 4 ∷ Takes 5 (Got 61) ∷ Posts 5 ∷ Takes 0 (Got 62) ∷ Posts 0 ∷ Takes 4 (Got 66) ∷ Takes 1 (Got 63) ∷
    Posts 1 ∷ Takes 3 (Got 65) ∷ Posts 3 ∷ Posts 4 ∷ Takes 2 (Got 64) ∷ Posts 2 ∷ Acts (Phase 4) ∷ Takes 1 (Got 41) ∷
    Takes 0 (Got 40) ∷ Takes 2 (Got 42) ∷ Posts 2 ∷ Posts 0 ∷ Takes 5 (Got 43) ∷ Posts 5 ∷ Takes 5 (Got 47) ∷ Posts 5 ∷
    Takes 5 (Got 51) ∷ Posts 5 ∷ Posts 1 ∷ Takes 5 (Got 67) ∷ Posts 5 ∷ Takes 5 (Got 68) ∷ Posts 5 ∷ Takes 5 (Got 69) ∷
    Posts 5 ∷ Takes 5 (Called commands.Begin) ∷ Posts 5 ∷ Takes 5 (Called (commands.Do 1 0)) ∷ Posts 5 ∷
    Takes 1 (Got 71) ∷ Takes 2 (Got 72) ∷ Posts 2 ∷ Takes 0 (Got 70) ∷ Posts 0 ∷ Takes 5 (Got 73) ∷ Posts 5 ∷
    Takes 5 (Got 74) ∷ Posts 5 ∷ Posts 1 ∷ Takes 5 (Got 75) ∷ Posts 5 ∷ Takes 1 (Got 77) ∷ Takes 0 (Got 76) ∷ Posts 0 ∷
    Takes 2 (Got 78) ∷ Posts 2 ∷ Posts 1 ∷ Takes 5 (Got 79) ∷ Posts 5 ∷ Takes 5 (Got 80) ∷ Posts 5 ∷ Takes 0 (Got 85) ∷
    Posts 0 ∷ Takes 5 (Got 81) ∷ Posts 5 ∷ Takes 5 (Got 82) ∷ Posts 5 ∷ Takes 2 (Got 86) ∷ Posts 2 ∷ Takes 5 (Got 83) ∷
    Posts 5 ∷ Takes 5 (Got 84) ∷ Posts 5 ∷ Takes 1 (Got 87) ∷ Posts 1 ∷ Takes 5 (Called (commands.Do 0 0)) ∷ Posts 5 ∷
    []

abbrev pub history : List Entry
history =
    marked 7 (Phase 1) ∷ marked 5 (Called commands.Begin) ∷ marked 5 (Told (replies.Began (tx 0 1))) ∷
    marked 5 (Called (commands.Do 1 2)) ∷
    marked 5 (Sent 0 0 (messages.Request (tx 0 1) 1 0 (wants.Read (first_read 1 2))))
    ∷
    marked 5 (Sent 1 1 (messages.Request (tx 0 1) 1 0 (wants.Read (first_read 1 2)))) ∷
    marked 5 (Sent 2 2 (messages.Request (tx 0 1) 1 0 (wants.Read (first_read 1 2)))) ∷ marked 2 (Got 2) ∷
    marked 2 (Sent 3 5 (messages.Answer 2 (answers.Granted (whole_grant 1 0 [])))) ∷ marked 5 (Got 3) ∷ marked 1 (Got 1)
    ∷
    marked 1 (Sent 4 5 (messages.Answer 1 (answers.Granted (whole_grant 1 0 [])))) ∷ marked 5 (Got 4) ∷ marked 0 (Got 0)
    ∷
    marked 0 (Sent 5 5 (messages.Answer 0 (answers.Granted (whole_grant 1 0 [])))) ∷ marked 5 (Got 5) ∷
    marked 5 (Sent 6 0 (messages.Request (tx 0 1) 1 1 (wants.Append 1 [] (own_line 1 1 3 ∷ [])))) ∷
    marked 5 (Sent 7 1 (messages.Request (tx 0 1) 1 1 (wants.Append 1 [] (own_line 1 1 3 ∷ [])))) ∷
    marked 5 (Sent 8 2 (messages.Request (tx 0 1) 1 1 (wants.Append 1 [] (own_line 1 1 3 ∷ [])))) ∷ marked 1 (Got 7) ∷
    marked 2 (Got 8) ∷ marked 2 (Sent 9 5 (messages.Answer 8 (answers.Granted (whole_grant 1 0 [])))) ∷
    marked 1 (Sent 10 5 (messages.Answer 7 (answers.Granted (whole_grant 1 0 [])))) ∷ marked 5 (Got 9)
    ∷ marked 5 (Got 10) ∷
    marked 0 (Got 6) ∷ marked 0 (Sent 11 5 (messages.Answer 6 (answers.Granted (whole_grant 1 0 []))))
    ∷ marked 5 (Got 11) ∷
    marked 5 (Told (replies.Response 1)) ∷ marked 5 (Called commands.Commit) ∷
    marked 5 (Sent 12 0 (messages.Request (tx 0 1) 1 1 wants.Prepare)) ∷
    marked 5 (Sent 13 1 (messages.Request (tx 0 1) 1 1 wants.Prepare)) ∷
    marked 5 (Sent 14 2 (messages.Request (tx 0 1) 1 1 wants.Prepare)) ∷ marked 1 (Got 13) ∷ marked 2 (Got 14) ∷
    marked 2 (Wrote (prepare (tx 0 1) 1 (read_lock 1 2 ∷ []) (own_line 1 1 3 ∷ []) [])) ∷
    marked 2 (Sent 15 5 (messages.Answer 14 (answers.Yes 0))) ∷ marked 5 (Got 15) ∷
    marked 1 (Wrote (prepare (tx 0 1) 1 (read_lock 1 2 ∷ []) (own_line 1 1 3 ∷ []) [])) ∷
    marked 1 (Sent 16 5 (messages.Answer 13 (answers.Yes 0))) ∷ marked 0 (Got 12) ∷
    marked 0 (Wrote (prepare (tx 0 1) 1 (read_lock 1 2 ∷ []) (own_line 1 1 3 ∷ []) [])) ∷
    marked 0 (Sent 17 5 (messages.Answer 12 (answers.Yes 0))) ∷ marked 5 (Got 16) ∷ marked 5 (Got 17) ∷
    marked 5 (Wrote (commit (stamp 1 0) (tx 0 1) (operation 1 2 (Some 1) ∷ []))) ∷
    marked 5 (Sent 18 0 (messages.Decision (tx 0 1) (outcomes.Committed (stamp 1 0)))) ∷
    marked 5 (Sent 19 1 (messages.Decision (tx 0 1) (outcomes.Committed (stamp 1 0)))) ∷
    marked 5 (Sent 20 2 (messages.Decision (tx 0 1) (outcomes.Committed (stamp 1 0)))) ∷
    marked 5 (Told (replies.Committed (stamp 1 0))) ∷ marked 1 (Got 19) ∷ marked 2 (Got 20) ∷
    marked 2 (Wrote (records.Done (tx 0 1) 1)) ∷ marked 1 (Wrote (records.Done (tx 0 1) 1)) ∷ marked 0 (Got 18) ∷
    marked 0 (Wrote (records.Done (tx 0 1) 1)) ∷ marked 7 (Phase 2) ∷ marked 5 (Called commands.Begin) ∷
    marked 5 (Told (replies.Began (tx 0 2))) ∷ marked 5 (Called (commands.Do 1 0)) ∷
    marked 5 (Sent 21 0 (messages.Request (tx 0 2) 1 0 (wants.Read (first_read 1 0)))) ∷
    marked 5 (Sent 22 1 (messages.Request (tx 0 2) 1 0 (wants.Read (first_read 1 0)))) ∷
    marked 5 (Sent 23 2 (messages.Request (tx 0 2) 1 0 (wants.Read (first_read 1 0)))) ∷ marked 0 (Got 21)
    ∷ marked 2 (Got 23) ∷
    marked 0 (Sent 24 5 (messages.Answer 21 (answers.Granted (whole_grant 1 1 (line 1 0 1 1 1 3 ∷ [])))))
    ∷ marked 5 (Got 24) ∷
    marked 1 (Got 22)
    ∷ marked 1 (Sent 25 5 (messages.Answer 22 (answers.Granted (whole_grant 1 1 (line 1 0 1 1 1 3 ∷ []))))) ∷
    marked 5 (Got 25)
    ∷ marked 2 (Sent 26 5 (messages.Answer 23 (answers.Granted (whole_grant 1 1 (line 1 0 1 1 1 3 ∷ []))))) ∷
    marked 5 (Got 26) ∷
    marked 5 (Sent 27 0 (messages.Request (tx 0 2) 1 1 (wants.Append 1 (line 1 0 1 1 1 3 ∷ []) (own_line 1 1 7 ∷ []))))
    ∷
    marked 5 (Sent 28 1 (messages.Request (tx 0 2) 1 1 (wants.Append 1 (line 1 0 1 1 1 3 ∷ []) (own_line 1 1 7 ∷ []))))
    ∷
    marked 5 (Sent 29 2 (messages.Request (tx 0 2) 1 1 (wants.Append 1 (line 1 0 1 1 1 3 ∷ []) (own_line 1 1 7 ∷ []))))
    ∷
    marked 5 (Lost 27) ∷ marked 5 (Lost 28) ∷ marked 5 (Lost 29) ∷
    marked 5 (Sent 30 3 (messages.Request (tx 0 2) 1 0 (wants.Append 1 (line 1 0 1 1 1 3 ∷ []) (own_line 1 1 7 ∷ []))))
    ∷
    marked 3 (Got 30) ∷ marked 3 (Sent 31 5 (messages.Answer 30 (answers.Granted (whole_grant 1 1 []))))
    ∷ marked 5 (Got 31) ∷
    marked 5 (Sent 32 4 (messages.Request (tx 0 2) 1 0 (wants.Append 1 (line 1 0 1 1 1 3 ∷ []) (own_line 1 1 7 ∷ []))))
    ∷
    marked 4 (Got 32) ∷ marked 4 (Sent 33 5 (messages.Answer 32 (answers.Granted (whole_grant 1 1 []))))
    ∷ marked 5 (Got 33) ∷
    marked 5 (Told (replies.Quorum halves.Append 2 5)) ∷ marked 5 (Called commands.Commit) ∷
    marked 5 (Sent 34 0 (messages.Decision (tx 0 2) outcomes.Aborted)) ∷
    marked 5 (Sent 35 1 (messages.Decision (tx 0 2) outcomes.Aborted)) ∷
    marked 5 (Sent 36 2 (messages.Decision (tx 0 2) outcomes.Aborted)) ∷
    marked 5 (Sent 37 3 (messages.Decision (tx 0 2) outcomes.Aborted)) ∷
    marked 5 (Sent 38 4 (messages.Decision (tx 0 2) outcomes.Aborted)) ∷
    marked 5 (Told (replies.Aborted causes.Doomed)) ∷ marked 0 (Got 34) ∷ marked 2 (Got 36) ∷ marked 4 (Got 38) ∷
    marked 3 (Got 37) ∷ marked 1 (Got 35) ∷ marked 7 (Phase 3) ∷ marked 1 (Got 28) ∷ marked 5 (Called commands.Begin) ∷
    marked 5 (Told (replies.Began (tx 0 3))) ∷ marked 5 (Called (commands.Do 1 1)) ∷ marked 0 (Got 27) ∷
    marked 0 (Sent 39 5 (messages.Answer 27 (answers.Granted (whole_grant 1 1 [])))) ∷
    marked 5 (Sent 40 0 (messages.Request (tx 0 3) 1 0 (wants.Read (first_read 1 1)))) ∷
    marked 5 (Sent 41 1 (messages.Request (tx 0 3) 1 0 (wants.Read (first_read 1 1)))) ∷
    marked 5 (Sent 42 2 (messages.Request (tx 0 3) 1 0 (wants.Read (first_read 1 1)))) ∷ marked 0 (Got 40) ∷
    marked 0 (Sent 43 5 (messages.Answer 40 (answers.Clash (tx 0 2) 1 7))) ∷
    marked 0 (Sent 44 5 (messages.Inquiry (tx 0 2))) ∷ marked 5 (Got 39) ∷
    marked 1 (Sent 45 5 (messages.Answer 28 (answers.Granted (whole_grant 1 1 [])))) ∷ marked 1 (Got 41)
    ∷ marked 5 (Got 44) ∷
    marked 5 (Sent 46 0 (messages.Decision (tx 0 2) outcomes.Aborted)) ∷ marked 5 (Got 45) ∷ marked 0 (Got 46) ∷
    marked 5 (Lost 40) ∷ marked 1 (Sent 47 5 (messages.Answer 41 (answers.Clash (tx 0 2) 1 7))) ∷
    marked 1 (Sent 48 5 (messages.Inquiry (tx 0 2))) ∷ marked 5 (Got 48) ∷
    marked 5 (Sent 49 1 (messages.Decision (tx 0 2) outcomes.Aborted)) ∷ marked 1 (Got 49) ∷ marked 5 (Lost 41) ∷
    marked 2 (Got 29) ∷ marked 2 (Sent 50 5 (messages.Answer 29 (answers.Granted (whole_grant 1 1 []))))
    ∷ marked 5 (Got 50) ∷
    marked 2 (Got 42) ∷ marked 2 (Sent 51 5 (messages.Answer 42 (answers.Clash (tx 0 2) 1 7))) ∷
    marked 2 (Sent 52 5 (messages.Inquiry (tx 0 2))) ∷ marked 5 (Got 52) ∷
    marked 5 (Sent 53 2 (messages.Decision (tx 0 2) outcomes.Aborted)) ∷ marked 5 (Lost 42) ∷
    marked 5 (Sent 54 3 (messages.Request (tx 0 3) 1 0 (wants.Read (first_read 1 1)))) ∷ marked 3 (Got 54) ∷
    marked 3 (Sent 55 5 (messages.Answer 54 (answers.Granted (whole_grant 1 1 (line 1 0 1 1 1 3 ∷ [])))))
    ∷ marked 5 (Got 55) ∷
    marked 5 (Sent 56 4 (messages.Request (tx 0 3) 1 0 (wants.Read (first_read 1 1)))) ∷ marked 2 (Got 53)
    ∷ marked 4 (Got 56) ∷
    marked 4 (Sent 57 5 (messages.Answer 56 (answers.Granted (whole_grant 1 1 (line 1 0 1 1 1 3 ∷ [])))))
    ∷ marked 5 (Got 57) ∷
    marked 5 (Told (replies.Quorum halves.Read 2 5)) ∷ marked 5 (Called commands.Commit) ∷
    marked 5 (Sent 58 3 (messages.Request (tx 0 3) 1 1 wants.Prepare)) ∷
    marked 5 (Sent 59 4 (messages.Request (tx 0 3) 1 1 wants.Prepare)) ∷ marked 3 (Got 58) ∷ marked 4 (Got 59) ∷
    marked 3 (Wrote (prepare (tx 0 3) 1 (read_lock 1 1 ∷ []) [] (line 1 0 1 1 1 3 ∷ []))) ∷
    marked 3 (Sent 60 5 (messages.Answer 58 (answers.Yes 1))) ∷ marked 5 (Got 60) ∷
    marked 4 (Wrote (prepare (tx 0 3) 1 (read_lock 1 1 ∷ []) [] (line 1 0 1 1 1 3 ∷ []))) ∷
    marked 4 (Sent 61 5 (messages.Answer 59 (answers.Yes 1))) ∷ marked 5 (Got 61) ∷
    marked 5 (Wrote (commit (stamp 2 0) (tx 0 3) [])) ∷
    marked 5 (Sent 62 0 (messages.Decision (tx 0 3) (outcomes.Committed (stamp 2 0)))) ∷
    marked 5 (Sent 63 1 (messages.Decision (tx 0 3) (outcomes.Committed (stamp 2 0)))) ∷
    marked 5 (Sent 64 2 (messages.Decision (tx 0 3) (outcomes.Committed (stamp 2 0)))) ∷
    marked 5 (Sent 65 3 (messages.Decision (tx 0 3) (outcomes.Committed (stamp 2 0)))) ∷
    marked 5 (Sent 66 4 (messages.Decision (tx 0 3) (outcomes.Committed (stamp 2 0)))) ∷
    marked 5 (Told (replies.Committed (stamp 2 0))) ∷ marked 0 (Got 62) ∷ marked 4 (Got 66) ∷ marked 1 (Got 63) ∷
    marked 3 (Got 65) ∷ marked 3 (Wrote (records.Done (tx 0 3) 2)) ∷ marked 4 (Wrote (records.Done (tx 0 3) 2)) ∷
    marked 2 (Got 64) ∷ marked 7 (Phase 4) ∷ marked 1 (Got 41) ∷ marked 0 (Got 40) ∷ marked 2 (Got 42) ∷
    marked 2 (Sent 67 5 (messages.Answer 42 (answers.Granted (whole_grant 1 2 (line 1 0 1 1 1 3 ∷ []))))) ∷
    marked 0 (Sent 68 5 (messages.Answer 40 (answers.Granted (whole_grant 1 2 (line 1 0 1 1 1 3 ∷ [])))))
    ∷ marked 5 (Got 43) ∷
    marked 5 (Got 47) ∷ marked 5 (Got 51) ∷
    marked 1 (Sent 69 5 (messages.Answer 41 (answers.Granted (whole_grant 1 2 (line 1 0 1 1 1 3 ∷ [])))))
    ∷ marked 5 (Got 67) ∷
    marked 5 (Got 68) ∷ marked 5 (Got 69) ∷ marked 5 (Called commands.Begin) ∷
    marked 5 (Told (replies.Began (tx 0 4))) ∷ marked 5 (Called (commands.Do 1 0)) ∷
    marked 5 (Sent 70 0 (messages.Request (tx 0 4) 1 0 (wants.Read (first_read 1 0)))) ∷
    marked 5 (Sent 71 1 (messages.Request (tx 0 4) 1 0 (wants.Read (first_read 1 0)))) ∷
    marked 5 (Sent 72 2 (messages.Request (tx 0 4) 1 0 (wants.Read (first_read 1 0)))) ∷ marked 1 (Got 71)
    ∷ marked 2 (Got 72) ∷
    marked 2 (Sent 73 5 (messages.Answer 72 (answers.Granted (whole_grant 1 2 (line 1 0 1 1 1 3 ∷ [])))))
    ∷ marked 0 (Got 70) ∷
    marked 0 (Sent 74 5 (messages.Answer 70 (answers.Granted (whole_grant 1 2 (line 1 0 1 1 1 3 ∷ [])))))
    ∷ marked 5 (Got 73) ∷
    marked 5 (Got 74)
    ∷ marked 1 (Sent 75 5 (messages.Answer 71 (answers.Granted (whole_grant 1 2 (line 1 0 1 1 1 3 ∷ []))))) ∷
    marked 5 (Got 75) ∷
    marked 5 (Sent 76 0 (messages.Request (tx 0 4) 1 1 (wants.Append 1 (line 1 0 1 1 1 3 ∷ []) (own_line 1 1 7 ∷ []))))
    ∷
    marked 5 (Sent 77 1 (messages.Request (tx 0 4) 1 1 (wants.Append 1 (line 1 0 1 1 1 3 ∷ []) (own_line 1 1 7 ∷ []))))
    ∷
    marked 5 (Sent 78 2 (messages.Request (tx 0 4) 1 1 (wants.Append 1 (line 1 0 1 1 1 3 ∷ []) (own_line 1 1 7 ∷ []))))
    ∷
    marked 1 (Got 77) ∷ marked 0 (Got 76) ∷ marked 0 (Sent 79 5 (messages.Answer 76 (answers.Clash (tx 0 3) 1 7))) ∷
    marked 0 (Sent 80 5 (messages.Inquiry (tx 0 3))) ∷ marked 2 (Got 78) ∷
    marked 2 (Sent 81 5 (messages.Answer 78 (answers.Clash (tx 0 3) 1 7))) ∷
    marked 2 (Sent 82 5 (messages.Inquiry (tx 0 3))) ∷
    marked 1 (Sent 83 5 (messages.Answer 77 (answers.Clash (tx 0 3) 1 7))) ∷
    marked 1 (Sent 84 5 (messages.Inquiry (tx 0 3))) ∷ marked 5 (Got 79) ∷ marked 5 (Got 80) ∷
    marked 5 (Sent 85 0 (messages.Decision (tx 0 3) (outcomes.Committed (stamp 2 0)))) ∷ marked 0 (Got 85) ∷
    marked 5 (Got 81) ∷ marked 5 (Got 82) ∷
    marked 5 (Sent 86 2 (messages.Decision (tx 0 3) (outcomes.Committed (stamp 2 0)))) ∷ marked 2 (Got 86) ∷
    marked 5 (Got 83) ∷ marked 5 (Told (replies.Conflict (tx 0 3) 0)) ∷ marked 5 (Got 84) ∷
    marked 5 (Sent 87 1 (messages.Decision (tx 0 3) (outcomes.Committed (stamp 2 0)))) ∷ marked 1 (Got 87) ∷
    marked 5 (Called (commands.Do 0 0)) ∷ marked 5 (Told replies.Doomed) ∷ []
