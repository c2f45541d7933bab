-- Random: sites 4, clients 1, steps 245, messages 84, lost 3, cuts 1, commits 5, aborts 2, short rounds 1, absent 1.
use Rattle.std.specs.Prelude.{List, [], ◌∷◌, Some}
use Rattle.qc_decl.specs.declared.declaration.Declaration.{Declaration}
use Rattle.qc_decl.specs.Vocabulary.{row}
use Rattle.qc_msg.specs.Vocabulary.{Entry, marked}
use Rattle.tests_histories.specs.Play.{Move, Takes, Posts, Acts}
use Rattle.tests_histories.specs.Words.{tx, stamp, line, own_line, operation, read_lock, prepare, commit, declaration}
use Rattle.tests_histories.specs.Words.{kind, pair, plan}
use Rattle.qc_msg.specs.declared.step.Step.TheVariants.{Phase, Cut, Heal, Called, Got, Lost, Wrote, Sent, Told}
use Rattle.qc_msg.specs.declared.message.Answer.TheVariants as answers
use Rattle.qc_msg.specs.declared.reply.AbortCause.TheVariants as causes
use Rattle.qc_msg.specs.declared.step.Command.TheVariants as commands
use Rattle.qc_msg.specs.declared.reply.Half.TheVariants as halves
use Rattle.qc_msg.specs.declared.message.Message.TheVariants as messages
use Rattle.qc_msg.specs.declared.message.Outcome.TheVariants as outcomes
use Rattle.qc_msg.specs.declared.record.Record.TheVariants as records
use Rattle.qc_msg.specs.declared.reply.Reply.TheVariants as replies
use Rattle.qc_msg.specs.declared.message.Want.TheVariants as wants
use Rattle.qc_msg.specs.Vocabulary.{whole_grant, first_read}

abbrev pub decl : Declaration
decl =
    declaration 4 1 (kind 2 2 2 0 (row 0 0 0 1 ∷ row 1 1 1 0 ∷ []) (pair 0 0 ∷ pair 0 1 ∷ pair 1 0 ∷ pair 1 1 ∷ []) ∷
    kind 2 2 3 0 (row 0 0 0 1 ∷ row 1 0 1 1 ∷ row 0 1 2 0 ∷ row 1 1 2 0 ∷ []) (pair 0 0 ∷ pair 0 2 ∷ []) ∷ []) (0 ∷ 1 ∷
    []) (plan (1 ∷ 1 ∷ 1 ∷ 1 ∷ []) ((3 ∷ 3 ∷ []) ∷ (4 ∷ 0 ∷ []) ∷ []) ((4 ∷ 2 ∷ []) ∷ (1 ∷ 0 ∷ 1 ∷ []) ∷ []) ∷ [])

abbrev pub moves : List Move
moves =
    Acts (Phase 1) ∷ Acts (Cut 0 4) ∷ Takes 4 (Called commands.Begin) ∷ Posts 4 ∷ Takes 4 (Called commands.Commit) ∷
    Posts 4 ∷ Acts (Phase 2) ∷ Takes 4 (Called commands.Begin) ∷ Posts 4 ∷ Takes 4 (Called (commands.Do 0 0)) ∷
    Posts 4 ∷ Takes 1 (Got 1) ∷ Posts 1 ∷ Takes 2 (Got 2) ∷ Posts 2 ∷ Takes 4 (Got 3) ∷ Posts 4 ∷ Takes 4 (Got 4) ∷
    Posts 4 ∷ Takes 4 (Lost 0) ∷ Posts 4 ∷ Takes 3 (Got 5) ∷ Posts 3 ∷ Takes 4 (Got 6) ∷ Posts 4 ∷ Takes 1 (Got 8) ∷
    Posts 1 ∷ Takes 2 (Got 9) ∷ Posts 2 ∷ Takes 3 (Got 10) ∷ Posts 3 ∷ Takes 4 (Got 11) ∷ Posts 4 ∷ Takes 4 (Got 12) ∷
    Posts 4 ∷ Takes 4 (Got 13) ∷ Posts 4 ∷ Takes 4 (Lost 7) ∷ Posts 4 ∷ Takes 4 (Called (commands.Do 0 0)) ∷ Posts 4 ∷
    Takes 4 (Called (commands.Do 0 0)) ∷ Posts 4 ∷ Takes 4 (Called commands.Commit) ∷ Posts 4 ∷ Takes 1 (Got 15) ∷
    Posts 1 ∷ Takes 2 (Got 16) ∷ Posts 2 ∷ Takes 3 (Got 17) ∷ Posts 3 ∷ Acts (Phase 3) ∷ Acts (Heal 0 4) ∷
    Takes 4 (Called commands.Begin) ∷ Posts 4 ∷ Takes 4 (Called commands.Commit) ∷ Posts 4 ∷
    Takes 4 (Called commands.Begin) ∷ Posts 4 ∷ Takes 4 (Called (commands.Do 1 0)) ∷ Posts 4 ∷ Takes 0 (Got 18) ∷
    Posts 0 ∷ Takes 1 (Got 19) ∷ Posts 1 ∷ Takes 2 (Got 20) ∷ Posts 2 ∷ Takes 3 (Got 21) ∷ Posts 3 ∷ Takes 4 (Got 22) ∷
    Posts 4 ∷ Takes 4 (Got 23) ∷ Posts 4 ∷ Takes 4 (Got 24) ∷ Posts 4 ∷ Takes 4 (Got 25) ∷ Posts 4 ∷ Takes 0 (Got 26) ∷
    Posts 0 ∷ Takes 4 (Got 27) ∷ Posts 4 ∷ Takes 4 (Called commands.Commit) ∷ Posts 4 ∷ Takes 0 (Got 28) ∷ Posts 0 ∷
    Takes 1 (Got 29) ∷ Posts 1 ∷ Takes 2 (Got 30) ∷ Posts 2 ∷ Takes 3 (Got 31) ∷ Posts 3 ∷ Takes 4 (Got 32) ∷ Posts 4 ∷
    Takes 4 (Got 33) ∷ Posts 4 ∷ Takes 4 (Got 34) ∷ Posts 4 ∷ Takes 4 (Got 35) ∷ Posts 4 ∷ Takes 0 (Got 36) ∷ Posts 0 ∷
    Takes 1 (Got 37) ∷ Posts 1 ∷ Takes 2 (Got 38) ∷ Posts 2 ∷ Takes 3 (Got 39) ∷ Posts 3 ∷ Acts (Phase 4) ∷
    Takes 4 (Called commands.Begin) ∷ Posts 4 ∷ Takes 4 (Called (commands.Do 0 1)) ∷ Posts 4 ∷ Takes 0 (Got 40) ∷
    Posts 0 ∷ Takes 1 (Got 41) ∷ Posts 1 ∷ Takes 2 (Got 42) ∷ Posts 2 ∷ Takes 4 (Got 43) ∷ Posts 4 ∷ Takes 4 (Got 44) ∷
    Posts 4 ∷ Takes 4 (Got 45) ∷ Posts 4 ∷ Takes 4 (Called (commands.Do 1 1)) ∷ Posts 4 ∷ Takes 0 (Got 46) ∷ Posts 0 ∷
    Takes 4 (Got 47) ∷ Posts 4 ∷ Takes 4 (Called commands.Commit) ∷ Posts 4 ∷ Takes 0 (Got 48) ∷ Posts 0 ∷
    Takes 1 (Got 49) ∷ Posts 1 ∷ Takes 4 (Got 51) ∷ Posts 4 ∷ Takes 4 (Got 52) ∷ Posts 4 ∷ Takes 4 (Lost 50) ∷ Posts 4 ∷
    Takes 0 (Got 53) ∷ Posts 0 ∷ Takes 1 (Got 54) ∷ Posts 1 ∷ Takes 2 (Got 55) ∷ Posts 2 ∷ Acts (Phase 5) ∷
    Takes 2 (Got 50) ∷ Posts 2 ∷ Takes 4 (Got 56) ∷ Posts 4 ∷ Takes 4 (Called commands.Begin) ∷ Posts 4 ∷
    Takes 4 (Called (commands.Do 1 1)) ∷ Posts 4 ∷ Takes 0 (Got 57) ∷ Posts 0 ∷ Takes 4 (Got 58) ∷ Posts 4 ∷
    Takes 4 (Called commands.Commit) ∷ Posts 4 ∷ Takes 0 (Got 59) ∷ Posts 0 ∷ Takes 4 (Got 60) ∷ Posts 4 ∷
    Takes 0 (Got 61) ∷ Posts 0 ∷ Acts (Phase 6) ∷ Takes 4 (Called commands.Begin) ∷ Posts 4 ∷
    Takes 4 (Called (commands.Do 1 0)) ∷ Posts 4 ∷ Takes 0 (Got 62) ∷ Posts 0 ∷ Takes 1 (Got 63) ∷ Posts 1 ∷
    Takes 2 (Got 64) ∷ Posts 2 ∷ Takes 3 (Got 65) ∷ Posts 3 ∷ Takes 4 (Got 66) ∷ Posts 4 ∷ Takes 4 (Got 67) ∷ Posts 4 ∷
    Takes 4 (Got 68) ∷ Posts 4 ∷ Takes 4 (Got 69) ∷ Posts 4 ∷ Takes 0 (Got 70) ∷ Posts 0 ∷ Takes 4 (Got 71) ∷ Posts 4 ∷
    Takes 4 (Called commands.Commit) ∷ Posts 4 ∷ Takes 0 (Got 72) ∷ Posts 0 ∷ Takes 1 (Got 73) ∷ Posts 1 ∷
    Takes 2 (Got 74) ∷ Posts 2 ∷ Takes 3 (Got 75) ∷ Posts 3 ∷ Takes 4 (Got 76) ∷ Posts 4 ∷ Takes 4 (Got 77) ∷ Posts 4 ∷
    Takes 4 (Got 78) ∷ Posts 4 ∷ Takes 4 (Got 79) ∷ Posts 4 ∷ Takes 0 (Got 80) ∷ Posts 0 ∷ Takes 1 (Got 81) ∷ Posts 1 ∷
    Takes 2 (Got 82) ∷ Posts 2 ∷ Takes 3 (Got 83) ∷ Posts 3 ∷ []

abbrev pub history : List Entry
history =
    marked 6 (Phase 1) ∷ marked 6 (Cut 0 4) ∷ marked 4 (Called commands.Begin) ∷
    marked 4 (Told (replies.Began (tx 0 1))) ∷ marked 4 (Called commands.Commit) ∷
    marked 4 (Wrote (commit (stamp 1 0) (tx 0 1) [])) ∷ marked 4 (Told (replies.Committed (stamp 1 0))) ∷
    marked 6 (Phase 2) ∷ marked 4 (Called commands.Begin) ∷ marked 4 (Told (replies.Began (tx 0 2))) ∷
    marked 4 (Called (commands.Do 0 0)) ∷
    marked 4 (Sent 0 0 (messages.Request (tx 0 2) 1 0 (wants.Read (first_read 0 0))))
    ∷
    marked 4 (Sent 1 1 (messages.Request (tx 0 2) 1 0 (wants.Read (first_read 0 0)))) ∷
    marked 4 (Sent 2 2 (messages.Request (tx 0 2) 1 0 (wants.Read (first_read 0 0)))) ∷ marked 1 (Got 1) ∷
    marked 1 (Sent 3 4 (messages.Answer 1 (answers.Granted (whole_grant 1 0 [])))) ∷ marked 2 (Got 2) ∷
    marked 2 (Sent 4 4 (messages.Answer 2 (answers.Granted (whole_grant 1 0 [])))) ∷ marked 4 (Got 3) ∷ marked 4 (Got 4)
    ∷
    marked 4 (Lost 0) ∷ marked 4 (Sent 5 3 (messages.Request (tx 0 2) 1 0 (wants.Read (first_read 0 0))))
    ∷ marked 3 (Got 5) ∷
    marked 3 (Sent 6 4 (messages.Answer 5 (answers.Granted (whole_grant 1 0 [])))) ∷ marked 4 (Got 6) ∷
    marked 4 (Sent 7 0 (messages.Request (tx 0 2) 1 0 (wants.Append 0 [] (own_line 1 0 0 ∷ [])))) ∷
    marked 4 (Sent 8 1 (messages.Request (tx 0 2) 1 1 (wants.Append 0 [] (own_line 1 0 0 ∷ [])))) ∷
    marked 4 (Sent 9 2 (messages.Request (tx 0 2) 1 1 (wants.Append 0 [] (own_line 1 0 0 ∷ [])))) ∷
    marked 4 (Sent 10 3 (messages.Request (tx 0 2) 1 1 (wants.Append 0 [] (own_line 1 0 0 ∷ [])))) ∷ marked 1 (Got 8) ∷
    marked 1 (Sent 11 4 (messages.Answer 8 (answers.Granted (whole_grant 1 0 [])))) ∷ marked 2 (Got 9) ∷
    marked 2 (Sent 12 4 (messages.Answer 9 (answers.Granted (whole_grant 1 0 [])))) ∷ marked 3 (Got 10) ∷
    marked 3 (Sent 13 4 (messages.Answer 10 (answers.Granted (whole_grant 1 0 [])))) ∷ marked 4 (Got 11)
    ∷ marked 4 (Got 12) ∷
    marked 4 (Got 13) ∷ marked 4 (Lost 7) ∷ marked 4 (Told (replies.Quorum halves.Append 3 4)) ∷
    marked 4 (Called (commands.Do 0 0)) ∷ marked 4 (Told replies.Doomed) ∷ marked 4 (Called (commands.Do 0 0)) ∷
    marked 4 (Told replies.Doomed) ∷ marked 4 (Called commands.Commit) ∷
    marked 4 (Sent 14 0 (messages.Decision (tx 0 2) outcomes.Aborted)) ∷
    marked 4 (Sent 15 1 (messages.Decision (tx 0 2) outcomes.Aborted)) ∷
    marked 4 (Sent 16 2 (messages.Decision (tx 0 2) outcomes.Aborted)) ∷
    marked 4 (Sent 17 3 (messages.Decision (tx 0 2) outcomes.Aborted)) ∷
    marked 4 (Told (replies.Aborted causes.Doomed)) ∷ marked 1 (Got 15) ∷ marked 2 (Got 16) ∷ marked 3 (Got 17) ∷
    marked 6 (Phase 3) ∷ marked 6 (Heal 0 4) ∷ marked 4 (Called commands.Begin) ∷
    marked 4 (Told (replies.Began (tx 0 3))) ∷ marked 4 (Called commands.Commit) ∷
    marked 4 (Wrote (commit (stamp 2 0) (tx 0 3) [])) ∷ marked 4 (Told (replies.Committed (stamp 2 0))) ∷
    marked 4 (Called commands.Begin) ∷ marked 4 (Told (replies.Began (tx 0 4))) ∷ marked 4 (Called (commands.Do 1 0)) ∷
    marked 4 (Sent 18 0 (messages.Request (tx 0 4) 1 0 (wants.Read (first_read 1 0)))) ∷
    marked 4 (Sent 19 1 (messages.Request (tx 0 4) 1 0 (wants.Read (first_read 1 0)))) ∷
    marked 4 (Sent 20 2 (messages.Request (tx 0 4) 1 0 (wants.Read (first_read 1 0)))) ∷
    marked 4 (Sent 21 3 (messages.Request (tx 0 4) 1 0 (wants.Read (first_read 1 0)))) ∷ marked 0 (Got 18) ∷
    marked 0 (Sent 22 4 (messages.Answer 18 (answers.Granted (whole_grant 1 0 [])))) ∷ marked 1 (Got 19) ∷
    marked 1 (Sent 23 4 (messages.Answer 19 (answers.Granted (whole_grant 1 0 [])))) ∷ marked 2 (Got 20) ∷
    marked 2 (Sent 24 4 (messages.Answer 20 (answers.Granted (whole_grant 1 0 [])))) ∷ marked 3 (Got 21) ∷
    marked 3 (Sent 25 4 (messages.Answer 21 (answers.Granted (whole_grant 1 0 [])))) ∷ marked 4 (Got 22)
    ∷ marked 4 (Got 23) ∷
    marked 4 (Got 24) ∷ marked 4 (Got 25) ∷
    marked 4 (Sent 26 0 (messages.Request (tx 0 4) 1 1 (wants.Append 1 [] (own_line 1 1 0 ∷ [])))) ∷ marked 0 (Got 26) ∷
    marked 0 (Sent 27 4 (messages.Answer 26 (answers.Granted (whole_grant 1 0 [])))) ∷ marked 4 (Got 27) ∷
    marked 4 (Told (replies.Response 0)) ∷ marked 4 (Called commands.Commit) ∷
    marked 4 (Sent 28 0 (messages.Request (tx 0 4) 1 1 wants.Prepare)) ∷
    marked 4 (Sent 29 1 (messages.Request (tx 0 4) 1 1 wants.Prepare)) ∷
    marked 4 (Sent 30 2 (messages.Request (tx 0 4) 1 1 wants.Prepare)) ∷
    marked 4 (Sent 31 3 (messages.Request (tx 0 4) 1 1 wants.Prepare)) ∷ marked 0 (Got 28) ∷
    marked 0 (Wrote (prepare (tx 0 4) 1 (read_lock 1 0 ∷ []) (own_line 1 1 0 ∷ []) [])) ∷
    marked 0 (Sent 32 4 (messages.Answer 28 (answers.Yes 0))) ∷ marked 1 (Got 29) ∷
    marked 1 (Wrote (prepare (tx 0 4) 1 (read_lock 1 0 ∷ []) [] [])) ∷
    marked 1 (Sent 33 4 (messages.Answer 29 (answers.Yes 0))) ∷ marked 2 (Got 30) ∷
    marked 2 (Wrote (prepare (tx 0 4) 1 (read_lock 1 0 ∷ []) [] [])) ∷
    marked 2 (Sent 34 4 (messages.Answer 30 (answers.Yes 0))) ∷ marked 3 (Got 31) ∷
    marked 3 (Wrote (prepare (tx 0 4) 1 (read_lock 1 0 ∷ []) [] [])) ∷
    marked 3 (Sent 35 4 (messages.Answer 31 (answers.Yes 0))) ∷ marked 4 (Got 32) ∷ marked 4 (Got 33) ∷
    marked 4 (Got 34) ∷ marked 4 (Got 35) ∷
    marked 4 (Wrote (commit (stamp 3 0) (tx 0 4) (operation 1 0 (Some 0) ∷ []))) ∷
    marked 4 (Sent 36 0 (messages.Decision (tx 0 4) (outcomes.Committed (stamp 3 0)))) ∷
    marked 4 (Sent 37 1 (messages.Decision (tx 0 4) (outcomes.Committed (stamp 3 0)))) ∷
    marked 4 (Sent 38 2 (messages.Decision (tx 0 4) (outcomes.Committed (stamp 3 0)))) ∷
    marked 4 (Sent 39 3 (messages.Decision (tx 0 4) (outcomes.Committed (stamp 3 0)))) ∷
    marked 4 (Told (replies.Committed (stamp 3 0))) ∷ marked 0 (Got 36) ∷ marked 0 (Wrote (records.Done (tx 0 4) 3)) ∷
    marked 1 (Got 37) ∷ marked 1 (Wrote (records.Done (tx 0 4) 3)) ∷ marked 2 (Got 38) ∷
    marked 2 (Wrote (records.Done (tx 0 4) 3)) ∷ marked 3 (Got 39) ∷ marked 3 (Wrote (records.Done (tx 0 4) 3)) ∷
    marked 6 (Phase 4) ∷ marked 4 (Called commands.Begin) ∷ marked 4 (Told (replies.Began (tx 0 5))) ∷
    marked 4 (Called (commands.Do 0 1))
    ∷ marked 4 (Sent 40 0 (messages.Request (tx 0 5) 1 0 (wants.Read (first_read 0 1)))) ∷
    marked 4 (Sent 41 1 (messages.Request (tx 0 5) 1 0 (wants.Read (first_read 0 1)))) ∷
    marked 4 (Sent 42 2 (messages.Request (tx 0 5) 1 0 (wants.Read (first_read 0 1)))) ∷ marked 0 (Got 40) ∷
    marked 0 (Sent 43 4 (messages.Answer 40 (answers.Granted (whole_grant 1 3 [])))) ∷ marked 1 (Got 41) ∷
    marked 1 (Sent 44 4 (messages.Answer 41 (answers.Granted (whole_grant 1 3 [])))) ∷ marked 2 (Got 42) ∷
    marked 2 (Sent 45 4 (messages.Answer 42 (answers.Granted (whole_grant 1 3 [])))) ∷ marked 4 (Got 43)
    ∷ marked 4 (Got 44) ∷
    marked 4 (Got 45) ∷ marked 4 (Told replies.Absent) ∷ marked 4 (Called (commands.Do 1 1)) ∷
    marked 4 (Sent 46 0 (messages.Request (tx 0 5) 1 1 (wants.Append 1 [] (own_line 2 1 2 ∷ [])))) ∷ marked 0 (Got 46) ∷
    marked 0 (Sent 47 4 (messages.Answer 46 (answers.Granted (whole_grant 1 3 [])))) ∷ marked 4 (Got 47) ∷
    marked 4 (Told (replies.Response 2)) ∷ marked 4 (Called commands.Commit) ∷
    marked 4 (Sent 48 0 (messages.Request (tx 0 5) 1 1 wants.Prepare)) ∷
    marked 4 (Sent 49 1 (messages.Request (tx 0 5) 1 1 wants.Prepare)) ∷
    marked 4 (Sent 50 2 (messages.Request (tx 0 5) 1 1 wants.Prepare)) ∷ marked 0 (Got 48) ∷
    marked 0 (Wrote (prepare (tx 0 5) 1 (read_lock 0 1 ∷ []) (own_line 2 1 2 ∷ []) [])) ∷
    marked 0 (Sent 51 4 (messages.Answer 48 (answers.Yes 3))) ∷ marked 1 (Got 49) ∷
    marked 1 (Wrote (prepare (tx 0 5) 1 (read_lock 0 1 ∷ []) [] [])) ∷
    marked 1 (Sent 52 4 (messages.Answer 49 (answers.Yes 3))) ∷ marked 4 (Got 51) ∷ marked 4 (Got 52) ∷
    marked 4 (Lost 50) ∷ marked 4 (Sent 53 0 (messages.Decision (tx 0 5) outcomes.Aborted)) ∷
    marked 4 (Sent 54 1 (messages.Decision (tx 0 5) outcomes.Aborted)) ∷
    marked 4 (Sent 55 2 (messages.Decision (tx 0 5) outcomes.Aborted)) ∷
    marked 4 (Told (replies.Aborted (causes.NoAnswer 2))) ∷ marked 0 (Got 53) ∷ marked 1 (Got 54) ∷ marked 2 (Got 55) ∷
    marked 6 (Phase 5) ∷ marked 2 (Got 50) ∷ marked 2 (Sent 56 4 (messages.Answer 50 answers.Stale)) ∷
    marked 4 (Got 56) ∷ marked 4 (Called commands.Begin) ∷ marked 4 (Told (replies.Began (tx 0 6))) ∷
    marked 4 (Called (commands.Do 1 1)) ∷
    marked 4 (Sent 57 0 (messages.Request (tx 0 6) 1 0 (wants.Append 1 [] (own_line 1 1 2 ∷ [])))) ∷ marked 0 (Got 57) ∷
    marked 0 (Sent 58 4 (messages.Answer 57 (answers.Granted (whole_grant 1 3 [])))) ∷ marked 4 (Got 58) ∷
    marked 4 (Told (replies.Response 2)) ∷ marked 4 (Called commands.Commit) ∷
    marked 4 (Sent 59 0 (messages.Request (tx 0 6) 1 1 wants.Prepare)) ∷ marked 0 (Got 59) ∷
    marked 0 (Wrote (prepare (tx 0 6) 1 [] (own_line 1 1 2 ∷ []) [])) ∷
    marked 0 (Sent 60 4 (messages.Answer 59 (answers.Yes 3))) ∷ marked 4 (Got 60) ∷
    marked 4 (Wrote (commit (stamp 4 0) (tx 0 6) (operation 1 1 (Some 2) ∷ []))) ∷
    marked 4 (Sent 61 0 (messages.Decision (tx 0 6) (outcomes.Committed (stamp 4 0)))) ∷
    marked 4 (Told (replies.Committed (stamp 4 0))) ∷ marked 0 (Got 61) ∷ marked 0 (Wrote (records.Done (tx 0 6) 4)) ∷
    marked 6 (Phase 6) ∷ marked 4 (Called commands.Begin) ∷ marked 4 (Told (replies.Began (tx 0 7))) ∷
    marked 4 (Called (commands.Do 1 0))
    ∷ marked 4 (Sent 62 0 (messages.Request (tx 0 7) 1 0 (wants.Read (first_read 1 0)))) ∷
    marked 4 (Sent 63 1 (messages.Request (tx 0 7) 1 0 (wants.Read (first_read 1 0)))) ∷
    marked 4 (Sent 64 2 (messages.Request (tx 0 7) 1 0 (wants.Read (first_read 1 0)))) ∷
    marked 4 (Sent 65 3 (messages.Request (tx 0 7) 1 0 (wants.Read (first_read 1 0)))) ∷ marked 0 (Got 62) ∷
    marked 0
    (Sent 66 4 (messages.Answer 62 (answers.Granted (whole_grant 1 4 (line 3 0 4 1 1 0 ∷ line 4 0 6 1 1 2 ∷ []))))) ∷
    marked 1 (Got 63) ∷ marked 1 (Sent 67 4 (messages.Answer 63 (answers.Granted (whole_grant 1 3 []))))
    ∷ marked 2 (Got 64) ∷
    marked 2 (Sent 68 4 (messages.Answer 64 (answers.Granted (whole_grant 1 3 [])))) ∷ marked 3 (Got 65) ∷
    marked 3 (Sent 69 4 (messages.Answer 65 (answers.Granted (whole_grant 1 3 [])))) ∷ marked 4 (Got 66)
    ∷ marked 4 (Got 67) ∷
    marked 4 (Got 68) ∷ marked 4 (Got 69) ∷
    marked 4 (Sent 70 0 (messages.Request (tx 0 7) 1 1 (wants.Append 1 (line 3 0 4 1 1 0 ∷ line 4 0 6 1 1 2 ∷ [])
    (own_line 1 1 0 ∷ [])))) ∷
    marked 0 (Got 70) ∷ marked 0 (Sent 71 4 (messages.Answer 70 (answers.Granted (whole_grant 1 4 []))))
    ∷ marked 4 (Got 71) ∷
    marked 4 (Told (replies.Response 0)) ∷ marked 4 (Called commands.Commit) ∷
    marked 4 (Sent 72 0 (messages.Request (tx 0 7) 1 1 wants.Prepare)) ∷
    marked 4 (Sent 73 1 (messages.Request (tx 0 7) 1 1 wants.Prepare)) ∷
    marked 4 (Sent 74 2 (messages.Request (tx 0 7) 1 1 wants.Prepare)) ∷
    marked 4 (Sent 75 3 (messages.Request (tx 0 7) 1 1 wants.Prepare)) ∷ marked 0 (Got 72) ∷
    marked 0 (Wrote (prepare (tx 0 7) 1 (read_lock 1 0 ∷ []) (own_line 1 1 0 ∷ []) [])) ∷
    marked 0 (Sent 76 4 (messages.Answer 72 (answers.Yes 4))) ∷ marked 1 (Got 73) ∷
    marked 1 (Wrote (prepare (tx 0 7) 1 (read_lock 1 0 ∷ []) [] [])) ∷
    marked 1 (Sent 77 4 (messages.Answer 73 (answers.Yes 3))) ∷ marked 2 (Got 74) ∷
    marked 2 (Wrote (prepare (tx 0 7) 1 (read_lock 1 0 ∷ []) [] [])) ∷
    marked 2 (Sent 78 4 (messages.Answer 74 (answers.Yes 3))) ∷ marked 3 (Got 75) ∷
    marked 3 (Wrote (prepare (tx 0 7) 1 (read_lock 1 0 ∷ []) [] [])) ∷
    marked 3 (Sent 79 4 (messages.Answer 75 (answers.Yes 3))) ∷ marked 4 (Got 76) ∷ marked 4 (Got 77) ∷
    marked 4 (Got 78) ∷ marked 4 (Got 79) ∷
    marked 4 (Wrote (commit (stamp 5 0) (tx 0 7) (operation 1 0 (Some 0) ∷ []))) ∷
    marked 4 (Sent 80 0 (messages.Decision (tx 0 7) (outcomes.Committed (stamp 5 0)))) ∷
    marked 4 (Sent 81 1 (messages.Decision (tx 0 7) (outcomes.Committed (stamp 5 0)))) ∷
    marked 4 (Sent 82 2 (messages.Decision (tx 0 7) (outcomes.Committed (stamp 5 0)))) ∷
    marked 4 (Sent 83 3 (messages.Decision (tx 0 7) (outcomes.Committed (stamp 5 0)))) ∷
    marked 4 (Told (replies.Committed (stamp 5 0))) ∷ marked 0 (Got 80) ∷ marked 0 (Wrote (records.Done (tx 0 7) 5)) ∷
    marked 1 (Got 81) ∷ marked 1 (Wrote (records.Done (tx 0 7) 5)) ∷ marked 2 (Got 82) ∷
    marked 2 (Wrote (records.Done (tx 0 7) 5)) ∷ marked 3 (Got 83) ∷ marked 3 (Wrote (records.Done (tx 0 7) 5)) ∷ []
